-- The checks of a type, as one list in the order in which they count.
-- A fault is told at the name that it is about, or at the innermost identifier around it.
use Rattle.std.specs.Prelude.{ℕ, List, [], ◌∷◌, ◌++◌, ◌+◌, Option, Some, None, Bool, true, false}
use Rattle.witx_files.specs.declared.location.Location.{Location}
use Rattle.witx_syntax_tree.specs.Trees.{TypeTree, builtin, ident, string, boolean, handle, list_of, pointer_to, const_pointer_to, tuple_of, expected, enum_of, flags_of, record_of, union_of, variant_of, Member, Maybe, absent, present, Fields, no_fields, one_field, Types, no_types, one_type, UnionFields, no_union_fields, one_union_field, Cases, no_cases, one_case}
use Rattle.witx_scope.specs.Faults.{anonymous_record, Check}
use Rattle.witx_scope.specs.Names.{Here, NameMarks, new_mark, use_check}
use Rattle.witx_scope.specs.Tags.{repr_check, tag_checks, tag_names, size_check, case_check}
use Rattle.witx_scope.specs.Trees.{maybe_tree}

abbrev pub union_fields_count : UnionFields → ℕ
union_fields_count no_union_fields = 0
union_fields_count (one_union_field docs t fs) = union_fields_count fs + 1

abbrev pub cases_count : Cases → ℕ
cases_count no_cases = 0
cases_count (one_case docs m t cs) = cases_count cs + 1

abbrev pub anonymous : Bool → Location → Check
anonymous true near = None
anonymous false near = Some (anonymous_record near)

abbrev pub member_checks : Here → NameMarks → List Member → List Check
member_checks h before [] = []
member_checks h before (n ∷ ns) = new_mark h before n.name.name n.name.start ∷ member_checks h ((n.name.name, n.name.start) ∷ before) ns

abbrev mutual
  -- the checks of a type, in order; `named` where it is a typename's own, `near` the innermost identifier around it
  pub type_checks : Here → Bool → Location → TypeTree → List Check
  type_checks h named near (builtin b) = []
  type_checks h named near (ident m) = use_check m.name (h.place m.start) (h.sense m.name) ∷ []
  type_checks h named near string = []
  type_checks h named near boolean = []
  type_checks h named near handle = anonymous named near ∷ []
  type_checks h named near (list_of t) = type_checks h false near t
  type_checks h named near (pointer_to t) = type_checks h false near t
  type_checks h named near (const_pointer_to t) = type_checks h false near t
  type_checks h named near (tuple_of ts) = each_type_checks h near ts
  type_checks h named near (expected ok err) = maybe_checks h near ok ++ maybe_checks h near err
  type_checks h named near (enum_of repr ns) = anonymous named near ∷ repr_check repr near ∷ member_checks h [] ns
  type_checks h named near (flags_of repr ns) = anonymous named near ∷ repr_check repr near ∷ member_checks h [] ns
  type_checks h named near (record_of rs) = anonymous named near ∷ field_checks h [] rs
  type_checks h named near (union_of tag ps) =
      anonymous named near
      ∷ (maybe_checks h near tag
      ++ (tag_checks (maybe_tree h tag) near
      ++ (size_check (tag_names (maybe_tree h tag)) (union_fields_count ps) near
      ∷ union_field_checks h near ps)))
  type_checks h named near (variant_of tag cs) =
      maybe_checks h near tag
      ++ (tag_checks (maybe_tree h tag) near
      ++ (size_check (tag_names (maybe_tree h tag)) (cases_count cs) near
      ∷ case_checks h (tag_names (maybe_tree h tag)) [] cs))

  pub maybe_checks : Here → Location → Maybe → List Check
  maybe_checks h near absent = []
  maybe_checks h near (present t) = type_checks h false near t

  pub each_type_checks : Here → Location → Types → List Check
  each_type_checks h near no_types = []
  each_type_checks h near (one_type t ts) = type_checks h false near t ++ each_type_checks h near ts

  pub union_field_checks : Here → Location → UnionFields → List Check
  union_field_checks h near no_union_fields = []
  union_field_checks h near (one_union_field docs t fs) = type_checks h false near t ++ union_field_checks h near fs

  pub field_checks : Here → NameMarks → Fields → List Check
  field_checks h before no_fields = []
  field_checks h before (one_field docs m t fs) =
      new_mark h before m.name m.start
      ∷ (type_checks h false (h.place m.start) t ++ field_checks h ((m.name, m.start) ∷ before) fs)

  pub case_checks : Here → Option (List (List ℕ)) → List (List ℕ) → Cases → List Check
  case_checks h names before no_cases = []
  case_checks h names before (one_case docs m t cs) =
      case_check names before m.name (h.place m.start)
      ∷ (maybe_checks h (h.place m.start) t ++ case_checks h names (before ++ m.name ∷ []) cs)
