-- The type that a form means: its tree, with documentation and with the types of names.
-- Where a check of the form fails its tree is not used.
use Rattle.std.specs.Prelude.{ℕ, List, [], ◌∷◌, ◌+◌, Option, Some, None, map, cond, codes, slice_get}
use Rattle.std.specs.Fmt.{decimal}
use Rattle.witx_base.specs.Texts.{same_text}
use Rattle.witx_syntax_tree.specs.declared.tree.BuiltinSyntax.{BuiltinSyntax}
use Rattle.witx_comments.specs.Documentation.{documentation_of}
use Rattle.witx_syntax_tree.specs.Trees.{TypeTree, builtin, ident, string, boolean, handle, list_of, pointer_to, const_pointer_to, tuple_of, expected, enum_of, flags_of, record_of, union_of, variant_of, Member, Maybe, absent, present, Fields, no_fields, one_field, Types, no_types, one_type, UnionFields, no_union_fields, one_union_field, Cases, no_cases, one_case}
use Rattle.witx_ast.specs.declared.types.IntRepr.{IntRepr}
use Rattle.witx_ast.specs.declared.types.RecordKind.{RecordKind}
use Rattle.witx_ast.specs.Tree.{Tree, Field, Arm, fields_of, arms_of}
use Rattle.witx_scope.specs.Names.{Here, sense_tree}
use Rattle.witx_scope.specs.Tags.{builtin_type, repr_meant, tag_repr, tag_names}
use Rattle.witx_ast.specs.declared.types.BuiltinType.TheVariants as kind

-- the decimal digits
abbrev pub number_name : ℕ → List ℕ
number_name i = decimal i

-- a name, or the empty one where there is none
abbrev pub name_or_empty : Option (List ℕ) → List ℕ
name_or_empty None = []
name_or_empty (Some n) = n

abbrev pub nth_name : List (List ℕ) → ℕ → List ℕ
nth_name ns i = name_or_empty (slice_get ns i)

-- the name of the case at a place of a union
abbrev pub union_name : Option (List (List ℕ)) → ℕ → List ℕ
union_name None i = number_name i
union_name (Some names) i = nth_name names i

abbrev pub bool_tree : Tree
bool_tree = Tree.variant_of IntRepr.U32 (arms_of (
    record { called = codes "false"; payload = None; comment = [] }
    ∷ record { called = codes "true"; payload = None; comment = [] }
    ∷ []))

abbrev pub member_arm : Member → Arm
member_arm n = record { called = n.name.name; payload = None; comment = documentation_of n.comments }

abbrev pub flag_field : Member → Field
flag_field n = record { called = n.name.name; tree = bool_tree; comment = documentation_of n.comments }

abbrev pub bare_arm : List ℕ → Option Tree → Arm
bare_arm n t = record { called = n; payload = t; comment = [] }

-- the case of a name
abbrev pub arm_called : List Arm → List ℕ → Arm
arm_called [] n = bare_arm n None
arm_called (a ∷ rest) n = cond (same_text n a.called) a (arm_called rest n)

-- the cases in the order of the tag's names
abbrev pub in_order : Option (List (List ℕ)) → List Arm → List Arm
in_order None cs = cs
in_order (Some names) cs = map (arm_called cs) names

abbrev pub string_tree : Tree
string_tree = Tree.list_of (Tree.builtin kind.Char)

abbrev pub expected_tree : Option Tree → Option Tree → Tree
expected_tree ok err = Tree.variant_of IntRepr.U32 (arms_of (bare_arm (codes "ok") ok ∷ bare_arm (codes "err") err ∷ []))

abbrev pub enum_tree : Option BuiltinSyntax → List Member → Tree
enum_tree repr ns = Tree.variant_of (repr_meant repr) (arms_of (map member_arm ns))

abbrev pub flags_tree : Option BuiltinSyntax → List Member → Tree
flags_tree repr ns = Tree.record_of (RecordKind.Bitflags (repr_meant repr)) (fields_of (map flag_field ns))

abbrev mutual
  pub tree_meant : Here → TypeTree → Tree
  tree_meant h (builtin b) = Tree.builtin (builtin_type b)
  tree_meant h (ident m) = sense_tree (h.sense m.name)
  tree_meant h string = string_tree
  tree_meant h boolean = bool_tree
  tree_meant h handle = Tree.handle
  tree_meant h (list_of t) = Tree.list_of (tree_meant h t)
  tree_meant h (pointer_to t) = Tree.pointer_to (tree_meant h t)
  tree_meant h (const_pointer_to t) = Tree.const_pointer_to (tree_meant h t)
  tree_meant h (tuple_of ps) = Tree.record_of RecordKind.Tuple (fields_of (types_meant h 0 ps))
  tree_meant h (expected ok err) = expected_tree (maybe_tree h ok) (maybe_tree h err)
  tree_meant h (enum_of repr ns) = enum_tree repr ns
  tree_meant h (flags_of repr ns) = flags_tree repr ns
  tree_meant h (record_of rs) = Tree.record_of RecordKind.Other (fields_of (fields_meant h rs))
  tree_meant h (union_of tag ps) = Tree.variant_of (tag_repr (maybe_tree h tag)) (arms_of (union_arms h (tag_names (maybe_tree h tag)) 0 ps))
  tree_meant h (variant_of tag cs) = Tree.variant_of (tag_repr (maybe_tree h tag)) (arms_of (in_order (tag_names (maybe_tree h tag)) (case_arms h cs)))

  pub maybe_tree : Here → Maybe → Option Tree
  maybe_tree h absent = None
  maybe_tree h (present t) = Some (tree_meant h t)

  pub types_meant : Here → ℕ → Types → List Field
  types_meant h i no_types = []
  types_meant h i (one_type t ts) = record { called = number_name i; tree = tree_meant h t; comment = [] } ∷ types_meant h (i + 1) ts

  pub union_arms : Here → Option (List (List ℕ)) → ℕ → UnionFields → List Arm
  union_arms h names i no_union_fields = []
  union_arms h names i (one_union_field docs t fs) =
      record { called = union_name names i; payload = Some (tree_meant h t); comment = documentation_of docs } ∷ union_arms h names (i + 1) fs

  pub fields_meant : Here → Fields → List Field
  fields_meant h no_fields = []
  fields_meant h (one_field docs m t fs) = record { called = m.name; tree = tree_meant h t; comment = documentation_of docs } ∷ fields_meant h fs

  pub case_arms : Here → Cases → List Arm
  case_arms h no_cases = []
  case_arms h (one_case docs m t cs) = record { called = m.name; payload = maybe_tree h t; comment = documentation_of docs } ∷ case_arms h cs
