-- A type that a form means, where the form's checks pass and the type is plain, can stand where it is printed, and can be written.
use Rattle.std.proofs.Common.{◌≡◌, ℕ, ◌+◌, Bool, true, false, cond, ◌&&◌, List, [], ◌∷◌, ◌++◌, map, Option, Some, None, refl, sym, ap, ◌∙◌, subst}
use Rattle.std.specs.Prelude.{option_map, codes, slice_get}
use Rattle.std.specs.Map.{keys_of}
use Rattle.std.specs.Option.{is_some}
use Rattle.std.specs.Ordering.{is_eq, nat_cmp}
use Rattle.std.specs.Cmp.Lexicographic.{slice_cmp}
use Rattle.std.proofs.lemmas.Map.Made.{is_some-lookup}
use Rattle.witx_base.specs.Found.{found}
use Rattle.witx_base.specs.Texts.{same_text}
use Rattle.witx_files.specs.declared.location.Location.{Location}
use Rattle.witx_ast.specs.declared.types.IntRepr.{IntRepr}
use Rattle.witx_ast.specs.declared.types.RecordKind.{RecordKind}
use Rattle.witx_ast.specs.Tree as ast
use Rattle.witx_ast.specs.Tree.{Tree, Arm, Field, arm, fields_of, arms_of, arm_list}
use Rattle.witx_ast.specs.Words.{is_bool_arms}
use Rattle.witx_syntax_tree.specs.declared.tree.BuiltinSyntax.{BuiltinSyntax}
use Rattle.witx_comments.specs.Comments.{Comments}
use Rattle.witx_syntax_tree.specs.Trees.{Name, Member, TypeTree, Maybe, Types, Fields, UnionFields, Cases, absent, present, no_types, one_type, no_fields, one_field, no_union_fields, one_union_field, no_cases, one_case}
use Rattle.witx_scope.specs.Faults.{Fault, Check, first_fault, name_already_exists, anonymous_record}
use Rattle.witx_scope.specs.Names.{Here, NameMarks, Sense, unknown, unfinished, a_module, a_type, sense_tree, new_mark, use_check}
use Rattle.witx_scope.specs.Tags.{repr_check, tag_checks, tag_repr, tag_names, size_check, case_check, repr_meant}
use Rattle.witx_scope.specs.Trees.{tree_meant, maybe_tree, types_meant, union_arms, fields_meant, case_arms, bool_tree, member_arm, flag_field, enum_tree, flags_tree, in_order, arm_called, bare_arm, union_name, expected_tree}
use Rattle.witx_scope.specs.Checks.{type_checks, maybe_checks, each_type_checks, union_field_checks, field_checks, case_checks, member_checks, anonymous, cases_count, union_fields_count}
use Rattle.witx_render.specs.TypeExpressions.{have_no_payload}
use Rattle.witx_read_back.specs.Emptied.{emptied}
use Rattle.witx_read_back.proofs.Stands.{Denotes, field_names, AreFlags, NumbersFrom, StandsRecord, StandsVariant, Stands, FieldsStand, ArmsStand}
use Rattle.witx_read_back.specs.Distinct.{any_same, AllNew}
use Rattle.witx_read_back.specs.Plain.{HasArm, PlainVariant, PlainType, PlainFields, PlainArms}
use Rattle.witx_read_back.proofs.Writable.{HasField, HasName, IsWritable, FieldsWritable, ArmsWritable}
use Rattle.witx_read_back.proofs.Fine.{Pass}

-- ---- what passed checks say

some_fails : (f : Fault) (cs : List Check) → Pass (Some f ∷ cs) → ⊥
some_fails f cs e = cc

pub head_passes : (c : Check) (cs : List Check) → Pass (c ∷ cs) → (c ≡ None) × Pass cs
head_passes None cs e = (refl, e)
head_passes (Some f) cs e = absurd (some_fails f cs e)

pub parts_pass : (ks bs : List Check) → Pass (ks ++ bs) → Pass ks × Pass bs
parts_pass [] bs e = (refl, e)
parts_pass (None ∷ ks) bs e = parts_pass ks bs e
parts_pass (Some f ∷ ks) bs e = absurd (some_fails f (ks ++ bs) e)

some_none : {A : Type 0} (x : A) → Some x ≡ None → ⊥
some_none x e = cc

pub mapped_none : {A B : Type 0} (f : A → B) (o : Option A) → option_map f o ≡ None → o ≡ None
mapped_none f None e = refl
mapped_none f (Some x) e = absurd (some_none (f x) e)

pub mark_is_new : (h : Here) (marks : NameMarks) (n : List ℕ) (at : ℕ) → new_mark h marks n at ≡ None → any_same n (keys_of marks) ≡ false
mark_is_new h marks n at e =
    sym (is_some-lookup (λ key. is_eq (slice_cmp nat_cmp n key)) marks)
    ∙ ap (λ (o : Option ℕ). is_some o) (mapped_none (λ earlier. name_already_exists n (h.place at) (h.place earlier)) (found marks n) e)

is_named_here : (named : Bool) (near : Location) → anonymous named near ≡ None → named ≡ true
is_named_here true near e = refl
is_named_here false near e = absurd (some_none (anonymous_record near) e)

pub use_passes : (n : List ℕ) (at : Location) (x : Sense) → use_check n at x ≡ None → (u : Tree) × (x ≡ a_type u)
use_passes n at unknown e = absurd (some_none _ e)
use_passes n at unfinished e = absurd (some_none _ e)
use_passes n at a_module e = absurd (some_none _ e)
use_passes n at (a_type u) e = (u, refl)

-- ---- what is given of types

-- the form's inside knows of no other types than those that the names denote
abbrev pub Knows : Denotes → Here → Type 0
Knows D h = (n : List ℕ) (u : Tree) → h.sense n ≡ a_type u → (t : Tree) × (d : List ℕ) × (u ≡ Tree.named n t d) × D n (emptied (Tree.named n t d))

abbrev pub Given : Denotes → Bool → Tree → Type 0
Given D named t = Stands D named t × IsWritable t

abbrev GivenFields : Denotes → ast.Fields → Type 0
GivenFields D ms = FieldsStand D ms × FieldsWritable ms

abbrev GivenArms : Denotes → ast.Arms → Type 0
GivenArms D cs = ArmsStand D cs × ArmsWritable cs

-- a payload is given if it is plain
abbrev Payload : Denotes → Option Tree → Type 0
Payload D None = Unit {0}
Payload D (Some t) = PlainType false t → Given D false t

abbrev Payloads : Denotes → List Arm → Type 0
Payloads D [] = Unit {0}
Payloads D (a ∷ l) = Payload D a.payload × Payloads D l

arm_given : (D : Denotes) (n : List ℕ) (p : Option Tree) (d : List ℕ) (cs : ast.Arms) → Payload D p → (PlainArms cs → GivenArms D cs) → PlainArms (arm n p d cs) → GivenArms D (arm n p d cs)
arm_given D n None d cs h more w = more w
arm_given D n (Some t) d cs h more w =
    let a = h w.0 in
    let b = more w.1 in
    ((a.0, b.0), (a.1, b.1))

arms_given : (D : Denotes) (l : List Arm) → Payloads D l → PlainArms (arms_of l) → GivenArms D (arms_of l)
arms_given D [] h w = (tt, tt)
arms_given D (a ∷ l) h w = arm_given D a.called a.payload a.comment (arms_of l) h.0 (arms_given D l h.1) w

variant_stands : (D : Denotes) (is_bool bare named : Bool) (r : IntRepr) (cs : ast.Arms) → PlainVariant is_bool bare named r cs → ArmsStand D cs → StandsVariant is_bool bare named r cs (ArmsStand D cs)
variant_stands D true bare named r cs w s = w
variant_stands D false true named r cs w s = (w.0, w.2)
variant_stands D false false named r cs w s = s

has_name : (is_bool bare named : Bool) (r : IntRepr) (cs : ast.Arms) → PlainVariant is_bool bare named r cs → HasName is_bool bare cs
has_name true bare named r cs w = tt
has_name false true named r ast.no_arms w = w.1
has_name false true named r (ast.bare n d cs) w = tt
has_name false true named r (ast.carries n t d cs) w = tt
has_name false false named r cs w = tt

variant_given : (D : Denotes) (named : Bool) (r : IntRepr) (l : List Arm) → Payloads D l → PlainType named (Tree.variant_of r (arms_of l)) → Given D named (Tree.variant_of r (arms_of l))
variant_given D named r l h w =
    let cs = arms_of l in
    let g = arms_given D l h w.1 in
    (variant_stands D (is_bool_arms (arm_list cs)) (have_no_payload cs) named r cs w.0 g.0, (has_name (is_bool_arms (arm_list cs)) (have_no_payload cs) named r cs w.0, g.1))

-- ---- arms that are called by names

called_given : (D : Denotes) (l : List Arm) (n : List ℕ) → Payloads D l → Payload D (arm_called l n).payload
called_given D [] n h = tt
called_given D (a ∷ l) n h = chosen (same_text n a.called) h.0 (called_given D l n h.1)
  where
    chosen : (b : Bool) → Payload D a.payload → Payload D (arm_called l n).payload → Payload D (cond b a (arm_called l n)).payload
    chosen true x y = x
    chosen false x y = y

called_all : (D : Denotes) (l : List Arm) (ns : List (List ℕ)) → Payloads D l → Payloads D (map (arm_called l) ns)
called_all D l [] h = tt
called_all D l (n ∷ ns) h = (called_given D l n h, called_all D l ns h)

ordered_given : (D : Denotes) (names : Option (List (List ℕ))) (l : List Arm) → Payloads D l → Payloads D (in_order names l)
ordered_given D None l h = h
ordered_given D (Some ns) l h = called_all D l ns h

members_given : (D : Denotes) (ns : List Member) → Payloads D (map member_arm ns)
members_given D [] = tt
members_given D (n ∷ ns) = (tt, members_given D ns)

-- ---- flags

flags_new : (h : Here) (marks : NameMarks) (ns : List Member) → Pass (member_checks h marks ns) → AllNew (keys_of marks) (field_names (fields_of (map flag_field ns)))
flags_new h marks [] e = tt
flags_new h marks (n ∷ ns) e =
    let p = head_passes (new_mark h marks n.name.name n.name.start) (member_checks h ((n.name.name, n.name.start) ∷ marks) ns) e in
    (mark_is_new h marks n.name.name n.name.start p.0, flags_new h ((n.name.name, n.name.start) ∷ marks) ns p.1)

are_flags : (ns : List Member) → AreFlags (fields_of (map flag_field ns))
are_flags [] = tt
are_flags (n ∷ ns) = (refl, are_flags ns)

flags_writable : (ns : List Member) → FieldsWritable (fields_of (map flag_field ns))
unfolding same_text
flags_writable [] = tt
flags_writable (n ∷ ns) = ((tt, tt), flags_writable ns)

-- ---- records have a field: what the grammar gives

abbrev pub HasOne : Fields → Type 0
HasOne no_fields = ⊥
HasOne (one_field k m t fs) = Unit {0}

abbrev mutual
  pub Filled : TypeTree → Type 0
  Filled (TypeTree.ident m) = Unit {0}
  Filled (TypeTree.builtin b) = Unit {0}
  Filled TypeTree.string = Unit {0}
  Filled TypeTree.boolean = Unit {0}
  Filled TypeTree.handle = Unit {0}
  Filled (TypeTree.list_of t) = Filled t
  Filled (TypeTree.pointer_to t) = Filled t
  Filled (TypeTree.const_pointer_to t) = Filled t
  Filled (TypeTree.tuple_of ts) = FilledTypes ts
  Filled (TypeTree.enum_of r ns) = Unit {0}
  Filled (TypeTree.flags_of r ns) = Unit {0}
  Filled (TypeTree.record_of fs) = HasOne fs × FilledFields fs
  Filled (TypeTree.union_of t fs) = FilledMaybe t × FilledUnion fs
  Filled (TypeTree.variant_of t cs) = FilledMaybe t × FilledCases cs
  Filled (TypeTree.expected t u) = FilledMaybe t × FilledMaybe u

  pub FilledMaybe : Maybe → Type 0
  FilledMaybe absent = Unit {0}
  FilledMaybe (present t) = Filled t

  pub FilledTypes : Types → Type 0
  FilledTypes no_types = Unit {0}
  FilledTypes (one_type t ts) = Filled t × FilledTypes ts

  pub FilledFields : Fields → Type 0
  FilledFields no_fields = Unit {0}
  FilledFields (one_field k m t fs) = Filled t × FilledFields fs

  pub FilledUnion : UnionFields → Type 0
  FilledUnion no_union_fields = Unit {0}
  FilledUnion (one_union_field k t fs) = Filled t × FilledUnion fs

  pub FilledCases : Cases → Type 0
  FilledCases no_cases = Unit {0}
  FilledCases (one_case k m t cs) = FilledMaybe t × FilledCases cs

has_field : (h : Here) (fs : Fields) → HasOne fs → HasField RecordKind.Other (fields_of (fields_meant h fs))
has_field h no_fields e = e
has_field h (one_field k m t fs) e = tt

bool_given : (D : Denotes) (named : Bool) → Given D named bool_tree
unfolding same_text
bool_given D named = (refl, (tt, tt))

mutual
  pub type_given : (D : Denotes) (h : Here) → Knows D h → (named : Bool) (near : Location) (s : TypeTree) → Pass (type_checks h named near s) → Filled s → PlainType named (tree_meant h s) → Given D named (tree_meant h s)
  type_given D h g named near (TypeTree.builtin b) e f w = (tt, tt)
  type_given D h g named near (TypeTree.ident m) e f w =
      let p = use_passes m.name (h.place m.start) (h.sense m.name) (head_passes (use_check m.name (h.place m.start) (h.sense m.name)) [] e).0 in
      let q = g m.name p.0 p.1 in
      subst (λ (x : Sense). Given D named (sense_tree x)) (sym p.1) (subst (λ (u : Tree). Given D named u) (sym q.2) (q.3, tt))
  type_given D h g named near TypeTree.string e f w = (tt, tt)
  type_given D h g named near TypeTree.boolean e f w = bool_given D named
  type_given D h g named near TypeTree.handle e f w = (is_named_here named near (head_passes (anonymous named near) [] e).0, tt)
  type_given D h g named near (TypeTree.list_of t) e f w = type_given D h g false near t e f w
  type_given D h g named near (TypeTree.pointer_to t) e f w = type_given D h g false near t e f w
  type_given D h g named near (TypeTree.const_pointer_to t) e f w = type_given D h g false near t e f w
  type_given D h g named near (TypeTree.tuple_of ts) e f w =
      let p = types_given D h g near 0 ts e f w in
      ((p.0, p.1.0), (tt, p.1.1))
  type_given D h g named near (TypeTree.expected ok err) e f w =
      let p = parts_pass (maybe_checks h near ok) (maybe_checks h near err) e in
      variant_given D named IntRepr.U32 (bare_arm (codes "ok") (maybe_tree h ok) ∷ bare_arm (codes "err") (maybe_tree h err) ∷ [])
      (maybe_given D h g near ok p.0 f.0, (maybe_given D h g near err p.1 f.1, tt)) w
  type_given D h g named near (TypeTree.enum_of repr ns) e f w = variant_given D named (repr_meant repr) (map member_arm ns) (members_given D ns) w
  type_given D h g named near (TypeTree.flags_of repr ns) e f w =
      let p = head_passes (anonymous named near) (repr_check repr near ∷ member_checks h [] ns) e in
      let q = head_passes (repr_check repr near) (member_checks h [] ns) p.1 in
      ((is_named_here named near p.0, flags_new h [] ns q.1, are_flags ns), (tt, flags_writable ns))
  type_given D h g named near (TypeTree.record_of rs) e f w =
      let p = head_passes (anonymous named near) (field_checks h [] rs) e in
      let q = fields_given D h g [] rs p.1 f.1 w in
      ((is_named_here named near p.0, q.0, q.1.0), (has_field h rs f.0, q.1.1))
  type_given D h g named near (TypeTree.union_of tag fs) e f w =
      let p = head_passes (anonymous named near) (maybe_checks h near tag ++ (tag_checks (maybe_tree h tag) near ++ (size_check (tag_names (maybe_tree h tag)) (union_fields_count fs) near ∷ union_field_checks h near fs))) e in
      let q = parts_pass (maybe_checks h near tag) (tag_checks (maybe_tree h tag) near ++ (size_check (tag_names (maybe_tree h tag)) (union_fields_count fs) near ∷ union_field_checks h near fs)) p.1 in
      let r = parts_pass (tag_checks (maybe_tree h tag) near) (size_check (tag_names (maybe_tree h tag)) (union_fields_count fs) near ∷ union_field_checks h near fs) q.1 in
      let s = head_passes (size_check (tag_names (maybe_tree h tag)) (union_fields_count fs) near) (union_field_checks h near fs) r.1 in
      variant_given D named (tag_repr (maybe_tree h tag)) (union_arms h (tag_names (maybe_tree h tag)) 0 fs) (union_given D h g near (tag_names (maybe_tree h tag)) 0 fs s.1 f.1) w
  type_given D h g named near (TypeTree.variant_of tag cs) e f w =
      let q = parts_pass (maybe_checks h near tag) (tag_checks (maybe_tree h tag) near ++ (size_check (tag_names (maybe_tree h tag)) (cases_count cs) near ∷ case_checks h (tag_names (maybe_tree h tag)) [] cs)) e in
      let r = parts_pass (tag_checks (maybe_tree h tag) near) (size_check (tag_names (maybe_tree h tag)) (cases_count cs) near ∷ case_checks h (tag_names (maybe_tree h tag)) [] cs) q.1 in
      let s = head_passes (size_check (tag_names (maybe_tree h tag)) (cases_count cs) near) (case_checks h (tag_names (maybe_tree h tag)) [] cs) r.1 in
      variant_given D named (tag_repr (maybe_tree h tag)) (in_order (tag_names (maybe_tree h tag)) (case_arms h cs))
      (ordered_given D (tag_names (maybe_tree h tag)) (case_arms h cs) (cases_given D h g (tag_names (maybe_tree h tag)) [] cs s.1 f.1)) w

  maybe_given : (D : Denotes) (h : Here) → Knows D h → (near : Location) (s : Maybe) → Pass (maybe_checks h near s) → FilledMaybe s → Payload D (maybe_tree h s)
  maybe_given D h g near absent e f = tt
  maybe_given D h g near (present t) e f = type_given D h g false near t e f

  types_given : (D : Denotes) (h : Here) → Knows D h → (near : Location) (i : ℕ) (ts : Types) → Pass (each_type_checks h near ts) → FilledTypes ts → PlainFields (fields_of (types_meant h i ts))
      → NumbersFrom i (fields_of (types_meant h i ts)) × (FieldsStand D (fields_of (types_meant h i ts)) × FieldsWritable (fields_of (types_meant h i ts)))
  types_given D h g near i no_types e f w = (tt, (tt, tt))
  types_given D h g near i (one_type t ts) e f w =
      let p = parts_pass (type_checks h false near t) (each_type_checks h near ts) e in
      let a = type_given D h g false near t p.0 f.0 w.0 in
      let b = types_given D h g near (i + 1) ts p.1 f.1 w.1 in
      ((refl, b.0), ((a.0, b.1.0), (a.1, b.1.1)))

  union_given : (D : Denotes) (h : Here) → Knows D h → (near : Location) (names : Option (List (List ℕ))) (i : ℕ) (fs : UnionFields) → Pass (union_field_checks h near fs) → FilledUnion fs
      → Payloads D (union_arms h names i fs)
  union_given D h g near names i no_union_fields e f = tt
  union_given D h g near names i (one_union_field k t fs) e f =
      let p = parts_pass (type_checks h false near t) (union_field_checks h near fs) e in
      (type_given D h g false near t p.0 f.0, union_given D h g near names (i + 1) fs p.1 f.1)

  fields_given : (D : Denotes) (h : Here) → Knows D h → (marks : NameMarks) (fs : Fields) → Pass (field_checks h marks fs) → FilledFields fs → PlainFields (fields_of (fields_meant h fs))
      → AllNew (keys_of marks) (field_names (fields_of (fields_meant h fs))) × (FieldsStand D (fields_of (fields_meant h fs)) × FieldsWritable (fields_of (fields_meant h fs)))
  fields_given D h g marks no_fields e f w = (tt, (tt, tt))
  fields_given D h g marks (one_field k m t fs) e f w =
      let p = head_passes (new_mark h marks m.name m.start) (type_checks h false (h.place m.start) t ++ field_checks h ((m.name, m.start) ∷ marks) fs) e in
      let q = parts_pass (type_checks h false (h.place m.start) t) (field_checks h ((m.name, m.start) ∷ marks) fs) p.1 in
      let a = type_given D h g false (h.place m.start) t q.0 f.0 w.0 in
      let b = fields_given D h g ((m.name, m.start) ∷ marks) fs q.1 f.1 w.1 in
      ((mark_is_new h marks m.name m.start p.0, b.0), ((a.0, b.1.0), (a.1, b.1.1)))

  cases_given : (D : Denotes) (h : Here) → Knows D h → (names : Option (List (List ℕ))) (before : List (List ℕ)) (cs : Cases) → Pass (case_checks h names before cs) → FilledCases cs → Payloads D (case_arms h cs)
  cases_given D h g names before no_cases e f = tt
  cases_given D h g names before (one_case k m t cs) e f =
      let p = head_passes (case_check names before m.name (h.place m.start)) (maybe_checks h (h.place m.start) t ++ case_checks h names (before ++ m.name ∷ []) cs) e in
      let q = parts_pass (maybe_checks h (h.place m.start) t) (case_checks h names (before ++ m.name ∷ []) cs) p.1 in
      (maybe_given D h g (h.place m.start) t q.0 f.0, cases_given D h g names (before ++ m.name ∷ []) cs q.1 f.1)
