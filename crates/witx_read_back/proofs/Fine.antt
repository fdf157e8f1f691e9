-- The checks over the syntax tree of a printed type pass, and it means the printed type but for documentation.
use Rattle.std.proofs.Common.{◌≡◌, ℕ, ◌+◌, Bool, true, false, not, ◌&&◌, cond, List, [], ◌∷◌, ◌++◌, map, Option, Some, None, refl, sym, ap, ◌∙◌, subst, arith}
use Rattle.std.specs.Prelude.{option_map, codes}
use Rattle.std.specs.Map.{keys_of, lookup}
use Rattle.std.specs.Option.{is_some}
use Rattle.std.specs.Ordering.{is_eq, nat_cmp}
use Rattle.std.specs.Cmp.Lexicographic.{slice_cmp, same_text as one_text}
use Rattle.std.proofs.lemmas.Bool.{and_parts}
use Rattle.std.proofs.lemmas.Map.Made.{is_some-lookup}
use Rattle.witx_base.specs.Found.{found}
use Rattle.witx_base.specs.Texts.{same_text}
use Rattle.witx_files.specs.declared.location.Location.{Location}
use Rattle.witx_ast.specs.declared.types.BuiltinType.{BuiltinType}
use Rattle.witx_ast.specs.declared.types.IntRepr.{IntRepr}
use Rattle.witx_ast.specs.declared.types.RecordKind.{RecordKind}
use Rattle.witx_ast.specs.Tree as ast
use Rattle.witx_ast.specs.Tree.{Tree, Arm, Field, fields_of, arms_of, arm_list}
use Rattle.witx_ast.specs.Words.{is_bool_arms}
use Rattle.witx_syntax_tree.specs.declared.tree.BuiltinSyntax.{BuiltinSyntax}
use Rattle.witx_comments.specs.Comments.{Comments}
use Rattle.witx_syntax_tree.specs.Trees.{Name, Member, TypeTree, Maybe, Types, Fields, Cases, absent, present, no_types, one_type, no_fields, one_field, no_cases, one_case}
use Rattle.witx_scope.specs.Faults.{Fault, Check, first_fault, name_already_exists, invalid_repr, wrong_kind_name}
use Rattle.witx_scope.specs.Names.{Here, NameMarks, Sense, a_type, sense_tree, new_mark, use_check}
use Rattle.witx_scope.specs.Tags.{builtin_type, repr_of, repr_check, repr_meant, or_u32, tag_check, tag_checks, tag_repr, tag_names, size_check, case_check, arm_names}
use Rattle.witx_scope.specs.Trees.{tree_meant, maybe_tree, types_meant, fields_meant, case_arms, bool_tree, member_arm, flag_field, enum_tree, flags_tree, in_order, number_name}
use Rattle.witx_scope.specs.Checks.{type_checks, maybe_checks, each_type_checks, field_checks, case_checks, member_checks, anonymous, cases_count}
use Rattle.witx_render.specs.TypeExpressions.{have_no_payload}
use Rattle.witx_read_back.specs.Emptied.{emptied, emptied_fields, emptied_arms}
use Rattle.witx_read_back.proofs.Stands.{Denotes, field_names, AreFlags, NumbersFrom, StandsRecord, StandsVariant, Stands, FieldsStand, ArmsStand}
use Rattle.witx_read_back.specs.Distinct.{any_same, AllNew}
use Rattle.witx_read_back.specs.Says.{IsRepr, Says, SaysTypes, SaysFields, SaysCases, SaysFlags, SaysNames, SaysRecord, SaysVariant}

-- ---- lists of checks

abbrev pub Pass : List Check → Type 0
Pass cs = first_fault cs ≡ None

pub passes : (c : Check) (cs : List Check) → c ≡ None → Pass cs → Pass (c ∷ cs)
passes c cs e h = ap (λ (d : Check). first_fault (d ∷ cs)) e ∙ h

some_fails : (f : Fault) (cs : List Check) → Pass (Some f ∷ cs) → ⊥
some_fails f cs e = cc

pub both_pass : (ks bs : List Check) → Pass ks → Pass bs → Pass (ks ++ bs)
both_pass [] bs p q = q
both_pass (None ∷ ks) bs p q = both_pass ks bs p q
both_pass (Some f ∷ ks) bs p q = absurd (some_fails f ks p)

no_some : true ≡ false → ⊥
no_some e = cc

is_none : {A : Type 0} (o : Option A) → is_some o ≡ false → o ≡ None
is_none None e = refl
is_none (Some x) e = absurd (no_some e)

pub new_mark_passes : (h : Here) (marks : NameMarks) (n : List ℕ) (at : ℕ) → any_same n (keys_of marks) ≡ false → new_mark h marks n at ≡ None
new_mark_passes h marks n at e = ap (λ (o : Option ℕ). option_map (λ earlier. name_already_exists n (h.place at) (h.place earlier)) o)
    (is_none (found marks n) (is_some-lookup (λ key. is_eq (slice_cmp nat_cmp n key)) marks ∙ e))

-- ---- names of an enum and of flags

member_step : (h : Here) (marks : NameMarks) (n : List ℕ) (ns : List Member) (m : Member) (ks : List Member) → ns ≡ m ∷ ks → m.name.name ≡ n → any_same n (keys_of marks) ≡ false
    → Pass (member_checks h ((m.name.name, m.name.start) ∷ marks) ks) → Pass (member_checks h marks ns)
member_step h marks n ns m ks e f w p =
    subst (λ (l : List Member). Pass (member_checks h marks l)) (sym e)
    (passes (new_mark h marks m.name.name m.name.start) (member_checks h ((m.name.name, m.name.start) ∷ marks) ks)
    (new_mark_passes h marks m.name.name m.name.start (ap (λ (k : List ℕ). any_same k (keys_of marks)) f ∙ w)) p)

seen_as : (k n : List ℕ) (seen ns : List (List ℕ)) → k ≡ n → AllNew (n ∷ seen) ns → AllNew (k ∷ seen) ns
seen_as k n seen ns e w = subst (λ (m : List ℕ). AllNew (m ∷ seen) ns) (sym e) w

names_pass : (h : Here) (marks : NameMarks) (cs : ast.Arms) (ns : List Member) → SaysNames cs ns → AllNew (keys_of marks) (arm_names cs) → Pass (member_checks h marks ns)
names_pass h marks ast.no_arms ns q w = subst (λ (l : List Member). Pass (member_checks h marks l)) (sym q) refl
names_pass h marks (ast.bare n d cs) ns q w = member_step h marks n ns q.0 q.1 q.2 q.3 w.0
    (names_pass h ((q.0.name.name, q.0.name.start) ∷ marks) cs q.1 q.4 (seen_as q.0.name.name n (keys_of marks) (arm_names cs) q.3 w.1))
names_pass h marks (ast.carries n t d cs) ns q w = member_step h marks n ns q.0 q.1 q.2 q.3 w.0
    (names_pass h ((q.0.name.name, q.0.name.start) ∷ marks) cs q.1 q.4 (seen_as q.0.name.name n (keys_of marks) (arm_names cs) q.3 w.1))

flags_pass : (h : Here) (marks : NameMarks) (ms : ast.Fields) (ns : List Member) → SaysFlags ms ns → AllNew (keys_of marks) (field_names ms) → Pass (member_checks h marks ns)
flags_pass h marks ast.no_fields ns q w = subst (λ (l : List Member). Pass (member_checks h marks l)) (sym q) refl
flags_pass h marks (ast.field n t d ms) ns q w = member_step h marks n ns q.0 q.1 q.2 q.3 w.0
    (flags_pass h ((q.0.name.name, q.0.name.start) ∷ marks) ms q.1 q.4 (seen_as q.0.name.name n (keys_of marks) (field_names ms) q.3 w.1))

same_field : (n k : List ℕ) (t u : Tree) (ms ks : ast.Fields) → n ≡ k → t ≡ u → ms ≡ ks → ast.field n t [] ms ≡ ast.field k u [] ks
same_field n k t u ms ks e f g = cc

same_bare : (n k : List ℕ) (cs ds : ast.Arms) → n ≡ k → cs ≡ ds → ast.bare n [] cs ≡ ast.bare k [] ds
same_bare n k cs ds e f = cc

same_carries : (n k : List ℕ) (t u : Tree) (cs ds : ast.Arms) → n ≡ k → t ≡ u → cs ≡ ds → ast.carries n t [] cs ≡ ast.carries k u [] ds
same_carries n k t u cs ds e f g = cc

flags_meant : (ms : ast.Fields) (ns : List Member) → SaysFlags ms ns → AreFlags ms → emptied_fields (fields_of (map flag_field ns)) ≡ emptied_fields ms
flags_meant ast.no_fields ns q w = ap (λ (l : List Member). emptied_fields (fields_of (map flag_field l))) q
flags_meant (ast.field n t d ms) ns q w =
    ap (λ (l : List Member). emptied_fields (fields_of (map flag_field l))) q.2
    ∙ same_field q.0.name.name n bool_tree (emptied t) (emptied_fields (fields_of (map flag_field q.1))) (emptied_fields ms) q.3 (sym w.0) (flags_meant ms q.1 q.4 w.1)

no_true : false ≡ true → ⊥
no_true e = cc

names_meant : (cs : ast.Arms) (ns : List Member) → SaysNames cs ns → have_no_payload cs ≡ true → emptied_arms (arms_of (map member_arm ns)) ≡ emptied_arms cs
names_meant ast.no_arms ns q w = ap (λ (l : List Member). emptied_arms (arms_of (map member_arm l))) q
names_meant (ast.bare n d cs) ns q w =
    ap (λ (l : List Member). emptied_arms (arms_of (map member_arm l))) q.2
    ∙ same_bare q.0.name.name n (emptied_arms (arms_of (map member_arm q.1))) (emptied_arms cs) q.3 (names_meant cs q.1 q.4 w)
names_meant (ast.carries n t d cs) ns q w = absurd (no_true w)

-- ---- variants that are bool

text_is : (n m : List ℕ) → same_text n m ≡ true → n ≡ m
unfolding same_text
text_is n m e = one_text n m (sym e)

abbrev the_bools : ast.Arms
the_bools = ast.bare (codes "false") [] (ast.bare (codes "true") [] ast.no_arms)

bools : (n m : List ℕ) (b : Bool) → (same_text n (codes "false") && same_text m (codes "true") && b) ≡ true → ast.bare n [] (ast.bare m [] ast.no_arms) ≡ the_bools
bools n m b e =
    let p = and_parts (same_text n (codes "false") && same_text m (codes "true")) b e in
    let q = and_parts (same_text n (codes "false")) (same_text m (codes "true")) p.0 in
    same_bare n (codes "false") (ast.bare m [] ast.no_arms) (ast.bare (codes "true") [] ast.no_arms) (text_is n (codes "false") q.0)
    (same_bare m (codes "true") ast.no_arms ast.no_arms (text_is m (codes "true") q.1) refl)

never : (a : Bool) → (a && false) ≡ true → ⊥
never true e = no_true e
never false e = no_true e

bool_meant : (cs : ast.Arms) → is_bool_arms (arm_list cs) ≡ true → emptied_arms cs ≡ the_bools
bool_meant ast.no_arms e = absurd (no_true e)
bool_meant (ast.bare n d ast.no_arms) e = absurd (no_true e)
bool_meant (ast.carries n t d ast.no_arms) e = absurd (no_true e)
bool_meant (ast.bare n d (ast.bare m f ast.no_arms)) e = bools n m true e
bool_meant (ast.bare n d (ast.carries m t f ast.no_arms)) e = absurd (never (same_text n (codes "false") && same_text m (codes "true")) e)
bool_meant (ast.carries n t d (ast.bare m f ast.no_arms)) e = absurd (never (same_text n (codes "false") && same_text m (codes "true")) e)
bool_meant (ast.carries n t d (ast.carries m u f ast.no_arms)) e = absurd (never (same_text n (codes "false") && same_text m (codes "true")) e)
bool_meant (ast.bare n d (ast.bare m f (ast.bare k g cs))) e = absurd (no_true e)
bool_meant (ast.bare n d (ast.bare m f (ast.carries k v g cs))) e = absurd (no_true e)
bool_meant (ast.bare n d (ast.carries m t f (ast.bare k g cs))) e = absurd (no_true e)
bool_meant (ast.bare n d (ast.carries m t f (ast.carries k v g cs))) e = absurd (no_true e)
bool_meant (ast.carries n t d (ast.bare m f (ast.bare k g cs))) e = absurd (no_true e)
bool_meant (ast.carries n t d (ast.bare m f (ast.carries k v g cs))) e = absurd (no_true e)
bool_meant (ast.carries n t d (ast.carries m u f (ast.bare k g cs))) e = absurd (no_true e)
bool_meant (ast.carries n t d (ast.carries m u f (ast.carries k v g cs))) e = absurd (no_true e)

-- ---- types

-- the form means the type but for documentation, and its checks pass
abbrev pub Fine : Here → Bool → Tree → TypeTree → Type 0
Fine h named t s = (emptied (tree_meant h s) ≡ emptied t) × ((near : Location) → Pass (type_checks h named near s))

abbrev pub TypesFine : Here → ℕ → ast.Fields → Types → Type 0
TypesFine h i ms us = (emptied_fields (fields_of (types_meant h i us)) ≡ emptied_fields ms) × ((near : Location) → Pass (each_type_checks h near us))

abbrev pub FieldsFine : Here → ast.Fields → Fields → Type 0
FieldsFine h ms fs = (emptied_fields (fields_of (fields_meant h fs)) ≡ emptied_fields ms) × ((marks : NameMarks) → AllNew (keys_of marks) (field_names ms) → Pass (field_checks h marks fs))

abbrev pub CasesFine : Here → ast.Arms → Cases → Type 0
CasesFine h cs ds = (emptied_arms (arms_of (case_arms h ds)) ≡ emptied_arms cs) × ((before : List (List ℕ)) → Pass (case_checks h None before ds))

repr_is : (r : IntRepr) (b : BuiltinSyntax) → IsRepr r b → repr_meant (Some b) ≡ r
repr_is r b e = ap (λ (o : Option IntRepr). or_u32 o) e

repr_passes : (r : IntRepr) (b : BuiltinSyntax) (near : Location) → IsRepr r b → repr_check (Some b) near ≡ None
repr_passes r b near e = ap (λ (o : Option IntRepr). cond (is_some o) None (Some (invalid_repr (builtin_type b) near))) e

tag_passes : (r : IntRepr) (b : BuiltinSyntax) (near : Location) → IsRepr r b → tag_check (Tree.builtin (builtin_type b)) near ≡ None
tag_passes r b near e = ap (λ (o : Option IntRepr). cond (is_some o) None (Some (wrong_kind_name (codes "tag") (codes "enum or builtin") (codes "builtin") near))) e

anonymous_passes : (named : Bool) (near : Location) → named ≡ true → anonymous named near ≡ None
anonymous_passes named near e = ap (λ (b : Bool). anonymous b near) e

name_fine : (h : Here) (named : Bool) (n : List ℕ) (t : Tree) (d : List ℕ) (m : Name) (u : Tree) → m.name ≡ n → h.sense n ≡ a_type u → emptied u ≡ emptied (Tree.named n t d)
    → Fine h named (Tree.named n t d) (TypeTree.ident m)
name_fine h named n t d m u e f g =
    let is : h.sense m.name ≡ a_type u = ap (λ (k : List ℕ). h.sense k) e ∙ f in (
      ap (λ (x : Sense). emptied (sense_tree x)) is ∙ g,
      λ near. passes (use_check m.name (h.place m.start) (h.sense m.name)) [] (ap (λ (x : Sense). use_check m.name (h.place m.start) x) is) refl,
    )

record_fine : (h : Here) (named : Bool) (kind : RecordKind) (ms : ast.Fields) (s : TypeTree) (S : Type 0) (T : Types → Type 0) (F : Fields → Type 0)
    → StandsRecord kind named ms S → SaysRecord kind ms T F s
    → ((us : Types) → NumbersFrom 0 ms → S → T us → TypesFine h 0 ms us) → ((fs : Fields) → S → F fs → FieldsFine h ms fs) → Fine h named (Tree.record_of kind ms) s
record_fine h named RecordKind.Tuple ms s S T F st q types fields =
    let p = types q.0 st.0 st.1 q.2 in
    subst (λ (x : TypeTree). Fine h named (Tree.record_of RecordKind.Tuple ms) x) (sym q.1) (ap (λ (x : ast.Fields). Tree.record_of RecordKind.Tuple x) p.0, p.1)
record_fine h named (RecordKind.Bitflags r) ms s S T F st q types fields =
    subst (λ (x : TypeTree). Fine h named (Tree.record_of (RecordKind.Bitflags r) ms) x) (sym q.2) (
      ap (λ (k : IntRepr). Tree.record_of (RecordKind.Bitflags k) (emptied_fields (fields_of (map flag_field q.1)))) (repr_is r q.0 q.3)
          ∙ ap (λ (x : ast.Fields). Tree.record_of (RecordKind.Bitflags r) x) (flags_meant ms q.1 q.4 st.2),
      λ near. passes (anonymous named near) (repr_check (Some q.0) near ∷ member_checks h [] q.1) (anonymous_passes named near st.0)
          (passes (repr_check (Some q.0) near) (member_checks h [] q.1) (repr_passes r q.0 near q.3) (flags_pass h [] ms q.1 q.4 st.1)),
    )
record_fine h named RecordKind.Other ms s S T F st q types fields =
    let p = fields q.0 st.2 q.2 in
    subst (λ (x : TypeTree). Fine h named (Tree.record_of RecordKind.Other ms) x) (sym q.1) (
      ap (λ (x : ast.Fields). Tree.record_of RecordKind.Other x) p.0,
      λ near. passes (anonymous named near) (field_checks h [] q.0) (anonymous_passes named near st.0) (p.1 [] st.1),
    )

variant_fine : (h : Here) (named : Bool) (is_bool bare : Bool) (r : IntRepr) (cs : ast.Arms) (s : TypeTree) (S : Type 0) (C : Cases → Type 0)
    → is_bool_arms (arm_list cs) ≡ is_bool → have_no_payload cs ≡ bare
    → StandsVariant is_bool bare named r cs S → SaysVariant is_bool bare r cs C s → ((ds : Cases) → S → C ds → CasesFine h cs ds) → Fine h named (Tree.variant_of r cs) s
variant_fine h named true bare r cs s S C e f st q cases =
    subst (λ (x : TypeTree). Fine h named (Tree.variant_of r cs) x) (sym q)
    (ap (λ (x : ast.Arms). Tree.variant_of IntRepr.U32 x) (sym (bool_meant cs e)) ∙ ap (λ (k : IntRepr). Tree.variant_of k (emptied_arms cs)) (sym st), λ near. refl)
variant_fine h named false true r cs s S C e f st q cases =
    subst (λ (x : TypeTree). Fine h named (Tree.variant_of r cs) x) (sym q.2) (
      ap (λ (k : IntRepr). Tree.variant_of k (emptied_arms (arms_of (map member_arm q.1)))) (repr_is r q.0 q.3)
          ∙ ap (λ (x : ast.Arms). Tree.variant_of r x) (names_meant cs q.1 q.4 f),
      λ near. passes (anonymous named near) (repr_check (Some q.0) near ∷ member_checks h [] q.1) (anonymous_passes named near st.0)
          (passes (repr_check (Some q.0) near) (member_checks h [] q.1) (repr_passes r q.0 near q.3) (names_pass h [] cs q.1 q.4 st.1)),
    )
variant_fine h named false false r cs s S C e f st q cases =
    let p = cases q.1 st q.4 in
    subst (λ (x : TypeTree). Fine h named (Tree.variant_of r cs) x) (sym q.2) (
      ap (λ (k : IntRepr). Tree.variant_of k (emptied_arms (arms_of (case_arms h q.1)))) (repr_is r q.0 q.3) ∙ ap (λ (x : ast.Arms). Tree.variant_of r x) p.0,
      λ near. passes (tag_check (Tree.builtin (builtin_type q.0)) near) (None ∷ case_checks h None [] q.1) (tag_passes r q.0 near q.3) (p.1 []),
    )

-- what the names denote, the form's inside knows too
abbrev pub Agrees : Denotes → Here → Type 0
Agrees D h = (n : List ℕ) (t : Tree) → D n t → (u : Tree) × (h.sense n ≡ a_type u) × (emptied u ≡ t)

name_stands : (D : Denotes) (h : Here) (named : Bool) (n : List ℕ) (t : Tree) (d : List ℕ) (m : Name) → Agrees D h → m.name ≡ n → D n (emptied (Tree.named n t d)) → Fine h named (Tree.named n t d) (TypeTree.ident m)
name_stands D h named n t d m agree e st =
    let q = agree n (emptied (Tree.named n t d)) st in
    name_fine h named n t d m q.0 e q.1 q.2

mutual
  pub type_fine : (D : Denotes) (h : Here) → Agrees D h → (named : Bool) (t : Tree) (s : TypeTree) → Stands D named t → Says t s → Fine h named t s
  type_fine D h g named (Tree.named n t d) s st q = subst (λ (x : TypeTree). Fine h named (Tree.named n t d) x) (sym q.1) (name_stands D h named n t d q.0 g q.2 st)
  type_fine D h g named (Tree.builtin b) s st q = subst (λ (x : TypeTree). Fine h named (Tree.builtin b) x) (sym q.1) (ap (λ (c : BuiltinType). Tree.builtin c) q.2, λ near. refl)
  type_fine D h g named Tree.handle s st q = subst (λ (x : TypeTree). Fine h named Tree.handle x) (sym q) (refl, λ near. passes (anonymous named near) [] (anonymous_passes named near st) refl)
  type_fine D h g named (Tree.list_of t) s st q =
      let p = type_fine D h g false t q.0 st q.2 in
      subst (λ (x : TypeTree). Fine h named (Tree.list_of t) x) (sym q.1) (ap (λ (x : Tree). Tree.list_of x) p.0, p.1)
  type_fine D h g named (Tree.pointer_to t) s st q =
      let p = type_fine D h g false t q.0 st q.2 in
      subst (λ (x : TypeTree). Fine h named (Tree.pointer_to t) x) (sym q.1) (ap (λ (x : Tree). Tree.pointer_to x) p.0, p.1)
  type_fine D h g named (Tree.const_pointer_to t) s st q =
      let p = type_fine D h g false t q.0 st q.2 in
      subst (λ (x : TypeTree). Fine h named (Tree.const_pointer_to t) x) (sym q.1) (ap (λ (x : Tree). Tree.const_pointer_to x) p.0, p.1)
  type_fine D h g named (Tree.record_of kind ms) s st q =
      record_fine h named kind ms s (FieldsStand D ms) (SaysTypes ms) (SaysFields ms) st q (λ us n w r. types_fine D h g 0 ms us n w r) (λ fs w r. fields_fine D h g ms fs w r)
  type_fine D h g named (Tree.variant_of r cs) s st q =
      variant_fine h named (is_bool_arms (arm_list cs)) (have_no_payload cs) r cs s (ArmsStand D cs) (SaysCases cs) refl refl st q (λ ds w r. cases_fine D h g cs ds w r)

  types_fine : (D : Denotes) (h : Here) → Agrees D h → (i : ℕ) (ms : ast.Fields) (us : Types) → NumbersFrom i ms → FieldsStand D ms → SaysTypes ms us → TypesFine h i ms us
  types_fine D h g i ast.no_fields us n w q = subst (λ (x : Types). TypesFine h i ast.no_fields x) (sym q) (refl, λ near. refl)
  types_fine D h g i (ast.field k t d ms) us n w q =
      let a = type_fine D h g false t q.0 w.0 q.3 in
      let b = types_fine D h g (i + 1) ms q.1 n.1 w.1 q.4 in
      subst (λ (x : Types). TypesFine h i (ast.field k t d ms) x) (sym q.2) (
        same_field (number_name i) k (emptied (tree_meant h q.0)) (emptied t) (emptied_fields (fields_of (types_meant h (i + 1) q.1))) (emptied_fields ms) (sym n.0) a.0 b.0,
        λ near. both_pass (type_checks h false near q.0) (each_type_checks h near q.1) (a.1 near) (b.1 near),
      )

  fields_fine : (D : Denotes) (h : Here) → Agrees D h → (ms : ast.Fields) (fs : Fields) → FieldsStand D ms → SaysFields ms fs → FieldsFine h ms fs
  fields_fine D h g ast.no_fields fs w q = subst (λ (x : Fields). FieldsFine h ast.no_fields x) (sym q) (refl, λ marks n. refl)
  fields_fine D h g (ast.field k t d ms) fs w q =
      let m = q.1 in
      let a = type_fine D h g false t q.2 w.0 q.6 in
      let b = fields_fine D h g ms q.3 w.1 q.7 in
      subst (λ (x : Fields). FieldsFine h (ast.field k t d ms) x) (sym q.4) (
        same_field m.name k (emptied (tree_meant h q.2)) (emptied t) (emptied_fields (fields_of (fields_meant h q.3))) (emptied_fields ms) q.5 a.0 b.0,
        λ marks n. passes (new_mark h marks m.name m.start) (type_checks h false (h.place m.start) q.2 ++ field_checks h ((m.name, m.start) ∷ marks) q.3)
            (new_mark_passes h marks m.name m.start (ap (λ (l : List ℕ). any_same l (keys_of marks)) q.5 ∙ n.0))
            (both_pass (type_checks h false (h.place m.start) q.2) (field_checks h ((m.name, m.start) ∷ marks) q.3) (a.1 (h.place m.start))
            (b.1 ((m.name, m.start) ∷ marks) (seen_as m.name k (keys_of marks) (field_names ms) q.5 n.1))),
      )

  cases_fine : (D : Denotes) (h : Here) → Agrees D h → (cs : ast.Arms) (ds : Cases) → ArmsStand D cs → SaysCases cs ds → CasesFine h cs ds
  cases_fine D h g ast.no_arms ds w q = subst (λ (x : Cases). CasesFine h ast.no_arms x) (sym q) (refl, λ before. refl)
  cases_fine D h g (ast.bare k d cs) ds w q =
      let b = cases_fine D h g cs q.2 w q.5 in
      subst (λ (x : Cases). CasesFine h (ast.bare k d cs) x) (sym q.3)
      (same_bare q.1.name k (emptied_arms (arms_of (case_arms h q.2))) (emptied_arms cs) q.4 b.0, λ before. b.1 (before ++ q.1.name ∷ []))
  cases_fine D h g (ast.carries k t d cs) ds w q =
      let a = type_fine D h g false t q.2 w.0 q.6 in
      let b = cases_fine D h g cs q.3 w.1 q.7 in
      subst (λ (x : Cases). CasesFine h (ast.carries k t d cs) x) (sym q.4) (
        same_carries q.1.name k (emptied (tree_meant h q.2)) (emptied t) (emptied_arms (arms_of (case_arms h q.3))) (emptied_arms cs) q.5 a.0 b.0,
        λ before. both_pass (type_checks h false (h.place q.1.start) q.2) (case_checks h None (before ++ q.1.name ∷ []) q.3) (a.1 (h.place q.1.start)) (b.1 (before ++ q.1.name ∷ [])),
      )
