-- The names of a type that a form means are identifiers, where those of the form are and its checks pass.
use Rattle.std.proofs.Common.{◌≡◌, ◌≢◌, ℕ, zero, suc, ◌+◌, ◌%◌, ◌/◌, ◌<◌, ◌==◌, ◌&&◌, Bool, true, false, cond, List, [], ◌∷◌, ◌++◌, length, map, Option, Some, None, refl, sym, ap, ◌∙◌, subst, arith, eqb-true}
use Rattle.std.specs.Prelude.{codes, slice_get, nat_lt}
use Rattle.std.specs.Fmt.{decimal, digits, digits_onto, digit_glyph}
use Rattle.std.specs.List.{list_all}
use Rattle.std.specs.Str.{IsUtf8}
use Rattle.witx_files.specs.declared.location.Location.{Location}
use Rattle.witx_lex.specs.Characters.{is_name_character, dollar}
use Rattle.witx_ast.specs.Tree as ast
use Rattle.witx_ast.specs.Tree.{Tree, Arm, Field, arm, fields_of, arms_of, behind}
use Rattle.witx_base.specs.Texts.{same_text}
use Rattle.witx_comments.specs.Comments.{Comments}
use Rattle.witx_syntax_tree.specs.Trees.{Name, Member, TypeTree, Maybe, Types, Fields, UnionFields, Cases, absent, present, no_types, one_type, no_fields, one_field, no_union_fields, one_union_field, no_cases, one_case}
use Rattle.witx_syntax.specs.Names.{NamesOfMembers, NamesOfType, NamesOfMaybe, NamesOfTypes, NamesOfFields, NamesOfUnionFields, NamesOfCases}
use Rattle.witx_scope.specs.Faults.{Check, union_size_mismatch}
use Rattle.witx_scope.specs.Names.{Here, NameMarks, Sense, a_type, sense_tree, new_mark, use_check}
use Rattle.witx_scope.specs.Tags.{tag_checks, tag_names, names_in, size_check, case_check, arm_names, repr_check}
use Rattle.witx_scope.specs.Trees.{tree_meant, maybe_tree, types_meant, union_arms, fields_meant, case_arms, bool_tree, member_arm, flag_field, in_order, arm_called, bare_arm, union_name, nth_name, number_name}
use Rattle.witx_scope.specs.Checks.{type_checks, maybe_checks, each_type_checks, union_field_checks, field_checks, case_checks, member_checks, anonymous, cases_count, union_fields_count}
use Rattle.witx_read_back.specs.DocumentTexts.{Claims, TypeTexts, TupleTexts, FieldTexts, FlagTexts, CaseTexts}
use Rattle.witx_read_back.proofs.Readable.{IsRun, IsIdentifier}
use Rattle.witx_read_back.proofs.Fine.{Pass}
use Rattle.witx_read_back.proofs.Given.{head_passes, parts_pass, use_passes}
use Rattle.witx_read_back.proofs.Identifiers.{named_well}

-- names are identifiers, names in quotes are UTF-8
abbrev pub well : Claims
well = record { name = IsIdentifier; quoted = IsUtf8; docs = (λ d. Unit {0}) }

-- ---- decimal digits

abbrev AreNames : List ℕ → Type 0
AreNames s = list_all is_name_character s ≡ true

digit_name : (d : ℕ) → d < 10 → is_name_character (digit_glyph false d) ≡ true
digit_name zero l = refl
digit_name (suc zero) l = refl
digit_name (suc (suc zero)) l = refl
digit_name (suc (suc (suc zero))) l = refl
digit_name (suc (suc (suc (suc zero)))) l = refl
digit_name (suc (suc (suc (suc (suc zero))))) l = refl
digit_name (suc (suc (suc (suc (suc (suc zero)))))) l = refl
digit_name (suc (suc (suc (suc (suc (suc (suc zero))))))) l = refl
digit_name (suc (suc (suc (suc (suc (suc (suc (suc zero)))))))) l = refl
digit_name (suc (suc (suc (suc (suc (suc (suc (suc (suc zero))))))))) l = refl
digit_name (suc (suc (suc (suc (suc (suc (suc (suc (suc (suc d)))))))))) l = absurd (omega (arith, l))

below_ten : (n : ℕ) → n % 10 < 10
below_ten n = omega arith

both_names : (b : ℕ) (s : List ℕ) → is_name_character b ≡ true → AreNames s → AreNames (b ∷ s)
both_names b s e h = rw (e, h) refl

names_either : (t : Bool) (a b : List ℕ) → AreNames a → AreNames b → AreNames (cond t a b)
names_either true a b h k = h
names_either false a b h k = k

digits_are_names : (k n : ℕ) (s : List ℕ) → AreNames s → AreNames (digits_onto k 10 false n s)
digits_are_names zero n s h = h
digits_are_names (suc k) n s h =
    let more : AreNames (digit_glyph false (n % 10) ∷ s) = both_names (digit_glyph false (n % 10)) s (digit_name (n % 10) (below_ten n)) h in
    names_either (n / 10 == 0) (digit_glyph false (n % 10) ∷ s) (digits_onto k 10 false (n / 10) (digit_glyph false (n % 10) ∷ s)) more
    (digits_are_names k (n / 10) (digit_glyph false (n % 10) ∷ s) more)

not_nil : (b : ℕ) (s : List ℕ) → b ∷ s ≡ [] → ⊥
not_nil b s e = cc

behind_one : (b c : ℕ) (s : List ℕ) → b ∷ s ≡ c ∷ [] → s ≡ []
behind_one b c s e = cc

there_either : (t : Bool) (a b : List ℕ) → a ≢ [] → b ≢ [] → cond t a b ≢ []
there_either true a b h k = h
there_either false a b h k = k

digits_there : (k n : ℕ) (s : List ℕ) → s ≢ [] → digits_onto k 10 false n s ≢ []
digits_there zero n s h = h
digits_there (suc k) n s h =
    there_either (n / 10 == 0) (digit_glyph false (n % 10) ∷ s) (digits_onto k 10 false (n / 10) (digit_glyph false (n % 10) ∷ s)) (not_nil (digit_glyph false (n % 10)) s)
    (digits_there k (n / 10) (digit_glyph false (n % 10) ∷ s) (not_nil (digit_glyph false (n % 10)) s))

some_digit : (n : ℕ) → digits_onto 64 10 false n [] ≢ []
some_digit n =
    there_either (n / 10 == 0) (digit_glyph false (n % 10) ∷ []) (digits_onto 63 10 false (n / 10) (digit_glyph false (n % 10) ∷ [])) (not_nil (digit_glyph false (n % 10)) [])
    (digits_there 63 (n / 10) (digit_glyph false (n % 10) ∷ []) (not_nil (digit_glyph false (n % 10)) []))

number_identifier : (n : ℕ) → IsIdentifier (decimal n)
unfolding digits
number_identifier n = (
  not_nil 36 (digits_onto 64 10 false n []),
  both_names 36 (digits_onto 64 10 false n []) refl (digits_are_names 64 n [] refl),
  (λ e. some_digit n (behind_one 36 36 (digits_onto 64 10 false n []) e)),
)

-- the name is an identifier, by computation
two_more : (b c : ℕ) (s : List ℕ) → list_all is_name_character (36 ∷ b ∷ c ∷ s) ≡ true → IsIdentifier (b ∷ c ∷ s)
two_more b c s e = (not_nil 36 (b ∷ c ∷ s), e, (λ f. not_nil b (c ∷ s) (behind_one 36 36 (b ∷ c ∷ s) f)))

false_well : IsIdentifier (codes "false")
false_well = two_more _ _ _ refl

true_well : IsIdentifier (codes "true")
true_well = two_more _ _ _ refl

ok_well : IsIdentifier (codes "ok")
ok_well = two_more _ _ _ refl

err_well : IsIdentifier (codes "err")
err_well = two_more _ _ _ refl

-- ---- the names of a tag

abbrev AreIdentifiers : List (List ℕ) → Type 0
AreIdentifiers [] = Unit {0}
AreIdentifiers (n ∷ ns) = IsIdentifier n × AreIdentifiers ns

abbrev IfNames : Option (List (List ℕ)) → Type 0
IfNames None = Unit {0}
IfNames (Some ns) = AreIdentifiers ns

-- the cases of the type, names looked through, have identifiers for names
abbrev pub TagWell : Tree → Type 0
TagWell t = IfNames (names_in (behind t))

-- what names denote is of the name, and a tag with identifiers
abbrev pub KnowsWell : Here → Type 0
KnowsWell h = (n : List ℕ) (u : Tree) → h.sense n ≡ a_type u → ((t : Tree) × (d : List ℕ) × (u ≡ Tree.named n t d)) × TagWell u

case_names : (cs : ast.Arms) → CaseTexts well cs → AreIdentifiers (arm_names cs)
case_names ast.no_arms w = tt
case_names (ast.bare n d cs) w = (w.0, case_names cs w.2)
case_names (ast.carries n t d cs) w = (w.0, case_names cs w.3)

-- ---- arms as lists

abbrev PayloadWell : Option Tree → Type 0
PayloadWell None = Unit {0}
PayloadWell (Some t) = TypeTexts well t

abbrev ArmsWell : List Arm → Type 0
ArmsWell [] = Unit {0}
ArmsWell (a ∷ l) = (IsIdentifier a.called × PayloadWell a.payload) × ArmsWell l

arm_well : (n : List ℕ) (p : Option Tree) (d : List ℕ) (cs : ast.Arms) → IsIdentifier n → PayloadWell p → CaseTexts well cs → CaseTexts well (arm n p d cs)
arm_well n None d cs h w k = (h, tt, k)
arm_well n (Some t) d cs h w k = (h, tt, w, k)

arms_well : (l : List Arm) → ArmsWell l → CaseTexts well (arms_of l)
arms_well [] w = tt
arms_well (a ∷ l) w = arm_well a.called a.payload a.comment (arms_of l) w.0.0 w.0.1 (arms_well l w.1)

abbrev ArmWell : Arm → Type 0
ArmWell a = IsIdentifier a.called × PayloadWell a.payload

arm_either : (t : Bool) (a b : Arm) → ArmWell a → ArmWell b → ArmWell (cond t a b)
arm_either true a b h k = h
arm_either false a b h k = k

called_well : (l : List Arm) (n : List ℕ) → IsIdentifier n → ArmsWell l → ArmWell (arm_called l n)
called_well [] n i w = (i, tt)
called_well (a ∷ l) n i w = arm_either (same_text n a.called) a (arm_called l n) w.0 (called_well l n i w.1)

ordered_well : (l : List Arm) (ns : List (List ℕ)) → AreIdentifiers ns → ArmsWell l → ArmsWell (map (arm_called l) ns)
ordered_well l [] i w = tt
ordered_well l (n ∷ ns) i w = (called_well l n i.0 w, ordered_well l ns i.1 w)

in_order_well : (names : Option (List (List ℕ))) (l : List Arm) → IfNames names → ArmsWell l → ArmsWell (in_order names l)
in_order_well None l i w = w
in_order_well (Some ns) l i w = ordered_well l ns i w

members_well : (ns : List Member) → NamesOfMembers named_well IsUtf8 ns → ArmsWell (map member_arm ns)
members_well [] h = tt
members_well (n ∷ ns) h = ((h.0, tt), members_well ns h.1)

flags_well : (ns : List Member) → NamesOfMembers named_well IsUtf8 ns → FlagTexts well (fields_of (map flag_field ns))
flags_well [] h = tt
flags_well (n ∷ ns) h = (h.0, tt, flags_well ns h.1)

-- ---- the names that a union's cases get

nth_well : (ns : List (List ℕ)) (i : ℕ) → i < length ns → AreIdentifiers ns → IsIdentifier (nth_name ns i)
nth_well [] i l h = absurd (omega (arith, l))
nth_well (n ∷ ns) zero l h = h.0
nth_well (n ∷ ns) (suc i) l h = nth_well ns i (omega (arith, l)) h.1

-- so many more are to be named, from the place on
abbrev Lasts : Option (List (List ℕ)) → ℕ → ℕ → Type 0
Lasts None i count = Unit {0}
Lasts (Some ns) i count = length ns ≡ i + count

named_at : (names : Option (List (List ℕ))) (i count : ℕ) → IfNames names → Lasts names i (count + 1) → IsIdentifier (union_name names i)
named_at None i count h e = number_identifier i
named_at (Some ns) i count h e = nth_well ns i (omega (arith, e)) h

next_lasts : (names : Option (List (List ℕ))) (i count : ℕ) → Lasts names i (count + 1) → Lasts names (i + 1) count
next_lasts None i count e = tt
next_lasts (Some ns) i count e = omega (arith, e)

some_none : {A : Type 0} (x : A) → Some x ≡ None → ⊥
some_none x e = cc

sized : (test : Bool) (c : Check) → cond test None c ≡ None → (c ≡ None → ⊥) → test ≡ true
sized true c e h = refl
sized false c e h = absurd (h e)

from_start : (names : Option (List (List ℕ))) (count : ℕ) (near : Location) → size_check names count near ≡ None → Lasts names 0 count
from_start None count near e = tt
from_start (Some ns) count near e =
    omega (arith, eqb-true (length ns) count (sized (length ns == count) (Some (union_size_mismatch (length ns) count near)) e (some_none (union_size_mismatch (length ns) count near))))

-- ---- types

abbrev Well : Tree → Type 0
Well t = TypeTexts well t × TagWell t

sense_well : (h : Here) → KnowsWell h → (m : Name) (u : Tree) → IsIdentifier m.name → h.sense m.name ≡ a_type u → Well (sense_tree (h.sense m.name))
sense_well h k m u i e =
    let q = k m.name u e in
    subst (λ (s : Sense). Well (sense_tree s)) (sym e) (subst (λ (t : Tree). TypeTexts well t) (sym q.0.2) i, q.1)

maybe_tag : (t : Option Tree) → PayloadWell t × IfNames (tag_names t) → IfNames (tag_names t)
maybe_tag t w = w.1

variant_well : (l : List Arm) → ArmsWell l → CaseTexts well (arms_of l) × AreIdentifiers (arm_names (arms_of l))
variant_well l w = (arms_well l w, case_names (arms_of l) (arms_well l w))

module _ (h : Here) (k : KnowsWell h) where
  mutual
    pub type_well : (named : Bool) (near : Location) (t : TypeTree) → Pass (type_checks h named near t) → NamesOfType named_well IsUtf8 t → Well (tree_meant h t)
    type_well named near (TypeTree.ident m) e w =
        let p = head_passes (use_check m.name (h.place m.start) (h.sense m.name)) [] e in
        let q = use_passes m.name (h.place m.start) (h.sense m.name) p.0 in
        sense_well h k m q.0 w q.1
    type_well named near (TypeTree.builtin b) e w = (tt, tt)
    type_well named near TypeTree.string e w = (tt, tt)
    type_well named near TypeTree.boolean e w = variant_well (bare_arm (codes "false") None ∷ bare_arm (codes "true") None ∷ []) ((false_well, tt), ((true_well, tt), tt))
    type_well named near TypeTree.handle e w = (tt, tt)
    type_well named near (TypeTree.list_of t) e w = ((type_well false near t e w).0, tt)
    type_well named near (TypeTree.pointer_to t) e w = ((type_well false near t e w).0, tt)
    type_well named near (TypeTree.const_pointer_to t) e w = ((type_well false near t e w).0, tt)
    type_well named near (TypeTree.tuple_of ts) e w = (types_well 0 near ts e w, tt)
    type_well named near (TypeTree.expected ok err) e w =
        let p = parts_pass (maybe_checks h near ok) (maybe_checks h near err) e in
        variant_well (bare_arm (codes "ok") (maybe_tree h ok) ∷ bare_arm (codes "err") (maybe_tree h err) ∷ []) ((ok_well, (maybe_well near ok p.0 w.0).0), ((err_well, (maybe_well near err p.1 w.1).0), tt))
    type_well named near (TypeTree.enum_of r ns) e w = variant_well (map member_arm ns) (members_well ns w)
    type_well named near (TypeTree.flags_of r ns) e w = (flags_well ns w, tt)
    type_well named near (TypeTree.record_of fs) e w =
        let p = head_passes (anonymous named near) (field_checks h [] fs) e in
        (fields_well [] fs p.1 w.1, tt)
    type_well named near (TypeTree.union_of tag ps) e w =
        let names = tag_names (maybe_tree h tag) in
        let a = head_passes (anonymous named near) (maybe_checks h near tag ++ (tag_checks (maybe_tree h tag) near ++ (size_check names (union_fields_count ps) near ∷ union_field_checks h near ps))) e in
        let b = parts_pass (maybe_checks h near tag) (tag_checks (maybe_tree h tag) near ++ (size_check names (union_fields_count ps) near ∷ union_field_checks h near ps)) a.1 in
        let c = parts_pass (tag_checks (maybe_tree h tag) near) (size_check names (union_fields_count ps) near ∷ union_field_checks h near ps) b.1 in
        let d = head_passes (size_check names (union_fields_count ps) near) (union_field_checks h near ps) c.1 in
        variant_well (union_arms h names 0 ps) (union_well near names 0 ps d.1 w.1 (maybe_well near tag b.0 w.0).1 (from_start names (union_fields_count ps) near d.0))
    type_well named near (TypeTree.variant_of tag cs) e w =
        let names = tag_names (maybe_tree h tag) in
        let b = parts_pass (maybe_checks h near tag) (tag_checks (maybe_tree h tag) near ++ (size_check names (cases_count cs) near ∷ case_checks h names [] cs)) e in
        let c = parts_pass (tag_checks (maybe_tree h tag) near) (size_check names (cases_count cs) near ∷ case_checks h names [] cs) b.1 in
        let d = head_passes (size_check names (cases_count cs) near) (case_checks h names [] cs) c.1 in
        variant_well (in_order names (case_arms h cs)) (in_order_well names (case_arms h cs) (maybe_well near tag b.0 w.0).1 (cases_well names [] cs d.1 w.1))

    maybe_well : (near : Location) (t : Maybe) → Pass (maybe_checks h near t) → NamesOfMaybe named_well IsUtf8 t → PayloadWell (maybe_tree h t) × IfNames (tag_names (maybe_tree h t))
    maybe_well near absent e w = (tt, tt)
    maybe_well near (present t) e w = type_well false near t e w

    types_well : (i : ℕ) (near : Location) (ts : Types) → Pass (each_type_checks h near ts) → NamesOfTypes named_well IsUtf8 ts → TupleTexts well (fields_of (types_meant h i ts))
    types_well i near no_types e w = tt
    types_well i near (one_type t ts) e w =
        let p = parts_pass (type_checks h false near t) (each_type_checks h near ts) e in
        (tt, (type_well false near t p.0 w.0).0, types_well (i + 1) near ts p.1 w.1)

    pub fields_well : (marks : NameMarks) (fs : Fields) → Pass (field_checks h marks fs) → NamesOfFields named_well IsUtf8 fs → FieldTexts well (fields_of (fields_meant h fs))
    fields_well marks no_fields e w = tt
    fields_well marks (one_field c m t fs) e w =
        let p = head_passes (new_mark h marks m.name m.start) (type_checks h false (h.place m.start) t ++ field_checks h ((m.name, m.start) ∷ marks) fs) e in
        let q = parts_pass (type_checks h false (h.place m.start) t) (field_checks h ((m.name, m.start) ∷ marks) fs) p.1 in
        (w.0.0, tt, (type_well false (h.place m.start) t q.0 w.0.1).0, fields_well ((m.name, m.start) ∷ marks) fs q.1 w.1)

    union_well : (near : Location) (names : Option (List (List ℕ))) (i : ℕ) (ps : UnionFields) → Pass (union_field_checks h near ps) → NamesOfUnionFields named_well IsUtf8 ps
        → IfNames names → Lasts names i (union_fields_count ps) → ArmsWell (union_arms h names i ps)
    union_well near names i no_union_fields e w n l = tt
    union_well near names i (one_union_field c t ps) e w n l =
        let p = parts_pass (type_checks h false near t) (union_field_checks h near ps) e in (
          (named_at names i (union_fields_count ps) n l, (type_well false near t p.0 w.0).0),
          union_well near names (i + 1) ps p.1 w.1 n (next_lasts names i (union_fields_count ps) l),
        )

    cases_well : (names : Option (List (List ℕ))) (before : List (List ℕ)) (cs : Cases) → Pass (case_checks h names before cs) → NamesOfCases named_well IsUtf8 cs → ArmsWell (case_arms h cs)
    cases_well names before no_cases e w = tt
    cases_well names before (one_case c m t cs) e w =
        let p = head_passes (case_check names before m.name (h.place m.start)) (maybe_checks h (h.place m.start) t ++ case_checks h names (before ++ m.name ∷ []) cs) e in
        let q = parts_pass (maybe_checks h (h.place m.start) t) (case_checks h names (before ++ m.name ∷ []) cs) p.1 in
        ((w.0.0, (maybe_well (h.place m.start) t q.0 w.0.1).0), cases_well names (before ++ m.name ∷ []) cs q.1 w.1)
