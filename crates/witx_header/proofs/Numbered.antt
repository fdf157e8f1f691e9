-- The numbers of a header: which of them fit, and which is too large.
use Rattle.std.proofs.Common.{◌≡◌, ℕ, ◌+◌, ◌<◌, ◌≤◌, List, [], ◌∷◌, ◌++◌, false, true, length, get_or, map, drop, arith, refl, sym, subst, ap, ◌∙◌, append-nil}
use Rattle.std.specs.Prelude.{◌^◌, All, Any, OnOk, Result, codes}
use Rattle.std.specs.declared.alloc.Global.{Global}
use Rattle.std.specs.declared.rc.Rc.{Rc}
use Rattle.witx_ast.proofs.Trees.{tree_rules, tree-RecordMember, tree-VariantDatatype}
use Rattle.witx_ast.specs.declared.types.NamedType.{NamedType}
use Rattle.witx_ast.specs.declared.definition.Definition.TheVariants as definition_variant
use Rattle.std.specs.List.{flat_map}
use Rattle.std.proofs.lemmas.List.{drop_all, drop_more, length-append, get_or-append-add}
use Rattle.std.proofs.lemmas.List.Elements.{All-append, All-cons}
use Rattle.std.proofs.Math.ListN.{get_or-append}
use Rattle.witx_ast.specs.declared.definition.Definition.{Definition}
use Rattle.witx_ast.specs.declared.types.Variant.{Variant, out-Variant}
use Rattle.witx_ast.specs.Definitions.{definition_tree}
use Rattle.witx_ast.specs.Views.{case_arm, cases_plain, tree_of, variant_tree}
use Rattle.witx_ast.specs.Words.{all_arms_bare}
use Rattle.witx_layout.specs.declared.members.RecordMemberLayout.{RecordMemberLayout}
use Rattle.witx_layout.specs.Numbers.{payload_offset}
use Rattle.witx_header.specs.CNames.{member_name}
use Rattle.witx_header.specs.Headers.{c_definition_lines, definition_numbers, header_numbers}
use Rattle.witx_header.specs.Typedefs.{offset_line, c_part_offsets, placed_lines, header_typename_lines}
use Rattle.witx_header.proofs.Appending.{joined, next-of, none-left, read-more, read-end}
use Rattle.witx_header.proofs.Typing.{arms-listed, nothing-more}

abbrev pub AllFit : List ℕ → Type 0
AllFit numbers = All (λ n. n < 2 ^ 64) numbers

abbrev pub OneIsLarge : List ℕ → Type 0
OneIsLarge numbers = Any (λ n. 2 ^ 64 ≤ n) numbers

pub none-unfit : AllFit []
none-unfit k d h = absurd (omega arith)

pub both-fit : (n : ℕ) (ns : List ℕ) → n < 2 ^ 64 → AllFit ns → AllFit (n ∷ ns)
both-fit n ns h a = All-cons (λ n. n < 2 ^ 64) n ns h a

pub first-large : (n : ℕ) (ns : List ℕ) → 2 ^ 64 ≤ n → OneIsLarge (n ∷ ns)
first-large n ns h = (0, n, omega arith, refl, h)

pub large-before : (xs ys : List ℕ) → OneIsLarge xs → OneIsLarge (xs ++ ys)
large-before xs ys (k, x, l, e, h) = (k, x, omega (arith, length-append xs ys), get_or-append xs ys x k l ∙ e, h)

pub large-behind : (xs ys : List ℕ) → OneIsLarge ys → OneIsLarge (xs ++ ys)
large-behind xs ys (k, x, l, e, h) = (length xs + k, x, omega (arith, length-append xs ys), get_or-append-add xs ys k x ∙ e, h)

pub later-large : (n : ℕ) (ns : List ℕ) → OneIsLarge ns → OneIsLarge (n ∷ ns)
later-large n ns h = large-behind (n ∷ []) ns h

-- ---- the members that are placed

pub next-offset : (name : List ℕ) (xs : List RecordMemberLayout) (i : ℕ) (x : RecordMemberLayout) (done now total : List ℕ) → i < length xs → x ≡ get_or xs i x
    → now ≡ done ++ offset_line name (member_name x.member.now.name) x.offset
    → done ++ placed_lines name (drop i xs) ≡ total → now ++ placed_lines name (drop (i + 1) xs) ≡ total
next-offset name xs i x done now total l p w e =
    joined done now (offset_line name (member_name x.member.now.name) x.offset) (placed_lines name (drop (i + 1) xs)) total w
    (ap (λ t. done ++ t) (sym (placed-drop name xs i x l p)) ∙ e)
  where
    placed-drop : (name : List ℕ) (xs : List RecordMemberLayout) (i : ℕ) (x : RecordMemberLayout) → i < length xs → x ≡ get_or xs i x
        → placed_lines name (drop i xs) ≡ offset_line name (member_name x.member.now.name) x.offset ++ placed_lines name (drop (i + 1) xs)
    placed-drop name xs i x l p = rw (drop_more xs i x l, ← p, tree-RecordMember x.member.now) refl

pub all-offsets : (name : List ℕ) (xs : List RecordMemberLayout) (i : ℕ) (done total : List ℕ) → length xs ≤ i → done ++ placed_lines name (drop i xs) ≡ total → done ≡ total
all-offsets name xs i done total l e = sym (append-nil done) ∙ ap (λ t. done ++ placed_lines name t) (sym (drop_all i xs l)) ∙ e

-- ---- a variant, by whether no case has a payload

pub bare-offsets : (name : List ℕ) (v : Variant) → all_arms_bare (map case_arm (out-Variant v).cases) ≡ true → c_part_offsets name (variant_tree v) ≡ []
bare-offsets name v h = rw (tree-VariantDatatype v, arms-listed (map case_arm (out-Variant v).cases), h) refl

pub tagged-offsets : (name : List ℕ) (v : Variant) → all_arms_bare (map case_arm (out-Variant v).cases) ≡ false
    → c_part_offsets name (variant_tree v) ≡ offset_line name (codes "u") (payload_offset (out-Variant v).tag_repr (cases_plain (out-Variant v).cases))
tagged-offsets name v h = rw (tree-VariantDatatype v, arms-listed (map case_arm (out-Variant v).cases), h) refl

pub ruleset number_rules = (tree_rules, none-unfit, both-fit, first-large, later-large, next-offset, all-offsets, bare-offsets, tagged-offsets, nothing-more)

-- ---- definitions

abbrev pub numbers_from : List Definition → ℕ → List ℕ
numbers_from ds i = header_numbers (map definition_tree (drop i ds))

numbers-drop : (ds : List Definition) (i : ℕ) (d : Definition) → i < length ds → d ≡ get_or ds i d
    → numbers_from ds i ≡ definition_numbers (definition_tree d) ++ numbers_from ds (i + 1)
numbers-drop ds i d l p = ap (flat_map definition_numbers) (next-of definition_tree ds i d l p)

pub next-fits : (ds : List Definition) (i : ℕ) (d : Definition) → i < length ds → d ≡ get_or ds i d
    → AllFit (definition_numbers (definition_tree d)) → AllFit (numbers_from ds (i + 1)) → AllFit (numbers_from ds i)
next-fits ds i d l p h a =
    rw (numbers-drop ds i d l p) (All-append (λ n. n < 2 ^ 64) (definition_numbers (definition_tree d)) (numbers_from ds (i + 1)) h a)

pub next-large : (ds : List Definition) (i : ℕ) (d : Definition) → i < length ds → d ≡ get_or ds i d
    → OneIsLarge (numbers_from ds (i + 1)) → OneIsLarge (numbers_from ds i)
next-large ds i d l p a = rw (numbers-drop ds i d l p) (large-behind (definition_numbers (definition_tree d)) (numbers_from ds (i + 1)) a)

pub this-large : (ds : List Definition) (i : ℕ) (d : Definition) → i < length ds → d ≡ get_or ds i d
    → OneIsLarge (definition_numbers (definition_tree d)) → OneIsLarge (numbers_from ds i)
this-large ds i d l p a = rw (numbers-drop ds i d l p) (large-before (definition_numbers (definition_tree d)) (numbers_from ds (i + 1)) a)

pub all-fit : (ds : List Definition) (i : ℕ) → length ds ≤ i → AllFit (numbers_from ds i)
all-fit ds i l = rw (none-left definition_tree ds i l) none-unfit

pub ruleset definition_rules = (next-fits, next-large, this-large, all-fit, read-more, read-end)

-- what was written of a typename, as one of the definitions
pub of-typename : {T E : Type 0} (n : Rc NamedType Global) (m : NamedType) (d : Definition) (r : Result T E) (done now : List ℕ) → d ≡ definition_variant.Typename n → m ≡ n.value
    → OnOk r (now ≡ done ++ header_typename_lines m.name (tree_of m.tref) m.docs) → OnOk r (now ≡ done ++ c_definition_lines (definition_tree d))
of-typename n m d r done now is same h =
    subst (λ x. OnOk r (now ≡ done ++ c_definition_lines (definition_tree x))) (sym is)
    (subst (λ x. OnOk r (now ≡ done ++ header_typename_lines x.name (tree_of x.tref) x.docs)) same h)
