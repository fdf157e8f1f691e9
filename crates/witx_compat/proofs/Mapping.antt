-- One more parameter, or one more result.
use Rattle.std.specs.Prelude.{◌≡◌, ℕ, ◌+◌, ◌≤◌, ◌<◌, List, [], ◌∷◌, ◌++◌, map, length, drop, Bool, true, false, Option, Some, None, option_map, is_some}
use Rattle.std.specs.List.{filter_map, list_all}
use Rattle.std.specs.Option.{option_to_list}
use Rattle.std.specs.Borrow.{Bor}
use Rattle.std.proofs.Common.{refl, sym, ◌∙◌, ap, get_or}
use Rattle.std.proofs.lemmas.List.{drop_more, drop_all, map-append, append_assoc, append-nil}
use Rattle.witx_ast.specs.Tree.{Field}
use Rattle.witx_ast.specs.Functions.{param_field}
use Rattle.witx_ast.specs.declared.function.InterfaceFuncParam.{InterfaceFuncParam}
use Rattle.witx_base.specs.SameBytes.{false-true}
use Rattle.witx_ast.proofs.Trees.{tree_rules}
use Rattle.witx_base.specs.Found.{found}
use Rattle.witx_compat.specs.declared.conversion.ParamPolyfill.{ParamPolyfill}
use Rattle.witx_compat.specs.declared.conversion.ParamUnknown.{ParamUnknown}
use Rattle.witx_compat.specs.Conversions.{Mapped, Unknown, is_compatible}
use Rattle.witx_compat.specs.Polyfills.{first_called, paired, without, when_none}
use Rattle.witx_compat.specs.Halves.{named, IsTable}
use Rattle.witx_compat.specs.Views.{mapped_view, unknown_view}

step-list : (f : Field → Option Mapped) (x : Field) (xs : List Field) (o : Option Mapped) → f x ≡ o → filter_map f (x ∷ xs) ≡ option_to_list o ++ filter_map f xs
step-list f x xs None e = rw e refl
step-list f x xs (Some m) e = rw e refl

mapped-step : (f : Field → Option Mapped) (xs : List InterfaceFuncParam) (i : ℕ) (x : InterfaceFuncParam) (made new whole : List Mapped) → i < length xs → x ≡ get_or xs i x
    → new ≡ made ++ option_to_list (f (param_field x))
    → made ++ filter_map f (map param_field (drop i xs)) ≡ whole
    → new ++ filter_map f (map param_field (drop (i + 1) xs)) ≡ whole
mapped-step f xs i x made new whole l p n e =
    let d : map param_field (drop i xs) ≡ param_field x ∷ map param_field (drop (i + 1) xs) = rw (drop_more xs i x l, ← p) refl in
    ap (λ ys. ys ++ filter_map f (map param_field (drop (i + 1) xs))) n
    ∙ append_assoc made (option_to_list (f (param_field x))) (filter_map f (map param_field (drop (i + 1) xs)))
    ∙ ap (λ ys. made ++ ys) (sym (step-list f (param_field x) (map param_field (drop (i + 1) xs)) (f (param_field x)) refl))
    ∙ ap (λ ys. made ++ filter_map f ys) (sym d) ∙ e

-- one more that is mapped, if its name is in the table
pub next-mapped : (pair : Field → Field → Mapped) (others : List Field) (table : List (List ℕ × Bor InterfaceFuncParam)) (xs : List InterfaceFuncParam) (i : ℕ) (x : InterfaceFuncParam)
    (made next : List ParamPolyfill) (whole : List Mapped) → IsTable table others → i < length xs → x ≡ get_or xs i x
    → map mapped_view next ≡ map mapped_view made ++ option_to_list (option_map (pair (param_field x)) (named table x.name))
    → map mapped_view made ++ paired pair (map param_field (drop i xs)) others ≡ whole
    → map mapped_view next ++ paired pair (map param_field (drop (i + 1) xs)) others ≡ whole
next-mapped pair others table xs i x made next whole t l p n e =
    mapped-step (λ f. option_map (pair f) (first_called f.called others)) xs i x (map mapped_view made) (map mapped_view next) whole l p
    (n ∙ ap (λ o. map mapped_view made ++ option_to_list (option_map (pair (param_field x)) o)) (t x.name)) e

pub all-mapped : (pair : Field → Field → Mapped) (others : List Field) (xs : List InterfaceFuncParam) (i : ℕ) (made : List ParamPolyfill) (whole : List Mapped) → length xs ≤ i
    → map mapped_view made ++ paired pair (map param_field (drop i xs)) others ≡ whole → map mapped_view made ≡ whole
all-mapped pair others xs i made whole l e = sym (append-nil (map mapped_view made)) ∙ (rw (drop_all i xs l) at e)

-- one more that is unknown, unless its name is in the table
pub next-unknown : (unknown : Field → Unknown) (others : List Field) (table : List (List ℕ × Bor InterfaceFuncParam)) (xs : List InterfaceFuncParam) (i : ℕ) (x : InterfaceFuncParam)
    (made next : List ParamUnknown) (whole : List Unknown) → IsTable table others → i < length xs → x ≡ get_or xs i x
    → map unknown_view next ≡ map unknown_view made ++ when_none (named table x.name) (unknown (param_field x))
    → map unknown_view made ++ without unknown others (map param_field (drop i xs)) ≡ whole
    → map unknown_view next ++ without unknown others (map param_field (drop (i + 1) xs)) ≡ whole
next-unknown unknown others table xs i x made next whole t l p n e =
    let d : map param_field (drop i xs) ≡ param_field x ∷ map param_field (drop (i + 1) xs) = rw (drop_more xs i x l, ← p) refl in
    ap (λ ys. ys ++ without unknown others (map param_field (drop (i + 1) xs)))
    (n ∙ ap (λ o. map unknown_view made ++ when_none o (unknown (param_field x))) (t x.name))
    ∙ append_assoc (map unknown_view made) (when_none (first_called x.name others) (unknown (param_field x))) (without unknown others (map param_field (drop (i + 1) xs)))
    ∙ ap (λ ys. map unknown_view made ++ without unknown others ys) (sym d) ∙ e

pub no-more : (unknown : Field → Unknown) (others : List Field) (xs : List InterfaceFuncParam) (i : ℕ) (made : List ParamUnknown) (whole : List Unknown) → length xs ≤ i
    → map unknown_view made ++ without unknown others (map param_field (drop i xs)) ≡ whole → map unknown_view made ≡ whole
no-more unknown others xs i made whole l e = sym (append-nil (map unknown_view made)) ∙ (rw (drop_all i xs l) at e)

-- what a table holds at a name
pub named-some : (table : List (List ℕ × Bor InterfaceFuncParam)) (name : List ℕ) (b : Bor InterfaceFuncParam) → found table name ≡ Some b → named table name ≡ Some (param_field b.now)
named-some table name b e = rw e refl

pub named-none : (table : List (List ℕ × Bor InterfaceFuncParam)) (name : List ℕ) → found table name ≡ None → named table name ≡ None
named-none table name e = rw e refl

pub pair-put : (pair : Field → Field → Mapped) (o : Option Field) (f t : Field) (made next : List Mapped) (m : Mapped) → o ≡ Some t → m ≡ pair f t → next ≡ made ++ m ∷ []
    → next ≡ made ++ option_to_list (option_map (pair f) o)
pair-put pair o f t made next m e p n = rw (e, ← p) n

pub no-pair : (pair : Field → Field → Mapped) (o : Option Field) (f : Field) (made : List Mapped) → o ≡ None → made ≡ made ++ option_to_list (option_map (pair f) o)
no-pair pair o f made e = rw e (sym (append-nil made))

-- one that a table lacks, and one that it has
pub unknown-put : (o : Option Field) (u : Unknown) (made next : List ParamUnknown) (p : ParamUnknown) → is_some o ≡ false → next ≡ made ++ p ∷ [] → unknown_view p ≡ u
    → map unknown_view next ≡ map unknown_view made ++ when_none o u
unknown-put None u made next p h n e = rw (n, map-append unknown_view made (p ∷ []), e) refl
unknown-put (Some f) u made next p h n e = absurd (false-true (sym h))

pub unknown-skipped : (o : Option Field) (u : Unknown) (made : List ParamUnknown) → is_some o ≡ true → map unknown_view made ≡ map unknown_view made ++ when_none o u
unknown-skipped (Some f) u made h = sym (append-nil (map unknown_view made))
unknown-skipped None u made h = absurd (false-true h)

-- whether all are compatible
pub still-compatible : (xs : List ParamPolyfill) (i : ℕ) (x : ParamPolyfill) (whole : Bool) → i < length xs → x ≡ get_or xs i x → is_compatible (mapped_view x) ≡ true
    → list_all is_compatible (map mapped_view (drop i xs)) ≡ whole → list_all is_compatible (map mapped_view (drop (i + 1) xs)) ≡ whole
still-compatible xs i x whole l p t h = rw (drop_more xs i x l, ← p, t) at h

pub not-compatible : (xs : List ParamPolyfill) (i : ℕ) (x : ParamPolyfill) (whole : Bool) → i < length xs → x ≡ get_or xs i x → is_compatible (mapped_view x) ≡ false
    → list_all is_compatible (map mapped_view (drop i xs)) ≡ whole → false ≡ whole
not-compatible xs i x whole l p t h = rw (drop_more xs i x l, ← p, t) at h

pub all-compatible : (xs : List ParamPolyfill) (i : ℕ) (whole : Bool) → length xs ≤ i
    → list_all is_compatible (map mapped_view (drop i xs)) ≡ whole → true ≡ whole
all-compatible xs i whole l h = rw (drop_all i xs l) at h

pub ruleset mapping_rules = (map-append, next-mapped, all-mapped, next-unknown, no-more, named-some, named-none, pair-put, no-pair, unknown-put, unknown-skipped)

pub ruleset compatible_rules = (still-compatible, not-compatible, all-compatible)

pub ruleset convert_rules = (tree_rules)
