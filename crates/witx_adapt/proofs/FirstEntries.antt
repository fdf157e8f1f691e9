-- The map of first entries, as it is filled from the last entry to the first.
use Rattle.std.proofs.Common.{◌≡◌, ℕ, ◌+◌, ◌<◌, ◌≤◌, ◌&&◌, Bool, List, [], ◌∷◌, length, get_or, drop, cond, Option, Some, refl, sym, ap, ◌∙◌, arith}
use Rattle.std.specs.Cmp.{both_tied}
use Rattle.std.specs.Cmp.Lexicographic.{slice_cmp}
use Rattle.std.specs.List.{position, position_from}
use Rattle.std.specs.Map.{lookup}
use Rattle.std.specs.Ordering.{is_eq, nat_cmp, ordering_then}
use Rattle.std.specs.declared.cmp.Ordering.{Ordering}
use Rattle.std.proofs.lemmas.Iterator.Adapters.{position_from-zero}
use Rattle.std.proofs.lemmas.List.{drop_all, drop_more}
use Rattle.std.proofs.lemmas.Map.Text.{is_eq-slice_cmp}
use Rattle.witx_base.specs.Texts.{same_text}
use Rattle.witx_adapt.specs.declared.adapted.AdaptedFunc.{AdaptedFunc}
use Rattle.witx_adapt.specs.declared.first_entry.FunctionName.{FunctionName}
use Rattle.witx_adapt.specs.FirstEntries.{names_of, has_names, asks_for, first_at}

-- ---- names, compared in order

abbrev names_cmp : FunctionName → FunctionName → Ordering
names_cmp n m = ordering_then (slice_cmp nat_cmp n.module m.module) (slice_cmp nat_cmp n.name m.name)

same_is_eq : (a b : List ℕ) → same_text a b ≡ is_eq (slice_cmp nat_cmp a b)
unfolding same_text
same_is_eq a b = sym (is_eq-slice_cmp a b)

same_names : (n m : FunctionName) → (same_text n.module m.module && same_text n.name m.name) ≡ is_eq (names_cmp n m)
same_names n m = both_tied _ _ _ _ (same_is_eq n.module m.module) (same_is_eq n.name m.name)

abbrev looked_up : List (FunctionName × ℕ) → FunctionName → Option ℕ
looked_up es n = lookup (λ m. is_eq (names_cmp n m)) es

at_names : (es : List (FunctionName × ℕ)) (i : FunctionName) → lookup (asks_for i) es ≡ looked_up es i
at_names [] i = refl
at_names (e ∷ es) i =
    ap (λ t. cond t (Some e.1) (lookup (asks_for i) es)) (same_names i e.0)
    ∙ ap (λ o. cond (is_eq (names_cmp i e.0)) (Some e.1) o) (at_names es i)

pub named_at : (first : List (FunctionName × ℕ)) (i n : FunctionName) (o : Option ℕ) → n ≡ i → o ≡ looked_up first n → o ≡ first_at first i
named_at first i n o q h = h ∙ ap (looked_up first) q ∙ sym (at_names first i)

pub put_at : (old new : List (FunctionName × ℕ)) (i x n : FunctionName) (k : ℕ) → n ≡ x
    → looked_up new i ≡ cond (is_eq (names_cmp n i)) (Some k) (looked_up old i)
    → first_at new i ≡ cond (has_names i x) (Some k) (first_at old i)
put_at old new i x n k q h =
    at_names new i ∙ h
    ∙ ap (λ o. cond (is_eq (names_cmp n i)) (Some k) o) (sym (at_names old i))
    ∙ ap (λ t. cond t (Some k) (first_at old i)) (sym (same_names n i) ∙ ap (λ m. same_text m.module i.module && same_text m.name i.name) q)

-- ---- the entries that are put

abbrev is_named : FunctionName → AdaptedFunc → Bool
is_named i e = has_names i (names_of e)

-- of the entries from the number k on, the first that has the names
abbrev pub first_from : List AdaptedFunc → ℕ → FunctionName → Option ℕ
first_from es k i = position_from (is_named i) k (drop k es)

pub none_first : (first : List (FunctionName × ℕ)) (es : List AdaptedFunc) (k : ℕ) (i : FunctionName) → first ≡ [] → length es ≤ k → first_at first i ≡ first_from es k i
none_first first es k i e l = ap (lookup (asks_for i)) e ∙ sym (ap (position_from (is_named i) k) (drop_all k es l))

pub next_first : (es : List AdaptedFunc) (k j : ℕ) (e : AdaptedFunc) (i : FunctionName) (was now : Option ℕ) → k ≡ j + 1 → j < length es → e ≡ get_or es j e
    → now ≡ cond (is_named i e) (Some j) was → was ≡ first_from es k i → now ≡ first_from es j i
next_first es k j e i was now s l at h w =
    h ∙ ap (λ o. cond (is_named i e) (Some j) o) (w ∙ ap (λ m. first_from es m i) s)
    ∙ ap (λ x. cond (is_named i x) (Some j) (first_from es (j + 1) i)) at ∙ sym (ap (position_from (is_named i) j) (drop_more es j e l))

pub all_first : (es : List AdaptedFunc) (k : ℕ) (i : FunctionName) (o : Option ℕ) → k ≤ 0 → o ≡ first_from es k i → o ≡ position (is_named i) es
all_first es k i o z h =
    let e : k ≡ 0 = omega arith in h ∙ ap (λ m. first_from es m i) e ∙ sym (position_from-zero (is_named i) es)
