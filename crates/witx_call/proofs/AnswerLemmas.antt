-- What is answered of a run: the parts of its outcome.
use Rattle.std.proofs.Common.{◌≡◌, ℕ, ◌+◌, ◌<◌, ◌≤◌, refl, sym, ap, ◌∙◌, arith, List, [], ◌∷◌, ◌++◌, map, length, drop, get_or, append-nil, append_assoc, Option, Some, None, option_and_then, option_to_list}
use Rattle.std.proofs.lemmas.List.{drop_more, drop_all, map-append}
use Rattle.std.specs.Prelude.{IsSome, ◌↔◌, ◌⊎◌}
use Rattle.std.proofs.Common.{inl, inr}
use Rattle.std.specs.declared.alloc.Global.{Global}
use Rattle.std.specs.declared.rc.Rc.{Rc}
use Rattle.witx_ast.specs.Values as plain_values
use Rattle.witx_ast.specs.declared.types.NamedType.{NamedType}
use Rattle.witx_machine.specs.Run.{values_in}
use Rattle.witx_bytes.specs.Seen.{seen}
use Rattle.witx_bytes.specs.declared.value.Value.{Value}
use Rattle.witx_run.specs.Views.{items_of}
use Rattle.witx_run.specs.declared.item.Item.{Item}
use Rattle.witx_run.specs.declared.item.Item.TheVariants as item
use Rattle.witx_call.specs.CallSeen.{placed_of}
use Rattle.witx_call.specs.RangeViews.{taken_of}
use Rattle.witx_call.specs.Ranges.{ranges}
use Rattle.witx_call.specs.WordViews.{word_view}
use Rattle.witx_call.specs.declared.call_seen.Placed.{Placed}
use Rattle.witx_call.specs.declared.range.Range.{Range}
use Rattle.witx_call.specs.declared.word.Word.{Word}

-- the value of an item that was taken off
abbrev pub value_off : Option (Item Value Word) → Option plain_values.Value
value_off (Some (item.Value v n)) = Some (seen v)
value_off (Some (item.Word w)) = None
value_off None = None

-- one value alone, or nothing
abbrev IsOne : List (Item Value Word) → Option plain_values.Value → Type 0
IsOne xs reply = ((xs ≡ []) × (None ≡ reply)) ⊎ ((v : Value) × (n : Option (Rc NamedType Global)) × (xs ≡ item.Value v n ∷ []) × (Some (seen v) ≡ reply))

is-one : (xs : List (Item Value Word)) (reply : Option plain_values.Value) → values_in (items_of seen word_view xs) ≡ Some (option_to_list reply) → IsOne xs reply
is-one [] None e = inl (refl, refl)
is-one [] (Some r) e = absurd (no e)
  where
    no : Some [] ≡ Some (r ∷ []) → ⊥
    no e = cc
is-one (item.Word w ∷ xs) reply e = absurd (no e)
  where
    no : None ≡ Some (option_to_list reply) → ⊥
    no e = cc
is-one (item.Value v n ∷ []) None e = absurd (no e)
  where
    no : Some (seen v ∷ []) ≡ Some [] → ⊥
    no e = cc
is-one (item.Value v n ∷ []) (Some r) e = inr (v, n, refl, same e)
  where
    same : Some (seen v ∷ []) ≡ Some (r ∷ []) → Some (seen v) ≡ Some r
    same e = cc
is-one (item.Value v n ∷ item.Word w ∷ xs) reply e = absurd (no e)
  where
    no : None ≡ Some (option_to_list reply) → ⊥
    no e = cc
is-one (item.Value v n ∷ item.Value u k ∷ xs) reply e = absurd (no (values_in (items_of seen word_view xs)) reply e)
  where
    no : (o : Option (List plain_values.Value)) (reply : Option plain_values.Value) →
        option_and_then (λ vs. Some (seen v ∷ vs)) (option_and_then (λ vs. Some (seen u ∷ vs)) o) ≡ Some (option_to_list reply) → ⊥
    no None reply e = cc
    no (Some vs) None e = cc
    no (Some vs) (Some r) e = cc

-- what is taken off the end
last-of : (rest : List (Item Value Word)) (p : Option (Item Value Word)) (v : Value) (n : Option (Rc NamedType Global)) → item.Value v n ∷ [] ≡ rest ++ option_to_list p → IsSome p → Some (seen v) ≡ value_off p
last-of rest None v n e h = absurd (no h)
  where
    no : IsSome {T = Item Value Word} None → ⊥
    no e = cc
last-of [] (Some x) v n e h = same x e
  where
    same : (x : Item Value Word) → item.Value v n ∷ [] ≡ x ∷ [] → Some (seen v) ≡ value_off (Some x)
    same (item.Word w) e = absurd (no e)
      where
        no : item.Value v n ∷ [] ≡ item.Word w ∷ [] → ⊥
        no e = cc
    same (item.Value u k) e = cc
last-of (y ∷ rest) (Some x) v n e h = absurd (no rest e)
  where
    no : (rest : List (Item Value Word)) → item.Value v n ∷ [] ≡ y ∷ (rest ++ x ∷ []) → ⊥
    no [] e = cc
    no (z ∷ rest) e = cc

pub returned-value : (xs rest : List (Item Value Word)) (p : Option (Item Value Word)) → xs ≡ rest ++ option_to_list p → (IsSome p ↔ (0 < length xs))
    → (reply : Option plain_values.Value) → values_in (items_of seen word_view xs) ≡ Some (option_to_list reply) → value_off p ≡ reply
returned-value xs rest p e some reply h = by (is-one xs reply h)
  where
    none : (p : Option (Item Value Word)) → (IsSome p → 0 < length xs) → xs ≡ [] → value_off p ≡ None
    none None k f = refl
    none (Some x) k f =
        let one : 0 < length xs = k refl in
        let zero : length xs ≡ 0 = ap length f in
        absurd (omega (arith, one, zero))

    by : IsOne xs reply → value_off p ≡ reply
    by (inl (f, g)) = none p some.0 f ∙ g
    by (inr (v, n, f, g)) =
        let one : length xs ≡ 1 = ap length f in
        sym (last-of rest p v n (sym f ∙ e) (some.1 (omega (arith, one)))) ∙ g

-- one more of the ranges
pub one-placed : (made new : List Placed) (xs : List Range) (i : ℕ) (x : Range) (y : Placed) → i < length xs → x ≡ get_or xs i x → y ≡ record { at = x.at; len = x.len } → new ≡ made ++ y ∷ []
    → map placed_of made ++ ranges (taken_of (drop i xs)) ≡ ranges (taken_of xs) → map placed_of new ++ ranges (taken_of (drop (i + 1) xs)) ≡ ranges (taken_of xs)
one-placed made new xs i x y l p q e h =
    ap (λ l. map placed_of l ++ ranges (taken_of (drop (i + 1) xs))) e
    ∙ ap (λ l. l ++ ranges (taken_of (drop (i + 1) xs))) (map-append placed_of made (y ∷ []))
    ∙ append_assoc (map placed_of made) (placed_of y ∷ []) (ranges (taken_of (drop (i + 1) xs)))
    ∙ ap (λ z. map placed_of made ++ z ∷ ranges (taken_of (drop (i + 1) xs))) (ap placed_of q ∙ ap (λ n. (x.at, n)) x.sized)
    ∙ sym (ap (λ l. map placed_of made ++ ranges (taken_of l)) (drop_more xs i x l ∙ ap (λ z. z ∷ drop (i + 1) xs) (sym p))) ∙ h

pub all-placed : (made : List Placed) (xs : List Range) (i : ℕ) → length xs ≤ i → map placed_of made ++ ranges (taken_of (drop i xs)) ≡ ranges (taken_of xs) → map placed_of made ≡ ranges (taken_of xs)
all-placed made xs i l h = sym (append-nil (map placed_of made)) ∙ sym (ap (λ l. map placed_of made ++ ranges (taken_of l)) (drop_all i xs l)) ∙ h

pub ruleset range_rules = (one-placed, all-placed)

pub ruleset answer_rules = (returned-value)
