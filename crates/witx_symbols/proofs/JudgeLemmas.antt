-- What a run leaves in doubt.
use Rattle.std.proofs.Common.{◌≡◌, ◌≢◌, Bool, true, false, ◌&&◌, refl, sym, ap, ◌∙◌, arith, List, [], ◌∷◌, length, get_or, Option, Some, None}
use Rattle.std.specs.Prelude.{nat_eq, option_and_then}
use Rattle.std.proofs.Math.Dec.{eqb-suc-zero}
use Rattle.witx_machine.specs.Run.{values_in}
use Rattle.witx_symbols.specs.Symbols.{Symbol, same_symbol, same_symbols, same_members}
use Rattle.witx_symbols.specs.SymbolViews.{symbols_read}
use Rattle.witx_symbols.specs.Verdicts.{are_values}
use Rattle.witx_symbols.specs.WordViews.{Shared, shared_of, shared_symbols}
use Rattle.witx_symbols.specs.OutcomeViews.{symbol_item, symbol_items}
use Rattle.witx_run.specs.declared.item.Item as declared_item
use Rattle.witx_run.specs.declared.item.Item.TheVariants as item
use Rattle.witx_symbols.specs.declared.words.Word as declared_word
use Rattle.witx_symbols.proofs.ReturnLemmas.{return_rules}

-- what lies on a stack
abbrev Laid : Type 0
Laid = declared_item.Item Shared declared_word.Word

-- the same symbols, as a list
pub members-symbols : (a b : List Shared) → same_members (symbols_read a) (symbols_read b) ≡ same_symbols (shared_symbols a) (shared_symbols b)
members-symbols [] [] = refl
members-symbols [] (y ∷ b) = refl
members-symbols (x ∷ a) [] = refl
members-symbols (x ∷ a) (y ∷ b) = ap (λ t. same_symbol (shared_of x) (shared_of y) && t) (members-symbols a b)

-- what is given back
pub nothing-back : (xs : List Laid) → are_values (values_in (symbol_items xs)) [] ≡ nat_eq (length xs) 0
nothing-back [] = refl
nothing-back (item.Word w ∷ xs) = sym (eqb-suc-zero (length xs))
nothing-back (item.Value v n ∷ xs) = go (values_in (symbol_items xs)) ∙ sym (eqb-suc-zero (length xs))
  where
    go : (o : Option (List Symbol)) → are_values (option_and_then (λ vs. Some (shared_of v ∷ vs)) o) [] ≡ false
    go None = refl
    go (Some vs) = refl

pub one-item : (xs : List Laid) (x : Laid) → length xs ≡ 1 → x ≡ get_or xs 0 x → symbol_items xs ≡ symbol_item x ∷ []
one-item [] x l e = absurd (omega arith)
one-item (y ∷ []) x l e = ap (λ i. symbol_item i ∷ []) (sym e)
one-item (y ∷ z ∷ xs) x l e = absurd (omega arith)

pub value-back : (v u : Symbol) → same_symbols (v ∷ []) (u ∷ []) ≡ same_symbol v u
value-back v u = last (same_symbol v u)
  where
    last : (b : Bool) → b && true ≡ b
    last true = refl
    last false = refl

pub other-back : (xs : List Laid) (u : Symbol) → length xs ≢ 1 → are_values (values_in (symbol_items xs)) (u ∷ []) ≡ false
other-back [] u n = refl
other-back (x ∷ []) u n = absurd (n refl)
other-back (item.Word w ∷ y ∷ xs) u n = refl
other-back (item.Value v k ∷ item.Word w ∷ xs) u n = refl
other-back (item.Value v k ∷ item.Value z l ∷ xs) u n = go (values_in (symbol_items xs))
  where
    none : (b : Bool) → b && false ≡ false
    none true = refl
    none false = refl

    go : (o : Option (List Symbol)) → are_values (option_and_then (λ vs. Some (shared_of v ∷ vs)) (option_and_then (λ vs. Some (shared_of z ∷ vs)) o)) (u ∷ []) ≡ false
    go None = refl
    go (Some vs) = none (same_symbol (shared_of v) u)

pub ruleset judge_rules = (return_rules, members-symbols, nothing-back, one-item, value-back, other-back)
