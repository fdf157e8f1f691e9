-- A shimmed call: an old function's caller against a new function's callee. The parameters of the two may
-- stand in another order; the words are those of the old function, and are handed on in the new one's order.
use Rattle.std.specs.Prelude.{◌≡◌, ℕ, ◌+◌, List, [], ◌∷◌, ◌++◌, length, position, Option, Some, option_map, option_and_then}
use Rattle.std.specs.List.{concat}
use Rattle.witx_ast.specs.Tree.{Tree, Field}
use Rattle.witx_base.specs.SameBytes.{same_bytes}
use Rattle.witx_ast.specs.Plain.{plain}
use Rattle.witx_machine.specs.Events.{Event}
use Rattle.witx_machine.specs.Functions.{Function}
use Rattle.witx_machine.specs.Signature.{param_words, words_of_params, return_pointers}
use Rattle.witx_machine.specs.Run.{numbers, picked_in_order}
use Rattle.witx_machine.specs.Faithful.{FaithfulTo}

-- alike types, pair by pair
abbrev pub Alike : List Tree → List Tree → Type 0
Alike [] [] = Unit {0}
Alike (t ∷ ts) (u ∷ us) = (plain t ≡ plain u) × Alike ts us
Alike [] (u ∷ us) = ⊥
Alike (t ∷ ts) [] = ⊥

-- The new function has the old one's ABI, alike results, and alike parameters in this order: the i-th number is that of the old parameter for the i-th new one
pub record StandsIn (order : List ℕ) (old new : Function) : Type 0 where
  pub abi : old.abi ≡ new.abi
  pub ordered : List Tree
  pub params : picked_in_order order old.params ≡ Some ordered
  pub alike : Alike ordered new.params
  pub results : Alike old.results new.results

-- the number of the old parameter of each new one's name
abbrev pub order_by_name : (old new : List Field) → Option (List ℕ)
order_by_name old [] = Some []
order_by_name old (p ∷ ps) =
    option_and_then (λ i. option_and_then (λ is. Some (i ∷ is)) (order_by_name old ps)) (position (λ q. same_bytes q.called p.called) old)

-- the numbers of each parameter's words, from the w-th on
abbrev pub word_numbers : ℕ → List Tree → List (List ℕ)
word_numbers w [] = []
word_numbers w (t ∷ ts) = numbers w (length (param_words (plain t))) ∷ word_numbers (w + length (param_words (plain t))) ts

-- the numbers of the old words in the order in which the new callee gets them: those of the parameters in this order, then the return pointers
abbrev pub pass : List ℕ → Function → Option (List ℕ)
pass order old =
    option_map (λ params. concat params ++ numbers (length (words_of_params old.params)) (length (return_pointers old)))
    (picked_in_order order (word_numbers 0 old.params))

-- FAITHFUL THROUGH A SHIM that hands on the words of these numbers, for an old function of the module m and a new one of the module n
abbrev pub FaithfulThrough : (m n : List ℕ) → (old new : Function) → (order words : List ℕ) → (caller callee : List Event) → Type 0
FaithfulThrough m n old new order words = FaithfulTo m old (record { module_name = n; function = new; order = words }) (picked_in_order order)
