-- What a derivation stands for: the values of its tokens, put together production by production.
use Rattle.std.specs.Prelude.{ℕ, suc, List, [], ◌∷◌, ◌++◌}
use Rattle.witx_grammar.specs.declared.table.Step.{Step}
use Rattle.witx_grammar.specs.declared.table.Step.TheVariants.{Leaf, Node}

-- The values of steps that read the tokens of the list. A token stands for the values that leaf says, and for none behind the end of the list;
-- a production makes a value of those of what it is written by, which stand first, and sees the tokens from its own first one on.
abbrev pub values : {L P V : Type 0} → (L → List V) → (P → List L → List V → List V) → List (Step P) → List L → List V
values leaf act [] ls = []
values leaf act (Leaf ∷ ms) [] = values leaf act ms []
values leaf act (Leaf ∷ ms) (l ∷ ls) = leaf l ++ values leaf act ms ls
values leaf act (Node p ∷ ms) ls = act p ls (values leaf act ms ls)

-- how many tokens steps read
abbrev pub leaf_count : {P : Type 0} → List (Step P) → ℕ
leaf_count [] = 0
leaf_count (Leaf ∷ ms) = suc (leaf_count ms)
leaf_count (Node p ∷ ms) = leaf_count ms
