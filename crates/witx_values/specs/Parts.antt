-- What a production makes of the values of its parts, as a function of so many: its parts are of the sorts that its symbols say, and so every case has its answer.
use Rattle.std.specs.Prelude.{List, [], ◌∷◌, Option, Some, None}
use Rattle.witx_values.specs.Language.{Written, wants_sorts}

-- the values for what is there, or none
abbrev pub on_some : {A B : Type 0} → Option A → (A → List B) → List B
on_some None f = []
on_some (Some x) f = f x

-- what is made of values of these sorts, one of each, where the values of a sort are those of a type
abbrev pub Makes : {S : Type 0} → (S → Type 0) → List S → S → Type 0
Makes Of [] s = Of s
Makes Of (r ∷ rs) s = Of r → Makes Of rs s

-- the sorts of values: what a value of each holds, and which sorts tokens and nonterminals stand for
pub record Sorting (T N S V : Type 0) : Type 1 where
  pub Of : S → Type 0
  -- the value that holds this
  pub wrap : (s : S) → Of s → V
  -- what a value holds, if it is of the sort
  pub unwrap : (s : S) → V → Option (Of s)
  pub sort_of : V → S
  pub terminal_sorts : T → List S
  pub nonterminal_sort : N → S

module _ {T N S V : Type 0} (k : Sorting T N S V) where
  -- what is made, in place of the values, which stand first; of values of other sorts, which no derivation has, there is nothing
  abbrev pub made : (rs : List S) (s : S) → Makes k.Of rs s → List V → List V
  made [] s x vs = k.wrap s x ∷ vs
  made (r ∷ rs) s f [] = []
  made (r ∷ rs) s f (v ∷ vs) = on_some (k.unwrap r v) (λ x. made rs s (f x) vs)

  -- what a production that is written so means: a function from values of its parts to the value that it makes
  abbrev pub Meaning : Written T N → Type 0
  Meaning w = Makes k.Of (wants_sorts k.terminal_sorts k.nonterminal_sort w.symbols) (k.nonterminal_sort w.nonterminal)

  -- that value, in place of the values of its parts, which stand first
  abbrev pub in_place : (w : Written T N) → Meaning w → List V → List V
  in_place w f vs = made (wants_sorts k.terminal_sorts k.nonterminal_sort w.symbols) (k.nonterminal_sort w.nonterminal) f vs
