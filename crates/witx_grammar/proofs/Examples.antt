-- Derivations, values and faults of some lists of tokens by computation, in the grammar of nested lists:
-- a text is items up to its end, an item is a word or a list of items up to its closing parenthesis.
use Rattle.std.proofs.Common.{◌≡◌, ℕ, ◌+◌, Bool, true, false, ◌==◌, List, [], ◌∷◌, Option, Some, None, refl, ap, arith, inl, inr}
use Rattle.witx_grammar.specs.declared.table.Symbol.TheVariants.{Terminal, Nonterminal}
use Rattle.witx_grammar.specs.declared.table.Step.TheVariants.{Leaf, Node}
use Rattle.witx_grammar.specs.declared.table.TheConstants.{DEPTH}
use Rattle.witx_grammar.specs.Grammar.{Rewrite, Wants}
use Rattle.witx_grammar.specs.Prediction.{all_lead, all_grounded, are_distinct, names}
use Rattle.witx_grammar.specs.Reading.{values}
use Rattle.witx_grammar.specs.Search.{Found, search_fault}
use Rattle.witx_grammar.proofs.Makes.{Language, Reads, stop, the_end, silent, telling, inner, outer, by}

data Token : Type 0 where
  open_token : Token
  close : Token
  word : Token
  finish : Token

data Phrase : Type 0 where
  text : Phrase
  item : Phrase
  items : Phrase

data Name : Type 0 where
  no_text : Name
  more_text : Name
  a_word : Name
  a_list : Name
  no_items : Name
  more_items : Name

abbrev token_place : Token → ℕ
token_place open_token = 0
token_place close = 1
token_place word = 2
token_place finish = 3

abbrev phrase_place : Phrase → ℕ
phrase_place text = 0
phrase_place item = 1
phrase_place items = 2

abbrev name_place : Name → ℕ
name_place no_text = 0
name_place more_text = 1
name_place a_word = 2
name_place a_list = 3
name_place no_items = 4
name_place more_items = 5

abbrev is_token : Token → Token → Bool
is_token a b = token_place a == token_place b

abbrev is_phrase : Phrase → Phrase → Bool
is_phrase a b = phrase_place a == phrase_place b

abbrev is_name : Name → Name → Bool
is_name a b = name_place a == name_place b

abbrev line : Phrase → Name → Wants Token Phrase → Rewrite Token Phrase Name
line f p w = record { nonterminal = f; name = p; symbols = w }

abbrev text_ends : Rewrite Token Phrase Name
text_ends = line text no_text (Terminal finish ∷ [])

abbrev text_goes_on : Rewrite Token Phrase Name
text_goes_on = line text more_text (Nonterminal item ∷ Nonterminal text ∷ [])

abbrev word_line : Rewrite Token Phrase Name
word_line = line item a_word (Terminal word ∷ [])

abbrev list_line : Rewrite Token Phrase Name
list_line = line item a_list (Terminal open_token ∷ Nonterminal items ∷ [])

abbrev list_ends : Rewrite Token Phrase Name
list_ends = line items no_items (Terminal close ∷ [])

abbrev list_goes_on : Rewrite Token Phrase Name
list_goes_on = line items more_items (Nonterminal item ∷ Nonterminal items ∷ [])

abbrev nested : List (Rewrite Token Phrase Name)
nested = text_ends ∷ text_goes_on ∷ word_line ∷ list_line ∷ list_ends ∷ list_goes_on ∷ []

-- ---- the grammar is predictive, and these are not

names_are_distinct : are_distinct is_name (names nested) ≡ true
names_are_distinct = refl

nested_leads : all_lead is_token is_phrase is_name nested nested ≡ true
nested_leads = refl

nested_is_grounded : all_grounded is_phrase nested nested ≡ true
nested_is_grounded = refl

-- two productions of items begin with the same token
begin_alike : all_lead is_token is_phrase is_name (word_line ∷ line item a_list (Terminal word ∷ Terminal word ∷ []) ∷ []) (word_line ∷ line item a_list (Terminal word ∷ Terminal word ∷ []) ∷ []) ≡ false
begin_alike = refl

-- items begin with items
begins_with_itself : all_grounded is_phrase (line items more_items (Nonterminal items ∷ Terminal word ∷ []) ∷ []) (line items more_items (Nonterminal items ∷ Terminal word ∷ []) ∷ []) ≡ false
begins_with_itself = refl

-- an item that is nothing
is_nothing_at_all : all_grounded is_phrase (line item a_word [] ∷ []) (line item a_word [] ∷ []) ≡ false
is_nothing_at_all = refl

-- ---- faults

abbrev fault_of : List Token → Option (Found Token)
fault_of ts = search_fault is_token is_phrase nested DEPTH ((Nonterminal text ∷ []) ∷ []) 0 ts

good : fault_of (open_token ∷ word ∷ open_token ∷ close ∷ close ∷ finish ∷ []) ≡ None
good = refl

-- a closing parenthesis too many
closed_twice : fault_of (open_token ∷ close ∷ close ∷ finish ∷ []) ≡ Some (record { at = 2; expected = finish ∷ word ∷ open_token ∷ [] })
closed_twice = refl

-- the end where a list is open
left_open : fault_of (open_token ∷ finish ∷ []) ≡ Some (record { at = 1; expected = close ∷ word ∷ open_token ∷ [] })
left_open = refl

-- no token, not even the end
nothing : fault_of [] ≡ Some (record { at = 0; expected = finish ∷ word ∷ open_token ∷ [] })
nothing = refl

-- a token behind the end
past_the_end : fault_of (finish ∷ word ∷ []) ≡ Some (record { at = 1; expected = [] })
past_the_end = refl

-- ---- values: a word counts one, and a list as many as its items and the comments in front of it

record Noted : Type 0 where
  pub token : Token
  pub comments : ℕ

abbrev token_count : Token → List ℕ
token_count open_token = []
token_count close = []
token_count word = 1 ∷ []
token_count finish = []

abbrev comments_first : List Noted → ℕ
comments_first [] = 0
comments_first (l ∷ ls) = l.comments

abbrev both : List ℕ → List ℕ
both [] = []
both (a ∷ []) = []
both (a ∷ b ∷ vs) = (a + b) ∷ vs

abbrev and_comments : List Noted → List ℕ → List ℕ
and_comments ls [] = []
and_comments ls (a ∷ vs) = (comments_first ls + a) ∷ vs

abbrev count : Name → List Noted → List ℕ → List ℕ
count no_text ls vs = 0 ∷ vs
count more_text ls vs = both vs
count a_word ls vs = vs
count a_list ls vs = and_comments ls vs
count no_items ls vs = 0 ∷ vs
count more_items ls vs = both vs

abbrev noted : Token → ℕ → Noted
noted t n = record { token = t; comments = n }

-- the list of one word, with two comments in front of it
counted : values (λ l. token_count l.token) count
    (Node more_text ∷ Node a_list ∷ Leaf ∷ Node more_items ∷ Node a_word ∷ Leaf ∷ Node no_items ∷ Leaf ∷ Node no_text ∷ Leaf ∷ [])
    (noted open_token 2 ∷ noted word 5 ∷ noted close 7 ∷ []) ≡ 3 ∷ []
counted = refl

-- ---- the same from the expected tokens, whatever comments they have

abbrev counting : Language Token Phrase Name Noted Token ℕ
counting = record { grammar = nested; token = (λ l. l.token); kind = (λ t. t); leaf = (λ l. token_count l.token); act = count }

abbrev Counts : List Token → List Token → Phrase → (ℕ → Type 0) → Type 0
Counts last xs f Q = Reads counting last xs f ℕ (λ n. n) Q

no_text_counts : Counts (finish ∷ []) [] text (λ n. n ≡ 0)
no_text_counts = by text_ends (inl refl) (the_end (λ ls. (0, (λ vs. refl), refl)))

close_counts : Counts [] (close ∷ []) items (λ n. n ≡ 0)
close_counts = by list_ends (inr (inr (inr (inr (inl refl))))) (silent close refl (λ l e. ap (λ t. token_count t) e) (stop (λ ls. (0, (λ vs. refl), refl))))

word_counts : Counts [] (word ∷ []) item (λ n. n ≡ 1)
word_counts = by word_line (inr (inr (inl refl))) (telling word ℕ (λ n. n) (λ n. n ≡ 1) refl (λ l e. (1, ap (λ t. token_count t) e, refl)) (stop (λ n q ls. (n, (λ vs. refl), q))))

items_count : Counts [] (word ∷ close ∷ []) items (λ n. n ≡ 1)
items_count = by list_goes_on (inr (inr (inr (inr (inr (inl refl)))))) (inner (word ∷ []) refl word_counts (inner (close ∷ []) refl close_counts (stop (λ m p n q ls. (n + m, (λ vs. refl), omega (arith, p, q))))))

list_counts : Counts [] (open_token ∷ word ∷ close ∷ []) item (λ n. (k : ℕ) × (n ≡ k + 1))
list_counts = by list_line (inr (inr (inr (inl refl)))) (silent open_token refl (λ l e. ap (λ t. token_count t) e)
    (inner (word ∷ close ∷ []) refl items_count (stop (λ n q ls. (comments_first ls + n, (λ vs. refl), (comments_first ls, omega (arith, q)))))))

text_counts : Counts (finish ∷ []) (open_token ∷ word ∷ close ∷ []) text (λ n. (k : ℕ) × (n ≡ k + 1))
text_counts = by text_goes_on (inr (inl refl)) (inner (open_token ∷ word ∷ close ∷ []) refl list_counts (outer no_text_counts (λ m p n q ls. (n + m, (λ vs. refl), (q.0, omega (arith, p, q.1))))))
