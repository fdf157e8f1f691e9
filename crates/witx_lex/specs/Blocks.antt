-- Block comments: between `(;` and `;)` stand bytes at which neither mark begins, and whole comments.
-- So an inner comment has its own end, and no end stands before its own; the marks are found from left
-- to right, and `(;)` opens a comment that it does not close.
use Rattle.std.specs.Prelude.{◌≡◌, ℕ, Bool, true, false, not, ◌&&◌, ◌||◌, ◌==◌, IsTrue, List, [], ◌∷◌, ◌++◌}
use Rattle.witx_lex.specs.Characters.{left_paren, right_paren, semicolon, begins}

-- what stands inside a block comment
pub data InsideComment : Type 0 where
  empty : InsideComment
  byte : ℕ → InsideComment → InsideComment  -- a byte, and what follows it
  nested : InsideComment → InsideComment → InsideComment  -- a whole comment with this inside, and what follows it

abbrev pub inside_spelling : InsideComment → List ℕ
inside_spelling empty = []
inside_spelling (byte b more) = b ∷ inside_spelling more
inside_spelling (nested inner more) = left_paren ∷ semicolon ∷ (inside_spelling inner ++ semicolon ∷ right_paren ∷ inside_spelling more)

-- the text begins with (; or with ;)
abbrev pub begins_mark : List ℕ → Bool
begins_mark [] = false
begins_mark (b ∷ text) = (b == left_paren && begins (λ c. c == semicolon) text) || (b == semicolon && begins (λ c. c == right_paren) text)

-- at none of its bytes outside inner comments begins a mark, with the ;) of the comment behind
abbrev pub is_inside : InsideComment → Bool
is_inside empty = true
is_inside (byte b more) = not (begins_mark (b ∷ (inside_spelling more ++ semicolon ∷ right_paren ∷ []))) && is_inside more
is_inside (nested inner more) = is_inside inner && is_inside more

-- the text stands inside a block comment
abbrev pub IsBlockText : List ℕ → Type 0
IsBlockText text = (inside : InsideComment) × IsTrue (is_inside inside) × (text ≡ inside_spelling inside)

-- no front of the text is the inside of a block comment with its ;) behind
abbrev pub HasNoEnd : List ℕ → Type 0
HasNoEnd text = (t rest : List ℕ) → IsBlockText t → text ≡ t ++ semicolon ∷ right_paren ∷ rest → ⊥
