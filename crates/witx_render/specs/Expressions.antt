-- S-expressions, and the text of each.
-- A list stands in parentheses with one blank between its items; a word is its text; an identifier has `$` before it, an
-- annotation `@`; a quoted text stands in double quotes as it is; documentation is a block comment before its expression.
use Rattle.std.specs.Prelude.{ℕ, List, [], ◌∷◌, ◌++◌}

mutual
  pub data SExpr : Type 0 where
    vec : SExprs → SExpr
    word : List ℕ → SExpr
    ident : List ℕ → SExpr
    quote : List ℕ → SExpr
    annot : List ℕ → SExpr
    docs : List ℕ → SExpr → SExpr

  pub data SExprs : Type 0 where
    nil : SExprs
    cons : SExpr → SExprs → SExprs

abbrev pub ◌▹◌ : SExpr → SExprs → SExprs
◌▹◌ = cons

infixr 20 ◌▹◌
-- the expressions of a list
abbrev pub exprs_of : List SExpr → SExprs
exprs_of [] = nil
exprs_of (e ∷ es) = e ▹ exprs_of es

-- an expression with its documentation, if there is any
abbrev pub with_docs : List ℕ → SExpr → SExpr
with_docs [] e = e
with_docs (b ∷ bs) e = docs (b ∷ bs) e

-- the characters by their codes: `(` 40, `)` 41, `$` 36, `"` 34, `@` 64, `;` 59, a blank 32
abbrev mutual
  pub text_of : SExpr → List ℕ
  text_of (vec es) = 40 ∷ (text_of_all es ++ 41 ∷ [])
  text_of (word s) = s
  text_of (ident s) = 36 ∷ s
  text_of (quote s) = 34 ∷ (s ++ 34 ∷ [])
  text_of (annot s) = 64 ∷ s
  text_of (docs d e) = 40 ∷ 59 ∷ 59 ∷ 32 ∷ (d ++ 32 ∷ 59 ∷ 41 ∷ 32 ∷ text_of e)

  -- one after the other, with a blank between
  pub text_of_all : SExprs → List ℕ
  text_of_all nil = []
  text_of_all (cons e es) = text_of e ++ text_behind es

  -- each with a blank before it
  pub text_behind : SExprs → List ℕ
  text_behind nil = []
  text_behind (cons e es) = 32 ∷ (text_of e ++ text_behind es)
