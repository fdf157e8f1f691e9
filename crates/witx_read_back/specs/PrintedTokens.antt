-- The tokens that a printed text has: those of each expression, documentation left out.
use Rattle.std.specs.Prelude.{ℕ, List, [], ◌∷◌, map}
use Rattle.witx_lex.specs.Tokens.{Token, left, right, id, annot, quoted, Lexed}
use Rattle.witx_lex.specs.Meaning.{run_token}
use Rattle.witx_render.specs.Expressions.{SExpr, vec, word, ident, quote, annot as annotation, docs, SExprs, nil, cons}

-- without places and comments
abbrev pub tokens : List Lexed → List Token
tokens ls = map (λ l. l.token) ls

-- in front of other tokens
abbrev mutual
  pub expr_tokens : SExpr → List Token → List Token
  expr_tokens (vec es) more = left ∷ exprs_tokens es (right ∷ more)
  expr_tokens (word s) more = run_token s ∷ more
  expr_tokens (ident s) more = id s ∷ more
  expr_tokens (quote s) more = quoted s ∷ more
  expr_tokens (annotation s) more = annot s ∷ more
  expr_tokens (docs d e) more = expr_tokens e more

  pub exprs_tokens : SExprs → List Token → List Token
  exprs_tokens nil more = more
  exprs_tokens (cons e es) more = expr_tokens e (exprs_tokens es more)

-- of expressions, one after the other
abbrev pub all_tokens : List SExpr → List Token
all_tokens [] = []
all_tokens (e ∷ es) = expr_tokens e (all_tokens es)
