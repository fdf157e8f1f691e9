-- The tokens of an expression in front of others.
use Rattle.std.proofs.Common.{◌≡◌, List, ◌∷◌, ◌++◌, refl, ap, ◌∙◌}
use Rattle.witx_lex.specs.Tokens.{Token, left, right}
use Rattle.witx_render.specs.Expressions.{SExpr, vec, word, ident, quote, annot as annotation, docs, SExprs, nil, cons}
use Rattle.witx_read_back.specs.PrintedTokens.{expr_tokens, exprs_tokens}

mutual
  pub expr_more : (e : SExpr) (xs ys : List Token) → expr_tokens e (xs ++ ys) ≡ expr_tokens e xs ++ ys
  expr_more (vec es) xs ys = ap (λ (l : List Token). left ∷ l) (exprs_more es (right ∷ xs) ys)
  expr_more (word s) xs ys = refl
  expr_more (ident s) xs ys = refl
  expr_more (quote s) xs ys = refl
  expr_more (annotation s) xs ys = refl
  expr_more (docs d e) xs ys = expr_more e xs ys

  pub exprs_more : (es : SExprs) (xs ys : List Token) → exprs_tokens es (xs ++ ys) ≡ exprs_tokens es xs ++ ys
  exprs_more nil xs ys = refl
  exprs_more (cons e es) xs ys = ap (λ (l : List Token). expr_tokens e l) (exprs_more es xs ys) ∙ expr_more e (exprs_tokens es xs) ys
