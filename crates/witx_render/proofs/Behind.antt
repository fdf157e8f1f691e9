-- The text behind some expressions, one expression more.
use Rattle.std.proofs.Common.{◌≡◌, ℕ, ◌+◌, ◌<◌, List, [], ◌∷◌, ◌++◌, map, take, length, get_or, refl, sym, ap, ◌∙◌}
use Rattle.std.proofs.lemmas.List.{take_more, append_assoc, append-nil}
use Rattle.witx_render.specs.declared.expression.SExpr as code
use Rattle.witx_render.specs.Expressions.{SExpr, exprs_of, text_of, text_behind}
use Rattle.witx_render.specs.ExpressionViews.{expr_view, exprs_view}

behind_append : (xs : List SExpr) (e : SExpr) → text_behind (exprs_of xs) ++ 32 ∷ text_of e ≡ text_behind (exprs_of (xs ++ e ∷ []))
behind_append [] e = ap (λ (l : List ℕ). 32 ∷ l) (sym (append-nil (text_of e)))
behind_append (x ∷ xs) e = ap (λ (l : List ℕ). 32 ∷ l) (append_assoc (text_of x) (text_behind (exprs_of xs)) (32 ∷ text_of e) ∙ ap (λ (l : List ℕ). text_of x ++ l) (behind_append xs e))

view_append : (xs : List code.SExpr) (x : code.SExpr) → map expr_view (xs ++ x ∷ []) ≡ map expr_view xs ++ expr_view x ∷ []
view_append [] x = refl
view_append (y ∷ xs) x = ap (λ (l : List SExpr). expr_view y ∷ l) (view_append xs x)

-- with the expression at the place
pub behind_more : (xs : List code.SExpr) (i : ℕ) (d x : code.SExpr) → i < length xs → get_or xs i d ≡ x → text_behind (exprs_view (take i xs)) ++ (32 ∷ [] ++ text_of (expr_view x)) ≡ text_behind (exprs_view (take (i + 1) xs))
behind_more xs i d x lt e =
    behind_append (map expr_view (take i xs)) (expr_view x)
    ∙ ap (λ (l : List SExpr). text_behind (exprs_of l)) (sym (view_append (take i xs) x))
    ∙ ap (λ (l : List code.SExpr). text_behind (exprs_view l)) (ap (λ (y : code.SExpr). take i xs ++ y ∷ []) (sym e) ∙ sym (take_more xs i d lt))
