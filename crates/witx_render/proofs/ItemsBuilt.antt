-- What a loop has built of a list, with what is still to be built, is the whole: one item more, one passed over, the end.
use Rattle.std.proofs.Common.{◌≡◌, ℕ, ◌+◌, ◌<◌, ◌≤◌, Bool, true, false, cond, List, [], ◌∷◌, ◌++◌, length, get_or, map, drop, refl, sym, ap, ◌∙◌, append_assoc, append-nil}
use Rattle.std.specs.Prelude.{filter}
use Rattle.std.proofs.lemmas.List.{drop_more, drop_all, map-append}
use Rattle.witx_render.specs.declared.expression.SExpr as code
use Rattle.witx_render.specs.Expressions.{SExpr}
use Rattle.witx_render.specs.ExpressionViews.{expr_view}

pub map_drop_more : {A B : Type 0} (f : A → B) (xs : List A) (i : ℕ) (x : A) → i < length xs → x ≡ get_or xs i x → map f (drop i xs) ≡ f x ∷ map f (drop (i + 1) xs)
map_drop_more f xs i x l p = ap (map f) (drop_more xs i x l ∙ ap (λ y. y ∷ drop (i + 1) xs) (sym p))

-- an item at the end
pub one_more : (items : List code.SExpr) (e : code.SExpr) (v : SExpr) (rest n : List SExpr) → expr_view e ≡ v
    → map expr_view items ++ v ∷ rest ≡ n → map expr_view (items ++ e ∷ []) ++ rest ≡ n
one_more items e v rest n p q =
    ap (λ k. k ++ rest) (map-append expr_view items (e ∷ []))
    ∙ append_assoc (map expr_view items) (expr_view e ∷ []) rest
    ∙ ap (λ x. map expr_view items ++ x ∷ rest) p
    ∙ q

pub next-shown : {A B : Type 0} (g : B → SExpr) (h : A → B) (xs : List A) (i : ℕ) (a : A) (items : List code.SExpr) (e : code.SExpr) (n : List SExpr)
    → i < length xs → a ≡ get_or xs i a → expr_view e ≡ g (h a)
    → map expr_view items ++ map g (map h (drop i xs)) ≡ n
    → map expr_view (items ++ e ∷ []) ++ map g (map h (drop (i + 1) xs)) ≡ n
next-shown g h xs i a items e n l p v q =
    one_more items e (g (h a)) (map g (map h (drop (i + 1) xs))) n v
    (ap (λ k. map expr_view items ++ map g k) (sym (map_drop_more h xs i a l p)) ∙ q)

pub all-shown : {A B : Type 0} (g : B → SExpr) (h : A → B) (xs : List A) (i : ℕ) (items n : List SExpr)
    → length xs ≤ i → items ++ map g (map h (drop i xs)) ≡ n → items ≡ n
all-shown g h xs i items n l q = sym (append-nil items) ∙ ap (λ k. items ++ map g (map h k)) (sym (drop_all i xs l)) ∙ q

module _ {A B : Type 0} (test : B → Bool) (h : A → B) (xs : List A) (i : ℕ) where
  -- the next one is picked, or passed over
  pub picked_next : (a : A) → i < length xs → a ≡ get_or xs i a → test (h a) ≡ true → filter test (map h (drop i xs)) ≡ h a ∷ filter test (map h (drop (i + 1) xs))
  picked_next a l p t =
      ap (filter test) (map_drop_more h xs i a l p)
      ∙ ap (λ b. cond b (h a ∷ filter test (map h (drop (i + 1) xs))) (filter test (map h (drop (i + 1) xs)))) t

  pub passed_next : (a : A) → i < length xs → a ≡ get_or xs i a → test (h a) ≡ false → filter test (map h (drop i xs)) ≡ filter test (map h (drop (i + 1) xs))
  passed_next a l p t =
      ap (filter test) (map_drop_more h xs i a l p)
      ∙ ap (λ b. cond b (h a ∷ filter test (map h (drop (i + 1) xs))) (filter test (map h (drop (i + 1) xs)))) t

  pub picked_all : length xs ≤ i → filter test (map h (drop i xs)) ≡ []
  picked_all l = ap (λ k. filter test (map h k)) (drop_all i xs l)
