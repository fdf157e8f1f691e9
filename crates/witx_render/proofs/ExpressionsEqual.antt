-- An expression that reads as another one, as a copy does, is equal to it.
use Rattle.std.specs.Prelude.{◌≡◌, ℕ, List, [], ◌∷◌, true, ◌&&◌, ◌==◌, map, refl}
use Rattle.std.proofs.Common.{ap, sym, subst, ◌∙◌}
use Rattle.std.specs.Cmp.Lexicographic.{pointwise}
use Rattle.std.specs.Global.{Box}
use Rattle.witx_base.specs.SameBytes.{bytes-self}
use Rattle.witx_ast.proofs.HeldCopies.{both-hold}
use Rattle.witx_render.specs.Expressions.{SExpr, exprs_of}
use Rattle.witx_render.specs.ExpressionViews.{expr_step, expr_view}
use Rattle.witx_render.specs.declared.expression.SExpr as code
use Rattle.witx_render.specs.declared.expression.SExpr.{out-SExpr, roll-SExpr, roll-out-SExpr, map-SExpr}
use Rattle.witx_render.specs.declared.expression.SExpr.TheOpen.{SExpr-F}
use Rattle.witx_render.specs.declared.expression.SExpr.TheVariants as variant
use Rattle.witx_render.specs.declared.expression.SExpr.TheFolds.{fold-roll-SExpr, ind-SExpr}
use Rattle.witx_render.specs.contracts.expression.SExprPartialEq.TheImpl as exprs
use Rattle.witx_render.specs.contracts.expression.SExprPartialEq.TheImpl.Laws as laws

-- how each kind is compared
equal-vec : (xs ys : List code.SExpr) → exprs.ghosts.eq (variant.Vec xs) (variant.Vec ys) ≡ pointwise exprs.ghosts.eq xs ys
equal-vec xs ys = laws.is (variant.Vec xs) (variant.Vec ys) ∙ (rw (variant.outs-Vec xs, variant.outs-Vec ys) refl)

equal-word : (t u : List ℕ) → exprs.ghosts.eq (variant.Word t) (variant.Word u) ≡ pointwise (λ b c. b == c) t u
equal-word t u = laws.is (variant.Word t) (variant.Word u) ∙ (rw (variant.outs-Word t, variant.outs-Word u) refl)

equal-ident : (t u : List ℕ) → exprs.ghosts.eq (variant.Ident t) (variant.Ident u) ≡ pointwise (λ b c. b == c) t u
equal-ident t u = laws.is (variant.Ident t) (variant.Ident u) ∙ (rw (variant.outs-Ident t, variant.outs-Ident u) refl)

equal-quote : (t u : List ℕ) → exprs.ghosts.eq (variant.Quote t) (variant.Quote u) ≡ pointwise (λ b c. b == c) t u
equal-quote t u = laws.is (variant.Quote t) (variant.Quote u) ∙ (rw (variant.outs-Quote t, variant.outs-Quote u) refl)

equal-annot : (t u : List ℕ) → exprs.ghosts.eq (variant.Annot t) (variant.Annot u) ≡ pointwise (λ b c. b == c) t u
equal-annot t u = laws.is (variant.Annot t) (variant.Annot u) ∙ (rw (variant.outs-Annot t, variant.outs-Annot u) refl)

equal-docs : (t u : List ℕ) (a b : Box code.SExpr) → exprs.ghosts.eq (variant.Docs t a) (variant.Docs u b) ≡ pointwise (λ b c. b == c) t u && exprs.ghosts.eq a.value b.value
equal-docs t u a b = laws.is (variant.Docs t a) (variant.Docs u b) ∙ (rw (variant.outs-Docs t a, variant.outs-Docs u b) refl)

texts-equal : (t u : List ℕ) → t ≡ u → pointwise (λ b c. b == c) t u ≡ true
texts-equal t u e = rw e (bytes-self u)

-- each expression that reads as this one is equal to it
abbrev IsEqualToAlike : code.SExpr → Type 0
IsEqualToAlike e = (c : code.SExpr) → expr_view c ≡ expr_view e → exprs.ghosts.eq c e ≡ true

abbrev Known : Type 0
Known = (e : code.SExpr) × IsEqualToAlike e

-- what an expression reads as, by its outermost layer
view-roll : (x : SExpr-F code.SExpr) → expr_view (roll-SExpr x) ≡ expr_step (map-SExpr code.SExpr SExpr expr_view x)
unfolding expr_view
view-roll x = fold-roll-SExpr SExpr expr_step x

lists-equal : (xs : List code.SExpr) (ks : List Known) → exprs_of (map expr_view xs) ≡ exprs_of (map expr_view (map (λ k. k.0) ks))
    → pointwise exprs.ghosts.eq xs (map (λ k. k.0) ks) ≡ true
lists-equal [] [] h = refl
lists-equal (x ∷ xs) (k ∷ ks) h = both-hold (exprs.ghosts.eq x k.0) (pointwise exprs.ghosts.eq xs (map (λ k. k.0) ks)) (k.1 x (cc)) (lists-equal xs ks (cc))
lists-equal _ _ h = absurd (cc)

notes-equal : (t u : List ℕ) (a b : Box code.SExpr) → t ≡ u → exprs.ghosts.eq a.value b.value ≡ true
    → exprs.ghosts.eq (roll-SExpr (SExpr-F.Docs t a)) (roll-SExpr (SExpr-F.Docs u b)) ≡ true
notes-equal t u a b e h =
    rw (variant.rolls-Docs t a, variant.rolls-Docs u b) (equal-docs t u a b ∙ both-hold (pointwise (λ b c. b == c) t u) (exprs.ghosts.eq a.value b.value) (texts-equal t u e) h)

layers-equal : (x : SExpr-F code.SExpr) (k : SExpr-F Known) → expr_step (map-SExpr code.SExpr SExpr expr_view x) ≡ expr_step (map-SExpr code.SExpr SExpr expr_view (map-SExpr Known code.SExpr (λ k. k.0) k))
    → exprs.ghosts.eq (roll-SExpr x) (roll-SExpr (map-SExpr Known code.SExpr (λ k. k.0) k)) ≡ true
layers-equal (SExpr-F.Vec xs) (SExpr-F.Vec ks) h = rw (variant.rolls-Vec xs, variant.rolls-Vec (map (λ k. k.0) ks)) (equal-vec xs (map (λ k. k.0) ks) ∙ lists-equal xs ks (cc))
layers-equal (SExpr-F.Word t) (SExpr-F.Word u) h = rw (variant.rolls-Word t, variant.rolls-Word u) (equal-word t u ∙ texts-equal t u (cc))
layers-equal (SExpr-F.Ident t) (SExpr-F.Ident u) h = rw (variant.rolls-Ident t, variant.rolls-Ident u) (equal-ident t u ∙ texts-equal t u (cc))
layers-equal (SExpr-F.Quote t) (SExpr-F.Quote u) h = rw (variant.rolls-Quote t, variant.rolls-Quote u) (equal-quote t u ∙ texts-equal t u (cc))
layers-equal (SExpr-F.Annot t) (SExpr-F.Annot u) h = rw (variant.rolls-Annot t, variant.rolls-Annot u) (equal-annot t u ∙ texts-equal t u (cc))
layers-equal (SExpr-F.Docs t a) (SExpr-F.Docs u k) h = notes-equal t u a _ (cc) (k.value.1 a.value (cc))
layers-equal _ _ h = absurd (cc)

pub read-equal : (e c : code.SExpr) → expr_view c ≡ expr_view e → exprs.ghosts.eq c e ≡ true
read-equal = ind-SExpr IsEqualToAlike (λ x k is. subst (λ z. IsEqualToAlike (roll-SExpr z)) is (λ c h.
    subst (λ d. exprs.ghosts.eq d (roll-SExpr (map-SExpr Known code.SExpr (λ k. k.0) k)) ≡ true) (roll-out-SExpr c)
    (layers-equal (out-SExpr c) k (sym (view-roll (out-SExpr c)) ∙ ap expr_view (roll-out-SExpr c) ∙ h ∙ view-roll (map-SExpr Known code.SExpr (λ k. k.0) k)))))
