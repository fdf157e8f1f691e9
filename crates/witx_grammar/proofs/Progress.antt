-- How far a derivation has come.
use Rattle.std.proofs.Common.{◌≡◌, ◌≢◌, ℕ, ◌+◌, ◌-◌, ◌*◌, ◌<◌, ◌≤◌, Bool, List, [], ◌∷◌, ◌++◌, length, get_or, take, drop, Some, None, refl, sym, ap, ◌∙◌, subst, arith, append_assoc}
use Rattle.std.proofs.lemmas.List.{drop_more, drop_all, append-nil, length-drop, take_rest}
use Rattle.witx_grammar.specs.declared.table.Symbol.{Symbol}
use Rattle.witx_grammar.specs.declared.table.Symbol.TheVariants.{Terminal, Nonterminal}
use Rattle.witx_grammar.specs.declared.table.Step.{Step}
use Rattle.witx_grammar.specs.declared.table.Step.TheVariants.{Leaf, Node}
use Rattle.witx_grammar.specs.Grammar.{In, Rewrite, Wants, Derives}
use Rattle.witx_grammar.specs.Prediction.{choose}
use Rattle.witx_grammar.proofs.Predicts.{Takes, some_is}
use Rattle.witx_grammar.proofs.Steps.{not_nothing}

-- After these steps w is wanted from the place on: every derivation goes on so.
pub record Sofar {T N P : Type 0} (g : List (Rewrite T N P)) (start : Wants T N) (ts : List T) (w : Wants T N) (steps : List (Step P)) (at : ℕ) : Type 0 where
  pub within : at ≤ length ts
  pub sound : (ns : List (Step P)) → Derives g ns w (drop at ts) → Derives g (steps ++ ns) start ts
  pub complete : (ms : List (Step P)) → Derives g ms start ts → (ns : List (Step P)) × (ms ≡ steps ++ ns) × Derives g ns w (drop at ts)

none_is : {X : Type 0} (x : X) → None ≡ Some x → ⊥
none_is x e = cc

module _ {T N P : Type 0} (g : List (Rewrite T N P)) (start : Wants T N) (ts : List T) where
  pub sofar_start : Sofar g start ts start [] 0
  sofar_start = record { within = (omega arith); sound = (λ ns d. d); complete = (λ ms d. (ms, refl, d)) }

  nothing_from_empty : (t : T) (w : Wants T N) (ns : List (Step P)) → Derives g ns (Terminal t ∷ w) [] → ⊥
  nothing_from_empty t w [] d = not_nothing (Terminal t) w d.1
  nothing_from_empty t w (Leaf ∷ ns) d = d
  nothing_from_empty t w (Node p ∷ ns) d = d

  token_first : (t s : T) (w : Wants T N) (us : List T) (ns : List (Step P)) → Derives g ns (Terminal t ∷ w) (s ∷ us) → (t ≡ s) × (ms : List (Step P)) × (ns ≡ Leaf ∷ ms) × Derives g ms w us
  token_first t s w us [] d = absurd (not_nothing (Terminal t) w d.1)
  token_first t s w us (Leaf ∷ ns) d = (d.0, ns, refl, d.1)
  token_first t s w us (Node p ∷ ns) d = absurd d

  production_first : (f : N) (w : Wants T N) (us : List T) (ns : List (Step P)) → Derives g ns (Nonterminal f ∷ w) us
      → (x : Rewrite T N P) × (ms : List (Step P)) × (ns ≡ Node x.name ∷ ms) × In x g × (x.nonterminal ≡ f) × Derives g ms (x.symbols ++ w) us
  production_first f w us [] d = absurd (not_nothing (Nonterminal f) w d.1)
  production_first f w us (Leaf ∷ ns) d = absurd d
  production_first f w us (Node p ∷ ns) d = (d.0, ns, ap (λ (n : P). Node n ∷ ns) (sym d.3), d.1, d.2, d.4)

  pub sofar_token : (t d : T) (w : Wants T N) (steps : List (Step P)) (at : ℕ) → Sofar g start ts (Terminal t ∷ w) steps at
      → at < length ts → get_or ts at d ≡ t → Sofar g start ts w (steps ++ Leaf ∷ []) (at + 1)
  sofar_token t d w steps at s lt e =
      let split : drop at ts ≡ get_or ts at d ∷ drop (at + 1) ts = drop_more ts at d lt in
      record {
        within = (omega arith);
        sound = (λ ns h. subst (λ (ms : List (Step P)). Derives g ms start ts) (sym (append_assoc steps (Leaf ∷ []) ns))
            (s.sound (Leaf ∷ ns) (subst (λ (xs : List T). Derives g (Leaf ∷ ns) (Terminal t ∷ w) xs) (sym split) (sym e, h))));
        complete = (λ ms h.
            let r = s.complete ms h in
            let l = token_first t (get_or ts at d) w (drop (at + 1) ts) r.0 (subst (λ (xs : List T). Derives g r.0 (Terminal t ∷ w) xs) split r.2) in
            (l.1, r.1 ∙ ap (λ (x : List (Step P)). steps ++ x) l.2 ∙ sym (append_assoc steps (Leaf ∷ []) l.1), l.3));
      }

  pub no_token : (t d : T) (w : Wants T N) (steps : List (Step P)) (at : ℕ) → Sofar g start ts (Terminal t ∷ w) steps at
      → at < length ts → get_or ts at d ≢ t → (ms : List (Step P)) → Derives g ms start ts → ⊥
  no_token t d w steps at s lt ne ms h =
      let r = s.complete ms h in
      let l = token_first t (get_or ts at d) w (drop (at + 1) ts) r.0 (subst (λ (xs : List T). Derives g r.0 (Terminal t ∷ w) xs) (drop_more ts at d lt) r.2) in
      ne (sym l.0)

  pub no_more_tokens : (t : T) (w : Wants T N) (steps : List (Step P)) (at : ℕ) → Sofar g start ts (Terminal t ∷ w) steps at
      → length ts ≤ at → (ms : List (Step P)) → Derives g ms start ts → ⊥
  no_more_tokens t w steps at s past ms h =
      let r = s.complete ms h in
      nothing_from_empty t w r.0 (subst (λ (xs : List T). Derives g r.0 (Terminal t ∷ w) xs) (drop_all at ts past) r.2)

  pub sofar_production : (e : T → T → Bool) (q : N → N → Bool) → Takes e q g → (f : N) (w : Wants T N) (steps : List (Step P)) (at : ℕ) (x : Rewrite T N P)
      → Sofar g start ts (Nonterminal f ∷ w) steps at → choose e q g f (drop at ts) ≡ Some x → In x g → x.nonterminal ≡ f
      → Sofar g start ts (x.symbols ++ w) (steps ++ Node x.name ∷ []) at
  sofar_production e q takes f w steps at x s shown i is =
      record {
        within = s.within;
        sound = (λ ns d. subst (λ (ms : List (Step P)). Derives g ms start ts) (sym (append_assoc steps (Node x.name ∷ []) ns)) (s.sound (Node x.name ∷ ns) (x, i, is, refl, d)));
        complete = (λ ms d.
            let r = s.complete ms d in
            let l = production_first f w (drop at ts) r.0 r.2 in
            let taken : choose e q g f (drop at ts) ≡ Some l.0 = subst (λ (n : N). choose e q g n (drop at ts) ≡ Some l.0) l.4 (takes l.0 w l.1 (drop at ts) l.3 l.5) in
            let same : l.0 ≡ x = some_is l.0 x (sym taken ∙ shown) in (
              l.1,
              r.1 ∙ ap (λ (y : List (Step P)). steps ++ y) l.2 ∙ ap (λ (y : Rewrite T N P). steps ++ Node y.name ∷ l.1) same ∙ sym (append_assoc steps (Node x.name ∷ []) l.1),
              subst (λ (y : Rewrite T N P). Derives g l.1 (y.symbols ++ w) (drop at ts)) same l.5,
            ));
      }

  -- where no production is shown there is no derivation
  pub no_choice : (e : T → T → Bool) (q : N → N → Bool) → Takes e q g → (f : N) (w : Wants T N) (steps : List (Step P)) (at : ℕ)
      → Sofar g start ts (Nonterminal f ∷ w) steps at → choose e q g f (drop at ts) ≡ None → (ms : List (Step P)) → Derives g ms start ts → ⊥
  no_choice e q takes f w steps at s shown ms d =
      let r = s.complete ms d in
      let l = production_first f w (drop at ts) r.0 r.2 in
      let taken : choose e q g f (drop at ts) ≡ Some l.0 = subst (λ (n : N). choose e q g n (drop at ts) ≡ Some l.0) l.4 (takes l.0 w l.1 (drop at ts) l.3 l.5) in
      none_is l.0 (sym shown ∙ taken)

  pub sofar_done : (steps : List (Step P)) (at : ℕ) → Sofar g start ts [] steps at → at ≡ length ts → Derives g steps start ts
  sofar_done steps at s e =
      let past : length ts ≤ at = omega arith in
      subst (λ (ms : List (Step P)). Derives g ms start ts) (append-nil steps) (s.sound [] ((drop_all at ts past), refl))

  nothing_more : (ns : List (Step P)) (us : List T) → Derives g ns [] us → us ≡ []
  nothing_more [] us d = d.0
  nothing_more (n ∷ ns) us d = absurd d

  pub too_many : (steps : List (Step P)) (at : ℕ) → Sofar g start ts [] steps at → at ≢ length ts → (ms : List (Step P)) → Derives g ms start ts → ⊥
  too_many steps at s ne ms d =
      let r = s.complete ms d in
      let e : drop at ts ≡ [] = nothing_more r.0 (drop at ts) r.2 in
      let within : at ≤ length ts = s.within in
      let none : length (drop at ts) ≡ 0 = ap (λ (x : List T). length x) e in
      ne (omega (arith, length-drop at ts))

  pub sofar_next : (old w : Wants T N) (x y : Symbol T N) (steps : List (Step P)) (at : ℕ) → Sofar g start ts old steps at → old ≡ x ∷ w → x ≡ y → Sofar g start ts (y ∷ w) steps at
  sofar_next old w x y steps at s e is = subst (λ (v : Wants T N). Sofar g start ts v steps at) (e ∙ ap (λ (z : Symbol T N). z ∷ w) is) s

pub small_step : (n m a b r : ℕ) → a < r → b ≡ r → n * m + a < n * m + b
small_step n m a b r lt e = omega arith

pub rest_is : {X : Type 0} (ts : List X) (at : ℕ) → take (length ts - at) (drop at ts) ≡ drop at ts
rest_is ts at = take_rest ts at
