-- How far a derivation comes by a production that is chosen: the tokens of its lookahead are read with it.
use Rattle.std.proofs.Common.{◌≡◌, ℕ, zero, suc, ◌+◌, ◌-◌, ◌*◌, ◌<◌, ◌≤◌, Bool, true, List, [], ◌∷◌, ◌++◌, length, get_or, take, drop, replicate, Some, refl, sym, ap, ◌∙◌, subst, inl, inr, arith, append_assoc}
use Rattle.std.specs.Bool.{Decides}
use Rattle.std.proofs.lemmas.Bool.{and_parts, cases_lt}
use Rattle.std.proofs.lemmas.List.{drop_more, drop_all, append-nil}
use Rattle.witx_grammar.specs.declared.table.TheConstants.{DEPTH}
use Rattle.witx_grammar.specs.declared.table.Symbol.TheVariants.{Terminal, Nonterminal}
use Rattle.witx_grammar.specs.declared.table.Step.{Step}
use Rattle.witx_grammar.specs.declared.table.Step.TheVariants.{Leaf, Node}
use Rattle.witx_grammar.specs.declared.table.Symbol.{Symbol}
use Rattle.witx_grammar.specs.declared.table.Production.{Production}
use Rattle.witx_grammar.specs.declared.table.Table.{Table}
use Rattle.witx_grammar.specs.Grammar.{In, Rewrite, Wants, grammar, rewrite_view}
use Rattle.witx_grammar.specs.Prediction.{IsPredictive, choose, begins_with, lookahead}
use Rattle.witx_grammar.proofs.Tables.{grounded}
use Rattle.witx_grammar.proofs.Grounded.{least, least_step}
use Rattle.witx_grammar.proofs.Parts.{takes, shown}
use Rattle.witx_grammar.proofs.Steps.{not_both}
use Rattle.witx_grammar.proofs.Predicts.{Takes}
use Rattle.witx_grammar.proofs.Progress.{Sofar, sofar_token, sofar_production, sofar_next, rest_is}

module _ {T N P : Type 0} (e : T → T → Bool) (et : (x y : T) → Decides (e x y) (x ≡ y)) (g : List (Rewrite T N P)) (start : Wants T N) (ts : List T) where
  more_tokens : (t : T) (ps : List T) (at : ℕ) → begins_with e (t ∷ ps) (drop at ts) ≡ true → at < length ts
  more_tokens t ps at b = elim (cases_lt at (length ts)) [
    | inl lt ↦ lt
    | inr ge ↦ absurd (not_both (sym b ∙ ap (λ (us : List T). begins_with e (t ∷ ps) us) (drop_all at ts ge)))
  ]

  as_far : (w : Wants T N) (steps more : List (Step P)) (at : ℕ) → Sofar g start ts w steps at → more ≡ [] → Sofar g start ts w (steps ++ more) (at + 0)
  as_far w steps more at s none =
      let same : at ≡ at + 0 = omega arith in
      subst (λ (n : ℕ). Sofar g start ts w (steps ++ more) n) same
      (subst (λ (ms : List (Step P)). Sofar g start ts w ms at) (sym (ap (λ (x : List (Step P)). steps ++ x) none ∙ append-nil steps)) s)

  pub sofar_front : (v w : Wants T N) (steps : List (Step P)) (at : ℕ) → begins_with e (lookahead v) (drop at ts) ≡ true → Sofar g start ts (v ++ w) steps at
      → Sofar g start ts (drop (length (lookahead v)) v ++ w) (steps ++ replicate (length (lookahead v)) Leaf) (at + length (lookahead v))
  sofar_front [] w steps at b s = as_far w steps [] at s refl
  sofar_front (Nonterminal f ∷ v) w steps at b s = as_far (Nonterminal f ∷ (v ++ w)) steps [] at s refl
  sofar_front (Terminal t ∷ v) w steps at b s =
      let lt = more_tokens t (lookahead v) at b in
      let both = and_parts (e t (get_or ts at t)) (begins_with e (lookahead v) (drop (at + 1) ts)) (subst (λ (us : List T). begins_with e (t ∷ lookahead v) us ≡ true) (drop_more ts at t lt) b) in
      let one = sofar_token g start ts t t (v ++ w) steps at s lt (sym ((et t (get_or ts at t)).0 both.0)) in
      let all = sofar_front v w (steps ++ Leaf ∷ []) (at + 1) both.1 one in
      let far : (at + 1) + length (lookahead v) ≡ at + length (t ∷ lookahead v) = omega arith in
      subst (λ (n : ℕ). Sofar g start ts (drop (length (lookahead v)) v ++ w) (steps ++ replicate (length (t ∷ lookahead v)) Leaf) n) far
      (subst (λ (ms : List (Step P)). Sofar g start ts (drop (length (lookahead v)) v ++ w) ms ((at + 1) + length (lookahead v))) (append_assoc steps (Leaf ∷ []) (replicate (length (lookahead v)) Leaf)) all)

  pub sofar_chosen : (q : N → N → Bool) → Takes e q g → (f : N) (w : Wants T N) (steps : List (Step P)) (at n : ℕ) (x : Rewrite T N P)
      → Sofar g start ts (Nonterminal f ∷ w) steps at → choose e q g f (drop at ts) ≡ Some x → In x g → x.nonterminal ≡ f
      → begins_with e (lookahead x.symbols) (drop at ts) ≡ true → n ≡ length (lookahead x.symbols)
      → Sofar g start ts (drop n x.symbols ++ w) ((steps ++ Node x.name ∷ []) ++ replicate n Leaf) (at + n)
  sofar_chosen q takes f w steps at n x s shown i is b front =
      subst (λ (k : ℕ). Sofar g start ts (drop k x.symbols ++ w) ((steps ++ Node x.name ∷ []) ++ replicate k Leaf) (at + k)) (sym front)
      (sofar_front x.symbols w (steps ++ Node x.name ∷ []) at b (sofar_production g start ts e q takes f w steps at x s shown i is))

-- as the loop has it
module _ {T N P : Type 0} (e : T → T → Bool) (q : N → N → Bool) (l : P → P → Bool) (et : (x y : T) → Decides (e x y) (x ≡ y)) (qn : (x y : N) → Decides (q x y) (x ≡ y)) (lp : (x y : P) → Decides (l x y) (x ≡ y))
    (t : Table T N P) (fine : IsPredictive e q l t) (start : Wants T N) (ts : List T) where
  pub chosen_from : (old w : Wants T N) (y : Symbol T N) (f : N) (steps : List (Step P)) (at n : ℕ) (p : Production T N P)
      → Sofar (grammar t) start ts old steps at → old ≡ y ∷ w → y ≡ Nonterminal f
      → Some (rewrite_view f p) ≡ choose e q (grammar t) f (take (length ts - at) (drop at ts)) → begins_with e (lookahead p.symbols.now) (take (length ts - at) (drop at ts)) ≡ true
      → n ≡ length (lookahead p.symbols.now)
      → Sofar (grammar t) start ts (drop n p.symbols.now ++ w) ((steps ++ Node p.name ∷ []) ++ replicate n Leaf) (at + n)
  chosen_from old w y f steps at n p s first is shows b front =
      let x : Rewrite T N P = rewrite_view f p in
      let chosen : choose e q (grammar t) f (drop at ts) ≡ Some x = ap (λ (us : List T). choose e q (grammar t) f us) (sym (rest_is ts at)) ∙ sym shows in
      let i = shown e q l qn lp t fine f (drop at ts) x chosen in
      sofar_chosen e et (grammar t) start ts q (takes e q l qn lp t fine) f w steps at n x
      (sofar_next (grammar t) start ts old w y (Nonterminal f) steps at s first is) chosen i.0 i.1
      (ap (λ (us : List T). begins_with e (lookahead p.symbols.now) us) (sym (rest_is ts at)) ∙ b) front

  -- where no token is read fewer nonterminals are opened
  pub chosen_opens : (old w up : Wants T N) (y : Symbol T N) (f : N) (n at : ℕ) (p : Production T N P)
      → old ≡ y ∷ w → y ≡ Nonterminal f → Some (rewrite_view f p) ≡ choose e q (grammar t) f (take (length ts - at) (drop at ts))
      → up ≡ drop n p.symbols.now ++ w → n ≡ 0 → least q qn (grammar t) DEPTH up < least q qn (grammar t) DEPTH old
  chosen_opens old w up y f n at p first is shows pushed none =
      let x : Rewrite T N P = rewrite_view f p in
      let i = shown e q l qn lp t fine f _ x (sym shows) in
      subst (λ (v : Wants T N). least q qn (grammar t) DEPTH up < least q qn (grammar t) DEPTH v) (sym (first ∙ ap (λ (z : Symbol T N). z ∷ w) is))
      (subst (λ (v : Wants T N). least q qn (grammar t) DEPTH v < least q qn (grammar t) DEPTH (Nonterminal f ∷ w))
      (sym (pushed ∙ ap (λ (k : ℕ). drop k p.symbols.now ++ w) none))
      (least_step q qn (grammar t) f w x (grounded e q l t fine) i.0 i.1))

-- what is left of a production is wanted before the rest that was put on the stack
pub put_before : {X : Type 0} (left new all rest : List X) → new ≡ left → all ≡ rest → new ++ all ≡ left ++ rest
put_before {X} left new all rest a b = ap (λ (xs : List X). xs ++ all) a ∙ ap (λ (xs : List X). left ++ xs) b

-- what is so of the equal ones
pub carried : {T N P : Type 0} (g : List (Rewrite T N P)) (start : Wants T N) (ts : List T) (v w : Wants T N) (before behind all : List (Step P)) (node : Step P) (at n place : ℕ)
    → w ≡ v → behind ≡ before ++ node ∷ [] → all ≡ behind ++ replicate n Leaf → place ≡ at + n
    → Sofar g start ts v ((before ++ node ∷ []) ++ replicate n Leaf) (at + n) → Sofar g start ts w all place
carried {T} {N} {P} g start ts v w before behind all node at n place a b c d s =
    subst (λ (k : ℕ). Sofar g start ts w all k) (sym d)
    (subst (λ (ms : List (Step P)). Sofar g start ts w ms (at + n)) (sym (c ∙ ap (λ (ms : List (Step P)). ms ++ replicate n Leaf) b))
    (subst (λ (u : Wants T N). Sofar g start ts u ((before ++ node ∷ []) ++ replicate n Leaf) (at + n)) (sym a) s))

-- where tokens are read fewer are left, and else fewer nonterminals are opened
pub chosen_smaller : (all at n place a b : ℕ) → place ≡ at + n → (n ≡ 0 → a < b) → a ≤ DEPTH → at + n ≤ all → (all - place) * (DEPTH + 1) + a < (all - at) * (DEPTH + 1) + b
chosen_smaller all at zero place a b is fewer low within = let less = fewer refl in omega (arith, less, is)
chosen_smaller all at (suc n) place a b is fewer low within = omega (arith, low, within, is)
