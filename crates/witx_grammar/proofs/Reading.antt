-- Ends of derivations.
use Rattle.std.proofs.Common.{◌≡◌, ℕ, ◌+◌, ◌<◌, ◌≤◌, List, [], ◌∷◌, ◌++◌, length, get_or, take, drop, sym, ap, ◌∙◌, subst, arith}
use Rattle.std.proofs.lemmas.List.{drop_more, drop_all, take_more, length-drop, take-append-drop}
use Rattle.witx_grammar.specs.declared.table.Symbol.TheVariants.{Terminal, Nonterminal}
use Rattle.witx_grammar.specs.declared.table.Step.{Step}
use Rattle.witx_grammar.specs.declared.table.Step.TheVariants.{Leaf, Node}
use Rattle.witx_grammar.specs.Grammar.{In, Rewrite, Wants, Derives}
use Rattle.witx_grammar.specs.Reading.{leaf_count, values}

-- an end of a derivation derives what is then wanted
pub end_of : {T N P : Type 0} (g : List (Rewrite T N P)) (pre ms : List (Step P)) (w : Wants T N) (ts : List T) → Derives g (pre ++ ms) w ts
    → (v : Wants T N) × (leaf_count pre ≤ length ts) × Derives g ms v (drop (leaf_count pre) ts)
end_of g [] ms w ts d = (w, (omega arith), d)
end_of g (Leaf ∷ pre) ms [] ts d = absurd d
end_of g (Leaf ∷ pre) ms (Terminal t ∷ w) [] d = absurd d
end_of g (Leaf ∷ pre) ms (Terminal t ∷ w) (s ∷ ts) d = let r = end_of g pre ms w ts d.1 in (r.0, (omega (arith, r.1)), r.2)
end_of g (Leaf ∷ pre) ms (Nonterminal f ∷ w) ts d = absurd d
end_of g (Node p ∷ pre) ms [] ts d = absurd d
end_of g (Node p ∷ pre) ms (Terminal t ∷ w) ts d = absurd d
end_of g (Node p ∷ pre) ms (Nonterminal f ∷ w) ts d = end_of g pre ms (d.0.symbols ++ w) ts d.4

-- ---- the values of a derivation, from its end to its start

drop_one : {X : Type 0} (ms : List X) (n : ℕ) (d x : X) → n < length ms → get_or ms n d ≡ x → drop n ms ≡ x ∷ drop (n + 1) ms
drop_one {X} ms n d x lt e = drop_more ms n d lt ∙ ap (λ (y : X). y ∷ drop (n + 1) ms) e

leaves_append : {P : Type 0} (xs ys : List (Step P)) → leaf_count (xs ++ ys) ≡ leaf_count xs + leaf_count ys
leaves_append [] ys = omega arith
leaves_append (Leaf ∷ xs) ys = omega (arith, leaves_append xs ys)
leaves_append (Node p ∷ xs) ys = leaves_append xs ys

leaves_more : {P : Type 0} (ms : List (Step P)) (n : ℕ) (x : Step P) → n < length ms → get_or ms n Leaf ≡ x → leaf_count (take (n + 1) ms) ≡ leaf_count (take n ms) + leaf_count (x ∷ [])
leaves_more {P} ms n x lt e =
    ap (λ (xs : List (Step P)). leaf_count xs) (take_more ms n Leaf lt) ∙ leaves_append (take n ms) (get_or ms n Leaf ∷ []) ∙ ap (λ (y : Step P). leaf_count (take n ms) + leaf_count (y ∷ [])) e

-- At the step n of a derivation and the place at, the values are those of the steps from there on, read over the tokens from there on, and fit whatever these derive.
pub record Back {T N P L V : Type 0} (g : List (Rewrite T N P)) (start : Wants T N) (ms : List (Step P)) (ts : List T) (ls : List L) (leaf : L → List V) (act : P → List L → List V → List V) (fits : Wants T N → List V → Type 0)
    (n at : ℕ) (vs : List V) : Type 0 where
  pub inside : n ≤ length ms
  pub place : at ≡ leaf_count (take n ms)
  pub value : vs ≡ values leaf act (drop n ms) (drop at ls)
  pub typed : (w : Wants T N) → Derives g (drop n ms) w (drop at ts) → fits w vs

module _ {T N P L V : Type 0} (g : List (Rewrite T N P)) (start : Wants T N) (ms : List (Step P)) (ts : List T) (ls : List L) (leaf : L → List V) (act : P → List L → List V → List V) (fits : Wants T N → List V → Type 0)
    (d : Derives g ms start ts) where
  none_wanted : (w : Wants T N) (us : List T) → Derives g [] w us → (w ≡ []) × (us ≡ [])
  none_wanted w us h = (h.1, h.0)

  here_of : (n : ℕ) → (v : Wants T N) × (leaf_count (take n ms) ≤ length ts) × Derives g (drop n ms) v (drop (leaf_count (take n ms)) ts)
  here_of n = end_of g (take n ms) (drop n ms) start ts (subst (λ (x : List (Step P)). Derives g x start ts) (sym (take-append-drop n ms)) d)

  token_typed : (s : T) (ns : List (Step P)) (w : Wants T N) (us : List T) (vs : List V) → Derives g (Leaf ∷ ns) w (s ∷ us) → ((v : Wants T N) → Derives g ns v us → fits (Terminal s ∷ v) vs) → fits w vs
  token_typed s ns [] us vs a h = absurd a
  token_typed s ns (Terminal t ∷ w) us vs a h = subst (λ (x : T). fits (Terminal x ∷ w) vs) (sym a.0) (h w a.1)
  token_typed s ns (Nonterminal f ∷ w) us vs a h = absurd a

  production_typed : (p : P) (ns : List (Step P)) (w : Wants T N) (us : List T) (vs : List V) → Derives g (Node p ∷ ns) w us
      → ((x : Rewrite T N P) (v : Wants T N) → In x g → x.name ≡ p → Derives g ns (x.symbols ++ v) us → fits (Nonterminal x.nonterminal ∷ v) vs) → fits w vs
  production_typed p ns [] us vs a h = absurd a
  production_typed p ns (Terminal t ∷ w) us vs a h = absurd a
  production_typed p ns (Nonterminal f ∷ w) us vs a h = subst (λ (x : N). fits (Nonterminal x ∷ w) vs) a.2 (h a.0 w a.1 a.3 a.4)

  production_taken : (p : P) (ns : List (Step P)) (w : Wants T N) (us : List T) → Derives g (Node p ∷ ns) w us → (x : Rewrite T N P) × (v : Wants T N) × In x g × (x.name ≡ p) × Derives g ns (x.symbols ++ v) us
  production_taken p ns [] us a = absurd a
  production_taken p ns (Terminal t ∷ w) us a = absurd a
  production_taken p ns (Nonterminal f ∷ w) us a = (a.0, w, a.1, a.3, a.4)

  pub back_start : fits [] [] → Back g start ms ts ls leaf act fits (length ms) (length ts) []
  back_start f =
      let r = here_of (length ms) in
      let e : drop (length ms) ms ≡ [] = drop_all (length ms) ms (omega arith) in
      let none = none_wanted r.0 (drop (leaf_count (take (length ms) ms)) ts) (subst (λ (x : List (Step P)). Derives g x r.0 (drop (leaf_count (take (length ms) ms)) ts)) e r.2) in
      let l : length (drop (leaf_count (take (length ms) ms)) ts) ≡ 0 = ap (λ (x : List T). length x) none.1 in
      record {
        inside = (omega arith);
        place = (omega (arith, l, r.1, length-drop (leaf_count (take (length ms) ms)) ts));
        value = sym (ap (λ (x : List (Step P)). values leaf act x (drop (length ts) ls)) e);
        typed = (λ w h. subst (λ (x : Wants T N). fits x []) (sym (none_wanted w (drop (length ts) ts) (subst (λ (x : List (Step P)). Derives g x w (drop (length ts) ts)) e h)).0) f);
      }

  -- a token has a place before
  pub back_before : (n at : ℕ) (vs : List V) → Back g start ms ts ls leaf act fits (n + 1) at vs → get_or ms n Leaf ≡ Leaf → (leaf_count (take n ms) + 1 ≡ at) × (at ≤ length ts)
  back_before n at vs b e =
      let lt : n < length ms = omega (arith, b.inside) in
      let r = here_of (n + 1) in
      ((omega (arith, leaves_more ms n Leaf lt e, b.place)), (omega (arith, r.1, b.place)))

  -- a token before whose values are told
  token_back : (n at : ℕ) (t : T) (vs us : List V) → Back g start ms ts ls leaf act fits (n + 1) (at + 1) vs → get_or ms n Leaf ≡ Leaf → us ≡ values leaf act (Leaf ∷ drop (n + 1) ms) (drop at ls)
      → ((w : Wants T N) → fits w vs → fits (Terminal (get_or ts at t) ∷ w) us) → Back g start ms ts ls leaf act fits n at us
  token_back n at t vs us b e is typed =
      let lt : n < length ms = omega (arith, b.inside) in
      let r = back_before n (at + 1) vs b e in
      let more : drop at ts ≡ get_or ts at t ∷ drop (at + 1) ts = drop_more ts at t (omega (arith, r.1)) in
      let split : drop n ms ≡ Leaf ∷ drop (n + 1) ms = drop_one ms n Leaf Leaf lt e in
      record {
        inside = (omega arith);
        place = (omega (arith, r.0));
        value = is ∙ sym (ap (λ (x : List (Step P)). values leaf act x (drop at ls)) split);
        typed = (λ w h. token_typed (get_or ts at t) (drop (n + 1) ms) w (drop (at + 1) ts) us
            (subst (λ (x : List T). Derives g (Leaf ∷ drop (n + 1) ms) w x) more (subst (λ (x : List (Step P)). Derives g x w (drop at ts)) split h)) (λ v k. typed v (b.typed v k)));
      }

  -- a token of the list stands for its values, before those behind it
  pub back_token : (n at : ℕ) (t : T) (l : L) (vs us : List V) → Back g start ms ts ls leaf act fits (n + 1) (at + 1) vs → get_or ms n Leaf ≡ Leaf → at < length ls → us ≡ leaf (get_or ls at l) ++ vs
      → ((w : Wants T N) → fits w vs → fits (Terminal (get_or ts at t) ∷ w) us) → Back g start ms ts ls leaf act fits n at us
  back_token n at t l vs us b e inside is typed =
      token_back n at t vs us b e
      (is ∙ ap (λ (x : List V). leaf (get_or ls at l) ++ x) b.value ∙ sym (ap (λ (x : List L). values leaf act (Leaf ∷ drop (n + 1) ms) x) (drop_more ls at l inside)))
      typed

  -- one behind the end of the list stands for nothing
  pub back_past : (n at : ℕ) (t : T) (vs : List V) → Back g start ms ts ls leaf act fits (n + 1) (at + 1) vs → get_or ms n Leaf ≡ Leaf → length ls ≤ at
      → ((w : Wants T N) → fits w vs → fits (Terminal (get_or ts at t) ∷ w) vs) → Back g start ms ts ls leaf act fits n at vs
  back_past n at t vs b e past typed =
      token_back n at t vs vs b e
      (b.value ∙ ap (λ (x : List L). values leaf act (drop (n + 1) ms) x) (drop_all (at + 1) ls (omega arith))
      ∙ sym (ap (λ (x : List L). values leaf act (Leaf ∷ drop (n + 1) ms) x) (drop_all at ls past)))
      typed

  -- what a production wants is there
  pub back_wanted : (n at : ℕ) (p : P) (vs : List V) → Back g start ms ts ls leaf act fits (n + 1) at vs → get_or ms n Leaf ≡ Node p → (x : Rewrite T N P) × (w : Wants T N) × In x g × (x.name ≡ p) × fits (x.symbols ++ w) vs
  back_wanted n at p vs b e =
      let lt : n < length ms = omega (arith, b.inside) in
      let same : leaf_count (take n ms) ≡ at = omega (arith, leaves_more ms n (Node p) lt e, b.place) in
      let r = here_of n in
      let split : drop n ms ≡ Node p ∷ drop (n + 1) ms = drop_one ms n Leaf (Node p) lt e in
      let h : Derives g (Node p ∷ drop (n + 1) ms) r.0 (drop at ts) = subst (λ (x : ℕ). Derives g (Node p ∷ drop (n + 1) ms) r.0 (drop x ts)) same (subst (λ (x : List (Step P)). Derives g x r.0 (drop (leaf_count (take n ms)) ts)) split r.2) in
      let o = production_taken p (drop (n + 1) ms) r.0 (drop at ts) h in
      (o.0, o.1, o.2, o.3, b.typed (o.0.symbols ++ o.1) o.4)

  pub back_production : (n at : ℕ) (p : P) (vs us : List V) → Back g start ms ts ls leaf act fits (n + 1) at vs → get_or ms n Leaf ≡ Node p → us ≡ act p (drop at ls) vs
      → ((x : Rewrite T N P) (w : Wants T N) → In x g → x.name ≡ p → fits (x.symbols ++ w) vs → fits (Nonterminal x.nonterminal ∷ w) us) → Back g start ms ts ls leaf act fits n at us
  back_production n at p vs us b e is typed =
      let lt : n < length ms = omega (arith, b.inside) in
      let split : drop n ms ≡ Node p ∷ drop (n + 1) ms = drop_one ms n Leaf (Node p) lt e in
      record {
        inside = (omega arith);
        place = (omega (arith, leaves_more ms n (Node p) lt e, b.place));
        value = is ∙ ap (λ (x : List V). act p (drop at ls) x) b.value ∙ sym (ap (λ (x : List (Step P)). values leaf act x (drop at ls)) split);
        typed = (λ w h. production_typed p (drop (n + 1) ms) w (drop at ts) us
            (subst (λ (x : List (Step P)). Derives g x w (drop at ts)) split h) (λ x v i s k. typed x v i s (b.typed (x.symbols ++ v) k)));
      }

  -- at the start of the steps
  pub back_end : (at : ℕ) (vs : List V) → Back g start ms ts ls leaf act fits 0 at vs → (vs ≡ values leaf act ms ls) × fits start vs
  back_end at vs b =
      let zero_place : at ≡ 0 = b.place in
      (b.value ∙ ap (λ (x : ℕ). values leaf act ms (drop x ls)) zero_place, b.typed start (subst (λ (x : ℕ). Derives g ms start (drop x ts)) (sym zero_place) d))
