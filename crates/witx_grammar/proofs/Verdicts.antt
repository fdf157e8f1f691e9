-- The search for a fault finds the fault exactly where there is no derivation; a fault and a derivation exclude each other.
use Rattle.std.proofs.Common.{◌≡◌, ℕ, ◌+◌, ◌<◌, ◌≤◌, Bool, true, false, cond, List, [], ◌∷◌, ◌++◌, length, get_or, take, drop, Option, Some, None, refl, sym, ap, ◌∙◌, subst, inl, inr, arith, append_assoc, length-append}
use Rattle.std.specs.Bool.{Decides}
use Rattle.std.specs.List.{list_any}
use Rattle.std.proofs.lemmas.Bool.{cases_lt}
use Rattle.std.proofs.lemmas.List.{append-nil, take-append-drop, drop_more}
use Rattle.std.proofs.Math.Seq.{take-append_seam, get_or-append_seam}
use Rattle.witx_grammar.specs.declared.table.Symbol.TheVariants.{Terminal, Nonterminal}
use Rattle.witx_grammar.specs.declared.table.Step.{Step}
use Rattle.witx_grammar.specs.declared.table.Step.TheVariants.{Leaf, Node}
use Rattle.witx_grammar.specs.Grammar.{In, Rewrite, Wants, Reaches, Derives}
use Rattle.witx_grammar.specs.Faults.{IsNext, IsTokenFault, IsSameFault, HasDerivation}
use Rattle.witx_grammar.specs.Search.{ways, all_ways, firsts, all_firsts, is_nothing, is_stuck, Found, search_fault, IsSearched}
use Rattle.witx_grammar.specs.Prediction.{is_grounded}
use Rattle.witx_grammar.proofs.Steps.{not_nothing, not_both, in_all, of_all, reaches_append, reads_one}
use Rattle.witx_grammar.proofs.Firsts.{ways_sound, ways_complete, firsts_sound, firsts_complete, never_nothing, nothing_among, nothing_some}

-- Each list that is followed is wanted after these tokens by some steps, and all steps go through one of them.
pub record Cover {T N P : Type 0} (g : List (Rewrite T N P)) (start : Wants T N) (ws : List (Wants T N)) (ts : List T) : Type 0 where
  pub sound : (w : Wants T N) → In w ws → (ms : List (Step P)) × Reaches g ms start ts w
  pub complete : (ms : List (Step P)) (us : List T) (x : Wants T N) → Reaches g ms start (ts ++ us) x → (w : Wants T N) × (ns : List (Step P)) × In w ws × Reaches g ns w us x

-- the kind t can come after these tokens
abbrev pub Comes : {T N P : Type 0} → List (Rewrite T N P) → Wants T N → List T → T → Type 0
Comes {T} {N} {P} g start ts t = (ms : List (Step P)) × (w : Wants T N) × Reaches g ms start ts (Terminal t ∷ w)

pub cover_start : {T N P : Type 0} (g : List (Rewrite T N P)) (start : Wants T N) → Cover g start (start ∷ []) []
cover_start g start = record {
  sound = (λ w i. elim i [ inl e ↦ ([], (refl, sym e)) | inr j ↦ absurd j ]);
  complete = (λ ms us x d. (start, ms, inl refl, d));
}

none_where_stuck : {T N : Type 0} (v : Wants T N) (ws : List (Wants T N)) → is_stuck ws ≡ true → In v ws → ⊥
none_where_stuck v [] e i = i
none_where_stuck v (w ∷ ws) e i = not_both (sym e)

some_where_not : {T N : Type 0} (ws : List (Wants T N)) → is_stuck ws ≡ false → (v : Wants T N) × In v ws
some_where_not [] e = absurd (not_both e)
some_where_not (w ∷ ws) e = (w, inl refl)

choose_end : {T N P : Type 0} (g : List (Rewrite T N P)) (f : N) (ts : List T) (x : Found T) (b : Bool) → (b ≡ true → HasDerivation g f ts) → (b ≡ false → IsTokenFault g f ts x.at x.expected) → IsSearched g f ts (cond b None (Some x))
choose_end g f ts x true when_true when_false = when_true refl
choose_end g f ts x false when_true when_false = when_false refl

choose_step : {T N P : Type 0} (g : List (Rewrite T N P)) (f : N) (ts : List T) (x : Found T) (o : Option (Found T)) (b : Bool) → (b ≡ true → IsTokenFault g f ts x.at x.expected) → (b ≡ false → IsSearched g f ts o) → IsSearched g f ts (cond b (Some x) o)
choose_step g f ts x o true when_true when_false = when_true refl
choose_step g f ts x o false when_true when_false = when_false refl

nil_of_length : {T : Type 0} (xs ys zs : List T) → zs ≡ xs ++ ys → length xs ≡ length zs → ys ≡ []
nil_of_length xs [] zs e l = refl
nil_of_length {T} xs (y ∷ ys) zs e l = absurd (omega (arith, ap (λ (x : List T). length x) e, length-append xs (y ∷ ys)))

some_of_length : {T : Type 0} (xs ys zs : List T) → zs ≡ xs ++ ys → length xs < length zs → ys ≡ [] → ⊥
some_of_length {T} xs [] zs e l n = omega (arith, ap (λ (x : List T). length x) e, length-append xs [])
some_of_length xs (y ∷ ys) zs e l n = not_nothing y ys n

head_is : {T : Type 0} (t u : T) (ts us : List T) → t ∷ ts ≡ u ∷ us → t ≡ u
head_is t u ts us e = cc

module _ {T N P : Type 0} (e : T → T → Bool) (q : N → N → Bool) (et : (x y : T) → Decides (e x y) (x ≡ y)) (qn : (x y : N) → Decides (q x y) (x ≡ y)) (g : List (Rewrite T N P)) (k : ℕ)
    (below : (w : Wants T N) → is_grounded q g k w ≡ true) where
  cover_step : (start : Wants T N) (ws : List (Wants T N)) (ts : List T) (t : T) → Cover g start ws ts → Cover g start (all_ways e q g k t ws) (ts ++ t ∷ [])
  cover_step start ws ts t c = record {
    sound = (λ v i.
        let r = of_all (ways e q g k t) v ws i in
        let s = c.sound r.0 r.1 in
        let d = ways_sound e q et qn g k t r.0 v r.2 in
        (s.0 ++ (d.0 ++ Leaf ∷ []), reaches_append g s.0 (d.0 ++ Leaf ∷ []) start r.0 v ts (t ∷ []) s.1 (reads_one g d.0 r.0 v [] t d.1)));
    complete = (λ ms us x d.
        let r = c.complete ms (t ∷ us) x (subst (λ (l : List T). Reaches g ms start l x) (append_assoc ts (t ∷ []) us) d) in
        let s = ways_complete e q et qn g k t r.0 x us r.1 (below r.0) r.3 in
        (s.0, s.1, in_all (ways e q g k t) r.0 s.0 ws r.2 s.2, s.3));
  }

  next_sound : (start : Wants T N) (ws : List (Wants T N)) (ts : List T) (t : T) → Cover g start ws ts → In t (all_firsts q g k ws) → Comes g start ts t
  next_sound start ws ts t c i =
      let r = of_all (firsts q g k) t ws i in
      let s = c.sound r.0 r.1 in
      let d = firsts_sound e q et qn g k t r.0 r.2 in (
        s.0 ++ d.0,
        d.1,
        subst (λ (l : List T). Reaches g (s.0 ++ d.0) start l (Terminal t ∷ d.1)) (append-nil ts)
            (reaches_append g s.0 d.0 start r.0 (Terminal t ∷ d.1) ts [] s.1 d.2),
      )

  next_complete : (start : Wants T N) (ws : List (Wants T N)) (ts : List T) (t : T) → Cover g start ws ts → Comes g start ts t → In t (all_firsts q g k ws)
  next_complete start ws ts t c h =
      let r = c.complete h.0 [] (Terminal t ∷ h.1) (subst (λ (l : List T). Reaches g h.0 start l (Terminal t ∷ h.1)) (sym (append-nil ts)) h.2) in
      in_all (firsts q g k) r.0 t ws r.2 (firsts_complete e q et qn g k t r.0 h.1 r.1 (below r.0) r.3)

  -- a token that is followed can come
  goes_on : (start : Wants T N) (ws : List (Wants T N)) (ts : List T) (t : T) → Cover g start ws ts → is_stuck (all_ways e q g k t ws) ≡ false → Comes g start ts t
  goes_on start ws ts t c h =
      let v = some_where_not (all_ways e q g k t ws) h in
      let r = of_all (ways e q g k t) v.0 ws v.1 in
      let s = c.sound r.0 r.1 in
      let d = ways_sound e q et qn g k t r.0 v.0 r.2 in (
        s.0 ++ d.0,
        v.0,
        subst (λ (l : List T). Reaches g (s.0 ++ d.0) start l (Terminal t ∷ v.0)) (append-nil ts)
            (reaches_append g s.0 d.0 start r.0 (Terminal t ∷ v.0) ts [] s.1 d.1),
      )

  -- and one where nothing is left can't
  stops : (start : Wants T N) (ws : List (Wants T N)) (ts : List T) (t : T) → Cover g start ws ts → is_stuck (all_ways e q g k t ws) ≡ true → Comes g start ts t → ⊥
  stops start ws ts t c stuck h =
      let after = cover_step start ws ts t c in
      let read : Reaches g (h.0 ++ Leaf ∷ []) start (ts ++ t ∷ []) h.1 = reads_one g h.0 start h.1 ts t h.2 in
      let r = after.complete (h.0 ++ Leaf ∷ []) [] h.1 (subst (λ (l : List T). Reaches g (h.0 ++ Leaf ∷ []) start l h.1) (sym (append-nil (ts ++ t ∷ []))) read) in
      none_where_stuck r.0 (all_ways e q g k t ws) stuck r.2

  done : (f : N) (ws : List (Wants T N)) (ts : List T) → Cover g (Nonterminal f ∷ []) ws ts → list_any is_nothing ws ≡ true → HasDerivation g f ts
  done f ws ts c h = c.sound [] (nothing_some ws h)

  not_done : (f : N) (ws : List (Wants T N)) (ts : List T) (ms : List (Step P)) → Cover g (Nonterminal f ∷ []) ws ts → list_any is_nothing ws ≡ false → Derives g ms (Nonterminal f ∷ []) ts → ⊥
  not_done f ws ts ms c h d =
      let r = c.complete ms [] [] (subst (λ (l : List T). Reaches g ms (Nonterminal f ∷ []) l []) (sym (append-nil ts)) d) in
      not_both (sym (nothing_among r.0 ws r.2 (never_nothing e q et qn g k r.0 r.1 (below r.0) r.3)) ∙ h)

  abbrev Before : N → List T → ℕ → Type 0
  Before f all at = (i : ℕ) (d : T) → i < at → IsNext g f (take i all) (get_or all i d)

  before_more : (f : N) (all pre : List T) (t : T) (ts : List T) → all ≡ pre ++ t ∷ ts → Before f all (length pre) → IsNext g f pre t → Before f all (length pre + 1)
  before_more f all pre t ts is b h i d lt =
      elim (cases_lt i (length pre)) [
        | inl less ↦ b i d less
        | inr past ↦
            let same : length pre ≡ i = omega arith in
            let front : take (length pre) all ≡ pre = ap (λ (l : List T). take (length pre) l) is ∙ take-append_seam pre (t ∷ ts) in
            let here : get_or all (length pre) d ≡ t = ap (λ (l : List T). get_or l (length pre) d) is ∙ get_or-append_seam pre t ts d in
            subst (λ (j : ℕ). IsNext g f (take j all) (get_or all j d)) same
            (subst (λ (l : List T). IsNext g f l (get_or all (length pre) d)) (sym front) (subst (λ (x : T). IsNext g f pre x) (sym here) h))
      ]

  at_token : (f : N) (all pre ts : List T) (d : T) → all ≡ pre ++ ts → ((t : T) (us : List T) → ts ≡ t ∷ us → IsNext g f pre t → ⊥)
      → length pre < length all → IsNext g f pre (get_or all (length pre) d) → ⊥
  at_token f all pre [] d is here lt h = some_of_length pre [] all is lt refl
  at_token f all pre (t ∷ ts) d is here lt h =
      here t ts refl (subst (λ (x : T). IsNext g f pre x) (ap (λ (l : List T). get_or l (length pre) d) is ∙ get_or-append_seam pre t ts d) h)

  fault_here : (f : N) (ws : List (Wants T N)) (all pre ts : List T) → all ≡ pre ++ ts → Cover g (Nonterminal f ∷ []) ws pre → Before f all (length pre)
      → ((t : T) (us : List T) → ts ≡ t ∷ us → IsNext g f pre t → ⊥) → (ts ≡ [] → (ms : List (Step P)) → Derives g ms (Nonterminal f ∷ []) pre → ⊥)
      → IsTokenFault g f all (length pre) (all_firsts q g k ws)
  fault_here f ws all pre ts is c b here unfinished =
      let front : take (length pre) all ≡ pre = ap (λ (l : List T). take (length pre) l) is ∙ take-append_seam pre ts in
      record {
        within = (omega (arith, ap (λ (l : List T). length l) is, length-append pre ts));
        before = b;
        here = (λ d lt h. absurd (at_token f all pre ts d is here lt (subst (λ (l : List T). IsNext g f l (get_or all (length pre) d)) front h)));
        unfinished = (λ same ms d.
            let nil : ts ≡ [] = nil_of_length pre ts all is same in
            unfinished nil ms (subst (λ (l : List T). Derives g ms (Nonterminal f ∷ []) l) (is ∙ ap (λ (l : List T). pre ++ l) nil ∙ append-nil pre) d));
        can_come = (λ t i. subst (λ (l : List T). IsNext g f l t) (sym front) (next_sound (Nonterminal f ∷ []) ws pre t c i));
        all_that_can = (λ t h. next_complete (Nonterminal f ∷ []) ws pre t c (subst (λ (l : List T). IsNext g f l t) front h));
      }

  pub search_meets : (f : N) (ws : List (Wants T N)) (all pre : List T) (at : ℕ) (ts : List T) → all ≡ pre ++ ts → length pre ≡ at → Cover g (Nonterminal f ∷ []) ws pre → Before f all (length pre)
      → IsSearched g f all (search_fault e q g k ws at ts)
  search_meets f ws all pre at [] is place c b =
      let whole : all ≡ pre = is ∙ append-nil pre in
      choose_end g f all (record { at = at; expected = all_firsts q g k ws }) (list_any is_nothing ws)
      (λ is_so. subst (λ (l : List T). HasDerivation g f l) (sym whole) (done f ws pre c is_so))
      (λ is_not. subst (λ (n : ℕ). IsTokenFault g f all n (all_firsts q g k ws)) place
      (fault_here f ws all pre [] is c b (λ t us n h. not_nothing t us (sym n)) (λ n ms d. not_done f ws pre ms c is_not d)))
  search_meets f ws all pre at (t ∷ ts) is place c b =
      choose_step g f all (record { at = at; expected = all_firsts q g k ws }) (search_fault e q g k (all_ways e q g k t ws) (at + 1) ts) (is_stuck (all_ways e q g k t ws))
      (λ is_so. subst (λ (n : ℕ). IsTokenFault g f all n (all_firsts q g k ws)) place
      (fault_here f ws all pre (t ∷ ts) is c b
      (λ u us n h. stops (Nonterminal f ∷ []) ws pre t c is_so (subst (λ (x : T). IsNext g f pre x) (sym (head_is t u ts us n)) h))
      (λ n ms d. not_nothing t ts n)))
      (λ is_not. let long : length (pre ++ t ∷ []) ≡ length pre + 1 = length-append pre (t ∷ []) in
      search_meets f (all_ways e q g k t ws) all (pre ++ t ∷ []) (at + 1) ts (is ∙ sym (append_assoc pre (t ∷ []) ts)) (long ∙ ap (λ (n : ℕ). n + 1) place)
      (cover_step (Nonterminal f ∷ []) ws pre t c)
      (subst (λ (n : ℕ). Before f all n) (sym long) (before_more f all pre t ts is b (goes_on (Nonterminal f ∷ []) ws pre t c is_not))))

  pub search_is_right : (f : N) (ts : List T) → IsSearched g f ts (search_fault e q g k ((Nonterminal f ∷ []) ∷ []) 0 ts)
  search_is_right f ts = search_meets f ((Nonterminal f ∷ []) ∷ []) ts [] 0 ts refl refl (cover_start g (Nonterminal f ∷ [])) (λ i d lt. absurd (omega arith))

-- ---- a derivation's tokens can all come

pub comes_before : {T N P : Type 0} (g : List (Rewrite T N P)) (ms : List (Step P)) (v : Wants T N) (ts : List T) (t : T) (us : List T) (x : Wants T N) → Reaches g ms v (ts ++ t ∷ us) x → Comes g v ts t
comes_before g [] v [] t us x d = absurd (not_nothing t us d.0)
comes_before g [] v (s ∷ ts) t us x d = absurd (not_nothing s (ts ++ t ∷ us) d.0)
comes_before g (m ∷ ms) [] ts t us x d = absurd d
comes_before {T} {N} g (Leaf ∷ ms) (Terminal s ∷ v) [] t us x d = ([], v, (refl, ap (λ (n : T). Terminal n ∷ v) d.0))
comes_before g (Leaf ∷ ms) (Terminal s ∷ v) (u ∷ ts) t us x d =
    let r = comes_before g ms v ts t us x d.1 in
    (Leaf ∷ r.0, r.1, (d.0, r.2))
comes_before g (Leaf ∷ ms) (Nonterminal f ∷ v) ts t us x d = absurd d
comes_before g (Node p ∷ ms) (Terminal s ∷ v) ts t us x d = absurd d
comes_before g (Node p ∷ ms) (Nonterminal f ∷ v) ts t us x d =
    let r = comes_before g ms (d.0.symbols ++ v) ts t us x d.4 in
    (Node p ∷ r.0, r.1, (d.0, d.1, d.2, d.3, r.2))

split_at : {T : Type 0} (ts : List T) (at : ℕ) (d : T) → at < length ts → ts ≡ take at ts ++ get_or ts at d ∷ drop (at + 1) ts
split_at {T} ts at d lt = sym (take-append-drop at ts) ∙ ap (λ (l : List T). take at ts ++ l) (drop_more ts at d lt)

-- a list that is not empty has a first
some_first : {T : Type 0} (ts : List T) (at : ℕ) → at < length ts → T
some_first [] at lt = absurd (omega arith)
some_first (t ∷ ts) at lt = t

pub no_fault : {T N P : Type 0} (g : List (Rewrite T N P)) (f : N) (ts : List T) (ms : List (Step P)) (at : ℕ) (expected : List T) → Derives g ms (Nonterminal f ∷ []) ts → IsTokenFault g f ts at expected → ⊥
no_fault {T} g f ts ms at expected d fault =
    elim (cases_lt at (length ts)) [
      | inl lt ↦
          let t : T = some_first ts at lt in
          fault.here t lt (comes_before g ms (Nonterminal f ∷ []) (take at ts) (get_or ts at t) (drop (at + 1) ts) []
          (subst (λ (l : List T). Reaches g ms (Nonterminal f ∷ []) l []) (split_at ts at t lt) d))
      | inr past ↦ let same : at ≡ length ts = omega (arith, fault.within) in fault.unfinished same ms d
    ]

-- ---- one fault

earlier : {T N P : Type 0} (g : List (Rewrite T N P)) (f : N) (ts : List T) (at place : ℕ) (expected kinds : List T) → IsTokenFault g f ts at expected → IsTokenFault g f ts place kinds → at < place → ⊥
earlier {T} g f ts at place expected kinds a b lt =
    let within : place ≤ length ts = b.within in
    let inside : at < length ts = omega arith in
    let t : T = some_first ts at inside in
    a.here t inside (b.before at t lt)

one_place : {T N P : Type 0} (g : List (Rewrite T N P)) (f : N) (ts : List T) (at place : ℕ) (expected kinds : List T) → IsTokenFault g f ts at expected → IsTokenFault g f ts place kinds → at ≡ place
one_place g f ts at place expected kinds a b =
    elim (cases_lt at place) [
      | inl lt ↦ absurd (earlier g f ts at place expected kinds a b lt)
      | inr ge ↦ elim (cases_lt place at) [
        | inl lt ↦ absurd (earlier g f ts place at kinds expected b a lt)
        | inr le ↦ omega arith
      ]
    ]

pub one_fault : {T N P : Type 0} (g : List (Rewrite T N P)) (f : N) (ts : List T) (at place : ℕ) (expected kinds : List T) → IsTokenFault g f ts at expected → IsTokenFault g f ts place kinds → IsSameFault at expected place kinds
one_fault g f ts at place expected kinds a b =
    let same = one_place g f ts at place expected kinds a b in
    record {
      one_place = same;
      first_kinds = (λ t i. b.all_that_can t (subst (λ (n : ℕ). IsNext g f (take n ts) t) same (a.can_come t i)));
      second_kinds = (λ t i. a.all_that_can t (subst (λ (n : ℕ). IsNext g f (take n ts) t) (sym same) (b.can_come t i)));
    }
