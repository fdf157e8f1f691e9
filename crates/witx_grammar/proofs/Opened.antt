-- Loops over lists that stand for flat_map: over the productions by which a nonterminal is opened, and over what is wanted.
use Rattle.std.proofs.Common.{◌≡◌, ℕ, zero, suc, ◌-◌, ◌<◌, ◌≤◌, ◌==◌, ◌+◌, Bool, true, false, cond, Option, Some, None, List, [], ◌∷◌, ◌++◌, length, get_or, drop, map, append_assoc, refl, sym, ap, ◌∙◌, arith}
use Rattle.std.specs.List.{filter, flat_map}
use Rattle.std.specs.Global.{Vec}
use Rattle.std.proofs.lemmas.Bool.{eqb-true}
use Rattle.std.proofs.lemmas.List.{append-nil, drop_all, drop_more, get_or_default}
use Rattle.std.proofs.lemmas.List.Elements.{filter-append}
use Rattle.witx_grammar.specs.declared.table.Symbol.{Symbol}
use Rattle.witx_grammar.specs.declared.table.Symbol.TheVariants.{Terminal, Nonterminal}
use Rattle.witx_grammar.specs.declared.table.Production.{Production}
use Rattle.witx_grammar.specs.Grammar.{Rewrite, Wants, rewrite_view, rewrites_of}
use Rattle.witx_grammar.specs.Search.{Found, all_firsts, all_wants, all_ways, firsts, is_stuck, may_come, not_ruled_out, search_fault, ways}
use Rattle.witx_grammar.proofs.Steps.{not_both}

-- one more of the list is done
pub loop_more : {X Y Z : Type 0} (F : Z → List Y) (v : X → Z) (xs : List X) (i : ℕ) (x : X) (done new all : List Y) → i < length xs → x ≡ get_or xs i x → new ≡ done ++ F (v x)
    → done ++ flat_map F (map v (drop i xs)) ≡ all → new ++ flat_map F (map v (drop (i + 1) xs)) ≡ all
loop_more {X} {Y} {Z} F v xs i x done new all lt is step inv =
    let split : drop i xs ≡ x ∷ drop (i + 1) xs = drop_more xs i x lt ∙ ap (λ (y : X). y ∷ drop (i + 1) xs) (sym is) in
    ap (λ (ys : List Y). ys ++ flat_map F (map v (drop (i + 1) xs))) step
    ∙ append_assoc done (F (v x)) (flat_map F (map v (drop (i + 1) xs)))
    ∙ ap (λ (l : List X). done ++ flat_map F (map v l)) (sym split)
    ∙ inv

-- all of the list is done
pub all_done : {X Y Z : Type 0} (F : Z → List Y) (v : X → Z) (xs : List X) (i : ℕ) (done all : List Y) → length xs ≤ i → done ++ flat_map F (map v (drop i xs)) ≡ all → done ≡ all
all_done {X} F v xs i done all past inv = sym (append-nil done) ∙ ap (λ (ys : List X). done ++ flat_map F (map v ys)) (sym (drop_all i xs past)) ∙ inv

pub loop_done : {T N P Y : Type 0} (F : Rewrite T N P → List Y) (n : N) (ps : List (Production T N P)) (i : ℕ) (done start all : List Y) (ws : List (Rewrite T N P)) → length ps ≤ i → map (rewrite_view n) ps ≡ ws
    → all ≡ flat_map F ws → done ++ flat_map F (map (rewrite_view n) (drop i ps)) ≡ start ++ flat_map F (map (rewrite_view n) ps) → done ≡ start ++ all
loop_done {T} {N} {P} {Y} F n ps i done start all ws past same is inv =
    sym (append-nil done)
    ∙ ap (λ (xs : List (Production T N P)). done ++ flat_map F (map (rewrite_view n) xs)) (sym (drop_all i ps past))
    ∙ inv
    ∙ ap (λ (xs : List (Rewrite T N P)). start ++ flat_map F xs) same
    ∙ ap (λ (ys : List Y). start ++ ys) (sym is)

symbol_is : {T N : Type 0} (x : Symbol T N) (f h : N) → x ≡ Nonterminal f → x ≡ Nonterminal h → f ≡ h
symbol_is x f h a b = cc

no_symbol : {T N : Type 0} (x : Symbol T N) (t : T) (h : N) → x ≡ Terminal t → x ≡ Nonterminal h → ⊥
no_symbol x t h a b = cc

module _ {T N P : Type 0} (e : T → T → Bool) (q : N → N → Bool) (g : List (Rewrite T N P)) where
  pub firsts_opened : (k : ℕ) (w rest : Wants T N) (d : Symbol T N) (f : N) → 0 < k → false ≡ (length w == 0) → get_or w 0 d ≡ Nonterminal f → rest ≡ drop 1 w
      → firsts q g k w ≡ flat_map (λ (x : Rewrite T N P). firsts q g (k - 1) (x.symbols ++ rest)) (rewrites_of q g f)
  firsts_opened k [] rest d f lt some is left = absurd (not_both (sym some))
  firsts_opened k (Terminal t ∷ w) rest d f lt some is left = absurd (no_symbol (Terminal t) t f refl is)
  firsts_opened zero (Nonterminal h ∷ w) rest d f lt some is left = absurd (omega arith)
  firsts_opened (suc k) (Nonterminal h ∷ w) rest d f lt some is left =
      let less : k ≡ suc k - 1 = omega arith in
      ap (λ (n : N). flat_map (λ (x : Rewrite T N P). firsts q g k (x.symbols ++ w)) (rewrites_of q g n)) (symbol_is (Nonterminal h) h f refl is)
      ∙ ap (λ (v : Wants T N). flat_map (λ (x : Rewrite T N P). firsts q g k (x.symbols ++ v)) (rewrites_of q g f)) (sym left)
      ∙ ap (λ (j : ℕ). flat_map (λ (x : Rewrite T N P). firsts q g j (x.symbols ++ rest)) (rewrites_of q g f)) less

  pub ways_opened : (k : ℕ) (t : T) (w rest : Wants T N) (d : Symbol T N) (f : N) → 0 < k → false ≡ (length w == 0) → get_or w 0 d ≡ Nonterminal f → rest ≡ drop 1 w
      → ways e q g k t w ≡ flat_map (λ (x : Rewrite T N P). ways e q g (k - 1) t (x.symbols ++ rest)) (rewrites_of q g f)
  ways_opened k t [] rest d f lt some is left = absurd (not_both (sym some))
  ways_opened k t (Terminal u ∷ w) rest d f lt some is left = absurd (no_symbol (Terminal u) u f refl is)
  ways_opened zero t (Nonterminal h ∷ w) rest d f lt some is left = absurd (omega arith)
  ways_opened (suc k) t (Nonterminal h ∷ w) rest d f lt some is left =
      let less : k ≡ suc k - 1 = omega arith in
      ap (λ (n : N). flat_map (λ (x : Rewrite T N P). ways e q g k t (x.symbols ++ w)) (rewrites_of q g n)) (symbol_is (Nonterminal h) h f refl is)
      ∙ ap (λ (v : Wants T N). flat_map (λ (x : Rewrite T N P). ways e q g k t (x.symbols ++ v)) (rewrites_of q g f)) (sym left)
      ∙ ap (λ (j : ℕ). flat_map (λ (x : Rewrite T N P). ways e q g j t (x.symbols ++ rest)) (rewrites_of q g f)) less

  pub not_stuck : (vs : List (Vec (Symbol T N))) → false ≡ (length vs == 0) → is_stuck (all_wants vs) ≡ false
  not_stuck [] h = absurd (not_both (sym h))
  not_stuck (v ∷ vs) h = refl

  -- the search goes on behind a token after which something can be wanted
  pub search_on : (k : ℕ) (vs us : List (Vec (Symbol T N))) (at : ℕ) (ts : List T) (t : T) (all : Option (Found T)) → at < length ts → t ≡ get_or ts at t
      → all_wants us ≡ all_ways e q g k t (all_wants vs) → false ≡ (length us == 0) → search_fault e q g k (all_wants vs) at (drop at ts) ≡ all
      → search_fault e q g k (all_wants us) (at + 1) (drop (at + 1) ts) ≡ all
  search_on k vs us at ts t all lt is after some inv =
      let split : drop at ts ≡ t ∷ drop (at + 1) ts = drop_more ts at t lt ∙ ap (λ (x : T). x ∷ drop (at + 1) ts) (sym is) in
      let on : is_stuck (all_ways e q g k t (all_wants vs)) ≡ false = ap (λ (w : List (Wants T N)). is_stuck w) (sym after) ∙ not_stuck us some in
      ap (λ (w : List (Wants T N)). search_fault e q g k w (at + 1) (drop (at + 1) ts)) after
      ∙ sym (ap (λ (b : Bool). cond b (Some (record { at = at; expected = all_firsts q g k (all_wants vs) })) (search_fault e q g k (all_ways e q g k t (all_wants vs)) (at + 1) (drop (at + 1) ts))) on)
      ∙ sym (ap (λ (l : List T). search_fault e q g k (all_wants vs) at l) split)
      ∙ inv

  stuck : (vs : List (Vec (Symbol T N))) → true ≡ (length vs == 0) → is_stuck (all_wants vs) ≡ true
  stuck [] h = refl
  stuck (v ∷ vs) h = let none : length (v ∷ vs) ≡ 0 = eqb-true (length (v ∷ vs)) 0 (sym h) in absurd (omega (arith, none))

  -- and has its answer at one after which nothing can be
  pub search_stops : (k : ℕ) (vs us : List (Vec (Symbol T N))) (at : ℕ) (ts : List T) (t : T) (all : Option (Found T)) → at < length ts → t ≡ get_or ts at t
      → all_wants us ≡ all_ways e q g k t (all_wants vs) → true ≡ (length us == 0) → search_fault e q g k (all_wants vs) at (drop at ts) ≡ all
      → Some (record { at = at; expected = all_firsts q g k (all_wants vs) }) ≡ all
  search_stops k vs us at ts t all lt is after none inv =
      let split : drop at ts ≡ t ∷ drop (at + 1) ts = drop_more ts at t lt ∙ ap (λ (x : T). x ∷ drop (at + 1) ts) (sym is) in
      let on : is_stuck (all_ways e q g k t (all_wants vs)) ≡ true = ap (λ (w : List (Wants T N)). is_stuck w) (sym after) ∙ stuck us none in
      sym (ap (λ (b : Bool). cond b (Some (record { at = at; expected = all_firsts q g k (all_wants vs) })) (search_fault e q g k (all_ways e q g k t (all_wants vs)) (at + 1) (drop (at + 1) ts))) on)
      ∙ sym (ap (λ (l : List T). search_fault e q g k (all_wants vs) at l) split)
      ∙ inv

-- ---- what the next token rules out

filter-flat_map : {X Y : Type 0} (p : Y → Bool) (F : X → List Y) (xs : List X) → filter p (flat_map F xs) ≡ flat_map (λ x. filter p (F x)) xs
filter-flat_map p F [] = refl
filter-flat_map {X} {Y} p F (x ∷ xs) = filter-append p (F x) (flat_map F xs) ∙ ap (λ (ys : List Y). filter p (F x) ++ ys) (filter-flat_map p F xs)

-- one that is put there is one that comes first and isn't ruled out
pub put_one : {X : Type 0} (p : X → Bool) (b : Bool) (x : X) → b ≡ true → p x ≡ true → filter p (cond b (x ∷ []) []) ≡ x ∷ []
put_one p true x e h = ap (λ c. cond c (x ∷ []) []) h
put_one p false x e h = absurd (not_both (sym e))

pub put_none : {X : Type 0} (p : X → Bool) (b : Bool) (x : X) → b ≡ false → filter p (cond b (x ∷ []) []) ≡ []
put_none p true x e = absurd (not_both e)
put_none p false x e = refl

pub put_ruled_out : {X : Type 0} (p : X → Bool) (b : Bool) (x : X) → p x ≡ false → filter p (cond b (x ∷ []) []) ≡ []
put_ruled_out p true x h = ap (λ c. cond c (x ∷ []) []) h
put_ruled_out p false x h = refl

-- the first symbol tells
pub by_first : {T N : Type 0} (e : T → T → Bool) (t : T) (front back : Wants T N) (x : Symbol T N) → false ≡ (length front == 0) → x ≡ get_or front 0 x
    → may_come e (Some t) (x ∷ []) ≡ may_come e (Some t) (front ++ back)
by_first e t [] back x some is = absurd (not_both (sym some))
by_first e t (Terminal u ∷ front) back x some is = ap (λ y. may_come e (Some t) (y ∷ [])) is
by_first e t (Nonterminal f ∷ front) back x some is = ap (λ y. may_come e (Some t) (y ∷ [])) is

pub by_second : {T N : Type 0} (e : T → T → Bool) (t : T) (front back : Wants T N) (x : Symbol T N) → true ≡ (length front == 0) → false ≡ (length back == 0) → x ≡ get_or back 0 x
    → may_come e (Some t) (x ∷ []) ≡ may_come e (Some t) (front ++ back)
by_second {T} {N} e t [] back x none some is = by_first e t back [] x some is ∙ ap (λ (w : Wants T N). may_come e (Some t) w) (append-nil back)
by_second e t (y ∷ front) back x none some is = let zero : length (y ∷ front) ≡ 0 = eqb-true (length (y ∷ front)) 0 (sym none) in absurd (omega (arith, zero))

pub by_none : {T N : Type 0} (e : T → T → Bool) (t : T) (front back : Wants T N) → true ≡ (length front == 0) → true ≡ (length back == 0) → false ≡ may_come e (Some t) (front ++ back)
by_none e t [] [] none nothing = refl
by_none e t [] (y ∷ back) none nothing = let zero : length (y ∷ back) ≡ 0 = eqb-true (length (y ∷ back)) 0 (sym nothing) in absurd (omega (arith, zero))
by_none e t (y ∷ front) back none nothing = let zero : length (y ∷ front) ≡ 0 = eqb-true (length (y ∷ front)) 0 (sym none) in absurd (omega (arith, zero))

pub none_ruled_out : {T N : Type 0} (e : T → T → Bool) (ws : List (Wants T N)) → not_ruled_out e None ws ≡ ws
none_ruled_out e [] = refl
none_ruled_out {T} {N} e (w ∷ ws) = ap (λ (vs : List (Wants T N)). w ∷ vs) (none_ruled_out e ws)

module _ {T N P : Type 0} (e : T → T → Bool) (q : N → N → Bool) (g : List (Rewrite T N P)) where
  pub ways_left : (next : Option T) (k : ℕ) (t : T) (w rest : Wants T N) (d : Symbol T N) (f : N) → 0 < k → false ≡ (length w == 0) → get_or w 0 d ≡ Nonterminal f → rest ≡ drop 1 w
      → not_ruled_out e next (ways e q g k t w) ≡ flat_map (λ (x : Rewrite T N P). not_ruled_out e next (ways e q g (k - 1) t (x.symbols ++ rest))) (rewrites_of q g f)
  ways_left next k t w rest d f lt some is left =
      ap (λ (ws : List (Wants T N)). not_ruled_out e next ws) (ways_opened e q g k t w rest d f lt some is left)
      ∙ filter-flat_map (may_come e next) (λ (x : Rewrite T N P). ways e q g (k - 1) t (x.symbols ++ rest)) (rewrites_of q g f)

  pub all_left : (next : Option T) (k : ℕ) (t : T) (ws : List (Wants T N)) → not_ruled_out e next (all_ways e q g k t ws) ≡ flat_map (λ w. not_ruled_out e next (ways e q g k t w)) ws
  all_left next k t ws = filter-flat_map (may_come e next) (ways e q g k t) ws

  -- what is ruled out leads nowhere
  nowhere : (k : ℕ) (u : T) (w : Wants T N) → may_come e (Some u) w ≡ false → ways e q g k u w ≡ []
  nowhere k u [] h = refl
  nowhere k u (Terminal v ∷ w) h = ap (λ c. cond c (w ∷ []) []) h
  nowhere k u (Nonterminal f ∷ w) h = absurd (not_both h)

  same_with : (k : ℕ) (u : T) (w : Wants T N) (ws : List (Wants T N)) (b : Bool) → may_come e (Some u) w ≡ b → all_ways e q g k u (not_ruled_out e (Some u) ws) ≡ all_ways e q g k u ws
      → all_ways e q g k u (cond b (w ∷ not_ruled_out e (Some u) ws) (not_ruled_out e (Some u) ws)) ≡ ways e q g k u w ++ all_ways e q g k u ws
  same_with k u w ws true h more = ap (λ (vs : List (Wants T N)). ways e q g k u w ++ vs) more
  same_with k u w ws false h more = more ∙ ap (λ (vs : List (Wants T N)). vs ++ all_ways e q g k u ws) (sym (nowhere k u w h))

  same_ways : (k : ℕ) (u : T) (ws : List (Wants T N)) → all_ways e q g k u (not_ruled_out e (Some u) ws) ≡ all_ways e q g k u ws
  same_ways k u [] = refl
  same_ways k u (w ∷ ws) = same_with k u w ws (may_come e (Some u) w) refl (same_ways k u ws)

  some_ways : (k : ℕ) (u : T) (full : List (Wants T N)) → is_stuck (all_ways e q g k u full) ≡ false → is_stuck full ≡ false
  some_ways k u [] h = h
  some_ways k u (w ∷ ws) h = refl

  some_left : (next : Option T) (ws : List (Wants T N)) → is_stuck (not_ruled_out e next ws) ≡ false → is_stuck ws ≡ false
  some_left next [] h = h
  some_left next (w ∷ ws) h = refl

  follows : (k : ℕ) (ws : List (Wants T N)) (at : ℕ) (t : T) (ts : List T) → is_stuck (all_ways e q g k t ws) ≡ false
      → search_fault e q g k ws at (t ∷ ts) ≡ search_fault e q g k (all_ways e q g k t ws) (at + 1) ts
  follows k ws at t ts h = ap (λ c. cond c (Some (record { at = at; expected = all_firsts q g k ws })) (search_fault e q g k (all_ways e q g k t ws) (at + 1) ts)) h

  -- Behind a token the search may go on from what the next one doesn't rule out, where that one can come.
  skips : (k : ℕ) (ws vs us : List (Wants T N)) (next : Option T) (at : ℕ) (ts : List T) (t u : T) (all : Option (Found T)) → at + 1 < length ts → t ≡ get_or ts at t → u ≡ get_or ts (at + 1) u
      → vs ≡ not_ruled_out e (Some u) (all_ways e q g k t ws) → us ≡ not_ruled_out e next (all_ways e q g k u vs) → is_stuck us ≡ false
      → search_fault e q g k ws at (drop at ts) ≡ all → search_fault e q g k vs (at + 1) (drop (at + 1) ts) ≡ all
  skips k ws vs us next at ts t u all lt first second after more some inv =
      let inside : at < length ts = omega (arith, lt) in
      let split : drop at ts ≡ t ∷ drop (at + 1) ts = drop_more ts at t inside ∙ ap (λ (x : T). x ∷ drop (at + 1) ts) (sym first) in
      let behind : drop (at + 1) ts ≡ u ∷ drop (at + 1 + 1) ts = drop_more ts (at + 1) u lt ∙ ap (λ (x : T). x ∷ drop (at + 1 + 1) ts) (sym second) in
      let full : List (Wants T N) = all_ways e q g k t ws in
      let alike : all_ways e q g k u vs ≡ all_ways e q g k u full = ap (λ (w : List (Wants T N)). all_ways e q g k u w) after ∙ same_ways k u full in
      let goes : is_stuck (all_ways e q g k u vs) ≡ false = some_left next (all_ways e q g k u vs) (ap (λ (w : List (Wants T N)). is_stuck w) (sym more) ∙ some) in
      let would : is_stuck (all_ways e q g k u full) ≡ false = ap (λ (w : List (Wants T N)). is_stuck w) (sym alike) ∙ goes in
      ap (λ (l : List T). search_fault e q g k vs (at + 1) l) behind
      ∙ follows k vs (at + 1) u (drop (at + 1 + 1) ts) goes
      ∙ ap (λ (w : List (Wants T N)). search_fault e q g k w (at + 1 + 1) (drop (at + 1 + 1) ts)) alike
      ∙ sym (follows k full (at + 1) u (drop (at + 1 + 1) ts) would)
      ∙ sym (ap (λ (l : List T). search_fault e q g k full (at + 1) l) behind)
      ∙ sym (follows k ws at t (drop (at + 1) ts) (some_ways k u full would))
      ∙ sym (ap (λ (l : List T). search_fault e q g k ws at l) split)
      ∙ inv

  -- What holds of the lists that are followed holds of the next ones.
  pub walks_on : (k : ℕ) (ws vs us : List (Wants T N)) (at : ℕ) (ts : List T) (u v : T) (all : Option (Found T)) → at < length ts - 2 → u ≡ get_or ts (at + 1) u → v ≡ get_or ts (at + 2) v
      → ((d : T) → vs ≡ not_ruled_out e (Some (get_or ts (at + 1) d)) (all_ways e q g k (get_or ts at d) ws))
      → us ≡ not_ruled_out e (Some v) (all_ways e q g k u vs) → is_stuck us ≡ false → search_fault e q g k ws at (drop at ts) ≡ all
      → (at + 1 + 2 ≤ length ts) × ((d : T) → us ≡ not_ruled_out e (Some (get_or ts (at + 1 + 1) d)) (all_ways e q g k (get_or ts (at + 1) d) vs))
      × (search_fault e q g k vs (at + 1) (drop (at + 1) ts) ≡ all)
  walks_on k ws vs us at ts u v all lt second third after more some inv =
      let here : at < length ts = omega (arith, lt) in
      let next : at + 1 < length ts = omega (arith, lt) in
      let behind : at + 2 < length ts = omega (arith, lt) in
      let place : at + 2 ≡ at + 1 + 1 = omega arith in (
        omega (arith, lt),
        (λ d.
            let is_next : u ≡ get_or ts (at + 1) d = second ∙ get_or_default ts (at + 1) u d next in
            let is_behind : v ≡ get_or ts (at + 1 + 1) d = third ∙ get_or_default ts (at + 2) v d behind ∙ ap (λ (i : ℕ). get_or ts i d) place in
            more ∙ ap (λ (x : T). not_ruled_out e (Some x) (all_ways e q g k u vs)) is_behind
            ∙ ap (λ (x : T). not_ruled_out e (Some (get_or ts (at + 1 + 1) d)) (all_ways e q g k x vs)) is_next),
        skips k ws vs us (Some v) at ts (get_or ts at u) u all next (get_or_default ts at u (get_or ts at u) here) second
            (after u ∙ ap (λ (x : T). not_ruled_out e (Some x) (all_ways e q g k (get_or ts at u) ws)) (sym second)) more some inv,
      )
