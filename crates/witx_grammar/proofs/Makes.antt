-- From expected tokens to what they stand for, a production a line: wherever such tokens stand, the symbols are derived, and stand for values with the claim.
use Rattle.std.proofs.Common.{◌≡◌, List, [], ◌∷◌, ◌++◌, map, refl, ap, sym, ◌∙◌, subst}
use Rattle.std.proofs.lemmas.List.{append-nil}
use Rattle.witx_grammar.specs.declared.table.Symbol.TheVariants.{Terminal, Nonterminal}
use Rattle.witx_grammar.specs.Grammar.{In, Rewrite, Wants}
use Rattle.witx_grammar.proofs.Derive.{Written, written_none, written_leaf, written_end, written_nonterminal, written_production}

-- A grammar with what its tokens and productions stand for. A leaf (L) is a token (X) with its place and whatever else it carries.
pub record Language (T N P L X V : Type 0) : Type 0 where
  pub grammar : List (Rewrite T N P)
  pub token : L → X
  pub kind : X → T
  pub leaf : L → List V
  pub act : P → List L → List V → List V

-- Nothing follows where kinds of tokens stand behind the end of the leaves.
abbrev pub Closes : {T L : Type 0} → List T → List L → Type 0
Closes [] more = Unit {0}
Closes (t ∷ ts) more = more ≡ []

-- Wherever the tokens xs stand, and behind them, at the end of the leaves, the kinds last, the symbols w are derived, and stand for values for which the claim holds.
pub record Makes {T N P L X V : Type 0} (a : Language T N P L X V) (last : List T) (xs : List X) (w : Wants T N) (C : List V → Type 0) : Type 0 where
  pub run : (ls more : List L) → map a.token ls ≡ xs → Closes last more → (us : List V) × C us × Written a.grammar a.leaf a.act (map a.kind xs ++ last) ls more w us

-- a whole nonterminal, which stands for one value, made of something for which the claim holds
abbrev pub Reads : {T N P L X V : Type 0} → Language T N P L X V → List T → List X → N → (Y : Type 0) → (Y → V) → (Y → Type 0) → Type 0
Reads a last xs f Y c Q = Makes a last xs (Nonterminal f ∷ []) (λ us. (y : Y) × (us ≡ c y ∷ []) × Q y)

not_nil : {A : Type 0} (x : A) (xs : List A) → x ∷ xs ≡ [] → ⊥
not_nil x xs e = cc

first_is : {A : Type 0} (x y : A) (xs ys : List A) → x ∷ xs ≡ y ∷ ys → x ≡ y
first_is x y xs ys e = cc

others_are : {A : Type 0} (x y : A) (xs ys : List A) → x ∷ xs ≡ y ∷ ys → xs ≡ ys
others_are x y xs ys e = cc

kinds_append : {X T : Type 0} (kind : X → T) (xs ys : List X) (last : List T) → map kind xs ++ (map kind ys ++ last) ≡ map kind (xs ++ ys) ++ last
kinds_append kind [] ys last = refl
kinds_append {X} {T} kind (x ∷ xs) ys last = ap (λ (k : List T). kind x ∷ k) (kinds_append kind xs ys last)

-- where the tokens are split, so are the leaves
split : {L X : Type 0} (token : L → X) (ls : List L) (xs ys : List X) → map token ls ≡ xs ++ ys → (ps : List L) × (bs : List L) × (ls ≡ ps ++ bs) × (map token ps ≡ xs) × (map token bs ≡ ys)
split token ls [] ys e = ([], ls, refl, refl, e)
split token [] (x ∷ xs) ys e = absurd (not_nil x (xs ++ ys) (sym e))
split {L} {X} token (l ∷ ls) (x ∷ xs) ys e =
    let r = split token ls xs ys (others_are (token l) x (map token ls) (xs ++ ys) e) in (
      l ∷ r.0,
      r.1,
      ap (λ (k : List L). l ∷ k) r.2,
      ap (λ (k : List X). token l ∷ k) r.3 ∙ ap (λ (k : X). k ∷ xs) (first_is (token l) x (map token ls) (xs ++ ys) e),
      r.4,
    )

module _ {T N P L X V : Type 0} (a : Language T N P L X V) where
  abbrev Runs : List T → List X → List L → List L → Wants T N → (List V → Type 0) → Type 0
  Runs last xs ls more w C = (us : List V) × C us × Written a.grammar a.leaf a.act (map a.kind xs ++ last) ls more w us

  pub stop_runs : (C : List V → Type 0) → C [] → (ls more : List L) → map a.token ls ≡ [] → Runs [] [] ls more [] C
  stop_runs C c [] more e = ([], c, written_none a.grammar a.leaf a.act more)
  stop_runs C c (l ∷ ls) more e = absurd (not_nil (a.token l) (map a.token ls) e)

  pub end_runs : (t : T) (C : List V → Type 0) → C [] → (ls more : List L) → map a.token ls ≡ [] → more ≡ [] → Runs (t ∷ []) [] ls more (Terminal t ∷ []) C
  end_runs t C c [] more e n = ([], c, subst (λ (m : List L). Written a.grammar a.leaf a.act (t ∷ []) [] m (Terminal t ∷ []) []) (sym n) (written_end a.grammar a.leaf a.act t))
  end_runs t C c (l ∷ ls) more e n = absurd (not_nil (a.token l) (map a.token ls) e)

  pub token_runs : (last : List T) (x : X) (t : T) (xs : List X) (w : Wants T N) (Y : Type 0) (c : Y → List V) (Q : Y → Type 0) (C : List V → Type 0) → a.kind x ≡ t
      → ((l : L) → a.token l ≡ x → (y : Y) × (a.leaf l ≡ c y) × Q y)
      → Makes a last xs w (λ us. (y : Y) → Q y → C (c y ++ us)) → (ls more : List L) → map a.token ls ≡ x ∷ xs → Closes last more → Runs last (x ∷ xs) ls more (Terminal t ∷ w) C
  token_runs last x t xs w Y c Q C k h m [] more e n = absurd (not_nil x xs (sym e))
  token_runs last x t xs w Y c Q C k h m (l ∷ ls) more e n =
      let r = m.run ls more (others_are (a.token l) x (map a.token ls) xs e) n in
      let y = h l (first_is (a.token l) x (map a.token ls) xs e) in (
        c y.0 ++ r.0,
        r.1 y.0 y.2,
        subst (λ (s : T). Written a.grammar a.leaf a.act (s ∷ (map a.kind xs ++ last)) (l ∷ ls) more (Terminal t ∷ w) (c y.0 ++ r.0)) (sym k)
            (written_leaf a.grammar a.leaf a.act t l (c y.0) (map a.kind xs ++ last) ls more w r.0 y.1 r.2),
      )

  pub nonterminal_runs : (last : List T) (xs ys : List X) (f : N) (w : Wants T N) (Y : Type 0) (c : Y → V) (Q : Y → Type 0) (C : List V → Type 0)
      → Reads a [] xs f Y c Q → Makes a last ys w (λ us. (y : Y) → Q y → C (c y ∷ us)) → (ls more : List L) → map a.token ls ≡ xs ++ ys → Closes last more
      → Runs last (xs ++ ys) ls more (Nonterminal f ∷ w) C
  nonterminal_runs last xs ys f w Y c Q C g m ls more e n =
      let s = split a.token ls xs ys e in
      let p = g.run s.0 (s.1 ++ more) s.3 tt in
      let r = m.run s.1 more s.4 n in
      let y = p.1.0 in
      let first : Written a.grammar a.leaf a.act (map a.kind xs) s.0 (s.1 ++ more) (Nonterminal f ∷ []) (c y ∷ []) =
      subst (λ (ts : List T). Written a.grammar a.leaf a.act ts s.0 (s.1 ++ more) (Nonterminal f ∷ []) (c y ∷ [])) (append-nil (map a.kind xs))
      (subst (λ (us : List V). Written a.grammar a.leaf a.act (map a.kind xs ++ []) s.0 (s.1 ++ more) (Nonterminal f ∷ []) us) p.1.1 p.2) in
      let both = written_nonterminal a.grammar a.leaf a.act f (map a.kind xs) (map a.kind ys ++ last) s.0 s.1 more w (c y ∷ []) r.0 first r.2 in (
        c y ∷ r.0,
        r.1 y p.1.2,
        subst (λ (k : List L). Written a.grammar a.leaf a.act (map a.kind (xs ++ ys) ++ last) k more (Nonterminal f ∷ w) (c y ∷ r.0)) (sym s.2)
            (subst (λ (ts : List T). Written a.grammar a.leaf a.act ts (s.0 ++ s.1) more (Nonterminal f ∷ w) (c y ∷ r.0)) (kinds_append a.kind xs ys last) both),
      )

-- ---- the combinators: a term of them has the form of the production

-- nothing more
pub stop : {T N P L X V : Type 0} {a : Language T N P L X V} {C : List V → Type 0} → C [] → Makes a [] [] [] C
stop {a = a} {C} c = record { run = (λ ls more e n. stop_runs a C c ls more e) }

-- the token behind the end of the leaves
pub the_end : {T N P L X V : Type 0} {a : Language T N P L X V} {t : T} {C : List V → Type 0} → C [] → Makes a (t ∷ []) [] (Terminal t ∷ []) C
the_end {a = a} {t} {C} c = record { run = (λ ls more e n. end_runs a t C c ls more e n) }

-- a token that stands for nothing
pub silent : {T N P L X V : Type 0} {a : Language T N P L X V} {last : List T} {xs : List X} {w : Wants T N} {C : List V → Type 0} (x : X) {t : T} → a.kind x ≡ t
    → ((l : L) → a.token l ≡ x → a.leaf l ≡ []) → Makes a last xs w C → Makes a last (x ∷ xs) (Terminal t ∷ w) C
silent {a = a} {last} {xs} {w} {C} x {t} k h m = record {
  run = token_runs a last x t xs w (Unit {0}) (λ y. []) (λ y. Unit {0}) C k (λ l e. (tt, h l e, tt)) (record { run = (λ ls more e n. let r = m.run ls more e n in (r.0, (λ y q. r.1), r.2)) });
}

-- a token that stands for one value, made of something for which a claim holds
pub telling : {T N P L X V : Type 0} {a : Language T N P L X V} {last : List T} {xs : List X} {w : Wants T N} {C : List V → Type 0} (x : X) {t : T} (Y : Type 0) (c : Y → V) (Q : Y → Type 0) → a.kind x ≡ t
    → ((l : L) → a.token l ≡ x → (y : Y) × (a.leaf l ≡ c y ∷ []) × Q y) → Makes a last xs w (λ us. (y : Y) → Q y → C (c y ∷ us)) → Makes a last (x ∷ xs) (Terminal t ∷ w) C
telling {a = a} {last} {xs} {w} {C} x {t} Y c Q k h m = record { run = token_runs a last x t xs w Y (λ y. c y ∷ []) Q C k h m }

-- a nonterminal, and what follows it
pub inner : {T N P L X V : Type 0} {a : Language T N P L X V} {last : List T} {ys zs : List X} {f : N} {w : Wants T N} {Y : Type 0} {c : Y → V} {Q : Y → Type 0} {C : List V → Type 0} (xs : List X)
    → zs ≡ xs ++ ys → Reads a [] xs f Y c Q → Makes a last ys w (λ us. (y : Y) → Q y → C (c y ∷ us)) → Makes a last zs (Nonterminal f ∷ w) C
inner {X = X} {a = a} {last} {ys} {zs} {f} {w} {Y} {c} {Q} {C} xs s g m =
    subst (λ (z : List X). Makes a last z (Nonterminal f ∷ w) C) (sym s) (record { run = (λ ls more e n. nonterminal_runs a last xs ys f w Y c Q C g m ls more e n) })

-- a nonterminal that comes last, up to the end
pub outer : {T N P L X V : Type 0} {a : Language T N P L X V} {last : List T} {xs : List X} {f : N} {Y : Type 0} {c : Y → V} {Q : Y → Type 0} {C : List V → Type 0}
    → Reads a last xs f Y c Q → ((y : Y) → Q y → C (c y ∷ [])) → Makes a last xs (Nonterminal f ∷ []) C
outer {V = V} {C = C} g h = record {
  run = (λ ls more e n. let r = g.run ls more e n in (r.0, subst (λ (us : List V). C us) (sym r.1.1) (h r.1.0 r.1.2), r.2));
}

-- a production: its symbols by a term of these, and the value that its action makes of theirs, before whatever else
pub by : {T N P L X V : Type 0} {a : Language T N P L X V} {last : List T} {xs : List X} {Y : Type 0} {c : Y → V} {Q : Y → Type 0} (x : Rewrite T N P) → In x a.grammar
    → Makes a last xs x.symbols (λ us. (ls : List L) → (y : Y) × ((vs : List V) → a.act x.name ls (us ++ vs) ≡ c y ∷ vs) × Q y) → Reads a last xs x.nonterminal Y c Q
by {a = a} {last} {xs} {Y} {c} {Q} x i m = record {
  run = (λ ls more e n.
      let r = m.run ls more e n in
      let y = r.1 (ls ++ more) in
      (c y.0 ∷ [], (y.0, refl, y.2), written_production a.grammar a.leaf a.act x (map a.kind xs ++ last) ls more r.0 (c y.0 ∷ []) i y.1 r.2));
}
