-- Lines give a function that fits its tags one list of values, and then none of them is at fault; so a call that can be made isn't
-- refused.
use Rattle.std.specs.Prelude.{◌≡◌, ◌⊎◌, ℕ, ◌+◌, List, [], ◌∷◌, ◌++◌, Bool, true, false, cond, Option, Some, None, IsTrue, map}
use Rattle.std.proofs.Common.{refl, sym, ap, ◌∙◌, subst, inl, inr}
use Rattle.std.specs.List.{find}
use Rattle.witx_ast.specs.Functions.{FunctionTree}
use Rattle.witx_ast.specs.Plain.{plain}
use Rattle.witx_base.specs.SameBytes.{both, false-true}
use Rattle.witx_ast.specs.Tags.{fits, function_fits, types_fit}
use Rattle.witx_ast.specs.Tree.{Field, Tree}
use Rattle.witx_ast.specs.ValueTests.{is_value}
use Rattle.witx_ast.specs.Values.{Value}
use Rattle.witx_machine.specs.Faithful.{are_arguments, is_reply, zero_error}
use Rattle.witx_machine.specs.Functions.{Function, function_of}
use Rattle.witx_adapt.proofs.Fitting.{FunctionsFit}
use Rattle.witx_adapt.specs.Entries.{Entry, Owned, entry_for}
use Rattle.witx_invoke.specs.Laws.{AtMostOneLine}
use Rattle.witx_call.specs.Lines.{FirstFault, Gives, IsValueLine, lines_text, line_types, values_given}
use Rattle.witx_tools.specs.Calls.{CallFails, CanCall, GivesValues, HandedValues, HandedFails, LacksRoom, LineFails, called_function}

-- ---- lines of values

abbrev EachFits : List Tree → Type 0
EachFits [] = Unit {0}
EachFits (t ∷ ts) = (fits (plain t) ≡ true) × EachFits ts

abbrev EachIs : List Tree → List Value → Type 0
EachIs [] [] = Unit {0}
EachIs (t ∷ ts) (v ∷ vs) = IsTrue (is_value (plain t) v) × EachIs ts vs
EachIs [] (v ∷ vs) = ⊥
EachIs (t ∷ ts) [] = ⊥

first-line : (t : Tree) (v : Value) (vs : List Value) → IsTrue (is_value (plain t) v) → IsValueLine t (lines_text (v ∷ vs)) v (lines_text vs)
first-line t v vs h = record { value = h; spelled = refl }

module _ (law : AtMostOneLine) where
  one-line : (t : Tree) (text : List ℕ) (v w : Value) (rest more : List ℕ) → fits (plain t) ≡ true → IsValueLine t text v rest → IsValueLine t text w more → (v ≡ w) × (rest ≡ more)
  one-line t text v w rest more f l m = law t text v w rest more f l m

  -- the same text is of the same values
  same-values : (ts : List Tree) (vs ws : List Value) → EachFits ts → EachIs ts vs → EachIs ts ws → lines_text vs ≡ lines_text ws → vs ≡ ws
  same-values [] [] [] f h k e = refl
  same-values [] [] (w ∷ ws) f h k e = absurd k
  same-values [] (v ∷ vs) ws f h k e = absurd h
  same-values (t ∷ ts) [] ws f h k e = absurd h
  same-values (t ∷ ts) (v ∷ vs) [] f h k e = absurd k
  same-values (t ∷ ts) (v ∷ vs) (w ∷ ws) f h k e =
      let here = subst (λ text. IsValueLine t text w (lines_text ws)) (sym e) (first-line t w ws k.0) in
      let one = one-line t (lines_text (v ∷ vs)) v w (lines_text vs) (lines_text ws) f.0 (first-line t v vs h.0) here in
      let head : v ≡ w = one.0 in
      let tail : vs ≡ ws = same-values ts vs ws f.1 h.1 k.1 one.1 in
      cc

  -- and has no line at fault
  no-fault : (k : ℕ) (ts : List Tree) (vs : List Value) (n : ℕ) → EachFits ts → EachIs ts vs → FirstFault k ts (lines_text vs) n → ⊥
  no-fault k [] [] n f h (at, some) = some refl
  no-fault k [] (v ∷ vs) n f h fault = h
  no-fault k (t ∷ ts) [] n f h fault = h
  no-fault k (t ∷ ts) (v ∷ vs) n f h (inl (at, none)) = none v (lines_text vs) (first-line t v vs h.0)
  no-fault k (t ∷ ts) (v ∷ vs) n f h (inr (w, rest, line, fault)) =
      let one = one-line t (lines_text (v ∷ vs)) w v rest (lines_text vs) f.0 line (first-line t v vs h.0) in
      no-fault (k + 1) ts vs n f.1 h.1 (subst (λ text. FirstFault (k + 1) ts text n) one.1 fault)

-- ---- the values of a function

test-both : (b : Bool) (P : Type 0) (c : Bool) → cond b c false ≡ true → (b ≡ true → c ≡ true → P) → P
test-both true P c h k = k refl h
test-both false P c h k = absurd (false-true h)

each-argument : (ts : List Tree) (vs : List Value) → IsTrue (are_arguments ts vs) → EachIs ts vs
each-argument [] [] h = tt
each-argument [] (v ∷ vs) h = absurd (false-true h)
each-argument (t ∷ ts) [] h = absurd (false-true h)
each-argument (t ∷ ts) (v ∷ vs) h = test-both (is_value (plain t) v) _ (are_arguments ts vs) h (λ e k. (e, each-argument ts vs k))

-- with the value of a result behind them
each-given : (ps rs : List Tree) (vs : List Value) (reply : Option Value) → EachIs ps vs → IsTrue (is_reply rs reply) → EachIs (ps ++ rs) (values_given vs reply)
each-given [] [] [] None h r = tt
each-given [] [] [] (Some v) h r = absurd (false-true r)
each-given [] (t ∷ []) [] None h r = absurd (false-true r)
each-given [] (t ∷ []) [] (Some v) h r = (r, tt)
each-given [] (t ∷ u ∷ rs) [] None h r = absurd (false-true r)
each-given [] (t ∷ u ∷ rs) [] (Some v) h r = absurd (false-true r)
each-given [] rs (v ∷ vs) reply h r = absurd h
each-given (t ∷ ps) rs [] reply h r = absurd h
each-given (t ∷ ps) rs (v ∷ vs) None h r = (h.0, each-given ps rs vs None h.1 r)
each-given (t ∷ ps) rs (v ∷ vs) (Some w) h r = (h.0, each-given ps rs vs (Some w) h.1 r)

each-field : (fs : List Field) → types_fit fs ≡ true → EachFits (map (λ p. p.tree) fs)
each-field [] h = tt
each-field (p ∷ fs) h = let k = both (fits (plain p.tree)) (types_fit fs) h in (k.0, each-field fs k.1)

each-append : (ts us : List Tree) → EachFits ts → EachFits us → EachFits (ts ++ us)
each-append [] us h k = k
each-append (t ∷ ts) us h k = (h.0, each-append ts us h.1 k)

types-fit : (f : FunctionTree) → function_fits f ≡ true → EachFits (line_types (function_of f))
types-fit f h =
    let k = both (types_fit f.params) (types_fit f.results) h in
    each-append (map (λ p. p.tree) f.params) (map (λ p. p.tree) f.results) (each-field f.params k.0) (each-field f.results k.1)

given-each : (f : Function) (text : List ℕ) (vs : List Value) (reply : Option Value) → Gives f text vs reply → EachIs (line_types f) (values_given vs reply)
given-each f text vs reply g = each-given f.params f.results vs reply (each-argument f.params vs g.accepted) g.replied

-- arguments are as many as the types of the parameters
last-same : (ts : List Tree) (vs ws : List Value) (v w : Value) → EachIs ts vs → EachIs ts ws → vs ++ v ∷ [] ≡ ws ++ w ∷ [] → (vs ≡ ws) × (v ≡ w)
last-same [] [] [] v w h k e = let same : v ≡ w = cc in (refl, same)
last-same [] [] (x ∷ ws) v w h k e = absurd k
last-same [] (x ∷ vs) ws v w h k e = absurd h
last-same (t ∷ ts) [] ws v w h k e = absurd h
last-same (t ∷ ts) (x ∷ vs) [] v w h k e = absurd k
last-same (t ∷ ts) (x ∷ vs) (y ∷ ws) v w h k e =
    let head : x ≡ y = cc in
    let tail : vs ++ v ∷ [] ≡ ws ++ w ∷ [] = cc in
    let more = last-same ts vs ws v w h.1 k.1 tail in
    (ap (λ z. z ∷ vs) head ∙ ap (λ zs. y ∷ zs) more.0, more.1)

same-given : (ts rs : List Tree) (vs ws : List Value) (v w : Option Value) → EachIs ts vs → EachIs ts ws → IsTrue (is_reply rs v) → IsTrue (is_reply rs w)
    → values_given vs v ≡ values_given ws w → (vs ≡ ws) × (v ≡ w)
same-given ts [] vs ws None None h k r s e = (e, refl)
same-given ts [] vs ws None (Some w) h k r s e = absurd (false-true s)
same-given ts [] vs ws (Some v) w h k r s e = absurd (false-true r)
same-given ts (t ∷ u ∷ rs) vs ws None w h k r s e = absurd (false-true r)
same-given ts (t ∷ u ∷ rs) vs ws (Some v) w h k r s e = absurd (false-true r)
same-given ts (t ∷ []) vs ws None w h k r s e = absurd (false-true r)
same-given ts (t ∷ []) vs ws (Some v) None h k r s e = absurd (false-true s)
same-given ts (t ∷ []) vs ws (Some v) (Some w) h k r s e = let same = last-same ts vs ws v w h k e in (same.0, ap Some same.1)

-- ---- a call that can be made

module _ (law : AtMostOneLine) (e : Entry) (fit : function_fits e.owned.func ≡ true) (values : List ℕ) where
  abbrev f : Function
  f = called_function e

  line-excluded : (h : HandedValues) (report : List ℕ) → GivesValues e values h → LineFails e values report → ⊥
  unfolding LineFails
  line-excluded h report g (n, fault, told) =
      no-fault law 1 (line_types f) (values_given h.arguments h.reply) n (types-fit e.owned.func fit) (given-each f values h.arguments h.reply g)
      (subst (λ text. FirstFault 1 (line_types f) text n) g.spelled fault)

  one-handed : (h k : HandedValues) → GivesValues e values h → GivesValues e values k → (h.arguments ≡ k.arguments) × (h.reply ≡ k.reply)
  one-handed h k g c =
      same-given f.params f.results h.arguments k.arguments h.reply k.reply (each-argument f.params h.arguments g.accepted)
      (each-argument f.params k.arguments c.accepted) g.replied c.replied
      (same-values law (line_types f) (values_given h.arguments h.reply) (values_given k.arguments k.reply) (types-fit e.owned.func fit)
      (given-each f values h.arguments h.reply g) (given-each f values k.arguments k.reply c) (sym g.spelled ∙ c.spelled))

  handed-excluded : (can : CanCall e values) (h : HandedValues) (report : List ℕ) → GivesValues e values h → HandedFails e h report → ⊥
  unfolding HandedFails
  handed-excluded can h report g (inl (lost, told)) =
      let same : h.reply ≡ can.handed.reply = (one-handed h can.handed g can.given).1 in
      false-true (sym can.kept ∙ subst (λ r. zero_error f r ≡ true) same lost)
  handed-excluded can h report g (inr (kept, lacks, told)) =
      let same = one-handed h can.handed g can.given in
      let there : LacksRoom e (record { arguments = can.handed.arguments; reply = h.reply }) = subst (λ vs. LacksRoom e (record { arguments = vs; reply = h.reply })) same.0 lacks in
      can.room (subst (λ r. LacksRoom e (record { arguments = can.handed.arguments; reply = r })) same.1 there)

  pub call-excluded : (report : List ℕ) → CanCall e values → CallFails e values report → ⊥
  unfolding CallFails
  call-excluded report can (inl line) = line-excluded can.handed report can.given line
  call-excluded report can (inr (h, g, fails)) = handed-excluded can h report g fails

-- the functions of a document fit their tags
found-by : (b : Bool) (x y : Entry) (o : Option Entry) → cond b (Some x) o ≡ Some y → (x ≡ y) ⊎ (o ≡ Some y)
found-by true x y o h = let same : x ≡ y = cc in inl same
found-by false x y o h = inr h

pub found-fits : (q : Entry → Bool) (ps : List Owned) (e : Entry) → FunctionsFit ps → find q (map entry_for ps) ≡ Some e → function_fits e.owned.func ≡ true
found-fits q [] e h k = cc
found-fits q (p ∷ ps) e h k =
    elim (found-by (q (entry_for p)) (entry_for p) e (find q (map entry_for ps)) k)
    [ inl same ↦ subst (λ (x : Entry). function_fits x.owned.func ≡ true) same h.0 | inr more ↦ found-fits q ps e h.1 more ]
