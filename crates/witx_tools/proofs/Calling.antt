-- The first function with two names, as the program finds it; the functions of an adapted document can be called with any values of
-- their types; and what is told of a call, or why there is none.
use Rattle.std.specs.Prelude.{◌≡◌, ℕ, zero, suc, ◌≤◌, ◌<◌, Bool, true, false, List, [], ◌∷◌, ◌++◌, All, IsTrue, IsFalse, Option, Some, None, Result, Ok, Err, IfErr, IfOk, length, get_or, map, option_map, codes}
use Rattle.std.proofs.Common.{refl, sym, ap, ◌∙◌, subst, inl, inr, arith}
use Rattle.std.specs.Borrow.{Bor}
use Rattle.std.specs.List.{find, position, position_or_len}
use Rattle.std.proofs.lemmas.Bool.Decides.{nat_tests}
use Rattle.std.proofs.lemmas.List.Elements.{All-cons}
use Rattle.std.proofs.lemmas.List.Quantifiers.{position-Some}
use Rattle.std.proofs.lemmas.List.Sums.{fails_before_first}
use Rattle.std.proofs.lemmas.List.{length-map}
use Rattle.witx_ast.specs.Functions.{func_tree, param_field}
use Rattle.witx_ast.specs.declared.function.InterfaceFunc.{InterfaceFunc}
use Rattle.witx_ast.specs.Tags.{function_fits}
use Rattle.witx_ast.specs.Tree.{Field}
use Rattle.witx_ast.specs.Values.{Value}
use Rattle.witx_machine.specs.Faithful.{are_arguments, is_reply, zero_error}
use Rattle.witx_machine.specs.Functions.{Function, function_of}
use Rattle.witx_machine.specs.Lowerable.{earlier_place, unlowerable, unlowerable_result}
use Rattle.witx_machine.specs.declared.surface.Place.{Place}
use Rattle.witx_instructions.specs.Views.{called, event_of}
use Rattle.witx_adapt.proofs.Fitting.{FunctionsFit, called-same, lowered-none, none-here, none-later}
use Rattle.witx_adapt.specs.Adaptable.{first_unlowered, unlowered}
use Rattle.witx_adapt.specs.Entries.{Entry, IsFaithful, Owned, entry_for, entry_of}
use Rattle.witx_adapt.specs.declared.adapted.AdaptedFunc.{AdaptedFunc}
use Rattle.witx_bytes.specs.Follow.{TakesAreWritable}
use Rattle.witx_bytes.specs.Seen.{seen}
use Rattle.witx_bytes.specs.declared.value.Value as program
use Rattle.witx_run.specs.Views.{reply_of}
use Rattle.witx_call.specs.CallSeen.{seen_of, CallSeen}
use Rattle.witx_invoke.specs.Invoking.{AllocatesWritable, CanRun, IsAnswer}
use Rattle.witx_call.specs.Ranges.{addresses}
use Rattle.witx_call.specs.Lines.{FirstFault, line_types}
use Rattle.witx_invoke.specs.Runs.{ComesTo, NoRoom}
use Rattle.witx_call.specs.declared.call_seen.Invoked.{Invoked}
use Rattle.witx_commands.specs.Stops.{StopsWith}
use Rattle.witx_commands.specs.declared.refusal.Stop.{Stop}
use Rattle.witx_commands.proofs.Refusing.{memory-stops, stops-as}
use Rattle.witx_tools.specs.Callable.{AreFor, IsCallable}
use Rattle.witx_tools.specs.Calls.{CallFails, GivesValues, HandedValues, HandedFails, IsCallText, IsHandedText, IsNamedText, LineFails, NamedFails, absent_report, first_named, has_function_names, line_report}
use Rattle.witx_tools.specs.InvokeTexts.{call_text}
use Rattle.witx_tools.proofs.Ranges.{IsWithin, all-within}
use Rattle.witx_commands.specs.Words.{FunctionNames}

-- ---- the first function with the names

find-here : {X : Type 0} (p : X → Bool) (x : X) (xs : List X) → p x ≡ true → find p (x ∷ xs) ≡ Some x
find-here p x xs e = rw e refl

find-later : {X : Type 0} (p : X → Bool) (x : X) (xs : List X) → p x ≡ false → find p (x ∷ xs) ≡ find p xs
find-later p x xs e = rw e refl

module _ (q : Entry → Bool) where
  abbrev passes : AdaptedFunc → Bool
  passes f = q (entry_of f)

  none-passes : (fs : List AdaptedFunc) → ((i : ℕ) (d : AdaptedFunc) → i < length fs → passes (get_or fs i d) ≡ false) → find q (map entry_of fs) ≡ None
  none-passes [] h = refl
  none-passes (f ∷ fs) h =
      find-later q (entry_of f) (map entry_of fs) (h zero f (omega arith)) ∙ none-passes fs (λ i d l. h (suc i) d (omega (arith, l)))

  first-passes : (fs : List AdaptedFunc) (i : ℕ) (d : AdaptedFunc) → i < length fs → passes (get_or fs i d) ≡ true
      → ((k : ℕ) → k < i → passes (get_or fs k d) ≡ false) → find q (map entry_of fs) ≡ Some (entry_of (get_or fs i d))
  first-passes [] i d l t h = absurd (omega (arith, l))
  first-passes (f ∷ fs) zero d l t h = find-here q (entry_of f) (map entry_of fs) t
  first-passes (f ∷ fs) (suc i) d l t h =
      find-later q (entry_of f) (map entry_of fs) (h zero (omega arith)) ∙ first-passes fs i d (omega (arith, l)) t (λ k m. h (suc k) (omega (arith, m)))

  module _ (fs : List AdaptedFunc) where
    past-all : position passes fs ≡ None → length fs ≤ position_or_len passes fs
    past-all e = grind (arith, nat_tests)

    found-none : position passes fs ≡ None → find q (map entry_of fs) ≡ None
    found-none e = none-passes fs (λ i d l. fails_before_first passes fs i d (omega (arith, l, past-all e)))

    found-at : (i : ℕ) (f : AdaptedFunc) → position passes fs ≡ Some i → f ≡ get_or fs i f → find q (map entry_of fs) ≡ Some (entry_of f)
    found-at i f p is =
        let h = position-Some passes fs i f p in first-passes fs i f h.0 h.1 h.2 ∙ ap (λ (f : AdaptedFunc). Some (entry_of f)) (sym is)

pub absent-named : (fs : List AdaptedFunc) (n : FunctionNames) (values : List ℕ) (s : Stop) → None ≡ position (λ f. has_function_names n (entry_of f)) fs
    → StopsWith (λ report. report ≡ absent_report n) s → StopsWith (NamedFails n (first_named n (map entry_of fs)) values) s
unfolding NamedFails
absent-named fs n values s p k =
    let none : first_named n (map entry_of fs) ≡ None = found-none (has_function_names n) fs (sym p) in
    let told : StopsWith (NamedFails n None values) s = stops-as (λ report. report ≡ absent_report n) (NamedFails n None values) (λ report r. r) s k in
    subst (λ e. StopsWith (NamedFails n e values) s) (sym none) told

pub named-fails : (fs : List AdaptedFunc) (n : FunctionNames) (values : List ℕ) (i : ℕ) (f : AdaptedFunc) (s : Stop) → Some i ≡ position (λ f. has_function_names n (entry_of f)) fs
    → f ≡ get_or fs i f → StopsWith (CallFails (entry_of f) values) s → StopsWith (NamedFails n (first_named n (map entry_of fs)) values) s
unfolding NamedFails
named-fails fs n values i f s p is k =
    let some : first_named n (map entry_of fs) ≡ Some (entry_of f) = found-at (has_function_names n) fs i f (sym p) is in
    let told : StopsWith (NamedFails n (Some (entry_of f)) values) s = stops-as (CallFails (entry_of f) values) (NamedFails n (Some (entry_of f)) values) (λ report r. r) s k in
    subst (λ e. StopsWith (NamedFails n e values) s) (sym some) told

pub named-told : (fs : List AdaptedFunc) (n : FunctionNames) (values text : List ℕ) (i : ℕ) (f : AdaptedFunc) → Some i ≡ position (λ f. has_function_names n (entry_of f)) fs
    → f ≡ get_or fs i f → IsCallText (entry_of f) values text → IsNamedText n (map entry_of fs) values text
named-told fs n values text i f p is k = record { entry = entry_of f; named = found-at (has_function_names n) fs i f (sym p) is; called = k }

-- ---- entries can be called

record CanBeCalled (e : Entry) : Type 0 where
  single : length e.owned.func.results ≤ 1
  fits : function_fits e.owned.func ≡ true
  writable : (arguments : List Value) (reply : Option Value)
      → AllocatesWritable e.owned.owner.name (function_of e.owned.func) e.lowered.caller e.lowered.callee arguments reply

no-place : (o : Option ℕ) (result : Option Place) → earlier_place o result ≡ None → result ≡ None
no-place None result h = h
no-place (Some i) result h = cc

few-results : (p : Owned) → unlowerable (function_of p.func) ≡ None → length p.func.results ≤ 1
few-results p h = by p.func.results (no-place _ _ h)
  where
    by : (rs : List Field) → unlowerable_result p.func.abi (map (λ r. r.tree) rs) ≡ None → length rs ≤ 1
    by [] e = omega arith
    by (r ∷ []) e = omega arith
    by (r ∷ u ∷ rs) e = cc

entry-callable : TakesAreWritable → (p : Owned) → IsTrue (function_fits p.func) → unlowered p ≡ None → CanBeCalled (entry_for p)
entry-callable law p h u = record {
  single = few-results p (lowered-none p u);
  fits = h;
  writable = λ arguments reply more o r. law p.owner.name p.func h arguments reply [] (addresses o.memory.taken ++ more) o r.run;
}

as-callable : (f : AdaptedFunc) → CanBeCalled (entry_of f) → IsFaithful f → IsCallable f
as-callable f k faithful = record {
  single = let e : length f.func.value.results ≡ length (func_tree f.func.value).results = sym (length-map f.func.value.results param_field) in omega (arith, e, k.single);
  fits = k.fits;
  faithful = faithful;
  writable = subst (λ g. (arguments : List Value) (reply : Option Value)
      → AllocatesWritable f.module.value.name g (map event_of f.caller.events) (map event_of f.callee.events) arguments reply) (called-same f.func.value) k.writable;
}

none-callable : All IsCallable []
none-callable k d l = absurd (omega (arith, l))

pub entries-callable : TakesAreWritable → (fs : List AdaptedFunc) (ps : List Owned) → map entry_of fs ≡ map entry_for ps → FunctionsFit ps → first_unlowered ps ≡ None
    → All IsFaithful fs → All IsCallable fs
entries-callable law [] ps e h u k = none-callable
entries-callable law (f ∷ fs) [] e h u k = cc
entries-callable law (f ∷ fs) (p ∷ ps) e h u k =
    let same : entry_for p ≡ entry_of f = cc in
    let rest : map entry_of fs ≡ map entry_for ps = cc in
    All-cons IsCallable f fs
    (as-callable f (subst CanBeCalled same (entry-callable law p h.0 (none-here (unlowered p) (first_unlowered ps) u))) (k zero f (omega arith)))
    (entries-callable law fs ps rest h.1 (none-later (unlowered p) (first_unlowered ps) u) (λ i d l. k (suc i) d (omega (arith, l))))

-- ---- values

pub line-fails : (f : AdaptedFunc) (func : InterfaceFunc) (values : List ℕ) (line : ℕ) (s : Stop) → func ≡ f.func.value
    → FirstFault 1 (line_types (function_of (func_tree func))) values line → StopsWith (λ report. report ≡ line_report line) s → StopsWith (LineFails (entry_of f) values) s
unfolding LineFails
line-fails f func values line s e h k =
    let fault = subst (λ func. FirstFault 1 (line_types (function_of (func_tree func))) values line) e h in
    stops-as (λ report. report ≡ line_report line) (LineFails (entry_of f) values) (λ report r. (line, fault, r)) s k

pub callable-fits : (f : AdaptedFunc) → IsCallable f → function_fits (func_tree f.func.value) ≡ true
callable-fits f k = k.fits

pub callable-single : (f : AdaptedFunc) → IsCallable f → length f.func.value.results ≤ 1
callable-single f k = k.single

pub ruleset given_rules = (memory-stops, callable-fits, callable-single)

-- ---- what a result tells

pub ok-as : {A E : Type 0} (P Q : A → Type 0) (r : Result A E) → ((a : A) → P a → Q a) → IfOk r P → IfOk r Q
ok-as P Q (Ok a) f h = f a h
ok-as P Q (Err e) f h = tt

pub err-as : {A E : Type 0} (P Q : E → Type 0) (r : Result A E) → ((e : E) → P e → Q e) → IfErr r P → IfErr r Q
err-as P Q (Ok a) f h = tt
err-as P Q (Err e) f h = f e h

-- ---- a call with the values of lines

pub entry-line : (e : Entry) (values : List ℕ) (s : Stop) → StopsWith (LineFails e values) s → StopsWith (CallFails e values) s
unfolding CallFails
entry-line e values s k = stops-as (LineFails e values) (CallFails e values) (λ report r. inl r) s k

pub entry-handed : (e : Entry) (values : List ℕ) (h : HandedValues) (s : Stop) → GivesValues e values h → StopsWith (HandedFails e h) s → StopsWith (CallFails e values) s
unfolding CallFails
entry-handed e values h s g k = stops-as (HandedFails e h) (CallFails e values) (λ report r. inr (h, g, r)) s k

pub entry-told : (e : Entry) (values text : List ℕ) (h : HandedValues) → GivesValues e values h → IsHandedText e h text → IsCallText e values text
entry-told e values text h g k = record { handed = h; given = g; answered = k }

pub values-for : (f : AdaptedFunc) (values : List ℕ) (h : HandedValues) → GivesValues (entry_of f) values h → AreFor f h
values-for f values h g = record {
  arguments = subst (λ k. IsTrue (are_arguments k.params h.arguments)) (called-same f.func.value) g.accepted;
  reply = subst (λ k. IsTrue (is_reply k.results h.reply)) (called-same f.func.value) g.replied;
}

pub ruleset entry_rules = (entry-line, entry-told)

-- ---- a call with values of its types

-- the reply as the program hands it
reply-seen : (o : Option (Bor program.Value)) → reply_of seen o ≡ option_map seen (option_map (λ v. v.now) o)
reply-seen None = refl
reply-seen (Some v) = refl

pub reply-same : (o : Option (Bor program.Value)) (r : Option program.Value) → option_map (λ v. v.now) o ≡ r → reply_of seen o ≡ option_map seen r
reply-same o r e = reply-seen o ∙ ap (option_map seen) e

module _ (f : AdaptedFunc) (h : HandedValues) (reply : Option Value) (same : reply ≡ h.reply) where
  abbrev Run : Function → Option Value → Type 0
  Run g r = CanRun f.module.value.name g (map event_of f.caller.events) (map event_of f.callee.events) h.arguments r

  pub can-run : IsCallable f → AreFor f h → Run (called f.func.value) reply
  can-run k v =
      subst (Run (called f.func.value)) (sym same)
      (record { faithful = k.faithful; writable = k.writable h.arguments h.reply; arguments_fit = v.arguments; reply_fits = v.reply })

  -- as the definitions have the function
  back : called f.func.value ≡ function_of (func_tree f.func.value)
  back = sym (called-same f.func.value)

  abbrev Lacks : Function → Option Value → Type 0
  Lacks g r = NoRoom f.module.value.name g (map event_of f.caller.events) (map event_of f.callee.events) h.arguments r

  abbrev Comes : CallSeen → Function → Option Value → Type 0
  Comes seen g r = ComesTo f.module.value.name g (map event_of f.caller.events) (map event_of f.callee.events) h.arguments r seen

  as-told : (P : Function → Option Value → Type 0) → P (called f.func.value) reply → P (function_of (func_tree f.func.value)) h.reply
  as-told P p = subst (λ r. P (function_of (func_tree f.func.value)) r) same (subst (λ g. P g reply) back p)

  abbrev Answer : Invoked → Type 0
  Answer i = IsAnswer f.module.value.name (called f.func.value) (map event_of f.caller.events) (map event_of f.callee.events) h.arguments reply i

  pub answer-told : (i : Invoked) (text : List ℕ) → Answer i → text ≡ call_text (seen_of i) → IsHandedText (entry_of f) h text
  answer-told i text a t = record {
    kept = as-told (λ g r. IsFalse (zero_error g r)) a.accepted;
    room = as-told (λ g r. ¬ (Lacks g r)) a.room;
    seen = seen_of i;
    comes_to = as-told (Comes (seen_of i)) a.comes_to;
    told = t;
  }

  pub answer-within : (i : Invoked) → Answer i → All IsWithin i.taken
  answer-within i a = all-within i.taken a.comes_to.o.memory.taken a.comes_to.taken a.comes_to.runs.stated.room

  pub zero-told : (s : Stop) → IsTrue (zero_error (called f.func.value) reply) → StopsWith (λ report. report ≡ codes "error word is 0") s
      → StopsWith (HandedFails (entry_of f) h) s
  unfolding HandedFails
  zero-told s r k =
      stops-as (λ report. report ≡ codes "error word is 0") (HandedFails (entry_of f) h) (λ report t. inl (as-told (λ g r. IsTrue (zero_error g r)) r, t)) s k

  pub room-told : (s : Stop) → IsFalse (zero_error (called f.func.value) reply) × Lacks (called f.func.value) reply
      → StopsWith (λ report. report ≡ codes "out of room") s → StopsWith (HandedFails (entry_of f) h) s
  unfolding HandedFails
  room-told s r k =
      stops-as (λ report. report ≡ codes "out of room") (HandedFails (entry_of f) h)
      (λ report t. inr (as-told (λ g r. IsFalse (zero_error g r)) r.0, as-told Lacks r.1, t)) s k

-- only want of memory
pub none-told : (R : List ℕ → Type 0) (s : Stop) → StopsWith (λ report. ⊥) s → StopsWith R s
none-told R s k = stops-as (λ report. ⊥) R (λ report h. absurd h) s k

pub ruleset handed_rules = (memory-stops, none-told)
