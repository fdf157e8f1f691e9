-- Calls of a generator one behind the other, and the operands that they are handed.
use Rattle.std.proofs.Common.{◌≡◌, ◌<◌, ◌≤◌, ◌+◌, ℕ, zero, suc, List, [], ◌∷◌, ◌++◌, append-nil, Option, Some, None, map, length, take, drop, take-append-drop, get_or, refl, sym, ap, ◌∙◌, add-one, subst, Result, Ok, Err}
use Rattle.std.specs.Prelude.{OnErr, OnOk, IsSome, option_to_list, true}
use Rattle.witx_machine.specs.Events.{Event, finish}
use Rattle.witx_instructions.specs.declared.plan.Planned.{Planned}
use Rattle.witx_instructions.specs.Views.{planned_event, planned_events}
use Rattle.witx_instructions.specs.Told.{told_further, told_after}
use Rattle.witx_instructions.specs.Handed.{GeneratorCall, ended, called_for, Hands, HandOn, InOrder, OperandsInOrder, FrontInOrder}
use Rattle.witx_instructions.proofs.Plans.{map-append, told-none, told-then, take-next, take-all, take-zero, take-none, length-events}

hand-on-then : {O : Type 0} (cs ds : List (GeneratorCall O)) (s t u : List O) → HandOn cs s t → HandOn ds t u → HandOn (cs ++ ds) s u
hand-on-then [] ds s t u h k = subst (λ x. HandOn ds x u) h k
hand-on-then (c ∷ cs) ds s t u h k = (h.0, h.1, hand-on-then cs ds h.0 t u h.2 k)

-- some events behind others
in-order-then : {O : Type 0} (es fs : List Event) (before now later : Option (List (GeneratorCall O))) (s t u : List O) → InOrder es before now s t → InOrder fs now later t u → InOrder (es ++ fs) before later s u
in-order-then es fs before now later s t u a b = record {
  calls = a.calls ++ b.calls;
  told = b.told ∙ ap (λ x. told_further x b.calls) a.told ∙ told-then before a.calls b.calls;
  events = map-append called_for a.calls b.calls ∙ ap (λ x. x ++ map called_for b.calls) a.events ∙ ap (λ x. es ++ x) b.events;
  hand_on = hand-on-then a.calls b.calls s t u a.hand_on b.hand_on;
}

-- no call was made
pub none-in-order : {O : Type 0} (es : List Event) (before now : Option (List (GeneratorCall O))) (s : List O) → now ≡ before → FrontInOrder es before now s
none-in-order es before now s h = record {
  count = 0;
  behind = s;
  in_order = record { calls = []; told = h ∙ told-none before; events = sym (take-zero es); hand_on = refl };
}

-- the call for one event was made
pub one-in-order : {O : Type 0} (e : Event) (c : GeneratorCall O) (before now : Option (List (GeneratorCall O))) (s t : List O) → now ≡ told_further before (c ∷ []) → called_for c ≡ e → Hands c s t → InOrder (e ∷ []) before now s t
one-in-order e c before now s t n i h = record { calls = c ∷ []; told = n; events = ap (λ x. x ∷ []) i; hand_on = (t, h, refl) }

pub all-in-order : {O : Type 0} (e : Event) (before now : Option (List (GeneratorCall O))) (s t : List O) → InOrder (e ∷ []) before now s t → FrontInOrder (e ∷ []) before now s
all-in-order e before now s t h = record { count = 1; behind = t; in_order = h }

-- one more event of the plan
pub in-order-next : {O : Type 0} (plan : List Planned) (i : ℕ) (p : Planned) (before now later : Option (List (GeneratorCall O))) (s t u : List O) → i < length plan → p ≡ get_or plan i p → InOrder (take i (planned_events plan)) before now s t → InOrder (planned_event p ∷ []) now later t u → InOrder (take (i + 1) (planned_events plan)) before later s u
in-order-next plan i p before now later s t u l e a b =
    subst (λ es. InOrder es before later s u) (sym (take-next plan i p l e) ∙ ap (λ k. take k (planned_events plan)) (sym (add-one i)))
    (in-order-then (take i (planned_events plan)) (planned_event p ∷ []) before now later s t u a b)

-- up to this event of the plan, for which the call may have been made or not
pub in-order-front : {O : Type 0} (plan : List Planned) (i : ℕ) (p : Planned) (before now later : Option (List (GeneratorCall O))) (s t : List O) → i < length plan → p ≡ get_or plan i p → InOrder (take i (planned_events plan)) before now s t → FrontInOrder (planned_event p ∷ []) now later t → FrontInOrder (planned_events plan) before later s
in-order-front {O} plan i p before now later s t l e a h = go h.count h.behind h.in_order
  where
    go : (k : ℕ) (u : List O) → InOrder (take k (planned_event p ∷ [])) now later t u → FrontInOrder (planned_events plan) before later s
    go zero u b = record {
      count = i;
      behind = u;
      in_order = subst (λ es. InOrder es before later s u) (append-nil (take i (planned_events plan))) (in-order-then (take i (planned_events plan)) [] before now later s t u a b);
    }
    go (suc k) u b = record {
      count = i + 1;
      behind = u;
      in_order = in-order-next plan i p before now later s t u l e a (subst (λ es. InOrder (planned_event p ∷ es) now later t u) (take-none k [] refl) b);
    }

-- the whole plan
pub plan-in-order : {O : Type 0} (plan : List Planned) (i : ℕ) (before now : Option (List (GeneratorCall O))) (t : List O) → length plan ≤ i → InOrder (take i (planned_events plan)) before now [] t → OperandsInOrder (planned_events plan) before now
plan-in-order plan i before now t l a = record {
  behind = t;
  in_order = subst (λ es. InOrder es before now [] t) (take-all i (planned_events plan) (subst (λ n. n ≤ i) (sym (length-events plan)) l)) a;
}

pub on-err : {R E : Type 0} (r : Result R E) (P : Type 0) → P → OnErr r P
on-err (Ok x) P h = tt
on-err (Err e) P h = h

-- a generator that doesn't tell its calls
pub untold : {A R E : Type 0} (r : Result R E) (a : A) → None ≡ told_after r a None
untold (Ok r) a = refl
untold (Err x) a = refl

-- a call that was done was made for its event
pub done-in-order : {O R E : Type 0} (r : Result R E) (e : Event) (c : GeneratorCall O) (before now : Option (List (GeneratorCall O))) (s t : List O) → now ≡ told_after r c before → called_for c ≡ e → Hands c s t → OnOk r (InOrder (e ∷ []) before now s t)
done-in-order (Ok x) e c before now s t n i h = one-in-order e c before now s t n i h
done-in-order (Err x) e c before now s t n i h = tt

-- one that refuses wasn't made
pub refused-in-order : {O R E : Type 0} (r : Result R E) (es : List Event) (c : GeneratorCall O) (before now : Option (List (GeneratorCall O))) (s : List O) → now ≡ told_after r c before → OnErr r (FrontInOrder es before now s)
refused-in-order (Ok x) es c before now s n = tt
refused-in-order (Err x) es c before now s n = none-in-order es before now s n

-- a stack cut in two
pub cut-in-two : {O : Type 0} (n : ℕ) (stack below above : List O) → below ≡ take n stack → above ≡ drop n stack → stack ≡ below ++ above
cut-in-two n stack below above b a = sym (take-append-drop n stack) ∙ ap (λ x. x ++ drop n stack) (sym b) ∙ ap (λ x. below ++ x) (sym a)

-- the end of a block that takes the operand on top
pub ended-in-order : {O R E : Type 0} (r : Result R E) (o : Option O) (before now : Option (List (GeneratorCall O))) (s t : List O) → now ≡ told_after r (ended o) before → s ≡ t ++ option_to_list o → IsSome o → OnOk r (InOrder (finish true ∷ []) before now s t)
ended-in-order r (Some x) before now s t n e i = done-in-order r (finish true) (ended (Some x)) before now s t n refl e
ended-in-order {O} r None before now s t n e i = absurd (no i)
  where
    no : IsSome {T = O} None → ⊥
    no i = cc

pub ruleset hand_rules = (none-in-order, on-err)
