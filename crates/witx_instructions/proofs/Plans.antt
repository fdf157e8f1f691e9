-- Events told one after the other, and the operands at hand.
use Rattle.std.proofs.Common.{◌≡◌, ◌<◌, ◌≤◌, ◌+◌, ℕ, zero, suc, List, [], ◌∷◌, ◌++◌, append_assoc, append-nil, Option, Some, None, IsSome, is_none, T, option_and_then, map, length, take, drop, get_or, refl, sym, ap, ◌∙◌, arith, add-one, Err, subst, rules}
use Rattle.std.proofs.lemmas.List.{drop_more}
use Rattle.witx_machine.specs.Events.{Event}
use Rattle.witx_instructions.specs.declared.plan.Planned.{Planned}
use Rattle.witx_instructions.specs.declared.bindgen.BindgenError.{BindgenError}
use Rattle.witx_instructions.specs.declared.error.AbiError.{AbiError}
use Rattle.witx_instructions.specs.Views.{planned_event, planned_events}
use Rattle.witx_instructions.specs.Told.{told_further, TellsFront, abi_error, is_fault, is_bindgen_fault, unlowerable_place}
use Rattle.witx_machine.specs.Functions.{Function}
use Rattle.witx_machine.specs.Lowerable.{unlowerable, lowerable}
use Rattle.witx_machine.specs.Traces.{caller_events, callee_events}
use Rattle.witx_machine.proofs.HeightLaws.{caller-level, callee-level}
use Rattle.witx_instructions.proofs.Sides.{params-can, results-can}
use Rattle.witx_machine.specs.Heights.{height_after, heights}

pub map-append : {A B : Type 0} (f : A → B) (xs ys : List A) → map f (xs ++ ys) ≡ map f xs ++ map f ys
map-append f [] ys = refl
map-append f (x ∷ xs) ys = ap (λ zs. f x ∷ zs) (map-append f xs ys)

pub planned-more : (plan : List Planned) (p : Planned) → planned_events (plan ++ p ∷ []) ≡ planned_events plan ++ planned_event p ∷ []
planned-more plan p = map-append planned_event plan (p ∷ [])

pub told-none : {A : Type 0} (told : Option (List A)) → told ≡ told_further told []
told-none None = refl
told-none (Some es) = ap Some (sym (append-nil es))

pub told-then : {A : Type 0} (told : Option (List A)) (a b : List A) → told_further (told_further told a) b ≡ told_further told (a ++ b)
told-then None a b = refl
told-then (Some es) a b = ap Some (append_assoc es a b)

pub take-next : (plan : List Planned) (i : ℕ) (p : Planned) → i < length plan → p ≡ get_or plan i p → take (suc i) (planned_events plan) ≡ take i (planned_events plan) ++ planned_event p ∷ []
take-next [] i p l e = absurd (omega arith)
take-next (q ∷ plan) zero p l e = ap (λ p. planned_event p ∷ []) (sym e)
take-next (q ∷ plan) (suc i) p l e = ap (λ es. planned_event q ∷ es) (take-next plan i p (omega arith) e)

-- one more event of the plan was told
pub told-next : (plan : List Planned) (i : ℕ) (p : Planned) (before now later : Option (List Event)) → i < length plan → p ≡ get_or plan i p → now ≡ told_further before (take i (planned_events plan)) → later ≡ told_further now (planned_event p ∷ []) → later ≡ told_further before (take (i + 1) (planned_events plan))
told-next plan i p before now later l e n m =
    m ∙ ap (λ t. told_further t (planned_event p ∷ [])) n ∙ told-then before (take i (planned_events plan)) (planned_event p ∷ []) ∙ ap (told_further before) (sym (take-next plan i p l e)) ∙ ap (λ k. told_further before (take k (planned_events plan))) (sym (add-one i))

pub take-all : (n : ℕ) (es : List Event) → length es ≤ n → take n es ≡ es
take-all zero [] l = refl
take-all (suc n) [] l = refl
take-all zero (e ∷ es) l = absurd (omega arith)
take-all (suc n) (e ∷ es) l = ap (λ es. e ∷ es) (take-all n es (omega arith))

pub length-events : (plan : List Planned) → length (planned_events plan) ≡ length plan
length-events [] = refl
length-events (p ∷ plan) = ap suc (length-events plan)

pub take-zero : (es : List Event) → take {A = Event} 0 es ≡ []
take-zero [] = refl
take-zero (e ∷ es) = refl

pub take-none : (k : ℕ) (es : List Event) → es ≡ [] → take k es ≡ []
take-none zero [] e = refl
take-none (suc k) [] e = refl
take-none k (e ∷ es) h = absurd (clash h)
  where
    clash : e ∷ es ≡ [] → ⊥
    clash h = cc

-- the plan was told up to this event, which may have been told or not
pub front-next : (plan : List Planned) (i : ℕ) (p : Planned) (before now later : Option (List Event)) → i < length plan → p ≡ get_or plan i p → now ≡ told_further before (take i (planned_events plan)) → TellsFront (planned_event p ∷ []) now later → TellsFront (planned_events plan) before later
front-next plan i p before now later l e n h = go h.0 h.1
  where
    go : (k : ℕ) → later ≡ told_further now (take k (planned_event p ∷ [])) → TellsFront (planned_events plan) before later
    go zero m = (i, m ∙ sym (told-none now) ∙ n)
    go (suc k) m = (i + 1, told-next plan i p before now later l e n (m ∙ ap (λ es. told_further now (planned_event p ∷ es)) (take-none k [] refl)))

pub ready-next : (plan : List Planned) (i n m : ℕ) (p : Planned) → i < length plan → p ≡ get_or plan i p → height_after (planned_event p) n ≡ Some m → IsSome (heights (planned_events (drop i plan)) n) → IsSome (heights (planned_events (drop (i + 1) plan)) m)
ready-next plan i n m p l e a h = subst (λ o. IsSome (option_and_then (λ m. heights (planned_events (drop (i + 1) plan)) m) o)) a (subst (λ ps. IsSome (heights (planned_events ps) n)) (drop-is plan i p l e) h)
  where
    drop-is : (plan : List Planned) (i : ℕ) (p : Planned) → i < length plan → p ≡ get_or plan i p → drop i plan ≡ p ∷ drop (i + 1) plan
    drop-is plan i p l e = rw (drop_more plan i p l, ← e) refl

-- what becomes of a generator's refusal
pub fault-kept : (x : BindgenError) (e : AbiError) → e ≡ abi_error x → is_bindgen_fault {R = Unit {0}} (Err e) ≡ is_fault {R = Unit {0}} (Err x)
fault-kept BindgenError.Failed e i = ap (λ e. is_bindgen_fault {R = Unit {0}} (Err e)) i
fault-kept BindgenError.OutOfMemory e i = ap (λ e. is_bindgen_fault {R = Unit {0}} (Err e)) i

pub no-place : (x : BindgenError) (e : AbiError) → e ≡ abi_error x → unlowerable_place {R = Unit {0}} (Err e) ≡ None
no-place BindgenError.Failed e i = ap (λ e. unlowerable_place {R = Unit {0}} (Err e)) i
no-place BindgenError.OutOfMemory e i = ap (λ e. unlowerable_place {R = Unit {0}} (Err e)) i

-- no event was told
pub front-none : (es : List Event) (told : Option (List Event)) → TellsFront es told told
front-none es told = (0, told-none told ∙ ap (told_further told) (sym (take-zero es)))

-- one event was told
pub all-front : (e : Event) (before now : Option (List Event)) → now ≡ told_further before (e ∷ []) → TellsFront (e ∷ []) before now
all-front e before now h = (1, h)

some-zero : IsSome {T = ℕ} (Some 0)
some-zero = search rules

lowers : (f : Function) → unlowerable f ≡ None → T (lowerable f)
lowers f h = subst (λ o. T (is_none o)) (sym h) tt

pub caller-ready : (m : List ℕ) (f : Function) (es : List Event) → unlowerable f ≡ None → es ≡ caller_events m f → IsSome (heights es 0)
caller-ready m f es h e = subst (λ o. IsSome o) (sym (ap (λ es. heights es 0) e ∙ caller-level m f (lowers f h))) some-zero

pub callee-ready : (m : List ℕ) (f : Function) (es : List Event) → unlowerable f ≡ None → es ≡ callee_events m f → IsSome (heights es 0)
callee-ready m f es h e = subst (λ o. IsSome o) (sym (ap (λ es. heights es 0) e ∙ callee-level m f (lowers f h))) some-zero

pub ruleset play_rules = (front-none, caller-ready, callee-ready, params-can, results-can)

pub ruleset plan_rules = (planned-more)
