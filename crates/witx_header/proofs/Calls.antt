-- Calls each of which is handed what earlier ones left, and whose results are numbered in order, are those of the definition.
use Rattle.std.proofs.Common.{◌≡◌, ℕ, zero, suc, ◌+◌, ◌-◌, ◌<◌, ◌≤◌, List, [], ◌∷◌, ◌++◌, length, take, drop, map, slice_get, Bool, Option, None, Some, refl, sym, ap, ◌∙◌, subst, append_assoc, append-nil, arith}
use Rattle.std.proofs.lemmas.List.{length-append, map-append}
use Rattle.std.proofs.Math.Seq.{drop-append_seam, take-append_seam}
use Rattle.witx_ast.specs.Tree.{Tree}
use Rattle.witx_machine.specs.Events.{Event, Step, emit, finish, push, space}
use Rattle.witx_machine.specs.Rows.{operands_count, results_count}
use Rattle.witx_instructions.specs.Handed.{GeneratorCall, HandOn, OperandsInOrder, began, called_for, emitted, ended, made_room}
use Rattle.witx_header.specs.declared.handed.Variable.{Variable}
use Rattle.witx_header.specs.Bodies.{below, calls_from, numbered_variables, topmost}
use Rattle.witx_header.specs.declared.handed.Handed.{Handed}
use Rattle.witx_instructions.specs.Views.{event_of}
use Rattle.witx_header.specs.Kept.{AreNumbered, Leaves, call_for, call_of, left_by, left_by_all}

-- ---- numbers

pub one-numbered : (first next : ℕ) → first < next → numbered_variables first (next - first) ≡ (record { number = first }) ∷ numbered_variables (first + 1) (next - (first + 1))
one-numbered first next l =
    let e : next - first ≡ suc (next - (first + 1)) = omega arith in
    ap (numbered_variables first) e

pub push-numbered : (done now : List Variable) (first next : ℕ) (total : List Variable) → first < next → now ≡ done ++ (record { number = first }) ∷ []
    → done ++ numbered_variables first (next - first) ≡ total → now ++ numbered_variables (first + 1) (next - (first + 1)) ≡ total
push-numbered done now first next total l w e =
    ap (λ s. s ++ numbered_variables (first + 1) (next - (first + 1))) w ∙ append_assoc done ((record { number = first }) ∷ []) (numbered_variables (first + 1) (next - (first + 1)))
    ∙ ap (λ t. done ++ t) (sym (one-numbered first next l)) ∙ e

pub all-numbered : (done : List Variable) (first next : ℕ) (total : List Variable) → next ≤ first → done ++ numbered_variables first (next - first) ≡ total → done ≡ total
all-numbered done first next total l e =
    let z : next - first ≡ 0 = omega arith in
    sym (append-nil done) ∙ ap (λ n. done ++ numbered_variables first n) (sym z) ∙ e

pub numbered-length : (first n : ℕ) → length (numbered_variables first n) ≡ n
numbered-length first zero = refl
numbered-length first (suc n) = ap suc (numbered-length (first + 1) n)

-- ---- one call more

pub one-more : (next : ℕ) (cs : List (GeneratorCall Variable)) (c : GeneratorCall Variable) → AreNumbered next cs → Leaves (next + left_by_all cs) c → AreNumbered next (cs ++ c ∷ [])
one-more next [] c h l =
    let e : next + 0 ≡ next = omega arith in
    (subst (λ n. Leaves n c) e l, tt)
one-more next (d ∷ cs) c h l =
    let e : next + (left_by d + left_by_all cs) ≡ next + left_by d + left_by_all cs = omega arith in
    (h.0, one-more (next + left_by d) cs c h.1 (subst (λ n. Leaves n c) e l))

pub one-left : (cs : List (GeneratorCall Variable)) (c : GeneratorCall Variable) → left_by_all (cs ++ c ∷ []) ≡ left_by_all cs + left_by c
one-left [] c = omega arith
one-left (d ∷ cs) c =
    let e : left_by d + (left_by_all cs + left_by c) ≡ left_by d + left_by_all cs + left_by c = omega arith in
    ap (λ n. left_by d + n) (one-left cs c) ∙ e

-- ---- the stack

above : (low operands : List Variable) (n : ℕ) → length operands ≡ n → length (low ++ operands) - n ≡ length low
above low operands n l = omega (arith, length-append low operands)

on-top : (low operands stack : List Variable) (n : ℕ) → stack ≡ low ++ operands → length operands ≡ n → topmost n stack ≡ operands
on-top low operands stack n s l = ap (topmost n) s ∙ ap (λ k. drop k (low ++ operands)) (above low operands n l) ∙ drop-append_seam low operands

under : (low operands stack : List Variable) (n : ℕ) → stack ≡ low ++ operands → length operands ≡ n → below n stack ≡ low
under low operands stack n s l = ap (below n) s ∙ ap (λ k. take k (low ++ operands)) (above low operands n l) ∙ take-append_seam low operands

-- an instruction, before calls that are as they should be
one-call : (next : ℕ) (x : Step) (low operands results stack between : List Variable) (cs : List (GeneratorCall Variable)) (es : List Event)
    → stack ≡ low ++ operands → between ≡ low ++ results → length operands ≡ operands_count x → results ≡ numbered_variables next (results_count x)
    → cs ≡ calls_from (next + results_count x) between es → emitted x operands results ∷ cs ≡ calls_from next stack (emit x ∷ es)
one-call next x low operands results stack between cs es s b l r rest =
    let top = on-top low operands stack (operands_count x) s l in
    let low-is = under low operands stack (operands_count x) s l in
    let new = numbered_variables next (results_count x) in
    ap (λ os. emitted x os results ∷ cs) (sym top)
    ∙ ap (λ rs. emitted x (topmost (operands_count x) stack) rs ∷ cs) r
    ∙ ap (λ t. emitted x (topmost (operands_count x) stack) new ∷ t) (rest ∙ ap (λ st. calls_from (next + results_count x) st es)
    (b ∙ ap (λ w. w ++ results) (sym low-is) ∙ ap (λ rs. below (operands_count x) stack ++ rs) r))

-- a call that moves no variable
no-move : (c : GeneratorCall Variable) (next : ℕ) (stack between : List Variable) (cs : List (GeneratorCall Variable)) (es : List Event) → between ≡ stack
    → cs ≡ calls_from (next + 0) between es → c ∷ cs ≡ c ∷ calls_from next stack es
no-move c next stack between cs es b rest =
    let e : next + 0 ≡ next = omega arith in
    ap (λ t. c ∷ t) (rest ∙ ap (λ n. calls_from n between es) e ∙ ap (λ st. calls_from next st es) b)

pub calls-are : (next : ℕ) (stack behind : List Variable) (cs : List (GeneratorCall Variable)) → HandOn cs stack behind → AreNumbered next cs
    → cs ≡ calls_from next stack (map called_for cs)
calls-are next stack behind [] h n = refl
calls-are next stack behind (emitted x operands results ∷ cs) h n =
    one-call next x h.1.0 operands results stack h.0 cs (map called_for cs) h.1.1 h.1.2 n.0.0 n.0.1 (calls-are (next + results_count x) h.0 behind cs h.2 n.1)
calls-are next stack behind (made_room slot t ∷ cs) h n =
    no-move (made_room slot t) next stack h.0 cs (map called_for cs) h.1 (calls-are (next + 0) h.0 behind cs h.2 n.1)
calls-are next stack behind (began ∷ cs) h n =
    no-move began next stack h.0 cs (map called_for cs) h.1 (calls-are (next + 0) h.0 behind cs h.2 n.1)
calls-are next stack behind (ended None ∷ cs) h n =
    no-move (ended None) next stack h.0 cs (map called_for cs) h.1 (calls-are (next + 0) h.0 behind cs h.2 n.1)
calls-are next stack behind (ended (Some v) ∷ cs) h n =
    let top = on-top h.0 (v ∷ []) stack 1 h.1 refl in
    let low-is = under h.0 (v ∷ []) stack 1 h.1 refl in
    ap (λ os. ended (slice_get os 0) ∷ cs) (sym top)
    ∙ no-move (ended (slice_get (topmost 1 stack) 0)) next (below 1 stack) h.0 cs (map called_for cs) (sym low-is) (calls-are (next + 0) h.0 behind cs h.2 n.1)

told-list : Option (List (GeneratorCall Variable)) → List (GeneratorCall Variable)
told-list None = []
told-list (Some cs) = cs

-- what a body holds, once it was called for these events
pub caller-calls : (es : List Event) (held : List (GeneratorCall Variable)) → OperandsInOrder es (Some []) (Some held) → AreNumbered 0 held → held ≡ calls_from 0 [] es
unfolding told-list
caller-calls es held o n =
    let is : held ≡ o.in_order.calls = ap told-list o.in_order.told in
    is ∙ calls-are 0 [] o.behind o.in_order.calls o.in_order.hand_on (subst (AreNumbered 0) is n) ∙ ap (calls_from 0 []) o.in_order.events

pub ruleset number_rules = (push-numbered, all-numbered)

-- ---- what is kept

pub kept-instruction : (h : Handed) (x : Step) (operands results : List Variable) → map event_of h.told.events ≡ emit x ∷ [] → h.operands ≡ operands → h.results ≡ results
    → call_of h ≡ emitted x operands results
kept-instruction h x operands results is os rs =
    ap (λ es. call_for es h.operands h.results) is ∙ ap (λ o. emitted x o h.results) os ∙ ap (λ r. emitted x operands r) rs

pub kept-room : (h : Handed) (slot : ℕ) (t : Tree) → map event_of h.told.events ≡ space slot t ∷ [] → call_of h ≡ made_room slot t
kept-room h slot t is = ap (λ es. call_for es h.operands h.results) is

pub kept-begin : (h : Handed) → map event_of h.told.events ≡ push ∷ [] → call_of h ≡ began
kept-begin h is = ap (λ es. call_for es h.operands h.results) is

pub kept-end : (h : Handed) (v : Bool) (operand : Option Variable) → map event_of h.told.events ≡ finish v ∷ [] → slice_get h.operands 0 ≡ operand → call_of h ≡ ended operand
kept-end h v operand is at = ap (λ es. call_for es h.operands h.results) is ∙ ap ended at

-- one call more
pub kept-more : (calls now : List Handed) (h : Handed) (c : GeneratorCall Variable) → now ≡ calls ++ h ∷ [] → call_of h ≡ c → map call_of now ≡ map call_of calls ++ c ∷ []
kept-more calls now h c w is = ap (map call_of) w ∙ map-append call_of calls (h ∷ []) ∙ ap (λ d. map call_of calls ++ d ∷ []) is

pub kept-numbered : (calls now : List Handed) (h : Handed) (c : GeneratorCall Variable) (next after : ℕ) → now ≡ calls ++ h ∷ [] → call_of h ≡ c → Leaves next c → after ≡ next + left_by c
    → AreNumbered 0 (map call_of calls) → next ≡ left_by_all (map call_of calls) → AreNumbered 0 (map call_of now) × (after ≡ left_by_all (map call_of now))
kept-numbered calls now h c next after w is l a n e =
    let more = kept-more calls now h c w is in
    let from-0 : left_by_all (map call_of calls) ≡ 0 + left_by_all (map call_of calls) = omega arith in (
      subst (AreNumbered 0) (sym more) (one-more 0 (map call_of calls) c n (subst (λ k. Leaves k c) (e ∙ from-0) l)),
      a ∙ ap (λ k. k + left_by c) e ∙ sym (one-left (map call_of calls) c) ∙ ap left_by_all (sym more),
    )

pub kept-call : (before calls now : List Handed) (h : Handed) (c : GeneratorCall Variable) → calls ≡ before → now ≡ calls ++ h ∷ [] → call_of h ≡ c
    → Some (map call_of now) ≡ Some (map call_of before ++ c ∷ [])
kept-call before calls now h c v w is = ap Some (kept-more calls now h c w is ∙ ap (λ cs. map call_of cs ++ c ∷ []) v)

-- one that leaves no variable, and none
pub kept-unmoved : (calls now : List Handed) (h : Handed) (c : GeneratorCall Variable) (next : ℕ) → now ≡ calls ++ h ∷ [] → call_of h ≡ c → Leaves next c → left_by c ≡ 0
    → AreNumbered 0 (map call_of calls) × (next ≡ left_by_all (map call_of calls)) → AreNumbered 0 (map call_of now) × (next ≡ left_by_all (map call_of now))
kept-unmoved calls now h c next w is l none held =
    let a : next ≡ next + left_by c = omega (arith, none) in
    kept-numbered calls now h c next next w is l a held.0 held.1

pub kept-same : (calls now : List Handed) (next : ℕ) → now ≡ calls → AreNumbered 0 (map call_of calls) × (next ≡ left_by_all (map call_of calls))
    → AreNumbered 0 (map call_of now) × (next ≡ left_by_all (map call_of now))
kept-same calls now next w held = subst (λ cs. AreNumbered 0 (map call_of cs) × (next ≡ left_by_all (map call_of cs))) (sym w) held

-- what an instruction leaves, as many as it has results
as-many : (first after count : ℕ) (x : Step) → after ≡ first + count → count ≡ results_count x → after - first ≡ results_count x
as-many first after count x a n = omega (arith, a, n)

pub filled : (first after count : ℕ) (x : Step) (results : List Variable) (len : ℕ) → after ≡ first + count → count ≡ results_count x
    → results ≡ numbered_variables first (after - first) → length results ≡ len → len ≡ results_count x
filled first after count x results len a n r l = sym l ∙ ap length r ∙ numbered-length first (after - first) ∙ as-many first after count x a n

pub leaves : (first after count : ℕ) (x : Step) (operands results : List Variable) → length operands ≡ operands_count x → after ≡ first + count
    → count ≡ results_count x → results ≡ numbered_variables first (after - first) → Leaves first (emitted x operands results)
leaves first after count x operands results o a n r = (o, r ∙ ap (numbered_variables first) (as-many first after count x a n))
