use Rattle.std.proofs.Common.{◌≡◌, ℕ, List, [], ◌∷◌, Bool, true, false, length, ◌==◌, ap, refl, subst, ◌∙◌, arith}
use Rattle.witx_instructions.specs.Views.{param_types}
use Rattle.witx_traces.specs.LineReading.{AreQuotedNames}
use Rattle.witx_traces.proofs.EventReading.{interface-said, interface-behind}
use Rattle.witx_traces.proofs.event_texts.read_call_interface.Goals as goal

full : (r : Bool) (xs : List ℕ) → r ≡ (length xs == 0) → r ≡ false → xs ≡ [] → ⊥
full r xs e n f = grind (arith)

none : (r : Bool) (xs : List ℕ) → r ≡ (length xs == 0) → r ≡ true → xs ≡ []
none r [] e n = refl
none r (x ∷ xs) e n = grind (arith)

pub returns-then-not-is_empty : goal.returns-then-not-is_empty
returns-then-not-is_empty c =
    interface-behind _ _ _ _ _ (rw c.in-Some.is at c.in_ok-module.ensures) (full _ _ c.is_empty.ensures c.if-not-is_empty.true)

pub returns : goal.returns
returns c =
    interface-said _ _ _ _ _ _ _
    (subst (λ z. AreQuotedNames c.args.tail.now (record { owner = c.in-Some.module; name = c.in-Some.name; rest = z }))
    (none _ _ c.is_empty.ensures c.if-not-is_empty.false) (rw c.in-Some.is at c.in_ok-module.ensures))
    (c.in_ok-params.ensures ∙ (ap param_types c.as_slice.ensures ∙ c.func-func.ensures.params))
    (c.in_ok-results.ensures ∙ (ap param_types c.as_slice-2.ensures ∙ c.func-func.ensures.results))
    c.in_ok-asked.ensures
