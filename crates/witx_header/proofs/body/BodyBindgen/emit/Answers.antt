use Rattle.std.proofs.Common.{◌∙◌, ◌+◌, ap, length, sym}
use Rattle.witx_instructions.specs.Views.{step_of}
use Rattle.witx_header.specs.declared.handed.Handed.{Handed}
use Rattle.witx_header.proofs.Calls.{filled, kept-call, kept-instruction, kept-numbered, kept-same, leaves}
use Rattle.witx_header.proofs.body.BodyBindgen.emit.Goals as goal

pub returns-clause-filled : goal.returns-clause-filled
returns-clause-filled c =
    let many = ap length (sym c.as_slice-2.ensures.value) ∙ c.as_slice-2.ensures.len in
    filled _ _ _ (step_of c.args.inst.now) _ _ c.in-Some.ensures.1 c.results_len.ensures c.in_ok-push_numbered.ensures many

pub returns-clause-call : goal.returns-clause-call
returns-clause-call c =
    let call : Handed = record { told = c.in_ok-told_instruction.field-0; operands = c.in_ok-copied.field-0; results = c.in_ok-copied-2.field-0 } in
    kept-call _ _ _ call _ c.self.view_is c.in_ok-push.ensures
    (kept-instruction call (step_of c.args.inst.now) _ _ c.in_ok-told_instruction.ensures (c.in_ok-copied.ensures ∙ c.as_slice.ensures.value)
    (c.in_ok-copied-2.ensures ∙ c.as_slice-2.ensures.value))

pub invariant_of-self : goal.invariant_of-self
invariant_of-self c = kept-same _ _ _ c.in_err-push.ensures c.self.invariant

pub invariant_of-self-2 : goal.invariant_of-self-2
invariant_of-self-2 c =
    let call : Handed = record { told = c.in_ok-told_instruction.field-0; operands = c.in_ok-copied.field-0; results = c.in_ok-copied-2.field-0 } in
    let many = ap length (sym c.as_slice.ensures.value) ∙ c.as_slice.ensures.len ∙ c.requires.operands in
    kept-numbered _ _ call _ c.self.inside.next c.in-Some.next c.in_ok-push.ensures
    (kept-instruction call (step_of c.args.inst.now) c.args.operands.now.items c.push_numbered.new.results.items c.in_ok-told_instruction.ensures
    (c.in_ok-copied.ensures ∙ c.as_slice.ensures.value) (c.in_ok-copied-2.ensures ∙ c.as_slice-2.ensures.value))
    (leaves _ _ _ (step_of c.args.inst.now) _ _ many c.in-Some.ensures.1 c.results_len.ensures c.in_ok-push_numbered.ensures)
    (c.in-Some.ensures.1 ∙ ap (λ n. c.self.inside.next + n) c.results_len.ensures) c.self.invariant.0 c.self.invariant.1
