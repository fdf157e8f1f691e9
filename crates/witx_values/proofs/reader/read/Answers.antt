use Rattle.std.proofs.Common.{◌∙◌}
use Rattle.witx_grammar.specs.Grammar.{grammar}
use Rattle.witx_values.proofs.Readings.{derived, faulty}
use Rattle.witx_values.proofs.reader.read.Goals as goal

pub returns-in_ok-value-in-Derivation : goal.returns-in_ok-value-in-Derivation
returns-in_ok-value-in-Derivation g c ls h = record {
  steps = c.as_slice.result.now;
  derives =
      derived g.A.Actions.language c.args.start ls (grammar c.args.table.now) c.kinds.result.now c.in_ok-steps.field-0 c.requires.grammar (c.kinds.ensures ∙ h.kinds) c.in_ok-steps.ensures
      c.in-Derivation.steps c.as_slice.result.now c.in-Derivation.is c.as_slice.ensures.value;
  meaning = c.in_ok-value-in-Derivation.ensures ls h;
}

pub returns-in-Fault : goal.returns-in-Fault
returns-in-Fault g c ls h =
    faulty g.A.Actions.language c.args.start ls (grammar c.args.table.now) c.kinds.result.now c.in_ok-steps.field-0 c.requires.grammar (c.kinds.ensures ∙ h.kinds) c.in_ok-steps.ensures
    c.in-Fault.fault c.in-Fault.is
