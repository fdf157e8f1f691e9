use Rattle.std.proofs.Common.{◌≡◌, ◌++◌}
use Rattle.std.specs.Prelude.{replicate}
use Rattle.witx_grammar.specs.declared.table.Step.TheVariants.{Leaf}
use Rattle.witx_grammar.proofs.engine.read_tokens.Given as goal

abbrev pub invariant-loop-token : goal.invariant-loop-token
invariant-loop-token g l = l.steps.items ≡ l.initial.steps.items ++ replicate l._token Leaf
