use Rattle.std.proofs.Common.{◌≡◌, drop}
use Rattle.witx_language.specs.Messages.{first_kind}
use Rattle.witx_language.proofs.messages.first_kind.Given as goal

abbrev pub invariant-loop-kind : goal.invariant-loop-kind
invariant-loop-kind l = first_kind (drop l.kind-index l.kinds) ≡ first_kind l.kinds
