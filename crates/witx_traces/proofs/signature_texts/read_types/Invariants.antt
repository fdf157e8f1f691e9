use Rattle.std.proofs.Common.{length}
use denote.Text.{Utf8}
use denote.Shadow.{shadow}
use Rattle.witx_traces.proofs.SignatureReading.{TypesOn}
use Rattle.witx_traces.proofs.signature_texts.read_types.Given as goal

abbrev pub invariant-loop-ty : goal.invariant-loop-ty
invariant-loop-ty l = shadow (Utf8 l.rest) × TypesOn l.text l.types l.rest

abbrev pub decreases-loop-ty : goal.decreases-loop-ty
decreases-loop-ty l = length l.rest
