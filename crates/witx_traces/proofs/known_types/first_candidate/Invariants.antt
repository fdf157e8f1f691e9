use Rattle.std.proofs.Common.{◌≡◌, drop, map}
use Rattle.witx_traces.specs.ReadTypes.{candidate_type}
use Rattle.witx_traces.specs.Traces.{first_shown}
use Rattle.witx_traces.proofs.known_types.first_candidate.Given as goal

abbrev pub invariant-loop-candidate : goal.invariant-loop-candidate
invariant-loop-candidate l = first_shown (map candidate_type (drop l.candidate-index l.candidates)) l.text ≡ first_shown (map candidate_type l.candidates) l.text
