use Rattle.std.proofs.Common.{◌≡◌, ◌++◌, drop, map}
use Rattle.std.specs.List.{flat_map}
use Rattle.witx_instructions.specs.Views.{param_types}
use Rattle.witx_traces.specs.ReadTypes.{candidate_type}
use Rattle.witx_traces.specs.Traces.{err_types, target}
use Rattle.witx_traces.proofs.known_types.push_err_targets.Given as goal

abbrev pub invariant-loop-returned : goal.invariant-loop-returned
invariant-loop-returned l =
    map candidate_type l.candidates.items ++ flat_map (λ t. flat_map target (err_types t)) (param_types (drop l.returned-index l.results))
    ≡ map candidate_type l.initial.candidates.items ++ flat_map (λ t. flat_map target (err_types t)) (param_types l.results)
