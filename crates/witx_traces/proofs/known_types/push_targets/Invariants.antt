use Rattle.std.proofs.Common.{◌≡◌, ◌++◌, drop, map}
use Rattle.std.specs.List.{flat_map}
use Rattle.witx_instructions.specs.Views.{param_types}
use Rattle.witx_traces.specs.ReadTypes.{candidate_type}
use Rattle.witx_traces.specs.Traces.{target}
use Rattle.witx_traces.proofs.known_types.push_targets.Given as goal

abbrev pub invariant-loop-param : goal.invariant-loop-param
invariant-loop-param l =
    map candidate_type l.candidates.items ++ flat_map target (param_types (drop l.param-index l.params))
    ≡ map candidate_type l.initial.candidates.items ++ flat_map target (param_types l.params)
