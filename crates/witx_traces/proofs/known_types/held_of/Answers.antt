use Rattle.std.proofs.Common.{map}
use Rattle.witx_instructions.specs.Views.{param_types}
use Rattle.witx_traces.specs.ReadTypes.{candidate_type}
use Rattle.witx_traces.proofs.TypeReading.{held-whole}
use Rattle.witx_traces.proofs.known_types.held_of.Goals as goal

pub returns : goal.returns
returns c =
    let params = rw (c.new-held.ensures.items, c.as_slice.ensures) at c.in_ok-push_targets.ensures in
    let results = rw c.as_slice-results.ensures at c.in_ok-push_targets-2.ensures in
    let errors = rw c.as_slice-results.ensures at c.in_ok-push_err_targets.ensures in
    let payloads = rw c.as_slice-results.ensures at c.in_ok-push_payloads.ensures in
    held-whole (param_types c.args.func.now.params) (param_types c.args.func.now.results)
    (map candidate_type c.push_targets.new.candidates.items) (map candidate_type c.push_targets-2.new.candidates.items) (map candidate_type c.push_err_targets.new.candidates.items) (map candidate_type c.push_payloads.new.candidates.items)
    params results errors payloads
