-- The traces of a function that fits its tags, over a memory of bytes.
use Rattle.std.proofs.Common.{List, [], ◌∷◌, map}
use Rattle.witx_ast.specs.Tree.{Field}
use Rattle.witx_ast.specs.Tags.{AllTypesFit}
use Rattle.witx_ast.proofs.TagLaws.{function-decides}
use Rattle.witx_machine.specs.Functions.{function_of}
use Rattle.witx_machine.specs.Traces.{caller_events, callee_events}
use Rattle.witx_machine.specs.Run.{itself}
use Rattle.witx_machine.proofs.CellLaws.{traces_are_faithful}
use Rattle.witx_bytes.specs.Follow.{TakesAreWritable, TracesOverBytes}
use Rattle.witx_bytes.proofs.TakenFit.{AllOf, taken_fits}
use Rattle.witx_bytes.proofs.GoodTraces.{caller_good, callee_good}
use Rattle.witx_bytes.proofs.WholeRuns.{bytes_follow_cells}

types_of : (ps : List Field) → AllTypesFit ps → AllOf (map (λ p. p.tree) ps)
types_of [] h = tt
types_of (p ∷ ps) h = (h.0, types_of ps h.1)

pub take_writable : TakesAreWritable
take_writable m func fit arguments reply memory addresses o ran =
    let f = function_of func in
    let both = (function-decides func).0 fit in
    let params = types_of func.params both.0 in
    let results = types_of func.results both.1 in
    taken_fits m f (itself m f) (caller_events m f) (callee_events m f) arguments reply (record { cells = memory; fresh = addresses; taken = [] }) params results (caller_good m f results) (callee_good m f params results) tt o ran

pub traces_over_bytes : TracesOverBytes
traces_over_bytes m func can fit arguments reply addresses are is nonzero free long =
    let f = function_of func in
    let r = traces_are_faithful m func can fit arguments reply [] addresses are is nonzero free long in
    (r.0, r.1, λ memory fits. bytes_follow_cells m f (caller_events m f) (callee_events m f) arguments reply memory addresses r.0 are is r.1 fits (take_writable m func fit arguments reply [] addresses r.0 r.1))
