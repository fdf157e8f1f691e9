use Rattle.std.proofs.Common.{◌∙◌, ap, ◌++◌, map}
use Rattle.witx_ast.specs.Functions.{param_field}
use Rattle.witx_compat.specs.Polyfills.{without}
use Rattle.witx_compat.specs.Halves.{target_of, unknown_target}
use Rattle.witx_compat.specs.Views.{mapped_view}
use Rattle.witx_compat.proofs.halves.all_unknown.Goals as goal

pub returns : goal.returns
returns c =
    let taken = map (target_of c.args.part) (map mapped_view c.args.mapped.now) in
    let targets = map param_field c.args.targets.now in
    (rw c.opposite.ensures at (c.in_ok-put_unknown-2.ensures taken c.in_ok-taken.ensures))
    ∙ ap (λ us. us ++ without (unknown_target c.args.part) taken targets) (rw c.new-made.ensures at (c.in_ok-put_unknown.ensures targets c.requires))
