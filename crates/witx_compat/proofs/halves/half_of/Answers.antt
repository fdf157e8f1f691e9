use Rattle.std.proofs.Common.{◌∙◌, ap, ◌++◌, map}
use Rattle.witx_ast.specs.Functions.{param_field}
use Rattle.witx_compat.specs.Polyfills.{without}
use Rattle.witx_compat.specs.Halves.{target_of, unknown_source, unknown_target}
use Rattle.witx_compat.specs.Views.{mapped_view}
use Rattle.witx_compat.proofs.halves.half_of.Goals as goal

pub returns-clause-mapped : goal.returns-clause-mapped
returns-clause-mapped c = c.in_ok-mapped.ensures (map param_field c.args.targets.now) c.in_ok-by_name.ensures

pub returns-clause-unknown : goal.returns-clause-unknown
returns-clause-unknown c =
    let targets = map param_field c.args.targets.now in
    c.in_ok-unknown.ensures
    ∙ ap (λ ms. without (unknown_source c.args.part) targets (map param_field c.args.sources.now) ++ without (unknown_target c.args.part) (map (target_of c.args.part) ms) targets)
    (ap (λ xs. map mapped_view xs) c.as_slice.ensures ∙ c.in_ok-mapped.ensures targets c.in_ok-by_name.ensures)
