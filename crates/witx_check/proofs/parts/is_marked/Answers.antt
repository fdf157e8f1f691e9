use Rattle.std.proofs.Common.{◌≡◌, ◌∙◌, arith}
use Rattle.std.proofs.lemmas.Grind.{common_steps}
use Rattle.std.specs.Option.{is_some}
use Rattle.witx_base.specs.Found.{found}
use Rattle.witx_scope.proofs.NamePlaces.{has-keys}
use Rattle.witx_check.proofs.parts.is_marked.Goals as goal

pub returns : goal.returns
returns c =
    let there : c.is_some.result ≡ is_some (found c.args.marks.now c.args.name.now) = grind (arith, common_steps) in
    there ∙ has-keys c.args.marks.now c.args.name.now
