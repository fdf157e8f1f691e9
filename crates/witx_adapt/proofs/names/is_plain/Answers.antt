use Rattle.std.proofs.Common.{rules, tests}
use Rattle.std.proofs.lemmas.Iterator.{YieldsList-from_slice, cases_from_all}
use Rattle.std.specs.Bool.{⊤}
use Rattle.witx_adapt.proofs.PlainNames.{IsPlain, plain-name}
use Rattle.witx_adapt.proofs.names.is_plain.Goals as goal

pub returns : goal.returns
returns c =
    let each = cases_from_all _ _ _ IsPlain (λ byte. ⊤) c.all.ensures.ran (YieldsList-from_slice c.args.name.now cc) (λ x q k. search (rules, tests)) (λ x q k. search (rules, tests)) in
    plain-name c.all.result _ c.args.name.now each
