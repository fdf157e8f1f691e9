use Rattle.std.proofs.Common.{◌≡◌, None, subst, rules}
use Rattle.std.specs.Prelude.{OnErr}
use Rattle.witx_machine.specs.Lowerable.{unlowerable}
use Rattle.witx_instructions.specs.Told.{TellsFront}
use Rattle.witx_instructions.specs.Views.{called}
use Rattle.witx_instructions.proofs.Plans.{caller-ready}
use Rattle.witx_abi.proofs.abi.InterfaceFuncAbiFunc.call_wasm.Goals as goal

pub play-requires : goal.play-requires
play-requires g c =
    let f = called c.args.self.now in
    let lowerable : unlowerable f ≡ None = search rules in
    caller-ready c.args.module.now f _ lowerable c.in_ok-plan.ensures

pub returns-clause-front : goal.returns-clause-front
returns-clause-front g c =
    subst (λ es. OnErr c.play.result (TellsFront es (g.B.Bindgen.told c.args.bindgen.now) (g.B.Bindgen.told c.play.new.bindgen))) c.in_ok-plan.ensures c.play.ensures.front
