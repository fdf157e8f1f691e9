use Rattle.std.proofs.Common.{◌≡◌, None, rules}
use Rattle.witx_machine.specs.Lowerable.{unlowerable}
use Rattle.witx_instructions.specs.Views.{called}
use Rattle.witx_instructions.proofs.Plans.{callee-ready}
use Rattle.witx_abi.proofs.abi.InterfaceFuncAbiFunc.call_interface.Goals as goal

pub play-requires : goal.play-requires
play-requires g c =
    let f = called c.args.self.now in
    let lowerable : unlowerable f ≡ None = search rules in
    callee-ready c.args.module.now f _ lowerable c.in_ok-plan.ensures
