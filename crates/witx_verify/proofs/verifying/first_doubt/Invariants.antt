use Rattle.std.proofs.Common.{◌≡◌, drop, map}
use Rattle.witx_instructions.specs.Views.{called, event_of}
use Rattle.witx_symbols.specs.Verdicts.{first_doubt}
use Rattle.witx_symbols.specs.WorldViews.{worlds_read}
use Rattle.witx_verify.proofs.verifying.first_doubt.Given as goal

abbrev pub invariant-loop-world : goal.invariant-loop-world
invariant-loop-world l =
    first_doubt (worlds_read l.worlds) l.module_name (called l.func) (map event_of l.caller) (map event_of l.callee)
    ≡ first_doubt (worlds_read (drop l.world-index l.worlds)) l.module_name (called l.func) (map event_of l.caller) (map event_of l.callee)
