use Rattle.std.proofs.Common.{refl}
use Rattle.std.specs.List.{IsDistinct}
use Rattle.witx_tests_reading.proofs.tests.pages.only_constants.Goals as goal

pub new-requires-2 : goal.new-requires-2
unfolding IsDistinct
new-requires-2 c =
    rw (c.in_ok-push-2.ensures, c.in_ok-push.ensures, c.new-definitions.ensures, c.new.ensures) (record { distinct = tt; holds = λ n. refl })
