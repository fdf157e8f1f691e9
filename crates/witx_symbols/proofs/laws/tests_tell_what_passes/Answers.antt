use Rattle.witx_symbols.proofs.laws.tests_tell_what_passes.Goals as goal
use Rattle.witx_symbols.proofs.Tests.{tests_tell}

pub returns : goal.returns
returns c = tests_tell
