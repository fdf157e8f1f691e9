use Rattle.witx_tools.proofs.Runs.{all-know-commands, others-are-tools, runs-alike}
use Rattle.witx_tools.proofs.laws.commands_of_both.Goals as goal

pub returns-clause-known : goal.returns-clause-known
returns-clause-known c = all-know-commands

pub returns-clause-tools : goal.returns-clause-tools
returns-clause-tools c = others-are-tools

pub returns-clause-alike : goal.returns-clause-alike
returns-clause-alike c = runs-alike
