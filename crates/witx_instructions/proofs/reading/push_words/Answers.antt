use Rattle.std.proofs.Common.{arith}
use Rattle.std.proofs.lemmas.Grind.{common_steps}
use Rattle.witx_ast.proofs.TreeKinds.{kind_rules}
use Rattle.witx_instructions.proofs.reading.push_words.Goals as goal

pub returns-in_ok-push-in-List : goal.returns-in_ok-push-in-List
returns-in_ok-push-in-List c = grind (arith, common_steps, kind_rules)
