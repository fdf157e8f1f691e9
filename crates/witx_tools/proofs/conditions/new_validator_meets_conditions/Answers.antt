use Rattle.std.proofs.Common.{refl}
use Rattle.witx_ast.proofs.EntryLaws.{fits-empty}
use Rattle.witx_ast.specs.Definitions.{entry_tree, introduced}
use Rattle.witx_tools.proofs.conditions.new_validator_meets_conditions.Goals as goal

pub returns-clause-keeps : goal.returns-clause-keeps
returns-clause-keeps c = record { introduced = record { places = λ n. refl; senses = λ n. refl }; constants = λ type_name n. refl }

pub returns-clause-fits : goal.returns-clause-fits
returns-clause-fits c = fits-empty introduced entry_tree
