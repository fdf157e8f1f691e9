use Rattle.witx_syntax_tree.proofs.Compared.{builtins-decide, cases-compare, enums-compare, expecteds-compare, fields-compare, flags-compare, handles-decide, ids-compare, records-compare, tuples-compare, types-compare, unions-compare, variants-compare}
use Rattle.witx_syntax_tree.proofs.compare_laws.types_are_compared_without_places.Goals as goal

pub returns-clause-builtins : goal.returns-clause-builtins
returns-clause-builtins c = builtins-decide

pub returns-clause-handles : goal.returns-clause-handles
returns-clause-handles c = handles-decide

pub returns-clause-identifiers : goal.returns-clause-identifiers
returns-clause-identifiers c = ids-compare

pub returns-clause-types : goal.returns-clause-types
returns-clause-types c = types-compare

pub returns-clause-enums : goal.returns-clause-enums
returns-clause-enums c = enums-compare

pub returns-clause-flags : goal.returns-clause-flags
returns-clause-flags c = flags-compare

pub returns-clause-tuples : goal.returns-clause-tuples
returns-clause-tuples c = tuples-compare

pub returns-clause-expecteds : goal.returns-clause-expecteds
returns-clause-expecteds c = expecteds-compare

pub returns-clause-records : goal.returns-clause-records
returns-clause-records c = records-compare

pub returns-clause-fields : goal.returns-clause-fields
returns-clause-fields c = fields-compare

pub returns-clause-unions : goal.returns-clause-unions
returns-clause-unions c = unions-compare

pub returns-clause-variants : goal.returns-clause-variants
returns-clause-variants c = variants-compare

pub returns-clause-cases : goal.returns-clause-cases
returns-clause-cases c = cases-compare
