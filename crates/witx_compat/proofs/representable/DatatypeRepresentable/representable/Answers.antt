use Rattle.std.proofs.Common.{◌∙◌, sym}
use Rattle.witx_ast.specs.Plain.{plain}
use Rattle.witx_ast.specs.Views.{datatype_tree}
use Rattle.witx_compat.proofs.Steps.{alike-by, misplaced-type}
use Rattle.witx_compat.proofs.representable.DatatypeRepresentable.representable.Goals as goal

pub returns-then-are_misplaced-clause-exact : goal.returns-then-are_misplaced-clause-exact
returns-then-are_misplaced-clause-exact c = misplaced-type (plain (datatype_tree c.args.self.now)) (plain (datatype_tree c.args.by.now)) (sym c.are_misplaced.ensures ∙ c.if-are_misplaced.true)

pub returns-clause-alike : goal.returns-clause-alike
returns-clause-alike c = λ h. alike-by (plain (datatype_tree c.args.self.now)) (plain (datatype_tree c.args.by.now)) _ c.gone_into.ensures h
