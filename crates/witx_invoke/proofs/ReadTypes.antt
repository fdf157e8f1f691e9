-- A type is read as the tree that it is.
use Rattle.witx_ast.proofs.Trees.{tree_rules}
use Rattle.witx_ast.proofs.Parts.{record-plain, variant-plain}

pub ruleset type_rules = (tree_rules, record-plain, variant-plain)
