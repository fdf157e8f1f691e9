use Rattle.std.proofs.Common.{sym, ◌∙◌}
use Rattle.witx_values.specs.Texts.{token_at}
use Rattle.witx_language.proofs.Spelled.{number_stands, number_there}
use Rattle.witx_syntax.proofs.Leaves.{laid}
use Rattle.witx_syntax.proofs.leaf.integer_leaf.Goals as goal

pub returns-in-Some : goal.returns-in-Some
returns-in-Some c ls h =
    laid c.push_integer.result c.args.stack.now.items c.push_integer.new.stack.items _ _
    (number_stands (token_at ls c.args.at) c.spelling.result.now c.in-Some.value
    (c.requires.kind ls h) (c.spelling.ensures ls h.marked) (sym c.in-Some.is ∙ c.integer.ensures))
    c.push_integer.ensures

pub returns-in-None : goal.returns-in-None
returns-in-None c ls h =
    absurd (number_there (token_at ls c.args.at) c.spelling.result.now (c.requires.kind ls h)
    (c.spelling.ensures ls h.marked) (sym c.in-None.is ∙ c.integer.ensures))
