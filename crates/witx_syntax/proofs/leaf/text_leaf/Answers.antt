use Rattle.witx_values.specs.Texts.{token_at}
use Rattle.witx_language.proofs.Spelled.{text_spelled, text_stands}
use Rattle.witx_syntax.proofs.Leaves.{laid}
use Rattle.witx_syntax.proofs.leaf.text_leaf.Goals as goal

pub string_spelled-requires : goal.string_spelled-requires
string_spelled-requires c =
    let ls = c.requires.tokens.0 in
    let h = c.requires.tokens.1 in
    text_spelled (token_at ls c.args.at) c.spelling.result.now (c.requires.kind ls h) (c.spelling.ensures ls h.marked)

pub returns : goal.returns
returns c ls h =
    laid c.push_quoted.result c.args.stack.now.items c.push_quoted.new.stack.items _ _
    (text_stands (token_at ls c.args.at) c.spelling.result.now c.in_ok-text.text c.span-span.result
    (c.requires.kind ls h) (c.spelling.ensures ls h.marked) c.in_ok-text.ensures (c.span-span.ensures ls h.marked))
    c.push_quoted.ensures
