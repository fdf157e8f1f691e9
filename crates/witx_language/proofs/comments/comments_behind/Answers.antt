use Rattle.std.proofs.Common.{ap, ◌∙◌, arith}
use Rattle.witx_lex.specs.Views.{texts_view}
use Rattle.witx_language.proofs.Held.{none_behind}
use Rattle.witx_language.proofs.comments.comments_behind.Goals as goal

pub returns-else-at-len : goal.returns-else-at-len
returns-else-at-len c = ap texts_view c.new.ensures ∙ none_behind c.args.tokens.now c.args.at (omega (arith, c.len.ensures, c.if-at-len.false))
