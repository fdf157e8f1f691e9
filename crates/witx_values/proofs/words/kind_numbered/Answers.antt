use Rattle.std.proofs.Common.{sym}
use Rattle.witx_values.proofs.Numbered.{kind_at}
use Rattle.witx_values.proofs.words.kind_numbered.Goals as goal

pub returns-then-is_spelled : goal.returns-then-is_spelled
returns-then-is_spelled g c =
    kind_at c.args.other c.args.words.now c.from-number.result c.index-words-number.result c.index-words-number-then-is_spelled.result c.args.text.now c.if-number-words.true c.requires
    (sym c.if-is_spelled.ensures)
