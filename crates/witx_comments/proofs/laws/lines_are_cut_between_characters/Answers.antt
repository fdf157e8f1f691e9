use Rattle.witx_comments.proofs.Lines.{lines_cut}
use Rattle.witx_comments.proofs.laws.lines_are_cut_between_characters.Goals as goal

pub returns : goal.returns
returns c comments texts = lines_cut comments texts
