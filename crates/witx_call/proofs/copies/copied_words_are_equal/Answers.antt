use Rattle.witx_call.proofs.Copied.{copied}
use Rattle.witx_call.proofs.copies.copied_words_are_equal.Goals as goal

pub returns : goal.returns
returns c = copied _ _ c.requires
