use Rattle.std.proofs.Common.{rules}
use Rattle.witx_markdown.proofs.heading.MdHeading.new_level_down.Goals as goal

pub returns-in-Header : goal.returns-in-Header
returns-in-Header c = search rules
