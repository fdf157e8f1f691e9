use Rattle.witx_language.proofs.Held.{comments_are}
use Rattle.witx_language.proofs.laws.held_comments_are_those_of_tokens.Goals as goal

pub returns : goal.returns
returns g c held ls at h = comments_are held ls at h
