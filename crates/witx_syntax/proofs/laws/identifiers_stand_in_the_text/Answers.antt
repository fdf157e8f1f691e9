use Rattle.witx_syntax.proofs.Sound.{names_stand}
use Rattle.witx_syntax.proofs.laws.identifiers_stand_in_the_text.Goals as goal

pub returns : goal.returns
returns c text d h = names_stand text h.tokens h.parsed.steps d (c.tokens_are_slices.ensures text h.tokens h.lexed) h.parsed.derives h.parsed.meaning
