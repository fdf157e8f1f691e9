use Rattle.std.proofs.Common.{◌∙◌, ap, sym}
use Rattle.witx_lex.specs.Meaning.{tokens_of}
use Rattle.witx_lex.proofs.Unique.{pieces_unique}
use Rattle.witx_lex.proofs.laws.tokens_are_unique.Goals as goal

pub returns : goal.returns
returns c text ts us a b = a.2 ∙ ap tokens_of (pieces_unique a.0 b.0 0 text a.1 b.1) ∙ sym b.2
