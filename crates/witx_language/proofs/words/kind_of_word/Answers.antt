use Rattle.std.proofs.Common.{List, sym, ap, ◌∙◌, subst, refl}
use Rattle.witx_base.specs.Texts.{same_text}
use Rattle.witx_values.specs.Words.{Spelling, AreApart, kind_spelled}
use Rattle.witx_language.specs.declared.token_kind.TokenKind.{TokenKind}
use Rattle.witx_language.specs.declared.token_kind.TokenKind.TheVariants.{Other}
use Rattle.witx_language.specs.TokenKinds.{the_words}
use Rattle.witx_language.proofs.words.kind_of_word.Goals as goal

words_apart : AreApart the_words
unfolding same_text
words_apart = refl

pub kind_numbered-requires : goal.kind_numbered-requires
kind_numbered-requires c = subst (λ (ss : List (Spelling TokenKind)). AreApart ss) (sym c.words.ensures.spelled) words_apart

pub returns : goal.returns
returns c = c.kind_numbered.ensures ∙ ap (λ (ss : List (Spelling TokenKind)). kind_spelled Other ss c.args.text.now) c.words.ensures.spelled
