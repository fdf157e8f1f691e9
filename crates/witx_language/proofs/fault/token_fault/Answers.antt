use Rattle.std.proofs.Common.{List, ℕ, ap, ◌∙◌}
use Rattle.std.specs.Prelude.{slice_index_or}
use Rattle.witx_values.specs.Language.{kinds_of}
use Rattle.witx_language.specs.declared.token_kind.TokenKind.{TokenKind}
use Rattle.witx_language.specs.declared.token_kind.TokenKind.TheVariants.{End}
use Rattle.witx_language.specs.Actions.{the_language}
use Rattle.witx_language.specs.FaultPlaces.{fault_told_at}
use Rattle.witx_language.specs.Messages.{message_of}
use Rattle.witx_language.proofs.fault.token_fault.Goals as goal

pub returns : goal.returns
returns c ls h =
    let text = c.args.tokens.now.text.now in
    let expected = c.args.expected.now in
    c.fault_at.ensures
    ∙ ap (λ (m : List ℕ). fault_told_at text m c.start.result)
    (c.message_of.ensures
    ∙ ap (λ (k : TokenKind). message_of expected k)
    (c.kind_or_end-here.ensures ∙ ap (λ (ks : List TokenKind). slice_index_or ks c.args.at End) (c.kinds.ensures ∙ h.kinds)))
    ∙ ap (fault_told_at text (message_of expected (slice_index_or (kinds_of the_language ls) c.args.at End))) (c.start.ensures ls h.marked)
