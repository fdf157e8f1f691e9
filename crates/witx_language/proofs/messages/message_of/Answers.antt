use Rattle.std.proofs.Common.{Bool, cond, codes, sym, ap, ◌∙◌}
use Rattle.witx_language.specs.Messages.{message_of_only, only_kind}
use Rattle.witx_language.proofs.messages.message_of.Goals as goal

pub returns-then-is_out_of_range : goal.returns-then-is_out_of_range
returns-then-is_out_of_range c =
    ap (λ (b : Bool). cond b (codes "integer out of range") (message_of_only (only_kind c.args.expected.now))) (sym c.if-is_out_of_range.true ∙ c.is_out_of_range.ensures)

pub returns-else-is_out_of_range : goal.returns-else-is_out_of_range
returns-else-is_out_of_range c =
    c.message_of_expected.ensures
    ∙ ap (λ (b : Bool). cond b (codes "integer out of range") (message_of_only (only_kind c.args.expected.now))) (sym c.if-is_out_of_range.false ∙ c.is_out_of_range.ensures)
