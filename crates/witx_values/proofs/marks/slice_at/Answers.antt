use Rattle.std.proofs.Common.{subst, sym, ◌≤◌}
use Rattle.std.specs.Str.{IsCharBoundary}
use Rattle.witx_lex.specs.declared.token.Span.{Span}
use Rattle.witx_values.specs.Texts.{no_lexed}
use Rattle.witx_values.proofs.Cuts.{cuts, stand}
use Rattle.witx_values.proofs.marks.slice_at.Goals as goal

pub range-requires-clause-start_le_end : goal.range-requires-clause-start_le_end
range-requires-clause-start_le_end c =
    let r = c.requires in
    subst (λ (s : Span). s.start ≤ s.end) (sym r.4) (stand c.args.text.now r.0 r.2 r.1 no_lexed r.3).ordered

pub range-requires-clause-start_boundary : goal.range-requires-clause-start_boundary
range-requires-clause-start_boundary c some =
    let r = c.requires in
    subst (λ (s : Span). IsCharBoundary c.args.text.now s.start) (sym r.4) (cuts c.args.text.now r.0 c.utf8.text r.2 r.1 no_lexed r.3).starts

pub range-requires-clause-end_boundary : goal.range-requires-clause-end_boundary
range-requires-clause-end_boundary c =
    let r = c.requires in
    subst (λ (s : Span). IsCharBoundary c.args.text.now s.end) (sym r.4) (cuts c.args.text.now r.0 c.utf8.text r.2 r.1 no_lexed r.3).ends
