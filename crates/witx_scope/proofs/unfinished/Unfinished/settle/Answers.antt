use Rattle.std.proofs.Common.{Some, sym, ap, ◌∙◌}
use Rattle.witx_scope.proofs.Settling.{refused-more, settled}
use Rattle.witx_scope.proofs.unfinished.Unfinished.settle.Goals as goal

pub returns-in_ok-insert-clause-unfinished : goal.returns-in_ok-insert-clause-unfinished
returns-in_ok-insert-clause-unfinished c = settled c.args.self.now.refused c.insert.new.self c.in_ok-copy.field-0 _ c.in_ok-insert.ensures.found _ (c.in-Some.is ∙ ap Some (sym c.in_ok-copy.ensures))

pub returns-in_ok-insert-clause-refused : goal.returns-in_ok-insert-clause-refused
returns-in_ok-insert-clause-refused c = refused-more c.args.self.now.refused c.insert.new.self c.in_ok-copy.field-0 _ c.in_ok-insert.ensures.found _ (c.in-Some.is ∙ ap Some (sym c.in_ok-copy.ensures))
