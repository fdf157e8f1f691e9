use Rattle.std.proofs.Common.{sym, ◌∙◌}
use Rattle.witx_symbols.specs.SymbolViews.{source_of}
use Rattle.witx_symbols.proofs.WholeLaws.{two-same, two-differ}
use Rattle.witx_symbols.proofs.wholes.both.Goals as goal

pub returns-then-same_source : goal.returns-then-same_source
returns-then-same_source c z =
    rw (c.in-At.is, c.in-At-other.is) (two-same (source_of c.in-At.own.now) (source_of c.in-At-other.more.now) z (sym c.same_source.ensures ∙ c.if-same_source.true))

pub returns-else-same_source : goal.returns-else-same_source
returns-else-same_source c z =
    rw (c.in-At.is, c.in-At-other.is) (two-differ (source_of c.in-At.own.now) (source_of c.in-At-other.more.now) z (sym c.same_source.ensures ∙ c.if-same_source.false))
