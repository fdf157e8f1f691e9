use Rattle.std.proofs.Common.{◌≡◌, []}
use Rattle.witx_symbols.specs.SymbolViews.{source_of}
use Rattle.witx_symbols.proofs.FromLemmas.{parts_left}
use Rattle.witx_symbols.proofs.from.parts_from.Given as goal

abbrev pub invariant-loop-i : goal.invariant-loop-i
invariant-loop-i l = parts_left l.parts.items l.members (source_of l.source.value) l.i ≡ parts_left [] l.members (source_of l.source.value) 0
