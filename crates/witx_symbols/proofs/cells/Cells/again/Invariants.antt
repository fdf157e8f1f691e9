use Rattle.std.proofs.Common.{◌≡◌, map, take}
use Rattle.witx_symbols.specs.WordViews.{cell_of}
use Rattle.witx_symbols.proofs.cells.Cells.again.Given as goal

abbrev pub invariant-loop-cell : goal.invariant-loop-cell
invariant-loop-cell l = map cell_of l.cells.items ≡ map cell_of (take l.cell-index l.self.cells.items)
