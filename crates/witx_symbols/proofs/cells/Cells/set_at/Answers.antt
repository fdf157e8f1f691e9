use Rattle.std.proofs.Common.{sym, ap, ◌∙◌, arith}
use Rattle.witx_ast.specs.Views.{named_tree}
use Rattle.witx_symbols.specs.SymbolViews.{symbol_of}
use Rattle.witx_symbols.specs.WordViews.{cell_of, takes_symbol}
use Rattle.witx_symbols.proofs.CellLemmas.{set-cell}
use Rattle.witx_symbols.proofs.cells.Cells.set_at.Goals as goal

pub returns-clause-stored : goal.returns-clause-stored
returns-clause-stored c =
    set-cell c.args.self.now.cells.items c.args.self.now.left c.args.k (named_tree c.args.ty.now) c.args.symbol c.index.result.now c.index_mut.result.now (omega (arith, c.if-k-len.false, c.len.ensures)) c.index.ensures c.index_mut.ensures.value
    (ap (λ s. takes_symbol (named_tree c.args.ty.now) (symbol_of s) (cell_of c.index.result.now)) (sym c.deref.ensures) ∙ sym c.takes.ensures ∙ c.if-not-takes.false)
