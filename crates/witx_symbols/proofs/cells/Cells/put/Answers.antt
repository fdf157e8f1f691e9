use Rattle.std.proofs.Common.{rules}
use Rattle.witx_ast.specs.Views.{named_tree}
use Rattle.witx_symbols.specs.WordViews.{shared_of, memory_of}
use Rattle.witx_symbols.proofs.CellLemmas.{cell_rules}
use Rattle.witx_symbols.proofs.PutLemmas.{put-there, put-nowhere}
use Rattle.witx_symbols.proofs.cells.Cells.put.Goals as goal

pub returns-then-is_by_address : goal.returns-then-is_by_address
returns-then-is_by_address c =
    put-there (named_tree c.args.ty.now.value) (shared_of c.args.symbol) (memory_of c.args.self.now) (memory_of c.give.new.self) c.is_by_address.result c.give.result
    (search (rules, cell_rules)) c.if-is_by_address.true c.give.ensures

pub returns-else-is_by_address : goal.returns-else-is_by_address
returns-else-is_by_address c =
    put-nowhere (named_tree c.args.ty.now.value) (shared_of c.args.symbol) (memory_of c.args.self.now) c.is_by_address.result (search (rules, cell_rules)) c.if-is_by_address.false
