-- How what comes of the program's runs is read.
use Rattle.std.specs.Prelude.{List, map}
use Rattle.witx_machine.specs.Machine as machine
use Rattle.witx_machine.specs.Machine.{Tried}
use Rattle.witx_machine.specs.Positions.{Spot}
use Rattle.witx_machine.specs.Run as machine_run
use Rattle.witx_run.specs.OutcomeViews as outcomes
use Rattle.witx_run.specs.Views as views
use Rattle.witx_run.specs.declared.item.Item as declared_item
use Rattle.witx_run.specs.declared.outcome.Outcome as declared_outcome
use Rattle.witx_run.specs.declared.outcome.Run as declared_run
use Rattle.witx_symbols.specs.Symbols.{Symbol, SymbolWord}
use Rattle.witx_symbols.specs.Symbolic.{SymbolMemory}
use Rattle.witx_symbols.specs.WordViews.{Shared, shared_of, word_seen, memory_of}
use Rattle.witx_symbols.specs.declared.cells.Cells as declared_cells
use Rattle.witx_symbols.specs.declared.words.Word as declared_word

abbrev pub SymbolItem : Type 0
SymbolItem = machine.Item Symbol SymbolWord

abbrev pub SymbolOutcome : Type 0
SymbolOutcome = machine_run.Outcome Symbol SymbolWord SymbolMemory

abbrev pub words_of : List declared_word.Word → List SymbolWord
words_of ws = map word_seen ws

abbrev pub symbol_item : declared_item.Item Shared declared_word.Word → SymbolItem
symbol_item x = views.item_of shared_of word_seen x

abbrev pub symbol_items : List (declared_item.Item Shared declared_word.Word) → List SymbolItem
symbol_items xs = views.items_of shared_of word_seen xs

abbrev pub outcome_of : declared_outcome.Outcome Shared declared_word.Word declared_cells.Cells → SymbolOutcome
outcome_of o = outcomes.outcome_of shared_of word_seen memory_of o

abbrev pub run_of : declared_run.Run Shared declared_word.Word declared_cells.Cells → Tried Spot SymbolOutcome
run_of r = outcomes.run_of shared_of word_seen memory_of r
