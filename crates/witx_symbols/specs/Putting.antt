-- A symbol put at the next address, made for a type that is passed by address; and what a call that gives one answers.
use Rattle.std.specs.Prelude.{Option, Some, option_map}
use Rattle.witx_ast.specs.Tree.{Tree}
use Rattle.witx_ast.specs.Plain.{plain}
use Rattle.witx_machine.specs.Functions.{by_address}
use Rattle.witx_machine.specs.Words.{when}
use Rattle.witx_symbols.specs.Symbols.{Symbol, SymbolWord}
use Rattle.witx_symbols.specs.Symbolic.{SymbolMemory, give_symbol}
use Rattle.witx_symbols.specs.WordViews.{word_seen, memory_of}
use Rattle.witx_symbols.specs.declared.cells.Cells as declared_cells
use Rattle.witx_symbols.specs.declared.words.Word as declared_word

abbrev pub put_symbol : Tree → Symbol → SymbolMemory → Option (SymbolWord × SymbolMemory)
put_symbol t v m = when (by_address (plain t)) (give_symbol t (Some v) m.made m.left)

-- the address, if one was given, and what then stands at those that were given
abbrev pub address_given : declared_cells.Cells → Option declared_word.Word → Option (SymbolWord × SymbolMemory)
address_given cells word = option_map (λ w. (word_seen w, memory_of cells)) word
