-- How the program's words, cells and worlds are read.
use Rattle.std.specs.Prelude.{List, map, Bool, false, ◌&&◌, Option, Some, None, option_map}
use Rattle.witx_ast.specs.Plain.{plain}
use Rattle.witx_ast.specs.Alike.{same_plain}
use Rattle.std.specs.declared.alloc.Global.{Global}
use Rattle.std.specs.declared.rc.Rc.{Rc}
use Rattle.witx_ast.specs.declared.types.NamedType.{NamedType}
use Rattle.witx_ast.specs.Tree.{Tree}
use Rattle.witx_ast.specs.Views.{named_tree}
use Rattle.witx_run.specs.Views as views
use Rattle.witx_run.specs.declared.domain.Picked as declared_picked
use Rattle.witx_symbols.specs.Symbols as symbols
use Rattle.witx_symbols.specs.Symbols.{SymbolWord}
use Rattle.witx_symbols.specs.Symbolic as symbolic
use Rattle.witx_symbols.specs.Symbolic.{SymbolCell, SymbolMemory}
use Rattle.witx_symbols.specs.SymbolViews.{symbol_of}
use Rattle.witx_symbols.specs.declared.symbol.Symbol as declared_symbol
use Rattle.witx_symbols.specs.declared.words.Word as declared_word
use Rattle.witx_symbols.specs.declared.words.Word.TheVariants as word
use Rattle.witx_symbols.specs.declared.cells.Cell as declared_cell
use Rattle.witx_symbols.specs.declared.cells.Cells as declared_cells
use Rattle.witx_symbols.specs.declared.world.World as declared_world

abbrev pub Shared : Type 0
Shared = Rc declared_symbol.Symbol Global

abbrev pub shared_of : Shared → symbols.Symbol
shared_of v = symbol_of v.value

-- a symbol, where there is one
abbrev pub option_of : Option Shared → Option symbols.Symbol
option_of v = option_map shared_of v

abbrev pub shared_symbols : List Shared → List symbols.Symbol
shared_symbols vs = map shared_of vs

abbrev pub word_seen : declared_word.Word → SymbolWord
word_seen (word.Of s t) = symbols.word_of_symbol (shared_of s) t
word_seen (word.Address s) = symbols.list_address (shared_of s)
word_seen (word.Length s) = symbols.list_length (shared_of s)
word_seen (word.Given k) = symbols.given k
word_seen word.Zero = symbols.zero_word
word_seen word.One = symbols.one_word

abbrev pub cell_of : declared_cell.Cell → SymbolCell
cell_of c = (named_tree c.made_for.value, option_of c.content)

abbrev pub memory_of : declared_cells.Cells → SymbolMemory
memory_of m = record { made = map cell_of m.cells.items; left = m.left }

abbrev pub world_of : declared_world.World → symbolic.SymbolWorld
world_of w = record { abi = w.abi; whole = option_of w.whole; error = w.error; load = option_of w.load }

-- a cell takes a symbol under a type
abbrev pub takes_symbol : Tree → symbols.Symbol → SymbolCell → Bool
takes_symbol t v c = same_plain (plain c.0) (plain t) && symbols.is_of (plain t) v

abbrev pub payload_pair : Option (Shared × Option (Rc NamedType Global)) → Option (symbols.Symbol × Option Tree)
payload_pair p = views.payload_of shared_of p

abbrev pub picked_of : declared_picked.Picked Shared → Bool × Option (symbols.Symbol × Option Tree)
picked_of p = views.picked_of shared_of p

-- the case is the one that is known
abbrev pub is_case_of : Bool → Option Bool → Bool
is_case_of e None = false
is_case_of e (Some known) = symbolic.same_case e known
