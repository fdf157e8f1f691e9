-- How the symbols of the program are read.
use Rattle.std.specs.Prelude.{List, map}
use Rattle.std.specs.declared.alloc.Global.{Global}
use Rattle.std.specs.declared.rc.Rc.{Rc}
use Rattle.witx_ast.specs.Plain.{plain}
use Rattle.witx_ast.specs.Views.{tree_of}
use Rattle.witx_symbols.specs.Symbols as symbols
use Rattle.witx_symbols.specs.Symbols.{symbols_of}
use Rattle.witx_symbols.specs.declared.symbol.Source.{Source, fold-Source}
use Rattle.witx_symbols.specs.declared.symbol.Source.TheOpen.{Source-F}
use Rattle.witx_symbols.specs.declared.symbol.Symbol.{Symbol, fold-Symbol}
use Rattle.witx_symbols.specs.declared.symbol.Symbol.TheOpen.{Symbol-F}

abbrev pub source_step : Source-F symbols.Source → symbols.Source
source_step (Source-F.Argument i) = symbols.argument i
source_step Source-F.Payload = symbols.payload
source_step Source-F.Reply = symbols.reply
source_step (Source-F.Part s j) = symbols.part s.value j

unfoldable pub source_of : Source → symbols.Source
source_of = fold-Source symbols.Source source_step

abbrev pub symbol_step : Symbol-F symbols.Symbol → symbols.Symbol
symbol_step (Symbol-F.Atom s t) = symbols.symbol_from (plain (tree_of t)) (source_of s.value)
symbol_step (Symbol-F.Tuple vs) = symbols.tuple (symbols_of (map (λ v. v.value) vs))
symbol_step (Symbol-F.Made i v) = symbols.made i v.value
symbol_step (Symbol-F.BareMade i) = symbols.bare_made i

unfoldable pub symbol_of : Symbol → symbols.Symbol
symbol_of = fold-Symbol symbols.Symbol symbol_step

abbrev pub symbols_read : List (Rc Symbol Global) → symbols.Symbols
symbols_read vs = symbols_of (map (λ v. symbol_of v.value) vs)
