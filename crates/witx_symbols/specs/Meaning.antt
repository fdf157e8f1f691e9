-- What is said of symbols' words and of what stands at their addresses, so that what a call has to pass and to
-- give back is said of symbols as it is of values; and that the tests of the verdict say just this.
use Rattle.std.specs.Prelude.{◌≡◌, ℕ, List, Bool, Option, Some, slice_get, IsTrue, T}
use Rattle.witx_ast.specs.declared.function.Abi.{Abi}
use Rattle.witx_ast.specs.Tree.{Tree}
use Rattle.witx_machine.specs.Run.{Outcome}
use Rattle.witx_machine.specs.Passage.{Meaning, PassesWords, ReturnsOf}
use Rattle.witx_symbols.specs.Symbols.{Symbol, SymbolWord, given}
use Rattle.witx_symbols.specs.Symbolic.{SymbolCell, SymbolMemory, SymbolWorld, symbols}
use Rattle.witx_symbols.specs.Verdicts.{direct_are, passes, gives_back}

-- the word is an address given, and this holds of what stands there
abbrev pub StandsInCell : SymbolMemory → SymbolWord → (SymbolCell → Type 0) → Type 0
StandsInCell m w P = (k : ℕ) × (w ≡ given k) × (c : SymbolCell) × (slice_get m.made k ≡ Some c) × P c

abbrev pub symbol_meaning : Meaning Symbol SymbolWord SymbolMemory
symbol_meaning = record {
  direct = λ t v ws. T (direct_are t v ws);
  given = λ m w. StandsInCell m w (λ c. Unit {0});
  holds = λ m w v. StandsInCell m w (λ c. c.1 ≡ Some v);
  made_for = λ m w t. StandsInCell m w (λ c. c.0 ≡ t);
}

abbrev pub TellsWhether : Bool → Type 0 → Type 0
TellsWhether b P = (IsTrue b → P) × (P → IsTrue b)

-- in each world the tests hold exactly where the words pass, and where they return
abbrev pub TestsTell : Type 0
TestsTell =
    (w : SymbolWorld) →
    ((m : SymbolMemory) (pointers types : List Tree) (vs : List Symbol) (ws : List SymbolWord) →
    TellsWhether (passes m pointers types vs ws) (PassesWords (symbols w) symbol_meaning m pointers types vs ws)) ×
    ((abi : Abi) (results : List Tree) (reply : Option Symbol) (o : Outcome Symbol SymbolWord SymbolMemory) →
    TellsWhether (gives_back abi w results reply o) (ReturnsOf (symbols w) symbol_meaning abi results reply o))
