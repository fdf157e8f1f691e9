-- The symbols: what stands for a value of which only its type and its place among the arguments or in the reply
-- are known, and what stands for a word; when two are the same, and which are of a type.
use Rattle.std.specs.Prelude.{ℕ, ◌+◌, List, [], ◌∷◌, Bool, true, false, ◌&&◌, Option, Some, None, nat_eq}
use Rattle.witx_ast.specs.declared.types.RecordKind.{RecordKind}
use Rattle.witx_ast.specs.Plain.{Plain, Fields}
use Rattle.witx_ast.specs.Alike.{same_plain}
use Rattle.witx_machine.specs.declared.surface.WasmType.{WasmType}

-- where a symbol comes from: an argument, the reply's payload, the reply, or a member of a tuple that comes from there
pub data Source : Type 0 where
  argument : ℕ → Source
  payload : Source
  reply : Source
  part : Source → ℕ → Source

-- Symbols. One of a tuple type is written as the tuple of its parts, so that a tuple of all parts of a symbol, in
-- order, is that symbol, and all symbols of an empty tuple type are the same.
-- made: what a result was lifted to, of a case and with a payload or without, where that isn't the reply; it has no type
mutual
  pub data Symbol : Type 0 where
    atom : Source → Plain → Symbol
    tuple : Symbols → Symbol
    made : ℕ → Symbol → Symbol
    bare_made : ℕ → Symbol

  pub data Symbols : Type 0 where
    no_symbols : Symbols
    symbol : Symbol → Symbols → Symbols

-- the one word of a symbol, with its type; a list's two; the k-th address given; and the words of the two cases
pub data SymbolWord : Type 0 where
  word_of_symbol : Symbol → WasmType → SymbolWord
  list_address : Symbol → SymbolWord
  list_length : Symbol → SymbolWord
  given : ℕ → SymbolWord
  zero_word : SymbolWord
  one_word : SymbolWord

abbrev pub symbols_listed : Symbols → List Symbol
symbols_listed no_symbols = []
symbols_listed (symbol v vs) = v ∷ symbols_listed vs

abbrev pub symbols_of : List Symbol → Symbols
symbols_of [] = no_symbols
symbols_of (v ∷ vs) = symbol v (symbols_of vs)

-- two symbols are the same, as a test
abbrev pub same_source : Source → Source → Bool
same_source (argument i) (argument j) = nat_eq i j
same_source payload payload = true
same_source reply reply = true
same_source (part s i) (part t j) = same_source s t && nat_eq i j
same_source _ _ = false

abbrev mutual
  pub same_symbol : Symbol → Symbol → Bool
  same_symbol (atom s t) (atom z u) = same_source s z && same_plain t u
  same_symbol (tuple vs) (tuple us) = same_members vs us
  same_symbol (made i v) (made j u) = nat_eq i j && same_symbol v u
  same_symbol (bare_made i) (bare_made j) = nat_eq i j
  same_symbol _ _ = false

  pub same_members : Symbols → Symbols → Bool
  same_members no_symbols no_symbols = true
  same_members (symbol v vs) (symbol u us) = same_symbol v u && same_members vs us
  same_members _ _ = false

abbrev pub same_option : Option Symbol → Option Symbol → Bool
same_option None None = true
same_option (Some v) (Some u) = same_symbol v u
same_option _ _ = false

abbrev pub same_symbols : List Symbol → List Symbol → Bool
same_symbols [] [] = true
same_symbols (v ∷ vs) (u ∷ us) = same_symbol v u && same_symbols vs us
same_symbols _ _ = false

-- the symbol of a type that comes from there
abbrev mutual
  pub symbol_from : Plain → Source → Symbol
  symbol_from (Plain.record_of RecordKind.Tuple ms) s = tuple (parts_from ms s 0)
  symbol_from t s = atom s t

  pub parts_from : Fields → Source → ℕ → Symbols
  parts_from Fields.no_fields s j = no_symbols
  parts_from (Fields.field n t ms) s j = symbol (symbol_from t (part s j)) (parts_from ms s (j + 1))

-- Which symbols are of a type: an atom of an alike one; a tuple is of a tuple type by its items, whatever the
-- members' names, which values don't have either.
abbrev pub atom_is : Plain → Symbol → Bool
atom_is t (atom s u) = same_plain u t
atom_is t _ = false

abbrev mutual
  pub is_of : Plain → Symbol → Bool
  is_of (Plain.record_of RecordKind.Tuple ms) (tuple vs) = are_of ms vs
  is_of (Plain.record_of RecordKind.Tuple ms) _ = false
  is_of t v = atom_is t v

  pub are_of : Fields → Symbols → Bool
  are_of Fields.no_fields no_symbols = true
  are_of (Fields.field n t ms) (symbol v vs) = is_of t v && are_of ms vs
  are_of _ _ = false
