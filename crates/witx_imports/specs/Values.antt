-- What tokens and nonterminals stand for while a list is read.
use Rattle.std.specs.Prelude.{ℕ, List, [], ◌∷◌}
use Rattle.witx_lex.specs.Tokens.{Token, quoted, Lexed}
use Rattle.witx_machine.specs.declared.surface.WasmType.{WasmType}
use Rattle.witx_imports.specs.declared.import.WasmImport.{WasmImport}

-- the types of the words of a function: those that go in, and those that come back
pub record Signature : Type 0 where
  pub params : List WasmType
  pub results : List WasmType

-- what a token or a nonterminal stands for
pub data ImportVal : Type 0 where
  a_name : List ℕ → ImportVal
  a_type : WasmType → ImportVal
  some_types : List WasmType → ImportVal
  a_signature : Signature → ImportVal
  an_import : WasmImport → ImportVal
  some_imports : List WasmImport → ImportVal

-- A string stands for its text; other tokens, identifiers among them, for nothing.
abbrev pub import_token_values : Token → List ImportVal
import_token_values (quoted t) = a_name t ∷ []
import_token_values t = []

-- what a token of the text stands for
abbrev pub import_leaf : Lexed → List ImportVal
import_leaf l = import_token_values l.token
