-- Sorts of values: what tokens and nonterminals stand for, and so what a production is made of.
use Rattle.std.specs.Prelude.{ℕ, List, [], ◌∷◌, Option, Some, None}
use Rattle.witx_machine.specs.declared.surface.WasmType.{WasmType}
use Rattle.witx_values.specs.Parts.{Sorting}
use Rattle.witx_imports.specs.declared.import.WasmImport.{WasmImport}
use Rattle.witx_imports.specs.declared.symbols.Nonterminal.{Nonterminal as FormName}
use Rattle.witx_imports.specs.declared.symbols.Nonterminal.TheVariants as n
use Rattle.witx_imports.specs.declared.symbols.TokenKind.{TokenKind}
use Rattle.witx_imports.specs.declared.symbols.TokenKind.TheVariants.{Quoted}
use Rattle.witx_imports.specs.declared.value.Sort.{Sort}
use Rattle.witx_imports.specs.declared.value.Sort.TheVariants as s
use Rattle.witx_imports.specs.Values.{Signature, ImportVal, a_name, a_type, some_types, a_signature, an_import, some_imports}

-- what the values of a sort are
abbrev pub ImportOf : Sort → Type 0
ImportOf s.Name = List ℕ
ImportOf s.Type = WasmType
ImportOf s.Types = List WasmType
ImportOf s.Signature = Signature
ImportOf s.Import = WasmImport
ImportOf s.Imports = List WasmImport

-- the sort of a value
abbrev pub import_sort_of : ImportVal → Sort
import_sort_of (a_name n) = s.Name
import_sort_of (a_type t) = s.Type
import_sort_of (some_types ts) = s.Types
import_sort_of (a_signature x) = s.Signature
import_sort_of (an_import i) = s.Import
import_sort_of (some_imports is) = s.Imports

-- a value of a sort as a value of any
abbrev pub import_wrap : (x : Sort) → ImportOf x → ImportVal
import_wrap s.Name n = a_name n
import_wrap s.Type t = a_type t
import_wrap s.Types ts = some_types ts
import_wrap s.Signature x = a_signature x
import_wrap s.Import i = an_import i
import_wrap s.Imports is = some_imports is

-- what a value holds, if it is of the sort
abbrev pub import_unwrap : (x : Sort) → ImportVal → Option (ImportOf x)
import_unwrap s.Name (a_name n) = Some n
import_unwrap s.Type (a_type t) = Some t
import_unwrap s.Types (some_types ts) = Some ts
import_unwrap s.Signature (a_signature x) = Some x
import_unwrap s.Import (an_import i) = Some i
import_unwrap s.Imports (some_imports is) = Some is
import_unwrap x v = None

-- the sorts of what a token of the kind stands for
abbrev pub import_terminal_sorts : TokenKind → List Sort
import_terminal_sorts Quoted = s.Name ∷ []
import_terminal_sorts k = []

-- the sort of what a nonterminal stands for
abbrev pub import_nonterminal_sort : FormName → Sort
import_nonterminal_sort n.Text = s.Imports
import_nonterminal_sort n.Import = s.Import
import_nonterminal_sort n.Func = s.Signature
import_nonterminal_sort n.Params = s.Signature
import_nonterminal_sort n.Param = s.Types
import_nonterminal_sort n.Results = s.Signature
import_nonterminal_sort n.Types = s.Types
import_nonterminal_sort n.Type = s.Type

-- the sorts of the language
abbrev pub import_sorting : Sorting TokenKind FormName Sort ImportVal
import_sorting = record {
  Of = ImportOf;
  wrap = import_wrap;
  unwrap = import_unwrap;
  sort_of = import_sort_of;
  terminal_sorts = import_terminal_sorts;
  nonterminal_sort = import_nonterminal_sort;
}
