-- What a derivation stands for: each production makes one value of those of what it is written by.
use Rattle.std.specs.Prelude.{ℕ, List, [], ◌∷◌, ◌++◌}
use Rattle.witx_lex.specs.Tokens.{Lexed}
use Rattle.witx_machine.specs.declared.surface.WasmType.{WasmType}
use Rattle.witx_machine.specs.declared.surface.WasmType.TheVariants as w
use Rattle.witx_values.specs.Language.{Language}
use Rattle.witx_values.specs.Parts.{Meaning, in_place}
use Rattle.witx_imports.specs.declared.import.WasmImport.{WasmImport}
use Rattle.witx_imports.specs.declared.symbols.Nonterminal.{Nonterminal}
use Rattle.witx_imports.specs.declared.symbols.ProductionName.{ProductionName}
use Rattle.witx_imports.specs.declared.symbols.ProductionName.TheVariants as p
use Rattle.witx_imports.specs.declared.symbols.TokenKind.{TokenKind}
use Rattle.witx_imports.specs.declared.symbols.TokenKind.TheVariants.{End}
use Rattle.witx_imports.specs.declared.value.Sort.{Sort}
use Rattle.witx_imports.specs.Grammar.{import_productions, import_written}
use Rattle.witx_imports.specs.Sorts.{import_sorting, import_sort_of, import_terminal_sorts, import_nonterminal_sort}
use Rattle.witx_imports.specs.TokenKinds.{import_token_kind}
use Rattle.witx_imports.specs.Values.{Signature, ImportVal, import_leaf}

-- the import of these names and words
abbrev pub import_of : List ℕ → List ℕ → List WasmType → List WasmType → WasmImport
import_of m f ps rs = record { «module» = m; name = f; params = ps; results = rs }

-- the words of a function
abbrev pub words : List WasmType → List WasmType → Signature
words ps rs = record { params = ps; results = rs }

-- ---- production by production, of the values of its parts in their order

-- what a production makes
abbrev pub import_meaning : (x : ProductionName) → Meaning import_sorting (import_written x)
import_meaning p.NoImports = []
import_meaning p.MoreImports = λ i is. i ∷ is
import_meaning p.Import = λ m f s. import_of m f s.params s.results
-- an identifier says nothing
import_meaning p.NamedFunc = λ s. s
import_meaning p.BareFunc = λ s. s
-- groups are joined in order
import_meaning p.NoParams = words [] []
import_meaning p.MoreParams = λ ts s. words (ts ++ s.params) s.results
import_meaning p.FirstResults = λ ts s. words s.params (ts ++ s.results)
import_meaning p.NamedParam = λ t. t ∷ []
import_meaning p.BareParams = λ ts. ts
import_meaning p.NoResults = words [] []
import_meaning p.MoreResults = λ ts s. words s.params (ts ++ s.results)
import_meaning p.NoTypes = []
import_meaning p.MoreTypes = λ t ts. t ∷ ts
import_meaning p.I32 = w.I32
import_meaning p.I64 = w.I64
import_meaning p.F32 = w.F32
import_meaning p.F64 = w.F64

-- in place of the values of its parts, which stand first; no production sees more of the tokens than these
abbrev pub import_act : ProductionName → List Lexed → List ImportVal → List ImportVal
import_act p ts vs = in_place import_sorting (import_written p) (import_meaning p) vs

-- the language of lists of imports
abbrev pub import_language : Language TokenKind Nonterminal ProductionName Lexed Sort ImportVal
import_language = record {
  names = import_productions;
  written = import_written;
  kind = (λ l. import_token_kind l.token);
  end = End;
  leaf = import_leaf;
  act = import_act;
  sort_of = import_sort_of;
  terminal_sorts = import_terminal_sorts;
  nonterminal_sort = import_nonterminal_sort;
}
