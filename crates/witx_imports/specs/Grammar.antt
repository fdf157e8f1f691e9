-- The grammar of lists of imports, production by production: which nonterminal it writes, and by what.
-- An optional part is two productions, and a repetition is a nonterminal that ends with its closing parenthesis.
use Rattle.std.specs.Prelude.{List, [], ◌∷◌, map}
use Rattle.witx_grammar.specs.Grammar.{Rewrite}
use Rattle.witx_grammar.specs.Prediction.{IsPredictive}
use Rattle.witx_grammar.specs.declared.table.Symbol.TheVariants.{Terminal as T, Nonterminal as N}
use Rattle.witx_grammar.specs.declared.table.Table.{Table}
use Rattle.witx_values.specs.Language.{Written, write, production_of}
use Rattle.witx_imports.specs.contracts.symbols.NonterminalPartialEq.TheImpl as nonterminals
use Rattle.witx_imports.specs.contracts.symbols.ProductionNamePartialEq.TheImpl as productions
use Rattle.witx_imports.specs.contracts.symbols.TokenKindPartialEq.TheImpl as kinds
use Rattle.witx_imports.specs.declared.symbols.TokenKind.{TokenKind}
use Rattle.witx_imports.specs.declared.symbols.TokenKind.TheVariants.{Left, Right, Id, Quoted, ImportWord, FuncWord, ParamWord, ResultWord, I32Word, I64Word, F32Word, F64Word, End}
use Rattle.witx_imports.specs.declared.symbols.Nonterminal.{Nonterminal}
use Rattle.witx_imports.specs.declared.symbols.Nonterminal.TheVariants as n
use Rattle.witx_imports.specs.declared.symbols.ProductionName.{ProductionName}
use Rattle.witx_imports.specs.declared.symbols.ProductionName.TheVariants as p

-- which nonterminal each production writes, and by what
abbrev pub import_written : ProductionName → Written TokenKind Nonterminal
-- a text: imports up to its end
import_written p.NoImports = write n.Text (T End ∷ [])
import_written p.MoreImports = write n.Text (N n.Import ∷ N n.Text ∷ [])
-- ( import "m" "f" ( func .. ) )
import_written p.Import = write n.Import (T Left ∷ T ImportWord ∷ T Quoted ∷ T Quoted ∷ T Left ∷ T FuncWord ∷ N n.Func ∷ T Right ∷ [])
-- an identifier or none
import_written p.NamedFunc = write n.Func (T Id ∷ N n.Params ∷ [])
import_written p.BareFunc = write n.Func (N n.Params ∷ [])
-- groups of parameters, and then groups of results, up to the ) of func
import_written p.NoParams = write n.Params (T Right ∷ [])
import_written p.MoreParams = write n.Params (T Left ∷ T ParamWord ∷ N n.Param ∷ N n.Params ∷ [])
import_written p.FirstResults = write n.Params (T Left ∷ T ResultWord ∷ N n.Types ∷ N n.Results ∷ [])
-- one type behind an identifier, or types
import_written p.NamedParam = write n.Param (T Id ∷ N n.Type ∷ T Right ∷ [])
import_written p.BareParams = write n.Param (N n.Types ∷ [])
import_written p.NoResults = write n.Results (T Right ∷ [])
import_written p.MoreResults = write n.Results (T Left ∷ T ResultWord ∷ N n.Types ∷ N n.Results ∷ [])
import_written p.NoTypes = write n.Types (T Right ∷ [])
import_written p.MoreTypes = write n.Types (N n.Type ∷ N n.Types ∷ [])
import_written p.I32 = write n.Type (T I32Word ∷ [])
import_written p.I64 = write n.Type (T I64Word ∷ [])
import_written p.F32 = write n.Type (T F32Word ∷ [])
import_written p.F64 = write n.Type (T F64Word ∷ [])

abbrev pub import_productions : List ProductionName
import_productions =
    p.NoImports ∷ p.MoreImports ∷ p.Import ∷ p.NamedFunc ∷ p.BareFunc ∷ p.NoParams ∷ p.MoreParams ∷ p.FirstResults ∷ p.NamedParam ∷ p.BareParams
    ∷ p.NoResults ∷ p.MoreResults ∷ p.NoTypes ∷ p.MoreTypes ∷ p.I32 ∷ p.I64 ∷ p.F32 ∷ p.F64 ∷ []

abbrev pub import_grammar : List (Rewrite TokenKind Nonterminal ProductionName)
import_grammar = map (production_of import_written) import_productions

-- the lookahead of a table shows each production
abbrev pub IsPredictiveImportTable : Table TokenKind Nonterminal ProductionName → Type 0
IsPredictiveImportTable t = IsPredictive kinds.ghosts.eq nonterminals.ghosts.eq productions.ghosts.eq t
