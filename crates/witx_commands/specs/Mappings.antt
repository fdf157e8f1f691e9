-- The documents that a new file and an old one mean, and the modules whose names stand behind them. And what is told of these
-- modules, or of a module or a function that is absent.
use Rattle.std.specs.Prelude.{◌≡◌, ℕ, List, [], ◌∷◌, reverse, Ok, Err}
use Rattle.std.specs.FinMap.{entries, from_entries}
use Rattle.std.specs.Ordering.{nat_cmp}
use Rattle.std.specs.Cmp.Lexicographic.{slice_cmp}
use Rattle.witx_files.specs.Files.{Files}
use Rattle.witx_ast.specs.Definitions.{DefinitionTree}
use Rattle.witx_compat.specs.Polyfills.{MappedModule, PolyfillRefusal, polyfill_answer}
use Rattle.witx_compat.specs.declared.error.PolyfillError.{PolyfillError}
use Rattle.witx_compat.specs.declared.error.PolyfillError.TheVariants as polyfill_error
use Rattle.witx_docs.specs.PolyfillTexts.{polyfill_text}
use Rattle.witx_commands.specs.Adapting.{Parses}
use Rattle.witx_commands.specs.Texts.{absent_module, absent_function, absent_text}
use Rattle.witx_commands.specs.Words.{TwoFiles, paths_of}

-- two by two
abbrev pub pairs_of : List (List ℕ) → List (List ℕ × List ℕ)
pairs_of [] = []
pairs_of (name ∷ []) = []
pairs_of (new ∷ old ∷ more) = (new, old) ∷ pairs_of more

-- the old module of each new one, in the order of the new names; of a new name that stands twice the last pair counts
unfoldable pub mapping_of : List (List ℕ) → List (List ℕ × List ℕ)
mapping_of names = entries (from_entries {R = slice_cmp nat_cmp} (reverse (pairs_of names)))

-- the new file means the one document, the old file the other
abbrev pub MeansBoth : Files → TwoFiles → (new old : List DefinitionTree) → Type 0
MeansBoth files two new old =
    Parses files (paths_of (two.new ∷ [])) (Ok new) × Parses files (paths_of (two.old ∷ [])) (Ok old)

-- the report on the modules of the two
unfoldable pub IsPolyfillText : (new old : List DefinitionTree) → List (List ℕ) → List ℕ → Type 0
IsPolyfillText new old names text =
    (modules : List MappedModule) × (polyfill_answer new old (mapping_of names) ≡ Ok modules)
    × (text ≡ polyfill_text modules)

-- the first module or function that is absent, as it is told
unfoldable pub IsAbsentReport : (new old : List DefinitionTree) → List (List ℕ) → List ℕ → Type 0
IsAbsentReport new old names report =
    (absent : PolyfillRefusal) × (polyfill_answer new old (mapping_of names) ≡ Err absent) × (report ≡ absent_text absent)

-- the text of an error; there is none of want of memory
abbrev pub IsErrorText : PolyfillError → List ℕ → Type 0
IsErrorText (polyfill_error.ModuleNotPresent name) text = text ≡ absent_module name
IsErrorText (polyfill_error.FuncNotPresent owner name) text = text ≡ absent_function name
IsErrorText polyfill_error.OutOfMemory text = ⊥
