-- Read-back: of a plain document that files mean, the printed text has the tokens of the print, these read as a syntax tree that
-- says the print, and that tree means a document with equal entries; so `parse` of the text gives such a document.
use Rattle.std.specs.Prelude.{◌≡◌, ℕ, List, ◌∷◌, [], Result, Ok, Err}
use Rattle.witx_base.specs.Paths.{Path}
use Rattle.witx_files.specs.Files.{Files, Aliases}
use Rattle.witx_files.specs.declared.fault.IoFault.TheVariants.{NotFound, LineNotFound, Failed}
use Rattle.witx_lex.specs.Tokens.{Lexed}
use Rattle.witx_lex.specs.Meaning.{HasTokens}
use Rattle.witx_syntax_tree.specs.Trees.{Document}
use Rattle.witx_syntax.specs.Reads.{Reads}
use Rattle.witx_ast.specs.Definitions.{DefinitionTree}
use Rattle.witx_order.specs.Items.{Declared}
use Rattle.witx_order.specs.Verdicts.{fine, IsVerdict}
use Rattle.witx_walk.specs.Readings.{FileReading, IsReading}
use Rattle.witx_walk.specs.Meaning.{world, definitions_of, MeansDocument}
use Rattle.witx_walk.specs.OneFile.{source_path, source_world}
use Rattle.witx_walk.specs.Answers.{Answer}
use Rattle.witx_walk.specs.declared.error.WitxError.TheVariants.{Io, Parse, Validation, BadPath, TooManyFiles, OutOfMemory}
use Rattle.witx_render.specs.DocumentTexts.{typenames_first, document_exprs, document_text}
use Rattle.witx_read_back.specs.Plain.{IsPlain}
use Rattle.witx_read_back.specs.PrintedTokens.{tokens, all_tokens}
use Rattle.witx_read_back.specs.SameEntries.{SameEntries}
use Rattle.witx_read_back.specs.Says.{SaysDocument}

-- some files mean these definitions
pub record IsMeant (ds : List DefinitionTree) : Type 0 where
  pub reading : FileReading
  pub files : Files
  pub aliases : Aliases
  pub handed : List Path
  pub reads : IsReading reading
  pub means : MeansDocument (world files aliases reading) handed ds

-- the bytes have exactly the tokens of the printed expressions
abbrev pub HasPrintedTokens : List DefinitionTree → Type 0
HasPrintedTokens ds = (ts : List Lexed) × HasTokens (document_text ds) ts × (tokens ts ≡ all_tokens (document_exprs ds))

-- the bytes read as a syntax tree that says the typenames and then the modules
abbrev pub ReadsAsPrinted : List DefinitionTree → Type 0
ReadsAsPrinted ds = (document : Document) × Reads (document_text ds) document × SaysDocument (typenames_first ds) document

-- as the one file the bytes have the verdict that no declaration has a fault, and these define equal entries
abbrev pub MeansTheSame : List DefinitionTree → Type 0
MeansTheSame ds = (reading : FileReading) → IsReading reading → (declared : List Declared)
    × IsVerdict (source_world (document_text ds) reading) (source_path ∷ []) (fine declared) × SameEntries ds (definitions_of declared)

-- an answer has equal entries, or is want of memory
abbrev pub IsReadBack : List DefinitionTree → Answer → Type 0
IsReadBack ds (Ok es) = SameEntries ds es
IsReadBack ds (Err (BadPath path)) = ⊥
IsReadBack ds (Err (TooManyFiles path)) = ⊥
IsReadBack ds (Err (Io path fault)) = ⊥
IsReadBack ds (Err (Parse e)) = ⊥
IsReadBack ds (Err (Validation e)) = ⊥
IsReadBack ds (Err OutOfMemory) = Unit {0}

-- so for each plain document that files mean
abbrev pub ForPlain : (List DefinitionTree → Type 0) → Type 0
ForPlain Claim = (ds : List DefinitionTree) → IsMeant ds → IsPlain ds → Claim ds
