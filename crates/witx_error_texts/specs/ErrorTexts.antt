-- What is told of an error by itself, byte for byte. Where a report names a typename or a parameter, its number stands here, since the
-- error has no name; and the place of a fault stands below its message, since no file is read.
use Rattle.std.specs.Prelude.{◌≡◌, ℕ, List, [], ◌++◌, Ok, Some, codes}
use Rattle.std.specs.Fmt.{decimal}
use Rattle.witx_base.specs.Paths.{path_text}
use Rattle.witx_bundle.specs.declared.error.BundleError.{BundleError}
use Rattle.witx_bundle.specs.declared.error.BundleError.TheVariants as bundle
use Rattle.witx_files.specs.declared.fault.IoError.{IoError}
use Rattle.witx_files.specs.declared.fault.IoError.TheVariants as io
use Rattle.witx_files.specs.declared.location.Location.{Location}
use Rattle.witx_lex.specs.declared.error.LexError.{LexError}
use Rattle.witx_lex.specs.declared.error.LexError.TheVariants as lex
use Rattle.witx_lex.specs.declared.error.LexFault.{LexFault}
use Rattle.witx_language.specs.Messages.{lexical_message}
use Rattle.witx_language.specs.declared.error.ParseFault.{ParseFault}
use Rattle.witx_language.specs.declared.error.SyntaxError.{SyntaxError}
use Rattle.witx_language.specs.declared.error.SyntaxError.TheVariants as syntax
use Rattle.witx_scope.specs.Blame.{fault_of}
use Rattle.witx_scope.specs.Faults.{Fault}
use Rattle.witx_scope.specs.Messages.{fault_location}
use Rattle.witx_scope.specs.Reports.{IsReport}
use Rattle.witx_walk.specs.ErrorReports.{IsErrorReport, fault_text}
use Rattle.witx_walk.specs.declared.error.WitxError.{WitxError}
use Rattle.witx_walk.specs.declared.error.WitxError.TheVariants as witx_error
use Rattle.witx_layout.specs.declared.members.LayoutError.{LayoutError}
use Rattle.witx_layout.specs.declared.members.LayoutError.TheVariants as layout
use Rattle.witx_layout.specs.declared.table.LayoutsError.{LayoutsError}
use Rattle.witx_layout.specs.declared.table.LayoutsError.TheVariants as layouts
use Rattle.witx_layout.specs.declared.tags.TagTooNarrow.{TagTooNarrow}
use Rattle.witx_machine.specs.declared.surface.Place.{Place}
use Rattle.witx_instructions.specs.declared.bindgen.BindgenError.{BindgenError}
use Rattle.witx_instructions.specs.declared.bindgen.BindgenError.TheVariants as bindgen
use Rattle.witx_instructions.specs.declared.error.AbiError.{AbiError}
use Rattle.witx_instructions.specs.declared.error.AbiError.TheVariants as abi
use Rattle.witx_instructions.specs.declared.error.SignatureError.{SignatureError}
use Rattle.witx_instructions.specs.declared.error.SignatureError.TheVariants as signature
use Rattle.witx_shim.specs.declared.error.ShimError.{ShimError}
use Rattle.witx_shim.specs.declared.error.ShimError.TheVariants as shim
use Rattle.witx_compat.specs.declared.error.PolyfillError.{PolyfillError}
use Rattle.witx_compat.specs.declared.error.PolyfillError.TheVariants as polyfill
use Rattle.witx_docs.specs.declared.error.DocsError.{DocsError}
use Rattle.witx_docs.specs.declared.error.DocsError.TheVariants as docs
use Rattle.witx_adapt.specs.declared.error.DocumentError.{DocumentError}
use Rattle.witx_adapt.specs.declared.error.DocumentError.TheVariants as document
use Rattle.witx_bytes.specs.declared.memory.PlaceError.{PlaceError}
use Rattle.witx_bytes.specs.declared.memory.PlaceError.TheVariants as place
use Rattle.witx_bytes.specs.declared.read_error.ReadError.{ReadError}
use Rattle.witx_bytes.specs.declared.read_error.ReadError.TheVariants as read
use Rattle.witx_imports.specs.declared.error.ImportsError.{ImportsError}
use Rattle.witx_imports.specs.declared.error.ImportsError.TheVariants as imports
use Rattle.witx_invoke.specs.declared.error.InvokeError.{InvokeError}
use Rattle.witx_invoke.specs.declared.error.InvokeError.TheVariants as invoke
use Rattle.witx_invoke.specs.declared.error.ValuesError.{ValuesError}
use Rattle.witx_invoke.specs.declared.error.ValuesError.TheVariants as values
use Rattle.witx_traces.specs.declared.reading.TracesError.{TracesError}
use Rattle.witx_traces.specs.declared.reading.TracesError.TheVariants as traces
use Rattle.witx_commands.specs.Reports.{counts_text, function_called}
use Rattle.witx_commands.specs.declared.error.AdaptError.{AdaptError}
use Rattle.witx_commands.specs.declared.error.AdaptError.TheVariants as adapt
use Rattle.witx_commands.specs.declared.input.InputError.{InputError}
use Rattle.witx_commands.specs.declared.input.InputError.TheVariants as input

abbrev pub no_memory : List ℕ
no_memory = codes "out of memory"

-- ---- places and numbers

-- below a message, its place
abbrev pub at_place : (line column : ℕ) → List ℕ
at_place line column = codes "\n     --> " ++ (decimal line ++ (codes ":" ++ decimal column))

abbrev pub in_file : Location → List ℕ
in_file at = codes "\n     --> " ++ (path_text at.path ++ (codes ":" ++ (decimal at.line ++ (codes ":" ++ decimal at.column))))

abbrev pub definition_text : ℕ → List ℕ → List ℕ
definition_text definition said = codes "definition " ++ (decimal definition ++ (codes ": " ++ said))

abbrev pub tag_text : TagTooNarrow → List ℕ
tag_text t = definition_text t.definition (counts_text t.count t.most)

abbrev pub size_text : ℕ → List ℕ
size_text definition = definition_text definition (codes "size too large")

abbrev pub place_shown : Place → List ℕ
place_shown (Place.Param i) = codes "parameter " ++ decimal i
place_shown (Place.Result i) = codes "result " ++ decimal i

abbrev pub unlowered_text : Place → List ℕ
unlowered_text p = place_shown p ++ codes " cannot be lowered"

-- ---- texts, files and bundles

abbrev pub lex_fault : LexFault → List ℕ
lex_fault f = lexical_message f.kind ++ (codes " at byte " ++ decimal f.at)

abbrev pub lex_error : LexError → List ℕ
lex_error (lex.Bad f) = lex_fault f
lex_error lex.OutOfMemory = no_memory

abbrev pub parse_fault : ParseFault → List ℕ
parse_fault f = f.message.now ++ at_place f.line f.column

abbrev pub syntax_error : SyntaxError → List ℕ
syntax_error (syntax.Parse f) = parse_fault f
syntax_error syntax.OutOfMemory = no_memory

abbrev pub io_error : IoError → List ℕ
io_error (io.Fault f) = fault_text f
io_error io.OutOfMemory = no_memory

abbrev pub bundle_error : BundleError → List ℕ
bundle_error bundle.TooLong = codes "bundle has more than 4194304 bytes"
bundle_error (bundle.NotUtf8 at) = codes "bundle is not UTF-8 at byte " ++ decimal at
bundle_error (bundle.BeforeFirst at) = codes "text before the first file at byte " ++ decimal at
bundle_error bundle.OutOfMemory = no_memory

abbrev pub input_error : InputError → List ℕ
input_error input.Source = codes "cannot read input"
input_error (input.Bundle e) = bundle_error e
input_error input.OutOfMemory = no_memory

-- ---- documents

-- the report where no file is held, and the place
abbrev pub IsValidationText : Fault → List ℕ → Type 0
IsValidationText f text = (report : List ℕ) × IsReport (Some []) f 0 0 (Ok report) × (text ≡ report ++ in_file (fault_location f))

abbrev pub IsRefusalText : WitxError → List ℕ → Type 0
IsRefusalText (witx_error.Validation e) text = IsValidationText (fault_of e) text
IsRefusalText (witx_error.Io p f) text = IsErrorReport (Some []) (witx_error.Io p f) 0 0 (Ok text)
IsRefusalText (witx_error.Parse e) text = IsErrorReport (Some []) (witx_error.Parse e) 0 0 (Ok text)
IsRefusalText (witx_error.BadPath p) text = IsErrorReport (Some []) (witx_error.BadPath p) 0 0 (Ok text)
IsRefusalText (witx_error.TooManyFiles p) text = IsErrorReport (Some []) (witx_error.TooManyFiles p) 0 0 (Ok text)
IsRefusalText witx_error.OutOfMemory text = IsErrorReport (Some []) witx_error.OutOfMemory 0 0 (Ok text)

abbrev pub layout_error : LayoutError → List ℕ
layout_error layout.TooLarge = codes "size too large"
layout_error layout.OutOfMemory = no_memory

abbrev pub layouts_error : LayoutsError → List ℕ
layouts_error (layouts.TooLarge definition) = size_text definition
layouts_error layouts.OutOfMemory = no_memory

abbrev pub unlowerable_text : (owner function : List ℕ) → Place → List ℕ
unlowerable_text owner function p = function_called owner function ++ unlowered_text p

abbrev pub document_error : DocumentError → List ℕ
document_error (document.TagTooNarrow t) = tag_text t
document_error (document.TooLarge definition) = size_text definition
document_error (document.Unlowerable owner function p) = unlowerable_text owner function p
document_error document.OutOfMemory = no_memory

abbrev pub IsAdaptText : AdaptError → List ℕ → Type 0
IsAdaptText (adapt.Refused e) text = IsRefusalText e text
IsAdaptText (adapt.TagTooNarrow t) text = text ≡ tag_text t
IsAdaptText (adapt.TooLarge definition) text = text ≡ size_text definition
IsAdaptText (adapt.Unlowerable owner function p) text = text ≡ unlowerable_text owner function p
IsAdaptText adapt.OutOfMemory text = text ≡ no_memory

abbrev pub unknown_type_text : List ℕ → List ℕ
unknown_type_text name = codes "constant of unknown type `" ++ (name ++ codes "`")

abbrev pub docs_error : DocsError → List ℕ
docs_error (docs.UnknownConstantType name) = unknown_type_text name
docs_error docs.TooLarge = codes "size too large"
docs_error docs.OutOfMemory = no_memory

-- ---- signatures, generators and shims

abbrev pub signature_error : SignatureError → List ℕ
signature_error (signature.Unlowerable p) = unlowered_text p
signature_error signature.OutOfMemory = no_memory

abbrev pub abi_error_text : AbiError → List ℕ
abi_error_text (abi.Unlowerable p) = unlowered_text p
abi_error_text abi.BindgenFailed = codes "generator failed"
abi_error_text abi.OutOfMemory = no_memory

abbrev pub bindgen_error : BindgenError → List ℕ
bindgen_error bindgen.Failed = codes "generator failed"
bindgen_error bindgen.OutOfMemory = no_memory

abbrev pub repeated : List ℕ → List ℕ
repeated name = codes "two parameters `" ++ (name ++ codes "`")

-- of the old function, or the new one
abbrev pub part_of : List ℕ → Place → List ℕ
part_of which p = which ++ (codes " " ++ unlowered_text p)

abbrev pub shim_error : ShimError → List ℕ
shim_error (shim.Repeated name) = repeated name
shim_error shim.NotCompatible = codes "not compatible"
shim_error shim.OtherAbi = codes "other abi"
shim_error (shim.OldUnlowerable p) = part_of (codes "old") p
shim_error (shim.NewUnlowerable p) = part_of (codes "new") p
shim_error shim.OutOfMemory = no_memory

-- as the error's own message
abbrev pub absent : (what name : List ℕ) → List ℕ
absent what name = what ++ (codes " not present: `" ++ (name ++ codes "`"))

abbrev pub polyfill_error : PolyfillError → List ℕ
polyfill_error (polyfill.ModuleNotPresent name) = absent (codes "Module") name
polyfill_error (polyfill.FuncNotPresent owner name) = absent (codes "Function") name
polyfill_error polyfill.OutOfMemory = no_memory

-- ---- what the tools read and run

abbrev pub unexpected_line : ℕ → List ℕ
unexpected_line line = codes "unexpected line " ++ decimal line

abbrev pub values_error : ValuesError → List ℕ
values_error (values.Line line) = unexpected_line line
values_error values.OutOfMemory = no_memory

abbrev pub traces_error : TracesError → List ℕ
traces_error (traces.Line line) = unexpected_line line
traces_error traces.OutOfMemory = no_memory

abbrev pub invoke_error : InvokeError → List ℕ
invoke_error invoke.ZeroError = codes "error word is 0"
invoke_error invoke.NoRoom = codes "out of room"
invoke_error invoke.OutOfMemory = no_memory

abbrev pub imports_error : ImportsError → List ℕ
imports_error (imports.Bad line column) = decimal line ++ (codes ":" ++ (decimal column ++ codes ": not an import"))
imports_error imports.OutOfMemory = no_memory

abbrev pub place_error : PlaceError → List ℕ
place_error place.Taken = codes "range already held"
place_error place.OutOfMemory = no_memory

abbrev pub read_error : ReadError → List ℕ
read_error read.NoValue = codes "no value of the type"
read_error read.OutOfMemory = no_memory
