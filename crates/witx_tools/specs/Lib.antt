pub mod Callable
pub mod Calls
pub mod ImportTexts
pub mod InvokeTexts
pub mod MappedBy
pub mod ShimTexts
pub mod ToolCauses
pub mod ToolLaws
pub mod ToolRuns
pub mod VerdictTexts
-- The definitions that the clauses of the surface cite, under one name: `Rattle.witx_tools.specs.FILE`. A file whose name two crates
-- have stands here under another.
pub use Rattle.witx_adapt.specs.Adaptable
pub use Rattle.witx_adapt.specs.Entries
pub use Rattle.witx_adapt.specs.Listings
pub use Rattle.witx_adapt.specs.declared.adapted.Adapted
pub use Rattle.witx_adapt.specs.declared.adapted.AdaptedFunc
pub use Rattle.witx_ast.specs.Closed
pub use Rattle.witx_ast.specs.Definitions
pub use Rattle.witx_ast.specs.EntryWords
pub use Rattle.witx_ast.specs.Functions as FunctionTrees
pub use Rattle.witx_ast.specs.ItemKinds
pub use Rattle.witx_ast.specs.Items
pub use Rattle.witx_ast.specs.Kinds
pub use Rattle.witx_ast.specs.Misfits
pub use Rattle.witx_ast.specs.Ordered
pub use Rattle.witx_ast.specs.Plain
pub use Rattle.witx_ast.specs.Tags
pub use Rattle.witx_ast.specs.Tree
pub use Rattle.witx_ast.specs.TypeNames
pub use Rattle.witx_ast.specs.ValueTests
pub use Rattle.witx_ast.specs.Values
pub use Rattle.witx_ast.specs.Views as TypeViews
pub use Rattle.witx_base.specs.Calls as CallNumbers
pub use Rattle.witx_base.specs.Causes as Counts
pub use Rattle.witx_base.specs.Found
pub use Rattle.witx_base.specs.Paths
pub use Rattle.witx_base.specs.Texts
pub use Rattle.witx_bundle.specs.Bundles
pub use Rattle.witx_bytes.specs.ByteMachine
pub use Rattle.witx_bytes.specs.Bytes
pub use Rattle.witx_bytes.specs.Images
pub use Rattle.witx_bytes.specs.Reading
pub use Rattle.witx_bytes.specs.Readings
pub use Rattle.witx_bytes.specs.Seen
pub use Rattle.witx_call.specs.CallSeen
pub use Rattle.witx_call.specs.Lines
pub use Rattle.witx_call.specs.ValueTexts
pub use Rattle.witx_call.specs.WordViews
pub use Rattle.witx_call.specs.declared.call_seen.Invoked
pub use Rattle.witx_check.specs.Scopes
pub use Rattle.witx_check.specs.Validators
pub use Rattle.witx_commands.specs.Adapting
pub use Rattle.witx_commands.specs.Causes
pub use Rattle.witx_commands.specs.ConstantTypes
pub use Rattle.witx_commands.specs.Laws
pub use Rattle.witx_commands.specs.Mappings
pub use Rattle.witx_commands.specs.Reports
pub use Rattle.witx_commands.specs.Runs
pub use Rattle.witx_commands.specs.Stops
pub use Rattle.witx_commands.specs.Streams
pub use Rattle.witx_commands.specs.Texts as WrittenTexts
pub use Rattle.witx_commands.specs.Words
pub use Rattle.witx_comments.specs.Comments
pub use Rattle.witx_comments.specs.Documentation
pub use Rattle.witx_compat.specs.Answers as Joins
pub use Rattle.witx_compat.specs.Conversions
pub use Rattle.witx_compat.specs.Polyfills
pub use Rattle.witx_compat.specs.Represents
pub use Rattle.witx_compat.specs.Views as PolyfillViews
pub use Rattle.witx_conditions.specs.FittingEvents
pub use Rattle.witx_conditions.specs.OwnNames
pub use Rattle.witx_docs.specs.LaidOut
pub use Rattle.witx_docs.specs.Pages
pub use Rattle.witx_error_texts.specs.ErrorTexts
pub use Rattle.witx_files.specs.Answers as FileAnswers
pub use Rattle.witx_files.specs.Files
pub use Rattle.witx_files.specs.LocatedTexts
pub use Rattle.witx_imports.specs.Faults as ImportFaults
pub use Rattle.witx_imports.specs.Reads as ImportReads
pub use Rattle.witx_instructions.specs.Handed
pub use Rattle.witx_instructions.specs.Told
pub use Rattle.witx_instructions.specs.Views as EventViews
pub use Rattle.witx_invoke.specs.Invoking
pub use Rattle.witx_invoke.specs.Runs as CallRuns
pub use Rattle.witx_layout.specs.Layouts
pub use Rattle.witx_layout.specs.LayoutsText
pub use Rattle.witx_layout.specs.Nodes
pub use Rattle.witx_layout.specs.Numbers
pub use Rattle.witx_layout.specs.Refusals as TagRefusals
pub use Rattle.witx_lex.specs.Faults as LexFaults
pub use Rattle.witx_lex.specs.Meaning
pub use Rattle.witx_lex.specs.Places
pub use Rattle.witx_lex.specs.Views as TokenViews
pub use Rattle.witx_machine.specs.Events
pub use Rattle.witx_machine.specs.Faithful
pub use Rattle.witx_machine.specs.Functions
pub use Rattle.witx_machine.specs.Lowerable
pub use Rattle.witx_machine.specs.Rows
pub use Rattle.witx_machine.specs.Signature
pub use Rattle.witx_machine.specs.Traces
pub use Rattle.witx_markdown.specs.Contents
pub use Rattle.witx_markdown.specs.Forests
pub use Rattle.witx_markdown.specs.Lending
pub use Rattle.witx_markdown.specs.Links
pub use Rattle.witx_markdown.specs.Trees as PageTrees
pub use Rattle.witx_read_back.specs.Plain as PlainDocuments
pub use Rattle.witx_read_back.specs.ReadBack
pub use Rattle.witx_render.specs.DocumentTexts
pub use Rattle.witx_render.specs.ExpressionViews
pub use Rattle.witx_render.specs.Expressions
pub use Rattle.witx_run.specs.Views as ReplyViews
pub use Rattle.witx_sample.specs.Samples
pub use Rattle.witx_sample.specs.Summaries
pub use Rattle.witx_scope.specs.Blame
pub use Rattle.witx_scope.specs.Faults
pub use Rattle.witx_scope.specs.Reports as FaultReports
pub use Rattle.witx_scope.specs.Validates
pub use Rattle.witx_shim.specs.Arrivals
pub use Rattle.witx_shim.specs.Refusals as ShimRefusals
pub use Rattle.witx_symbols.specs.Adapted as AdaptedVerdicts
pub use Rattle.witx_symbols.specs.Verdicts
pub use Rattle.witx_syntax.specs.Reads
pub use Rattle.witx_syntax_tree.specs.Trees
pub use Rattle.witx_syntax_tree.specs.Views as TreeViews
pub use Rattle.witx_traces.specs.Passages
pub use Rattle.witx_traces.specs.Refusals as TraceRefusals
pub use Rattle.witx_traces.specs.Traces as ListedTraces
pub use Rattle.witx_walk.specs.Answers
pub use Rattle.witx_walk.specs.ErrorReports
pub use Rattle.witx_walk.specs.OneFile
