-- The page of a document and the notes beside it; or why there is no page.
use Rattle.std.specs.Prelude.{◌≡◌, ℕ, List, ◌++◌, None, Some, codes}
use Rattle.witx_ast.specs.Definitions.{DefinitionTree}
use Rattle.witx_docs.specs.LaidOut.{document_refusal}
use Rattle.witx_docs.specs.Pages.{missing_lines, missing_links, page_text}
use Rattle.witx_docs.specs.declared.error.DocsError.{DocsError}
use Rattle.witx_docs.specs.declared.error.DocsError.TheVariants as docs_error

-- nothing refuses the page; a note for each missing link, in order
unfoldable pub IsPage : List DefinitionTree → (text notes : List ℕ) → Type 0
IsPage ds text notes = (document_refusal ds ≡ None) × (text ≡ page_text ds) × (notes ≡ missing_lines (missing_links ds))

-- the text of a refusal; there is none of want of memory
abbrev pub IsRefusedPage : DocsError → List ℕ → Type 0
IsRefusedPage (docs_error.UnknownConstantType name) text =
    text ≡ codes "constant of unknown type `" ++ name ++ codes "`"
IsRefusedPage docs_error.TooLarge text = text ≡ codes "size too large"
IsRefusedPage docs_error.OutOfMemory text = ⊥

-- this refuses the page, as it is told
unfoldable pub IsPageReport : List DefinitionTree → List ℕ → Type 0
IsPageReport ds report = (e : DocsError) × (document_refusal ds ≡ Some e) × IsRefusedPage e report
