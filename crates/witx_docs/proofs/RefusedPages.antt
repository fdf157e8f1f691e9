-- When a document has no page, and how that is told.
use Rattle.std.specs.Prelude.{◌≡◌, ◌⊎◌, ℕ, List, false, Option, Some, None}
use Rattle.std.proofs.Common.{refl, inl, inr}
use Rattle.witx_layout.specs.declared.members.LayoutError.{LayoutError}
use Rattle.witx_layout.specs.declared.members.LayoutError.TheVariants as layout_error
use Rattle.witx_ast.specs.Definitions.{DefinitionTree}
use Rattle.witx_docs.specs.declared.error.DocsError.{DocsError}
use Rattle.witx_docs.specs.declared.error.DocsError.TheVariants as docs_error
use Rattle.witx_docs.proofs.DocumentParts.{looked-through}
use Rattle.witx_markdown.specs.Constants.{unknown_type}
use Rattle.witx_docs.specs.LaidOut.{too_large, document_laid_out, document_refusal, number_refusal, refusal_fits, layout_refusal}

pub accepted : (ds : List DefinitionTree) → unknown_type ds ≡ None → too_large (document_laid_out ds) ≡ false → document_refusal ds ≡ None
accepted ds e f = rw (e, f) refl

pub unknown-refused : (ds : List DefinitionTree) (name : List ℕ) → unknown_type ds ≡ Some name → document_refusal ds ≡ Some (docs_error.UnknownConstantType name)
unknown-refused ds name e = rw e refl

pub layout-refused : (ds : List DefinitionTree) (e : LayoutError) → unknown_type ds ≡ None → refusal_fits (too_large (document_laid_out ds)) e
    → (layout_refusal e ≡ docs_error.OutOfMemory) ⊎ (document_refusal ds ≡ Some (layout_refusal e))
layout-refused ds layout_error.TooLarge e h = inr (rw (e, h) refl)
layout-refused ds layout_error.OutOfMemory e h = inl refl

pub document-refused : (ds : List DefinitionTree) (o : Option DocsError) → unknown_type ds ≡ None → number_refusal (document_laid_out ds) ≡ o → document_refusal ds ≡ o
document-refused ds o e h = rw e h

pub ruleset refusal_rules = (document-refused, accepted, unknown-refused, layout-refused, looked-through)
