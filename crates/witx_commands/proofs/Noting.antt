-- The page of a document with its notes is what the command tells, and so is the refusal of a page.
use Rattle.std.specs.Prelude.{◌≡◌, ◌⊎◌, ℕ, ◌+◌, ◌<◌, ◌≤◌, List, ◌++◌, length, drop, Option, Some, None, Ok}
use Rattle.std.specs.List.{flat_map}
use Rattle.std.proofs.Common.{sym, ap, ◌∙◌, subst, inl, inr, get_or, append_assoc, append-nil}
use Rattle.std.proofs.lemmas.List.{drop_more, drop_all}
use Rattle.witx_files.specs.Files.{Files}
use Rattle.witx_ast.specs.Definitions.{DefinitionTree}
use Rattle.witx_adapt.specs.declared.adapted.Adapted.{Adapted}
use Rattle.witx_docs.specs.LaidOut.{document_refusal}
use Rattle.witx_docs.specs.Pages.{missing_line, missing_lines, missing_links, page_text}
use Rattle.witx_docs.specs.declared.error.DocsError.{DocsError}
use Rattle.witx_docs.specs.declared.error.DocsError.TheVariants as docs_error
use Rattle.witx_commands.specs.Adapting.{Parses}
use Rattle.witx_commands.specs.Causes.{IsOutput}
use Rattle.witx_commands.specs.MeantPages.{IsPage, IsPageReport, IsRefusedPage}
use Rattle.witx_commands.specs.Reports.{CommandRefuses, ParsingFails}
use Rattle.witx_commands.specs.Stops.{StopsWith}
use Rattle.witx_commands.specs.Words as asked
use Rattle.witx_commands.specs.Words.{paths_of}
use Rattle.witx_commands.specs.declared.refusal.Stop.{Stop}
use Rattle.witx_commands.proofs.Refusing.{memory-stops, stops-as}

-- the lines of the links that a loop has passed, with those still to come, are all lines
pub next-line : (links : List (List ℕ)) (i : ℕ) (link called before now all : List ℕ) → i < length links → link ≡ get_or links i link → called ≡ link
    → now ≡ before ++ missing_line called → before ++ flat_map missing_line (drop i links) ≡ all → now ++ flat_map missing_line (drop (i + 1) links) ≡ all
next-line links i link called before now all l p c n e =
    ap (λ s. s ++ flat_map missing_line (drop (i + 1) links)) (n ∙ ap (λ name. before ++ missing_line name) c)
    ∙ append_assoc before (missing_line link) (flat_map missing_line (drop (i + 1) links))
    ∙ (rw (drop_more links i link l, ← p) at e)

pub all-lines : (links : List (List ℕ)) (i : ℕ) (before text all : List ℕ) → length links ≤ i → text ≡ before → before ++ flat_map missing_line (drop i links) ≡ all → text ≡ all
all-lines links i before text all l t e = t ∙ sym (append-nil before) ∙ (rw (drop_all i links l) at e)

pub ruleset line_rules = (next-line, all-lines)

-- the page, or its refusal
pub page-noted : (ds : List DefinitionTree) (links : List (List ℕ)) (page text notes : List ℕ) → document_refusal ds ≡ None → page ≡ page_text ds → links ≡ missing_links ds
    → text ≡ page → notes ≡ missing_lines links → IsPage ds text notes
unfolding IsPage
page-noted ds links page text notes r p m t n = (r, t ∙ p, n ∙ ap missing_lines m)

page-told : (ds : List DefinitionTree) (e : DocsError) (report : List ℕ) → (e ≡ docs_error.OutOfMemory) ⊎ (document_refusal ds ≡ Some e) → IsRefusedPage e report → IsPageReport ds report
unfolding IsPageReport
page-told ds e report (inl m) k = absurd (subst (λ x. IsRefusedPage x report) m k)
page-told ds e report (inr r) k = (e, r, k)

pub page-stops : (ds : List DefinitionTree) (e : DocsError) (s : Stop) → (e ≡ docs_error.OutOfMemory) ⊎ (document_refusal ds ≡ Some e) → StopsWith (IsRefusedPage e) s
    → StopsWith (IsPageReport ds) s
page-stops ds e s h k = stops-as (IsRefusedPage e) (IsPageReport ds) (λ report t. page-told ds e report h t) s k

pub ruleset page_rules = (memory-stops, page-noted, page-stops)

-- the command's output, and what it refuses
pub page-output : (files : Files) (words : List (List ℕ)) (text notes : List ℕ) (ds : List DefinitionTree) (adapted : Option Adapted)
    → Parses files (paths_of words) (Ok ds) → IsPage ds text notes → adapted ≡ None → IsOutput (asked.docs words) files text notes adapted
unfolding IsOutput
page-output files words text notes ds adapted p k a = (a, (ds, p, k))

pub unread-refused : (files : Files) (words : List (List ℕ)) (s : Stop) → StopsWith (ParsingFails files (paths_of words)) s
    → StopsWith (CommandRefuses (asked.docs words) files) s
unfolding CommandRefuses
unread-refused files words s k = stops-as (ParsingFails files (paths_of words)) (CommandRefuses (asked.docs words) files) (λ report h. inl h) s k

pub page-refused : (files : Files) (words : List (List ℕ)) (ds : List DefinitionTree) (s : Stop) → Parses files (paths_of words) (Ok ds) → StopsWith (IsPageReport ds) s
    → StopsWith (CommandRefuses (asked.docs words) files) s
unfolding CommandRefuses
page-refused files words ds s p k = stops-as (IsPageReport ds) (CommandRefuses (asked.docs words) files) (λ report h. inr (ds, p, h)) s k

pub ruleset output_rules = (page-output, unread-refused, page-refused)
