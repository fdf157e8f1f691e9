-- The header of files, and why there is none.
use Rattle.std.specs.Prelude.{◌≡◌, ◌≤◌, ◌^◌, ◌⊎◌, ℕ, List, Any, Ok, codes}
use Rattle.std.proofs.Common.{inl, inr, subst, sym}
use Rattle.witx_base.specs.Paths.{Path}
use Rattle.witx_files.specs.Files.{Files}
use Rattle.witx_ast.specs.Definitions.{DefinitionTree}
use Rattle.witx_adapt.specs.declared.adapted.Adapted.{Adapted}
use Rattle.witx_header.specs.Headers.{header, header_numbers}
use Rattle.witx_commands.specs.Adapting.{IsAdapted, Parses, defined}
use Rattle.witx_commands.specs.Reports.{AdaptingFails}
use Rattle.witx_commands.specs.Stops.{StopsWith}
use Rattle.witx_commands.specs.declared.refusal.Stop.{Stop}
use Rattle.witx_commands.specs.declared.refusal.Stop.TheVariants as stop
use Rattle.witx_commands.specs.declared.refusal.Refusal.TheVariants as refusal
use Rattle.witx_header_of.specs.HeaderRuns.{HeaderFails, IsHeader, NumbersFail, NumbersFit}

-- a stop with a report of one kind is one with a report of a wider kind
wider : (P Q : List ℕ → Type 0) → ((report : List ℕ) → P report → Q report) → (s : Stop) → StopsWith P s → StopsWith Q s
wider P Q all (stop.Refused (refusal.Usage known)) h = absurd h
wider P Q all (stop.Refused refusal.Source) h = absurd h
wider P Q all (stop.Refused (refusal.Bundle e)) h = absurd h
wider P Q all (stop.Refused (refusal.Command report)) h = all report h
wider P Q all stop.OutOfMemory h = h

pub not-adapted : (files : Files) (handed given : List Path) (s : Stop) → given ≡ handed → StopsWith (AdaptingFails files given) s → StopsWith (HeaderFails files handed) s
not-adapted files handed given s same h =
    subst (λ paths. StopsWith (HeaderFails files paths) s) same (wider (AdaptingFails files given) (HeaderFails files given) (λ report failed. inl failed) s h)

pub too-large : (files : Files) (handed given : List Path) (ds : List DefinitionTree) (s : Stop) → given ≡ handed → Parses files given (Ok ds)
    → Any (λ n. 2 ^ 64 ≤ n) (header_numbers ds) → StopsWith (λ report. report ≡ codes "size too large") s → StopsWith (HeaderFails files handed) s
too-large files handed given ds s same means large h =
    subst (λ paths. StopsWith (HeaderFails files paths) s) same
    (wider (λ report. report ≡ codes "size too large") (HeaderFails files given) (λ report is. inr (ds, means, large, is)) s h)

pub is-header : (files : Files) (handed given : List Path) (a : Adapted) (text : List ℕ) → given ≡ handed → Parses files given (Ok (defined a)) → IsAdapted a
    → NumbersFit (defined a) → text ≡ header (defined a) → IsHeader files handed text
is-header files handed given a text same means parts fit is =
    subst (λ paths. IsHeader files paths text) same (defined a, means, parts.adaptable, fit, is)

pub memory-stops : (P : List ℕ → Type 0) (s : Stop) → s ≡ stop.OutOfMemory → StopsWith P s
memory-stops P s is = subst (StopsWith P) (sym is) tt

pub ruleset failing_rules = (memory-stops, not-adapted, too-large, is-header)
