use Rattle.std.proofs.Common.{◌≡◌, length}
use denote.Text.{Utf8}
use denote.Shadow.{shadow}
use Rattle.witx_base.specs.Paths.{Path}
use Rattle.witx_files.specs.Files.{text_in}
use Rattle.witx_bundle.specs.Bundles.{given, lines_of, told_at}
use Rattle.witx_bundle.proofs.LastTexts.{last_or}
use Rattle.witx_bundle.proofs.bundle.files_behind.Given as goal

abbrev pub invariant-loop-line : goal.invariant-loop-line
invariant-loop-line l =
    shadow (Utf8 l.rest)
    × ((q : Path) → last_or (λ p. text_in l.files p) (given (lines_of l.rest)) q ≡ told_at (lines_of l.text) q)

abbrev pub decreases-loop-line : goal.decreases-loop-line
decreases-loop-line l = length l.rest
