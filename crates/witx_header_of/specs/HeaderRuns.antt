-- What a run of the program is asked for: the header of the document that the files of its source's bundle mean under the paths
-- that its words spell. And what is so of a run: what it has to write has its cause, and that is what was written.
use Rattle.std.specs.Prelude.{◌≡◌, ◌≤◌, ◌<◌, ◌^◌, ◌⊎◌, ℕ, List, [], All, Any, true, false, Option, None, Result, Ok, IfErr, codes}
use Rattle.witx_base.specs.Paths.{Path}
use Rattle.witx_files.specs.Files.{Files}
use Rattle.witx_ast.specs.Definitions.{DefinitionTree}
use Rattle.witx_adapt.specs.Adaptable.{IsAdaptable}
use Rattle.witx_adapt.specs.declared.adapted.Adapted.{Adapted}
use Rattle.witx_header.specs.Headers.{header, header_numbers}
use Rattle.witx_commands.specs.Adapting.{Parses}
use Rattle.witx_commands.specs.Reports.{AdaptingFails}
use Rattle.witx_commands.specs.Runs.{IsPrepared, IsWritten, RunInput, SinkSeen, Task}
use Rattle.witx_commands.specs.Stops.{StopsWith}
use Rattle.witx_commands.specs.Words.{paths_of}
use Rattle.witx_commands.specs.declared.output.Output.{Output}
use Rattle.witx_commands.specs.declared.refusal.Stop.{Stop}

-- each number that the header of these definitions asserts fits
abbrev pub NumbersFit : List DefinitionTree → Type 0
NumbersFit ds = All (λ n. n < 2 ^ 64) (header_numbers ds)

-- the files at these paths mean a document that can be adapted and whose header this is
abbrev pub IsHeader : Files → List Path → List ℕ → Type 0
IsHeader files handed text = (ds : List DefinitionTree) × Parses files handed (Ok ds) × IsAdaptable ds × NumbersFit ds × (text ≡ header ds)

-- they mean one that can be adapted, a number of whose header is too large
abbrev pub NumbersFail : Files → List Path → List ℕ → Type 0
NumbersFail files handed report =
    (ds : List DefinitionTree) × Parses files handed (Ok ds) × Any (λ n. 2 ^ 64 ≤ n) (header_numbers ds) × (report ≡ codes "size too large")

abbrev pub HeaderFails : Files → List Path → List ℕ → Type 0
HeaderFails files handed report = AdaptingFails files handed report ⊎ NumbersFail files handed report

-- what ends over these files under these words fails with its cause
abbrev pub StopsAtHeader : {R : Type 0} → Result R Stop → Files → List (List ℕ) → Type 0
StopsAtHeader r files words = IfErr r (StopsWith (HeaderFails files (paths_of words)))

-- they mean one that has a header
abbrev pub HasHeader : Files → List Path → Type 0
HasHeader files handed = (ds : List DefinitionTree) × Parses files handed (Ok ds) × IsAdaptable ds × NumbersFit ds

-- WHAT WORDS ASK OF THE PROGRAM: each is a path. It reads its source and has no notes.
abbrev pub header_task : List (List ℕ) → Task
header_task words = record {
  no_form = None;
  reading = true;
  noting = false;
  adapting = false;
  adapted_paths = [];
  adapted_text = λ a. [];
  bundle = λ left. left;
  Tells = λ files text notes adapted. (notes ≡ []) × (adapted ≡ None) × IsHeader files (paths_of words) text;
  Refuses = λ files report. HeaderFails files (paths_of words) report;
  IsValid = λ files. HasHeader files (paths_of words);
}

-- THE RUN: there is an output, or a reason why there is none, which has its cause in the source; and it is what was written, by
-- the statuses of `witx`. `source_kept`, `out_kept` and `err_kept` say that a device wasn't touched.
pub record IsHeaderRun (i : RunInput) (status : ℕ) (out err : SinkSeen) (source_kept out_kept err_kept : Type 0) : Type 0 where
  pub answer : Result Output Stop
  pub prepared : IsPrepared i answer source_kept
  pub adapted : Option Adapted
  pub written : IsWritten answer status adapted out err out_kept err_kept
