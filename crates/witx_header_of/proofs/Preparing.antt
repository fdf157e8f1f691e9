-- What a run is to write: over files, and where there are none.
use Rattle.std.specs.Prelude.{◌≡◌, ℕ, ◌≤◌, ◌+◌, List, [], Option, None, Some, Result, Ok, Err, IfErr, IfOk}
use Rattle.std.proofs.Common.{refl, sym, subst}
use Rattle.witx_files.specs.Files.{Files}
use Rattle.witx_commands.specs.Causes.{InputCause, IsBundle, stop_of}
use Rattle.witx_commands.specs.Runs.{AnswerCause, IsPrepared, RunInput, StopCause}
use Rattle.witx_commands.specs.Stops.{StopsWith}
use Rattle.witx_commands.specs.Streams.{Finished, NoFault, SourceSeen, TookInput}
use Rattle.witx_commands.specs.Words.{paths_of}
use Rattle.witx_commands.specs.declared.input.InputError.{InputError}
use Rattle.witx_commands.specs.declared.input.InputError.TheVariants as input
use Rattle.witx_commands.specs.declared.output.Output.{Output}
use Rattle.witx_commands.specs.declared.refusal.Stop.{Stop}
use Rattle.witx_commands.specs.declared.refusal.Stop.TheVariants as stop
use Rattle.witx_commands.specs.declared.refusal.Refusal.TheVariants as refusal
use Rattle.witx_header_of.specs.HeaderRuns.{HeaderFails, IsHeader, header_task}

abbrev pub asked : List (List ℕ) → SourceSeen → RunInput
asked words s = record { task = header_task words; source = s }

-- what is so of it, by its cause
by-cause : (words : List (List ℕ)) (s : SourceSeen) (kept : Type 0) (answer : Result Output Stop) → s.before ≤ s.now → s.asked_after ≤ s.asked + 4194305 → TookInput s
    → AnswerCause (asked words s) answer → IsPrepared (asked words s) answer kept
by-cause words s kept answer later reads taken c = record {
  cause = c;
  usage = λ known h. absurd (cc);
  nothing_read = λ h. absurd (cc);
  later = later;
  reads = reads;
  taken = taken;
}

stop-cause : (words : List (List ℕ)) (s : SourceSeen) (files : Files) (end : Stop) → NoFault s → IsBundle s.left (Ok files)
    → StopsWith (HeaderFails files (paths_of words)) end → StopCause (asked words s) end
stop-cause words s files (stop.Refused (refusal.Usage known)) n b k = absurd k
stop-cause words s files (stop.Refused refusal.Source) n b k = absurd k
stop-cause words s files (stop.Refused (refusal.Bundle e)) n b k = absurd k
stop-cause words s files (stop.Refused (refusal.Command report)) n b k = (n, files, b, k)
stop-cause words s files stop.OutOfMemory n b k = n

answer-cause : (words : List (List ℕ)) (s : SourceSeen) (files : Files) (answer : Result Output Stop) → Finished s.left s.left_after → NoFault s → IsBundle s.left (Ok files)
    → IfOk answer (λ o. (o.notes ≡ []) × (o.adapted ≡ None) × IsHeader files (paths_of words) o.text)
    → IfErr answer (StopsWith (HeaderFails files (paths_of words))) → AnswerCause (asked words s) answer
answer-cause words s files (Ok o) f n b t k = record { finished = λ reads. f; no_fault = n; files = files; bundle = b; output = t }
answer-cause words s files (Err end) f n b t k = stop-cause words s files end n b k

pub over-files : (words : List (List ℕ)) (s : SourceSeen) (kept : Type 0) (files : Files) (answer : Result Output Stop) → s.before ≤ s.now → s.asked_after ≤ s.asked + 4194305 → TookInput s
    → Finished s.left s.left_after → NoFault s → IsBundle s.left (Ok files)
    → IfOk answer (λ o. (o.notes ≡ []) × (o.adapted ≡ None) × IsHeader files (paths_of words) o.text)
    → IfErr answer (StopsWith (HeaderFails files (paths_of words))) → IsPrepared (asked words s) answer kept
over-files words s kept files answer later reads taken f n b t k =
    by-cause words s kept answer later reads taken (answer-cause words s files answer f n b t k)

input-cause : (words : List (List ℕ)) (s : SourceSeen) (e : InputError) → InputCause s e → StopCause (asked words s) (stop_of e)
input-cause words s input.Source h = (refl, h)
input-cause words s (input.Bundle b) h = (refl, h.0, h.1, h.2)
input-cause words s input.OutOfMemory h = h

pub without-files : (words : List (List ℕ)) (s : SourceSeen) (kept : Type 0) (e : InputError) (end : Stop) → end ≡ stop_of e → InputCause s e
    → s.before ≤ s.now → s.asked_after ≤ s.asked + 4194305 → TookInput s → IsPrepared (asked words s) (Err end) kept
without-files words s kept e end same h later reads taken =
    by-cause words s kept (Err end) later reads taken (subst (StopCause (asked words s)) (sym same) (input-cause words s e h))
