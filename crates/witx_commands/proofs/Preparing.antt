-- The files that a command works on, or why there are none, by those of its source's bundle; of a source that isn't read nothing is
-- taken. And what a run is to write, by what whatever its words ask for says of the files.
use Rattle.std.specs.Prelude.{◌≡◌, ℕ, ◌≤◌, ◌+◌, List, true, false, Option, None, Some, Result, Ok, Err, IfErr, IfOk, option_map}
use Rattle.std.proofs.Common.{refl, subst, sym, ap, ◌∙◌}
use Rattle.witx_files.specs.Files.{Files}
use Rattle.witx_commands.specs.Causes.{FilesCause, InputCause, IsBundle, stop_of}
use Rattle.witx_commands.specs.Runs.{AnswerCause, IsPrepared, RunInput, StopCause, Task, command_task, form_task, formless, input_bytes, task_of}
use Rattle.witx_commands.specs.Stops.{StopsWith}
use Rattle.witx_commands.specs.Streams.{Finished, NoFault, SourceSeen, TookInput}
use Rattle.witx_commands.specs.Words.{Asked, asked_by, bundle_bytes, command_of, reads_source}
use Rattle.witx_commands.specs.declared.forms.Forms.{Forms}
use Rattle.witx_commands.specs.declared.forms.Forms.TheVariants as forms
use Rattle.witx_commands.specs.declared.words.Command.{Command}
use Rattle.witx_commands.specs.declared.input.InputError.{InputError}
use Rattle.witx_commands.specs.declared.input.InputError.TheVariants as input
use Rattle.witx_commands.specs.declared.output.Output.{Output}
use Rattle.witx_commands.specs.declared.refusal.Stop.{Stop}
use Rattle.witx_commands.specs.declared.refusal.Stop.TheVariants as stop
use Rattle.witx_commands.specs.declared.refusal.Refusal.TheVariants as refusal
use Rattle.witx_commands.proofs.ReadThrough.{took-nothing}

pub files-caused : (c : Asked) (s : SourceSeen) (e : InputError) → reads_source c ≡ true → bundle_bytes c s.left ≡ s.left
    → InputCause s e → FilesCause c s e
files-caused c s input.Source reads same h = (reads, h)
files-caused c s (input.Bundle b) reads same h = (reads, h.0, h.1, subst (λ l. IsBundle l (Err b)) (sym same) h.2)
files-caused c s input.OutOfMemory reads same h = h

pub ruleset file_rules = (files-caused, took-nothing)

-- words that have a form
no-usage : {P : Type 0} (form : Option Forms) (known : Forms) → form ≡ None → form ≡ Some known → P
no-usage form known n s = let none : None ≡ Some known = sym n ∙ s in absurd (cc)

module _ (i : RunInput) (source_kept : Type 0) (formed : i.task.no_form ≡ None) (kept : i.task.reading ≡ false → source_kept)
    (later : i.source.before ≤ i.source.now) (reads : i.source.asked_after ≤ i.source.asked + 4194305) (taken : TookInput i.source) where
  by-cause : (answer : Result Output Stop) → AnswerCause i answer → IsPrepared i answer source_kept
  by-cause answer c = record {
    cause = c;
    usage = λ known h. no-usage i.task.no_form known formed h;
    nothing_read = kept;
    later = later;
    reads = reads;
    taken = taken;
  }

  -- without files
  pub unread-prepared : (s : Stop) → StopCause i s → IsPrepared i (Err s) source_kept
  unread-prepared s c = by-cause (Err s) c

  refuses-cause : (files : Files) (s : Stop) → NoFault i.source → IsBundle (input_bytes i) (Ok files) → StopsWith (i.task.Refuses files) s → StopCause i s
  refuses-cause files (stop.Refused (refusal.Usage known)) n b k = absurd k
  refuses-cause files (stop.Refused refusal.Source) n b k = absurd k
  refuses-cause files (stop.Refused (refusal.Bundle e)) n b k = absurd k
  refuses-cause files (stop.Refused (refusal.Command report)) n b k = (n, files, b, k)
  refuses-cause files stop.OutOfMemory n b k = n

  answer-cause : (files : Files) (answer : Result Output Stop) → (i.task.reading ≡ true → Finished i.source.left i.source.left_after) → NoFault i.source
      → IsBundle (input_bytes i) (Ok files) → IfOk answer (λ o. i.task.Tells files o.text o.notes o.adapted) → IfErr answer (StopsWith (i.task.Refuses files)) → AnswerCause i answer
  answer-cause files (Ok o) f n b t k = record { finished = f; no_fault = n; files = files; bundle = b; output = t }
  answer-cause files (Err s) f n b t k = refuses-cause files s n b k

  -- over files
  pub answer-prepared : (files : Files) (answer : Result Output Stop) → (i.task.reading ≡ true → Finished i.source.left i.source.left_after) → NoFault i.source
      → IsBundle (input_bytes i) (Ok files) → IfOk answer (λ o. i.task.Tells files o.text o.notes o.adapted) → IfErr answer (StopsWith (i.task.Refuses files))
      → IsPrepared i answer source_kept
  answer-prepared files answer f n b t k = by-cause answer (answer-cause files answer f n b t k)

same-usage : (known other : Forms) → Some known ≡ Some other
    → ◌≡◌ {A = Result Output Stop} (Err (stop.Refused (refusal.Usage known))) (Err (stop.Refused (refusal.Usage other)))
same-usage known other h = cc

-- words without a form, of which nothing is read
pub formless-prepared : (known : Forms) (s : SourceSeen) (source_kept : Type 0) → source_kept → NoFault s → s.before ≤ s.now
    → s.asked_after ≤ s.asked + 4194305 → TookInput s
    → IsPrepared (record { task = formless known; source = s }) (Err (stop.Refused (refusal.Usage known))) source_kept
formless-prepared known s source_kept k n later reads taken = record {
  cause = (refl, n);
  usage = λ other h. same-usage known other h;
  nothing_read = λ none. k;
  later = later;
  reads = reads;
  taken = taken;
}

-- ---- commands

-- a command for which there are no files, whatever it asks for beside them
pub command-unread : (i : RunInput) (c : Asked) (source_kept : Type 0) → i.task.no_form ≡ None → i.task.reading ≡ reads_source c → i.task.bundle ≡ bundle_bytes c
    → (e : InputError) (end : Stop) → end ≡ stop_of e → FilesCause c i.source e → (reads_source c ≡ false → source_kept) → i.source.before ≤ i.source.now
    → i.source.asked_after ≤ i.source.asked + 4194305 → TookInput i.source → IsPrepared i (Err end) source_kept
command-unread i c source_kept formed reading bundle e end same h kept later reads taken =
    unread-prepared i source_kept formed (λ none. kept (sym reading ∙ none)) later reads taken end (subst (StopCause i) (sym same) (by-error e h))
  where
    by-error : (e : InputError) → FilesCause c i.source e → StopCause i (stop_of e)
    by-error input.Source h = (reading ∙ h.0, h.1)
    by-error (input.Bundle b) h = (reading ∙ h.0, h.1, h.2, subst (λ (f : Option (List ℕ) → Option (List ℕ)). IsBundle (f i.source.left) (Err b)) (sym bundle) h.3)
    by-error input.OutOfMemory h = h

-- words that have the form of a command, as it was read, and words of none
module _ (known : Forms) (task : Asked → Task) (form : Option Asked) (s : SourceSeen) (answer : Result Output Stop) (source_kept : Type 0) where
  pub of-read : (read : Option Command) (c : Command) → read ≡ Some c → option_map asked_by read ≡ form
      → IsPrepared (record { task = task (asked_by c); source = s }) answer source_kept
      → IsPrepared (record { task = form_task known task form; source = s }) answer source_kept
  of-read read c is same p =
      subst (λ (o : Option Asked). IsPrepared (record { task = form_task known task o; source = s }) answer source_kept) (sym (ap (option_map asked_by) is) ∙ same) p

  pub of-none : None ≡ form → IsPrepared (record { task = formless known; source = s }) answer source_kept
      → IsPrepared (record { task = form_task known task form; source = s }) answer source_kept
  of-none is p = subst (λ (o : Option Asked). IsPrepared (record { task = form_task known task o; source = s }) answer source_kept) is p

pub of-command : (words : List (List ℕ)) (s : SourceSeen) (answer : Result Output Stop) (source_kept : Type 0) (read : Option Command) (c : Command)
    → read ≡ Some c → option_map asked_by read ≡ command_of forms.Commands words → IsPrepared (record { task = command_task (asked_by c); source = s }) answer source_kept
    → IsPrepared (record { task = task_of words; source = s }) answer source_kept
of-command words s answer source_kept read c is same p = of-read forms.Commands command_task (command_of forms.Commands words) s answer source_kept read c is same p

pub ruleset form_rules = (of-command)
