-- What is so of a run: what its words ask for, when it refuses or has its output, with which status it ends, and what it has
-- written then. It is said once, of whatever the words ask for: what the commands of `run` tell stands here, what the others tell above.
use Rattle.std.specs.Prelude.{◌≡◌, ◌==◌, ◌<◌, ◌≤◌, ◌+◌, ◌⊎◌, ℕ, List, [], All, Bool, true, false, Option, None, Some, Result, Ok, Err, IfSome, IsSome, if◌then◌else◌}
use Rattle.std.specs.Io.KnownBytes.{Appends}
use Rattle.witx_base.specs.Causes.{Rose}
use Rattle.witx_base.specs.Paths.{Path}
use Rattle.witx_files.specs.Files.{Files}
use Rattle.witx_bundle.specs.Bundles.{IsRead}
use Rattle.witx_bundle.specs.declared.error.BundleError.{BundleError}
use Rattle.witx_layout.specs.Layouts.{all_layouts}
use Rattle.witx_adapt.specs.Entries.{IsFaithful}
use Rattle.witx_adapt.specs.declared.adapted.Adapted.{Adapted}
use Rattle.witx_commands.specs.Adapting.{HasEntries, defined}
use Rattle.witx_commands.specs.Causes.{IsCause, IsMeaning, IsOutput, IsValidFor, IsBundle, adapted_text}
use Rattle.witx_commands.specs.Reports.{CommandRefuses}
use Rattle.witx_commands.specs.Streams.{BrokeOff, Finished, NoFault, SourceSeen, TookInput, TookPrefix, source_seen}
use Rattle.witx_commands.specs.Texts.{IsRefused, status_of, text_of}
use Rattle.witx_commands.specs.Words.{Asked, adapted_paths, bundle_bytes, command_of, is_adapting, is_noting, reads_source}
use Rattle.witx_commands.specs.declared.forms.Forms.{Forms}
use Rattle.witx_commands.specs.declared.forms.Forms.TheVariants as forms
use Rattle.witx_commands.specs.declared.output.Output.{Output}
use Rattle.witx_commands.specs.declared.refusal.Refusal.{Refusal}
use Rattle.witx_commands.specs.declared.refusal.Refusal.TheVariants as refusal
use Rattle.witx_commands.specs.declared.refusal.Stop.{Stop}
use Rattle.witx_commands.specs.declared.refusal.Stop.TheVariants as stop

-- ---- what words ask for

pub record Task : Type 1 where
  -- where they have no form: the forms that are told then
  pub no_form : Option Forms
  -- whether it works on the bundle of its source
  pub reading : Bool
  -- whether it notes on the second sink what its output lacks
  pub noting : Bool
  -- whether it writes what it makes of an adapted document: of the files at these paths, this text
  pub adapting : Bool
  pub adapted_paths : List Path
  pub adapted_text : Adapted → List ℕ
  -- the bytes of the bundle that it works on, where they are told, by those that the source has left
  pub bundle : Option (List ℕ) → Option (List ℕ)
  -- over the files of that bundle: the text that it writes, its notes, and the value that it lists
  pub Tells : Files → (text notes : List ℕ) → Option Adapted → Type 0
  -- that it refuses them, with this report
  pub Refuses : Files → (report : List ℕ) → Type 0
  -- that they are valid for it
  pub IsValid : Files → Type 0

-- that of a command, by what it tells over files, when it refuses them, and which are valid for it
abbrev pub task_with : (Asked → Files → (text notes : List ℕ) → Option Adapted → Type 0)
    → (Asked → Files → List ℕ → Type 0) → (Asked → Files → Type 0)
    → Asked → Task
task_with Tells Refuses IsValid c = record {
  no_form = None;
  reading = reads_source c;
  noting = is_noting c;
  adapting = is_adapting c;
  adapted_paths = adapted_paths c;
  adapted_text = adapted_text c;
  bundle = bundle_bytes c;
  Tells = λ files text notes adapted. Tells c files text notes adapted;
  Refuses = λ files report. Refuses c files report;
  IsValid = λ files. IsValid c files;
}

-- that of a command of `run`
abbrev pub command_task : Asked → Task
command_task c = task_with IsOutput CommandRefuses IsValidFor c

-- words without a form
abbrev pub formless : Forms → Task
formless known = record {
  no_form = Some known;
  reading = false;
  noting = false;
  adapting = false;
  adapted_paths = [];
  adapted_text = λ a. [];
  bundle = λ left. left;
  Tells = λ files text notes adapted. ⊥;
  Refuses = λ files report. ⊥;
  IsValid = λ files. ⊥;
}

-- that of a command, or that of words that have none of the forms that are known
abbrev pub form_task : Forms → (Asked → Task) → Option Asked → Task
form_task known task None = formless known
form_task known task (Some c) = task c

-- WHAT WORDS ASK OF `run`
abbrev pub task_of : List (List ℕ) → Task
task_of words = form_task forms.Commands command_task (command_of forms.Commands words)

-- ---- what a run is given, and why it refuses

-- what its words ask for, and its source
pub record RunInput : Type 1 where
  pub task : Task
  pub source : SourceSeen

-- with a source, by what is told of it
abbrev pub run_input : {S : Type 0} → Task → (S → Option (List ℕ)) → (faults reads : S → ℕ) → (old new : S) → RunInput
run_input task left faults reads old new = record { task = task; source = source_seen left faults reads old new }

-- the bytes of the bundle that it works on
abbrev pub input_bytes : RunInput → Option (List ℕ)
input_bytes i = i.task.bundle i.source.left

-- what is so where a run refuses
abbrev pub Cause : RunInput → Refusal → Type 0
Cause i (refusal.Usage known) = (i.task.no_form ≡ Some known) × NoFault i.source
Cause i refusal.Source = (i.task.reading ≡ true) × BrokeOff i.source
Cause i (refusal.Bundle e) = (i.task.reading ≡ true) × NoFault i.source × IsCause e × IsBundle (input_bytes i) (Err e)
Cause i (refusal.Command report) =
    NoFault i.source × (files : Files) × IsBundle (input_bytes i) (Ok files) × i.task.Refuses files report

-- why a run has no output
abbrev pub StopCause : RunInput → Stop → Type 0
StopCause i (stop.Refused r) = Cause i r
StopCause i stop.OutOfMemory = NoFault i.source

-- what is so where a run has its output: the source, if it is read, was read to its end; there is a bundle, and the output
-- is over its files
pub record IsAnswered (i : RunInput) (text notes : List ℕ) (adapted : Option Adapted) : Type 0 where
  pub finished : i.task.reading ≡ true → Finished i.source.left i.source.left_after
  pub no_fault : NoFault i.source
  pub files : Files
  pub bundle : IsBundle (input_bytes i) (Ok files)
  pub output : i.task.Tells files text notes adapted

abbrev pub AnswerCause : RunInput → Result Output Stop → Type 0
AnswerCause i (Ok o) = IsAnswered i o.text o.notes o.adapted
AnswerCause i (Err s) = StopCause i s

-- WHAT A RUN IS TO WRITE, or why there is nothing: before anything is written. `source_kept` says that the source wasn't
-- touched.
pub record IsPrepared (i : RunInput) (answer : Result Output Stop) (source_kept : Type 0) : Type 0 where
  pub cause : AnswerCause i answer
  pub usage : (known : Forms) → i.task.no_form ≡ Some known → answer ≡ Err (stop.Refused (refusal.Usage known))
  pub nothing_read : i.task.reading ≡ false → source_kept
  pub later : i.source.before ≤ i.source.now
  pub reads : i.source.asked_after ≤ i.source.asked + 4194305
  pub taken : TookInput i.source

-- ---- the sinks

-- a sink before and after a run: which bytes it has taken, where it tells them, and its count of faults
pub record SinkSeen : Type 0 where
  pub taken : Option (List ℕ)
  pub taken_after : Option (List ℕ)
  pub before : ℕ
  pub now : ℕ

-- by what is told of it
abbrev pub sink_seen : {K : Type 0} → (K → Option (List ℕ)) → (K → ℕ) → (old new : K) → SinkSeen
sink_seen taken faults old new = record { taken = taken old; taken_after = taken new; before = faults old; now = faults new }

-- it took this whole text, and a part of it from its front
abbrev pub Took : SinkSeen → List ℕ → Type 0
Took s text = Appends s.taken s.taken_after text

abbrev pub TookFront : SinkSeen → List ℕ → Type 0
TookFront s text = TookPrefix s.taken s.taken_after text

-- Its count of faults rose.
abbrev pub Failed : SinkSeen → Type 0
Failed s = Rose s.before s.now

-- an output was written, its text and then its notes, and its value is kept where both were written whole
pub record WroteOutput (o : Output) (status : ℕ) (adapted : Option Adapted) (out err : SinkSeen)
    (err_kept : Type 0) : Type 0 where
  pub ended : (status ≡ 0) ⊎ (status ≡ 4)
  pub done : status ≡ 0 → Took out o.text × Took err o.notes
  pub kept : adapted ≡ (if status == 0 then o.adapted else None)
  pub unwritten : status ≡ 4 → (Failed out × (TookFront out o.text × (o.text ≡ [] → ⊥)) × err_kept)
      ⊎ (Failed err × TookFront err o.notes × (o.notes ≡ [] → ⊥) × Took out o.text)
  pub untouched : o.notes ≡ [] → err_kept

-- the words had no form
abbrev pub IsUsage : Refusal → Type 0
IsUsage (refusal.Usage known) = Unit {0}
IsUsage _ = ⊥

-- where a run ends with the status of its refusal, a sink took the whole text that is told of it
abbrev pub ToldWhole : {K : Type 0} → Refusal → (status : ℕ) → (taken : K → Option (List ℕ)) → (old new : K) → Type 0
ToldWhole r status taken old new = status ≡ status_of r → Appends (taken old) (taken new) (text_of r)

-- what is told of a refusal was written
pub record WroteRefusal (r : Refusal) (status : ℕ) (adapted : Option Adapted) (err : SinkSeen)
    (out_kept : Type 0) : Type 0 where
  pub ended : IsRefused (status_of r) status
  pub usage : IsUsage r → (status ≡ 2) ⊎ (status ≡ 4)
  pub told : status ≡ status_of r → Took err (text_of r)
  pub unwritten : status ≡ 4 → Failed err × TookFront err (text_of r)
  pub none : adapted ≡ None
  pub untouched : out_kept

-- there was no memory
pub record WroteNothing (status : ℕ) (adapted : Option Adapted) (out_kept err_kept : Type 0) : Type 0 where
  pub ended : status ≡ 5
  pub none : adapted ≡ None
  pub out_untouched : out_kept
  pub err_untouched : err_kept

abbrev pub WroteAnswer : Result Output Stop → (status : ℕ) → Option Adapted → (out err : SinkSeen)
    → (out_kept err_kept : Type 0) → Type 0
WroteAnswer (Ok o) status adapted out err out_kept err_kept = WroteOutput o status adapted out err err_kept
WroteAnswer (Err (stop.Refused r)) status adapted out err out_kept err_kept = WroteRefusal r status adapted err out_kept
WroteAnswer (Err stop.OutOfMemory) status adapted out err out_kept err_kept =
    WroteNothing status adapted out_kept err_kept

-- WHAT IS WRITTEN OF AN ANSWER. `out_kept` and `err_kept` say that a sink wasn't touched.
pub record IsWritten (answer : Result Output Stop) (status : ℕ) (adapted : Option Adapted) (out err : SinkSeen)
    (out_kept err_kept : Type 0) : Type 0 where
  pub wrote : WroteAnswer answer status adapted out err out_kept err_kept
  pub out_failed : out.before < out.now → status ≡ 4
  pub err_failed : err.before < err.now → status ≡ 4
  pub no_memory : status ≡ 5 → out_kept × err_kept
  pub out_later : out.before ≤ out.now
  pub err_later : err.before ≤ err.now

-- ---- the run

-- a status with which something is told
abbrev pub IsTold : ℕ → Type 0
IsTold status = (status ≡ 0 → ⊥) × (status ≡ 4 → ⊥) × (status ≡ 5 → ⊥)

-- THE RUN: its status, the value that it hands back, and its sinks. `source_kept`, `out_kept` and `err_kept` say that a
-- device wasn't touched.
pub record IsRun (i : RunInput) (status : ℕ) (value : Option Adapted) (out err : SinkSeen)
    (source_kept out_kept err_kept : Type 0) : Type 0 where
  -- 0: it has its output, and has written it whole
  pub done : status ≡ 0 → (text : List ℕ) × (notes : List ℕ) × IsAnswered i text notes value
      × Took out text × Took err notes × (notes ≡ [] → err_kept)
  -- the value is what was listed or summed up: the document that the files of the bundle mean, with one entry for each
  -- function, exact layouts, and pairs of traces each of which is faithful
  pub listing : IfSome value (λ a. Took out (i.task.adapted_text a))
  pub document : IfSome value (λ a. IsMeaning (input_bytes i) i.task.adapted_paths (defined a))
  pub functions : IfSome value HasEntries
  pub layouts : IfSome value (λ a. a.layouts ≡ all_layouts (defined a))
  pub faithful : IfSome value (λ a. All IsFaithful a.functions)
  -- it is there exactly at status 0 of what lists an adapted document
  pub adapted : IsSome value → (status ≡ 0) × (i.task.adapting ≡ true)
  pub listed : status ≡ 0 → i.task.adapting ≡ true → IsSome value
  -- words without a form, and what doesn't work on its source's bundle
  pub usage : (known : Forms) → i.task.no_form ≡ Some known → (status ≡ 2) ⊎ (status ≡ 4)
  pub nothing_read : i.task.reading ≡ false → source_kept
  -- a status with which something is told: its refusal has its cause, and its text is written
  pub told : IsTold status → (r : Refusal) × (status_of r ≡ status) × Cause i r × Took err (text_of r) × out_kept
  -- the bytes are no bundle
  pub no_bundle : (bytes : List ℕ) (e : BundleError) → i.task.reading ≡ true → i.source.left ≡ Some bytes → IsCause e
      → IsRead bytes (Err e) → (BrokeOff i.source → ⊥) → IsRefused 6 status
  -- the files are refused
  pub refused : (bytes : List ℕ) (files : Files) (report : List ℕ) → input_bytes i ≡ Some bytes
      → IsRead bytes (Ok files) → i.task.Refuses files report → (BrokeOff i.source → ⊥) → IsRefused 1 status
  -- the files are valid, and no device fails
  pub complete : (bytes : List ℕ) (files : Files) → input_bytes i ≡ Some bytes → IsRead bytes (Ok files)
      → i.task.IsValid files → (BrokeOff i.source → ⊥) → (Failed out → ⊥) → (i.task.noting ≡ true → Failed err → ⊥)
      → (status ≡ 0) ⊎ (status ≡ 5)
  -- none of the refusals has its cause, and no device fails
  pub unrefused : ((r : Refusal) → Cause i r → ⊥) → (Failed out → ⊥) → (i.task.noting ≡ true → Failed err → ⊥)
      → (status ≡ 0) ⊎ (status ≡ 5)
  -- 4: a sink failed for which there was a text, and holds a prefix of it; the other isn't touched, unless it already has
  -- its whole text
  pub unwritten : status ≡ 4 →
      (Failed out × err_kept × (text : List ℕ) × (notes : List ℕ) × (a : Option Adapted) × IsAnswered i text notes a
      × (TookFront out text × (text ≡ [] → ⊥)))
      ⊎ (Failed err × (text : List ℕ) × (notes : List ℕ) × (a : Option Adapted) × (notes ≡ [] → ⊥)
      × IsAnswered i text notes a × Took out text × TookFront err notes)
      ⊎ (Failed err × out_kept × (r : Refusal) × Cause i r × TookFront err (text_of r))
  -- once a count rose
  pub source_failed : i.source.before < i.source.now → IsRefused 3 status
  pub out_failed : out.before < out.now → status ≡ 4
  pub err_failed : err.before < err.now → status ≡ 4
  -- 5: nothing is written
  pub no_memory : status ≡ 5 → out_kept × err_kept
  -- however it ends
  pub source_later : i.source.before ≤ i.source.now
  pub out_later : out.before ≤ out.now
  pub err_later : err.before ≤ err.now
  pub reads : i.source.asked_after ≤ i.source.asked + 4194305
  pub taken : TookInput i.source
