-- What a command asks for is lawful, be it one of `run` or a tool; and what words that have a form of `run` ask of both calls.
use Rattle.std.specs.Prelude.{◌≡◌, ℕ, List, Bool, true, false, Option, Some, None, Result, IsTrue, option_map, if◌then◌else◌}
use Rattle.std.proofs.Common.{refl, sym, subst}
use Rattle.witx_adapt.specs.declared.adapted.Adapted.{Adapted}
use Rattle.witx_commands.specs.Causes.{IsOutput, IsValidFor}
use Rattle.witx_commands.specs.Laws.{OutputOrRefusal, ValidIsNotRefused}
use Rattle.witx_commands.specs.Reports.{CommandRefuses}
use Rattle.witx_commands.specs.Runs.{IsPrepared, IsRun, SinkSeen, Task, command_task, form_task, task_with}
use Rattle.witx_commands.specs.Words as asked
use Rattle.witx_commands.specs.Streams.{SourceSeen}
use Rattle.witx_commands.specs.Words.{Asked, asked_by, asked_of, command_of, if_known, is_adapting, is_of_run}
use Rattle.witx_commands.specs.declared.forms.Forms.TheVariants as forms
use Rattle.witx_commands.specs.declared.output.Output.{Output}
use Rattle.witx_commands.specs.declared.refusal.Stop.{Stop}
use Rattle.witx_commands.specs.declared.words.Command.{Command}
use Rattle.witx_commands.proofs.Ending.{IsLawful}
use Rattle.witx_commands.proofs.Exclusion.{reading-bytes}
use Rattle.witx_commands.proofs.Preparing.{of-read}
use Rattle.witx_commands.proofs.Running.{commands-lawful}
use Rattle.witx_tools.specs.ToolCauses.{IsValidForTool, ToolRefuses}
use Rattle.witx_tools.specs.ToolLaws.{AllKnowCommands, OthersAreTools, RunsAlike, ValidIsNotRefusedByTools}
use Rattle.witx_tools.specs.ToolRuns.{OfEither, ToolTells, any_task, task_of_all}
use Rattle.witx_tools.proofs.Excluded.{output-valid}

-- ---- words that have a form, as it was read

pub of-any : (words : List (List ℕ)) (s : SourceSeen) (answer : Result Output Stop) (source_kept : Type 0) (read : Option Command) (c : Command)
    → read ≡ Some c → option_map asked_by read ≡ command_of forms.All words → IsPrepared (record { task = any_task (asked_by c); source = s }) answer source_kept
    → IsPrepared (record { task = task_of_all words; source = s }) answer source_kept
of-any words s answer source_kept read c is same p = of-read forms.All any_task (command_of forms.All words) s answer source_kept read c is same p

pub ruleset form_rules = (of-any)

-- ---- what either asks for is lawful

tool-lists-none : (c : Asked) → is_of_run c ≡ false → is_adapting c ≡ true → ⊥
tool-lists-none (asked.adapt words) e i = absurd (cc)
tool-lists-none (asked.sample n) e i = absurd (cc)
tool-lists-none _ e i = absurd (cc)

abbrev task-at : Bool → Asked → Task
task-at b c = task_with (λ d files text notes adapted. OfEither b (IsOutput d files text notes adapted) (ToolTells d files text notes adapted))
    (λ d files report. OfEither b (CommandRefuses d files report) (ToolRefuses d files report)) (λ d files. OfEither b (IsValidFor d files) (IsValidForTool d files)) c

lawful-at : OutputOrRefusal → ValidIsNotRefused → ValidIsNotRefusedByTools → (c : Asked) (b : Bool) → is_of_run c ≡ b → IsLawful (task-at b c)
lawful-at output valid law c true e = commands-lawful output valid c
lawful-at output valid law c false e = record {
  silent = λ known h. absurd (cc);
  read = λ reads left. reading-bytes c left reads;
  quiet = λ files text notes adapted o n. absurd (n o.0);
  value = λ files text notes a o. let none : Some a ≡ None = o.1 in absurd (cc);
  valued = λ files text notes adapted adapts o. absurd (tool-lists-none c e adapts);
  excluded = λ bytes files others here there text notes report adapted o h. law bytes files others here there c report (output-valid c others text o.2) h;
  valid = λ bytes files others here there report v h. law bytes files others here there c report v h;
}

pub any-lawful : OutputOrRefusal → ValidIsNotRefused → ValidIsNotRefusedByTools → (c : Asked) → IsLawful (any_task c)
any-lawful output valid law c = lawful-at output valid law c (is_of_run c) refl

-- ---- words that have a form of `run`

known-of : (b : Bool) (d c : Asked) → is_of_run d ≡ b → (if b then Some d else None) ≡ Some c → (Some d ≡ Some c) × (is_of_run c ≡ true)
known-of true d c h e = let same : d ≡ c = cc in (e, subst (λ (x : Asked). is_of_run x ≡ true) same h)
known-of false d c h e = absurd (cc)

known-both : (o : Option Asked) (c : Asked) → if_known forms.Commands o ≡ Some c → (if_known forms.All o ≡ Some c) × (is_of_run c ≡ true)
known-both None c e = absurd (cc)
known-both (Some d) c e = known-of (is_of_run d) d c refl e

pub all-know-commands : AllKnowCommands
all-know-commands words c e = known-both (asked_of words) c e

unknown-of : (b : Bool) (d c : Asked) → is_of_run d ≡ b → Some d ≡ Some c → (if b then Some d else None) ≡ None → is_of_run c ≡ false
unknown-of true d c h s e = absurd (cc)
unknown-of false d c h s e = let same : d ≡ c = cc in subst (λ (x : Asked). is_of_run x ≡ false) same h

known-alone : (o : Option Asked) (c : Asked) → if_known forms.All o ≡ Some c → if_known forms.Commands o ≡ None → is_of_run c ≡ false
known-alone None c s e = absurd (cc)
known-alone (Some d) c s e = unknown-of (is_of_run d) d c refl s e

pub others-are-tools : OthersAreTools
others-are-tools words c s e = known-alone (asked_of words) c s e

-- a command of `run` asks the same of both
alike : (c : Asked) → is_of_run c ≡ true → (source : SourceSeen) (status : ℕ) (value : Option Adapted) (out err : SinkSeen) (k l m : Bool)
    → IsRun (record { task = any_task c; source = source }) status value out err (IsTrue k) (IsTrue l) (IsTrue m)
    → IsRun (record { task = command_task c; source = source }) status value out err (IsTrue k) (IsTrue l) (IsTrue m)
alike (asked.shim two) e source status value out err k l m h = absurd (cc)
alike (asked.verify own) e source status value out err k l m h = absurd (cc)
alike (asked.invoke n own) e source status value out err k l m h = absurd (cc)
alike (asked.imports own) e source status value out err k l m h = absurd (cc)
alike _ e source status value out err k l m h = h

pub runs-alike : RunsAlike
runs-alike words c e source status value out err k l m h =
    let both = known-both (asked_of words) c e in
    let Ran : Task → Type 0 = λ t. IsRun (record { task = t; source = source }) status value out err (IsTrue k) (IsTrue l) (IsTrue m) in
    let there : Ran (any_task c) = subst (λ (o : Option Asked). Ran (form_task forms.All any_task o)) both.0 h in
    subst (λ (o : Option Asked). Ran (form_task forms.Commands command_task o)) (sym e) (alike c both.1 source status value out err k l m there)
