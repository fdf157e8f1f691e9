-- What each command asks for is lawful, by the laws of commands: its output is never refused, nor are valid files, and each value of an
-- output is listed in it.
use Rattle.std.specs.Prelude.{◌≡◌, ℕ, List, [], true, Option, Some, None, IsSome}
use Rattle.std.proofs.Common.{refl}
use Rattle.witx_files.specs.Files.{Files}
use Rattle.witx_adapt.specs.declared.adapted.Adapted.{Adapted}
use Rattle.witx_commands.specs.Causes.{IsOutput}
use Rattle.witx_commands.specs.Laws.{OutputOrRefusal, ValidIsNotRefused}
use Rattle.witx_commands.specs.Runs.{Task, command_task, form_task, formless}
use Rattle.witx_commands.specs.Words as asked
use Rattle.witx_commands.specs.Words.{Asked, is_adapting, is_noting}
use Rattle.witx_commands.specs.declared.forms.Forms.{Forms}
use Rattle.witx_commands.proofs.Ending.{IsLawful, IsListed}
use Rattle.witx_commands.proofs.Exclusion.{reading-bytes}

listed-output : (c : Asked) (files : Files) (text notes : List ℕ) (a : Adapted) → IsOutput c files text notes (Some a)
    → IsListed (command_task c) files text a
unfolding IsOutput
listed-output (asked.adapt words) files text notes a (n, h) = record { adapting = refl; meant = h.0; parts = h.1; listed = h.2 }
listed-output (asked.print words) files text notes a h = let none = h.1 in absurd (cc)
listed-output (asked.layouts words) files text notes a h = let none = h.1 in absurd (cc)
listed-output (asked.docs words) files text notes a h = let none = h.0 in absurd (cc)
listed-output (asked.polyfill two) files text notes a h = let none = h.1 in absurd (cc)
listed-output (asked.sample n) files text notes a (none, h) = record { adapting = refl; meant = h.0; parts = h.1; listed = h.2 }
listed-output _ files text notes a h = absurd h

-- the output of a command that adapts has a value
has-value : (c : Asked) (files : Files) (text notes : List ℕ) (adapted : Option Adapted) → is_adapting c ≡ true
    → IsOutput c files text notes adapted → IsSome adapted
unfolding IsOutput
has-value c files text notes (Some a) i h = refl
has-value (asked.adapt words) files text notes None i h = absurd h.1
has-value (asked.sample n) files text notes None i h = absurd h.1
has-value _ files text notes None i h = absurd (cc)

-- a command with notes
has-notes : (c : Asked) (files : Files) (text notes : List ℕ) (adapted : Option Adapted) → IsOutput c files text notes adapted → (notes ≡ [] → ⊥)
    → is_noting c ≡ true
unfolding IsOutput
has-notes (asked.adapt words) files text notes adapted o n = absurd (n o.0)
has-notes (asked.print words) files text notes adapted o n = absurd (n o.0)
has-notes (asked.layouts words) files text notes adapted o n = absurd (n o.0)
has-notes (asked.docs words) files text notes adapted o n = refl
has-notes (asked.polyfill two) files text notes adapted o n = absurd (n o.0)
has-notes (asked.sample k) files text notes adapted o n = absurd (n o.0)
has-notes _ files text notes adapted o n = absurd o

pub commands-lawful : OutputOrRefusal → ValidIsNotRefused → (c : Asked) → IsLawful (command_task c)
commands-lawful output valid c = record {
  silent = λ known h. absurd (cc);
  read = λ reads left. reading-bytes c left reads;
  quiet = λ files text notes adapted o n. has-notes c files text notes adapted o n;
  value = λ files text notes a o. listed-output c files text notes a o;
  valued = λ files text notes adapted adapts o. has-value c files text notes adapted adapts o;
  excluded = λ bytes files others here there text notes report adapted o h. output bytes files others here there c text notes report adapted o h;
  valid = λ bytes files others here there report v h. valid bytes files others here there c report v h;
}

formless-lawful : (known : Forms) → IsLawful (formless known)
formless-lawful known = record {
  silent = λ other h. record { unread = refl; unrefused = λ files report h. h; invalid = λ files h. h };
  read = λ reads left. refl;
  quiet = λ files text notes adapted o n. absurd o;
  value = λ files text notes a o. absurd o;
  valued = λ files text notes adapted adapts o. absurd o;
  excluded = λ bytes files others here there text notes report adapted o h. o;
  valid = λ bytes files others here there report v h. v;
}

-- of all words
pub form-lawful : (known : Forms) (task : Asked → Task) → ((c : Asked) → IsLawful (task c)) → (form : Option Asked) → IsLawful (form_task known task form)
form-lawful known task law None = formless-lawful known
form-lawful known task law (Some c) = law c
