-- Files in memory of which chosen calls fail: what they hold, and which of their calls fail.
-- Calls of all three kinds are numbered together, from 0; a call fails exactly where its number is listed.
use Rattle.std.specs.Prelude.{Bool, true, false, Result, Ok, Err}
use Rattle.witx_base.specs.Calls.{CallCount, counted, fails_next}
use Rattle.witx_files.specs.Files.{Files, Aliases}
use Rattle.witx_files.specs.declared.fault.IoError.{IoError}
use Rattle.witx_files.specs.declared.fault.IoError.TheVariants.{Fault, OutOfMemory}
use Rattle.witx_files.specs.declared.fault.IoFault.TheVariants.{NotFound, LineNotFound, Failed}

-- the files, the aliases, and what is kept of the calls
pub record FailingFiles : Type 0 where
  pub files : Files
  pub aliases : Aliases
  pub calls : CallCount

-- whether the answer is that the call failed
abbrev pub is_failed : {T : Type 0} → Result T IoError → Bool
is_failed (Ok answer) = false
is_failed (Err (Fault Failed)) = true
is_failed (Err (Fault NotFound)) = false
is_failed (Err (Fault LineNotFound)) = false
is_failed (Err OutOfMemory) = false

-- after one more call, nothing but the calls' counts differs
abbrev pub after_call : FailingFiles → FailingFiles
after_call before = record before { calls = counted (fails_next before.calls) before.calls }
