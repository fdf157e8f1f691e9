-- The generator that fails at listed calls.
use Rattle.std.specs.Prelude.{ℕ}
use Rattle.witx_instructions.specs.declared.failing.FailingBindgen.{FailingBindgen}

-- how many calls of it have failed
abbrev pub failed_count : FailingBindgen → ℕ
failed_count bindgen = bindgen.calls.faults
