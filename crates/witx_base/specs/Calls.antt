-- The calls that a device in memory was made to refuse, named by their numbers, from 0.
-- What the device keeps of its calls: those numbers, the number of the next call, and the faults so far.
use Rattle.std.specs.Prelude.{ℕ, List, Bool, ◌==◌, if◌then◌else◌}
use Rattle.std.specs.List.{list_any}
use Rattle.witx_base.specs.Causes.{one_more}

pub record CallCount : Type 0 where
  pub fails : List ℕ
  pub next : ℕ
  pub faults : ℕ

-- no call yet
abbrev pub no_calls : List ℕ → CallCount
no_calls fails = record { fails = fails; next = 0; faults = 0 }

-- whether a number is among those of the list
abbrev pub is_listed : List ℕ → ℕ → Bool
is_listed fails call = list_any (λ listed. listed == call) fails

-- whether the next call is one of those to refuse
abbrev pub fails_next : CallCount → Bool
fails_next calls = is_listed calls.fails calls.next

-- after one more call, which failed or not
abbrev pub counted : Bool → CallCount → CallCount
counted failed calls = record calls { next = one_more calls.next; faults = (if failed then one_more calls.faults else calls.faults) }
