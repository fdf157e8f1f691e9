-- A value of the same reading.
use Rattle.std.specs.Prelude.{◌≡◌}

abbrev pub ReadsAs : {T V : Type 0} → (T → V) → T → T → Type 0
ReadsAs view value made = view made ≡ view value
