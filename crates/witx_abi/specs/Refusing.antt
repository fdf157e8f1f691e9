-- What is so of a call for a function that can't be lowered.
use Rattle.std.specs.Prelude.{◌≡◌, Result, IsSome}
use Rattle.witx_machine.specs.Functions.{Function}
use Rattle.witx_machine.specs.Lowerable.{unlowerable}
use Rattle.witx_instructions.specs.declared.error.AbiError.{AbiError}
use Rattle.witx_instructions.specs.Told.{unlowerable_place}

-- it is refused as one that can't be lowered exactly where the function can't be, for the same place
abbrev pub RefusesUnlowered : {R : Type 0} → Function → Result R AbiError → Type 0
RefusesUnlowered f r = unlowerable_place r ≡ unlowerable f

-- where the function can't be lowered, what is handed to the call stays as it was
abbrev pub IsUntouchedIfUnlowerable : {B : Type 0} → Function → (before now : B) → Type 0
IsUntouchedIfUnlowerable f before now = IsSome (unlowerable f) → now ≡ before
