-- When copies are equal to what they are copies of.
use Rattle.std.specs.Prelude.{Bool, IsTrue}

-- by this test of equality, every copy equals its original
abbrev pub EqualCopies : {T : Type 0} → (T → T → Type 0) → (T → T → Bool) → Type 0
EqualCopies {T} is_copy equal = (original copy : T) → is_copy original copy → IsTrue (equal copy original)
