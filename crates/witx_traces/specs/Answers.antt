-- What a reader answers: something that fits, or nothing, where nothing fits.
use Rattle.std.specs.Prelude.{Option, Some, None}

pub record Never {X : Type 0} (P : X → Type 0) : Type 0 where
  pub none : (x : X) → P x → ⊥

abbrev pub Answered : {X : Type 0} → (X → Type 0) → Option X → Type 0
Answered P None = Never P
Answered P (Some x) = P x
