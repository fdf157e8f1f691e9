-- What a call of a generator leaves of the events that it tells, and of its count of faults.
-- A call that is done appends its event, one that refuses appends none. A fault is answered only where the
-- count rose, and every other answer leaves the count as it was.
use Rattle.std.specs.Prelude.{◌≡◌, ◌≤◌, ℕ, List, [], ◌∷◌, ◌++◌, take, Bool, true, false, Option, Some, None, option_map, Result, Ok, Err}
use Rattle.witx_base.specs.Causes.{Rose}
use Rattle.witx_machine.specs.Events.{Event}
use Rattle.witx_machine.specs.declared.surface.Place.{Place}
use Rattle.witx_instructions.specs.declared.bindgen.BindgenError.{BindgenError}
use Rattle.witx_instructions.specs.declared.error.AbiError.{AbiError}
use Rattle.witx_instructions.specs.declared.error.SignatureError.{SignatureError}

-- the events told so far, where they are told, after some more; so too of calls
abbrev pub told_further : {A : Type 0} → Option (List A) → List A → Option (List A)
told_further told es = option_map (λ before. before ++ es) told

-- one more event where the call was done, else none
abbrev pub told_after : {A R E : Type 0} → Result R E → A → Option (List A) → Option (List A)
told_after (Ok r) e told = told_further told (e ∷ [])
told_after (Err x) e told = told

-- the events so far are a front of those that were to come
abbrev pub TellsFront : List Event → Option (List Event) → Option (List Event) → Type 0
TellsFront es before now = (n : ℕ) × (now ≡ told_further before (take n es))

abbrev pub is_fault : {R : Type 0} → Result R BindgenError → Bool
is_fault (Err BindgenError.Failed) = true
is_fault _ = false

abbrev pub is_bindgen_fault : {R : Type 0} → Result R AbiError → Bool
is_bindgen_fault (Err AbiError.BindgenFailed) = true
is_bindgen_fault _ = false

-- the count of faults before a call and after it
abbrev pub Counts : Bool → ℕ → ℕ → Type 0
Counts true before now = (before ≤ now) × Rose before now
Counts false before now = now ≡ before

-- a generator's count of faults after one of its calls
abbrev pub CountsFault : {B R : Type 0} → (faults : B → ℕ) → Result R BindgenError → (before now : B) → Type 0
CountsFault faults r before now = Counts (is_fault r) (faults before) (faults now)

-- and after the calls for a whole plan
abbrev pub CountsPlanFault : {B R : Type 0} → (faults : B → ℕ) → Result R AbiError → (before now : B) → Type 0
CountsPlanFault faults r before now = Counts (is_bindgen_fault r) (faults before) (faults now)

-- the place of a refusal
abbrev pub refused_place : {R : Type 0} → Result R Place → Option Place
refused_place (Ok r) = None
refused_place (Err p) = Some p

abbrev pub unlowerable_place : {R : Type 0} → Result R AbiError → Option Place
unlowerable_place (Err (AbiError.Unlowerable p)) = Some p
unlowerable_place _ = None

abbrev pub signature_place : {R : Type 0} → Result R SignatureError → Option Place
signature_place (Err (SignatureError.Unlowerable p)) = Some p
signature_place _ = None

-- what a generator's refusal becomes
abbrev pub abi_error : BindgenError → AbiError
abi_error BindgenError.Failed = AbiError.BindgenFailed
abi_error BindgenError.OutOfMemory = AbiError.OutOfMemory
