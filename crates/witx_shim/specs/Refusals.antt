-- Why the callers of an old function can't be served by a new one: the first of these, in their order, that holds.
use Rattle.std.specs.Prelude.{◌≡◌, ℕ, List, [], ◌∷◌, ◌++◌, map, Bool, true, false, Option, Some, None, option_map, if◌then◌else◌, Result, Ok, Err}
use Rattle.std.specs.List.{list_any}
use Rattle.witx_ast.specs.Tree.{Field}
use Rattle.witx_base.specs.SameBytes.{same_bytes}
use Rattle.witx_ast.specs.contracts.function.AbiPartialEq.TheImpl as abis
use Rattle.witx_machine.specs.declared.surface.Place.{Place}
use Rattle.witx_machine.specs.Functions.{function_of}
use Rattle.witx_machine.specs.Lowerable.{unlowerable}
use Rattle.witx_compat.specs.Polyfills.{MappedFunction, is_fully_compatible}
use Rattle.witx_shim.specs.declared.error.ShimError.{ShimError}

pub data ShimRefusal : Type 0 where
  repeated : List ℕ → ShimRefusal
  not_compatible : ShimRefusal
  other_abi : ShimRefusal
  old_unlowerable : Place → ShimRefusal
  new_unlowerable : Place → ShimRefusal

-- the first of some names that stands before already
abbrev pub repeated_after : List (List ℕ) → List (List ℕ) → Option (List ℕ)
repeated_after before [] = None
repeated_after before (name ∷ names) = if list_any (λ b. same_bytes b name) before then Some name else repeated_after (before ++ name ∷ []) names

-- the first parameter's name that an earlier parameter has
abbrev pub repeated_param : List Field → Option (List ℕ)
repeated_param params = repeated_after [] (map (λ p. p.called) params)

abbrev pub refusal_unless : Bool → ShimRefusal → Option ShimRefusal
refusal_unless true refusal = None
refusal_unless false refusal = Some refusal

-- the first that is there
abbrev pub first_refusal_of : List (Option ShimRefusal) → Option ShimRefusal
first_refusal_of [] = None
first_refusal_of (None ∷ rest) = first_refusal_of rest
first_refusal_of (Some refusal ∷ rest) = Some refusal

-- of what is compared once the parameters' names are distinct
abbrev pub call_refusals : MappedFunction → List (Option ShimRefusal)
call_refusals f =
    refusal_unless (is_fully_compatible f) not_compatible
    ∷ refusal_unless (abis.ghosts.eq f.old.abi f.new.abi) other_abi
    ∷ option_map old_unlowerable (unlowerable (function_of f.old))
    ∷ option_map new_unlowerable (unlowerable (function_of f.new)) ∷ []

-- THE REFUSAL of a mapped function, where there is one
abbrev pub refusal_of : MappedFunction → Option ShimRefusal
refusal_of f = first_refusal_of (option_map repeated (repeated_param f.old.params) ∷ option_map repeated (repeated_param f.new.params) ∷ call_refusals f)

-- an error is this refusal; want of memory may come for any answer
abbrev pub IsShimRefusal : Option ShimRefusal → ShimError → Type 0
IsShimRefusal refusal (ShimError.Repeated name) = refusal ≡ Some (repeated name)
IsShimRefusal refusal ShimError.NotCompatible = refusal ≡ Some not_compatible
IsShimRefusal refusal ShimError.OtherAbi = refusal ≡ Some other_abi
IsShimRefusal refusal (ShimError.OldUnlowerable place) = refusal ≡ Some (old_unlowerable place)
IsShimRefusal refusal (ShimError.NewUnlowerable place) = refusal ≡ Some (new_unlowerable place)
IsShimRefusal refusal ShimError.OutOfMemory = Unit {0}

-- there is no refusal, or an error that is this one
abbrev pub AnswersRefusal : {A : Type 0} → Option ShimRefusal → Result A ShimError → Type 0
AnswersRefusal refusal (Ok made) = refusal ≡ None
AnswersRefusal refusal (Err error) = IsShimRefusal refusal error
