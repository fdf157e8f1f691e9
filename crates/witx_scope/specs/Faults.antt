-- The faults that a declaration can have, and the first of a list of checks that fails.
-- A check is what it finds wrong, if anything.
use Rattle.std.specs.Prelude.{ℕ, List, [], ◌∷◌, Option, Some, None}
use Rattle.witx_files.specs.declared.location.Location.{Location}
use Rattle.witx_ast.specs.declared.types.BuiltinType.{BuiltinType}

-- a fault, as its kind, what it names and where it stands
pub data Fault : Type 0 where
  unknown_name : List ℕ → Location → Fault
  recursive : List ℕ → Location → Fault
  name_already_exists : List ℕ → Location → Location → Fault
  wrong_kind_name : List ℕ → List ℕ → List ℕ → Location → Fault
  invalid_repr : BuiltinType → Location → Fault
  abi : List ℕ → Location → Fault
  invalid_union_tag : List ℕ → Location → Fault
  anonymous_record : Location → Fault
  union_size_mismatch : ℕ → ℕ → Location → Fault
  invalid_union_field : List ℕ → List ℕ → Location → Fault
  constant_too_large : List ℕ → ℕ → ℕ → Location → Fault

-- a check: what it finds wrong, if anything
abbrev pub Check : Type 0
Check = Option Fault

-- the first check that fails
abbrev pub first_fault : List Check → Option Fault
first_fault [] = None
first_fault (None ∷ cs) = first_fault cs
first_fault (Some f ∷ cs) = Some f
