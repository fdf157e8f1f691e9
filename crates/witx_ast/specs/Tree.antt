-- What a type is, with its names and its documentation.
use Rattle.std.specs.Prelude.{ℕ, List, [], ◌∷◌, Option, Some, None}
use Rattle.witx_ast.specs.declared.types.BuiltinType.{BuiltinType}
use Rattle.witx_ast.specs.declared.types.IntRepr.{IntRepr}
use Rattle.witx_ast.specs.declared.types.RecordKind.{RecordKind}

mutual
  pub data Tree : Type 0 where
    -- a name, the type that it stands for, and its documentation
    named : List ℕ → Tree → List ℕ → Tree
    builtin : BuiltinType → Tree
    handle : Tree
    list_of : Tree → Tree
    pointer_to : Tree → Tree
    const_pointer_to : Tree → Tree
    record_of : RecordKind → Fields → Tree
    variant_of : IntRepr → Arms → Tree

  -- the members of a record: name, type and documentation
  pub data Fields : Type 0 where
    no_fields : Fields
    field : List ℕ → Tree → List ℕ → Fields → Fields

  -- the cases of a variant: name, payload if there is one, and documentation
  pub data Arms : Type 0 where
    no_arms : Arms
    bare : List ℕ → List ℕ → Arms → Arms
    carries : List ℕ → Tree → List ℕ → Arms → Arms

-- one member, and one case
pub record Field : Type 0 where
  pub called : List ℕ
  pub tree : Tree
  pub comment : List ℕ

pub record Arm : Type 0 where
  pub called : List ℕ
  pub payload : Option Tree
  pub comment : List ℕ

abbrev pub arm : List ℕ → Option Tree → List ℕ → Arms → Arms
arm name None docs rest = bare name docs rest
arm name (Some t) docs rest = carries name t docs rest

abbrev pub fields_of : List Field → Fields
fields_of [] = no_fields
fields_of (m ∷ ms) = field m.called m.tree m.comment (fields_of ms)

abbrev pub arms_of : List Arm → Arms
arms_of [] = no_arms
arms_of (c ∷ cs) = arm c.called c.payload c.comment (arms_of cs)

-- the type behind all names
abbrev pub behind : Tree → Tree
behind (named name t docs) = behind t
behind (builtin b) = builtin b
behind handle = handle
behind (list_of t) = list_of t
behind (pointer_to t) = pointer_to t
behind (const_pointer_to t) = const_pointer_to t
behind (record_of kind ms) = record_of kind ms
behind (variant_of repr cs) = variant_of repr cs

-- the cases, in order
abbrev pub arm_list : Arms → List Arm
arm_list no_arms = []
arm_list (bare name docs cs) = record { called = name; payload = None; comment = docs } ∷ arm_list cs
arm_list (carries name t docs cs) = record { called = name; payload = Some t; comment = docs } ∷ arm_list cs
