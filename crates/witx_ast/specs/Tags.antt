-- Which types fit their tags: flags that fit into their representation, cases whose numbers fit into their tag.
use Rattle.std.specs.Prelude.{ℕ, ◌≤◌, ◌^◌, List, Bool, true, nat_le, ◌&&◌, [], ◌∷◌}
use Rattle.witx_ast.specs.declared.types.IntRepr.{IntRepr}
use Rattle.witx_ast.specs.declared.types.RecordKind.{RecordKind}
use Rattle.witx_ast.specs.Tree.{Field}
use Rattle.witx_ast.specs.Plain.{Plain, plain, Fields, Arms, field_count, arm_count}
use Rattle.witx_ast.specs.Functions.{FunctionTree}

abbrev pub repr_bits : IntRepr → ℕ
repr_bits IntRepr.U8 = 8
repr_bits IntRepr.U16 = 16
repr_bits IntRepr.U32 = 32
repr_bits IntRepr.U64 = 64

-- n flags fit: at most the bits of the representation
abbrev pub FlagsFit : RecordKind → ℕ → Type 0
FlagsFit (RecordKind.Bitflags repr) n = n ≤ repr_bits repr
FlagsFit RecordKind.Tuple n = Unit {0}
FlagsFit RecordKind.Other n = Unit {0}

-- one type fits its tag: cases are at most the values of the tag, and at most 2^32
abbrev pub NodeFits : Plain → Type 0
NodeFits (Plain.record_of kind ms) = FlagsFit kind (field_count ms)
NodeFits (Plain.variant_of repr cs) = (arm_count cs ≤ 2 ^ repr_bits repr) × (arm_count cs ≤ 2 ^ 32)
NodeFits _ = Unit {0}

-- each type that is reached fits its tag; the targets of lists and pointers aren't entered
abbrev mutual
  pub AllFit : Plain → Type 0
  AllFit (Plain.record_of kind ms) = NodeFits (Plain.record_of kind ms) × AllFieldsFit ms
  AllFit (Plain.variant_of repr cs) = NodeFits (Plain.variant_of repr cs) × AllArmsFit cs
  AllFit _ = Unit {0}

  pub AllFieldsFit : Fields → Type 0
  AllFieldsFit Fields.no_fields = Unit {0}
  AllFieldsFit (Fields.field name t ms) = AllFit t × AllFieldsFit ms

  pub AllArmsFit : Arms → Type 0
  AllArmsFit Arms.no_arms = Unit {0}
  AllArmsFit (Arms.bare name cs) = AllArmsFit cs
  AllArmsFit (Arms.carries name t cs) = AllFit t × AllArmsFit cs

-- the types of all parameters, or of all results
abbrev pub AllTypesFit : List Field → Type 0
AllTypesFit [] = Unit {0}
AllTypesFit (p ∷ ps) = AllFit (plain p.tree) × AllTypesFit ps

-- a function fits its tags
abbrev pub FunctionFits : FunctionTree → Type 0
FunctionFits f = AllTypesFit f.params × AllTypesFit f.results

-- The same as tests that compute.
abbrev pub flags_fit : RecordKind → ℕ → Bool
flags_fit (RecordKind.Bitflags repr) n = nat_le n (repr_bits repr)
flags_fit RecordKind.Tuple n = true
flags_fit RecordKind.Other n = true

abbrev pub node_fits : Plain → Bool
node_fits (Plain.record_of kind ms) = flags_fit kind (field_count ms)
node_fits (Plain.variant_of repr cs) = nat_le (arm_count cs) (2 ^ repr_bits repr) && nat_le (arm_count cs) (2 ^ 32)
node_fits _ = true

abbrev mutual
  pub fits : Plain → Bool
  fits (Plain.record_of kind ms) = node_fits (Plain.record_of kind ms) && fields_fit ms
  fits (Plain.variant_of repr cs) = node_fits (Plain.variant_of repr cs) && arms_fit cs
  fits _ = true

  pub fields_fit : Fields → Bool
  fields_fit Fields.no_fields = true
  fields_fit (Fields.field name t ms) = fits t && fields_fit ms

  pub arms_fit : Arms → Bool
  arms_fit Arms.no_arms = true
  arms_fit (Arms.bare name cs) = arms_fit cs
  arms_fit (Arms.carries name t cs) = fits t && arms_fit cs

abbrev pub types_fit : List Field → Bool
types_fit [] = true
types_fit (p ∷ ps) = fits (plain p.tree) && types_fit ps

abbrev pub function_fits : FunctionTree → Bool
function_fits f = types_fit f.params && types_fit f.results
