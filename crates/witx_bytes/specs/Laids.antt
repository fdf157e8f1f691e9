-- The layout of a type with those of its parts: what is true of it, and what an answer says that gives one.
use Rattle.std.specs.Prelude.{◌≡◌, ℕ, ◌+◌, ◌^◌, ◌≤◌, ◌&&◌, ◌++◌, max, Bool, true, List, [], ◌∷◌, Option, Some, None, option_and_then, slice_get, Result, Ok, Err}
use Rattle.witx_ast.specs.Plain.{Plain, plain, Fields, Arms}
use Rattle.witx_ast.specs.Tags.{fits, fields_fit, arms_fit}
use Rattle.witx_ast.specs.Views.{tree_of, datatype_tree, record_tree, variant_tree, members_plain, cases_plain}
use Rattle.witx_ast.specs.declared.types.Case.{Case}
use Rattle.witx_ast.specs.declared.types.Datatype.{Datatype}
use Rattle.witx_ast.specs.declared.types.RecordDatatype.{RecordDatatype}
use Rattle.witx_ast.specs.declared.types.RecordKind.{RecordKind}
use Rattle.witx_ast.specs.declared.types.RecordMember.{RecordMember}
use Rattle.witx_ast.specs.declared.types.TypeRef.{TypeRef}
use Rattle.witx_ast.specs.declared.types.Variant.{Variant}
use Rattle.witx_layout.specs.Numbers.{size_of, align_of, align_to, members_end, members_align, payloads_size, payloads_align}
use Rattle.witx_layout.specs.declared.members.LayoutError.{LayoutError}
use Rattle.witx_bytes.specs.Payloads.{case_size}
use Rattle.witx_bytes.specs.declared.laid.Laid.{Laid, out-Laid}

-- a layout's numbers, and whether what is laid out fits its tags
abbrev pub Numbers : Laid → (size align : ℕ) → Bool → Type 0
Numbers l size align fit = ((out-Laid l).layout.size ≡ size) × ((out-Laid l).layout.align ≡ align) × ((out-Laid l).fits ≡ fit)

-- each part has its layout: the members of a record but for flags, and the payloads of a variant, with one entry a case
abbrev mutual
  pub PartsLaid : Plain → List Laid → Type 0
  PartsLaid (Plain.builtin b) ls = Unit {0}
  PartsLaid Plain.handle ls = Unit {0}
  PartsLaid (Plain.list_of t) ls = Unit {0}
  PartsLaid (Plain.pointer_to t) ls = Unit {0}
  PartsLaid (Plain.const_pointer_to t) ls = Unit {0}
  PartsLaid (Plain.record_of (RecordKind.Bitflags r) ms) ls = Unit {0}
  PartsLaid (Plain.record_of RecordKind.Tuple ms) ls = MembersLaid ms ls
  PartsLaid (Plain.record_of RecordKind.Other ms) ls = MembersLaid ms ls
  PartsLaid (Plain.variant_of r cs) ls = CasesLaid cs ls

  pub MembersLaid : Fields → List Laid → Type 0
  MembersLaid Fields.no_fields ls = Unit {0}
  MembersLaid (Fields.field name t ms) [] = ⊥
  MembersLaid (Fields.field name t ms) (l ∷ ls) = (Numbers l (size_of t) (align_of t) (fits t) × PartsLaid t (out-Laid l).parts) × MembersLaid ms ls

  pub CasesLaid : Arms → List Laid → Type 0
  CasesLaid Arms.no_arms ls = Unit {0}
  CasesLaid (Arms.bare name cs) [] = ⊥
  CasesLaid (Arms.bare name cs) (l ∷ ls) = CasesLaid cs ls
  CasesLaid (Arms.carries name t cs) [] = ⊥
  CasesLaid (Arms.carries name t cs) (l ∷ ls) = (Numbers l (size_of t) (align_of t) (fits t) × PartsLaid t (out-Laid l).parts) × CasesLaid cs ls

-- it is that of the type
abbrev pub IsLaid : Plain → Laid → Type 0
IsLaid t l = Numbers l (size_of t) (align_of t) (fits t) × PartsLaid t (out-Laid l).parts

-- what it says of a payload, where a case has one
abbrev pub IsCaseLaid : Option TypeRef → Laid → Type 0
IsCaseLaid None l = Numbers l 0 1 true
IsCaseLaid (Some t) l = IsLaid (plain (tree_of t)) l

-- the layout of a type; refused as too large only where a size is from 2^64 on, and want of memory is free
abbrev pub Lays : Plain → Result Laid LayoutError → Type 0
Lays t (Ok l) = IsLaid t l
Lays t (Err LayoutError.TooLarge) = 2 ^ 64 ≤ size_of t
Lays t (Err LayoutError.OutOfMemory) = Unit {0}

-- the same of members: where they end, their greatest alignment, and the layout of each
abbrev pub LaysMembers : Fields → Result Laid LayoutError → Type 0
LaysMembers ms (Ok l) = Numbers l (members_end 0 ms) (members_align ms) (fields_fit ms) × MembersLaid ms (out-Laid l).parts
LaysMembers ms (Err LayoutError.TooLarge) = 2 ^ 64 ≤ members_end 0 ms
LaysMembers ms (Err LayoutError.OutOfMemory) = Unit {0}

-- of a payload
abbrev pub LaysCase : Option TypeRef → Result Laid LayoutError → Type 0
LaysCase o (Ok l) = IsCaseLaid o l
LaysCase o (Err LayoutError.TooLarge) = 2 ^ 64 ≤ case_size o
LaysCase o (Err LayoutError.OutOfMemory) = Unit {0}

-- and of all payloads: the greatest size and alignment
abbrev pub LaysCases : Arms → Result Laid LayoutError → Type 0
LaysCases cs (Ok l) = Numbers l (payloads_size cs) (payloads_align cs) (arms_fit cs) × CasesLaid cs (out-Laid l).parts
LaysCases cs (Err LayoutError.TooLarge) = 2 ^ 64 ≤ payloads_size cs
LaysCases cs (Err LayoutError.OutOfMemory) = Unit {0}

-- what is known of a type, of a payload, of members or of cases, if anything is
abbrev pub KnownOf : Plain → Option Laid → Type 0
KnownOf t None = Unit {0}
KnownOf t (Some l) = IsLaid t l

abbrev pub KnownPayload : Option TypeRef → Option Laid → Type 0
KnownPayload None l = Unit {0}
KnownPayload (Some t) l = KnownOf (plain (tree_of t)) l

abbrev pub KnownFields : Fields → Option Laid → Type 0
KnownFields ms None = Unit {0}
KnownFields ms (Some l) = MembersLaid ms (out-Laid l).parts

abbrev pub KnownArms : Arms → Option Laid → Type 0
KnownArms cs None = Unit {0}
KnownArms cs (Some l) = CasesLaid cs (out-Laid l).parts

-- the same of what the program has
abbrev pub KnownType : TypeRef → Option Laid → Type 0
KnownType t = KnownOf (plain (tree_of t))

abbrev pub KnownDatatype : Datatype → Option Laid → Type 0
KnownDatatype d = KnownOf (plain (datatype_tree d))

abbrev pub KnownRecord : RecordDatatype → Option Laid → Type 0
KnownRecord r = KnownOf (plain (record_tree r))

abbrev pub KnownVariant : Variant → Option Laid → Type 0
KnownVariant v = KnownOf (plain (variant_tree v))

abbrev pub KnownMembers : List RecordMember → Option Laid → Type 0
KnownMembers ms = KnownFields (members_plain ms)

abbrev pub KnownCases : List Case → Option Laid → Type 0
KnownCases cs = KnownArms (cases_plain cs)

-- what is known of a part, if anything is known of the whole
abbrev pub part_known : Option Laid → ℕ → Option Laid
part_known whole i = option_and_then (λ l. slice_get (out-Laid l).parts i) whole

-- members with one more behind them
abbrev pub MemberAdded : (whole part : Laid) → Result Laid LayoutError → Type 0
MemberAdded whole part (Ok l) =
    Numbers l (align_to (out-Laid whole).layout.size (out-Laid part).layout.align + (out-Laid part).layout.size)
    (max (out-Laid whole).layout.align (out-Laid part).layout.align) ((out-Laid whole).fits && (out-Laid part).fits)
    × ((out-Laid l).parts ≡ (out-Laid whole).parts ++ part ∷ [])
MemberAdded whole part (Err LayoutError.TooLarge) = 2 ^ 64 ≤ align_to (out-Laid whole).layout.size (out-Laid part).layout.align + (out-Laid part).layout.size
MemberAdded whole part (Err LayoutError.OutOfMemory) = Unit {0}

-- payloads with one more beside them
abbrev pub CaseAdded : (whole part l : Laid) → Type 0
CaseAdded whole part l =
    Numbers l (max (out-Laid whole).layout.size (out-Laid part).layout.size)
    (max (out-Laid whole).layout.align (out-Laid part).layout.align) ((out-Laid whole).fits && (out-Laid part).fits)
    × ((out-Laid l).parts ≡ (out-Laid whole).parts ++ part ∷ [])
