-- What the layout numbers promise to whoever places values by them.
use Rattle.std.specs.Prelude.{◌≡◌, ℕ, ◌+◌, ◌%◌, ◌^◌, ◌≤◌, ◌<◌, List, [], ◌∷◌, map}
use Rattle.witx_ast.specs.declared.types.RecordKind.{RecordKind}
use Rattle.witx_ast.specs.declared.types.RecordMember.{RecordMember}
use Rattle.witx_ast.specs.declared.types.RecordDatatype.{RecordDatatype, out-RecordDatatype}
use Rattle.witx_ast.specs.Plain.{Fields, Arms}
use Rattle.witx_ast.specs.Views.{members_plain}
use Rattle.witx_layout.specs.declared.members.RecordMemberLayout.{RecordMemberLayout}
use Rattle.witx_layout.specs.Numbers.{align_of, size_of}

abbrev pub IsPowerOfTwo : ℕ → Type 0
IsPowerOfTwo n = (k : ℕ) × (n ≡ 2 ^ k)

-- the least multiple of the alignment that isn't below the offset
abbrev pub IsRoundedUp : ℕ → ℕ → ℕ → Type 0
IsRoundedUp offset alignment rounded = (rounded % alignment ≡ 0) × (offset ≤ rounded) × (rounded < offset + alignment)

-- a record of no flags, whose members lie in memory one by one
abbrev pub IsUnflagged : RecordKind → Type 0
IsUnflagged (RecordKind.Bitflags repr) = ⊥
IsUnflagged RecordKind.Tuple = Unit {0}
IsUnflagged RecordKind.Other = Unit {0}

-- the members of a record, their names looked through
abbrev pub members_of : RecordDatatype → Fields
members_of record_type = members_plain (out-RecordDatatype record_type).members

-- what is placed are these members, in order
abbrev pub ArePlaced : List RecordMember → List RecordMemberLayout → Type 0
ArePlaced members layouts = map (λ m. m.member.now) layouts ≡ members

-- Each member begins at a multiple of its alignment, and not before the end of the one before it;
-- the first begins at `from` or behind, and the last ends within the limit.
abbrev pub LieApart : (limit from : ℕ) → List ℕ → Fields → Type 0
LieApart limit from [] Fields.no_fields = from ≤ limit
LieApart limit from (begin ∷ begins) (Fields.field name t rest) =
    (from ≤ begin) × (begin % align_of t ≡ 0) × LieApart limit (begin + size_of t) begins rest
LieApart limit from _ _ = ⊥

-- each member begins at a multiple of its alignment
abbrev pub AreMultiples : List ℕ → Fields → Type 0
AreMultiples [] Fields.no_fields = Unit {0}
AreMultiples (begin ∷ begins) (Fields.field name t rest) = (begin % align_of t ≡ 0) × AreMultiples begins rest
AreMultiples _ _ = ⊥

-- each payload, placed at the offset, begins at a multiple of its alignment and ends within the limit
abbrev pub LieInside : (limit offset : ℕ) → Arms → Type 0
LieInside limit offset Arms.no_arms = Unit {0}
LieInside limit offset (Arms.bare name rest) = LieInside limit offset rest
LieInside limit offset (Arms.carries name t rest) =
    (offset % align_of t ≡ 0) × (offset + size_of t ≤ limit) × LieInside limit offset rest
