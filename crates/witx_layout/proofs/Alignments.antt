-- Each alignment is 1, 2, 4 or 8.
use Rattle.std.specs.Prelude.{◌≡◌, ℕ, ◌≤◌, ◌<◌, max, ◌⊎◌}
use Rattle.std.proofs.Common.{arith, inl, inr, refl}
use Rattle.witx_ast.specs.declared.types.BuiltinType.{BuiltinType}
use Rattle.witx_ast.specs.declared.types.IntRepr.{IntRepr}
use Rattle.witx_ast.specs.declared.types.RecordKind.{RecordKind}
use Rattle.witx_ast.specs.Words.{repr_builtin}
use Rattle.witx_ast.specs.Plain.{Plain, Fields, Arms}
use Rattle.witx_layout.specs.Numbers.{align_to, align_of, members_align, payloads_align, builtin_size, repr_size, unless_flags}

abbrev pub IsAlignment : ℕ → Type 0
IsAlignment n = (n ≡ 1) ⊎ ((n ≡ 2) ⊎ ((n ≡ 4) ⊎ (n ≡ 8)))

pub max-alignment : (m n : ℕ) → IsAlignment m → IsAlignment n → IsAlignment (max m n)
max-alignment m n p q = grind (arith, p, q)

pub builtin-alignment : (b : BuiltinType) → IsAlignment (builtin_size b)
builtin-alignment BuiltinType.Char = inr (inr (inl refl))
builtin-alignment (BuiltinType.U8 c) = inl refl
builtin-alignment BuiltinType.U16 = inr (inl refl)
builtin-alignment (BuiltinType.U32 c) = inr (inr (inl refl))
builtin-alignment BuiltinType.U64 = inr (inr (inr refl))
builtin-alignment BuiltinType.S8 = inl refl
builtin-alignment BuiltinType.S16 = inr (inl refl)
builtin-alignment BuiltinType.S32 = inr (inr (inl refl))
builtin-alignment BuiltinType.S64 = inr (inr (inr refl))
builtin-alignment BuiltinType.F32 = inr (inr (inl refl))
builtin-alignment BuiltinType.F64 = inr (inr (inr refl))

pub repr-alignment : (r : IntRepr) → IsAlignment (repr_size r)
repr-alignment r = builtin-alignment (repr_builtin r)

pub record-alignment : (k : RecordKind) (n : ℕ) → IsAlignment n → IsAlignment (unless_flags k n)
record-alignment (RecordKind.Bitflags r) n h = repr-alignment r
record-alignment RecordKind.Tuple n h = h
record-alignment RecordKind.Other n h = h

mutual
  pub type-alignment : (t : Plain) → IsAlignment (align_of t)
  type-alignment (Plain.builtin b) = builtin-alignment b
  type-alignment Plain.handle = inr (inr (inl refl))
  type-alignment (Plain.list_of t) = inr (inr (inl refl))
  type-alignment (Plain.pointer_to t) = inr (inr (inl refl))
  type-alignment (Plain.const_pointer_to t) = inr (inr (inl refl))
  type-alignment (Plain.record_of kind ms) = record-alignment kind (members_align ms) (members-alignment ms)
  type-alignment (Plain.variant_of repr cs) = max-alignment _ _ (repr-alignment repr) (payloads-alignment cs)

  pub members-alignment : (ms : Fields) → IsAlignment (members_align ms)
  members-alignment Fields.no_fields = inl refl
  members-alignment (Fields.field name t ms) = max-alignment _ _ (type-alignment t) (members-alignment ms)

  pub payloads-alignment : (cs : Arms) → IsAlignment (payloads_align cs)
  payloads-alignment Arms.no_arms = inl refl
  payloads-alignment (Arms.bare name cs) = payloads-alignment cs
  payloads-alignment (Arms.carries name t cs) = max-alignment _ _ (type-alignment t) (payloads-alignment cs)

pub alignment-some : (n : ℕ) → IsAlignment n → 0 < n
alignment-some n p = grind (arith, p)

pub type-some : (t : Plain) → 0 < align_of t
type-some t = alignment-some _ (type-alignment t)

pub members-some : (ms : Fields) → 0 < members_align ms
members-some ms = alignment-some _ (members-alignment ms)

pub payloads-some : (cs : Arms) → 0 < payloads_align cs
payloads-some cs = alignment-some _ (payloads-alignment cs)

pub repr-some : (r : IntRepr) → 0 < repr_size r
repr-some r = alignment-some _ (repr-alignment r)

-- one alignment, rounded up to another, is at most 8
pub rounded-bound : (o a : ℕ) → IsAlignment o → IsAlignment a → align_to o a ≤ 8
rounded-bound o a p q = grind (arith, p, q)
