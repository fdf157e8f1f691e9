-- The laws of sizes, alignments and offsets.
use Rattle.std.specs.Prelude.{◌≡◌, ℕ, ◌+◌, ◌-◌, ◌%◌, ◌≤◌, ◌<◌, max}
use Rattle.std.proofs.Common.{arith, inl, inr, refl, ◌∙◌, sym, ap}
use Rattle.std.proofs.Math.Nat.{mod_self, mod-lt, add-mod-mod, mod-add-mod}
use Rattle.witx_ast.specs.Plain.{Plain, plain, Fields, Arms}
use Rattle.witx_ast.specs.Views.{record_tree, variant_tree, members_plain, cases_plain}
use Rattle.witx_ast.proofs.Parts.{record-plain, variant-plain}
use Rattle.witx_ast.specs.declared.types.BuiltinType.{BuiltinType}
use Rattle.witx_ast.specs.declared.types.IntRepr.{IntRepr}
use Rattle.witx_ast.specs.declared.types.RecordKind.{RecordKind}
use Rattle.witx_ast.specs.declared.types.RecordDatatype.{RecordDatatype, out-RecordDatatype}
use Rattle.witx_ast.specs.declared.types.Variant.{Variant, out-Variant}
use Rattle.witx_layout.specs.Laws.{IsPowerOfTwo, IsRoundedUp, IsUnflagged, LieApart, LieInside, AreMultiples}
use Rattle.witx_layout.specs.Numbers.{align_to, align_of, size_of, members_end, offsets, payload_offset, payloads_align, payloads_size, builtin_size, repr_size, unless_flags}
use Rattle.witx_layout.proofs.Alignments.{IsAlignment, alignment-some, type-alignment, members-alignment, repr-alignment, payloads-alignment, max-alignment}
use Rattle.witx_layout.proofs.Onward.{above}

-- what is rounded up is a multiple
pub rounded-multiple : (o a : ℕ) → 0 < a → align_to o a % a ≡ 0
rounded-multiple o a h =
    let whole : o % a + (a - o % a) ≡ a = omega (arith, mod-lt o h) in
    add-mod-mod o (a - o % a) a ∙ sym (mod-add-mod o a (a - o % a)) ∙ ap (λ n. n % a) whole ∙ mod_self a

pub rounded-least : (o a : ℕ) → 0 < a → IsRoundedUp o a (align_to o a)
rounded-least o a h = (rounded-multiple o a h, above o a, omega arith)

to-multiple : (o a : ℕ) → IsAlignment a → align_to o a % a ≡ 0
to-multiple o a p = rounded-multiple o a (alignment-some a p)

pub alignment-power : (n : ℕ) → IsAlignment n → IsPowerOfTwo n
alignment-power n (inl e) = (0, e)
alignment-power n (inr (inl e)) = (1, e)
alignment-power n (inr (inr (inl e))) = (2, e)
alignment-power n (inr (inr (inr e))) = (3, e)

pub alignment-bounds : (n : ℕ) → IsAlignment n → (1 ≤ n) × (n ≤ 8)
alignment-bounds n p = grind (arith, p)

pub align-low : (t : Plain) → 1 ≤ align_of t
align-low t = (alignment-bounds _ (type-alignment t)).0

pub align-high : (t : Plain) → align_of t ≤ 8
align-high t = (alignment-bounds _ (type-alignment t)).1

pub align-power : (t : Plain) → IsPowerOfTwo (align_of t)
align-power t = alignment-power _ (type-alignment t)

builtin-multiple : (b : BuiltinType) → builtin_size b % builtin_size b ≡ 0
builtin-multiple b = mod_self (builtin_size b)

record-multiple : (k : RecordKind) (n a : ℕ) → n % a ≡ 0 → unless_flags k n % unless_flags k a ≡ 0
record-multiple (RecordKind.Bitflags r) n a h = mod_self (repr_size r)
record-multiple RecordKind.Tuple n a h = h
record-multiple RecordKind.Other n a h = h

pub size-multiple : (t : Plain) → size_of t % align_of t ≡ 0
size-multiple (Plain.builtin b) = builtin-multiple b
size-multiple Plain.handle = refl
size-multiple (Plain.list_of t) = refl
size-multiple (Plain.pointer_to t) = refl
size-multiple (Plain.const_pointer_to t) = refl
size-multiple (Plain.record_of kind ms) = record-multiple kind _ _ (to-multiple _ _ (members-alignment ms))
size-multiple (Plain.variant_of repr cs) = to-multiple _ _ (max-alignment _ _ (repr-alignment repr) (payloads-alignment cs))

all-apart : (limit o : ℕ) (ms : Fields) → members_end o ms ≤ limit → LieApart limit o (offsets o ms) ms
all-apart limit o Fields.no_fields h = h
all-apart limit o (Fields.field name t ms) h =
    (above o (align_of t), to-multiple o (align_of t) (type-alignment t), all-apart limit (align_to o (align_of t) + size_of t) ms h)

apart-in : (kind : RecordKind) (ms : Fields) → IsUnflagged kind → LieApart (size_of (Plain.record_of kind ms)) 0 (offsets 0 ms) ms
apart-in (RecordKind.Bitflags r) ms h = absurd h
apart-in RecordKind.Tuple ms h = all-apart _ 0 ms (above _ _)
apart-in RecordKind.Other ms h = all-apart _ 0 ms (above _ _)

pub members-apart : (r : RecordDatatype) → IsUnflagged (out-RecordDatatype r).kind
    → LieApart (size_of (plain (record_tree r))) 0 (offsets 0 (members_plain (out-RecordDatatype r).members)) (members_plain (out-RecordDatatype r).members)
members-apart r h = rw (record-plain r) (apart-in (out-RecordDatatype r).kind (members_plain (out-RecordDatatype r).members) h)

all-multiples : (o : ℕ) (ms : Fields) → AreMultiples (offsets o ms) ms
all-multiples o Fields.no_fields = tt
all-multiples o (Fields.field name t ms) = (to-multiple o (align_of t) (type-alignment t), all-multiples (align_to o (align_of t) + size_of t) ms)

pub members-multiples : (ms : Fields) → AreMultiples (offsets 0 ms) ms
members-multiples ms = all-multiples 0 ms

-- a multiple of the greatest alignment is one of each
multiple-of-less : (o big small : ℕ) → IsAlignment big → IsAlignment small → small ≤ big → o % big ≡ 0 → o % small ≡ 0
multiple-of-less o big small p q l h = grind (arith, p, q)

all-inside : (limit o big : ℕ) (cs : Arms) → IsAlignment big → o % big ≡ 0 → payloads_align cs ≤ big → o + payloads_size cs ≤ limit → LieInside limit o cs
all-inside limit o big Arms.no_arms p m a e = tt
all-inside limit o big (Arms.bare name cs) p m a e = all-inside limit o big cs p m a e
all-inside limit o big (Arms.carries name t cs) p m a e =
    (multiple-of-less o big (align_of t) p (type-alignment t) (omega arith) m, omega arith, all-inside limit o big cs p m (omega arith) (omega arith))

inside-of : (repr : IntRepr) (cs : Arms) → LieInside (size_of (Plain.variant_of repr cs)) (payload_offset repr cs) cs
inside-of repr cs =
    all-inside _ (payload_offset repr cs) (payloads_align cs) cs (payloads-alignment cs)
    (to-multiple (repr_size repr) (payloads_align cs) (payloads-alignment cs)) (omega arith)
    (above (payload_offset repr cs + payloads_size cs) (max (repr_size repr) (payloads_align cs)))

pub payloads-inside : (v : Variant)
    → LieInside (size_of (plain (variant_tree v))) (payload_offset (out-Variant v).tag_repr (cases_plain (out-Variant v).cases)) (cases_plain (out-Variant v).cases)
payloads-inside v = rw (variant-plain v) (inside-of (out-Variant v).tag_repr (cases_plain (out-Variant v).cases))

pub ruleset law_rules = (rounded-least, above, align-low, align-high, align-power, size-multiple, members-apart, members-multiples, payloads-inside)
