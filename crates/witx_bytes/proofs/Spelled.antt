-- What is read is spelled: a value of the type, whose image agrees with the bytes.
use Rattle.std.proofs.Common.{◌≡◌, ℕ, zero, suc, ◌+◌, ◌-◌, ◌^◌, Bool, true, false, refl, sym, ap, subst, arith, Option, Some, None, ◌++◌, length, nat_lt}
use Rattle.witx_ast.specs.declared.types.IntRepr.{IntRepr}
use Rattle.witx_ast.specs.declared.types.RecordKind.{RecordKind}
use Rattle.witx_ast.specs.Plain.{Plain, Fields, Arms, field_count, arm_count, all_bare}
use Rattle.witx_ast.specs.Values.{Value, Values, AreValues, IsBareCase, IsCaseWith}
use Rattle.witx_ast.specs.ValueTests.{is_value}
use Rattle.witx_ast.specs.Tags.{AllFit}
use Rattle.witx_ast.proofs.ValueLaws.{value-decides}
use Rattle.witx_ast.proofs.Decided.{decides-lt}
use Rattle.witx_layout.specs.Numbers.{align_to, align_of, builtin_size, repr_size, payload_offset, size_of}
use Rattle.witx_machine.specs.Words.{cut, flags_from}
use Rattle.witx_bytes.specs.Bytes.{Bytes, Agrees, AreBytes}
use Rattle.witx_bytes.specs.Images.{little, gap, padded_to, tag_image, image, members_image, payload_image, Spells}
use Rattle.witx_bytes.specs.Reading.{number_at, flags_at, case_of, variant_at, value_at, members_at, arm_at}
use Rattle.witx_bytes.proofs.Agreement.{agrees-at, agrees-both, padded-agrees, gap-agrees, length-both}
use Rattle.witx_bytes.proofs.Lengths.{image-length, tag-length, gap-to}
use Rattle.witx_bytes.proofs.NumberLaws.{then_some, map_some, when_is, number-stands, flags-long, flags-bits, cut-bytes}
use Rattle.witx_bytes.proofs.ReadBack.{read-back}

-- what a case's payload is, where it has one
abbrev pub CaseSpelled : Arms → ℕ → Option Value → Bytes → ℕ → Type 0
CaseSpelled cs i None m at = IsBareCase cs i
CaseSpelled cs i (Some v) m at = IsCaseWith cs i v × Agrees m at (payload_image cs i v)

bare-spells : (repr : IntRepr) (cs : Arms) (i : ℕ) (v : Value) (m : Bytes) (at : ℕ) → Agrees m at (tag_image repr i) → Agrees m at (padded_to (size_of (Plain.variant_of repr cs)) (tag_image repr i))
bare-spells repr cs i v m at h = padded-agrees m at (size_of (Plain.variant_of repr cs)) (tag_image repr i) h

with-spells : (repr : IntRepr) (cs : Arms) (i : ℕ) (v : Value) (m : Bytes) (at : ℕ) → Agrees m at (tag_image repr i) → Agrees m (at + payload_offset repr cs) (payload_image cs i v) → Agrees m at (image (Plain.variant_of repr cs) (Value.case_with i v))
with-spells repr cs i v m at h k =
    let tag = padded_to (payload_offset repr cs) (tag_image repr i) in
    padded-agrees m at (size_of (Plain.variant_of repr cs)) (tag ++ payload_image cs i v)
    (agrees-both m at tag (payload_image cs i v) (padded-agrees m at (payload_offset repr cs) (tag_image repr i) h) (agrees-at m (payload_image cs i v) (at + payload_offset repr cs) (at + length tag) (ap (λ n. at + n) (sym (tag-length repr cs i))) k))

-- along an equation of values
spells-as : (t : Plain) (m : Bytes) (at : ℕ) (v w : Value) → v ≡ w → Spells m at t v → Spells m at t w
spells-as t m at v w e h = subst (Spells m at t) e h

variant-spells : (repr : IntRepr) (cs : Arms) (i : ℕ) (b : Bool) (p : Option (Option Value)) (v : Value) (m : Bytes) (at : ℕ) → all_bare cs ≡ b → Agrees m at (tag_image repr i) → variant_at b (arm_count cs) i p ≡ Some v → ((o : Option Value) → p ≡ Some o → CaseSpelled cs i o m (at + payload_offset repr cs)) → Spells m at (Plain.variant_of repr cs) v
variant-spells repr cs i true p v m at e h k f =
    let w = when_is (nat_lt i (arm_count cs)) (Value.enum_index i) v k in
    spells-as (Plain.variant_of repr cs) m at (Value.enum_index i) v w.1 ((e, (decides-lt i (arm_count cs)).0 w.0), bare-spells repr cs i v m at h)
variant-spells repr cs i false p v m at e h k f =
    let w = map_some (case_of i) p v k in
    go w.0 (f w.0 w.1) w.2
  where
    go : (o : Option Value) → CaseSpelled cs i o m (at + payload_offset repr cs) → case_of i o ≡ v → Spells m at (Plain.variant_of repr cs) v
    go None c is = spells-as (Plain.variant_of repr cs) m at (Value.bare_case i) v is ((e, c), bare-spells repr cs i v m at h)
    go (Some u) c is = spells-as (Plain.variant_of repr cs) m at (Value.case_with i u) v is (c.0, with-spells repr cs i u m at h c.1)

mutual
  pub read-spells : (t : Plain) (v : Value) (m : Bytes) (at : ℕ) → AreBytes m → value_at t m at ≡ Some v → Spells m at t v
  read-spells (Plain.builtin b) v m at bytes e =
      let x = then_some _ (number_at (builtin_size b) m at) v e in
      let s = number-stands (builtin_size b) x.0 m at bytes x.1 in
      let w = when_is (is_value (Plain.builtin b) (Value.number b (cut b x.0))) (Value.number b (cut b x.0)) v x.2 in
      spells-as (Plain.builtin b) m at (Value.number b (cut b x.0)) v w.1 ((value-decides (Plain.builtin b) (Value.number b (cut b x.0))).0 w.0, subst (λ n. Agrees m at (little (builtin_size b) n)) (sym (cut-bytes b x.0 s.0)) s.1)
  read-spells Plain.handle v m at bytes e =
      let x = map_some Value.handle_number (number_at 4 m at) v e in
      spells-as Plain.handle m at (Value.handle_number x.0) v x.2 (number-stands 4 x.0 m at bytes x.1)
  read-spells (Plain.list_of t) v m at bytes e =
      let a = then_some _ (number_at 4 m at) v e in
      let l = map_some _ (number_at 4 m (at + 4)) v a.2 in
      let p = number-stands 4 a.0 m at bytes a.1 in
      let q = number-stands 4 l.0 m (at + 4) bytes l.1 in
      spells-as (Plain.list_of t) m at (Value.list_at a.0 l.0) v l.2 ((p.0, q.0), agrees-both m at (little 4 a.0) (little 4 l.0) p.1 q.1)
  read-spells (Plain.pointer_to t) v m at bytes e =
      let x = map_some Value.address (number_at 4 m at) v e in
      spells-as (Plain.pointer_to t) m at (Value.address x.0) v x.2 (number-stands 4 x.0 m at bytes x.1)
  read-spells (Plain.const_pointer_to t) v m at bytes e =
      let x = map_some Value.const_address (number_at 4 m at) v e in
      spells-as (Plain.const_pointer_to t) m at (Value.const_address x.0) v x.2 (number-stands 4 x.0 m at bytes x.1)
  read-spells (Plain.record_of (RecordKind.Bitflags repr) ms) v m at bytes e =
      let x = then_some (flags_at (field_count ms)) (number_at (repr_size repr) m at) v e in
      let s = number-stands (repr_size repr) x.0 m at bytes x.1 in
      let w = when_is (nat_lt x.0 (2 ^ field_count ms)) (Value.flag_bits (flags_from (field_count ms) x.0)) v x.2 in
      spells-as (Plain.record_of (RecordKind.Bitflags repr) ms) m at (Value.flag_bits (flags_from (field_count ms) x.0)) v w.1 (flags-long (field_count ms) x.0, subst (λ n. Agrees m at (little (repr_size repr) n)) (sym (flags-bits (field_count ms) x.0 ((decides-lt _ _).0 w.0))) s.1)
  read-spells (Plain.record_of RecordKind.Tuple ms) v m at bytes e =
      let x = map_some Value.tuple_values (members_at 0 ms m at) v e in
      let s = members-spell 0 ms x.0 m at bytes x.1 in
      spells-as (Plain.record_of RecordKind.Tuple ms) m at (Value.tuple_values x.0) v x.2 (s.0, padded-agrees m at _ (members_image 0 ms x.0) (agrees-at m (members_image 0 ms x.0) (at + 0) at (omega arith) s.1))
  read-spells (Plain.record_of RecordKind.Other ms) v m at bytes e =
      let x = map_some Value.record_values (members_at 0 ms m at) v e in
      let s = members-spell 0 ms x.0 m at bytes x.1 in
      spells-as (Plain.record_of RecordKind.Other ms) m at (Value.record_values x.0) v x.2 (s.0, padded-agrees m at _ (members_image 0 ms x.0) (agrees-at m (members_image 0 ms x.0) (at + 0) at (omega arith) s.1))
  read-spells (Plain.variant_of repr cs) v m at bytes e =
      let i = then_some _ (number_at (repr_size repr) m at) v e in
      let s = number-stands (repr_size repr) i.0 m at bytes i.1 in
      variant-spells repr cs i.0 (all_bare cs) (arm_at cs i.0 m (at + payload_offset repr cs)) v m at refl s.1 i.2 (λ o h. arm-spells cs i.0 o m (at + payload_offset repr cs) bytes h)

  pub members-spell : (end : ℕ) (ms : Fields) (vs : Values) (m : Bytes) (at : ℕ) → AreBytes m → members_at end ms m at ≡ Some vs → AreValues ms vs × Agrees m (at + end) (members_image end ms vs)
  members-spell end Fields.no_fields vs m at bytes e =
      let is : Values.no_values ≡ vs = cc in
      subst (λ vs. AreValues Fields.no_fields vs × Agrees m (at + end) (members_image end Fields.no_fields vs)) is (tt, tt)
  members-spell end (Fields.field name t ms) vs m at bytes e =
      let start = align_to end (align_of t) in
      let v = then_some _ (value_at t m (at + start)) vs e in
      let more = map_some (Values.value_then v.0) (members_at (start + size_of t) ms m at) vs v.2 in
      let own = read-spells t v.0 m (at + start) bytes v.1 in
      let others = members-spell (start + size_of t) ms more.0 m at bytes more.1 in
      let front = gap (start - end) ++ image t v.0 in
      let rest = members_image (start + size_of t) ms more.0 in
      let here : at + start ≡ at + end + length (gap (start - end)) = omega (arith, gap-to end (align_of t)) in
      let there : at + (start + size_of t) ≡ at + end + length front = omega (arith, gap-to end (align_of t), length-both (gap (start - end)) (image t v.0), image-length t v.0 own.0) in
      subst (λ vs. AreValues (Fields.field name t ms) vs × Agrees m (at + end) (members_image end (Fields.field name t ms) vs)) more.2
      ((own.0, others.0), agrees-both m (at + end) front rest (agrees-both m (at + end) (gap (start - end)) (image t v.0) (gap-agrees m (at + end) (start - end)) (agrees-at m (image t v.0) _ _ here own.1)) (agrees-at m rest _ _ there others.1))

  pub arm-spells : (cs : Arms) (i : ℕ) (o : Option Value) (m : Bytes) (at : ℕ) → AreBytes m → arm_at cs i m at ≡ Some o → CaseSpelled cs i o m at
  arm-spells Arms.no_arms i o m at bytes e = absurd (clash e)
    where
      clash : None ≡ Some o → ⊥
      clash e = cc
  arm-spells (Arms.bare name cs) zero o m at bytes e =
      let is : None ≡ o = cc in subst (λ o. CaseSpelled (Arms.bare name cs) zero o m at) is tt
  arm-spells (Arms.bare name cs) (suc i) o m at bytes e = later o (arm-spells cs i o m at bytes e)
    where
      later : (o : Option Value) → CaseSpelled cs i o m at → CaseSpelled (Arms.bare name cs) (suc i) o m at
      later None h = h
      later (Some v) h = h
  arm-spells (Arms.carries name t cs) zero o m at bytes e =
      let x = map_some Some (value_at t m at) o e in
      subst (λ o. CaseSpelled (Arms.carries name t cs) zero o m at) x.2 (read-spells t x.0 m at bytes x.1)
  arm-spells (Arms.carries name t cs) (suc i) o m at bytes e = later o (arm-spells cs i o m at bytes e)
    where
      later : (o : Option Value) → CaseSpelled cs i o m at → CaseSpelled (Arms.carries name t cs) (suc i) o m at
      later None h = h
      later (Some v) h = h

-- READING IS SPELLING, where the type fits its tags
pub reads-exactly : (t : Plain) (v : Value) (m : Bytes) (at : ℕ) → AreBytes m → AllFit t → (value_at t m at ≡ Some v → Spells m at t v) × (Spells m at t v → value_at t m at ≡ Some v)
reads-exactly t v m at bytes f = (read-spells t v m at bytes, λ h. read-back t v m at h.0 f h.1)
