-- Bytes that agree with the image of a value are read as that value, where the type fits its tags. So they spell at most one.
use Rattle.std.proofs.Common.{◌≡◌, ℕ, zero, suc, ◌+◌, ◌-◌, ◌^◌, ◌<◌, ◌≤◌, Bool, true, false, refl, sym, ap, ◌∙◌, subst, arith, Option, Some, None, option_map, option_and_then, ◌++◌, length}
use Rattle.witx_ast.specs.declared.types.BuiltinType.{BuiltinType}
use Rattle.witx_ast.specs.declared.types.IntRepr.{IntRepr}
use Rattle.witx_ast.specs.declared.types.RecordKind.{RecordKind}
use Rattle.witx_ast.specs.Plain.{Plain, Fields, Arms, field_count, arm_count, all_bare}
use Rattle.witx_ast.specs.Values.{Value, Values, IsValue, AreValues, IsBareCase, IsCaseWith, InRange}
use Rattle.witx_ast.specs.ValueTests.{is_value}
use Rattle.witx_ast.specs.Tags.{AllFit, AllFieldsFit, AllArmsFit, repr_bits}
use Rattle.witx_ast.proofs.ValueLaws.{value-decides}
use Rattle.witx_ast.proofs.Decided.{decides-lt}
use Rattle.witx_layout.specs.Numbers.{align_to, align_of, builtin_size, repr_size, payload_offset, size_of}
use Rattle.witx_machine.specs.Words.{wrapped, cut, checked_value, bits_of_flags, when}
use Rattle.witx_bytes.specs.Bytes.{Bytes, Agrees}
use Rattle.witx_bytes.specs.Images.{little, gap, padded_to, tag_image, image, members_image, payload_image, Spells}
use Rattle.witx_bytes.specs.Reading.{number_at, list_read_at, flags_at, case_of, variant_at, value_at, members_at, arm_at}
use Rattle.witx_bytes.proofs.Agreement.{agrees-at, agrees-left, agrees-right, length-both}
use Rattle.witx_bytes.proofs.Lengths.{image-length, tag-length, gap-to}
use Rattle.witx_bytes.proofs.NumberLaws.{number-back, repr-modulus, flags-back, flags-below, flags-fit, wrapped-below, cut-back}

pub when-true : {A : Type 0} (b : Bool) (o : Option A) → b ≡ true → when b o ≡ o
when-true b o h = ap (λ b. when b o) h

builtin-read : (b k : BuiltinType) (n : _) → k ≡ b → InRange b n → is_value (Plain.builtin b) (Value.number b n) ≡ true
builtin-read b k n e h = (value-decides (Plain.builtin b) (Value.number b n)).1 (refl, h)

-- cases and their numbers
pub bare-below : (cs : Arms) (i : ℕ) → IsBareCase cs i → i < arm_count cs
bare-below Arms.no_arms i h = absurd h
bare-below (Arms.bare name cs) zero h = omega arith
bare-below (Arms.bare name cs) (suc i) h = omega (arith, bare-below cs i h)
bare-below (Arms.carries name t cs) zero h = absurd h
bare-below (Arms.carries name t cs) (suc i) h = omega (arith, bare-below cs i h)

pub with-below : (cs : Arms) (i : ℕ) (v : Value) → IsCaseWith cs i v → i < arm_count cs
with-below Arms.no_arms i v h = absurd h
with-below (Arms.bare name cs) zero v h = absurd h
with-below (Arms.bare name cs) (suc i) v h = omega (arith, with-below cs i v h)
with-below (Arms.carries name t cs) zero v h = omega arith
with-below (Arms.carries name t cs) (suc i) v h = omega (arith, with-below cs i v h)

pub with-payload : (cs : Arms) (i : ℕ) (v : Value) → IsCaseWith cs i v → all_bare cs ≡ false
with-payload Arms.no_arms i v h = absurd h
with-payload (Arms.bare name cs) zero v h = absurd h
with-payload (Arms.bare name cs) (suc i) v h = with-payload cs i v h
with-payload (Arms.carries name t cs) i v h = refl

bare-arm : (cs : Arms) (i : ℕ) (m : Bytes) (at : ℕ) → IsBareCase cs i → arm_at cs i m at ≡ Some None
bare-arm Arms.no_arms i m at h = absurd h
bare-arm (Arms.bare name cs) zero m at h = refl
bare-arm (Arms.bare name cs) (suc i) m at h = bare-arm cs i m at h
bare-arm (Arms.carries name t cs) zero m at h = absurd h
bare-arm (Arms.carries name t cs) (suc i) m at h = bare-arm cs i m at h

-- the tag
tag-read : (repr : IntRepr) (cs : Arms) (i : ℕ) (m : Bytes) (at : ℕ) → (arm_count cs ≤ 2 ^ repr_bits repr) → i < arm_count cs → Agrees m at (tag_image repr i) → number_at (repr_size repr) m at ≡ Some i
tag-read repr cs i m at f lt h = number-back (repr_size repr) i m at (omega (arith, f, lt, repr-modulus repr)) h

pub variant-read : (repr : IntRepr) (cs : Arms) (i : ℕ) (m : Bytes) (at : ℕ) (v : Value) → number_at (repr_size repr) m at ≡ Some i → variant_at (all_bare cs) (arm_count cs) i (arm_at cs i m (at + payload_offset repr cs)) ≡ Some v → value_at (Plain.variant_of repr cs) m at ≡ Some v
variant-read repr cs i m at v h k = ap (option_and_then (λ i. variant_at (all_bare cs) (arm_count cs) i (arm_at cs i m (at + payload_offset repr cs)))) h ∙ k

mutual
  pub read-back : (t : Plain) (v : Value) (m : Bytes) (at : ℕ) → IsValue t v → AllFit t → Agrees m at (image t v) → value_at t m at ≡ Some v
  read-back (Plain.builtin b) (Value.number k n) m at h f a =
      ap (option_and_then (λ x. checked_value (Plain.builtin b) (Value.number b (cut b x)))) (number-back (builtin_size b) (wrapped (256 ^ builtin_size b) n) m at (wrapped-below b n) a)
      ∙ ap (λ n. checked_value (Plain.builtin b) (Value.number b n)) (cut-back b n h.1)
      ∙ when-true _ _ (builtin-read b k n h.0 h.1) ∙ ap (λ b. Some (Value.number b n)) (sym h.0)
  read-back Plain.handle (Value.handle_number n) m at h f a = ap (option_map Value.handle_number) (number-back 4 n m at h a)
  read-back (Plain.list_of t) (Value.list_at p l) m at h f a =
      ap (λ x. list_read_at x (number_at 4 m (at + 4))) (number-back 4 p m at h.0 (agrees-left m at (little 4 p) (little 4 l) a))
      ∙ ap (λ y. list_read_at (Some p) y) (number-back 4 l m (at + 4) h.1 (agrees-right m at (little 4 p) (little 4 l) a))
  read-back (Plain.pointer_to t) (Value.address n) m at h f a = ap (option_map Value.address) (number-back 4 n m at h a)
  read-back (Plain.const_pointer_to t) (Value.const_address n) m at h f a = ap (option_map Value.const_address) (number-back 4 n m at h a)
  read-back (Plain.record_of (RecordKind.Bitflags repr) ms) (Value.flag_bits bits) m at h f a =
      let long : length bits ≤ repr_bits repr = subst (λ n. n ≤ repr_bits repr) (sym h) f.0 in
      let few : bits_of_flags bits < 2 ^ field_count ms = subst (λ n. bits_of_flags bits < 2 ^ n) h (flags-below bits) in
      ap (option_and_then (flags_at (field_count ms))) (number-back (repr_size repr) (bits_of_flags bits) m at (flags-fit repr bits long) a)
      ∙ when-true _ _ ((decides-lt _ _).1 few) ∙ ap (λ bs. Some (Value.flag_bits bs)) (flags-back bits (field_count ms) (sym h))
  read-back (Plain.record_of RecordKind.Tuple ms) (Value.tuple_values vs) m at h f a =
      ap (option_map Value.tuple_values) (members-back 0 ms vs m at h f.1 (agrees-at m (members_image 0 ms vs) at (at + 0) (omega arith) (agrees-left m at (members_image 0 ms vs) _ a)))
  read-back (Plain.record_of RecordKind.Other ms) (Value.record_values vs) m at h f a =
      ap (option_map Value.record_values) (members-back 0 ms vs m at h f.1 (agrees-at m (members_image 0 ms vs) at (at + 0) (omega arith) (agrees-left m at (members_image 0 ms vs) _ a)))
  read-back (Plain.variant_of repr cs) (Value.enum_index i) m at h f a =
      variant-read repr cs i m at (Value.enum_index i) (tag-read repr cs i m at f.0.0 h.1 (agrees-left m at (tag_image repr i) _ a))
      (ap (λ b. variant_at b (arm_count cs) i (arm_at cs i m (at + payload_offset repr cs))) h.0 ∙ when-true _ _ ((decides-lt _ _).1 h.1))
  read-back (Plain.variant_of repr cs) (Value.bare_case i) m at h f a =
      variant-read repr cs i m at (Value.bare_case i) (tag-read repr cs i m at f.0.0 (bare-below cs i h.1) (agrees-left m at (tag_image repr i) _ a))
      (ap (λ b. variant_at b (arm_count cs) i (arm_at cs i m (at + payload_offset repr cs))) h.0 ∙ ap (option_map (case_of i)) (bare-arm cs i m (at + payload_offset repr cs) h.1))
  read-back (Plain.variant_of repr cs) (Value.case_with i v) m at h f a =
      let tag = padded_to (payload_offset repr cs) (tag_image repr i) in
      let all = agrees-left m at (tag ++ payload_image cs i v) _ a in
      let first = agrees-left m at (tag_image repr i) _ (agrees-left m at tag (payload_image cs i v) all) in
      let rest = agrees-at m (payload_image cs i v) (at + length tag) (at + payload_offset repr cs) (ap (λ n. at + n) (tag-length repr cs i)) (agrees-right m at tag (payload_image cs i v) all) in
      variant-read repr cs i m at (Value.case_with i v) (tag-read repr cs i m at f.0.0 (with-below cs i v h) first)
      (ap (λ b. variant_at b (arm_count cs) i (arm_at cs i m (at + payload_offset repr cs))) (with-payload cs i v h) ∙ ap (option_map (case_of i)) (arm-back cs i v m (at + payload_offset repr cs) h f.1 rest))
  read-back _ _ m at h f a = absurd h

  pub members-back : (end : ℕ) (ms : Fields) (vs : Values) (m : Bytes) (at : ℕ) → AreValues ms vs → AllFieldsFit ms → Agrees m (at + end) (members_image end ms vs) → members_at end ms m at ≡ Some vs
  members-back end Fields.no_fields Values.no_values m at h f a = refl
  members-back end (Fields.field name t ms) (Values.value_then v vs) m at h f a =
      let start = align_to end (align_of t) in
      let front = gap (start - end) ++ image t v in
      let rest = members_image (start + size_of t) ms vs in
      let here : at + end + length (gap (start - end)) ≡ at + start = omega (arith, gap-to end (align_of t)) in
      let there : at + end + length front ≡ at + (start + size_of t) = omega (arith, gap-to end (align_of t), length-both (gap (start - end)) (image t v), image-length t v h.0) in
      let own = agrees-at m (image t v) _ _ here (agrees-right m (at + end) (gap (start - end)) (image t v) (agrees-left m (at + end) front rest a)) in
      let others = agrees-at m rest _ _ there (agrees-right m (at + end) front rest a) in
      ap (option_and_then (λ v. option_map (Values.value_then v) (members_at (start + size_of t) ms m at))) (read-back t v m (at + start) h.0 f.0 own)
      ∙ ap (option_map (Values.value_then v)) (members-back (start + size_of t) ms vs m at h.1 f.1 others)
  members-back end _ _ m at h f a = absurd h

  pub arm-back : (cs : Arms) (i : ℕ) (v : Value) (m : Bytes) (at : ℕ) → IsCaseWith cs i v → AllArmsFit cs → Agrees m at (payload_image cs i v) → arm_at cs i m at ≡ Some (Some v)
  arm-back Arms.no_arms i v m at h f a = absurd h
  arm-back (Arms.bare name cs) zero v m at h f a = absurd h
  arm-back (Arms.bare name cs) (suc i) v m at h f a = arm-back cs i v m at h f a
  arm-back (Arms.carries name t cs) zero v m at h f a = ap (option_map Some) (read-back t v m at h f.0 a)
  arm-back (Arms.carries name t cs) (suc i) v m at h f a = arm-back cs i v m at h f.1 a

some-same : {x y : Value} → Some x ≡ Some y → x ≡ y
some-same {x} e = ap (of x) e
  where
    of : Value → Option Value → Value
    of d None = d
    of d (Some v) = v

-- AT MOST ONE
pub spells-one : (t : Plain) (m : Bytes) (at : ℕ) (v w : Value) → AllFit t → Spells m at t v → Spells m at t w → v ≡ w
spells-one t m at v w f h k = some-same (sym (read-back t v m at h.0 f h.1) ∙ read-back t w m at k.0 f k.1)
