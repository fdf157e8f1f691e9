-- An image is as long as its type's size.
use Rattle.std.proofs.Common.{◌≡◌, ℕ, zero, suc, ◌+◌, ◌-◌, ◌/◌, ◌≤◌, refl, sym, ap, ◌∙◌, subst, arith, ◌++◌, length}
use Rattle.witx_ast.specs.declared.types.IntRepr.{IntRepr}
use Rattle.witx_ast.specs.declared.types.RecordKind.{RecordKind}
use Rattle.witx_ast.specs.Plain.{Plain, Fields, Arms}
use Rattle.witx_ast.specs.Values.{Value, Values, IsValue, AreValues, IsCaseWith}
use Rattle.witx_layout.specs.Numbers.{align_to, align_of, repr_size, payload_offset, payloads_align, payloads_size, size_of, members_end, builtin_size}
use Rattle.witx_layout.proofs.Onward.{above}
use Rattle.witx_bytes.specs.Images.{little, gap, padded_to, tag_image, image, members_image, payload_image}
use Rattle.witx_bytes.proofs.Agreement.{gap-length, length-both, padded-length}

pub little-length : (width n : ℕ) → length (little width n) ≡ width
little-length zero n = refl
little-length (suc width) n = ap suc (little-length width (n / 256))

pub gap-to : (end a : ℕ) → end + length (gap (align_to end a - end)) ≡ align_to end a
gap-to end a = ap (λ n. end + n) (gap-length (align_to end a - end)) ∙ omega (arith, above end a)

-- the tag, padded up to the payload
pub tag-length : (repr : IntRepr) (cs : Arms) (i : ℕ) → length (padded_to (payload_offset repr cs) (tag_image repr i)) ≡ payload_offset repr cs
tag-length repr cs i = padded-length (payload_offset repr cs) (tag_image repr i) (subst (λ n. n ≤ payload_offset repr cs) (sym (little-length (repr_size repr) i)) (above (repr_size repr) (payloads_align cs)))

variant-room : (repr : IntRepr) (cs : Arms) → payload_offset repr cs + payloads_size cs ≤ size_of (Plain.variant_of repr cs)
variant-room repr cs = above _ _

tag-room : (repr : IntRepr) (cs : Arms) (i : ℕ) → length (tag_image repr i) ≤ size_of (Plain.variant_of repr cs)
tag-room repr cs i = omega (arith, little-length (repr_size repr) i, above (repr_size repr) (payloads_align cs), variant-room repr cs)

mutual
  pub image-length : (t : Plain) (v : Value) → IsValue t v → length (image t v) ≡ size_of t
  image-length (Plain.builtin b) (Value.number k n) h = little-length (builtin_size b) _
  image-length Plain.handle (Value.handle_number n) h = little-length 4 n
  image-length (Plain.list_of t) (Value.list_at a l) h = refl
  image-length (Plain.pointer_to t) (Value.address n) h = little-length 4 n
  image-length (Plain.const_pointer_to t) (Value.const_address n) h = little-length 4 n
  image-length (Plain.record_of (RecordKind.Bitflags repr) ms) (Value.flag_bits bits) h = little-length (repr_size repr) _
  image-length (Plain.record_of RecordKind.Tuple ms) (Value.tuple_values vs) h =
      padded-length (size_of (Plain.record_of RecordKind.Tuple ms)) (members_image 0 ms vs) (omega (arith, members-length 0 ms vs h, above (members_end 0 ms) (Rattle.witx_layout.specs.Numbers.members_align ms)))
  image-length (Plain.record_of RecordKind.Other ms) (Value.record_values vs) h =
      padded-length (size_of (Plain.record_of RecordKind.Other ms)) (members_image 0 ms vs) (omega (arith, members-length 0 ms vs h, above (members_end 0 ms) (Rattle.witx_layout.specs.Numbers.members_align ms)))
  image-length (Plain.variant_of repr cs) (Value.enum_index i) h = padded-length (size_of (Plain.variant_of repr cs)) (tag_image repr i) (tag-room repr cs i)
  image-length (Plain.variant_of repr cs) (Value.bare_case i) h = padded-length (size_of (Plain.variant_of repr cs)) (tag_image repr i) (tag-room repr cs i)
  image-length (Plain.variant_of repr cs) (Value.case_with i v) h =
      padded-length (size_of (Plain.variant_of repr cs)) (padded_to (payload_offset repr cs) (tag_image repr i) ++ payload_image cs i v)
      (omega (arith, length-both (padded_to (payload_offset repr cs) (tag_image repr i)) (payload_image cs i v), tag-length repr cs i, payload-length cs i v h, variant-room repr cs))
  image-length _ _ h = absurd h

  pub members-length : (end : ℕ) (ms : Fields) (vs : Values) → AreValues ms vs → end + length (members_image end ms vs) ≡ members_end end ms
  members-length end Fields.no_fields Values.no_values h = omega arith
  members-length end (Fields.field name t ms) (Values.value_then v vs) h =
      let start = align_to end (align_of t) in
      let rest = members_image (start + size_of t) ms vs in
      let whole : length (members_image end (Fields.field name t ms) (Values.value_then v vs)) ≡ length (gap (start - end) ++ image t v) + length rest = length-both (gap (start - end) ++ image t v) rest in
      let parts = length-both (gap (start - end)) (image t v) in
      omega (arith, whole, parts, gap-to end (align_of t), image-length t v h.0, members-length (start + size_of t) ms vs h.1)
  members-length end _ _ h = absurd h

  pub payload-length : (cs : Arms) (i : ℕ) (v : Value) → IsCaseWith cs i v → length (payload_image cs i v) ≤ payloads_size cs
  payload-length Arms.no_arms i v h = absurd h
  payload-length (Arms.bare name cs) zero v h = absurd h
  payload-length (Arms.bare name cs) (suc i) v h = payload-length cs i v h
  payload-length (Arms.carries name t cs) zero v h = omega (arith, image-length t v h)
  payload-length (Arms.carries name t cs) (suc i) v h = omega (arith, payload-length cs i v h)
