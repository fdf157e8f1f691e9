-- Members written one after the other, and the parts of variants.
use Rattle.std.proofs.Common.{◌≡◌, ℕ, ◌+◌, ◌-◌, ◌^◌, ◌<◌, ◌≤◌, max, Bool, true, false, ◌&&◌, refl, sym, ap, ◌∙◌, subst, arith, Option, Some, None, List, [], ◌∷◌, ◌++◌, length, map, drop, get_or, nat_le, inl, inr, ◌⊎◌}
use Rattle.std.proofs.lemmas.List.{drop_more, drop_all}
use Rattle.witx_base.specs.SameBytes.{false-true, both}
use Rattle.std.proofs.Common.{option_map, not, nat_eq, nat_lt, ◌||◌}
use Rattle.witx_ast.specs.declared.types.TypeRef.{TypeRef}
use Rattle.witx_ast.specs.declared.types.Case.{Case}
use Rattle.witx_ast.proofs.Decided.{decides-eq, decides-le}
use Rattle.witx_bytes.specs.Bytes.{holds, in_bounds}
use Rattle.witx_bytes.specs.ByteMachine.{has_room}
use Rattle.witx_bytes.proofs.Agreement.{held-at}
use Rattle.witx_bytes.proofs.ReadBack.{with-below}
use Rattle.std.specs.declared.alloc.Global.{Global}
use Rattle.std.specs.declared.boxed.Box.{Box}
use Rattle.witx_ast.specs.declared.types.RecordKind.{RecordKind}
use Rattle.witx_ast.specs.Plain.{Plain, plain, Fields, Arms, field_count, all_bare}
use Rattle.witx_ast.specs.Views.{tree_of, members_plain, cases_plain}
use Rattle.witx_ast.specs.Values as plain
use Rattle.witx_ast.specs.ValueTests.{is_value, are_values, is_case_with}
use Rattle.witx_ast.specs.Tags.{fits, fields_fit, node_fits, repr_bits}
use Rattle.witx_ast.proofs.TagLaws.{fits-decides}
use Rattle.witx_ast.specs.declared.types.RecordMember.{RecordMember}
use Rattle.witx_ast.specs.declared.types.IntRepr.{IntRepr}
use Rattle.witx_ast.proofs.Trees.{tree_rules}
use Rattle.witx_ast.proofs.Parts.{members-drop, members-end, record-plain, variant-plain, cases-bare, cases-carries, count-cases}
use Rattle.witx_ast.proofs.ValueLaws.{value-decides, case-with-decides}
use Rattle.witx_layout.specs.Numbers.{align_to, align_of, size_of, members_end, members_align, repr_size, payload_offset, payloads_size, payloads_align}
use Rattle.witx_machine.specs.Words.{bits_of_flags}
use Rattle.witx_layout.proofs.Onward.{above, end-above}
use Rattle.witx_machine.specs.Cells.{values_of}
use Rattle.witx_bytes.specs.Bytes.{Bytes, Image, image_written}
use Rattle.witx_bytes.specs.Images.{image, members_image, payload_image, gap, padded_to, tag_image, little}
use Rattle.witx_bytes.specs.Seen.{seen}
use Rattle.witx_bytes.specs.Writes.{CanWrite, CanWriteAll, HasRange, Writes}
use Rattle.witx_bytes.specs.Writes.{CanWritePayload}
use Rattle.witx_bytes.specs.Payloads.{payload_type_fits, is_payload_of, is_case, case_size, type_image, case_image}
use Rattle.witx_bytes.specs.Seen.{seen_in}
use Rattle.witx_bytes.proofs.Payloads.{CaseIs, case_found}
use Rattle.witx_bytes.specs.declared.value.Value.{Value}
use Rattle.witx_bytes.specs.declared.value.Value.TheVariants as value
use Rattle.witx_bytes.proofs.Seen.{seen-Flags, seen-Tuple, seen-Rec, seen-Enum, seen-Bare, seen-With}
use Rattle.witx_bytes.proofs.Agreement.{gap-length, length-both}
use Rattle.witx_bytes.proofs.Lengths.{image-length, tag-length}
use Rattle.witx_bytes.proofs.Writing.{written-same, written-at, written-then, written-behind, writes-then, writes-padded, range_kept, range_part}

abbrev pub ms_from : List RecordMember → ℕ → Fields
ms_from ms i = members_plain (drop i ms)

abbrev pub vs_from : List Value → ℕ → plain.Values
vs_from vs i = values_of (map seen (drop i vs))

pub vs_more : (vs : List Value) (i : ℕ) (v : Value) → i < length vs → v ≡ get_or vs i v → vs_from vs i ≡ plain.value_then (seen v) (vs_from vs (i + 1))
vs_more vs i v u q = ap (λ vs. values_of (map seen vs)) (drop_more vs i v u ∙ ap (λ c. c ∷ drop (i + 1) vs) (sym q))

-- those from an index on are left, and they begin behind an end
pub record MembersLeft (ms : List RecordMember) (vs : List Value) (at end i : ℕ) (m k : Bytes) : Type 0 where
  pub same : (y : ℕ) → image_written (at + end) (members_image end (ms_from ms i) (vs_from vs i)) k y ≡ image_written at (members_image 0 (members_plain ms) (values_of (map seen vs))) m y
  pub can : CanWriteAll (ms_from ms i) (vs_from vs i)
  pub ends : members_end end (ms_from ms i) ≡ members_end 0 (members_plain ms)
  pub room : HasRange at (members_end 0 (members_plain ms)) k

pub members_first : (ms : List RecordMember) (vs : List Value) (at : ℕ) (m : Bytes) → CanWriteAll (members_plain ms) (values_of (map seen vs)) → HasRange at (members_end 0 (members_plain ms)) m → MembersLeft ms vs at 0 0 m m
members_first ms vs at m c h = record { same = λ y. written-at (at + 0) at (members_image 0 (members_plain ms) (values_of (map seen vs))) m y (omega arith); can = c; ends = refl; room = h }

-- the value of the next member
pub members_bound : (ms : List RecordMember) (vs : List Value) (at end i : ℕ) (m k : Bytes) (d : RecordMember) → MembersLeft ms vs at end i m k → i < length ms → d ≡ get_or ms i d → i < length vs
members_bound ms vs at end i m k d f l p = go (nat_le (length vs) i) refl
  where
    go : (b : Bool) → nat_le (length vs) i ≡ b → i < length vs
    go true e =
        let none : drop i vs ≡ [] = drop_all i vs ((Rattle.witx_ast.proofs.Decided.decides-le _ _).0 e) in
        absurd (false-true (ap (λ ms. are_values ms plain.no_values) (sym (members-drop ms i d l p)) ∙ ap (λ vs. are_values (ms_from ms i) (values_of (map seen vs))) (sym none) ∙ f.can.values))
    go false e = let more : ¬ (length vs ≤ i) = λ h. false-true (sym e ∙ (Rattle.witx_ast.proofs.Decided.decides-le _ _).1 h) in omega (arith, more)

-- one member and the rest
module _ (ms : List RecordMember) (vs : List Value) (at end i : ℕ) (m k : Bytes) (d : RecordMember) (v : Value) (f : MembersLeft ms vs at end i m k) (l : i < length ms) (p : d ≡ get_or ms i d) (u : i < length vs) (q : v ≡ get_or vs i v) where
  abbrev t : Plain
  t = plain (tree_of d.tref)

  abbrev start : ℕ
  start = align_to end (align_of t)

  ms_is : ms_from ms i ≡ Fields.field d.name t (ms_from ms (i + 1))
  ms_is = members-drop ms i d l p

  vs_is : vs_from vs i ≡ plain.value_then (seen v) (vs_from vs (i + 1))
  vs_is = vs_more vs i v u q

  values_are : is_value t (seen v) && are_values (ms_from ms (i + 1)) (vs_from vs (i + 1)) ≡ true
  values_are = ap (λ vs. are_values (Fields.field d.name t (ms_from ms (i + 1))) vs) (sym vs_is) ∙ ap (λ ms. are_values ms (vs_from vs i)) (sym ms_is) ∙ f.can.values

  they_fit : fits t && fields_fit (ms_from ms (i + 1)) ≡ true
  they_fit = ap fields_fit (sym ms_is) ∙ f.can.fit

  pub members_can : CanWrite t (seen v)
  members_can = record { value = (both (is_value t (seen v)) _ values_are).0; fit = (both (fits t) _ they_fit).0 }

  pub members_ends : members_end (start + size_of t) (ms_from ms (i + 1)) ≡ members_end 0 (members_plain ms)
  members_ends = ap (members_end end) (sym ms_is) ∙ f.ends

  pub members_within : start + size_of t ≤ members_end 0 (members_plain ms)
  members_within = omega (arith, members_ends, end-above (start + size_of t) (ms_from ms (i + 1)))

  pub members_room : HasRange (at + start) (size_of t) k
  members_room = range_part at (members_end 0 (members_plain ms)) (at + start) (size_of t) k f.room (omega arith) (omega (arith, members_within))

  pub members_next : (n : Bytes) → Writes (at + start) (image t (seen v)) k n → MembersLeft ms vs at (start + size_of t) (i + 1) m n
  members_next n w = record {
    same = λ y. rest_same y ∙ written-then-whole y;
    can = record { values = (both (is_value t (seen v)) _ values_are).1; fit = (both (fits t) _ they_fit).1 };
    ends = members_ends;
    room = range_kept at (members_end 0 (members_plain ms)) (at + start) (image t (seen v)) k n f.room w;
  }
    where
      front : Image
      front = gap (start - end) ++ image t (seen v)

      rest : Image
      rest = members_image (start + size_of t) (ms_from ms (i + 1)) (vs_from vs (i + 1))

      rest_same : (y : ℕ) → image_written (at + (start + size_of t)) (members_image (start + size_of t) (ms_from ms (i + 1)) (vs_from vs (i + 1))) n y ≡ image_written (at + end) (gap (start - end) ++ image t (seen v) ++ members_image (start + size_of t) (ms_from ms (i + 1)) (vs_from vs (i + 1))) k y
      rest_same y =
          let long : length (gap (start - end) ++ image t (seen v)) ≡ (start - end) + size_of t = length-both (gap (start - end)) (image t (seen v)) ∙ ap (λ a. a + length (image t (seen v))) (gap-length (start - end)) ∙ ap (λ b. (start - end) + b) (image-length t (seen v) ((value-decides t (seen v)).0 members_can.value)) in
          let there : at + (start + size_of t) ≡ at + end + length (gap (start - end) ++ image t (seen v)) = omega (arith, long, above end (align_of t)) in
          let here : at + end + (start - end) ≡ at + start = omega (arith, above end (align_of t)) in
          let own : n y ≡ image_written (at + end) (gap (start - end) ++ image t (seen v)) k y = w y ∙ sym (written-behind (at + end) (start - end) (image t (seen v)) k y ∙ written-at _ _ (image t (seen v)) k y here) in
          written-same (at + (start + size_of t)) (members_image (start + size_of t) (ms_from ms (i + 1)) (vs_from vs (i + 1))) n (image_written (at + end) (gap (start - end) ++ image t (seen v)) k) y own
          ∙ written-at _ _ (members_image (start + size_of t) (ms_from ms (i + 1)) (vs_from vs (i + 1))) (image_written (at + end) (gap (start - end) ++ image t (seen v)) k) y there
          ∙ written-then (at + end) (gap (start - end) ++ image t (seen v)) (members_image (start + size_of t) (ms_from ms (i + 1)) (vs_from vs (i + 1))) k y

      written-then-whole : (y : ℕ) → image_written (at + end) (gap (start - end) ++ image t (seen v) ++ members_image (start + size_of t) (ms_from ms (i + 1)) (vs_from vs (i + 1))) k y ≡ image_written at (members_image 0 (members_plain ms) (values_of (map seen vs))) m y
      written-then-whole y =
          ap (λ vs. image_written (at + end) (members_image end (Fields.field d.name t (ms_from ms (i + 1))) vs) k y) (sym vs_is)
          ∙ ap (λ ms. image_written (at + end) (members_image end ms (vs_from vs i)) k y) (sym ms_is) ∙ f.same y

pub members_done : (ms : List RecordMember) (vs : List Value) (at end i : ℕ) (m k : Bytes) → MembersLeft ms vs at end i m k → length ms ≤ i → Writes at (members_image 0 (members_plain ms) (values_of (map seen vs))) m k
members_done ms vs at end i m k f l y = ap (λ ms. image_written (at + end) (members_image end ms (vs_from vs i)) k y) (sym (members-end ms i l)) ∙ f.same y

-- what can be written is a value
not_so : (t : Plain) (v : Value) → CanWrite t (seen v) → (u : plain.Value) → seen v ≡ u → is_value t u ≡ false → ⊥
not_so t v h u e n = false-true (sym n ∙ ap (is_value t) (sym e) ∙ h.value)

-- flags, as one number
pub flags_written : (r : IntRepr) (ms : Fields) (v : Value) (bits : List Bool) (at width number : ℕ) (m k : Bytes) → v ≡ value.Flags bits → width ≡ repr_size r → number ≡ bits_of_flags bits → Writes at (little width number) m k → Writes at (image (Plain.record_of (RecordKind.Bitflags r) ms) (seen v)) m k
flags_written r ms v bits at width number m k e w is f x =
    f x ∙ ap (λ width. image_written at (little width number) m x) w ∙ ap (λ number. image_written at (little (repr_size r) number) m x) is ∙ ap (λ u. image_written at (image (Plain.record_of (RecordKind.Bitflags r) ms) u) m x) (sym (ap seen e ∙ seen-Flags bits))

-- the members of a tuple, and of another record
abbrev pub HasMembers : Value → List Value → Type 0
HasMembers v vs = (v ≡ value.Tuple vs) ⊎ (v ≡ value.Rec vs)

members_shown : (v : Value) (vs : List Value) → v ≡ value.Tuple vs → seen v ≡ plain.tuple_values (values_of (map seen vs))
members_shown v vs e = ap seen e ∙ seen-Tuple vs

others_shown : (v : Value) (vs : List Value) → v ≡ value.Rec vs → seen v ≡ plain.record_values (values_of (map seen vs))
others_shown v vs e = ap seen e ∙ seen-Rec vs

pub record_written : (k : RecordKind) (ms : Fields) (v : Value) (vs : List Value) (at : ℕ) (m n : Bytes) → CanWrite (Plain.record_of k ms) (seen v) → HasMembers v vs
    → Writes at (members_image 0 ms (values_of (map seen vs))) m n → Writes at (image (Plain.record_of k ms) (seen v)) m n
record_written (RecordKind.Bitflags r) ms v vs at m n h (inl e) f = absurd (not_so (Plain.record_of (RecordKind.Bitflags r) ms) v h _ (members_shown v vs e) refl)
record_written (RecordKind.Bitflags r) ms v vs at m n h (inr e) f = absurd (not_so (Plain.record_of (RecordKind.Bitflags r) ms) v h _ (others_shown v vs e) refl)
record_written RecordKind.Tuple ms v vs at m n h (inl e) f = λ x.
    writes-padded at (size_of (Plain.record_of RecordKind.Tuple ms)) (members_image 0 ms (values_of (map seen vs))) m n f x ∙ ap (λ u. image_written at (image (Plain.record_of RecordKind.Tuple ms) u) m x) (sym (members_shown v vs e))
record_written RecordKind.Tuple ms v vs at m n h (inr e) f = absurd (not_so (Plain.record_of RecordKind.Tuple ms) v h _ (others_shown v vs e) refl)
record_written RecordKind.Other ms v vs at m n h (inl e) f = absurd (not_so (Plain.record_of RecordKind.Other ms) v h _ (members_shown v vs e) refl)
record_written RecordKind.Other ms v vs at m n h (inr e) f = λ x.
    writes-padded at (size_of (Plain.record_of RecordKind.Other ms)) (members_image 0 ms (values_of (map seen vs))) m n f x ∙ ap (λ u. image_written at (image (Plain.record_of RecordKind.Other ms) u) m x) (sym (others_shown v vs e))

pub enum_written : (r : IntRepr) (cs : Arms) (v : Value) (i at width : ℕ) (m k : Bytes) → v ≡ value.Enum i → width ≡ repr_size r → Writes at (little width i) m k → Writes at (image (Plain.variant_of r cs) (seen v)) m k
enum_written r cs v i at width m k e w f x =
    writes-padded at (size_of (Plain.variant_of r cs)) (tag_image r i) m k (λ x. f x ∙ ap (λ width. image_written at (little width i) m x) w) x ∙ ap (λ u. image_written at (image (Plain.variant_of r cs) u) m x) (sym (ap seen e ∙ seen-Enum i))

-- a case, tag and payload
pub case_written : (r : IntRepr) (cs : Arms) (v : Value) (i : ℕ) (o : Option (Box Value Global)) (at width behind : ℕ) (m k n : Bytes) → v ≡ value.Case i o → width ≡ repr_size r → Writes at (little width i) m k → behind ≡ at + payload_offset r cs → Writes behind (case_image cs i (option_map seen_in o)) k n → Writes at (image (Plain.variant_of r cs) (seen v)) m n
case_written r cs v i None at width behind m k n e w f b g x =
    g x ∙ writes-padded at (size_of (Plain.variant_of r cs)) (tag_image r i) m k (λ x. f x ∙ ap (λ width. image_written at (little width i) m x) w) x ∙ ap (λ u. image_written at (image (Plain.variant_of r cs) u) m x) (sym (ap seen e ∙ seen-Bare i))
case_written r cs v i (Some u) at width behind m k n e w f b g x =
    let tag : Image = padded_to (payload_offset r cs) (tag_image r i) in
    let first : Writes at (padded_to (payload_offset r cs) (tag_image r i)) m k = writes-padded at (payload_offset r cs) (tag_image r i) m k (λ x. f x ∙ ap (λ width. image_written at (little width i) m x) w) in
    let there : behind ≡ at + length (padded_to (payload_offset r cs) (tag_image r i)) = b ∙ ap (λ n. at + n) (sym (tag-length r cs i)) in
    let both_parts : Writes at (padded_to (payload_offset r cs) (tag_image r i) ++ payload_image cs i (seen u.value)) m n = writes-then at (padded_to (payload_offset r cs) (tag_image r i)) (payload_image cs i (seen u.value)) m k n first (λ x. g x ∙ written-at behind _ (payload_image cs i (seen u.value)) k x there) in
    writes-padded at (size_of (Plain.variant_of r cs)) (padded_to (payload_offset r cs) (tag_image r i) ++ payload_image cs i (seen u.value)) m n both_parts x
    ∙ ap (λ u. image_written at (image (Plain.variant_of r cs) u) m x) (sym (ap seen e ∙ seen-With i u))

-- flags are at most 64
pub flags_few : (r : IntRepr) (ms : Fields) (v : Value) (bits : List Bool) → CanWrite (Plain.record_of (RecordKind.Bitflags r) ms) (seen v) → v ≡ value.Flags bits → length bits ≤ 64
flags_few r ms v bits h e =
    let long = (value-decides (Plain.record_of (RecordKind.Bitflags r) ms) (plain.flag_bits bits)).0 (ap (is_value (Plain.record_of (RecordKind.Bitflags r) ms)) (sym (ap seen e ∙ seen-Flags bits)) ∙ h.value) in
    let fit : field_count ms ≤ repr_bits r = ((fits-decides (Plain.record_of (RecordKind.Bitflags r) ms)).0 h.fit).0 in
    omega (arith, long, fit, most r)
  where
    most : (r : IntRepr) → repr_bits r ≤ 64
    most IntRepr.U8 = omega arith
    most IntRepr.U16 = omega arith
    most IntRepr.U32 = omega arith
    most IntRepr.U64 = omega arith

pub record_can : (k : RecordKind) (ms : Fields) (v : Value) (vs : List Value) → CanWrite (Plain.record_of k ms) (seen v) → HasMembers v vs → CanWriteAll ms (values_of (map seen vs))
record_can (RecordKind.Bitflags r) ms v vs h (inl e) = absurd (not_so (Plain.record_of (RecordKind.Bitflags r) ms) v h _ (members_shown v vs e) refl)
record_can (RecordKind.Bitflags r) ms v vs h (inr e) = absurd (not_so (Plain.record_of (RecordKind.Bitflags r) ms) v h _ (others_shown v vs e) refl)
record_can RecordKind.Tuple ms v vs h (inl e) = record { values = ap (is_value (Plain.record_of RecordKind.Tuple ms)) (sym (members_shown v vs e)) ∙ h.value; fit = h.fit }
record_can RecordKind.Tuple ms v vs h (inr e) = absurd (not_so (Plain.record_of RecordKind.Tuple ms) v h _ (others_shown v vs e) refl)
record_can RecordKind.Other ms v vs h (inl e) = absurd (not_so (Plain.record_of RecordKind.Other ms) v h _ (members_shown v vs e) refl)
record_can RecordKind.Other ms v vs h (inr e) = record { values = ap (is_value (Plain.record_of RecordKind.Other ms)) (sym (others_shown v vs e)) ∙ h.value; fit = h.fit }

pub record_room : (kind : RecordKind) (ms : Fields) (at : ℕ) (m : Bytes) → ((r : IntRepr) → kind ≡ RecordKind.Bitflags r → ⊥) → HasRange at (size_of (Plain.record_of kind ms)) m → HasRange at (members_end 0 ms) m
record_room (RecordKind.Bitflags r) ms at m n h = absurd (n r refl)
record_room RecordKind.Tuple ms at m n h = range_part at (size_of (Plain.record_of RecordKind.Tuple ms)) at (members_end 0 ms) m h (omega arith) (omega (arith, above (members_end 0 ms) (members_align ms)))
record_room RecordKind.Other ms at m n h = range_part at (size_of (Plain.record_of RecordKind.Other ms)) at (members_end 0 ms) m h (omega arith) (omega (arith, above (members_end 0 ms) (members_align ms)))

-- the room of a tag, and of the payload
pub tag_room : (r : IntRepr) (cs : Arms) (at : ℕ) (m : Bytes) → HasRange at (size_of (Plain.variant_of r cs)) m → HasRange at (repr_size r) m
tag_room r cs at m h = range_part at (size_of (Plain.variant_of r cs)) at (repr_size r) m h (omega arith) (omega (arith, above (repr_size r) (payloads_align cs), above (payload_offset r cs + payloads_size cs) (max (repr_size r) (payloads_align cs))))

pub payload_room : (r : IntRepr) (cs : Arms) (at : ℕ) (m : Bytes) → HasRange at (size_of (Plain.variant_of r cs)) m → HasRange (at + payload_offset r cs) (payloads_size cs) m
payload_room r cs at m h = range_part at (size_of (Plain.variant_of r cs)) (at + payload_offset r cs) (payloads_size cs) m h (omega arith) (omega (arith, above (payload_offset r cs + payloads_size cs) (max (repr_size r) (payloads_align cs))))

pub case_can : (r : IntRepr) (cs : Arms) (v : Value) (i : ℕ) (o : Option (Box Value Global)) → CanWrite (Plain.variant_of r cs) (seen v) → v ≡ value.Case i o → CanWritePayload cs i (option_map seen_in o)
case_can r cs v i None h e =
    record { value = (both (not (all_bare cs)) _ (ap (is_value (Plain.variant_of r cs)) (sym (ap seen e ∙ seen-Bare i)) ∙ h.value)).1; fit = (both (node_fits (Plain.variant_of r cs)) _ h.fit).1 }
case_can r cs v i (Some u) h e =
    record { value = ap (is_value (Plain.variant_of r cs)) (sym (ap seen e ∙ seen-With i u)) ∙ h.value; fit = (both (node_fits (Plain.variant_of r cs)) _ h.fit).1 }

-- along an equation of types
pub can_by : (t q : Plain) (v : plain.Value) → t ≡ q → CanWrite t v → CanWrite q v
can_by t q v e h = subst (λ t. CanWrite t v) e h

pub room_by : (at : ℕ) (t q : Plain) (m : Bytes) → t ≡ q → HasRange at (size_of t) m → HasRange at (size_of q) m
room_by at t q m e h = subst (λ t. HasRange at (size_of t) m) e h

pub payload_bound : (cs : List Case) (i : ℕ) (o : Option (Box Value Global)) (b : Box Value Global) → CanWritePayload (cases_plain cs) i (option_map seen_in o) → o ≡ Some b → i < length cs
payload_bound cs i o b h e =
    let k : is_case_with (cases_plain cs) i (seen b.value) ≡ true = ap (λ o. is_case (cases_plain cs) i (option_map seen_in o)) (sym e) ∙ h.value in
    omega (arith, with-below (cases_plain cs) i (seen b.value) ((case-with-decides (cases_plain cs) i (seen b.value)).0 k), count-cases cs)

-- the payload that is written, by the case's type
abbrev pub CanWriteCase : Option TypeRef → plain.Value → Type 0
CanWriteCase None v = ⊥
CanWriteCase (Some t) v = CanWrite (plain (tree_of t)) v

pub case_can_by : (o p : Option TypeRef) (v : plain.Value) → o ≡ p → CanWriteCase o v → CanWriteCase p v
case_can_by o p v e h = subst (λ o. CanWriteCase o v) e h

pub case_room_by : (at : ℕ) (o p : Option TypeRef) (m : Bytes) → o ≡ p → HasRange at (case_size o) m → HasRange at (case_size p) m
case_room_by at o p m e h = subst (λ o. HasRange at (case_size o) m) e h

payload_can : (o : Option TypeRef) (u : plain.Value) → is_payload_of o (Some u) ≡ true → payload_type_fits o ≡ true → CanWriteCase o u
payload_can None u h f = absurd (false-true h)
payload_can (Some t) u h f = record { value = h; fit = f }

module _ (cs : List Case) (i : ℕ) (o : Option (Box Value Global)) (b : Box Value Global) (c : Case) (h : CanWritePayload (cases_plain cs) i (option_map seen_in o)) (e : o ≡ Some b) (p : c ≡ get_or cs i c) where
  case_is : CaseIs (cases_plain cs) i c.tref
  case_is = case_found cs i c c p (payload_bound cs i o b h e)

  pub case_can_be : CanWriteCase c.tref (seen b.value)
  case_can_be =
      let with_it : is_case_with (cases_plain cs) i (seen b.value) ≡ true = ap (λ o. is_case (cases_plain cs) i (option_map seen_in o)) (sym e) ∙ h.value in
      payload_can c.tref (seen b.value) (sym (case_is.carried (seen b.value)) ∙ with_it) (case_is.fit h.fit)

  pub case_has_room : (at : ℕ) (m : Bytes) → HasRange at (payloads_size (cases_plain cs)) m → HasRange at (case_size c.tref) m
  case_has_room at m r = range_part at (payloads_size (cases_plain cs)) at (case_size c.tref) m r (omega arith) (omega (arith, case_is.within))

  pub case_is_written : (at : ℕ) (m k : Bytes) → Writes at (type_image c.tref (seen b.value)) m k → Writes at (case_image (cases_plain cs) i (option_map seen_in o)) m k
  case_is_written at m k f x = f x ∙ ap (λ xs. image_written at xs m x) (sym (case_is.pictured (seen b.value))) ∙ ap (λ o. image_written at (case_image (cases_plain cs) i (option_map seen_in o)) m x) (sym e)

-- what a write begins with
pub room_first : (t : Plain) (at : ℕ) (m : Bytes) → at < 2 ^ 32 → has_room t at m ≡ true → HasRange at (size_of t) m
room_first t at m l h = go (nat_eq (size_of t) 0) refl h
  where
    go : (b : Bool) → nat_eq (size_of t) 0 ≡ b → (b || holds at (size_of t) m) ≡ true → HasRange at (size_of t) m
    go true e k = let none = (decides-eq (size_of t) 0).0 e in record { within = omega (arith, none, l); held = λ x lo hi. absurd (omega (arith, none, lo, hi)) }
    go false e k =
        let p = both (in_bounds at (size_of t)) _ k in
        let b = both (nat_lt 0 at) _ p.0 in
        record { within = (decides-le _ _).0 b.1; held = held-at at (size_of t) m p.1 }

pub ruleset write_rules = (tree_rules, record-plain, variant-plain)
