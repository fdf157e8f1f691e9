-- What is read of records and variants, from what is read of their parts.
use Rattle.std.proofs.Common.{◌≡◌, ℕ, zero, suc, ◌+◌, ◌^◌, ◌<◌, ◌≤◌, Bool, true, false, refl, sym, ap, ◌∙◌, subst, arith, Option, Some, None, option_map, option_and_then, Result, Err, List, [], ◌∷◌, ◌++◌, length, get_or, nat_lt, nat_le, max}
use Rattle.std.specs.declared.alloc.Global.{Global}
use Rattle.std.specs.declared.boxed.Box.{Box}
use Rattle.witx_base.specs.SameBytes.{false-true, both}
use Rattle.witx_ast.specs.declared.types.Case.{Case}
use Rattle.witx_ast.specs.declared.types.IntRepr.{IntRepr}
use Rattle.witx_ast.specs.declared.types.RecordKind.{RecordKind}
use Rattle.witx_ast.specs.declared.types.RecordMember.{RecordMember}
use Rattle.witx_ast.specs.declared.types.TypeRef.{TypeRef}
use Rattle.witx_ast.specs.Plain.{Plain, plain, Fields, Arms, field_count, arm_count, all_bare}
use Rattle.witx_ast.specs.Tags.{fits, fields_fit, node_fits, repr_bits}
use Rattle.witx_ast.specs.Values as plain
use Rattle.witx_ast.specs.Views.{tree_of, members_plain, cases_plain}
use Rattle.witx_ast.proofs.Decided.{decides-le, decides-lt}
use Rattle.witx_ast.proofs.Parts.{members-drop, members-end, count-cases, count-members}
use Rattle.witx_layout.specs.Numbers.{align_to, align_of, size_of, members_end, members_align, repr_size, payload_offset, payloads_size, payloads_align}
use Rattle.witx_layout.proofs.Onward.{above, end-above}
use Rattle.witx_machine.specs.Words.{when}
use Rattle.witx_bytes.specs.Bytes.{Bytes}
use Rattle.witx_bytes.specs.Payloads.{case_size, payload_at, payload_type_fits}
use Rattle.witx_bytes.specs.Reading.{number_at, case_of, flags_at, variant_at, value_at, members_at, arm_at}
use Rattle.witx_bytes.specs.Readings.{CanRead, CanReadAll, CanReadCase, ReadAs, case_number}
use Rattle.witx_bytes.specs.Seen.{seen, seen_in, values_seen}
use Rattle.witx_bytes.specs.declared.read_error.ReadError.{ReadError}
use Rattle.witx_bytes.specs.declared.value.Value.{Value}
use Rattle.witx_bytes.specs.declared.value.Value.TheVariants as value
use Rattle.witx_bytes.proofs.Members.{ms_from}
use Rattle.witx_bytes.proofs.NumberLaws.{when_is}
use Rattle.witx_bytes.proofs.Payloads.{CaseIs, case_found}
use Rattle.witx_bytes.proofs.ReadBack.{variant-read, when-true}
use Rattle.witx_bytes.proofs.ReadNumbers.{goes_on}
use Rattle.witx_bytes.proofs.Seen.{seen-Tuple, seen-Rec, seen-Enum, seen-Bare, seen-With}

-- a record that isn't flags, by its members
pub tuple_read : (ms : Fields) (m : Bytes) (at : ℕ) (vs : List Value) → members_at 0 ms m at ≡ Some (values_seen vs) → value_at (Plain.record_of RecordKind.Tuple ms) m at ≡ Some (seen (value.Tuple vs))
tuple_read ms m at vs h = ap (option_map plain.tuple_values) h ∙ ap Some (sym (seen-Tuple vs))

pub other_read : (k : RecordKind) (ms : Fields) (m : Bytes) (at : ℕ) (vs : List Value) → ((r : IntRepr) → k ≡ RecordKind.Bitflags r → ⊥) → (k ≡ RecordKind.Tuple → ⊥) → members_at 0 ms m at ≡ Some (values_seen vs) → value_at (Plain.record_of k ms) m at ≡ Some (seen (value.Rec vs))
other_read (RecordKind.Bitflags r) ms m at vs n o h = absurd (n r refl)
other_read RecordKind.Tuple ms m at vs n o h = absurd (o refl)
other_read RecordKind.Other ms m at vs n o h = ap (option_map plain.record_values) h ∙ ap Some (sym (seen-Rec vs))

pub members_refused : (k : RecordKind) (ms : Fields) (m : Bytes) (at : ℕ) (e : ReadError) → ((r : IntRepr) → k ≡ RecordKind.Bitflags r → ⊥) → ReadAs values_seen (members_at 0 ms m at) (Err e) → ReadAs seen (value_at (Plain.record_of k ms) m at) (Err e)
members_refused (RecordKind.Bitflags r) ms m at e n h = absurd (n r refl)
members_refused RecordKind.Tuple ms m at e n h = goes_on values_seen seen (members_at 0 ms m at) (value_at (Plain.record_of RecordKind.Tuple ms) m at) e (λ n. ap (option_map plain.tuple_values) n) h
members_refused RecordKind.Other ms m at e n h = goes_on values_seen seen (members_at 0 ms m at) (value_at (Plain.record_of RecordKind.Other ms) m at) e (λ n. ap (option_map plain.record_values) n) h

pub members_can_read : (k : RecordKind) (ms : Fields) (at : ℕ) → ((r : IntRepr) → k ≡ RecordKind.Bitflags r → ⊥) → CanRead at (Plain.record_of k ms) → CanReadAll at ms
members_can_read (RecordKind.Bitflags r) ms at n c = absurd (n r refl)
members_can_read RecordKind.Tuple ms at n c = record { fit = c.fit; size = omega (arith, c.size, above (members_end 0 ms) (members_align ms)); end = omega (arith, c.end, above (members_end 0 ms) (members_align ms)) }
members_can_read RecordKind.Other ms at n c = record { fit = c.fit; size = omega (arith, c.size, above (members_end 0 ms) (members_align ms)); end = omega (arith, c.end, above (members_end 0 ms) (members_align ms)) }

-- values that are read, and then those that follow
abbrev pub followed_by : List Value → plain.Values → plain.Values
followed_by [] more = more
followed_by (v ∷ vs) more = plain.value_then (seen v) (followed_by vs more)

followed-one : (vs : List Value) (v : Value) (more : plain.Values) → followed_by (vs ++ v ∷ []) more ≡ followed_by vs (plain.value_then (seen v) more)
followed-one [] v more = refl
followed-one (w ∷ vs) v more = ap (plain.value_then (seen w)) (followed-one vs v more)

followed-none : (vs : List Value) → followed_by vs plain.no_values ≡ values_seen vs
followed-none [] = refl
followed-none (v ∷ vs) = ap (plain.value_then (seen v)) (followed-none vs)

-- those from an index on are left, and they begin behind an end
pub record ReadTo (ms : List RecordMember) (vs : List Value) (at end i : ℕ) (m : Bytes) : Type 0 where
  pub same : members_at 0 (members_plain ms) m at ≡ option_map (followed_by vs) (members_at end (ms_from ms i) m at)
  pub fit : fields_fit (ms_from ms i) ≡ true
  pub ends : members_end end (ms_from ms i) ≡ members_end 0 (members_plain ms)

map-same : (o : Option plain.Values) → o ≡ option_map (followed_by []) o
map-same None = refl
map-same (Some vs) = refl

pub read_first : (ms : List RecordMember) (at : ℕ) (m : Bytes) → CanReadAll at (members_plain ms) → ReadTo ms [] at 0 0 m
read_first ms at m c = record { same = map-same (members_at 0 (members_plain ms) m at); fit = c.fit; ends = refl }

map-both : (vs : List Value) (v : Value) (o : Option plain.Values) → option_map (followed_by vs) (option_map (plain.value_then (seen v)) o) ≡ option_map (followed_by (vs ++ v ∷ [])) o
map-both vs v None = refl
map-both vs v (Some more) = ap Some (sym (followed-one vs v more))

-- one member and the rest
module _ (ms : List RecordMember) (vs : List Value) (at end i : ℕ) (m : Bytes) (d : RecordMember) (f : ReadTo ms vs at end i m) (l : i < length ms) (p : d ≡ get_or ms i d) where
  abbrev t : Plain
  t = plain (tree_of d.tref)

  abbrev start : ℕ
  start = align_to end (align_of t)

  ms_is : ms_from ms i ≡ Fields.field d.name t (ms_from ms (i + 1))
  ms_is = members-drop ms i d l p

  they_fit : fits t ≡ true
  they_fit = (both (fits t) _ (ap fields_fit (sym ms_is) ∙ f.fit)).0

  next_ends : members_end (start + size_of t) (ms_from ms (i + 1)) ≡ members_end 0 (members_plain ms)
  next_ends = ap (members_end end) (sym ms_is) ∙ f.ends

  pub read_within : start + size_of t ≤ members_end 0 (members_plain ms)
  read_within = omega (arith, next_ends, end-above (start + size_of t) (ms_from ms (i + 1)))

  pub read_can : CanReadAll at (members_plain ms) → CanRead (at + start) t
  read_can c = record { fit = they_fit; size = omega (arith, read_within, c.size); end = omega (arith, read_within, c.end) }

  whole : members_at 0 (members_plain ms) m at ≡ option_map (followed_by vs) (members_at end (Fields.field d.name t (ms_from ms (i + 1))) m at)
  whole = f.same ∙ ap (λ ms. option_map (followed_by vs) (members_at end ms m at)) ms_is

  pub read_next : (v : Value) → value_at t m (at + start) ≡ Some (seen v) → ReadTo ms (vs ++ v ∷ []) at (start + size_of t) (i + 1) m
  read_next v h = record {
    same =
        whole
        ∙ ap (λ o. option_map (followed_by vs) (option_and_then (λ v. option_map (plain.value_then v) (members_at (start + size_of t) (ms_from ms (i + 1)) m at)) o)) h
        ∙ map-both vs v (members_at (start + size_of t) (ms_from ms (i + 1)) m at);
    fit = (both (fits t) _ (ap fields_fit (sym ms_is) ∙ f.fit)).1;
    ends = next_ends;
  }

  pub read_stops : (e : ReadError) → ReadAs seen (value_at t m (at + start)) (Err e) → ReadAs values_seen (members_at 0 (members_plain ms) m at) (Err e)
  read_stops e h =
      goes_on seen values_seen (value_at t m (at + start)) (members_at 0 (members_plain ms) m at) e
      (λ n. whole ∙ ap (λ o. option_map (followed_by vs) (option_and_then (λ v. option_map (plain.value_then v) (members_at (start + size_of t) (ms_from ms (i + 1)) m at)) o)) n) h

pub read_done : (ms : List RecordMember) (vs : List Value) (at end i : ℕ) (m : Bytes) → ReadTo ms vs at end i m → length ms ≤ i → members_at 0 (members_plain ms) m at ≡ Some (values_seen vs)
read_done ms vs at end i m f l = f.same ∙ ap (λ ms. option_map (followed_by vs) (members_at end ms m at)) (members-end ms i l) ∙ ap Some (followed-none vs)

-- tags
pub number_below : (count i : ℕ) (o : Option ℕ) → o ≡ Some i → i < count → case_number count o ≡ Some i
number_below count i o h l = ap (case_number count) h ∙ ap (λ b. when b (Some i)) ((decides-lt i count).1 l)

pub number_above : (count i : ℕ) (o : Option ℕ) → o ≡ Some i → count ≤ i → case_number count o ≡ None
number_above count i o h l = ap (case_number count) h ∙ go (nat_lt i count) refl
  where
    go : (b : Bool) → nat_lt i count ≡ b → when (nat_lt i count) (Some i) ≡ None
    go true e = absurd (omega (arith, l, (decides-lt i count).0 e))
    go false e = ap (λ b. when b (Some i)) e

pub number_none : (count : ℕ) (o : Option ℕ) → o ≡ None → case_number count o ≡ None
number_none count o h = ap (case_number count) h

case_is : (count i : ℕ) (o : Option ℕ) → case_number count o ≡ Some i → (o ≡ Some i) × (i < count)
case_is count i None h = absurd (clash h)
  where
    clash : None ≡ Some i → ⊥
    clash h = cc
case_is count i (Some j) h = let w = when_is (nat_lt j count) j i h in (ap Some w.1, subst (λ i. i < count) w.1 ((decides-lt j count).0 w.0))

arm-beyond : (cs : Arms) (i : ℕ) (m : Bytes) (at : ℕ) → arm_count cs ≤ i → arm_at cs i m at ≡ None
arm-beyond Arms.no_arms i m at l = refl
arm-beyond (Arms.bare name cs) zero m at l = absurd (omega (arith, l))
arm-beyond (Arms.bare name cs) (suc i) m at l = arm-beyond cs i m at (omega (arith, l))
arm-beyond (Arms.carries name t cs) zero m at l = absurd (omega (arith, l))
arm-beyond (Arms.carries name t cs) (suc i) m at l = arm-beyond cs i m at (omega (arith, l))

-- a tag that no case has
tag-beyond : (r : IntRepr) (cs : List Case) (m : Bytes) (at j : ℕ) (b c : Bool) → length cs ≤ j → nat_lt j (arm_count (cases_plain cs)) ≡ c → variant_at b (arm_count (cases_plain cs)) j (arm_at (cases_plain cs) j m (at + payload_offset r (cases_plain cs))) ≡ None
tag-beyond r cs m at j true true l e = absurd (omega (arith, l, count-cases cs, (decides-lt j (arm_count (cases_plain cs))).0 e))
tag-beyond r cs m at j true false l e = ap (λ b. when b (Some (plain.enum_index j))) e
tag-beyond r cs m at j false c l e = ap (option_map (case_of j)) (arm-beyond (cases_plain cs) j m (at + payload_offset r (cases_plain cs)) (omega (arith, l, count-cases cs)))

not-below : (j n : ℕ) → nat_lt j n ≡ false → n ≤ j
not-below j n e = let out : ¬ (j < n) = λ l. false-true (sym e ∙ (decides-lt j n).1 l) in omega (arith, out)

tag-without : (r : IntRepr) (cs : List Case) (m : Bytes) (at j : ℕ) (b : Bool) → nat_lt j (length cs) ≡ b → when (nat_lt j (length cs)) (Some j) ≡ None → variant_at (all_bare (cases_plain cs)) (arm_count (cases_plain cs)) j (arm_at (cases_plain cs) j m (at + payload_offset r (cases_plain cs))) ≡ None
tag-without r cs m at j true e k = absurd (clash (sym (ap (λ b. when b (Some j)) e) ∙ k))
  where
    clash : Some j ≡ None → ⊥
    clash h = cc
tag-without r cs m at j false e k = tag-beyond r cs m at j (all_bare (cases_plain cs)) (nat_lt j (arm_count (cases_plain cs))) (not-below j (length cs) e) refl

no-case-at : (r : IntRepr) (cs : List Case) (m : Bytes) (at : ℕ) (o : Option ℕ) → case_number (length cs) o ≡ None → option_and_then (λ i. variant_at (all_bare (cases_plain cs)) (arm_count (cases_plain cs)) i (arm_at (cases_plain cs) i m (at + payload_offset r (cases_plain cs)))) o ≡ None
no-case-at r cs m at None h = refl
no-case-at r cs m at (Some j) h = tag-without r cs m at j (nat_lt j (length cs)) refl h

pub no_case_read : (r : IntRepr) (cs : List Case) (m : Bytes) (at : ℕ) → case_number (length cs) (number_at (repr_size r) m at) ≡ None → value_at (Plain.variant_of r (cases_plain cs)) m at ≡ None
no_case_read r cs m at h = no-case-at r cs m at (number_at (repr_size r) m at) h

-- case i
pub case_below : (r : IntRepr) (cs : List Case) (m : Bytes) (at i : ℕ) → case_number (length cs) (number_at (repr_size r) m at) ≡ Some i → i < length cs
case_below r cs m at i h = (case_is (length cs) i (number_at (repr_size r) m at) h).1

pub bare_read : (r : IntRepr) (cs : List Case) (m : Bytes) (at i : ℕ) → case_number (length cs) (number_at (repr_size r) m at) ≡ Some i → all_bare (cases_plain cs) ≡ true → value_at (Plain.variant_of r (cases_plain cs)) m at ≡ Some (seen (value.Enum i))
bare_read r cs m at i h b =
    let tag = case_is (length cs) i (number_at (repr_size r) m at) h in
    let below : i < arm_count (cases_plain cs) = omega (arith, tag.1, count-cases cs) in
    variant-read r (cases_plain cs) i m at (plain.enum_index i) tag.0
    (ap (λ b. variant_at b (arm_count (cases_plain cs)) i (arm_at (cases_plain cs) i m (at + payload_offset r (cases_plain cs)))) b ∙ when-true (nat_lt i (arm_count (cases_plain cs))) (Some (plain.enum_index i)) ((decides-lt i (arm_count (cases_plain cs))).1 below))
    ∙ ap Some (sym (seen-Enum i))

payload_can_read : (at : ℕ) (o : Option TypeRef) → payload_type_fits o ≡ true → case_size o < 2 ^ 64 → at + case_size o < 2 ^ 65 → CanReadCase at o
payload_can_read at None f s e = tt
payload_can_read at (Some t) f s e = record { fit = f; size = s; end = e }

module _ (r : IntRepr) (cs : List Case) (m : Bytes) (at i : ℕ) (h : case_number (length cs) (number_at (repr_size r) m at) ≡ Some i) (c : Case) (p : c ≡ get_or cs i c) where
  found : CaseIs (cases_plain cs) i c.tref
  found = case_found cs i c c p (case_below r cs m at i h)

  by_payload : all_bare (cases_plain cs) ≡ false → value_at (Plain.variant_of r (cases_plain cs)) m at ≡ option_map (case_of i) (payload_at c.tref m (at + payload_offset r (cases_plain cs)))
  by_payload b =
      ap (option_and_then (λ i. variant_at (all_bare (cases_plain cs)) (arm_count (cases_plain cs)) i (arm_at (cases_plain cs) i m (at + payload_offset r (cases_plain cs))))) (case_is (length cs) i (number_at (repr_size r) m at) h).0
      ∙ ap (λ b. variant_at b (arm_count (cases_plain cs)) i (arm_at (cases_plain cs) i m (at + payload_offset r (cases_plain cs)))) b
      ∙ ap (option_map (case_of i)) (found.stands m (at + payload_offset r (cases_plain cs)))

  shown : (o : Option (Box Value Global)) → case_of i (option_map seen_in o) ≡ seen (value.Case i o)
  shown None = sym (seen-Bare i)
  shown (Some u) = sym (seen-With i u)

  pub case_read : all_bare (cases_plain cs) ≡ false → (o : Option (Box Value Global)) → payload_at c.tref m (at + payload_offset r (cases_plain cs)) ≡ Some (option_map seen_in o) → value_at (Plain.variant_of r (cases_plain cs)) m at ≡ Some (seen (value.Case i o))
  case_read b o k = by_payload b ∙ ap (option_map (case_of i)) k ∙ ap Some (shown o)

  pub case_refused : all_bare (cases_plain cs) ≡ false → (e : ReadError) → ReadAs (option_map seen_in) (payload_at c.tref m (at + payload_offset r (cases_plain cs))) (Err e) → ReadAs seen (value_at (Plain.variant_of r (cases_plain cs)) m at) (Err e)
  case_refused b e k =
      goes_on (option_map seen_in) seen (payload_at c.tref m (at + payload_offset r (cases_plain cs))) (value_at (Plain.variant_of r (cases_plain cs)) m at) e
      (λ n. by_payload b ∙ ap (option_map (case_of i)) n) k

  pub case_can_read : CanRead at (Plain.variant_of r (cases_plain cs)) → CanReadCase (at + payload_offset r (cases_plain cs)) c.tref
  case_can_read k =
      let room : payload_offset r (cases_plain cs) + case_size c.tref ≤ size_of (Plain.variant_of r (cases_plain cs)) = omega (arith, found.within, above (payload_offset r (cases_plain cs) + payloads_size (cases_plain cs)) (max (repr_size r) (payloads_align (cases_plain cs)))) in
      payload_can_read (at + payload_offset r (cases_plain cs)) c.tref (found.fit (both (node_fits (Plain.variant_of r (cases_plain cs))) _ k.fit).1) (omega (arith, room, k.size)) (omega (arith, room, k.end))

-- cases are at most 2^32
pub cases_few : (r : IntRepr) (cs : List Case) (at : ℕ) → CanRead at (Plain.variant_of r (cases_plain cs)) → length cs ≤ 2 ^ 32
cases_few r cs at c =
    let counts = (both (node_fits (Plain.variant_of r (cases_plain cs))) _ c.fit).0 in
    let below : arm_count (cases_plain cs) ≤ 2 ^ 32 = (decides-le (arm_count (cases_plain cs)) (2 ^ 32)).0 (both (nat_le (arm_count (cases_plain cs)) (2 ^ repr_bits r)) (nat_le (arm_count (cases_plain cs)) (2 ^ 32)) counts).1 in
    omega (arith, below, count-cases cs)

-- along an equation of types
pub can_read_by : (at : ℕ) (t q : Plain) → t ≡ q → CanRead at t → CanRead at q
can_read_by at t q e h = subst (λ t. CanRead at t) e h

pub case_can_read_by : (at : ℕ) (o p : Option TypeRef) → o ≡ p → CanReadCase at o → CanReadCase at p
case_can_read_by at o p e h = subst (CanReadCase at) e h

-- flags, and payloads in a box
pub flags_read : (r : IntRepr) (ms : List RecordMember) (m : Bytes) (at bits : ℕ) (result : Result Value ReadError) → number_at (repr_size r) m at ≡ Some bits → ReadAs seen (flags_at (length ms) bits) result → ReadAs seen (value_at (Plain.record_of (RecordKind.Bitflags r) (members_plain ms)) m at) result
flags_read r ms m at bits result h k = subst (λ o. ReadAs seen o result) (sym (ap (option_and_then (flags_at (field_count (members_plain ms)))) h ∙ ap (λ n. flags_at n bits) (count-members ms))) k

pub flags_none : (r : IntRepr) (ms : List RecordMember) (m : Bytes) (at : ℕ) → number_at (repr_size r) m at ≡ None → value_at (Plain.record_of (RecordKind.Bitflags r) (members_plain ms)) m at ≡ None
flags_none r ms m at h = ap (option_and_then (flags_at (field_count (members_plain ms)))) h

pub boxed_read : (t : Plain) (m : Bytes) (at : ℕ) (v : Value) (u : Box Value Global) → value_at t m at ≡ Some (seen v) → u.value ≡ v → option_map Some (value_at t m at) ≡ Some (option_map seen_in (Some u))
boxed_read t m at v u h e = ap (option_map Some) h ∙ ap (λ v. Some (Some (seen v))) (sym e)

pub boxed_refused : (t : Plain) (m : Bytes) (at : ℕ) (e : ReadError) → ReadAs seen (value_at t m at) (Err e) → ReadAs (option_map seen_in) (option_map Some (value_at t m at)) (Err e)
boxed_refused t m at e h = goes_on seen (option_map seen_in) (value_at t m at) (option_map Some (value_at t m at)) e (λ n. ap (option_map Some) n) h

pub ruleset read_rules = (read_first, read_done, number_below, number_above, number_none, no_case_read, case_below, bare_read, flags_read, flags_none, boxed_read, boxed_refused)
