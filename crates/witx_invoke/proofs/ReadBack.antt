-- From the text of a value of a type the reader takes this value, whatever follows it that begins with no digit.
use Rattle.std.proofs.Common.{◌≡◌, ℕ, zero, suc, ◌^◌, ◌<◌, ◌≤◌, List, [], ◌∷◌, ◌++◌, Bool, true, false, Some, option_map, option_and_then, ℤ, pos, negsuc, refl, sym, ap, ◌∙◌, arith, append_assoc, length, inl, inr}
use Rattle.std.specs.Fmt.{decimal, signed_decimal}
use Rattle.witx_ast.specs.declared.types.BuiltinType.{BuiltinType}
use Rattle.witx_ast.specs.declared.types.IntRepr.{IntRepr}
use Rattle.witx_ast.specs.declared.types.RecordKind.{RecordKind}
use Rattle.witx_ast.specs.Plain.{Plain, Fields, Arms, field_count, arm_count, all_bare}
use Rattle.witx_ast.specs.Tags.{AllFit, AllFieldsFit, AllArmsFit}
use Rattle.witx_ast.specs.Values.{Value, Values, InRange, IsValue, AreValues, IsBareCase, IsCaseWith}
use Rattle.witx_bytes.proofs.ReadBack.{bare-below, with-below, with-payload}
use Rattle.witx_call.specs.ValueTexts.{value_text, values_text, flags_text, flag_text, space_before}
use Rattle.witx_invoke.specs.Reading.{past, made, item_past, flag_at, flags_read, closed, list_behind, index_at, cases_at, type_at, members_at, payload_at, signed_at}
use Rattle.witx_invoke.proofs.Numbers.{Stops, word-taken, signed-taken, negative-taken}

-- numbers of a builtin's range
module _ (rest : List ℕ) (s : Stops rest) where
  above : (n m : ℕ) → n < m → m ≤ 2 ^ 64 → signed_at (signed_decimal (pos n) ++ rest) ≡ (pos n, rest)
  above n m l u = signed-taken n rest (omega (arith, l, u)) s

  below : (n m : ℕ) → n < m → m < 2 ^ 64 → signed_at (signed_decimal (negsuc n) ++ rest) ≡ (negsuc n, rest)
  below n m l u = negative-taken n rest (omega (arith, l, u)) s

  scalar : (n : ℕ) → InRange BuiltinType.Char (pos n) → signed_at (signed_decimal (pos n) ++ rest) ≡ (pos n, rest)
  scalar n (inl l) = above n 0xD800 l (omega arith)
  scalar n (inr l) = above n 0x110000 l.1 (omega arith)

  number-taken : (b : BuiltinType) (n : ℤ) → InRange b n → signed_at (signed_decimal n ++ rest) ≡ (n, rest)
  number-taken BuiltinType.Char (pos n) h = scalar n h
  number-taken BuiltinType.Char (negsuc n) h = absurd h
  number-taken (BuiltinType.U8 c) (pos n) h = above n (2 ^ 8) h (omega arith)
  number-taken (BuiltinType.U8 c) (negsuc n) h = absurd h
  number-taken BuiltinType.U16 (pos n) h = above n (2 ^ 16) h (omega arith)
  number-taken BuiltinType.U16 (negsuc n) h = absurd h
  number-taken (BuiltinType.U32 p) (pos n) h = above n (2 ^ 32) h (omega arith)
  number-taken (BuiltinType.U32 p) (negsuc n) h = absurd h
  number-taken BuiltinType.U64 (pos n) h = above n (2 ^ 64) h (omega arith)
  number-taken BuiltinType.U64 (negsuc n) h = absurd h
  number-taken BuiltinType.S8 (pos n) h = above n (2 ^ 7) h (omega arith)
  number-taken BuiltinType.S8 (negsuc n) h = below n (2 ^ 7) h (omega arith)
  number-taken BuiltinType.S16 (pos n) h = above n (2 ^ 15) h (omega arith)
  number-taken BuiltinType.S16 (negsuc n) h = below n (2 ^ 15) h (omega arith)
  number-taken BuiltinType.S32 (pos n) h = above n (2 ^ 31) h (omega arith)
  number-taken BuiltinType.S32 (negsuc n) h = below n (2 ^ 31) h (omega arith)
  number-taken BuiltinType.S64 (pos n) h = above n (2 ^ 63) h (omega arith)
  number-taken BuiltinType.S64 (negsuc n) h = below n (2 ^ 63) h (omega arith)
  number-taken BuiltinType.F32 (pos n) h = above n (2 ^ 32) h (omega arith)
  number-taken BuiltinType.F32 (negsuc n) h = absurd h
  number-taken BuiltinType.F64 (pos n) h = above n (2 ^ 64) h (omega arith)
  number-taken BuiltinType.F64 (negsuc n) h = absurd h

  pub builtin-taken : (b k : BuiltinType) (n : ℤ) → k ≡ b → InRange b n → type_at (Plain.builtin b) (value_text (Value.number k n) ++ rest) ≡ Some (Value.number k n, rest)
  builtin-taken b k n e h = ap (λ p. Some (made (Value.number b) p)) (number-taken b n h) ∙ ap (λ b. Some (Value.number b n, rest)) (sym e)

  pub list-taken : (t : Plain) (a l : ℕ) → a < 2 ^ 32 → l < 2 ^ 32 → type_at (Plain.list_of t) (value_text (Value.list_at a l) ++ rest) ≡ Some (Value.list_at a l, rest)
  list-taken t a l x y =
      let spelled : value_text (Value.list_at a l) ++ rest ≡ 64 ∷ (decimal a ++ (43 ∷ (decimal l ++ rest))) = simp append_assoc in
      ap (type_at (Plain.list_of t)) spelled
      ∙ ap list_behind (word-taken a (43 ∷ (decimal l ++ rest)) x refl)
      ∙ ap (λ p. Some (made (Value.list_at a) p)) (word-taken l rest y s)

-- one space between
item-taken : (i : ℕ) (s : List ℕ) → item_past i (space_before i ++ s) ≡ Some s
item-taken zero s = refl
item-taken (suc i) s = refl

flag-taken : (b : Bool) (s : List ℕ) → flag_at (flag_text b ++ s) ≡ Some (b, s)
flag-taken true s = refl
flag-taken false s = refl

grouped : (a b c rest : List ℕ) → ((a ++ b) ++ c) ++ rest ≡ a ++ (b ++ (c ++ rest))
grouped a b c rest = simp append_assoc

pub flags-taken : (i : ℕ) (bits : List Bool) (rest : List ℕ) → flags_read i (length bits) (flags_text i bits ++ rest) ≡ Some (bits, rest)
flags-taken i [] rest = refl
flags-taken i (b ∷ bits) rest =
    ap (flags_read i (suc (length bits))) (grouped (space_before i) (flag_text b) (flags_text (suc i) bits) rest)
    ∙ ap (λ o. option_and_then (λ p. option_map (made (λ bs. p.0 ∷ bs)) (flags_read (suc i) (length bits) p.1)) (option_and_then flag_at o)) (item-taken i (flag_text b ++ (flags_text (suc i) bits ++ rest)))
    ∙ ap (option_and_then (λ p. option_map (made (λ bs. p.0 ∷ bs)) (flags_read (suc i) (length bits) p.1))) (flag-taken b (flags_text (suc i) bits ++ rest))
    ∙ ap (option_map (made (λ bs. b ∷ bs))) (flags-taken (suc i) bits rest)

-- what stands between an opening and a closing byte
enclosed : (first last : ℕ) (inside rest : List ℕ) → (((first ∷ []) ++ inside) ++ (last ∷ [])) ++ rest ≡ first ∷ (inside ++ (last ∷ rest))
enclosed first last inside rest = simp append_assoc

pub bits-taken : (r : IntRepr) (ms : Fields) (bits : List Bool) (rest : List ℕ) → length bits ≡ field_count ms → type_at (Plain.record_of (RecordKind.Bitflags r) ms) (value_text (Value.flag_bits bits) ++ rest) ≡ Some (Value.flag_bits bits, rest)
bits-taken r ms bits rest h =
    ap (type_at (Plain.record_of (RecordKind.Bitflags r) ms)) (enclosed 91 93 (flags_text 0 bits) rest)
    ∙ ap (λ o. option_map (made Value.flag_bits) (option_and_then (closed 93) o)) (ap (λ n. flags_read 0 n (flags_text 0 bits ++ (93 ∷ rest))) (sym h) ∙ flags-taken 0 bits (93 ∷ rest))

-- a number behind `#`
index-taken : (i : ℕ) (rest : List ℕ) → i < 2 ^ 32 → Stops rest → index_at (35 ∷ (decimal i ++ rest)) ≡ Some (i, rest)
index-taken i rest l s = ap Some (word-taken i rest l s)

pub enum-taken : (r : IntRepr) (cs : Arms) (i : ℕ) (rest : List ℕ) → all_bare cs ≡ true → i < arm_count cs → arm_count cs ≤ 2 ^ 32 → Stops rest → type_at (Plain.variant_of r cs) (value_text (Value.enum_index i) ++ rest) ≡ Some (Value.enum_index i, rest)
enum-taken r cs i rest e l u s =
    ap (λ b. cases_at b (payload_at cs) (35 ∷ (decimal i ++ rest))) e
    ∙ ap (option_map (made Value.enum_index)) (index-taken i rest (omega (arith, l, u)) s)

pub bare-taken : (r : IntRepr) (cs : Arms) (i : ℕ) (rest : List ℕ) → all_bare cs ≡ false → IsBareCase cs i → arm_count cs ≤ 2 ^ 32 → Stops rest → type_at (Plain.variant_of r cs) (value_text (Value.bare_case i) ++ rest) ≡ Some (Value.bare_case i, rest)
bare-taken r cs i rest e h u s =
    let l = bare-below cs i h in
    ap (λ b. cases_at b (payload_at cs) (35 ∷ (decimal i ++ rest))) e
    ∙ ap (option_map (made Value.bare_case)) (index-taken i rest (omega (arith, l, u)) s)

case-spelled : (i : ℕ) (v : Value) (rest : List ℕ) → value_text (Value.case_with i v) ++ rest ≡ 40 ∷ 35 ∷ (decimal i ++ (32 ∷ (value_text v ++ (41 ∷ rest))))
case-spelled i v rest = simp append_assoc

pub case-taken : (r : IntRepr) (cs : Arms) (i : ℕ) (v : Value) (rest : List ℕ) → IsCaseWith cs i v → arm_count cs ≤ 2 ^ 32
    → payload_at cs i (value_text v ++ (41 ∷ rest)) ≡ Some (v, 41 ∷ rest) → type_at (Plain.variant_of r cs) (value_text (Value.case_with i v) ++ rest) ≡ Some (Value.case_with i v, rest)
case-taken r cs i v rest h u p =
    let l = with-below cs i v h in
    ap (type_at (Plain.variant_of r cs)) (case-spelled i v rest)
    ∙ ap (λ b. cases_at b (payload_at cs) (40 ∷ 35 ∷ (decimal i ++ (32 ∷ (value_text v ++ (41 ∷ rest)))))) (with-payload cs i v h)
    ∙ ap (option_and_then (λ p. option_and_then (closed 41) (option_map (made (Value.case_with p.0)) (option_and_then (payload_at cs p.0) (past 32 p.1))))) (index-taken i (32 ∷ (value_text v ++ (41 ∷ rest))) (omega (arith, l, u)) refl)
    ∙ ap (λ o. option_and_then (closed 41) (option_map (made (Value.case_with i)) o)) p

values-stop : (i : ℕ) (vs : Values) (rest : List ℕ) → Stops rest → Stops (values_text (suc i) vs ++ rest)
values-stop i Values.no_values rest s = s
values-stop i (Values.value_then v vs) rest s = refl

mutual
  pub type-taken : (t : Plain) (v : Value) (rest : List ℕ) → IsValue t v → AllFit t → Stops rest → type_at t (value_text v ++ rest) ≡ Some (v, rest)
  type-taken (Plain.builtin b) (Value.number k n) rest h f s = builtin-taken rest s b k n h.0 h.1
  type-taken Plain.handle (Value.handle_number n) rest h f s = ap (λ p. Some (made Value.handle_number p)) (word-taken n rest h s)
  type-taken (Plain.list_of t) (Value.list_at a l) rest h f s = list-taken rest s t a l h.0 h.1
  type-taken (Plain.pointer_to t) (Value.address n) rest h f s = ap (λ p. Some (made Value.address p)) (word-taken n rest h s)
  type-taken (Plain.const_pointer_to t) (Value.const_address n) rest h f s = ap (λ p. Some (made Value.const_address p)) (word-taken n rest h s)
  type-taken (Plain.record_of (RecordKind.Bitflags r) ms) (Value.flag_bits bits) rest h f s = bits-taken r ms bits rest h
  type-taken (Plain.record_of RecordKind.Tuple ms) (Value.tuple_values vs) rest h f s =
      ap (type_at (Plain.record_of RecordKind.Tuple ms)) (enclosed 40 41 (values_text 0 vs) rest)
      ∙ ap (λ o. option_map (made Value.tuple_values) (option_and_then (closed 41) o)) (members-taken 0 ms vs (41 ∷ rest) h f.1 refl)
  type-taken (Plain.record_of RecordKind.Other ms) (Value.record_values vs) rest h f s =
      ap (type_at (Plain.record_of RecordKind.Other ms)) (enclosed 40 41 (values_text 0 vs) rest)
      ∙ ap (λ o. option_map (made Value.record_values) (option_and_then (closed 41) o)) (members-taken 0 ms vs (41 ∷ rest) h f.1 refl)
  type-taken (Plain.variant_of r cs) (Value.enum_index i) rest h f s = enum-taken r cs i rest h.0 h.1 f.0.1 s
  type-taken (Plain.variant_of r cs) (Value.bare_case i) rest h f s = bare-taken r cs i rest h.0 h.1 f.0.1 s
  type-taken (Plain.variant_of r cs) (Value.case_with i v) rest h f s = case-taken r cs i v rest h f.0.1 (payload-taken cs i v (41 ∷ rest) h f.1 refl)
  type-taken _ _ rest h f s = absurd h

  pub members-taken : (i : ℕ) (ms : Fields) (vs : Values) (rest : List ℕ) → AreValues ms vs → AllFieldsFit ms → Stops rest → members_at i ms (values_text i vs ++ rest) ≡ Some (vs, rest)
  members-taken i Fields.no_fields Values.no_values rest h f s = refl
  members-taken i (Fields.field name t ms) (Values.value_then v vs) rest h f s =
      ap (members_at i (Fields.field name t ms)) (grouped (space_before i) (value_text v) (values_text (suc i) vs) rest)
      ∙ ap (λ o. option_and_then (λ p. option_map (made (Values.value_then p.0)) (members_at (suc i) ms p.1)) (option_and_then (type_at t) o)) (item-taken i (value_text v ++ (values_text (suc i) vs ++ rest)))
      ∙ ap (option_and_then (λ p. option_map (made (Values.value_then p.0)) (members_at (suc i) ms p.1))) (type-taken t v (values_text (suc i) vs ++ rest) h.0 f.0 (values-stop i vs rest s))
      ∙ ap (option_map (made (Values.value_then v))) (members-taken (suc i) ms vs rest h.1 f.1 s)
  members-taken i _ _ rest h f s = absurd h

  pub payload-taken : (cs : Arms) (i : ℕ) (v : Value) (rest : List ℕ) → IsCaseWith cs i v → AllArmsFit cs → Stops rest → payload_at cs i (value_text v ++ rest) ≡ Some (v, rest)
  payload-taken Arms.no_arms i v rest h f s = absurd h
  payload-taken (Arms.bare name cs) zero v rest h f s = absurd h
  payload-taken (Arms.bare name cs) (suc i) v rest h f s = payload-taken cs i v rest h f s
  payload-taken (Arms.carries name t cs) zero v rest h f s = type-taken t v rest h f.0 s
  payload-taken (Arms.carries name t cs) (suc i) v rest h f s = payload-taken cs i v rest h f.1 s
