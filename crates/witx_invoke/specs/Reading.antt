-- What the reader takes from the head of a text under a type, and what follows it.
-- It reads loosely: a number is as many digits as stand there, which may be none, and one too large is the greatest. What is promised
-- is only that from the text of a value it takes that value; the texts of the values that are taken are compared afterwards.
use Rattle.std.specs.Prelude.{ℕ, zero, suc, ◌+◌, ◌-◌, ◌*◌, ◌^◌, min, List, [], ◌∷◌, Bool, true, false, cond, ℤ, pos, neg_ℤ, Option, Some, None, option_map, option_and_then, nat_eq}
use Rattle.std.specs.Borrow.{Bor}
use Rattle.std.specs.Char.{is_digit, digit_value}
use Rattle.witx_ast.specs.declared.types.RecordKind.{RecordKind}
use Rattle.witx_ast.specs.Plain.{Plain, Fields, Arms, field_count, all_bare}
use Rattle.witx_ast.specs.Tree.{Tree}
use Rattle.witx_ast.specs.Values.{Value, Values}
use Rattle.witx_bytes.specs.Seen.{seen}
use Rattle.witx_bytes.specs.declared.value.Value as bytes
use Rattle.witx_call.specs.Lines.{IsValueLine}

-- what follows a byte, if it stands at the head
abbrev pub past : ℕ → List ℕ → Option (List ℕ)
past b [] = None
past b (c ∷ s) = cond (nat_eq c b) (Some s) None

-- a number with one digit more
abbrev pub grown : ℕ → ℕ → ℕ
grown n d = min (n * 10 + d) (2 ^ 64 - 1)

-- a number with the digits at the head
abbrev pub digits_at : ℕ → List ℕ → ℕ × List ℕ
digits_at n [] = (n, [])
digits_at n (c ∷ s) = cond (is_digit c 10) (digits_at (grown n (digit_value c)) s) (n, c ∷ s)

-- a number of 32 bits
abbrev pub word_at : List ℕ → ℕ × List ℕ
word_at s = (min (digits_at 0 s).0 (2 ^ 32 - 1), (digits_at 0 s).1)

abbrev pub signed_behind : Option (List ℕ) → List ℕ → ℤ × List ℕ
signed_behind (Some behind) s = (neg_ℤ (pos (digits_at 0 behind).0), (digits_at 0 behind).1)
signed_behind None s = (pos (digits_at 0 s).0, (digits_at 0 s).1)

abbrev pub signed_at : List ℕ → ℤ × List ℕ
signed_at s = signed_behind (past 45 s) s

-- what was taken, made into something else
abbrev pub made : {A B : Type 0} → (A → B) → A × List ℕ → B × List ℕ
made f p = (f p.0, p.1)

-- one space between
abbrev pub item_past : ℕ → List ℕ → Option (List ℕ)
item_past zero s = Some s
item_past (suc i) s = past 32 s

abbrev pub flag_at : List ℕ → Option (Bool × List ℕ)
flag_at [] = None
flag_at (c ∷ s) = cond (nat_eq c 48) (Some (false, s)) (cond (nat_eq c 49) (Some (true, s)) None)

-- so many flags, the first being item i
abbrev pub flags_read : ℕ → ℕ → List ℕ → Option (List Bool × List ℕ)
flags_read i zero s = Some ([], s)
flags_read i (suc count) s =
    option_and_then (λ p. option_map (made (λ bs. p.0 ∷ bs)) (flags_read (suc i) count p.1)) (option_and_then flag_at (item_past i s))

-- what a closing byte ends
abbrev pub closed : {A : Type 0} → ℕ → A × List ℕ → Option (A × List ℕ)
closed b p = option_map (λ s. (p.0, s)) (past b p.1)

abbrev pub list_behind : ℕ × List ℕ → Option (Value × List ℕ)
list_behind a = option_map (λ s. made (Value.list_at a.0) (word_at s)) (past 43 a.1)

-- the number behind `#`
abbrev pub index_at : List ℕ → Option (ℕ × List ℕ)
index_at s = option_map word_at (past 35 s)

-- what stands at the head as the payload of case i
abbrev pub Payloads : Type 0
Payloads = ℕ → List ℕ → Option (Value × List ℕ)

-- `(` stands at the head where the case has a payload
abbrev pub case_behind : Option (List ℕ) → Payloads → List ℕ → Option (Value × List ℕ)
case_behind None payload s = option_map (made Value.bare_case) (index_at s)
case_behind (Some behind) payload s =
    option_and_then (λ p. option_and_then (closed 41) (option_map (made (Value.case_with p.0)) (option_and_then (payload p.0) (past 32 p.1)))) (index_at behind)

-- a case of a variant without payloads, or of another one
abbrev pub cases_at : Bool → Payloads → List ℕ → Option (Value × List ℕ)
cases_at true payload s = option_map (made Value.enum_index) (index_at s)
cases_at false payload s = case_behind (past 40 s) payload s

abbrev mutual
  pub type_at : Plain → List ℕ → Option (Value × List ℕ)
  type_at (Plain.builtin b) s = Some (made (Value.number b) (signed_at s))
  type_at Plain.handle s = Some (made Value.handle_number (word_at s))
  type_at (Plain.list_of t) s = option_and_then (λ s. list_behind (word_at s)) (past 64 s)
  type_at (Plain.pointer_to t) s = Some (made Value.address (word_at s))
  type_at (Plain.const_pointer_to t) s = Some (made Value.const_address (word_at s))
  type_at (Plain.record_of (RecordKind.Bitflags repr) ms) s =
      option_map (made Value.flag_bits) (option_and_then (closed 93) (option_and_then (flags_read 0 (field_count ms)) (past 91 s)))
  type_at (Plain.record_of RecordKind.Tuple ms) s =
      option_map (made Value.tuple_values) (option_and_then (closed 41) (option_and_then (members_at 0 ms) (past 40 s)))
  type_at (Plain.record_of RecordKind.Other ms) s =
      option_map (made Value.record_values) (option_and_then (closed 41) (option_and_then (members_at 0 ms) (past 40 s)))
  type_at (Plain.variant_of repr cs) s = cases_at (all_bare cs) (payload_at cs) s

  -- a value for each member, the first being item i
  pub members_at : ℕ → Fields → List ℕ → Option (Values × List ℕ)
  members_at i Fields.no_fields s = Some (Values.no_values, s)
  members_at i (Fields.field name t ms) s =
      option_and_then (λ p. option_map (made (Values.value_then p.0)) (members_at (suc i) ms p.1)) (option_and_then (type_at t) (item_past i s))

  -- the payload of case i, if it has one
  pub payload_at : Arms → ℕ → List ℕ → Option (Value × List ℕ)
  payload_at Arms.no_arms i s = None
  payload_at (Arms.bare name cs) zero s = None
  payload_at (Arms.bare name cs) (suc i) s = payload_at cs i s
  payload_at (Arms.carries name t cs) zero s = type_at t s
  payload_at (Arms.carries name t cs) (suc i) s = payload_at cs i s

-- as the program has what it takes: f says what it is
abbrev pub taken : {A B : Type 0} → (A → B) → A × Bor (List ℕ) → B × List ℕ
taken f p = (f p.0, p.1.now)

-- a line of the text is a value of the program, and this follows the line
abbrev pub TakesLine : Tree → List ℕ → bytes.Value × Bor (List ℕ) → Type 0
TakesLine t text p = IsValueLine t text (seen p.0) p.1.now
