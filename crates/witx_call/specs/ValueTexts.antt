-- The text of a value, one spelling each.
-- Numbers, handles and addresses are decimal, with `-` for less than 0 and without a needless zero; floats are their bits, characters
-- their scalar values. A list is `@A+L`, flags are `[..]`, tuples and records `(..)`, their items with one space between; a case is `#i`,
-- and with its payload `(#i p)`.
use Rattle.std.specs.Prelude.{ℕ, zero, suc, List, [], ◌∷◌, ◌++◌, Bool, true, false, codes}
use Rattle.std.specs.Fmt.{decimal, signed_decimal}
use Rattle.witx_ast.specs.Values.{Value, Values}

-- one space between: nothing before the first item, a space before each other
abbrev pub space_before : ℕ → List ℕ
space_before zero = []
space_before (suc i) = codes " "

abbrev pub flag_text : Bool → List ℕ
flag_text true = codes "1"
flag_text false = codes "0"

-- flags, the first of them being item i
abbrev pub flags_text : ℕ → List Bool → List ℕ
flags_text i [] = []
flags_text i (b ∷ bs) = space_before i ++ flag_text b ++ flags_text (suc i) bs

abbrev mutual
  pub value_text : Value → List ℕ
  value_text (Value.number k n) = signed_decimal n
  value_text (Value.handle_number n) = decimal n
  value_text (Value.address n) = decimal n
  value_text (Value.const_address n) = decimal n
  value_text (Value.list_at a l) = codes "@" ++ decimal a ++ codes "+" ++ decimal l
  value_text (Value.flag_bits bits) = codes "[" ++ flags_text 0 bits ++ codes "]"
  value_text (Value.tuple_values vs) = codes "(" ++ values_text 0 vs ++ codes ")"
  value_text (Value.record_values vs) = codes "(" ++ values_text 0 vs ++ codes ")"
  value_text (Value.enum_index i) = codes "#" ++ decimal i
  value_text (Value.bare_case i) = codes "#" ++ decimal i
  value_text (Value.case_with i v) = codes "(#" ++ decimal i ++ codes " " ++ value_text v ++ codes ")"

  -- values, the first of them being item i
  pub values_text : ℕ → Values → List ℕ
  values_text i Values.no_values = []
  values_text i (Values.value_then v vs) = space_before i ++ value_text v ++ values_text (suc i) vs
