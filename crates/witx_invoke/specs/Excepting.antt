-- Which reply is excepted, told by its value alone: under Preview1, an error whose one word is 0.
use Rattle.std.specs.Prelude.{ℕ, zero, suc, ℤ, pos, negsuc, Bool, false, nat_eq, Option, Some, None}
use Rattle.witx_ast.specs.declared.function.Abi.{Abi}
use Rattle.witx_ast.specs.Values.{Value}
use Rattle.witx_machine.specs.Words.{bits_of_flags}

abbrev pub is_zero_number : ℤ → Bool
is_zero_number (pos n) = nat_eq n 0
is_zero_number (negsuc n) = false

-- a value of one word, which is 0
abbrev pub has_zero_word : Value → Bool
has_zero_word (Value.number b n) = is_zero_number n
has_zero_word (Value.handle_number n) = nat_eq n 0
has_zero_word (Value.address n) = nat_eq n 0
has_zero_word (Value.const_address n) = nat_eq n 0
has_zero_word (Value.flag_bits bits) = nat_eq (bits_of_flags bits) 0
has_zero_word (Value.enum_index i) = nat_eq i 0
has_zero_word _ = false

-- the second case, with a payload whose word is 0
abbrev pub is_zero_case : Option Value → ℕ → Bool
is_zero_case None i = false
is_zero_case (Some p) zero = false
is_zero_case (Some p) (suc zero) = has_zero_word p
is_zero_case (Some p) (suc (suc i)) = false

abbrev pub is_zero_error : Value → Bool
is_zero_error (Value.case_with i p) = is_zero_case (Some p) i
is_zero_error _ = false

abbrev pub is_excepted : Abi → Option Value → Bool
is_excepted Abi.Preview1 (Some v) = is_zero_error v
is_excepted Abi.Preview1 None = false
is_excepted Abi.Stored reply = false
