-- The number that an integer token writes: an optional +, then decimal digits, or 0x and hexadecimal digits; each _ between them stands for nothing.
use Rattle.std.specs.Prelude.{ℕ, Bool, ◌&&◌, ◌==◌, nat_lt, ◌^◌, if◌then◌else◌, List, Option, Some, None, drop, filter, slice_index}
use Rattle.std.specs.Char.{is_digit}
use Rattle.std.specs.Str.Parse.{digits_value}
use Rattle.witx_lex.specs.Meaning.{unsigned}

-- the number that digits of the base write, whatever stands between them
abbrev pub number : ℕ → List ℕ → ℕ
number base ds = digits_value base (filter (λ b. is_digit b base) ds)

-- 0x stands first
abbrev pub is_hexadecimal : List ℕ → Bool
is_hexadecimal r = slice_index r 0 == 48 && slice_index r 1 == 120

abbrev pub unsigned_value : List ℕ → ℕ
unsigned_value r = if is_hexadecimal r then number 16 (drop 2 r) else number 10 r

unfoldable pub int_value : List ℕ → ℕ
int_value r = unsigned_value (unsigned r)

-- the number is below 2^64
unfoldable pub is_small : List ℕ → Bool
is_small r = nat_lt (unsigned_value (unsigned r)) (2 ^ 64)

-- the number, if it is below 2^64
abbrev pub small : ℕ → Option ℕ
small n = if nat_lt n (2 ^ 64) then Some n else None
