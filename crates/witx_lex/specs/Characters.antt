-- The classes of characters. A text is the list of its UTF-8 bytes, so each class is a set of bytes;
-- a byte of 128 or more belongs to a character outside ASCII.
use Rattle.std.specs.Prelude.{ℕ, Bool, false, not, ◌&&◌, ◌||◌, ◌==◌, nat_lt, nat_le, if◌then◌else◌, List, [], ◌∷◌, Option, Some, None, filter}
use Rattle.std.specs.Char.{is_digit}
use Rattle.std.specs.Str.Parse.{digits_value}

abbrev pub line_feed : ℕ
line_feed = 10

abbrev pub quote : ℕ
quote = 34

abbrev pub dollar : ℕ
dollar = 36

abbrev pub left_paren : ℕ
left_paren = 40

abbrev pub right_paren : ℕ
right_paren = 41

abbrev pub plus : ℕ
plus = 43

abbrev pub semicolon : ℕ
semicolon = 59

abbrev pub at_sign : ℕ
at_sign = 64

abbrev pub backslash : ℕ
backslash = 92

abbrev pub underscore : ℕ
underscore = 95

-- space, tab, line feed, carriage return
abbrev pub is_blank : ℕ → Bool
is_blank b = b == 32 || b == 9 || b == line_feed || b == 13

-- A name character: an ASCII letter, a digit, or one of ! # $ % & ' * + - . / : < = > ? @ \ ^ _ ` | ~
-- These are all from ! to ~ but the quote, the parentheses, the comma, the semicolon, brackets and braces.
abbrev pub is_name_character : ℕ → Bool
is_name_character b = (nat_lt 32 b && nat_lt b 127)
    && not (b == quote || b == left_paren || b == right_paren || b == 44 || b == semicolon || b == 91 || b == 93 || b == 123 || b == 125)

-- what a comment may hold that ends with its line
abbrev pub is_line_byte : ℕ → Bool
is_line_byte b = not (b == line_feed)

-- what may not stand in a string: a character below U+0020, or U+007F
abbrev pub is_control : ℕ → Bool
is_control b = nat_lt b 32 || b == 127

-- what stands for itself in a string
abbrev pub is_raw : ℕ → Bool
is_raw b = not (is_control b) && not (b == quote || b == backslash)

-- the byte that one character behind a backslash stands for: t n r " ' \
abbrev pub letter_value : ℕ → Option ℕ
letter_value c =
    if c == 116 then Some 9
    else if c == 110 then Some line_feed
    else if c == 114 then Some 13
    else if c == quote || c == 39 || c == backslash then Some c
    else None

-- a Unicode scalar value: any code but the surrogates
abbrev pub is_unicode_scalar : ℕ → Bool
is_unicode_scalar c = nat_lt c 0xD800 || (nat_le 0xE000 c && nat_le c 0x10_FFFF)

-- what may stand between the braces of an escape: hexadecimal digits and _
abbrev pub is_digit_or_underscore : ℕ → Bool
is_digit_or_underscore b = is_digit b 16 || b == underscore

-- digits of the base with single _ between them: one digit, alone or before digits, or before a _ and digits
abbrev pub are_digits : ℕ → List ℕ → Bool
are_digits base [] = false
are_digits base (b ∷ []) = is_digit b base
are_digits base (b ∷ c ∷ bs) = is_digit b base && (are_digits base (c ∷ bs) || (c == underscore && are_digits base bs))

-- the number that hexadecimal digits write, whatever stands between them
abbrev pub scalar_value : List ℕ → ℕ
scalar_value ds = digits_value 16 (filter (λ b. is_digit b 16) ds)

-- the text begins with a byte that passes
abbrev pub begins : (ℕ → Bool) → List ℕ → Bool
begins test [] = false
begins test (b ∷ bs) = test b
