-- Names, texts and documentation as C has them.
use Rattle.std.specs.Prelude.{ℕ, ◌+◌, ◌/◌, ◌%◌, List, [], ◌∷◌, ◌++◌, Bool, false, ◌&&◌, ◌||◌, ◌==◌, not, nat_lt, map, codes, encode_utf8, if◌then◌else◌}
use Rattle.std.specs.List.{flat_map}
use Rattle.std.specs.Str.{chars}
use Rattle.std.specs.Char.{is_ascii_alphanumeric, is_ascii_digit, to_ascii_uppercase}
use Rattle.std.specs.Int.{is_in_range}

-- what a name of C is made of: a byte that is no letter, digit or underscore becomes an underscore
abbrev pub word_byte : ℕ → ℕ
word_byte b = if is_ascii_alphanumeric b || b == 95 then b else 95

abbrev pub c_name : List ℕ → List ℕ
c_name name = map word_byte name

-- the same in upper case
abbrev pub upper_byte : ℕ → ℕ
upper_byte b = to_ascii_uppercase (word_byte b)

abbrev pub c_upper : List ℕ → List ℕ
c_upper name = map upper_byte name

-- a function of a module, as it is imported
abbrev pub imported_name : (owner name : List ℕ) → List ℕ
imported_name owner name = codes "__imported_" ++ c_name owner ++ codes "_" ++ c_name name

abbrev pub begins_with_digit : List ℕ → Bool
begins_with_digit [] = false
begins_with_digit (b ∷ bs) = is_ascii_digit b

-- a member's name may not begin with a digit, as those of tuples do
abbrev pub member_name : List ℕ → List ℕ
member_name name = (if begins_with_digit name then codes "_" else []) ++ c_name name

-- in a literal of C a printed character of ASCII stands for itself, but for `"`, `\` and `?`, which begins a trigraph
abbrev pub stands_alone : ℕ → Bool
stands_alone b = is_in_range 32 126 b && not (b == 34 || b == 92 || b == 63)

-- any other byte is a backslash and its three octal digits
abbrev pub octal : ℕ → List ℕ
octal b = 92 ∷ (48 + b / 64) ∷ (48 + b / 8 % 8) ∷ (48 + b % 8) ∷ []

abbrev pub literal_byte : ℕ → List ℕ
literal_byte b = if stands_alone b then b ∷ [] else octal b

abbrev pub literal : List ℕ → List ℕ
literal text = codes "\"" ++ flat_map literal_byte text ++ codes "\""

-- a blank keeps a comment from ending, and another from beginning, inside it
abbrev pub kept_apart : (before now : ℕ) → List ℕ
kept_apart before now = if (before == 42 && now == 47) || (before == 47 && now == 42) then codes " " else []

-- a line goes on behind the margin; other control characters are blanks
abbrev pub comment_character : List ℕ → ℕ → List ℕ
comment_character margin c = if c == 10 then codes "\n" ++ margin ++ codes " * " else (if nat_lt c 32 then codes " " else encode_utf8 c)

-- characters behind another one
abbrev pub comment_from : List ℕ → ℕ → List ℕ → List ℕ
comment_from margin before [] = []
comment_from margin before (c ∷ cs) = (kept_apart before c ++ comment_character margin c) ++ comment_from margin c cs

-- documentation as a comment; there is none where there is no documentation
abbrev pub comment : (margin docs : List ℕ) → List ℕ
comment margin [] = []
comment margin (b ∷ bs) =
    (margin ++ codes "/**\n" ++ margin ++ codes " * ") ++ comment_from margin 32 (chars (b ∷ bs)) ++ (codes "\n" ++ margin ++ codes " */\n")
