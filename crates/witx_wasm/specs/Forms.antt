-- Forms: which bytes a value has. A form of a value is what holds of its bytes.
--
-- They follow the WebAssembly core specification, whose sections are named by their titles, in parentheses.
use Rattle.std.specs.Prelude.{◌≡◌, ◌<◌, ◌≤◌, ◌+◌, ◌-◌, ◌*◌, ◌^◌, ℕ, List, [], ◌∷◌, ◌++◌, length}
use Rattle.std.specs.Str.{IsUtf8}

-- no bytes
abbrev pub nothing : List ℕ → Type 0
nothing bytes = bytes ≡ []

-- just these bytes
abbrev pub just : List ℕ → List ℕ → Type 0
just text bytes = bytes ≡ text

-- this one byte (Binary Format, Values, Bytes)
abbrev pub byte : ℕ → List ℕ → Type 0
byte b = just (b ∷ [])

-- bytes of the one form, and then bytes of the other (Binary Format, Conventions, Grammar)
infixr 10 ◌before◌
abbrev pub ◌before◌ : (List ℕ → Type 0) → (List ℕ → Type 0) → List ℕ → Type 0
(P before Q) bytes = (front : List ℕ) × (back : List ℕ) × (bytes ≡ front ++ back) × P front × Q back

-- A number of at most `bits` bits, in groups of seven from the lowest: each byte but the last is 128 more than its group.
-- The last byte has no bits beyond those of the number, but it may be 0. (Binary Format, Values, Integers)
abbrev pub IsUnsigned : ℕ → ℕ → List ℕ → Type 0
IsUnsigned bits n [] = ⊥
IsUnsigned bits n (b ∷ []) = (b < 128) × (b < 2 ^ bits) × (n ≡ b)
IsUnsigned bits n (b ∷ c ∷ bs) = (128 ≤ b) × (7 < bits) × (high : ℕ) × IsUnsigned (bits - 7) high (c ∷ bs) × (n ≡ 128 * high + (b - 128))

-- a number below 2^32 (Binary Format, Values, Integers)
abbrev pub IsU32 : ℕ → List ℕ → Type 0
IsU32 = IsUnsigned 32

-- values of one form, one behind the other
abbrev pub AreMany : {A : Type 0} → (A → List ℕ → Type 0) → List A → List ℕ → Type 0
AreMany R [] = nothing
AreMany R (x ∷ xs) = R x before AreMany R xs

-- how many, and then the values (Binary Format, Conventions, Vectors)
abbrev pub IsVector : {A : Type 0} → (A → List ℕ → Type 0) → List A → List ℕ → Type 0
IsVector R xs = IsU32 (length xs) before AreMany R xs

-- bytes behind their number, as a vector of bytes is one (Binary Format, Conventions, Vectors)
abbrev pub IsSized : List ℕ → List ℕ → Type 0
IsSized text = IsU32 (length text) before just text

-- a name: a vector of bytes that are UTF-8 (Binary Format, Values, Names)
abbrev pub IsName : List ℕ → List ℕ → Type 0
IsName text bytes = IsSized text bytes × IsUtf8 text
