-- Readings: what is read at the front of some bytes, with the bytes behind it, or where the reading stops. Small ones first, and
-- how readings are put together.
use Rattle.std.specs.Prelude.{◌≡◌, ◌+◌, ◌-◌, ◌*◌, ◌^◌, ℕ, zero, suc, List, [], ◌∷◌, ◌++◌, length, take, drop, Result, Ok, Err, nat_lt, ◌==◌, if◌then◌else◌}
use Rattle.std.specs.Str.{is_utf8}
use Rattle.std.specs.Str.Lossy.{utf8_valid_len}
use Rattle.witx_wasm.specs.declared.fault.FaultKind.{FaultKind}
use Rattle.witx_wasm.specs.declared.fault.FaultKind.TheVariants as kinds
use Rattle.witx_wasm.specs.declared.fault.ReadError.{ReadError}
use Rattle.witx_wasm.specs.declared.fault.ReadError.TheVariants as errors
use Rattle.witx_wasm.specs.declared.fault.Stop.{Stop}

-- what a reading gives: a value and the bytes behind it, or where it stops
abbrev pub Reading : Type 0 → Type 0
Reading A = Result (A × List ℕ) Stop

-- the one, and then the other behind it
infixl 10 ◌>>=◌
abbrev pub ◌>>=◌ : {A B E : Type 0} → Result A E → (A → Result B E) → Result B E
(Ok x) >>= next = next x
(Err e) >>= next = Err e

-- a stop in front of these bytes
abbrev pub stop : FaultKind → List ℕ → Stop
stop kind bytes = record { kind = kind; left = length bytes }

-- a reading that stops there
abbrev pub stops : {A : Type 0} → FaultKind → List ℕ → Result A Stop
stops kind bytes = Err (stop kind bytes)

-- an error is that of the reading, unless memory was refused
abbrev pub Refuses : {B : Type 0} → ReadError → Result B Stop → Type 0
Refuses errors.OutOfMemory reading = Unit {0}
Refuses (errors.Stop s) reading = reading ≡ Err s

-- what a function answers, seen by view, is what is read, unless memory was refused
abbrev pub ReadsBytes : {A B : Type 0} → (A → B) → Result A ReadError → Result B Stop → Type 0
ReadsBytes view (Ok x) reading = reading ≡ Ok (view x)
ReadsBytes view (Err e) reading = Refuses e reading

-- a byte; at the end of the bytes one is missing
unfoldable pub byte_at : List ℕ → Reading ℕ
byte_at [] = stops kinds.End []
byte_at (b ∷ bs) = Ok (b, bs)

-- this byte, or a fault of the kind at it
unfoldable pub expected_at : FaultKind → ℕ → List ℕ → Result (List ℕ) Stop
expected_at kind w [] = stops kinds.End []
expected_at kind w (b ∷ bs) = if b == w then Ok bs else stops kind (b ∷ bs)

-- these bytes, one by one
abbrev pub literal_at : FaultKind → List ℕ → List ℕ → Result (List ℕ) Stop
literal_at kind [] bytes = Ok bytes
literal_at kind (w ∷ ws) bytes = expected_at kind w bytes >>= literal_at kind ws

-- A number of at most `bits` bits. Its fault is the byte that goes beyond them: a last one with a bit too many, or one with which
-- another byte of the number would begin that has no bits left.
unfoldable pub unsigned_at : ℕ → List ℕ → Reading ℕ
unsigned_at bits [] = stops kinds.End []
unsigned_at bits (b ∷ bs) =
    if nat_lt b 128 then (if nat_lt b (2 ^ bits) then Ok (b, bs) else stops kinds.Number (b ∷ bs))
    else if nat_lt 7 bits then (unsigned_at (bits - 7) bs >>= λ high. Ok (128 * high.0 + (b - 128), high.1))
    else stops kinds.Number (b ∷ bs)

-- a number below 2^32
abbrev pub u32_at : List ℕ → Reading ℕ
u32_at = unsigned_at 32

-- so many values, one behind the other
unfoldable pub many_at : {A : Type 0} → (List ℕ → Reading A) → ℕ → List ℕ → Reading (List A)
many_at read zero bytes = Ok ([], bytes)
many_at read (suc n) bytes = do
  first ← read bytes
  others ← many_at read n first.1
  Ok (first.0 ∷ others.0, others.1)

-- how many, and then so many values
unfoldable pub vector_at : {A : Type 0} → (List ℕ → Reading A) → List ℕ → Reading (List A)
vector_at read bytes = do
  count ← u32_at bytes
  many_at read count.0 count.1

-- as many bytes as the number in front of them says; where there are fewer, the fault is at the end of them
unfoldable pub sized_at : List ℕ → Reading (List ℕ)
sized_at bytes = do
  size ← u32_at bytes
  if nat_lt (length size.1) size.0 then stops kinds.End [] else Ok (take size.0 size.1, drop size.0 size.1)

-- a name; its fault is where the longest beginning ends that is UTF-8, at the first byte of what is no character
unfoldable pub name_at : List ℕ → Reading (List ℕ)
name_at bytes = do
  text ← sized_at bytes
  if is_utf8 text.0 then Ok text else stops kinds.NotUtf8 (drop (utf8_valid_len text.0) text.0 ++ text.1)

-- a value that takes all of the bytes; its fault is the first byte behind it
unfoldable pub all_of : {A : Type 0} → Reading A → Result A Stop
all_of reading = do
  x ← reading
  if length x.1 == 0 then Ok x.0 else stops kinds.Excess x.1
