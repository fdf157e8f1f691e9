-- What a loop has read and what is left make up the whole.
use Rattle.std.proofs.Common.{◌≡◌, ℕ, suc, ◌+◌, ◌-◌, ◌*◌, ◌^◌, ◌<◌, ◌≤◌, Bool, true, false, List, [], ◌∷◌, ◌++◌, length, drop, Ok, Err, inl, inr, refl, sym, ap, ◌∙◌, append_assoc, arith}
use Rattle.std.proofs.lemmas.Bool.{cases_lt}
use Rattle.std.proofs.lemmas.List.{append-nil, length-append, length-drop}
use Rattle.std.proofs.lemmas.Nat.{pow-add, pow_below}
use Rattle.std.proofs.lemmas.Str.{IsUtf8-from_is_utf8, is_utf8-from_IsUtf8}
use Rattle.std.specs.Str.{IsUtf8, is_utf8}
use Rattle.std.specs.Str.Lossy.{utf8_valid_len}
use Rattle.witx_wasm.specs.Readers.{Reading, ◌>>=◌, Refuses, many_at, sized_at, name_at}
use Rattle.witx_wasm.specs.declared.fault.FaultKind.TheVariants as kinds
use Rattle.witx_wasm.specs.declared.fault.ReadError.{ReadError}
use Rattle.witx_wasm.specs.declared.fault.ReadError.TheVariants as errors

-- values in front of those that are read
abbrev pub with_front : {A : Type 0} → List A → Reading (List A) → Reading (List A)
with_front front reading = reading >>= λ x. Ok (front ++ x.0, x.1)

front-again : {A : Type 0} (front : List A) (x : A) (reading : Reading (List A))
    → with_front front (reading >>= λ others. Ok (x ∷ others.0, others.1)) ≡ with_front (front ++ x ∷ []) reading
front-again front x (Ok others) = ap (λ xs. Ok (xs, others.1)) (sym (append_assoc front (x ∷ []) others.0))
front-again front x (Err e) = refl

module _ {A : Type 0} (read : List ℕ → Reading A) (front : List A) (count i : ℕ) (bytes : List ℕ) (total : Reading (List A)) where
  pub goes_on : (x : A) (behind : List ℕ) → i < count → read bytes ≡ Ok (x, behind) → with_front front (many_at read (count - i) bytes) ≡ total
      → with_front (front ++ x ∷ []) (many_at read (count - (i + 1)) behind) ≡ total
  unfolding many_at
  goes_on x behind lt h so_far =
      let k : count - i ≡ suc (count - (i + 1)) = omega arith in
      let one : with_front front (many_at read (count - i) bytes) ≡ with_front (front ++ x ∷ []) (many_at read (count - (i + 1)) behind) = rw (k, h) (front-again front x (many_at read (count - (i + 1)) behind)) in
      sym one ∙ so_far

  pub breaks : (e : ReadError) → i < count → Refuses e (read bytes) → with_front front (many_at read (count - i) bytes) ≡ total → Refuses e total
  unfolding many_at
  breaks errors.OutOfMemory lt h so_far = tt
  breaks (errors.Stop s) lt h so_far =
      let k : count - i ≡ suc (count - (i + 1)) = omega arith in
      let one : with_front front (many_at read (count - i) bytes) ≡ Err s = rw (k, h) refl in
      sym so_far ∙ one

  pub is_done : count ≤ i → with_front front (many_at read (count - i) bytes) ≡ total → total ≡ Ok (front, bytes)
  unfolding many_at
  is_done le so_far =
      let k : count - i ≡ 0 = omega arith in
      let one : with_front front (many_at read (count - i) bytes) ≡ Ok (front, bytes) = rw k (ap (λ xs. Ok (xs, bytes)) (append-nil front)) in
      sym so_far ∙ one

-- ---- numbers

split-bits : (bits : ℕ) → 7 < bits → bits ≡ bits - 7 + 7
split-bits bits more = omega arith

pub group-below : (bits high low : ℕ) → 7 < bits → high < 2 ^ (bits - 7) → low < 128 → 128 * high + low < 2 ^ bits
group-below bits high low more small least =
    let parts : 2 ^ bits ≡ 2 ^ (bits - 7) * 128 = ap (λ (k : ℕ). 2 ^ k) (split-bits bits more) ∙ pow-add 2 (bits - 7) 7 in
    omega (arith, parts, small, least)

pub below-32 : (bits : ℕ) → bits ≤ 32 → 2 ^ bits ≤ 4294967296
below-32 bits le =
    elim (cases_lt bits 32) [
      | inl lt ↦ let h = pow_below bits 32 lt in omega (arith, h)
      | inr ge ↦ let same : bits ≡ 32 = omega (arith, le, ge) in rw same (omega arith)
    ]

-- ---- names

pub name-read : (bytes text rest seen : List ℕ) → sized_at bytes ≡ Ok (text, rest) → IsUtf8 text → seen ≡ text → name_at bytes ≡ Ok (seen, rest)
unfolding name_at
name-read bytes text rest seen e valid same = rw (e, is_utf8-from_IsUtf8 text valid, same) refl

no-text : (text : List ℕ) (t : Bool) → is_utf8 text ≡ t → ¬ (IsUtf8 text) → is_utf8 text ≡ false
no-text text true is h = absurd (h (IsUtf8-from_is_utf8 text is))
no-text text false is h = is

pub name-refused : (bytes text rest : List ℕ) (valid : ℕ) → sized_at bytes ≡ Ok (text, rest) → ¬ (IsUtf8 text) → valid ≡ utf8_valid_len text
    → name_at bytes ≡ Err (record { kind = kinds.NotUtf8; left = length text - valid + length rest })
unfolding name_at
name-refused bytes text rest valid e invalid is =
    let left : length (drop (utf8_valid_len text) text ++ rest) ≡ length text - valid + length rest =
    length-append (drop (utf8_valid_len text) text) rest ∙ ap (λ (n : ℕ). n + length rest) (length-drop (utf8_valid_len text) text ∙ ap (λ (k : ℕ). length text - k) (sym is)) in
    rw (e, no-text text (is_utf8 text) refl invalid) (ap (λ (n : ℕ). Err (record { kind = kinds.NotUtf8; left = n })) left)
