-- A loop over the addresses of a range puts each byte; and ranges that stand below a bound, as the program has them.
use Rattle.std.proofs.Common.{◌≡◌, ℕ, zero, suc, ◌+◌, ◌<◌, ◌≤◌, ◌^◌, List, [], ◌∷◌, ◌++◌, All, length, get_or, drop, map, refl, sym, ap, ◌∙◌, subst, arith}
use Rattle.std.proofs.lemmas.List.Elements.{All-cons}
use Rattle.std.specs.List.{flat_map}
use Rattle.witx_machine.specs.Cells.{Taken}
use Rattle.witx_machine.specs.Run.{numbers}
use Rattle.witx_adapt.proofs.Appending.{flat-end, flat-more}
use Rattle.witx_ast.specs.Plain.{plain}
use Rattle.witx_bytes.specs.ByteMachine.{range_size}
use Rattle.witx_bytes.specs.Bytes.{Bytes}
use Rattle.witx_call.specs.CallSeen.{placed_of}
use Rattle.witx_call.specs.Ranges.{EndBelow, range_end, ranges}
use Rattle.witx_call.specs.declared.call_seen.Placed.{Placed}
use Rattle.witx_tools.specs.InvokeTexts.{byte_text}

-- ---- the bytes of a range

numbers-length : (k n : ℕ) → length (numbers k n) ≡ n
numbers-length k zero = refl
numbers-length k (suc n) = ap suc (numbers-length (k + 1) n)

numbers-at : (k n i d : ℕ) → i < n → k + i ≡ get_or (numbers k n) i d
numbers-at k zero i d l = absurd (omega (arith, l))
numbers-at k (suc n) zero d l = omega arith
numbers-at k (suc n) (suc i) d l = let more : k + suc i ≡ k + 1 + i = omega arith in more ∙ numbers-at (k + 1) n i d (omega (arith, l))

-- what is written, with the bytes from number i on, is all
abbrev pub BytesLeft : Bytes → (at len i : ℕ) → (now total : List ℕ) → Type 0
BytesLeft m at len i now total = now ++ flat_map (λ x. byte_text (m x)) (drop i (numbers at len)) ≡ total

pub bytes-more : (m : Bytes) (at len i : ℕ) (before now total : List ℕ) → i < len → now ≡ before ++ byte_text (m (at + i)) → BytesLeft m at len i before total
    → BytesLeft m at len (i + 1) now total
bytes-more m at len i before now total l n h =
    let inside : i < length (numbers at len) = let e = numbers-length at len in omega (arith, l, e) in
    flat-more (λ x. byte_text (m x)) (numbers at len) i (at + i) before now total (inside, numbers-at at len i (at + i) l) n h

pub bytes-end : (m : Bytes) (at len i : ℕ) (now total : List ℕ) → len ≤ i → BytesLeft m at len i now total → now ≡ total
bytes-end m at len i now total l h =
    let past : length (numbers at len) ≤ i = let e = numbers-length at len in omega (arith, l, e) in
    flat-end (λ x. byte_text (m x)) (numbers at len) i now total past h

-- ---- ranges below a bound

abbrev pub IsWithin : Placed → Type 0
IsWithin p = p.at + p.len ≤ 2 ^ 20

none-within : All IsWithin []
none-within k d l = absurd (omega (arith, l))

pub all-within : (ps : List Placed) (t : Taken) → map placed_of ps ≡ ranges t → EndBelow (2 ^ 20) t → All IsWithin ps
all-within [] t e b = none-within
all-within (p ∷ ps) [] e b = cc
all-within (p ∷ ps) (x ∷ t) e b =
    let here : placed_of p ≡ (x.0, range_size (plain x.1)) = cc in
    let more : map placed_of ps ≡ ranges t = cc in
    let end : p.at + p.len ≡ range_end x = ap (λ (r : ℕ × ℕ). r.0 + r.1) here in
    All-cons IsWithin p ps (subst (λ n. n ≤ 2 ^ 20) (sym end) b.0) (all-within ps t more b.1)
