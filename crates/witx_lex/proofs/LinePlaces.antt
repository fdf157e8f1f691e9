-- The column of a place by the bytes behind the last line feed, which without a line feed between two places grows by
-- the bytes between them.
use Rattle.std.specs.Prelude.{◌≡◌, ℕ, ◌+◌, ◌-◌, ◌<◌, ◌≤◌, Bool, true, false, List, length, take, not, count_by}
use Rattle.std.proofs.Common.{zero, suc, get_or, sym, ap, ◌∙◌, refl, arith}
use Rattle.std.proofs.lemmas.List.{length-drop, length-take}
use Rattle.std.proofs.lemmas.List.Sums.{suffix_len-le-length, suffix_len-take_yes, count_by-le-length, count_by_more_yes, count_by_more_no}
use Rattle.std.specs.List.{suffix_len, after_last}
use Rattle.witx_lex.specs.Places.{is_line_feed, column_at}

abbrev pub is_plain : ℕ → Bool
is_plain b = not (is_line_feed b)

behind_last : (xs : List ℕ) → suffix_len is_plain xs ≡ length (after_last is_line_feed xs)
behind_last xs =
    let n = suffix_len is_plain xs in
    omega (arith, length-drop (length xs - n) xs, suffix_len-le-length is_plain xs)

pub column-is : (text : List ℕ) (at : ℕ) → column_at text at ≡ 1 + suffix_len is_plain (take at text)
column-is text at = ap (λ (n : ℕ). 1 + n) (sym (behind_last (take at text)))

-- ---- two places

abbrev pub feeds : List ℕ → ℕ → ℕ
feeds text at = count_by is_line_feed (take at text)

abbrev pub plain_len : List ℕ → ℕ → ℕ
plain_len text at = suffix_len is_plain (take at text)

-- there are no fewer line feeds before a later place, and where there are no more, the bytes between are on one line
abbrev Follows : List ℕ → ℕ → ℕ → Type 0
Follows text at end = (feeds text at ≤ feeds text end) × (feeds text end ≡ feeds text at → plain_len text end + at ≡ plain_len text at + end)

follows_byte : (text : List ℕ) (at end : ℕ) (b : Bool) → at < end → end ≤ length text → Follows text at (end - 1) → is_line_feed (get_or text (end - 1) 0) ≡ b → Follows text at end
follows_byte text at end true lt le h e =
    let on : end ≡ (end - 1) + 1 = omega arith in
    let more : feeds text end ≡ feeds text (end - 1) + 1 = ap (λ (k : ℕ). feeds text k) on ∙ count_by_more_yes is_line_feed text (end - 1) 0 (omega arith) e in
    (omega (arith, more, h.0), λ z. absurd (omega (arith, more, h.0, z)))
follows_byte text at end false lt le h e =
    let on : end ≡ (end - 1) + 1 = omega arith in
    let more : feeds text end ≡ feeds text (end - 1) = ap (λ (k : ℕ). feeds text k) on ∙ count_by_more_no is_line_feed text (end - 1) 0 (omega arith) e in
    let longer : plain_len text end ≡ 1 + plain_len text (end - 1) = suffix_len-take_yes is_plain text end 0 (omega arith) le (ap not e) in
    (omega (arith, more, h.0), λ z. omega (arith, longer, h.1 (sym more ∙ z)))

follows : (text : List ℕ) (at n end : ℕ) → end ≡ at + n → end ≤ length text → Follows text at end
follows text at zero end e le = let same : end ≡ at = omega arith in rw same (omega arith, λ z. omega arith)
follows text at (suc n) end e le = follows_byte text at end (is_line_feed (get_or text (end - 1) 0)) (omega arith) le (follows text at n (end - 1) (omega arith) (omega arith)) refl

pub same_line : (text : List ℕ) (at end : ℕ) → at ≤ end → end ≤ length text → feeds text end ≡ feeds text at → column_at text end ≡ column_at text at + (end - at)
same_line text at end le within e =
    omega (arith, column-is text at, column-is text end, (follows text at (end - at) end (omega arith) within).1 e)

-- no more line feeds than bytes, and no longer line
pub feeds-le : (text : List ℕ) (at : ℕ) → feeds text at ≤ at
feeds-le text at = omega (arith, count_by-le-length is_line_feed (take at text), length-take at text)

pub column-le : (text : List ℕ) (at : ℕ) → column_at text at ≤ at + 1
column-le text at = omega (arith, column-is text at, suffix_len-le-length is_plain (take at text), length-take at text)
