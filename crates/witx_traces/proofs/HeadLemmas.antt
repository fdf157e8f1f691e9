-- What stands at the head of a text: a front, a line, a word.
use Rattle.std.proofs.Common.{◌≡◌, ℕ, suc, ◌+◌, ◌<◌, List, [], ◌∷◌, ◌++◌, length, drop, get_or, true, false, refl, sym, ap, ◌∙◌, Option, Some, None, Bor, arith, append_assoc, lit<, if◌then◌else◌}
use Rattle.std.specs.Prelude.{Bool, ◌==◌, MatchOption, option_copied}
use Rattle.std.specs.Str.Pattern.{FindsTextPrefix}
use Rattle.std.proofs.lemmas.Bool.{ne_eqb}
use Rattle.std.proofs.lemmas.Str.Pattern.{IsSplitOnceResult, split_parts}
use Rattle.witx_traces.specs.LineParts.{no_blank}
use Rattle.witx_traces.specs.LineReading.{IsBehind}
use Rattle.witx_traces.specs.Traces.{ended, one_line}

-- a front that is stripped, or isn't there
pub stripped : (front text : List ℕ) (r : Option (Bor (List ℕ)))
    → MatchOption r (FindsTextPrefix front text None) (λ x. (n : ℕ) × FindsTextPrefix front text (Some n) × (x.now ≡ drop n text) × (length x.now + n ≡ length text))
    → IsBehind front text (option_copied r)
stripped front text None h = record { none = h }
stripped front text (Some x) h = h.1.1 ∙ ap (λ z. front ++ z) (sym h.2)

-- a text has no such byte where each byte is another one
module _ (mark : ℕ) (lacks : List ℕ → Bool) (none : lacks [] ≡ true) (next : (b : ℕ) (bs : List ℕ) → lacks (b ∷ bs) ≡ (if b == mark then false else lacks bs)) where
  lacking : (xs : List ℕ) → ((i : ℕ) → i < length xs → get_or xs i 0 ≡ mark → ⊥) → lacks xs ≡ true
  lacking [] h = none
  lacking (x ∷ xs) h = next x xs ∙ (ap (λ t. if t then false else lacks xs) (ne_eqb x mark (h 0 (omega arith))) ∙ lacking xs (λ i l. h (suc i) (omega (arith, l))))

pub line-cut-once : (text : List ℕ) (r : Option (Bor (List ℕ) × Bor (List ℕ))) → IsSplitOnceResult 10 text r
    → MatchOption r (one_line text ≡ true) (λ x. (text ≡ ended x.0.now ++ x.1.now) × (one_line x.0.now ≡ true))
line-cut-once text None h = lacking 10 one_line refl (λ b bs. refl) text (split_parts 10 text None h (lit< tt))
line-cut-once text (Some x) h =
    let cut = split_parts 10 text (Some x) h (lit< tt) in
    (cut.0 ∙ sym (append_assoc x.0.now (10 ∷ []) x.1.now), lacking 10 one_line refl (λ b bs. refl) x.0.now cut.1)

pub word-cut-once : (text : List ℕ) (r : Option (Bor (List ℕ) × Bor (List ℕ))) → IsSplitOnceResult 32 text r
    → MatchOption r (no_blank text ≡ true) (λ x. (text ≡ x.0.now ++ 32 ∷ x.1.now) × (no_blank x.0.now ≡ true))
word-cut-once text None h = lacking 32 no_blank refl (λ b bs. refl) text (split_parts 32 text None h (lit< tt))
word-cut-once text (Some x) h =
    let cut = split_parts 32 text (Some x) h (lit< tt) in
    (cut.0, lacking 32 no_blank refl (λ b bs. refl) x.0.now cut.1)
