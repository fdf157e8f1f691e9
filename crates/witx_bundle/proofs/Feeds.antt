-- Blocks without a line feed are passed whole, and the first line feed stands behind them.
use Rattle.std.proofs.Common.{◌≡◌, ℕ, ◌+◌, ◌-◌, ◌≤◌, List, [], ◌∷◌, ◌++◌, Bool, false, refl, sym, ap, subst, ◌∙◌, length, take, drop, take-append-drop, length-take-le, arith, ◌==◌}
use Rattle.std.proofs.Math.Seq.{take-add}
use Rattle.std.specs.Prelude.{Some, None, position}
use Rattle.std.specs.List.{list_any, position_or_len, slice_range}
use Rattle.std.proofs.lemmas.Bool.{or_parts}
use Rattle.std.proofs.lemmas.List.{take_rest}
use Rattle.std.proofs.lemmas.List.Folds.{list_any-append}
use Rattle.std.proofs.lemmas.Grind.{common_steps}

abbrev is_feed : ℕ → Bool
is_feed byte = byte == 10

pub passed-block : (xs : List ℕ) (at n : ℕ) → list_any is_feed (take at xs) ≡ false → list_any is_feed (slice_range xs at (at + n)) ≡ false → list_any is_feed (take (at + n) xs) ≡ false
passed-block xs at n before block =
    let size : at + n - at ≡ n = omega arith in
    let behind : list_any is_feed (take n (drop at xs)) ≡ false = subst (λ k. list_any is_feed (take k (drop at xs)) ≡ false) size block in
    ap (λ (t : List ℕ). list_any is_feed t) (take-add at n xs) ∙ list_any-append is_feed (take at xs) (take n (drop at xs)) ∙ rw (before, behind) refl

behind-front : (front rest : List ℕ) → list_any is_feed front ≡ false → position_or_len is_feed (front ++ rest) ≡ length front + position_or_len is_feed rest
behind-front [] rest h = omega arith
behind-front (x ∷ front) rest h =
    let parts = or_parts (is_feed x) (list_any is_feed front) h in
    rw parts.0 (omega (arith, behind-front front rest parts.1))

behind : (xs : List ℕ) (n : ℕ) → n ≤ length xs → list_any is_feed (take n xs) ≡ false → position_or_len is_feed xs ≡ n + position_or_len is_feed (drop n xs)
behind xs n l h =
    ap (λ (t : List ℕ). position_or_len is_feed t) (sym (take-append-drop n xs)) ∙ behind-front (take n xs) (drop n xs) h ∙ ap (λ k. k + position_or_len is_feed (drop n xs)) (length-take-le n xs l)

pub none-behind : (xs text : List ℕ) (n : ℕ) → xs ≡ text → n ≤ length xs → list_any is_feed (take n xs) ≡ false → position is_feed (slice_range xs n (length xs)) ≡ None → None ≡ position is_feed text
none-behind xs text n same l h e =
    let rest : position is_feed (drop n xs) ≡ None = subst (λ (t : List ℕ). position is_feed t ≡ None) (take_rest xs n) e in
    let whole : None ≡ position is_feed xs = grind (arith, common_steps, behind xs n l h) in
    whole ∙ ap (λ (t : List ℕ). position is_feed t) same

pub some-behind : (xs text : List ℕ) (n at : ℕ) → xs ≡ text → n ≤ length xs → list_any is_feed (take n xs) ≡ false → position is_feed (slice_range xs n (length xs)) ≡ Some at → Some (n + at) ≡ position is_feed text
some-behind xs text n at same l h e =
    let rest : position is_feed (drop n xs) ≡ Some at = subst (λ (t : List ℕ). position is_feed t ≡ Some at) (take_rest xs n) e in
    let whole : Some (n + at) ≡ position is_feed xs = grind (arith, common_steps, behind xs n l h) in
    whole ∙ ap (λ (t : List ℕ). position is_feed t) same
