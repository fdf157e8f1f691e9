-- A loop over the numbers below n writes what stands for each of them.
use Rattle.std.proofs.Common.{◌≡◌, ℕ, suc, ◌+◌, ◌-◌, ◌<◌, List, ◌++◌, sym, ap, ◌∙◌, append_assoc, append-nil, arith, Result, Ok, Err, is_ok, if◌then◌else◌, OnOk}
use Rattle.std.specs.List.{flat_map, range_with_len}

pub numbered-step : (f : ℕ → List ℕ) (text now : List ℕ) (n i : ℕ) → i < n → now ≡ text ++ f i
    → text ++ flat_map f (range_with_len i (n - i)) ≡ now ++ flat_map f (range_with_len (i + 1) (n - (i + 1)))
numbered-step f text now n i l w =
    let e : n - i ≡ suc (n - (i + 1)) = omega arith in
    let rest = flat_map f (range_with_len (i + 1) (n - (i + 1))) in
    ap (λ m. text ++ flat_map f (range_with_len i m)) e ∙ sym (append_assoc text (f i) rest) ∙ ap (λ t. t ++ rest) (sym w)

pub numbered-last : (f : ℕ → List ℕ) (text : List ℕ) (n : ℕ) → text ++ flat_map f (range_with_len n (n - n)) ≡ text
numbered-last f text n =
    let e : n - n ≡ 0 = omega arith in
    ap (λ m. text ++ flat_map f (range_with_len n m)) e ∙ append-nil text

-- three texts put behind a text, where the last is put by a call that can fail
pub appended : {U E : Type 0} (r : Result U E) (old a b d one two now : List ℕ) → one ≡ old ++ a → two ≡ one ++ b → OnOk r (now ≡ two ++ d)
    → OnOk r (now ≡ old ++ (a ++ (b ++ d)))
appended (Ok u) old a b d one two now p q e =
    e ∙ ap (λ s. s ++ d) (q ∙ ap (λ s. s ++ b) p) ∙ append_assoc (old ++ a) b d ∙ append_assoc old a (b ++ d)
appended (Err f) old a b d one two now p q e = tt

-- the same where the last is pushed
pub pushed : {U E : Type 0} (r : Result U E) (old a b d one two now : List ℕ) → one ≡ old ++ a → two ≡ one ++ b → now ≡ (if is_ok r then two ++ d else two)
    → OnOk r (now ≡ old ++ (a ++ (b ++ d)))
pushed (Ok u) old a b d one two now p q e = e ∙ ap (λ s. s ++ d) (q ∙ ap (λ s. s ++ b) p) ∙ append_assoc (old ++ a) b d ∙ append_assoc old a (b ++ d)
pushed (Err f) old a b d one two now p q e = tt

pub ruleset numbered_rules = (numbered-step, numbered-last)
