-- One line more below others.
use Rattle.std.specs.Prelude.{◌≡◌, ℕ, ◌+◌, ◌≤◌, ◌<◌, List, [], ◌∷◌, ◌++◌, Bool, true, false, length, drop, map, codes}
use Rattle.std.specs.List.{flat_map}
use Rattle.std.proofs.Common.{get_or, refl, ap, sym, subst, ◌∙◌, append_assoc, append-nil}
use Rattle.std.proofs.lemmas.List.{drop_more, drop_all}
use Rattle.std.proofs.lemmas.List.Folds.{flat_map-map}
use Rattle.witx_docs.specs.PolyfillTexts.{lines}
use Rattle.witx_docs.specs.Pieces.{line_start}

-- lines that follow others, or stand first
abbrev pub lines_from : {A : Type 0} → (A → List ℕ) → Bool → List A → List ℕ
lines_from text true xs = lines text xs
lines_from text false xs = flat_map (λ x. codes "\n" ++ text x) xs

pub lines-more : {A : Type 0} (text : A → List ℕ) (first : Bool) (before : List ℕ) (x : A) (xs : List A) (whole : List ℕ)
    → before ++ lines_from text first (x ∷ xs) ≡ whole
    → (before ++ (line_start first ++ text x)) ++ lines_from text false xs ≡ whole
lines-more text true before x xs whole e = append_assoc before (text x) (lines_from text false xs) ∙ e
lines-more text false before x xs whole e = append_assoc before (codes "\n" ++ text x) (lines_from text false xs) ∙ e

-- one more of some values
pub next-line : {A : Type 0} (text : A → List ℕ) (xs : List A) (i : ℕ) (x : A) (first : Bool) (before whole : List ℕ)
    → i < length xs → x ≡ get_or xs i x → before ++ lines_from text first (drop i xs) ≡ whole
    → (before ++ (line_start first ++ text x)) ++ lines_from text false (drop (i + 1) xs) ≡ whole
next-line text xs i x first before whole l p e =
    lines-more text first before x (drop (i + 1) xs) whole
    (subst (λ ys. before ++ lines_from text first ys ≡ whole) (drop_more xs i x l ∙ ap (λ y. y ∷ drop (i + 1) xs) (sym p)) e)

pub nothing : {A : Type 0} (text : A → List ℕ) (first : Bool) → lines_from text first [] ≡ []
nothing text true = refl
nothing text false = refl

pub no-line : {A : Type 0} (text : A → List ℕ) (xs : List A) (i : ℕ) (first : Bool) (before whole : List ℕ) → length xs ≤ i
    → before ++ lines_from text first (drop i xs) ≡ whole → before ≡ whole
no-line text xs i first before whole l e =
    sym (append-nil before) ∙ ap (λ r. before ++ r) (sym (nothing text first)) ∙ (rw (drop_all i xs l) at e)

pub ruleset line_rules = (next-line, no-line)

-- the lines of what values are seen as
pub lines-viewed : {A B : Type 0} (text : B → List ℕ) (view : A → B) (xs : List A) → lines (λ x. text (view x)) xs ≡ lines text (map view xs)
lines-viewed text view [] = refl
lines-viewed text view (x ∷ xs) = ap (λ r. text (view x) ++ r) (sym (flat_map-map (λ b. codes "\n" ++ text b) view xs))

-- pieces behind a text, one after the other
pub behind : (before a b now after : List ℕ) → now ≡ before ++ a → after ≡ now ++ b → after ≡ before ++ (a ++ b)
behind before a b now after p q = q ∙ ap (λ text. text ++ b) p ∙ append_assoc before a b

pub five-behind : (before a b c d e one two three four five : List ℕ)
    → one ≡ before ++ a → two ≡ one ++ b → three ≡ two ++ c → four ≡ three ++ d → five ≡ four ++ e → five ≡ before ++ (a ++ b ++ c ++ d ++ e)
five-behind before a b c d e one two three four five p q r s t =
    behind before (a ++ b ++ c ++ d) e four five
    (behind before (a ++ b ++ c) d three four (behind before (a ++ b) c two three (behind before a b one two p q) r) s) t
