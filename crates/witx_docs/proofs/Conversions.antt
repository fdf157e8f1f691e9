-- One conversion more, whose line is there unless its types are alike.
use Rattle.std.specs.Prelude.{◌≡◌, ℕ, ◌+◌, ◌≤◌, ◌<◌, List, [], ◌∷◌, ◌++◌, Bool, true, false, not, cond, ◌&&◌, if◌then◌else◌, length, drop, map}
use Rattle.std.specs.List.{filter}
use Rattle.std.proofs.Common.{get_or, ap, sym, subst, ◌∙◌, append-nil}
use Rattle.std.proofs.lemmas.List.{drop_more, drop_all}
use Rattle.witx_compat.specs.declared.conversion.TypePolyfill.{TypePolyfill}
use Rattle.witx_compat.specs.Answers.{is_same}
use Rattle.witx_compat.specs.Conversions.{Conversion, conversion_answer}
use Rattle.witx_compat.specs.Views.{conversion_view}
use Rattle.witx_docs.specs.PolyfillTexts.{conversion_text}
use Rattle.witx_docs.specs.Pieces.{line_start, unless_alike}
use Rattle.witx_docs.proofs.Lines.{lines_from, lines-more, nothing}

-- the lines of those that are left
abbrev pub left_lines : Bool → List TypePolyfill → List ℕ
left_lines first xs = lines_from conversion_text first (filter (λ c. not (is_same (conversion_answer c))) (map conversion_view xs))

step : (first same : Bool) (c : Conversion) (cs : List Conversion) (before whole : List ℕ)
    → before ++ lines_from conversion_text first (cond (not same) (c ∷ cs) cs) ≡ whole
    → (before ++ (if same then [] else line_start first ++ conversion_text c)) ++ lines_from conversion_text (same && first) cs ≡ whole
step true true c cs before whole h = ap (λ text. text ++ lines_from conversion_text true cs) (append-nil before) ∙ h
step false true c cs before whole h = ap (λ text. text ++ lines_from conversion_text false cs) (append-nil before) ∙ h
step true false c cs before whole h = lines-more conversion_text true before c cs whole h
step false false c cs before whole h = lines-more conversion_text false before c cs whole h

pub next-conversion : (xs : List TypePolyfill) (i : ℕ) (x : TypePolyfill) (first still : Bool) (before whole : List ℕ) → i < length xs → x ≡ get_or xs i x
    → still ≡ (is_same (conversion_answer (conversion_view x)) && first)
    → before ++ left_lines first (drop i xs) ≡ whole
    → (before ++ unless_alike first (conversion_view x)) ++ left_lines still (drop (i + 1) xs) ≡ whole
next-conversion xs i x first still before whole l p s e =
    rw s (step first (is_same (conversion_answer (conversion_view x))) (conversion_view x)
    (filter (λ c. not (is_same (conversion_answer c))) (map conversion_view (drop (i + 1) xs))) before whole
    (subst (λ ys. before ++ left_lines first ys ≡ whole) (drop_more xs i x l ∙ ap (λ y. y ∷ drop (i + 1) xs) (sym p)) e))

pub no-conversion : (xs : List TypePolyfill) (i : ℕ) (first : Bool) (before whole : List ℕ) → length xs ≤ i
    → before ++ left_lines first (drop i xs) ≡ whole → before ≡ whole
no-conversion xs i first before whole l e =
    sym (append-nil before) ∙ ap (λ r. before ++ r) (sym (nothing conversion_text first)) ∙ (rw (drop_all i xs l) at e)

pub ruleset conversion_rules = (next-conversion, no-conversion)
