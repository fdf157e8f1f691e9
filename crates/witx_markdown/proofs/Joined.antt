-- One more of texts with commas between them.
use Rattle.std.specs.Prelude.{◌≡◌, ℕ, ◌+◌, ◌≤◌, ◌<◌, List, [], ◌∷◌, ◌++◌, Bool, true, false, length, drop, map}
use Rattle.std.proofs.Common.{get_or, ap, sym, subst, ◌∙◌, append_assoc}
use Rattle.std.proofs.lemmas.List.{drop_more, drop_all}
use Rattle.witx_ast.specs.TypeNames.{separator}
use Rattle.witx_ast.proofs.Naming.{joined_after, joined-init}
use Rattle.witx_markdown.specs.Contents.{input_text}

joined-more : (first : Bool) (before x : List ℕ) (xs : List (List ℕ)) (all : List ℕ) → before ++ joined_after first (x ∷ xs) ≡ all
    → (before ++ (separator first ++ x)) ++ joined_after false xs ≡ all
joined-more true before x xs all e = append_assoc before x (joined_after false xs) ∙ e
joined-more false before x xs all e = append_assoc before (separator false ++ x) (joined_after false xs) ∙ e

pub next-text : (xs : List (List ℕ)) (i : ℕ) (x : List ℕ) (first : Bool) (before all : List ℕ) → i < length xs → x ≡ get_or xs i x
    → before ++ joined_after first (drop i xs) ≡ all
    → (before ++ (separator first ++ x)) ++ joined_after false (drop (i + 1) xs) ≡ all
next-text xs i x first before all l p e = joined-more first before x (drop (i + 1) xs) all (rw (drop_more xs i x l, ← p) at e)

pub all-texts : (xs : List (List ℕ)) (i : ℕ) (first : Bool) (before all : List ℕ) → length xs ≤ i
    → before ++ joined_after first (drop i xs) ≡ all → before ++ [] ≡ all
all-texts xs i first before all l e = rw (drop_all i xs l) at e

inputs-drop : (xs : List (List ℕ × List ℕ)) (i : ℕ) (x : List ℕ × List ℕ) → i < length xs → x ≡ get_or xs i x
    → map input_text (drop i xs) ≡ input_text x ∷ map input_text (drop (i + 1) xs)
inputs-drop xs i x l p = ap (map input_text) (drop_more xs i x l ∙ ap (λ y. y ∷ drop (i + 1) xs) (sym p))

pub next-input : (xs : List (List ℕ × List ℕ)) (i : ℕ) (x : List ℕ × List ℕ) (first : Bool) (before all : List ℕ) → i < length xs → x ≡ get_or xs i x
    → before ++ joined_after first (map input_text (drop i xs)) ≡ all
    → (before ++ (separator first ++ input_text x)) ++ joined_after false (map input_text (drop (i + 1) xs)) ≡ all
next-input xs i x first before all l p e =
    joined-more first before (input_text x) (map input_text (drop (i + 1) xs)) all
    (subst (λ ts. before ++ joined_after first ts ≡ all) (inputs-drop xs i x l p) e)

pub all-inputs : (xs : List (List ℕ × List ℕ)) (i : ℕ) (first : Bool) (before all : List ℕ) → length xs ≤ i
    → before ++ joined_after first (map input_text (drop i xs)) ≡ all → before ++ [] ≡ all
all-inputs xs i first before all l e = rw (drop_all i xs l) at e

pub ruleset joined_rules = (joined-init, next-text, all-texts, next-input, all-inputs)
