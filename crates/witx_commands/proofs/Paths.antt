-- The paths of the words that a loop has passed, with those of the words still to come, are those of all words.
use Rattle.std.proofs.Common.{◌≡◌, ℕ, ◌+◌, ◌<◌, ◌≤◌, List, [], ◌∷◌, ◌++◌, length, get_or, map, drop, sym, ap, ◌∙◌, append_assoc, append-nil}
use Rattle.std.proofs.lemmas.List.{drop_more, drop_all}
use Rattle.witx_base.specs.Paths.{Path, path_of}

pub paths-more : (words : List (List ℕ)) (i : ℕ) (word : List ℕ) (path : Path) (done all : List Path) → i < length words → word ≡ get_or words i word → path ≡ path_of word
    → done ++ map path_of (drop i words) ≡ all → (done ++ path ∷ []) ++ map path_of (drop (i + 1) words) ≡ all
paths-more words i word path done all l p q e =
    append_assoc done (path ∷ []) (map path_of (drop (i + 1) words))
    ∙ ap (λ y. done ++ y ∷ map path_of (drop (i + 1) words)) q
    ∙ ap (λ ys. done ++ map path_of ys) (ap (λ y. y ∷ drop (i + 1) words) p ∙ sym (drop_more words i word l)) ∙ e

pub paths-end : (words : List (List ℕ)) (i : ℕ) (done all : List Path) → length words ≤ i → done ++ map path_of (drop i words) ≡ all → done ≡ all
paths-end words i done all l e = sym (append-nil done) ∙ ap (λ ys. done ++ map path_of ys) (sym (drop_all i words l)) ∙ e

pub ruleset path_rules = (paths-more, paths-end)
