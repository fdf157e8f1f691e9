-- One more character of a comment, and none.
use Rattle.std.proofs.Common.{◌≡◌, ℕ, ◌+◌, ◌<◌, ◌≤◌, List, ◌∷◌, ◌++◌, length, get_or, drop, sym, ap, ◌∙◌, append-nil}
use Rattle.std.proofs.lemmas.List.{drop_more, drop_all}
use Rattle.witx_header.specs.CNames.{comment_character, comment_from, kept_apart}
use Rattle.witx_header.proofs.Appending.{joined}

pub comment-more : (margin xs : List ℕ) (n before c : ℕ) (done now total : List ℕ) → (n < length xs) × (c ≡ get_or xs n c)
    → now ≡ done ++ (kept_apart before c ++ comment_character margin c)
    → done ++ comment_from margin before (drop n xs) ≡ total → now ++ comment_from margin c (drop (n + 1) xs) ≡ total
comment-more margin xs n before c done now total h w e =
    joined done now (kept_apart before c ++ comment_character margin c) (comment_from margin c (drop (n + 1) xs)) total w
    (ap (λ ys. done ++ comment_from margin before ys) (sym (drop_more xs n c h.0 ∙ ap (λ y. y ∷ drop (n + 1) xs) (sym h.1))) ∙ e)

pub comment-end : (margin xs : List ℕ) (n before : ℕ) (done total : List ℕ) → length xs ≤ n → done ++ comment_from margin before (drop n xs) ≡ total → done ≡ total
comment-end margin xs n before done total l e = sym (append-nil done) ∙ ap (λ ys. done ++ comment_from margin before ys) (sym (drop_all n xs l)) ∙ e
