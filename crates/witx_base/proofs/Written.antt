-- The text that is written of the pieces of a text.
use Rattle.std.proofs.Common.{◌≡◌, ℕ, ◌+◌, ◌<◌, ◌≤◌, List, [], ◌∷◌, ◌++◌, Bool, true, false, refl, sym, ap, ◌∙◌, subst, if◌then◌else◌, length, drop, get_or, append-nil, append_assoc, map, Bor, arith}
use Rattle.std.specs.Prelude.{◌==◌, filter}
use Rattle.std.specs.List.{AllByRecursion}
use Rattle.std.proofs.lemmas.Bool.{eqb-true}
use Rattle.std.proofs.lemmas.List.{drop_all, drop_more}
use Rattle.witx_base.specs.Paths.{Path, behind_slashes, components_of, is_kept, kept_parts, parts_of, path_text, root}
use Rattle.witx_base.specs.PathTexts.{HasNoSlash}
use Rattle.witx_base.proofs.PathTexts.{no-root, parts-free, text-other}
use Rattle.witx_base.proofs.Cuts.{append-full, suc-full}

abbrev pub texts_of : List (Bor (List ℕ)) → List (List ℕ)
texts_of xs = map (λ x. x.now) xs

texts-drop : (xs : List (Bor (List ℕ))) (i : ℕ) (x : Bor (List ℕ)) → i < length xs → x ≡ get_or xs i x → texts_of (drop i xs) ≡ x.now ∷ texts_of (drop (i + 1) xs)
texts-drop xs i x l p = rw (drop_more xs i x l, ← p) refl

filter-yes : (p : List ℕ → Bool) (x : List ℕ) (xs : List (List ℕ)) → p x ≡ true → filter p (x ∷ xs) ≡ x ∷ filter p xs
filter-yes p x xs h = rw h refl

filter-no : (p : List ℕ → Bool) (x : List ℕ) (xs : List (List ℕ)) → p x ≡ false → filter p (x ∷ xs) ≡ filter p xs
filter-no p x xs h = rw h refl

pub piece-yes : (xs : List (Bor (List ℕ))) (i : ℕ) (x : Bor (List ℕ)) (text total : List ℕ) → i < length xs → x ≡ get_or xs i x → is_kept x.now ≡ true
    → text ++ behind_slashes (kept_parts (texts_of (drop i xs))) ≡ total
    → ((text ++ 47 ∷ []) ++ x.now) ++ behind_slashes (kept_parts (texts_of (drop (i + 1) xs))) ≡ total
piece-yes xs i x text total l p k e =
    let rest = kept_parts (texts_of (drop (i + 1) xs)) in
    let step : kept_parts (texts_of (drop i xs)) ≡ x.now ∷ rest = ap kept_parts (texts-drop xs i x l p) ∙ filter-yes is_kept x.now (texts_of (drop (i + 1) xs)) k in
    let f : text ++ behind_slashes (x.now ∷ rest) ≡ total = ap (λ ys. text ++ behind_slashes ys) (sym step) ∙ e in
    simp append_assoc f

pub piece-no : (xs : List (Bor (List ℕ))) (i : ℕ) (x : Bor (List ℕ)) (text total : List ℕ) → i < length xs → x ≡ get_or xs i x → is_kept x.now ≡ false
    → text ++ behind_slashes (kept_parts (texts_of (drop i xs))) ≡ total
    → text ++ behind_slashes (kept_parts (texts_of (drop (i + 1) xs))) ≡ total
piece-no xs i x text total l p k e =
    let step : kept_parts (texts_of (drop i xs)) ≡ kept_parts (texts_of (drop (i + 1) xs)) = ap kept_parts (texts-drop xs i x l p) ∙ filter-no is_kept x.now (texts_of (drop (i + 1) xs)) k in
    ap (λ ys. text ++ behind_slashes ys) (sym step) ∙ e

pub piece-end : (xs : List (Bor (List ℕ))) (i : ℕ) (text total : List ℕ) → length xs ≤ i
    → text ++ behind_slashes (kept_parts (texts_of (drop i xs))) ≡ total → text ≡ total
piece-end xs i text total q e = sym (append-nil text) ∙ ap (λ ys. text ++ behind_slashes (kept_parts (texts_of ys))) (sym (drop_all i xs q)) ∙ e

one-text : (t : Bool) (c : List ℕ) → (length c == 0) ≡ t → c ≡ path_text (if t then [] else c ∷ [])
one-text true [] e = refl
one-text true (b ∷ bs) e = let no : false ≡ true = sym (suc-full b bs) ∙ e in absurd (cc)
one-text false c e = refl

-- a single piece
pub one-piece : (c : List ℕ) (others : List (Bor (List ℕ))) → (length others == 0) ≡ true → c ≡ path_text (components_of (c ∷ texts_of others))
one-piece c [] l = one-text (length c == 0) c refl
one-piece c (z ∷ zs) l = absurd (omega (arith, eqb-true (length (z ∷ zs)) 0 l))

more-text : (t : Bool) (c : List ℕ) (ks : Path) → (length c == 0) ≡ t → HasNoSlash c
    → (if length (c ++ behind_slashes ks) == 0 then root else c ++ behind_slashes ks) ≡ path_text ((if t then root else c) ∷ ks)
more-text true [] [] e h = refl
more-text true [] (k ∷ ks) e h = ap (λ b. if b then root else behind_slashes (k ∷ ks)) (suc-full 47 (k ++ behind_slashes ks))
more-text true (b ∷ bs) ks e h = let no : false ≡ true = sym (suc-full b bs) ∙ e in absurd (cc)
more-text false c [] e h = ap (λ b. if b then root else c ++ []) (append-full c [] e) ∙ append-nil c
more-text false c (k ∷ ks) e h = ap (λ b. if b then root else c ++ behind_slashes (k ∷ ks)) (append-full c (behind_slashes (k ∷ ks)) e) ∙ sym (text-other c k ks (no-root c h))

-- more pieces
pub more-pieces : (c : List ℕ) (others : List (Bor (List ℕ))) (made : List ℕ) → (length others == 0) ≡ false → HasNoSlash c
    → made ≡ (if length (c ++ behind_slashes (kept_parts (texts_of others))) == 0 then root else c ++ behind_slashes (kept_parts (texts_of others)))
    → made ≡ path_text (components_of (c ∷ texts_of others))
more-pieces c [] made l h e = let no : true ≡ false = l in absurd (cc)
more-pieces c (z ∷ zs) made l h e = e ∙ more-text (length c == 0) c (kept_parts (texts_of (z ∷ zs))) refl h

-- what is first, and what is left
pub first-free : (xs : List (Bor (List ℕ))) (x : Bor (List ℕ)) (ys : List (Bor (List ℕ))) → xs ≡ x ∷ ys → AllByRecursion HasNoSlash (texts_of xs) → HasNoSlash x.now
first-free xs x ys e h = (subst (λ zs. AllByRecursion HasNoSlash (texts_of zs)) e h).0

pub first-put : (xs : List (Bor (List ℕ))) (x : Bor (List ℕ)) (ys : List (Bor (List ℕ))) (made : List ℕ) → xs ≡ x ∷ ys
    → made ≡ path_text (components_of (x.now ∷ texts_of ys)) → made ≡ path_text (components_of (texts_of xs))
first-put xs x ys made e h = h ∙ ap (λ zs. path_text (components_of (texts_of zs))) (sym e)

pub ruleset written_rules = (piece-yes, piece-no, piece-end, one-piece, more-pieces, first-free, first-put)

pub pieces-free : (xs : List (List ℕ)) (text : List ℕ) → xs ≡ parts_of text → AllByRecursion HasNoSlash xs
pieces-free xs text e = subst (AllByRecursion HasNoSlash) (sym e) (parts-free text)

pub pieces-path : (xs : List (List ℕ)) (text made : List ℕ) → xs ≡ parts_of text → made ≡ path_text (components_of xs) → made ≡ path_text (components_of (parts_of text))
pieces-path xs text made e h = h ∙ ap (λ ps. path_text (components_of ps)) e

pub ruleset piece_rules = (pieces-free, pieces-path)
