-- The text of a path and its components: each gives the other (`read_back`, `text_parts`).
use Rattle.std.proofs.Common.{◌≡◌, ℕ, List, [], ◌∷◌, ◌++◌, Bool, true, false, refl, sym, ap, ◌∙◌, subst, ◌&&◌, if◌then◌else◌, length, append-nil, inl, inr}
use Rattle.std.specs.Prelude.{◌==◌, ◌⊎◌}
use Rattle.std.specs.Cmp.Lexicographic.{pointwise}
use Rattle.std.specs.List.{AllByRecursion, onto_first}
use Rattle.std.proofs.lemmas.List.Elements.{All-from_recursion}
use Rattle.std.proofs.lemmas.List.Splits.{slice_split-cons_yes, slice_split-cons_no, slice_split_none, slice_split_at}
use Rattle.witx_base.specs.Paths.{Path, behind_slashes, components_of, is_kept, is_root, kept_parts, parts_of, path_of, path_text, root}
use Rattle.witx_base.specs.PathTexts.{HasNoSlash, IsPathText, or_empty, path_text_parts}

-- ---- the components that a text can have

abbrev pub AreParts : Path → Type 0
AreParts [] = Unit {0}
AreParts (c ∷ cs) = HasNoSlash c × (is_kept c ≡ true) × AreParts cs

abbrev pub IsFirst : List ℕ → Type 0
IsFirst c = (c ≡ 47 ∷ []) ⊎ (HasNoSlash c × ((length c == 0) ≡ false))

abbrev pub IsWell : Path → Type 0
IsWell [] = Unit {0}
IsWell (c ∷ cs) = IsFirst c × AreParts cs

root-first : (b : ℕ) (bs : List ℕ) → (b == 47) ≡ false → is_root (b ∷ bs) ≡ false
root-first b bs h = ap (λ t. t && pointwise ◌==◌ bs []) h

pub no-root : (c : List ℕ) → HasNoSlash c → is_root c ≡ false
no-root [] h = refl
no-root (b ∷ bs) h = root-first b bs h.0

kept-first : (c : List ℕ) (cs : Path) → is_kept c ≡ true → kept_parts (c ∷ cs) ≡ c ∷ kept_parts cs
kept-first c cs h = ap (λ b. if b then c ∷ kept_parts cs else kept_parts cs) h

pub all-kept : (cs : Path) → AreParts cs → kept_parts cs ≡ cs
all-kept [] h = refl
all-kept (c ∷ cs) h = kept-first c cs h.1 ∙ ap (λ xs. c ∷ xs) (all-kept cs h.2)

-- ---- the parts of a text that is put together

no-split : (c : List ℕ) → HasNoSlash c → parts_of c ≡ c ∷ []
no-split c h = slice_split_none (λ b. b == 47) c (All-from_recursion (λ b. (b == 47) ≡ false) c h)

split-parts : (c : List ℕ) (cs : Path) → HasNoSlash c → AreParts cs → parts_of (c ++ behind_slashes cs) ≡ c ∷ cs
split-parts c [] h p = ap parts_of (append-nil c) ∙ no-split c h
split-parts c (d ∷ ds) h p =
    slice_split_at (λ b. b == 47) c 47 (d ++ behind_slashes ds) (All-from_recursion (λ b. (b == 47) ≡ false) c h) refl
    ∙ ap (λ xs. c ∷ xs) (split-parts d ds p.0 p.2)

pub parts-other : (c : List ℕ) (cs : Path) → is_root c ≡ false → path_text_parts (c ∷ cs) ≡ c ∷ cs
parts-other c cs h = ap (λ b. if b then [] ∷ or_empty cs else c ∷ cs) h

pub text-other : (c d : List ℕ) (ds : Path) → is_root c ≡ false → path_text (c ∷ d ∷ ds) ≡ c ++ behind_slashes (d ∷ ds)
text-other c d ds h = ap (λ b. (if b then [] else c) ++ behind_slashes (d ∷ ds)) h

pub text-parts : (p : Path) → IsWell p → parts_of (path_text p) ≡ path_text_parts p
text-parts [] h = refl
text-parts (c ∷ []) (inl e, q) = subst (λ r. parts_of (path_text (r ∷ [])) ≡ path_text_parts (r ∷ [])) (sym e) refl
text-parts (c ∷ []) (inr f, q) = no-split c f.0 ∙ sym (parts-other c [] (no-root c f.0))
text-parts (c ∷ d ∷ ds) (inl e, q) = subst (λ r. parts_of (path_text (r ∷ d ∷ ds)) ≡ path_text_parts (r ∷ d ∷ ds)) (sym e) (split-parts [] (d ∷ ds) tt q)
text-parts (c ∷ d ∷ ds) (inr f, q) =
    ap parts_of (text-other c d ds (no-root c f.0)) ∙ split-parts c (d ∷ ds) f.0 q ∙ sym (parts-other c (d ∷ ds) (no-root c f.0))

first-other : (c : List ℕ) (cs : Path) → (length c == 0) ≡ false → kept_parts cs ≡ cs → components_of (c ∷ cs) ≡ c ∷ cs
first-other c [] h k = ap (λ b. if b then [] else c ∷ []) h
first-other c (d ∷ ds) h k = ap (λ b. (if b then root else c) ∷ kept_parts (d ∷ ds)) h ∙ ap (λ xs. c ∷ xs) k

pub parts-read : (p : Path) → IsWell p → components_of (path_text_parts p) ≡ p
parts-read [] h = refl
parts-read (c ∷ []) (inl e, q) = subst (λ r. components_of (path_text_parts (r ∷ [])) ≡ r ∷ []) (sym e) refl
parts-read (c ∷ d ∷ ds) (inl e, q) = subst (λ r. components_of (path_text_parts (r ∷ d ∷ ds)) ≡ r ∷ d ∷ ds) (sym e) (ap (λ xs. (47 ∷ []) ∷ xs) (all-kept (d ∷ ds) q))
parts-read (c ∷ []) (inr f, q) = ap components_of (parts-other c [] (no-root c f.0)) ∙ first-other c [] f.1 refl
parts-read (c ∷ d ∷ ds) (inr f, q) = ap components_of (parts-other c (d ∷ ds) (no-root c f.0)) ∙ first-other c (d ∷ ds) f.1 (all-kept (d ∷ ds) q)

pub read-back : (p : Path) → IsWell p → path_of (path_text p) ≡ p
unfolding path_of
read-back p h = ap components_of (text-parts p h) ∙ parts-read p h

-- ---- every path that is read is well made

abbrev AllFree : List (List ℕ) → Type 0
AllFree = AllByRecursion HasNoSlash

free-onto : (b : ℕ) (xs : List (List ℕ)) → (b == 47) ≡ false → AllFree xs → AllFree (onto_first b xs)
free-onto b [] e h = ((e, tt), tt)
free-onto b (x ∷ xs) e h = ((e, h.0), h.1)

free-step : (t : Bool) (b : ℕ) (bs : List ℕ) → (b == 47) ≡ t → AllFree (parts_of bs) → AllFree (parts_of (b ∷ bs))
free-step true b bs e h = subst AllFree (sym (slice_split-cons_yes (λ x. x == 47) b bs e)) (tt, h)
free-step false b bs e h = subst AllFree (sym (slice_split-cons_no (λ x. x == 47) b bs e)) (free-onto b (parts_of bs) e h)

pub parts-free : (text : List ℕ) → AllFree (parts_of text)
parts-free [] = (tt, tt)
parts-free (b ∷ bs) = free-step (b == 47) b bs refl (parts-free bs)

kept-step : (t : Bool) (c : List ℕ) (cs : Path) → is_kept c ≡ t → HasNoSlash c → AreParts (kept_parts cs) → AreParts (kept_parts (c ∷ cs))
kept-step true c cs e h k = subst AreParts (sym (kept-first c cs e)) (h, e, k)
kept-step false c cs e h k = subst AreParts (sym (ap (λ b. if b then c ∷ kept_parts cs else kept_parts cs) e)) k

pub kept-parts : (xs : List (List ℕ)) → AllFree xs → AreParts (kept_parts xs)
kept-parts [] h = tt
kept-parts (c ∷ cs) h = kept-step (is_kept c) c cs refl h.0 (kept-parts cs h.1)

one-well : (t : Bool) (c : List ℕ) → (length c == 0) ≡ t → HasNoSlash c → IsWell (if t then [] else c ∷ [])
one-well true c e h = tt
one-well false c e h = (inr (h, e), tt)

first-well : (t : Bool) (c : List ℕ) (cs : Path) → (length c == 0) ≡ t → HasNoSlash c → AreParts cs → IsWell ((if t then root else c) ∷ cs)
first-well true c cs e h k = (inl refl, k)
first-well false c cs e h k = (inr (h, e), k)

components-well : (xs : List (List ℕ)) → AllFree xs → IsWell (components_of xs)
components-well [] h = tt
components-well (c ∷ []) h = one-well (length c == 0) c refl h.0
components-well (c ∷ d ∷ ds) h = first-well (length c == 0) c (kept_parts (d ∷ ds)) refl h.0 (kept-parts (d ∷ ds) h.1)

pub read-well : (text : List ℕ) → IsWell (path_of text)
unfolding path_of
read-well text = components-well (parts_of text) (parts-free text)

-- the parts of a path's text
pub parts-of-text : (text : List ℕ) → IsPathText text → parts_of text ≡ path_text_parts (path_of text)
parts-of-text text h = ap parts_of (sym h) ∙ text-parts (path_of text) (read-well text)

-- a text that a path is written as is read as that path
pub text-read : (text : List ℕ) (p : Path) → text ≡ path_text p → IsWell p → path_of text ≡ p
text-read text p e h = ap path_of e ∙ read-back p h

pub text-is : (text : List ℕ) (p : Path) → text ≡ path_text p → IsWell p → IsPathText text
text-is text p e h = ap path_text (text-read text p e h) ∙ sym e
