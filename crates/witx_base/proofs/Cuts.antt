-- A path's text that is cut at its first slash or at its last one.
use Rattle.std.proofs.Common.{◌≡◌, ℕ, List, [], ◌∷◌, ◌++◌, ◌<◌, Bool, true, false, refl, sym, ap, ◌∙◌, subst, not, if◌then◌else◌, length, arith, inl, inr, get_or, Bor, lit<, take-append-drop}
use Rattle.std.specs.Prelude.{◌==◌, Option, Some, None, MatchOption, option_map}
use Rattle.std.specs.List.{All, AllByRecursion, onto_first}
use Rattle.std.specs.Str.Pattern.{RFindsChar, SplitsAroundMatch}
use Rattle.std.proofs.lemmas.Bool.{ne_eqb}
use Rattle.std.proofs.lemmas.List.Elements.{All-from_get_or}
use Rattle.std.proofs.lemmas.List.Splits.{slice_split-cons_yes, slice_split-cons_no, slice_split_none, slice_split_at, join_with_byte-slice_split}
use Rattle.std.proofs.lemmas.Str.Pattern.{IsSplitOnceResult, split_parts, drop_at_char, NoCharPasses-char}
use Rattle.std.specs.List.{join_with_byte}
use Rattle.witx_base.specs.Paths.{Path, all_but_last, behind_slashes, components_of, file_name, is_kept, is_root, last_component, name_among, parent, parts_of, path_of, path_text}
use Rattle.witx_base.specs.PathTexts.{HasNoSlash, IsPathText, path_text_parts}
use Rattle.witx_base.proofs.PathTexts.{AreParts, IsWell, no-root, parts-free, parts-of-text, parts-other, read-well, text-other, text-parts}

-- ---- the parts of what stands before a slash and behind it

free : (xs : List ℕ) → ((i : ℕ) → i < length xs → (get_or xs i 0 ≡ 47 → ⊥)) → All (λ b. (b == 47) ≡ false) xs
free xs h = All-from_get_or (λ b. (b == 47) ≡ false) xs 0 (λ i l. ne_eqb (get_or xs i 0) 47 (h i l))

pub cut-first : (bs : List ℕ) (r : Option (Bor (List ℕ) × Bor (List ℕ))) → IsSplitOnceResult 47 bs r
    → MatchOption r (parts_of bs ≡ bs ∷ []) (λ x. parts_of bs ≡ x.0.now ∷ parts_of x.1.now)
cut-first bs None h = slice_split_none (λ b. b == 47) bs (free bs (split_parts 47 bs None h (lit< tt)))
cut-first bs (Some x) h =
    let cut = split_parts 47 bs (Some x) h (lit< tt) in
    ap parts_of cut.0 ∙ slice_split_at (λ b. b == 47) x.0.now 47 x.1.now (free x.0.now cut.1) refl

onto-append : (b : ℕ) (xs ys : List (List ℕ)) → 0 < length xs → onto_first b (xs ++ ys) ≡ onto_first b xs ++ ys
onto-append b [] ys l = absurd (omega arith)
onto-append b (x ∷ xs) ys l = refl

onto-some : (b : ℕ) (xs : List (List ℕ)) → 0 < length (onto_first b xs)
onto-some b [] = omega arith
onto-some b (x ∷ xs) = omega arith

some-step : (t : Bool) (b : ℕ) (bs : List ℕ) → (b == 47) ≡ t → 0 < length (parts_of (b ∷ bs))
some-step true b bs e = subst (λ xs. 0 < length xs) (sym (slice_split-cons_yes (λ x. x == 47) b bs e)) (omega arith)
some-step false b bs e = subst (λ xs. 0 < length xs) (sym (slice_split-cons_no (λ x. x == 47) b bs e)) (onto-some b (parts_of bs))

pub parts-some : (bs : List ℕ) → 0 < length (parts_of bs)
parts-some [] = omega arith
parts-some (b ∷ bs) = some-step (b == 47) b bs refl

append-step : (t : Bool) (x : ℕ) (xs more : List ℕ) (ys : List (List ℕ)) → (x == 47) ≡ t → parts_of more ≡ parts_of xs ++ ys
    → parts_of (x ∷ more) ≡ parts_of (x ∷ xs) ++ ys
append-step true x xs more ys e h =
    slice_split-cons_yes (λ b. b == 47) x more e ∙ ap (λ ps. [] ∷ ps) h
    ∙ sym (ap (λ ps. ps ++ ys) (slice_split-cons_yes (λ b. b == 47) x xs e))
append-step false x xs more ys e h =
    slice_split-cons_no (λ b. b == 47) x more e ∙ ap (onto_first x) h ∙ onto-append x (parts_of xs) ys (parts-some xs)
    ∙ sym (ap (λ ps. ps ++ ys) (slice_split-cons_no (λ b. b == 47) x xs e))

pub parts-append : (xs ys : List ℕ) → parts_of (xs ++ 47 ∷ ys) ≡ parts_of xs ++ parts_of ys
parts-append [] ys = refl
parts-append (x ∷ xs) ys = append-step (x == 47) x xs (xs ++ 47 ∷ ys) (parts_of ys) refl (parts-append xs ys)

pub cut-last : (bs : List ℕ) (r : Option (Bor (List ℕ) × Bor (List ℕ)))
    → MatchOption r (RFindsChar 47 bs None) (λ x. SplitsAroundMatch (RFindsChar 47) bs x.0.now x.1.now)
    → MatchOption r (parts_of bs ≡ bs ∷ []) (λ x. parts_of bs ≡ parts_of x.0.now ++ x.1.now ∷ [])
cut-last bs None h = slice_split_none (λ b. b == 47) bs (free bs (λ i. NoCharPasses-char 47 bs i h (lit< tt)))
cut-last bs (Some x) h =
    let found = h.2 in
    let whole : bs ≡ x.0.now ++ 47 ∷ x.1.now = sym (take-append-drop h.0 bs)
    ∙ (λ k. sym h.3 k ++ (drop_at_char 47 bs h.0 h.1 found.1 (lit< tt) ∙ ap (λ l. 47 ∷ l) (sym h.4)) k) in
    let back = free x.1.now (λ i. NoCharPasses-char 47 x.1.now i (subst (λ d. RFindsChar 47 d None) (sym h.4) found.0) (lit< tt)) in
    ap parts_of whole ∙ parts-append x.0.now x.1.now ∙ ap (λ ps. parts_of x.0.now ++ ps) (slice_split_none (λ b. b == 47) x.1.now back)

-- texts with the same parts are the same
pub same-parts : (xs ys : List ℕ) → parts_of xs ≡ parts_of ys → xs ≡ ys
same-parts xs ys e = sym (join_with_byte-slice_split 47 xs) ∙ ap (join_with_byte 47) e ∙ join_with_byte-slice_split 47 ys

-- ---- the last part

front-snoc : (xs : Path) (b : List ℕ) → all_but_last (xs ++ b ∷ []) ≡ xs
front-snoc [] b = refl
front-snoc (x ∷ []) b = refl
front-snoc (x ∷ y ∷ ys) b = ap (λ zs. x ∷ zs) (front-snoc (y ∷ ys) b)

last-snoc : (xs : Path) (b : List ℕ) → last_component (xs ++ b ∷ []) ≡ Some b
last-snoc [] b = refl
last-snoc (x ∷ []) b = refl
last-snoc (x ∷ y ∷ ys) b = last-snoc (y ∷ ys) b

some-is : (b c : List ℕ) → Some b ≡ Some c → b ≡ c
some-is b c e = cc

pub suc-full : (x : ℕ) (xs : List ℕ) → (length (x ∷ xs) == 0) ≡ false
suc-full x xs = ne_eqb (length (x ∷ xs)) 0 (λ e. omega arith)

pub kept-full : (c : List ℕ) → is_kept c ≡ true → (length c == 0) ≡ false
kept-full [] h = absurd (cc)
kept-full (b ∷ bs) h = suc-full b bs

last-full : (c : List ℕ) (cs : Path) (b : List ℕ) → (length c == 0) ≡ false → AreParts cs → last_component (c ∷ cs) ≡ Some b → (length b == 0) ≡ false
last-full c [] b f h e = ap (λ x. length x == 0) (sym (some-is c b e)) ∙ f
last-full c (d ∷ ds) b f h e = last-full d ds b (kept-full d h.1) h.2 e

named-last : (o : Option (List ℕ)) (b : List ℕ) → (length b == 0) ≡ false → o ≡ Some b → (if length b == 0 then None else name_among (Some b)) ≡ name_among o
named-last o b f e = ap (λ t. if t then None else name_among (Some b)) f ∙ ap name_among (sym e)

name-of : (p : Path) (b : List ℕ) → IsWell p → last_component (path_text_parts p) ≡ Some b → (if length b == 0 then None else name_among (Some b)) ≡ file_name p
name-of [] b h e = ap (λ x. if length x == 0 then None else name_among (Some x)) (sym (some-is [] b e))
name-of (c ∷ []) b (inl q, k) e =
    let none : [] ≡ b = some-is [] b (subst (λ r. last_component (path_text_parts (r ∷ [])) ≡ Some b) q e) in
    ap (λ x. if length x == 0 then None else name_among (Some x)) (sym none) ∙ ap (λ r. file_name (r ∷ [])) (sym q)
name-of (c ∷ d ∷ ds) b (inl q, k) e =
    let last : last_component (d ∷ ds) ≡ Some b = subst (λ r. last_component (path_text_parts (r ∷ d ∷ ds)) ≡ Some b) q e in
    named-last (last_component (d ∷ ds)) b (last-full d ds b (kept-full d k.1) k.2 last) last
name-of (c ∷ cs) b (inr f, k) e =
    let last : last_component (c ∷ cs) ≡ Some b = ap last_component (sym (parts-other c cs (no-root c f.0))) ∙ e in
    named-last (last_component (c ∷ cs)) b (last-full c cs b f.1 k last) last

pub name-cut : (text front b : List ℕ) → IsPathText text → parts_of text ≡ parts_of front ++ b ∷ []
    → (if length b == 0 then None else name_among (Some b)) ≡ file_name (path_of text)
name-cut text front b h e =
    name-of (path_of text) b (read-well text) (ap last_component (sym (parts-of-text text h) ∙ e) ∙ last-snoc (parts_of front) b)

pub name-whole : (text : List ℕ) → IsPathText text → parts_of text ≡ text ∷ []
    → (if length text == 0 then None else name_among (Some text)) ≡ file_name (path_of text)
name-whole text h e =
    name-of (path_of text) text (read-well text) (ap last_component (sym (parts-of-text text h) ∙ e))

pub ruleset name_rules = (name-cut, name-whole)

-- ---- what stands above it

pub no-parts : (xs : List ℕ) → [] ≡ parts_of xs → ⊥
no-parts xs e = let l : 0 < length {A = List ℕ} [] = subst (λ ps. 0 < length ps) (sym e) (parts-some xs) in absurd (omega arith)

-- the text that stands above: nothing, the root, or what stands before the last slash
above_in : List ℕ → List ℕ → Option (List ℕ)
above_in front b = (if length front == 0 then (if length b == 0 then None else Some (47 ∷ [])) else Some front)

above-is : (front b text : List ℕ) → front ≡ text → (length text == 0) ≡ false → above_in front b ≡ Some text
unfolding above_in
above-is front b text e f = ap (λ x. above_in x b) e ∙ ap (λ t. if t then (if length b == 0 then None else Some (47 ∷ [])) else Some text) f

pub append-full : (c more : List ℕ) → (length c == 0) ≡ false → (length (c ++ more) == 0) ≡ false
append-full [] more h = absurd (cc)
append-full (b ∷ bs) more h = suc-full b (bs ++ more)

front-parts : (cs : Path) → AreParts cs → AreParts (all_but_last cs)
front-parts [] h = tt
front-parts (c ∷ []) h = tt
front-parts (c ∷ d ∷ ds) h = (h.0, h.1, front-parts (d ∷ ds) h.2)

pub front-well : (p : Path) → IsWell p → IsWell (all_but_last p)
front-well [] h = tt
front-well (c ∷ []) h = tt
front-well (c ∷ d ∷ ds) h = (h.0, front-parts (d ∷ ds) h.1)

other-full : (c : List ℕ) (cs : Path) → HasNoSlash c → (length c == 0) ≡ false → (length (path_text (c ∷ cs)) == 0) ≡ false
other-full c [] h f = f
other-full c (d ∷ ds) h f = ap (λ x. length x == 0) (text-other c d ds (no-root c h)) ∙ append-full c _ f

front-is : (front : List ℕ) (q : Path) → IsWell q → path_text_parts q ≡ parts_of front → front ≡ path_text q
front-is front q h e = same-parts front (path_text q) (sym e ∙ sym (text-parts q h))

-- `whole` is the parts without the last
above-of : (p : Path) (front b : List ℕ) → IsWell p → all_but_last (path_text_parts p) ≡ parts_of front → last_component (path_text_parts p) ≡ Some b
    → above_in front b ≡ option_map path_text (parent p)
unfolding above_in
above-of [] front b h e l = absurd (no-parts front e)
above-of (c ∷ []) front b (inl q, k) e l =
    let none : [] ≡ b = some-is [] b (subst (λ r. last_component (path_text_parts (r ∷ [])) ≡ Some b) q l) in
    let empty : [] ≡ front = same-parts [] front (subst (λ r. all_but_last (path_text_parts (r ∷ [])) ≡ parts_of front) q e) in
    (λ i. above_in (sym empty i) (sym none i)) ∙ ap (λ r. option_map path_text (parent (r ∷ []))) (sym q)
above-of (c ∷ d ∷ []) front b (inl q, k) e l =
    let last : last_component (d ∷ []) ≡ Some b = subst (λ r. last_component (path_text_parts (r ∷ d ∷ [])) ≡ Some b) q l in
    let empty : [] ≡ front = same-parts [] front (subst (λ r. all_but_last (path_text_parts (r ∷ d ∷ [])) ≡ parts_of front) q e) in
    ap (λ x. above_in x b) (sym empty) ∙ ap (λ t. if t then None else Some (47 ∷ [])) (last-full d [] b (kept-full d k.1) k.2 last)
    ∙ ap (λ r. option_map path_text (parent (r ∷ d ∷ []))) (sym q)
above-of (c ∷ d ∷ x ∷ xs) front b (inl q, k) e l =
    let up : Path = (47 ∷ []) ∷ d ∷ all_but_last (x ∷ xs) in
    let well : IsWell up = (inl refl, (k.0, k.1, front-parts (x ∷ xs) k.2)) in
    let same : path_text_parts up ≡ parts_of front = subst (λ r. all_but_last (path_text_parts (r ∷ d ∷ x ∷ xs)) ≡ parts_of front) q e in
    above-is front b (path_text up) (front-is front up well same) (suc-full 47 (d ++ behind_slashes (all_but_last (x ∷ xs))))
    ∙ ap (λ r. option_map path_text (parent (r ∷ d ∷ x ∷ xs))) (sym q)
above-of (c ∷ []) front b (inr f, k) e l = absurd (no-parts front (ap all_but_last (sym (parts-other c [] (no-root c f.0))) ∙ e))
above-of (c ∷ d ∷ ds) front b (inr f, k) e l =
    let up : Path = c ∷ all_but_last (d ∷ ds) in
    let same : path_text_parts up ≡ parts_of front = parts-other c (all_but_last (d ∷ ds)) (no-root c f.0) ∙ ap all_but_last (sym (parts-other c (d ∷ ds) (no-root c f.0))) ∙ e in
    above-is front b (path_text up) (front-is front up (inr f, front-parts (d ∷ ds) k) same) (other-full c (all_but_last (d ∷ ds)) f.0 f.1)

pub above-cut : (text front b : List ℕ) → IsPathText text → parts_of text ≡ parts_of front ++ b ∷ []
    → (if length front == 0 then (if length b == 0 then None else Some (47 ∷ [])) else Some front) ≡ option_map path_text (parent (path_of text))
unfolding above_in
above-cut text front b h e =
    let cut = sym (parts-of-text text h) ∙ e in
    above-of (path_of text) front b (read-well text) (ap all_but_last cut ∙ front-snoc (parts_of front) b) (ap last_component cut ∙ last-snoc (parts_of front) b)

pub one-free : (text : List ℕ) → parts_of text ≡ text ∷ [] → HasNoSlash text
one-free text e = (subst (AllByRecursion HasNoSlash) e (parts-free text)).0

pub read-one : (text : List ℕ) → parts_of text ≡ text ∷ [] → path_of text ≡ (if length text == 0 then [] else text ∷ [])
unfolding path_of
read-one text e = ap components_of e

above-one : (t : Bool) (text : List ℕ) → is_root text ≡ false → (if t then None else Some []) ≡ option_map path_text (parent (if t then [] else text ∷ []))
above-one true text h = refl
above-one false text h = sym (ap (λ r. option_map path_text (if not r then Some [] else None)) h)

pub above-whole : (text : List ℕ) → parts_of text ≡ text ∷ []
    → (if length text == 0 then None else Some []) ≡ option_map path_text (parent (path_of text))
above-whole text e = above-one (length text == 0) text (no-root text (one-free text e)) ∙ ap (λ p. option_map path_text (parent p)) (sym (read-one text e))

pub ruleset parent_rules = (above-cut, above-whole)
