-- The text of two paths that are joined.
use Rattle.std.proofs.Common.{◌≡◌, ℕ, List, [], ◌∷◌, ◌++◌, Bool, true, false, refl, sym, ap, ◌∙◌, subst, not, ◌||◌, ◌&&◌, if◌then◌else◌, length, append-nil, append_assoc, inl, inr}
use Rattle.std.specs.Prelude.{◌==◌}
use Rattle.std.specs.Cmp.Lexicographic.{pointwise}
use Rattle.witx_base.specs.Paths.{Path, behind_slashes, is_absolute, is_current_dir, is_kept, is_root, join, join_to, parts_of, path_of, path_text, without_current_dir}
use Rattle.witx_base.specs.PathTexts.{HasNoSlash, IsPathText, or_empty, path_text_parts}
use Rattle.witx_base.proofs.PathTexts.{AreParts, IsFirst, IsWell, no-root, parts-of-text, parts-other, read-well, text-other, text-parts}
use Rattle.witx_base.proofs.Cuts.{no-parts, one-free, read-one, same-parts, suc-full, kept-full}

pub head-is : (x y : List ℕ) (xs ys : Path) → x ∷ xs ≡ y ∷ ys → x ≡ y
head-is x y xs ys e = cc

pub tail-is : (x y : List ℕ) (xs ys : Path) → x ∷ xs ≡ y ∷ ys → xs ≡ ys
tail-is x y xs ys e = cc

-- ---- whether a path is absolute

absolute-of : (p : Path) (first : List ℕ) (more : Path) → IsWell p → path_text_parts p ≡ first ∷ more → ([] ≡ more → ⊥) → (length first == 0) ≡ is_absolute p
absolute-of [] first more h e some = absurd (some (tail-is [] first [] more e))
absolute-of (c ∷ cs) first more (inl q, k) e some =
    let same : [] ∷ or_empty cs ≡ first ∷ more = subst (λ r. path_text_parts (r ∷ cs) ≡ first ∷ more) q e in
    ap (λ x. length x == 0) (sym (head-is [] first (or_empty cs) more same)) ∙ ap is_root (sym q)
absolute-of (c ∷ cs) first more (inr f, k) e some =
    let same : c ∷ cs ≡ first ∷ more = sym (parts-other c cs (no-root c f.0)) ∙ e in
    ap (λ x. length x == 0) (sym (head-is c first cs more same)) ∙ f.1 ∙ sym (no-root c f.0)

pub absolute-cut : (text first rest : List ℕ) → IsPathText text → parts_of text ≡ first ∷ parts_of rest → (length first == 0) ≡ is_absolute (path_of text)
absolute-cut text first rest h e = absolute-of (path_of text) first (parts_of rest) (read-well text) (sym (parts-of-text text h) ∙ e) (no-parts rest)

absolute-one : (t : Bool) (text : List ℕ) → is_root text ≡ false → false ≡ is_absolute (if t then [] else text ∷ [])
absolute-one true text h = refl
absolute-one false text h = sym h

pub absolute-whole : (text : List ℕ) → parts_of text ≡ text ∷ [] → false ≡ is_absolute (path_of text)
absolute-whole text e = absolute-one (length text == 0) text (no-root text (one-free text e)) ∙ ap is_absolute (sym (read-one text e))

pub ruleset absolute_rules = (absolute-cut, absolute-whole)

-- ---- without a first `.`

first-full : (c : List ℕ) (cs : Path) → AreParts (c ∷ cs) → IsWell (c ∷ cs)
first-full c cs h = (inr (h.0, kept-full c h.1), h.2)

rest-well : (cs : Path) → AreParts cs → IsWell cs
rest-well [] h = tt
rest-well (c ∷ cs) h = first-full c cs h

rest-parts : (cs : Path) → AreParts cs → ([] ≡ cs → ⊥) → path_text_parts cs ≡ cs
rest-parts [] h some = absurd (some refl)
rest-parts (c ∷ cs) h some = parts-other c cs (no-root c h.0)

dir-yes : (t : Bool) (text first rest : List ℕ) (p : Path) → path_text p ≡ text → IsWell p → path_text_parts p ≡ first ∷ parts_of rest → is_absolute p ≡ false
    → is_current_dir first ≡ t → (if t then rest else text) ≡ path_text (without_current_dir p)
dir-yes t text first rest [] w h e a d = absurd (no-parts rest (tail-is [] first [] (parts_of rest) e))
dir-yes t text first rest (c ∷ cs) w (inl q, k) e a d = let no : true ≡ false = ap is_root (sym q) ∙ a in absurd (cc)
dir-yes true text first rest (c ∷ cs) w (inr f, k) e a d =
    let same : c ∷ cs ≡ first ∷ parts_of rest = sym (parts-other c cs a) ∙ e in
    let dot : is_current_dir c ≡ true = ap is_current_dir (head-is c first cs (parts_of rest) same) ∙ d in
    let left : cs ≡ parts_of rest = tail-is c first cs (parts_of rest) same in
    let some : [] ≡ cs → ⊥ = λ z. no-parts rest (z ∙ left) in
    same-parts rest (path_text cs) (sym left ∙ sym (text-parts cs (rest-well cs k) ∙ rest-parts cs k some))
    ∙ ap (λ b. path_text (if b then cs else c ∷ cs)) (sym dot)
dir-yes false text first rest (c ∷ cs) w (inr f, k) e a d =
    let same : c ∷ cs ≡ first ∷ parts_of rest = sym (parts-other c cs a) ∙ e in
    let dot : is_current_dir c ≡ false = ap is_current_dir (head-is c first cs (parts_of rest) same) ∙ d in
    sym w ∙ ap (λ b. path_text (if b then cs else c ∷ cs)) (sym dot)

pub dir-cut : (text first rest : List ℕ) → IsPathText text → is_absolute (path_of text) ≡ false → parts_of text ≡ first ∷ parts_of rest
    → (if is_current_dir first then rest else text) ≡ path_text (without_current_dir (path_of text))
dir-cut text first rest h a e = dir-yes (is_current_dir first) text first rest (path_of text) h (read-well text) (sym (parts-of-text text h) ∙ e) a refl

dir-one : (t u : Bool) (text : List ℕ) → (length text == 0) ≡ t → is_current_dir text ≡ u → (if u then [] else text) ≡ path_text (without_current_dir (if t then [] else text ∷ []))
dir-one true true text e d = refl
dir-one true false [] e d = refl
dir-one true false (b ∷ bs) e d = let no : true ≡ false = sym e ∙ suc-full b bs in absurd (cc)
dir-one false true text e d = ap (λ b. path_text (if b then [] else text ∷ [])) (sym d)
dir-one false false text e d = ap (λ b. path_text (if b then [] else text ∷ [])) (sym d)

pub dir-whole : (text : List ℕ) → parts_of text ≡ text ∷ [] → (if is_current_dir text then [] else text) ≡ path_text (without_current_dir (path_of text))
dir-whole text e = dir-one (length text == 0) (is_current_dir text) text refl refl ∙ ap (λ p. path_text (without_current_dir p)) (sym (read-one text e))

pub ruleset dir_rules = (dir-cut, dir-whole)

-- ---- a path behind another one

pub slashes-append : (xs ys : Path) → behind_slashes (xs ++ ys) ≡ behind_slashes xs ++ behind_slashes ys
slashes-append [] ys = refl
slashes-append (x ∷ xs) ys = ap (λ z. 47 ∷ (x ++ z)) (slashes-append xs ys) ∙ ap (λ z. 47 ∷ z) (sym (append_assoc x (behind_slashes xs) (behind_slashes ys)))

slashes-text : (ds : Path) → AreParts ds → ([] ≡ ds → ⊥) → behind_slashes ds ≡ 47 ∷ path_text ds
slashes-text [] h some = absurd (some refl)
slashes-text (d ∷ []) h some = ap (λ z. 47 ∷ z) (append-nil d)
slashes-text (d ∷ x ∷ xs) h some = ap (λ z. 47 ∷ z) (sym (text-other d x xs (no-root d h.0)))

long-root : (t : Bool) (c d : List ℕ) (ds : Path) → is_root c ≡ t → IsFirst c → is_kept d ≡ true → is_root ((if t then [] else c) ++ behind_slashes (d ∷ ds)) ≡ false
long-root true c [] ds e f k = absurd (cc)
long-root true c (b ∷ bs) ds e f k = refl
long-root false [] d ds e (inl q) k = absurd (cc)
long-root false [] d ds e (inr f) k = let no : true ≡ false = f.1 in absurd (cc)
long-root false (b ∷ bs) d ds e (inl q) k = let no : true ≡ false = ap is_root (sym q) ∙ e in absurd (cc)
long-root false (b ∷ bs) d ds e (inr f) k = ap (λ t. t && pointwise ◌==◌ (bs ++ behind_slashes (d ∷ ds)) []) f.0.0

pub join-text : (p ds : Path) → IsWell p → ([] ≡ p → ⊥) → AreParts ds → ([] ≡ ds → ⊥)
    → (if is_root (path_text p) then [] else path_text p) ++ 47 ∷ path_text ds ≡ path_text (p ++ ds)
join-text [] ds h one k some = absurd (one refl)
join-text (c ∷ []) [] h one k some = absurd (some refl)
join-text (c ∷ []) (d ∷ ds) h one k some = ap (λ z. (if is_root c then [] else c) ++ z) (sym (slashes-text (d ∷ ds) k some))
join-text (c ∷ e ∷ es) ds h one k some =
    let front : List ℕ = (if is_root c then [] else c) in
    ap (λ t. (if t then [] else front ++ behind_slashes (e ∷ es)) ++ 47 ∷ path_text ds) (long-root (is_root c) c e es refl h.0 h.1.1)
    ∙ ap (λ z. (front ++ behind_slashes (e ∷ es)) ++ z) (sym (slashes-text ds k some))
    ∙ append_assoc front (behind_slashes (e ∷ es)) (behind_slashes ds)
    ∙ ap (λ z. front ++ z) (sym (slashes-append (e ∷ es) ds))

dir-step : (t : Bool) (c : List ℕ) (cs : Path) → is_current_dir c ≡ t → HasNoSlash c → (length c == 0) ≡ false → AreParts cs → AreParts (if t then cs else c ∷ cs)
dir-step true c cs d h f k = k
dir-step false c cs d h f k = (h, (λ i. not (f i || d i)), k)

pub dir-parts : (q : Path) → IsWell q → is_absolute q ≡ false → AreParts (without_current_dir q)
dir-parts [] h a = tt
dir-parts (c ∷ cs) (inl e, k) a = let no : true ≡ false = ap is_root (sym e) ∙ a in absurd (cc)
dir-parts (c ∷ cs) (inr f, k) a = dir-step (is_current_dir c) c cs refl f.0 f.1 k

parts-append-well : (xs ys : Path) → AreParts xs → AreParts ys → AreParts (xs ++ ys)
parts-append-well [] ys h k = k
parts-append-well (x ∷ xs) ys h k = (h.0, h.1, parts-append-well xs ys h.2 k)

join-is : (p q : Path) → is_absolute q ≡ false → ([] ≡ p → ⊥) → join p q ≡ p ++ without_current_dir q
unfolding join
join-is [] q a one = absurd (one refl)
join-is (c ∷ cs) q a one = ap (λ b. if b then q else (c ∷ cs) ++ without_current_dir q) a

pub join-well : (t : Bool) (p q : Path) → is_absolute q ≡ t → IsWell p → IsWell q → IsWell (join p q)
unfolding join
join-well true p q a h k = subst IsWell (λ i. (if sym a i then q else join_to p q)) k
join-well false [] q a h k = subst IsWell (λ i. (if sym a i then q else q)) k
join-well false (c ∷ cs) q a h k = subst IsWell (λ i. (if sym a i then q else (c ∷ cs) ++ without_current_dir q)) (h.0, parts-append-well cs (without_current_dir q) h.1 (dir-parts q k a))

text-some : (text : List ℕ) → IsPathText text → (length text == 0) ≡ false → [] ≡ path_of text → ⊥
text-some text h f e = let no : true ≡ false = ap (λ x. length x == 0) (ap path_text e ∙ h) ∙ f in absurd (cc)

empty-text : (ds : Path) → IsWell ds → (length (path_text ds) == 0) ≡ true → ds ≡ []
empty-text [] h e = refl
empty-text (c ∷ []) (inl q, k) e = let no : false ≡ true = ap (λ r. length (path_text (r ∷ [])) == 0) (sym q) ∙ e in absurd (cc)
empty-text (c ∷ []) (inr f, k) e = let no : false ≡ true = sym f.1 ∙ e in absurd (cc)
empty-text ([] ∷ d ∷ ds) h e = let no : false ≡ true = sym (suc-full 47 (d ++ behind_slashes ds)) ∙ e in absurd (cc)
empty-text ((b ∷ bs) ∷ d ∷ ds) (inl q, k) e =
    let no : false ≡ true = sym (suc-full 47 (d ++ behind_slashes ds)) ∙ ap (λ r. length (path_text (r ∷ d ∷ ds)) == 0) (sym q) ∙ e in absurd (cc)
empty-text ((b ∷ bs) ∷ d ∷ ds) (inr f, k) e =
    let no : false ≡ true = sym (suc-full b (bs ++ behind_slashes (d ∷ ds))) ∙ ap (λ x. length x == 0) (sym (text-other (b ∷ bs) d ds (no-root (b ∷ bs) f.0))) ∙ e in absurd (cc)

-- nothing is put behind
pub join-nothing : (text other rest : List ℕ) → IsPathText text → IsPathText other → is_absolute (path_of other) ≡ false → (length text == 0) ≡ false
    → rest ≡ path_text (without_current_dir (path_of other)) → (length rest == 0) ≡ true → text ≡ path_text (join (path_of text) (path_of other))
join-nothing text other rest h k a f r e =
    let p = path_of text in
    let q = path_of other in
    let none : without_current_dir q ≡ [] = empty-text (without_current_dir q) (rest-well (without_current_dir q) (dir-parts q (read-well other) a)) (ap (λ x. length x == 0) (sym r) ∙ e) in
    sym h ∙ ap path_text (sym (join-is p q a (text-some text h f) ∙ ap (λ z. p ++ z) none ∙ append-nil p))

pub join-behind : (text other rest : List ℕ) → IsPathText text → IsPathText other → is_absolute (path_of other) ≡ false → (length text == 0) ≡ false
    → rest ≡ path_text (without_current_dir (path_of other)) → (length rest == 0) ≡ false
    → (if is_root text then [] else text) ++ 47 ∷ rest ≡ path_text (join (path_of text) (path_of other))
join-behind text other rest h k a f r e =
    let p = path_of text in
    let q = path_of other in
    let some : [] ≡ without_current_dir q → ⊥ = λ z. let no : true ≡ false = ap (λ x. length (path_text x) == 0) z ∙ ap (λ x. length x == 0) (sym r) ∙ e in absurd (cc) in
    (λ i. (if is_root (sym h i) then [] else sym h i) ++ 47 ∷ r i)
    ∙ join-text p (without_current_dir q) (read-well text) (text-some text h f) (dir-parts q (read-well other) a) some
    ∙ ap path_text (sym (join-is p q a (text-some text h f)))

pub ruleset join_rules = (join-nothing, join-behind)
