-- The order of paths by their components, as their texts give it.
use Rattle.std.proofs.Common.{◌≡◌, ℕ, List, [], ◌∷◌, ◌++◌, Bool, true, false, refl, sym, ap, ◌∙◌, length, inl, inr}
use Rattle.std.specs.Prelude.{◌==◌, cond, nat_lt}
use Rattle.std.specs.declared.cmp.Ordering.{Ordering}
use Rattle.std.specs.declared.cmp.Ordering.TheVariants.{Less, Equal, Greater}
use Rattle.std.specs.Ordering.{nat_cmp, ordering_reverse, ordering_then}
use Rattle.std.specs.Cmp.Lexicographic.{lists_total, nat_list_cmp_total, pointwise, slice_cmp}
use Rattle.std.proofs.lemmas.Slice.Eq.{bytes_eq-Decides}
use Rattle.std.proofs.lemmas.Bool.{eq-eqb, eqb-true}
use Rattle.witx_base.specs.Paths.{Path, behind_slashes, is_absolute, is_root, parts_of, path_of, path_text}
use Rattle.witx_base.specs.PathTexts.{HasNoSlash, IsPathText, or_empty, path_text_parts}
use Rattle.witx_base.proofs.PathTexts.{AreParts, IsWell, no-root, parts-of-text, parts-other, read-well, text-other}
use Rattle.witx_base.proofs.Cuts.{kept-full}

in_order : List (List ℕ) → List (List ℕ) → Ordering
in_order = slice_cmp (slice_cmp nat_cmp)

above-empty : (d : List ℕ) (ds : Path) → (length d == 0) ≡ false → in_order ([] ∷ []) (d ∷ ds) ≡ Less
unfolding in_order
above-empty [] ds f = let no : true ≡ false = f in absurd (cc)
above-empty (b ∷ bs) ds f = refl

below-empty : (d : List ℕ) (ds : Path) → (length d == 0) ≡ false → in_order (d ∷ ds) ([] ∷ []) ≡ Greater
unfolding in_order
below-empty [] ds f = let no : true ≡ false = f in absurd (cc)
below-empty (b ∷ bs) ds f = refl

or-order : (cs ds : Path) → AreParts cs → AreParts ds → in_order (or_empty cs) (or_empty ds) ≡ in_order cs ds
unfolding in_order
or-order [] [] h k = refl
or-order [] (d ∷ ds) h k = above-empty d ds (kept-full d k.1)
or-order (c ∷ cs) [] h k = below-empty c cs (kept-full c h.1)
or-order (c ∷ cs) (d ∷ ds) h k = refl

like-order : (p q : Path) → IsWell p → IsWell q → is_absolute p ≡ is_absolute q → in_order (path_text_parts p) (path_text_parts q) ≡ in_order p q
unfolding in_order
like-order [] [] h k a = refl
like-order [] (d ∷ ds) h (inl e, k) a = let no : false ≡ true = a ∙ ap is_root e in absurd (cc)
like-order [] (d ∷ ds) h (inr f, k) a = ap (in_order ([] ∷ [])) (parts-other d ds (no-root d f.0)) ∙ above-empty d ds f.1
like-order (c ∷ cs) [] (inl e, h) k a = let no : true ≡ false = ap is_root (sym e) ∙ a in absurd (cc)
like-order (c ∷ cs) [] (inr f, h) k a = ap (λ x. in_order x ([] ∷ [])) (parts-other c cs (no-root c f.0)) ∙ below-empty c cs f.1
like-order (c ∷ cs) (d ∷ ds) (inl e, h) (inl g, k) a =
    (λ i. in_order (path_text_parts (e i ∷ cs)) (path_text_parts (g i ∷ ds))) ∙ or-order cs ds h k ∙ (λ i. in_order (sym e i ∷ cs) (sym g i ∷ ds))
like-order (c ∷ cs) (d ∷ ds) (inl e, h) (inr g, k) a = let no : true ≡ false = ap is_root (sym e) ∙ a ∙ no-root d g.0 in absurd (cc)
like-order (c ∷ cs) (d ∷ ds) (inr f, h) (inl g, k) a = let no : false ≡ true = sym (no-root c f.0) ∙ a ∙ ap is_root g in absurd (cc)
like-order (c ∷ cs) (d ∷ ds) (inr f, h) (inr g, k) a = λ i. in_order (parts-other c cs (no-root c f.0) i) (parts-other d ds (no-root d g.0) i)

-- ---- where one alone is absolute

root-text : (cs : Path) → (more : List ℕ) × (path_text ((47 ∷ []) ∷ cs) ≡ 47 ∷ more)
root-text [] = ([], refl)
root-text (d ∷ ds) = (d ++ behind_slashes ds, refl)

other-text : (b : ℕ) (bs : List ℕ) (cs : Path) → HasNoSlash (b ∷ bs) → (more : List ℕ) × (path_text ((b ∷ bs) ∷ cs) ≡ b ∷ more)
other-text b bs [] h = (bs, refl)
other-text b bs (d ∷ ds) h = (bs ++ behind_slashes (d ∷ ds), text-other (b ∷ bs) d ds (no-root (b ∷ bs) h))

-- a test that fails fails the other way round
flip-step : (t : Bool) (a b : ℕ) → (b == a) ≡ t → (a == b) ≡ false → (b == a) ≡ false
flip-step true a b s e = let no : (b == b) ≡ false = ap (λ x. x == b) (eqb-true b a s) ∙ e in let both : true ≡ false = sym (eq-eqb b b refl) ∙ no in absurd (cc)
flip-step false a b s e = s

flip-test : (a b : ℕ) → (a == b) ≡ false → (b == a) ≡ false
flip-test a b e = flip-step (b == a) a b refl e

decided : (u : Bool) (x y z : Ordering) → ordering_then (cond u Less Greater) x ≡ ordering_then (ordering_then (cond u Less Greater) y) z
decided true x y z = refl
decided false x y z = refl

decided-cmp : (a b : ℕ) (x y z : Ordering) → (a == b) ≡ false → ordering_then (nat_cmp a b) x ≡ ordering_then (ordering_then (nat_cmp a b) y) z
decided-cmp a b x y z e =
    let o : nat_cmp a b ≡ cond (nat_lt a b) Less Greater = ap (λ t. cond (nat_lt a b) Less (cond t Equal Greater)) e in
    ap (λ r. ordering_then r x) o ∙ decided (nat_lt a b) x y z ∙ ap (λ r. ordering_then (ordering_then r y) z) (sym o)

unlike-order : (p q : Path) → IsWell p → IsWell q → is_absolute p ≡ true → is_absolute q ≡ false → slice_cmp nat_cmp (path_text p) (path_text q) ≡ in_order p q
unfolding in_order
unlike-order [] q h k a o = let no : false ≡ true = a in absurd (cc)
unlike-order (c ∷ cs) q (inr f, h) k a o = let no : false ≡ true = sym (no-root c f.0) ∙ a in absurd (cc)
unlike-order (c ∷ cs) [] (inl e, h) k a o =
    ap (λ r. slice_cmp nat_cmp (path_text (r ∷ cs)) []) e ∙ ap (λ t. slice_cmp nat_cmp t []) (root-text cs).1
unlike-order (c ∷ cs) (d ∷ ds) (inl e, h) (inl g, k) a o = let no : true ≡ false = ap is_root (sym g) ∙ o in absurd (cc)
unlike-order (c ∷ cs) ([] ∷ ds) (inl e, h) (inr g, k) a o = let no : true ≡ false = g.1 in absurd (cc)
unlike-order (c ∷ cs) ((b ∷ bs) ∷ ds) (inl e, h) (inr g, k) a o =
    ap (λ r. slice_cmp nat_cmp (path_text (r ∷ cs)) (path_text ((b ∷ bs) ∷ ds))) e
    ∙ (λ i. slice_cmp nat_cmp ((root-text cs).1 i) ((other-text b bs ds g.0).1 i))
    ∙ decided-cmp 47 b (slice_cmp nat_cmp (root-text cs).0 (other-text b bs ds g.0).0) (slice_cmp nat_cmp [] bs) (in_order cs ds) (flip-test b 47 g.0.0)
    ∙ ap (λ r. in_order (r ∷ cs) ((b ∷ bs) ∷ ds)) (sym e)

back-other : (c : List ℕ) (cs ds : Path) → HasNoSlash c → (length c == 0) ≡ false
    → slice_cmp nat_cmp (path_text (c ∷ cs)) (path_text ((47 ∷ []) ∷ ds)) ≡ in_order (c ∷ cs) ((47 ∷ []) ∷ ds)
unfolding in_order
back-other [] cs ds h f = let no : true ≡ false = f in absurd (cc)
back-other (b ∷ bs) cs ds h f =
    (λ i. slice_cmp nat_cmp ((other-text b bs cs h).1 i) ((root-text ds).1 i))
    ∙ decided-cmp b 47 (slice_cmp nat_cmp (other-text b bs cs h).0 (root-text ds).0) (slice_cmp nat_cmp bs []) (in_order cs ds) h.0

unlike-back : (p q : Path) → IsWell p → IsWell q → is_absolute p ≡ false → is_absolute q ≡ true → slice_cmp nat_cmp (path_text p) (path_text q) ≡ in_order p q
unfolding in_order
unlike-back [] [] h k a o = let no : false ≡ true = o in absurd (cc)
unlike-back (c ∷ cs) [] h k a o = let no : false ≡ true = o in absurd (cc)
unlike-back [] (d ∷ ds) h (inr g, k) a o = let no : false ≡ true = sym (no-root d g.0) ∙ o in absurd (cc)
unlike-back [] (d ∷ ds) h (inl g, k) a o =
    ap (λ r. slice_cmp nat_cmp [] (path_text (r ∷ ds))) g ∙ ap (λ t. slice_cmp nat_cmp [] t) (root-text ds).1
unlike-back (c ∷ cs) (d ∷ ds) (inl e, h) k a o = let no : true ≡ false = ap is_root (sym e) ∙ a in absurd (cc)
unlike-back (c ∷ cs) (d ∷ ds) (inr f, h) (inr g, k) a o = let no : false ≡ true = sym (no-root d g.0) ∙ o in absurd (cc)
unlike-back (c ∷ cs) (d ∷ ds) (inr f, h) (inl g, k) a o =
    ap (λ r. slice_cmp nat_cmp (path_text (c ∷ cs)) (path_text (r ∷ ds))) g
    ∙ back-other c cs ds f.0 f.1
    ∙ ap (λ r. in_order (c ∷ cs) (r ∷ ds)) (sym g)

like : (t : Bool) (text other : List ℕ) → IsPathText text → IsPathText other → is_absolute (path_of text) ≡ t → is_absolute (path_of other) ≡ t
    → slice_cmp (slice_cmp nat_cmp) (parts_of text) (parts_of other) ≡ slice_cmp (slice_cmp nat_cmp) (path_of text) (path_of other)
unfolding in_order
like t text other h k a o =
    (λ i. slice_cmp (slice_cmp nat_cmp) (parts-of-text text h i) (parts-of-text other k i))
    ∙ like-order (path_of text) (path_of other) (read-well text) (read-well other) (a ∙ sym o)

pub both-absolute : (text other : List ℕ) → IsPathText text → IsPathText other → is_absolute (path_of text) ≡ true → is_absolute (path_of other) ≡ true
    → slice_cmp (slice_cmp nat_cmp) (parts_of text) (parts_of other) ≡ slice_cmp (slice_cmp nat_cmp) (path_of text) (path_of other)
both-absolute text other h k a o = like true text other h k a o

pub both-relative : (text other : List ℕ) → IsPathText text → IsPathText other → is_absolute (path_of text) ≡ false → is_absolute (path_of other) ≡ false
    → slice_cmp (slice_cmp nat_cmp) (parts_of text) (parts_of other) ≡ slice_cmp (slice_cmp nat_cmp) (path_of text) (path_of other)
both-relative text other h k a o = like false text other h k a o

pub first-absolute : (text other : List ℕ) → IsPathText text → IsPathText other → is_absolute (path_of text) ≡ true → is_absolute (path_of other) ≡ false
    → slice_cmp nat_cmp text other ≡ slice_cmp (slice_cmp nat_cmp) (path_of text) (path_of other)
unfolding in_order
first-absolute text other h k a o =
    (λ i. slice_cmp nat_cmp (sym h i) (sym k i)) ∙ unlike-order (path_of text) (path_of other) (read-well text) (read-well other) a o

pub second-absolute : (text other : List ℕ) → IsPathText text → IsPathText other → is_absolute (path_of text) ≡ false → is_absolute (path_of other) ≡ true
    → slice_cmp nat_cmp text other ≡ slice_cmp (slice_cmp nat_cmp) (path_of text) (path_of other)
unfolding in_order
second-absolute text other h k a o =
    (λ i. slice_cmp nat_cmp (sym h i) (sym k i)) ∙ unlike-back (path_of text) (path_of other) (read-well text) (read-well other) a o

self-equal : (r : Ordering) → r ≡ ordering_reverse r → r ≡ Equal
self-equal Less e = absurd (cc)
self-equal Equal e = refl
self-equal Greater e = absurd (cc)

-- the same text is the same path
pub same-text-order : (text other : List ℕ) → pointwise ◌==◌ text other ≡ true → Equal ≡ slice_cmp (slice_cmp nat_cmp) (path_of text) (path_of other)
same-text-order text other e =
    let p = path_of text in
    sym (self-equal (slice_cmp (slice_cmp nat_cmp) p p) ((lists_total nat_list_cmp_total).antisymm p p))
    ∙ ap (λ t. slice_cmp (slice_cmp nat_cmp) p (path_of t)) ((bytes_eq-Decides text other).0 e)

pub ruleset order_rules = (same-text-order, both-absolute, both-relative, first-absolute, second-absolute)
