-- A path with a file name is its parent joined with that name (`joined-is`), and has a parent (`parentless`).
use Rattle.std.proofs.Common.{◌≡◌, ℕ, List, [], ◌∷◌, ◌++◌, Bool, true, false, refl, sym, ap, ◌∙◌, Option, Some, None, not, ◌||◌, if◌then◌else◌}
use Rattle.witx_base.specs.Paths.{Path, join, join_to, is_root, is_current_dir, is_parent_dir, is_name, name_among, file_name, last_component, all_but_last, parent, has_parent}

none-of : (a b c : Bool) → not (a || (b || c)) ≡ true → (a ≡ false) × (b ≡ false)
none-of true b c e = absurd (cc)
none-of false true c e = absurd (cc)
none-of false false c e = (refl, refl)

name-if : (b : Bool) (c name : List ℕ) → is_name c ≡ b → (if b then Some c else None) ≡ Some name → (Some c ≡ Some name) × (is_name name ≡ true)
name-if true c name q e = let same : c ≡ name = cc in (e, ap is_name (sym same) ∙ q)
name-if false c name q e = absurd (cc)

name-is : (o : Option (List ℕ)) (name : List ℕ) → name_among o ≡ Some name → (o ≡ Some name) × (is_name name ≡ true)
name-is None name e = absurd (cc)
name-is (Some c) name e = name-if (is_name c) c name refl e

last-put-back : (p : Path) (name : List ℕ) → last_component p ≡ Some name → all_but_last p ++ name ∷ [] ≡ p
last-put-back [] name e = absurd (cc)
last-put-back (c ∷ []) name e = let same : c ≡ name = cc in ap (λ x. x ∷ []) (sym same)
last-put-back (c ∷ d ∷ ds) name e = ap (λ xs. c ∷ xs) (last-put-back (d ∷ ds) name e)

join_to-name : (p : Path) (name : List ℕ) → is_current_dir name ≡ false → join_to p (name ∷ []) ≡ p ++ name ∷ []
join_to-name [] name e = refl
join_to-name (c ∷ cs) name e = ap (λ b. (c ∷ cs) ++ (if b then [] else name ∷ [])) e

pub joined-is : (p : Path) (name : List ℕ) → file_name p ≡ Some name → join (all_but_last p) (name ∷ []) ≡ p
unfolding join
joined-is p name e =
    let named = name-is (last_component p) name e in
    let plain = none-of (is_root name) (is_current_dir name) (is_parent_dir name) named.1 in
    ap (λ b. (if b then name ∷ [] else join_to (all_but_last p) (name ∷ []))) plain.0
    ∙ (join_to-name (all_but_last p) name plain.1 ∙ last-put-back p name named.0)

some-of : (b : Bool) (x d : Path) → (if b then Some x else None) ≡ Some d → d ≡ x
some-of true x d e = cc
some-of false x d e = absurd (cc)

none-if : (b : Bool) (x : Path) → (if b then Some x else None) ≡ None → b ≡ false
none-if true x e = absurd (cc)
none-if false x e = refl

-- a parent is all but the last component
pub parent-is : (p d : Path) → parent p ≡ Some d → d ≡ all_but_last p
parent-is p d e = some-of (has_parent p) (all_but_last p) d e

not-false : (b : Bool) → not b ≡ false → b ≡ true
not-false true e = refl
not-false false e = absurd (cc)

nameless : (p : Path) → has_parent p ≡ false → file_name p ≡ None
nameless [] e = refl
nameless (c ∷ []) e = ap (λ b. (if not (b || (is_current_dir c || is_parent_dir c)) then Some c else None)) (not-false (is_root c) e)
nameless (c ∷ d ∷ ds) e = absurd (cc)

-- a path without parent has no file name
pub parentless : (p : Path) → parent p ≡ None → file_name p ≡ None
parentless p e = nameless p (none-if (has_parent p) (all_but_last p) e)

-- a path with a file name is its parent joined with that name
pub put-together : (p above : Path) (name : List ℕ) → parent p ≡ Some above → file_name p ≡ Some name → join above (name ∷ []) ≡ p
put-together p above name e f = ap (λ d. join d (name ∷ [])) (parent-is p above e) ∙ joined-is p name f
