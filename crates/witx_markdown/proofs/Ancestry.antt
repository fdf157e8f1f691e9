-- Ancestors, children and what stands below, of nodes whose parents stand before them.
use Rattle.std.specs.Prelude.{◌≡◌, ℕ, zero, suc, ◌+◌, ◌≤◌, ◌<◌, List, [], ◌∷◌, ◌++◌, length, Option, Some, None}
use Rattle.std.proofs.Common.{arith, get_or, refl, sym, ap, ◌∙◌, append_assoc, append-nil}
use Rattle.witx_markdown.specs.Trees.{HaveParents, AreParents, parent_first, ancestors_within, ancestors_of}

-- the parent of a node stands before it
parent-in : (i : ℕ) (ps : List (Option ℕ)) (k p : ℕ) → HaveParents i ps → get_or ps k None ≡ Some p → p < i + k
parent-in i [] k p h e = absurd (cc)
parent-in i (None ∷ ps) k p h e = absurd h
parent-in i (Some q ∷ ps) zero p h e = let s : q ≡ p = cc in omega (arith, h.0, s)
parent-in i (Some q ∷ ps) (suc k) p h e = omega (arith, parent-in (i + 1) ps k p h.1 e)

pub parent-before : (ps : List (Option ℕ)) (k p : ℕ) → AreParents ps → get_or ps k None ≡ Some p → p < k
parent-before [] k p h e = absurd h
parent-before (Some q ∷ ps) k p h e = absurd h
parent-before (None ∷ ps) zero p h e = absurd (cc)
parent-before (None ∷ ps) (suc k) p h e = omega (arith, parent-in 1 ps k p h e)

-- steps beyond a node's number find no further ancestor
within-parent : (ps : List (Option ℕ)) (m n k : ℕ) (o : Option ℕ) → AreParents ps → get_or ps k None ≡ o
    → ((p : ℕ) → p < k → ancestors_within m ps p ≡ ancestors_within n ps p)
    → parent_first (ancestors_within m ps) o ≡ parent_first (ancestors_within n ps) o
within-parent ps m n k None h e same = refl
within-parent ps m n k (Some p) h e same = ap (λ ns. p ∷ ns) (same p (parent-before ps k p h e))

root-alone : (ps : List (Option ℕ)) → AreParents ps → get_or ps 0 None ≡ None
root-alone [] h = absurd h
root-alone (None ∷ ps) h = refl
root-alone (Some q ∷ ps) h = absurd h

within-same : (ps : List (Option ℕ)) → AreParents ps → (m k n : ℕ) → n ≤ m → n ≤ k → ancestors_within m ps n ≡ ancestors_within k ps n
within-same ps h zero zero n l j = refl
within-same ps h zero (suc k) zero l j = rw (root-alone ps h) refl
within-same ps h zero (suc k) (suc n) l j = absurd (omega arith)
within-same ps h (suc m) zero zero l j = rw (root-alone ps h) refl
within-same ps h (suc m) zero (suc n) l j = absurd (omega arith)
within-same ps h (suc m) (suc k) zero l j = rw (root-alone ps h) refl
within-same ps h (suc m) (suc k) (suc n) l j =
    within-parent ps m k (suc n) (get_or ps (suc n) None) h refl (λ p s. within-same ps h m k p (omega arith) (omega arith))

enough : (ps : List (Option ℕ)) → AreParents ps → (m n : ℕ) → n ≤ m → ancestors_within m ps n ≡ ancestors_within n ps n
enough ps h m n l = within-same ps h m n n l (omega arith)

-- a node with a parent has that as its first ancestor, and a node without has none
pub next-ancestors : (ps : List (Option ℕ)) (n p : ℕ) → AreParents ps → get_or ps n None ≡ Some p → ancestors_of ps n ≡ p ∷ ancestors_of ps p
next-ancestors ps zero p h e = absurd (omega (arith, parent-before ps zero p h e))
next-ancestors ps (suc n) p h e = rw e (ap (λ ns. p ∷ ns) (enough ps h n p (omega (arith, parent-before ps (suc n) p h e))))

pub no-ancestors : (ps : List (Option ℕ)) (n : ℕ) → get_or ps n None ≡ None → ancestors_of ps n ≡ []
no-ancestors ps zero e = refl
no-ancestors ps (suc n) e = rw e refl

pub one-more : (ps : List (Option ℕ)) (n p : ℕ) (before all : List ℕ) → AreParents ps → get_or ps n None ≡ Some p
    → before ++ ancestors_of ps n ≡ all → (before ++ p ∷ []) ++ ancestors_of ps p ≡ all
one-more ps n p before all h k e = append_assoc before (p ∷ []) (ancestors_of ps p) ∙ rw (next-ancestors ps n p h k) at e

pub no-more : (ps : List (Option ℕ)) (n : ℕ) (before all : List ℕ) → get_or ps n None ≡ None → before ++ ancestors_of ps n ≡ all → before ≡ all
no-more ps n before all k e = sym (append-nil before) ∙ rw (no-ancestors ps n k) at e

pub count-more : (ps : List (Option ℕ)) (n p count all : ℕ) → AreParents ps → get_or ps n None ≡ Some p
    → count + length (ancestors_of ps n) ≡ all → (count + 1) + length (ancestors_of ps p) ≡ all
count-more ps n p count all h k e = let f = rw (next-ancestors ps n p h k) at e in omega (arith, f)

pub count-end : (ps : List (Option ℕ)) (n count all : ℕ) → get_or ps n None ≡ None → count + length (ancestors_of ps n) ≡ all → count ≡ all
count-end ps n count all k e = let f = rw (no-ancestors ps n k) at e in omega (arith, f)

pub ruleset ancestor_rules = (parent-before, one-more, no-more, count-more, count-end)

-- further nodes, whose parents stand before them
pub have-append : (i : ℕ) (ps qs : List (Option ℕ)) → HaveParents i ps → HaveParents (i + length ps) qs → HaveParents i (ps ++ qs)
have-append i [] qs h k = let e : i + 0 ≡ i = omega arith in rw e at k
have-append i (None ∷ ps) qs h k = absurd h
have-append i (Some p ∷ ps) qs h k =
    (h.0, have-append (i + 1) ps qs h.1 (let e : i + length (Some p ∷ ps) ≡ (i + 1) + length ps = omega arith in rw e at k))

pub parents-append : (ps qs : List (Option ℕ)) (n : ℕ) → AreParents ps → n ≡ length ps → HaveParents n qs → AreParents (ps ++ qs)
parents-append [] qs n h e k = absurd h
parents-append (Some p ∷ ps) qs n h e k = absurd h
parents-append (None ∷ ps) qs n h e k = have-append 1 ps qs h (let f : n ≡ 1 + length ps = omega arith in rw f at k)

pub parents-push : (ps : List (Option ℕ)) (p n : ℕ) → AreParents ps → n ≡ length ps → p < n → AreParents (ps ++ Some p ∷ [])
parents-push ps p n h e l = parents-append ps (Some p ∷ []) n h e (l, tt)

pub ruleset tree_rules = (parents-append, parents-push)
