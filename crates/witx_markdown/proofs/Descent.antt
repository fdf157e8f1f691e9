-- From a node to its first child, and from a child to the one that follows it: so all nodes below it are found in order.
use Rattle.std.specs.Prelude.{◌≡◌, ℕ, zero, suc, ◌+◌, ◌≤◌, ◌<◌, List, [], ◌∷◌, ◌++◌, length, drop, Bool, true, false, Option, Some, None, if◌then◌else◌}
use Rattle.std.specs.List.{flat_map, All}
use Rattle.std.specs.Option.{option_to_list}
use Rattle.std.proofs.Common.{arith, get_or, refl, sym, ap, ◌∙◌, append_assoc, append-nil, inl, inr, set, replicate}
use Rattle.std.proofs.lemmas.Bool.{eqb-true, eq-eqb, ne_eqb, cases_eq, cases_lt}
use Rattle.std.proofs.lemmas.List.{drop_more, drop_all, drop-drop, get_or_past, length-drop, get_or-drop, length-set, get_or-set_same, get_or-set_other, length-replicate, get_or-replicate}
use Rattle.std.proofs.lemmas.Grind.{flat_map-append}
use Rattle.std.proofs.lemmas.List.Elements.{All-nil, All-cons, All-append}
use Rattle.witx_markdown.specs.Trees.{AreParents, is_parent, children_from, children_of, deeper_from, levels_of, order_from}
use Rattle.witx_markdown.specs.Families.{first_from, next_child, AreLinked}
use Rattle.witx_markdown.proofs.Ancestry.{parent-before}

is-parent : (p : ℕ) (q : Option ℕ) → is_parent p q ≡ true → q ≡ Some p
is-parent p None e = absurd (cc)
is-parent p (Some q) e = ap Some (sym (eqb-true p q e))

own-parent : (p : ℕ) → is_parent p (Some p) ≡ true
own-parent p = eq-eqb p p refl

-- a node's parent stands before it, so that no node up to p has the parent p
not-before : (ps : List (Option ℕ)) (k p : ℕ) (q : Option ℕ) → AreParents ps → k ≤ p → get_or ps k None ≡ q → is_parent p q ≡ false
not-before ps k p None h l e = refl
not-before ps k p (Some q) h l e = ne_eqb p q (λ s. absurd (omega (arith, parent-before ps k q h e, s)))

-- what is gathered over the children of p from number i on: nothing where there are no nodes, and nothing from other nodes
pub record IsGathered (F : ℕ → List (Option ℕ) → ℕ → List ℕ) : Type 0 where
  pub at_end : (i p : ℕ) → F i [] p ≡ []
  pub passed : (i p : ℕ) (q : Option ℕ) (qs : List (Option ℕ)) → is_parent p q ≡ false → F i (q ∷ qs) p ≡ F (i + 1) qs p

children-gathered : IsGathered children_from
children-gathered = record { at_end = λ i p. refl; passed = λ i p q qs e. rw e refl }

order-gathered : IsGathered order_from
order-gathered = record { at_end = λ i p. refl; passed = λ i p q qs e. rw e refl }

-- it begins with a child
abbrev pub gathered_at : (ℕ → List (Option ℕ) → ℕ → List ℕ) → List (Option ℕ) → ℕ → Option ℕ → List ℕ
gathered_at F ps p None = []
gathered_at F ps p (Some c) = F c (drop c ps) p

pub rest-of : {X : Type 0} (xs : List X) (i : ℕ) (y : X) (ys : List X) → drop i xs ≡ y ∷ ys → drop (i + 1) xs ≡ ys
rest-of xs i y ys e = sym (drop-drop 1 i xs) ∙ ap (drop 1) e

first-here : (F : ℕ → List (Option ℕ) → ℕ → List ℕ) → IsGathered F → (ps : List (Option ℕ)) (p i : ℕ) (q : Option ℕ) (qs : List (Option ℕ)) (t : Bool)
    → drop i ps ≡ q ∷ qs → is_parent p q ≡ t → F (i + 1) qs p ≡ gathered_at F ps p (first_from (i + 1) qs p)
    → F i (q ∷ qs) p ≡ gathered_at F ps p (if t then Some i else first_from (i + 1) qs p)
first-here F g ps p i q qs true e k later = ap (λ rs. F i rs p) (sym e)
first-here F g ps p i q qs false e k later = g.passed i p q qs k ∙ later

from-first : (F : ℕ → List (Option ℕ) → ℕ → List ℕ) → IsGathered F → (ps : List (Option ℕ)) (p i : ℕ) (qs : List (Option ℕ)) → drop i ps ≡ qs
    → F i qs p ≡ gathered_at F ps p (first_from i qs p)
from-first F g ps p i [] e = g.at_end i p
from-first F g ps p i (q ∷ qs) e =
    first-here F g ps p i q qs (is_parent p q) e refl (from-first F g ps p (i + 1) qs (rest-of ps i q qs e))

gathered-next : (F : ℕ → List (Option ℕ) → ℕ → List ℕ) → IsGathered F → (ps : List (Option ℕ)) (p i : ℕ)
    → F i (drop i ps) p ≡ gathered_at F ps p (next_child ps i p)
unfolding next_child
gathered-next F g ps p i = from-first F g ps p i (drop i ps) refl

passed-one : (ps : List (Option ℕ)) (p k : ℕ) → k < length ps → is_parent p (get_or ps k None) ≡ false → next_child ps k p ≡ next_child ps (k + 1) p
unfolding next_child
passed-one ps p k l e = rw (drop_more ps k None l, e) refl

-- no node up to p is a child of p
skip : (ps : List (Option ℕ)) (p k : ℕ) → AreParents ps → k ≤ p + 1 → p < length ps → next_child ps 0 p ≡ next_child ps k p
skip ps p zero h l m = refl
skip ps p (suc k) h l m =
    let e : suc k ≡ k + 1 = omega arith in
    rw e (skip ps p k h (omega arith) m ∙ passed-one ps p k (omega arith) (not-before ps k p (get_or ps k None) h (omega arith) refl))

pub from-own-first : (F : ℕ → List (Option ℕ) → ℕ → List ℕ) → IsGathered F → (ps : List (Option ℕ)) (p : ℕ) → AreParents ps → p < length ps
    → F (p + 1) (drop (p + 1) ps) p ≡ F 0 ps p
from-own-first F g ps p h l =
    gathered-next F g ps p (p + 1) ∙ ap (gathered_at F ps p) (sym (skip ps p (p + 1) h (omega arith) l)) ∙ sym (gathered-next F g ps p 0)

-- the child that is found

pub record IsChild (ps : List (Option ℕ)) (p i : ℕ) (c : ℕ) : Type 0 where
  pub begins : i ≤ c
  pub within : c < length ps
  pub is : get_or ps c None ≡ Some p

within-drop : (ps : List (Option ℕ)) (i : ℕ) (q : Option ℕ) (qs : List (Option ℕ)) → drop i ps ≡ q ∷ qs → i < length ps
within-drop ps i q qs e = grind (arith, length-drop i ps, ap length e)

pub head-of : {X : Type 0} (xs : List X) (i : ℕ) (y : X) (ys : List X) (d : X) → drop i xs ≡ y ∷ ys → get_or xs i d ≡ y
head-of xs i y ys d e =
    let h : get_or (drop i xs) 0 d ≡ get_or xs (i + 0) d = get_or-drop i xs 0 d in
    let z : i + 0 ≡ i = omega arith in sym (rw z at h) ∙ ap (λ zs. get_or zs 0 d) e

one-later : (ps : List (Option ℕ)) (p i c : ℕ) → IsChild ps p (i + 1) c → IsChild ps p i c
one-later ps p i c h = record { begins = omega (arith, h.begins); within = h.within; is = h.is }

child-here : (ps : List (Option ℕ)) (p i c : ℕ) (q : Option ℕ) (qs : List (Option ℕ)) (t : Bool) → drop i ps ≡ q ∷ qs → is_parent p q ≡ t
    → (if t then Some i else first_from (i + 1) qs p) ≡ Some c → (first_from (i + 1) qs p ≡ Some c → IsChild ps p (i + 1) c) → IsChild ps p i c
child-here ps p i c q qs true e k f later =
    let s : i ≡ c = cc in
    rw (← s) (record { begins = omega arith; within = within-drop ps i q qs e; is = head-of ps i q qs None e ∙ is-parent p q k })
child-here ps p i c q qs false e k f later = one-later ps p i c (later f)

child-from : (ps : List (Option ℕ)) (p i c : ℕ) (qs : List (Option ℕ)) → drop i ps ≡ qs → first_from i qs p ≡ Some c → IsChild ps p i c
child-from ps p i c [] e f = absurd (cc)
child-from ps p i c (q ∷ qs) e f = child-here ps p i c q qs (is_parent p q) e refl f (child-from ps p (i + 1) c qs (rest-of ps i q qs e))

pub child-found : (ps : List (Option ℕ)) (p i c : ℕ) → next_child ps i p ≡ Some c → IsChild ps p i c
unfolding next_child
child-found ps p i c f = child-from ps p i c (drop i ps) refl f

-- children by children, and nodes by nodes

abbrev pub Childs : List (Option ℕ) → ℕ → Option ℕ → Type 0
Childs ps p None = Unit {0}
Childs ps p (Some c) = (c < length ps) × (get_or ps c None ≡ Some p)

childs-found : (ps : List (Option ℕ)) (p i : ℕ) (o : Option ℕ) → next_child ps i p ≡ o → Childs ps p o
childs-found ps p i None e = tt
childs-found ps p i (Some c) e = let h = child-found ps p i c e in (h.within, h.is)

pub childs-next : (ps : List (Option ℕ)) (p i : ℕ) (o : Option ℕ) → o ≡ next_child ps i p → Childs ps p o
childs-next ps p i o e = childs-found ps p i o (sym e)

pub children-next : (ps : List (Option ℕ)) (p c : ℕ) → c < length ps → get_or ps c None ≡ Some p
    → children_from c (drop c ps) p ≡ c ∷ gathered_at children_from ps p (next_child ps (c + 1) p)
children-next ps p c l e =
    rw (drop_more ps c None l, e, own-parent p) (ap (λ ns. c ∷ ns) (gathered-next children_from children-gathered ps p (c + 1)))

order-next : (ps : List (Option ℕ)) (p c : ℕ) → AreParents ps → c < length ps → get_or ps c None ≡ Some p
    → order_from c (drop c ps) p ≡ c ∷ (gathered_at order_from ps c (next_child ps 0 c) ++ gathered_at order_from ps p (next_child ps (c + 1) p))
order-next ps p c h l e =
    rw (drop_more ps c None l, e, own-parent p) (ap (λ ns. c ∷ ns)
    (ap (λ ns. ns ++ order_from (c + 1) (drop (c + 1) ps) p) (from-own-first order_from order-gathered ps c h l ∙ gathered-next order_from order-gathered ps c 0)
    ∙ ap (λ ns. gathered_at order_from ps c (next_child ps 0 c) ++ ns) (gathered-next order_from order-gathered ps p (c + 1))))

-- one more child
pub child-more : (ps : List (Option ℕ)) (p c : ℕ) (o : Option ℕ) (before all : List ℕ) → c < length ps → get_or ps c None ≡ Some p
    → o ≡ next_child ps (c + 1) p → before ++ gathered_at children_from ps p (Some c) ≡ all
    → (before ++ c ∷ []) ++ gathered_at children_from ps p o ≡ all
child-more ps p c o before all l e n k =
    rw n (append_assoc before (c ∷ []) (gathered_at children_from ps p (next_child ps (c + 1) p)) ∙ (rw (children-next ps p c l e) at k))

pub fewer-children : (ps : List (Option ℕ)) (p c : ℕ) (o : Option ℕ) → c < length ps → get_or ps c None ≡ Some p → o ≡ next_child ps (c + 1) p
    → length (gathered_at children_from ps p o) < length (gathered_at children_from ps p (Some c))
fewer-children ps p c o l e n = rw (n, children-next ps p c l e) (omega arith)

pub children-begin : (ps : List (Option ℕ)) (p : ℕ) (o : Option ℕ) (before : List ℕ) → o ≡ next_child ps 0 p
    → before ++ gathered_at children_from ps p o ≡ before ++ children_of ps p
children-begin ps p o before e = rw e (ap (λ ns. before ++ ns) (sym (gathered-next children_from children-gathered ps p 0)))

-- links of one node more

found-here : (ps : List (Option ℕ)) (p i : ℕ) → i < length ps → get_or ps i None ≡ Some p → next_child ps i p ≡ Some i
unfolding next_child
found-here ps p i l e = rw (drop_more ps i None l, e, own-parent p) refl

later : (ps : List (Option ℕ)) (i n p : ℕ) → get_or ps i None ≡ None → get_or ps n None ≡ Some p → i ≤ n → i + 1 ≤ n
later ps i n p e f m = elim (cases_eq i n) [
  | inl s ↦ absurd (let g : None ≡ Some p = sym e ∙ ap (λ k. get_or ps k None) s ∙ f in cc)
  | inr s ↦ omega (arith, s)
]

pub link-none : (ps first next : List (Option ℕ)) (i : ℕ) → i < length ps → get_or ps i None ≡ None → AreLinked ps (i + 1) first next → AreLinked ps i first next
link-none ps first next i l e h = record {
  firsts = h.firsts;
  nexts = h.nexts;
  first_children = λ p m. h.first_children p m ∙ sym (passed-one ps p i l (rw e refl));
  next_children = λ n p m f. h.next_children n p (later ps i n p e f m) f;
}

first-more : (ps first next : List (Option ℕ)) (i q : ℕ) → i < length ps → get_or ps i None ≡ Some q → AreLinked ps (i + 1) first next
    → (p : ℕ) → p < length ps → get_or (set first q (Some i)) p None ≡ next_child ps i p
first-more ps first next i q l e h p m = elim (cases_eq p q) [
  | inl s ↦ rw s (get_or-set_same first q (Some i) None (omega (arith, h.firsts, s)) ∙ sym (found-here ps q i l e))
  | inr s ↦ get_or-set_other first q p (Some i) None s ∙ h.first_children p m ∙ sym (passed-one ps p i l (rw e (ne_eqb p q s)))
]

next-more : (ps first next : List (Option ℕ)) (i q : ℕ) → AreParents ps → i < length ps → get_or ps i None ≡ Some q → AreLinked ps (i + 1) first next
    → (n p : ℕ) → i ≤ n → get_or ps n None ≡ Some p → get_or (set next i (get_or first q None)) n None ≡ next_child ps (n + 1) p
next-more ps first next i q t l e h n p m f = elim (cases_eq n i) [
  | inl s ↦
      let same : q ≡ p = let g : Some q ≡ Some p = sym e ∙ ap (λ k. get_or ps k None) (sym s) ∙ f in cc in
      rw s (get_or-set_same next i (get_or first q None) None (omega (arith, h.nexts)) ∙ h.first_children q (omega (arith, parent-before ps i q t e)) ∙ ap (next_child ps (i + 1)) same)
  | inr s ↦ get_or-set_other next i n (get_or first q None) None s ∙ h.next_children n p (omega (arith, s)) f
]

pub link-some : (ps first next : List (Option ℕ)) (i q : ℕ) → AreParents ps → i < length ps → get_or ps i None ≡ Some q → AreLinked ps (i + 1) first next
    → AreLinked ps i (set first q (Some i)) (set next i (get_or first q None))
link-some ps first next i q t l e h = record {
  firsts = length-set first q (Some i) ∙ h.firsts;
  nexts = length-set next i (get_or first q None) ∙ h.nexts;
  first_children = first-more ps first next i q l e h;
  next_children = next-more ps first next i q t l e h;
}

no-parent : (ps : List (Option ℕ)) (n p : ℕ) → get_or ps n None ≡ Some p → n < length ps
no-parent ps n p e = elim (cases_lt n (length ps)) [
  | inl s ↦ s
  | inr s ↦ absurd (let g : None ≡ Some p = sym (get_or_past ps n None s) ∙ e in cc)
]

ends : (ps : List (Option ℕ)) (i p : ℕ) → length ps ≤ i → next_child ps i p ≡ None
unfolding next_child
ends ps i p l = rw (drop_all i ps l) refl

pub no-links : (ps : List (Option ℕ)) → AreLinked ps (length ps) (replicate (length ps) None) (replicate (length ps) None)
no-links ps = record {
  firsts = length-replicate (length ps) None;
  nexts = length-replicate (length ps) None;
  first_children = λ p l. get_or-replicate (length ps) p None None l ∙ sym (ends ps (length ps) p (omega arith));
  next_children = λ n p l e. absurd (omega (arith, no-parent ps n p e));
}

-- open nodes: each of them is still to come, with what stands below it and the same of the children that follow it

abbrev pub onward_below : List (Option ℕ) → ℕ → Option ℕ → List ℕ
onward_below ps c None = []
onward_below ps c (Some p) = order_from c (drop c ps) p

abbrev pub onward : List (Option ℕ) → ℕ → List ℕ
onward ps c = onward_below ps c (get_or ps c None)

-- the last of them first
abbrev pub ahead_order : List (Option ℕ) → List ℕ → List ℕ
ahead_order ps [] = []
ahead_order ps (c ∷ cs) = ahead_order ps cs ++ onward ps c

pub record HasParent (ps : List (Option ℕ)) (c : ℕ) : Type 0 where
  pub parent : ℕ
  pub is : get_or ps c None ≡ Some parent

abbrev pub HaveParent : List (Option ℕ) → List ℕ → Type 0
HaveParent ps [] = Unit {0}
HaveParent ps (c ∷ cs) = HasParent ps c × HaveParent ps cs

ahead-more : (ps : List (Option ℕ)) (cs : List ℕ) (c : ℕ) → ahead_order ps (cs ++ c ∷ []) ≡ onward ps c ++ ahead_order ps cs
ahead-more ps [] c = sym (append-nil (onward ps c))
ahead-more ps (d ∷ cs) c = ap (λ ns. ns ++ onward ps d) (ahead-more ps cs c) ∙ append_assoc (onward ps c) (ahead_order ps cs) (onward ps d)

parents-more : (ps : List (Option ℕ)) (cs : List ℕ) (c : ℕ) → HaveParent ps cs → HasParent ps c → HaveParent ps (cs ++ c ∷ [])
parents-more ps [] c h k = (k, tt)
parents-more ps (d ∷ cs) c h k = (h.0, parents-more ps cs c h.1 k)

parents-less : (ps : List (Option ℕ)) (cs : List ℕ) (c : ℕ) → HaveParent ps (cs ++ c ∷ []) → HaveParent ps cs × HasParent ps c
parents-less ps [] c h = (tt, h.0)
parents-less ps (d ∷ cs) c h = let k = parents-less ps cs c h.1 in ((h.0, k.0), k.1)

ahead-child : (ps : List (Option ℕ)) (p i : ℕ) (cs : List ℕ) (o : Option ℕ) → next_child ps i p ≡ o
    → ahead_order ps (cs ++ option_to_list o) ≡ gathered_at order_from ps p o ++ ahead_order ps cs
ahead-child ps p i cs None e = ap (ahead_order ps) (append-nil cs)
ahead-child ps p i cs (Some c) e = ahead-more ps cs c ∙ rw (child-found ps p i c e).is refl

parents-child : (ps : List (Option ℕ)) (p i : ℕ) (cs : List ℕ) (o : Option ℕ) → next_child ps i p ≡ o → HaveParent ps cs → HaveParent ps (cs ++ option_to_list o)
parents-child ps p i cs None e h = rw (append-nil cs) h
parents-child ps p i cs (Some c) e h = parents-more ps cs c h (record { parent = p; is = (child-found ps p i c e).is })

-- what holds of open nodes, behind the numbers that were found
pub record IsAhead (ps : List (Option ℕ)) (before cs all : List ℕ) : Type 0 where
  pub found : before ++ ahead_order ps cs ≡ all
  pub parents : HaveParent ps cs

-- what the loops do

pub ahead-begins : (ps : List (Option ℕ)) (p : ℕ) (o : Option ℕ) (before cs : List ℕ) → o ≡ next_child ps 0 p → cs ≡ option_to_list o
    → IsAhead ps before cs (before ++ order_from 0 ps p)
ahead-begins ps p o before cs e k = record {
  found = ap (λ ns. before ++ ahead_order ps ns) k
      ∙ ap (λ ns. before ++ ns) (ahead-child ps p 0 [] o (sym e) ∙ append-nil (gathered_at order_from ps p o) ∙ ap (gathered_at order_from ps p) e ∙ sym (gathered-next order_from order-gathered ps p 0));
  parents = rw k (parents-child ps p 0 [] o (sym e) tt);
}

pub last-parent : (ps : List (Option ℕ)) (before ahead all cs : List ℕ) (c : ℕ) → IsAhead ps before ahead all → ahead ≡ cs ++ c ∷ [] → HasParent ps c
last-parent ps before ahead all cs c h e = (parents-less ps cs c (rw e at h.parents)).1

pub last-within : (ps : List (Option ℕ)) (before ahead all cs : List ℕ) (c : ℕ) → IsAhead ps before ahead all → ahead ≡ cs ++ c ∷ [] → c < length ps
last-within ps before ahead all cs c h e = let k = last-parent ps before ahead all cs c h e in no-parent ps c k.parent k.is

onward-is : (ps : List (Option ℕ)) (c p : ℕ) → get_or ps c None ≡ Some p → onward ps c ≡ order_from c (drop c ps) p
onward-is ps c p e = ap (onward_below ps c) e

-- two more open nodes in place of the last one
both-ahead : (ps : List (Option ℕ)) (c p : ℕ) (cs : List ℕ) → AreParents ps → get_or ps c None ≡ Some p
    → ahead_order ps (cs ++ c ∷ []) ≡ c ∷ ahead_order ps ((cs ++ option_to_list (next_child ps (c + 1) p)) ++ option_to_list (next_child ps 0 c))
both-ahead ps c p cs h e =
    ahead-more ps cs c ∙ ap (λ ns. ns ++ ahead_order ps cs) (onward-is ps c p e ∙ order-next ps p c h (no-parent ps c p e) e)
    ∙ ap (λ ns. c ∷ ns) (append_assoc (gathered_at order_from ps c (next_child ps 0 c)) (gathered_at order_from ps p (next_child ps (c + 1) p)) (ahead_order ps cs)
    ∙ ap (λ ns. gathered_at order_from ps c (next_child ps 0 c) ++ ns) (sym (ahead-child ps p (c + 1) cs (next_child ps (c + 1) p) refl))
    ∙ sym (ahead-child ps c 0 (cs ++ option_to_list (next_child ps (c + 1) p)) (next_child ps 0 c) refl))

-- the next child of a node's parent, and its first child
pub record AreNext (ps : List (Option ℕ)) (c : ℕ) (next first : Option ℕ) : Type 0 where
  pub nexts : (p : ℕ) → get_or ps c None ≡ Some p → next ≡ next_child ps (c + 1) p
  pub firsts : first ≡ next_child ps 0 c

pub ahead-steps : (ps : List (Option ℕ)) (before ahead all cs opened : List ℕ) (c : ℕ) (next first : Option ℕ) → AreParents ps → IsAhead ps before ahead all
    → ahead ≡ cs ++ c ∷ [] → AreNext ps c next first → opened ≡ (cs ++ option_to_list next) ++ option_to_list first → IsAhead ps (before ++ c ∷ []) opened all
ahead-steps ps before ahead all cs opened c next first h a e n o =
    let k = last-parent ps before ahead all cs c a e in
    let s = n.nexts k.parent k.is in
    let f = rw (e, both-ahead ps c k.parent cs h k.is) at a.found in
    let q = parents-child ps k.parent (c + 1) cs (next_child ps (c + 1) k.parent) refl (parents-less ps cs c (rw e at a.parents)).0 in
    rw (o, s, n.firsts) (record {
      found = append_assoc before (c ∷ []) (ahead_order ps ((cs ++ option_to_list (next_child ps (c + 1) k.parent)) ++ option_to_list (next_child ps 0 c))) ∙ f;
      parents = parents-child ps c 0 (cs ++ option_to_list (next_child ps (c + 1) k.parent)) (next_child ps 0 c) refl q;
    })

pub fewer-ahead : (ps : List (Option ℕ)) (before ahead all cs opened : List ℕ) (c : ℕ) (next first : Option ℕ) → AreParents ps → IsAhead ps before ahead all
    → ahead ≡ cs ++ c ∷ [] → AreNext ps c next first → opened ≡ (cs ++ option_to_list next) ++ option_to_list first
    → length (ahead_order ps opened) < length (ahead_order ps ahead)
fewer-ahead ps before ahead all cs opened c next first h a e n o =
    let k = last-parent ps before ahead all cs c a e in
    let same : opened ≡ (cs ++ option_to_list (next_child ps (c + 1) k.parent)) ++ option_to_list (next_child ps 0 c) = cc (o, n.nexts k.parent k.is, n.firsts) in
    omega (arith, ap (λ ns. length (ahead_order ps ns)) e, ap length (both-ahead ps c k.parent cs h k.is), ap (λ ns. length (ahead_order ps ns)) same)

-- every node that is found is there

order-within : (i p : ℕ) (qs : List (Option ℕ)) (n : ℕ) → i + length qs ≤ n → All (λ m. m < n) (order_from i qs p)
order-within i p [] n l = All-nil (λ m. m < n)
order-within i p (q ∷ qs) n l =
    within-here i p q qs n (is_parent p q) (omega arith) (order-within (i + 1) i qs n (omega arith)) (order-within (i + 1) p qs n (omega arith))
  where
    within-here : (i p : ℕ) (q : Option ℕ) (qs : List (Option ℕ)) (n : ℕ) (t : Bool) → i < n → All (λ m. m < n) (order_from (i + 1) qs i) → All (λ m. m < n) (order_from (i + 1) qs p)
        → All (λ m. m < n) ((if t then i ∷ order_from (i + 1) qs i else []) ++ order_from (i + 1) qs p)
    within-here i p q qs n true l h k = All-append (λ m. m < n) (i ∷ order_from (i + 1) qs i) (order_from (i + 1) qs p) (All-cons (λ m. m < n) i (order_from (i + 1) qs i) l h) k
    within-here i p q qs n false l h k = k

pub nodes-within : (ps : List (Option ℕ)) (p : ℕ) → p < length ps → All (λ m. m < length ps) (p ∷ order_from 0 ps p)
nodes-within ps p l = All-cons (λ m. m < length ps) p (order_from 0 ps p) l (order-within 0 p ps (length ps) (omega arith))

-- the children of each node that is found

deeper-here : (F : ℕ → List ℕ) (i p : ℕ) (qs : List (Option ℕ)) (t : Bool) → F i ≡ children_from (i + 1) qs i
    → deeper_from (i + 1) qs i ≡ flat_map F (order_from (i + 1) qs i) → deeper_from (i + 1) qs p ≡ flat_map F (order_from (i + 1) qs p)
    → (if t then children_from (i + 1) qs i ++ deeper_from (i + 1) qs i else []) ++ deeper_from (i + 1) qs p
    ≡ flat_map F ((if t then i ∷ order_from (i + 1) qs i else []) ++ order_from (i + 1) qs p)
deeper-here F i p qs true e h k = rw (h, k, ← e) (sym (flat_map-append F (i ∷ order_from (i + 1) qs i) (order_from (i + 1) qs p)))
deeper-here F i p qs false e h k = k

deeper-found : (ps : List (Option ℕ)) (i p : ℕ) (qs : List (Option ℕ)) → AreParents ps → drop i ps ≡ qs
    → deeper_from i qs p ≡ flat_map (children_of ps) (order_from i qs p)
deeper-found ps i p [] h e = refl
deeper-found ps i p (q ∷ qs) h e =
    let r = rest-of ps i q qs e in
    deeper-here (children_of ps) i p qs (is_parent p q)
    (sym (from-own-first children_from children-gathered ps i h (within-drop ps i q qs e)) ∙ ap (λ rs. children_from (i + 1) rs i) r)
    (deeper-found ps (i + 1) i qs h r) (deeper-found ps (i + 1) p qs h r)

pub levels-found : (ps : List (Option ℕ)) (p : ℕ) → AreParents ps → flat_map (children_of ps) (p ∷ order_from 0 ps p) ≡ levels_of ps p
levels-found ps p h = ap (λ ns. children_of ps p ++ ns) (sym (deeper-found ps 0 p ps h refl))

-- of a node in a tree whose children are linked

pub parent-within : (ps first next : List (Option ℕ)) (i j q : ℕ) → AreParents ps → i < length ps → get_or ps i None ≡ Some q → AreLinked ps j first next → q < length first
parent-within ps first next i j q t l e h = omega (arith, parent-before ps i q t e, h.firsts)
