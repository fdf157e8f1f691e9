-- The tree of a page has its nodes in the order of the text: so the text of the tree is that of its contents, one after
-- the other.
use Rattle.std.specs.Prelude.{◌≡◌, ◌≢◌, ◌⊎◌, ℕ, zero, suc, ◌+◌, ◌≤◌, ◌<◌, List, [], ◌∷◌, ◌++◌, length, drop, map, Bool, Option, Some, None, if◌then◌else◌}
use Rattle.std.specs.List.{flat_map}
use Rattle.std.proofs.Common.{arith, refl, sym, ap, ◌∙◌, inl, inr}
use Rattle.std.proofs.lemmas.List.{length-map}
use Rattle.std.proofs.lemmas.Bool.{ne_eqb, eq-eqb}
use Rattle.std.proofs.lemmas.List.Folds.{flat_map-map}
use Rattle.witx_ast.specs.Definitions.{DefinitionTree}
use Rattle.witx_markdown.specs.declared.content.MdContent.{MdContent}
use Rattle.witx_markdown.specs.declared.content.MdContent.TheVariants as content
use Rattle.witx_markdown.specs.Contents.{header_marks, content_text}
use Rattle.witx_markdown.specs.Forests.{Forest, no_nodes, node, node_count, parents_from}
use Rattle.witx_markdown.specs.Links.{ids, with_links, missing_in}
use Rattle.witx_docs.specs.Parts.{document_parts}
use Rattle.witx_markdown.specs.Trees.{is_parent, order_from, content_at}
use Rattle.witx_docs.specs.Pages.{page_tree, page_text, page_contents, text_of_contents, missing_links, missing_of_contents}
use Rattle.witx_docs.proofs.Grown.{count-contents}
use Rattle.witx_docs.proofs.Generated.{count-parents}
use Rattle.witx_markdown.proofs.Descent.{head-of, rest-of}

-- each parent among these is of such a kind
abbrev pub AllParents : (ℕ → Type 0) → List (Option ℕ) → Type 0
AllParents P [] = Unit {0}
AllParents P (None ∷ qs) = AllParents P qs
AllParents P (Some r ∷ qs) = P r × AllParents P qs

parents-also : (P Q : ℕ → Type 0) (qs : List (Option ℕ)) → ((r : ℕ) → P r → Q r) → AllParents P qs → AllParents Q qs
parents-also P Q [] f h = tt
parents-also P Q (None ∷ qs) f h = parents-also P Q qs f h
parents-also P Q (Some r ∷ qs) f h = (f r h.0, parents-also P Q qs f h.1)

parents-both : (P : ℕ → Type 0) (xs bs : List (Option ℕ)) → AllParents P xs → AllParents P bs → AllParents P (xs ++ bs)
parents-both P [] bs h k = k
parents-both P (None ∷ xs) bs h k = parents-both P xs bs h k
parents-both P (Some r ∷ xs) bs h k = (h.0, parents-both P xs bs h.1 k)

-- p itself, or one of the numbers from n on
abbrev pub IsParentFrom : ℕ → ℕ → ℕ → Type 0
IsParentFrom p n r = (r ≡ p) ⊎ (n ≤ r)

later-parent : (p n m r : ℕ) → n ≤ m → IsParentFrom p m r → IsParentFrom p n r
later-parent p n m r l (inl e) = inl e
later-parent p n m r l (inr h) = inr (omega arith)

inner-parent : (p n r : ℕ) → IsParentFrom n (n + 1) r → IsParentFrom p n r
inner-parent p n r (inl e) = inr (omega arith)
inner-parent p n r (inr h) = inr (omega arith)

forest-parents : (f : Forest) (n p : ℕ) → AllParents (IsParentFrom p n) (parents_from n p f)
forest-parents no_nodes n p = tt
forest-parents (node c below next) n p = (
  inl refl,
  parents-both (IsParentFrom p n) (parents_from (n + 1) n below) (parents_from ((n + 1) + node_count below) p next)
      (parents-also (IsParentFrom n (n + 1)) (IsParentFrom p n) (parents_from (n + 1) n below) (λ r. inner-parent p n r) (forest-parents below (n + 1) n))
      (parents-also (IsParentFrom p ((n + 1) + node_count below)) (IsParentFrom p n) (parents_from ((n + 1) + node_count below) p next)
      (λ r. later-parent p n ((n + 1) + node_count below) r (omega arith)) (forest-parents next ((n + 1) + node_count below) p)),
)

-- nodes none of which is a child of p are passed over
passed-over : (xs bs : List (Option ℕ)) (i p : ℕ) → AllParents (λ r. p ≢ r) xs → order_from i (xs ++ bs) p ≡ order_from (i + length xs) bs p
passed-over [] bs i p h = let e : i + 0 ≡ i = omega arith in rw e refl
passed-over (None ∷ xs) bs i p h = let e : i + (suc (length xs)) ≡ (i + 1) + length xs = omega arith in rw e (passed-over xs bs (i + 1) p h)
passed-over (Some r ∷ xs) bs i p h =
    let e : i + (suc (length xs)) ≡ (i + 1) + length xs = omega arith in rw (ne_eqb p r h.0, e) (passed-over xs bs (i + 1) p h.1)

no-children : (qs : List (Option ℕ)) (i p : ℕ) → AllParents (λ r. p ≢ r) qs → order_from i qs p ≡ []
no-children [] i p h = refl
no-children (None ∷ qs) i p h = no-children qs (i + 1) p h
no-children (Some r ∷ qs) i p h = rw (ne_eqb p r h.0) (no-children qs (i + 1) p h.1)

-- neither p nor one of so many numbers from i on
abbrev pub IsElsewhere : ℕ → ℕ → ℕ → ℕ → Type 0
IsElsewhere p i many r = (p ≢ r) × ((r < i) ⊎ (i + many ≤ r))

elsewhere-later : (p i many r : ℕ) → IsElsewhere p i (suc many) r → IsElsewhere p (i + 1) many r
elsewhere-later p i many r h = (h.0, elim h.1 [ inl l ↦ inl (omega arith) | inr l ↦ inr (omega arith) ])

elsewhere-below : (p i many r : ℕ) → IsElsewhere p i (suc many) r → IsElsewhere i (i + 1) many r
elsewhere-below p i many r h = elim h.1 [ inl l ↦ (omega arith, inl (omega arith)) | inr l ↦ (omega arith, inr (omega arith)) ]

either : (t : Bool) (i : ℕ) (xs bs cs ds : List ℕ) → xs ≡ bs → cs ≡ ds → (if t then i ∷ xs else []) ++ cs ≡ (if t then i ∷ bs else []) ++ ds
either t i xs bs cs ds e f = rw (e, f) refl

-- nodes that stand below none of the others are left out
cut-off : (xs bs : List (Option ℕ)) (i p : ℕ) → AllParents (IsElsewhere p i (length xs)) bs → order_from i (xs ++ bs) p ≡ order_from i xs p
cut-off [] bs i p h = no-children bs i p (parents-also (IsElsewhere p i 0) (λ r. p ≢ r) bs (λ r k. k.0) h)
cut-off (a ∷ xs) bs i p h = either (is_parent p a) i (order_from (i + 1) (xs ++ bs) i) (order_from (i + 1) xs i) (order_from (i + 1) (xs ++ bs) p) (order_from (i + 1) xs p)
    (cut-off xs bs (i + 1) i (parents-also (IsElsewhere p i (suc (length xs))) (IsElsewhere i (i + 1) (length xs)) bs (λ r. elsewhere-below p i (length xs) r) h))
    (cut-off xs bs (i + 1) p (parents-also (IsElsewhere p i (suc (length xs))) (IsElsewhere p (i + 1) (length xs)) bs (λ r. elsewhere-later p i (length xs) r) h))

-- so many numbers from i on
abbrev pub numbers_from : ℕ → ℕ → List ℕ
numbers_from i zero = []
numbers_from i (suc n) = i ∷ numbers_from (i + 1) n

numbers-more : (i m n : ℕ) → numbers_from i m ++ numbers_from (i + m) n ≡ numbers_from i (m + n)
numbers-more i zero n = let e : i + 0 ≡ i = omega arith in let f : 0 + n ≡ n = omega arith in rw (e, f) refl
numbers-more i (suc m) n =
    let e : i + suc m ≡ (i + 1) + m = omega arith in let f : suc m + n ≡ suc (m + n) = omega arith in rw (e, f) (ap (λ ns. i ∷ ns) (numbers-more (i + 1) m n))

next-elsewhere : (n p many length : ℕ) → p < n → many ≡ length → (r : ℕ) → IsParentFrom p ((n + 1) + many) r → IsElsewhere n (n + 1) length r
next-elsewhere n p many length l e r (inl s) = (omega arith, inl (omega arith))
next-elsewhere n p many length l e r (inr s) = (omega arith, inr (omega arith))

below-other : (n p : ℕ) → p < n → (r : ℕ) → IsParentFrom n (n + 1) r → p ≢ r
below-other n p l r (inl s) = omega arith
below-other n p l r (inr s) = omega arith

-- the nodes of a forest stand in the order of the text
in-order : (f : Forest) (n p : ℕ) → p < n → order_from n (parents_from n p f) p ≡ numbers_from n (node_count f)
in-order no_nodes n p l = refl
in-order (node c below next) n p l =
    let bs = parents_from (n + 1) n below in
    let ns = parents_from ((n + 1) + node_count below) p next in
    let many : length bs ≡ node_count below = count-parents below (n + 1) n in
    let inner : order_from (n + 1) (bs ++ ns) n ≡ numbers_from (n + 1) (node_count below) =
    cut-off bs ns (n + 1) n (parents-also (IsParentFrom p ((n + 1) + node_count below)) (IsElsewhere n (n + 1) (length bs)) ns
    (next-elsewhere n p (node_count below) (length bs) l (sym many)) (forest-parents next ((n + 1) + node_count below) p))
    ∙ in-order below (n + 1) n (omega arith) in
    let after : order_from (n + 1) (bs ++ ns) p ≡ numbers_from ((n + 1) + node_count below) (node_count next) =
    passed-over bs ns (n + 1) p (parents-also (IsParentFrom n (n + 1)) (λ r. p ≢ r) bs (below-other n p l) (forest-parents below (n + 1) n))
    ∙ ap (λ m. order_from ((n + 1) + m) ns p) many ∙ in-order next ((n + 1) + node_count below) p (omega arith) in
    let e : (node_count below + node_count next) + 1 ≡ suc (node_count below + node_count next) = omega arith in
    rw (eq-eqb p p refl, inner, after, e) (ap (λ ks. n ∷ ks) (numbers-more (n + 1) (node_count below) (node_count next)))

-- what is told of nodes that follow each other
told-in-order : {A : Type 0} (told : MdContent → List A) (all : List MdContent) (i : ℕ) (cs : List MdContent) → drop i all ≡ cs
    → flat_map (λ n. told (content_at all n)) (numbers_from i (length cs)) ≡ flat_map told cs
told-in-order told all i [] e = refl
told-in-order told all i (c ∷ cs) e =
    rw (head-of all i c cs content.Root e) (ap (λ ts. told c ++ ts) (told-in-order told all (i + 1) cs (rest-of all i c cs e)))

told-whole : {A : Type 0} (told : MdContent → List A) (root : MdContent) (f : Forest) (cs : List MdContent) → length cs ≡ node_count f
    → flat_map (λ n. told (content_at (root ∷ cs) n)) (0 ∷ order_from 1 (parents_from 1 0 f) 0) ≡ told root ++ flat_map told cs
told-whole told root f cs e =
    ap (λ ns. told root ++ flat_map (λ n. told (content_at (root ∷ cs) n)) ns) (in-order f 1 0 (omega arith) ∙ ap (numbers_from 1) (sym e))
    ∙ ap (λ ts. told root ++ ts) (told-in-order told (root ∷ cs) 1 cs refl)

page-text : (ds : List DefinitionTree) → page_text ds ≡ text_of_contents (page_contents ds)
unfolding page_tree
page-text ds =
    told-whole content_text (with_links (ids (page_contents ds)) content.Root) (document_parts (header_marks 1) ds) (map (with_links (ids (page_contents ds))) (page_contents ds))
    (length-map (page_contents ds) (with_links (ids (page_contents ds))) ∙ count-contents (document_parts (header_marks 1) ds))
    ∙ flat_map-map content_text (with_links (ids (page_contents ds))) (page_contents ds)

page-missing : (ds : List DefinitionTree) → missing_links ds ≡ missing_of_contents (page_contents ds)
unfolding page_tree
page-missing ds = told-whole (missing_in (ids (page_contents ds))) content.Root (document_parts (header_marks 1) ds) (page_contents ds) (count-contents (document_parts (header_marks 1) ds))

pub text-of-page : (cs : List MdContent) (ds : List DefinitionTree) → cs ≡ page_contents ds → text_of_contents cs ≡ page_text ds
text-of-page cs ds e = ap text_of_contents e ∙ sym (page-text ds)

pub missing-of-page : (cs : List MdContent) (ds : List DefinitionTree) → cs ≡ page_contents ds → missing_of_contents cs ≡ missing_links ds
missing-of-page cs ds e = ap missing_of_contents e ∙ sym (page-missing ds)
