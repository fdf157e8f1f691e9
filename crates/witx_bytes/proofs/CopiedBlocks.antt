-- Blocks that are copied in the order of their numbers stand in that order.
use Rattle.std.specs.Prelude.{◌≡◌, ℕ, List, [], ◌∷◌, ◌++◌, Option, refl}
use Rattle.std.proofs.Common.{ap, ◌∙◌, sym, subst, append_assoc, append-nil}
use Rattle.std.specs.declared.cmp.Ordering.TheVariants.{Less, Greater}
use Rattle.std.specs.Ordering.{match_ordering, nat_cmp, ordering_reverse}
use Rattle.std.specs.List.{AllByRecursion}
use Rattle.std.specs.List.Sorted.{IsStrictlySortedBy}
use Rattle.std.specs.Map.{keys_of}
use Rattle.std.specs.BTreeMap.{insert_entry}
use Rattle.std.proofs.lemmas.Cmp.{nat_cmp_total}
use Rattle.std.proofs.lemmas.List.{map-append}
use Rattle.std.proofs.lemmas.Map.Keys.{sorted_head, sorted_tail}
use Rattle.witx_bytes.specs.Bytes.{Blocks}

holds-at : (P : ℕ → Type 0) (xs : List ℕ) (k : ℕ) (rest : List ℕ) → AllByRecursion P (xs ++ k ∷ rest) → P k
holds-at P [] k rest h = h.0
holds-at P (x ∷ xs) k rest h = holds-at P xs k rest h.1

-- a number above all others goes to the end
insert-last : (es : Blocks) (k : ℕ) (v : List (Option ℕ)) (rest : List ℕ)
    → IsStrictlySortedBy nat_cmp (keys_of es ++ k ∷ rest) → insert_entry nat_cmp es k v ≡ es ++ (k, v) ∷ []
insert-last [] k v rest h = refl
insert-last (e ∷ es) k v rest h =
    let below : nat_cmp e.0 k ≡ Less = holds-at (λ y. nat_cmp e.0 y ≡ Less) (keys_of es) k rest (sorted_head nat_cmp e.0 (keys_of es ++ k ∷ rest) h) in
    let above : nat_cmp k e.0 ≡ Greater = nat_cmp_total.antisymm k e.0 ∙ ap ordering_reverse below in
    ap (λ r. match_ordering r ((k, v) ∷ e ∷ es) ((e.0, v) ∷ es) (e ∷ insert_entry nat_cmp es k v)) above
    ∙ ap (λ xs. e ∷ xs) (insert-last es k v rest (sorted_tail nat_cmp e.0 (keys_of es ++ k ∷ rest) h))

-- one more block is copied, and all blocks are
pub copied-block : (all left rest made now : Blocks) (k n : ℕ) (v w : List (Option ℕ)) → IsStrictlySortedBy nat_cmp (keys_of all) → made ++ left ≡ all → left ≡ (k, v) ∷ rest
    → n ≡ k → w ≡ v → now ≡ insert_entry nat_cmp made n w → now ++ rest ≡ all
copied-block all left rest made now k n v w sorted so_far next same copy inserted =
    let whole : made ++ (k, v) ∷ rest ≡ all = ap (λ l. made ++ l) (sym next) ∙ so_far in
    let order : keys_of made ++ k ∷ keys_of rest ≡ keys_of all = sym (map-append (λ (e : ℕ × List (Option ℕ)). e.0) made ((k, v) ∷ rest)) ∙ ap (λ l. keys_of l) whole in
    let last : insert_entry nat_cmp made k v ≡ made ++ (k, v) ∷ [] = insert-last made k v (keys_of rest) (subst (IsStrictlySortedBy nat_cmp) (sym order) sorted) in
    let put : now ≡ made ++ (k, v) ∷ [] = inserted ∙ ap (λ n. insert_entry nat_cmp made n w) same ∙ ap (λ w. insert_entry nat_cmp made k w) copy ∙ last in
    ap (λ l. l ++ rest) put ∙ append_assoc made ((k, v) ∷ []) rest ∙ whole

pub copied-all : (all left made : Blocks) → made ++ left ≡ all → left ≡ [] → made ≡ all
copied-all all left made so_far none = sym (append-nil made) ∙ ap (λ l. made ++ l) (sym none) ∙ so_far
