-- Copies of a map's entries that are inserted in the entries' order stand in that order (`copied-entry`).
use Rattle.std.specs.Prelude.{◌≡◌, ℕ, List, [], ◌∷◌, ◌++◌, refl}
use Rattle.std.proofs.Common.{ap, ◌∙◌, sym, subst, append_assoc, append-nil}
use Rattle.std.specs.declared.cmp.Ordering.{Ordering}
use Rattle.std.specs.declared.cmp.Ordering.TheVariants.{Less, Greater}
use Rattle.std.specs.Ordering.{match_ordering, nat_cmp, ordering_reverse}
use Rattle.std.specs.Cmp.{IsTotalOrder}
use Rattle.std.specs.Cmp.Lexicographic.{nat_list_cmp_total, slice_cmp}
use Rattle.std.specs.List.{AllByRecursion}
use Rattle.std.specs.List.Sorted.{IsStrictlySortedBy}
use Rattle.std.specs.Map.{keys_of}
use Rattle.std.specs.BTreeMap.{insert_entry}
use Rattle.std.proofs.lemmas.List.{map-append}
use Rattle.std.proofs.lemmas.Map.Keys.{sorted_head, sorted_tail}
use Rattle.witx_base.specs.Copies.{IsCopyOfEntries}

holds-at : {K : Type 0} (P : K → Type 0) (xs : List K) (k : K) (rest : List K) → AllByRecursion P (xs ++ k ∷ rest) → P k
holds-at P [] k rest h = h.0
holds-at P (x ∷ xs) k rest h = holds-at P xs k rest h.1

-- a key above all others goes to the end
insert-last : {K V : Type 0} {R : K → K → Ordering} → IsTotalOrder R → (es : List (K × V)) (k : K) (v : V) (rest : List K)
    → IsStrictlySortedBy R (keys_of es ++ k ∷ rest) → insert_entry R es k v ≡ es ++ (k, v) ∷ []
insert-last o [] k v rest h = refl
insert-last {R = R} o (e ∷ es) k v rest h =
    let below : R e.0 k ≡ Less = holds-at (λ y. R e.0 y ≡ Less) (keys_of es) k rest (sorted_head R e.0 (keys_of es ++ k ∷ rest) h) in
    let above : R k e.0 ≡ Greater = o.antisymm k e.0 ∙ ap ordering_reverse below in
    ap (λ r. match_ordering r ((k, v) ∷ e ∷ es) ((e.0, v) ∷ es) (e ∷ insert_entry R es k v)) above
    ∙ ap (λ xs. e ∷ xs) (insert-last o es k v rest (sorted_tail R e.0 (keys_of es ++ k ∷ rest) h))

-- the entries `all` of a map, of which `left` are still to be copied, and the copies so far
pub record IsCopiedSoFar {V : Type 0} (is_copy : V → V → Type 0) (all left copies : List (List ℕ × V)) : Type 0 where
  pub in_order : keys_of copies ++ keys_of left ≡ keys_of all
  pub copied : (more : List (List ℕ × V)) → IsCopyOfEntries is_copy left more → IsCopyOfEntries is_copy all (copies ++ more)

pub copied-entry : {V : Type 0} (is_copy : V → V → Type 0) (all left rest copies now : List (List ℕ × V)) (k name : List ℕ) (v made : V)
    → IsStrictlySortedBy (slice_cmp nat_cmp) (keys_of all) → IsCopiedSoFar is_copy all left copies → left ≡ (k, v) ∷ rest
    → name ≡ k → is_copy v made → now ≡ insert_entry (slice_cmp nat_cmp) copies name made
    → IsCopiedSoFar is_copy all rest now
copied-entry {V} is_copy all left rest copies now k name v made sorted so_far next same copy inserted =
    let order : keys_of copies ++ k ∷ keys_of rest ≡ keys_of all = ap (λ es. keys_of copies ++ keys_of es) (sym next) ∙ so_far.in_order in
    let last : insert_entry (slice_cmp nat_cmp) copies k made ≡ copies ++ (k, made) ∷ [] =
    insert-last nat_list_cmp_total copies k made (keys_of rest) (subst (IsStrictlySortedBy (slice_cmp nat_cmp)) (sym order) sorted) in
    let put : now ≡ copies ++ (k, made) ∷ [] = inserted ∙ ap (λ n. insert_entry (slice_cmp nat_cmp) copies n made) same ∙ last in
    let whole : IsCopiedSoFar is_copy all rest (copies ++ (k, made) ∷ []) = record {
      in_order = ap (λ ks. ks ++ keys_of rest) (map-append (λ (e : List ℕ × V). e.0) copies ((k, made) ∷ [])) ∙ append_assoc (keys_of copies) (k ∷ []) (keys_of rest) ∙ order;
      copied = λ more h. subst (IsCopyOfEntries is_copy all) (sym (append_assoc copies ((k, made) ∷ []) more))
          (so_far.copied ((k, made) ∷ more) (subst (λ es. IsCopyOfEntries is_copy es ((k, made) ∷ more)) (sym next) ((refl, copy), h)));
    } in
    subst (IsCopiedSoFar is_copy all rest) (sym put) whole

-- at the end every entry has its copy
pub copied-all : {V : Type 0} (is_copy : V → V → Type 0) (all left copies : List (List ℕ × V))
    → IsCopiedSoFar is_copy all left copies → left ≡ [] → IsCopyOfEntries is_copy all copies
copied-all is_copy all left copies so_far end =
    subst (IsCopyOfEntries is_copy all) (append-nil copies) (so_far.copied [] (subst (λ es. IsCopyOfEntries is_copy es []) (sym end) tt))
