-- What is left of a number after the functions of definitions, one definition after the other.
use Rattle.std.specs.Prelude.{◌≡◌, ℕ, ◌+◌, ◌<◌, ◌≤◌, nat_eq, List, [], ◌∷◌, length, map, drop, true}
use Rattle.std.proofs.Common.{refl, ap, sym, ◌∙◌, arith, get_or, zero-add, add-zero}
use Rattle.std.proofs.lemmas.List.{drop_all, drop_more, length-map}
use Rattle.witx_ast.proofs.Decided.{decides-eq}
use Rattle.witx_ast.specs.Definitions.{DefinitionTree, constant_of, module_of, typename_of}
use Rattle.witx_ast.specs.Items.{ItemTree, func_of, import_of}
use Rattle.witx_adapt.specs.Listings.{func_count}
use Rattle.witx_traces.specs.Traces.{function_number}

pub definition-first : (d : DefinitionTree) (ds : List DefinitionTree) → function_number (d ∷ ds) ≡ function_number (d ∷ []) + function_number ds
definition-first (typename_of name t docs) ds = sym (zero-add (function_number ds))
definition-first (module_of m) ds = ap (λ n. n + function_number ds) (sym (add-zero (func_count m.items)))
definition-first (constant_of c) ds = sym (zero-add (function_number ds))

pub item-first : (item : ItemTree) (items : List ItemTree) → func_count (item ∷ items) ≡ func_count (item ∷ []) + func_count items
item-first (import_of i) items = sym (zero-add (func_count items))
item-first (func_of f) items = refl

module _ {D T : Type 0} (view : D → T) (count : List T → ℕ) where
  -- what is left of the number after those before
  abbrev pub LeftAt : List D → (number i left : ℕ) → Type 0
  LeftAt ds number i left = left + count (map view ds) ≡ number + count (map view (drop i ds))

  module _ (first : (t : T) (ts : List T) → count (t ∷ ts) ≡ count (t ∷ []) + count ts) where
    counted : (ds : List D) (i : ℕ) (d : D) → i < length ds → d ≡ get_or ds i d
        → count (map view (drop i ds)) ≡ count (view d ∷ []) + count (map view (drop (i + 1) ds))
    counted ds i d l p =
        ap (λ xs. count (map view xs)) (drop_more ds i d l ∙ ap (λ x. x ∷ drop (i + 1) ds) (sym p)) ∙ first (view d) (map view (drop (i + 1) ds))

    pub left-next : (ds : List D) (number i left more : ℕ) (d : D) → i < length ds → d ≡ get_or ds i d → LeftAt ds number i left
        → more + count (view d ∷ []) ≡ left → LeftAt ds number (i + 1) more
    left-next ds number i left more d l p h e = let c = counted ds i d l p in omega (arith, c, h, e)

    pub left-less : (ds : List D) (number i left : ℕ) (d : D) → i < length ds → d ≡ get_or ds i d → LeftAt ds number i left
        → left < count (view d ∷ []) → number < count (map view ds)
    left-less ds number i left d l p h e = let c = counted ds i d l p in omega (arith, c, h, e)

  pub left-all : (ds : List D) (number i left : ℕ) → length ds ≤ i → count [] ≡ 0 → LeftAt ds number i left → left + count (map view ds) ≡ number
  left-all ds number i left l none h =
      let c : count (map view (drop i ds)) ≡ 0 = ap (λ xs. count (map view xs)) (drop_all i ds l) ∙ none in omega (arith, c, h)

-- ---- as many entries as that number

module _ {A B : Type 0} (f : A → B) where
  pub each-yes : (xs : List A) (n number left : ℕ) → number ≡ length xs → left + n ≡ number → nat_eq left 0 ≡ true → length (map f xs) ≡ n
  each-yes xs n number left e h same = let k = length-map xs f in let z = (decides-eq left 0).0 same in omega (arith, k, e, h, z)

  pub yes-each : (xs : List A) (n number left : ℕ) → number ≡ length xs → left + n ≡ number → length (map f xs) ≡ n → nat_eq left 0 ≡ true
  yes-each xs n number left e h each = let k = length-map xs f in (decides-eq left 0).1 (omega (arith, k, e, h, each))

  pub none-each : (xs : List A) (n number : ℕ) → number ≡ length xs → number < n → length (map f xs) ≡ n → ⊥
  none-each xs n number e less each = let k = length-map xs f in omega (arith, k, e, less, each)

pub ruleset entry_rules = (each-yes, yes-each, none-each)
