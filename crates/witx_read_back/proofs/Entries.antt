-- What is read back has equal entries, though the order is that of the print.
use Rattle.std.proofs.Common.{◌≡◌, ℕ, Bool, true, false, not, cond, List, [], ◌∷◌, ◌++◌, map, filter, Option, Some, None, refl, sym, ap, ◌∙◌, subst}
use Rattle.std.specs.Prelude.{option_map}
use Rattle.witx_base.specs.Found.{found}
use Rattle.witx_ast.specs.Tree.{Tree}
use Rattle.witx_ast.specs.Entries.{by_name}
use Rattle.witx_ast.specs.Items.{ItemTree, import_of, func_of, item_name}
use Rattle.witx_ast.specs.Definitions.{DefinitionTree, ModuleTree, typename_of, module_of, constant_of, introduced}
use Rattle.witx_scope.specs.Modules.{item_called}
use Rattle.witx_render.specs.ModuleExpressions.{items_in_order, is_import, is_func}
use Rattle.witx_render.specs.DocumentTexts.{is_typename, is_module, typenames_first}
use Rattle.witx_read_back.proofs.Printed.{as_printed, emptied_definition}
use Rattle.witx_read_back.specs.Emptied.{emptied, emptied_item}
use Rattle.witx_read_back.specs.SameEntries.{SameItems, SameDefinition, SameAt, SameEntries}
use Rattle.witx_read_back.proofs.Orders.{or_else, same, same_is, same_sym, NotIn, AllDiffer, or_parts}
use Rattle.witx_read_back.proofs.DocumentGiven.{def_names, ItemsDiffer, AllItemsDiffer}
use Rattle.witx_read_back.proofs.DocumentFine.{emptied_printed}

or_cond : {A : Type 0} (b : Bool) (x : A) (o p q : Option A) → o ≡ or_else p q → cond b (Some x) o ≡ or_else (cond b (Some x) p) q
or_cond true x o p q e = refl
or_cond false x o p q e = e

found_both : {V : Type 0} (xs ys : List (List ℕ × V)) (n : List ℕ) → found (xs ++ ys) n ≡ or_else (found xs n) (found ys n)
found_both [] ys n = refl
found_both (x ∷ xs) ys n = or_cond (same n x.0) x.1 (found (xs ++ ys) n) (found xs n) (found ys n) (found_both xs ys n)

-- an entry in the second list, whose name the first has not
swapped : {V : Type 0} (n m : List ℕ) (x : V) (p q o : Option V) → (same n m ≡ true → p ≡ None) → or_else p q ≡ o → or_else p (cond (same n m) (Some x) q) ≡ cond (same n m) (Some x) o
swapped n m x p q o h e = by (same n m) h
  where
    by : (b : Bool) → (b ≡ true → p ≡ None) → or_else p (cond b (Some x) q) ≡ cond b (Some x) o
    by true k = ap (λ l. or_else l (Some x)) (k refl)
    by false k = e

-- ---- definitions

defs_append : (xs ys : List DefinitionTree) → by_name introduced (xs ++ ys) ≡ by_name introduced xs ++ by_name introduced ys
defs_append [] ys = refl
defs_append (typename_of n t d ∷ xs) ys = ap (λ (l : List (List ℕ × DefinitionTree)). (n, typename_of n t d) ∷ l) (defs_append xs ys)
defs_append (module_of m ∷ xs) ys = ap (λ (l : List (List ℕ × DefinitionTree)). (m.name, module_of m) ∷ l) (defs_append xs ys)
defs_append (constant_of c ∷ xs) ys = defs_append xs ys

no_typename : (ds : List DefinitionTree) (n : List ℕ) → NotIn n (def_names ds) → found (by_name introduced (filter is_typename ds)) n ≡ None
no_typename [] n e = refl
no_typename (typename_of k t d ∷ ds) n e =
    let p = or_parts (same n k) _ e in
    ap (λ b. cond b (Some (typename_of k t d)) (found (by_name introduced (filter is_typename ds)) n)) p.0 ∙ no_typename ds n p.1
no_typename (module_of m ∷ ds) n e = no_typename ds n (or_parts (same n m.name) _ e).1
no_typename (constant_of c ∷ ds) n e = no_typename ds n e

defs_split : (ds : List DefinitionTree) (n : List ℕ) → AllDiffer (def_names ds)
    → or_else (found (by_name introduced (filter is_typename ds)) n) (found (by_name introduced (filter is_module ds)) n) ≡ found (by_name introduced ds) n
defs_split [] n d = refl
defs_split (typename_of k t e ∷ ds) n d = sym (or_cond (same n k) (typename_of k t e) (found (by_name introduced ds) n) (found (by_name introduced (filter is_typename ds)) n)
    (found (by_name introduced (filter is_module ds)) n) (sym (defs_split ds n d.1)))
defs_split (module_of m ∷ ds) n d = swapped n m.name (module_of m) (found (by_name introduced (filter is_typename ds)) n) (found (by_name introduced (filter is_module ds)) n) (found (by_name introduced ds) n)
    (λ e. no_typename ds n (subst (λ (k : List ℕ). NotIn k (def_names ds)) (sym (same_is n m.name e)) d.0)) (defs_split ds n d.1)
defs_split (constant_of c ∷ ds) n d = defs_split ds n d

defs_ordered : (ds : List DefinitionTree) (n : List ℕ) → AllDiffer (def_names ds) → found (by_name introduced (typenames_first ds)) n ≡ found (by_name introduced ds) n
defs_ordered ds n d = ap (λ l. found l n) (defs_append (filter is_typename ds) (filter is_module ds))
    ∙ found_both (by_name introduced (filter is_typename ds)) (by_name introduced (filter is_module ds)) n ∙ defs_split ds n d

map_cond : {A B : Type 0} (f : A → B) (b : Bool) (x : A) (o : Option A) (p : Option B) → p ≡ option_map f o → cond b (Some (f x)) p ≡ option_map f (cond b (Some x) o)
map_cond f true x o p e = refl
map_cond f false x o p e = e

found_emptied : (ds : List DefinitionTree) (n : List ℕ) → found (by_name introduced (map emptied_definition ds)) n ≡ option_map emptied_definition (found (by_name introduced ds) n)
found_emptied [] n = refl
found_emptied (typename_of k t d ∷ ds) n = map_cond emptied_definition (same n k) (typename_of k t d) _ _ (found_emptied ds n)
found_emptied (module_of m ∷ ds) n = map_cond emptied_definition (same n m.name) (module_of m) _ _ (found_emptied ds n)
found_emptied (constant_of c ∷ ds) n = found_emptied ds n

found_printed : (ds : List DefinitionTree) (n : List ℕ) → found (by_name introduced (map emptied_printed ds)) n ≡ option_map emptied_printed (found (by_name introduced ds) n)
found_printed [] n = refl
found_printed (typename_of k t d ∷ ds) n = map_cond emptied_printed (same n k) (typename_of k t d) _ _ (found_printed ds n)
found_printed (module_of m ∷ ds) n = map_cond emptied_printed (same n m.name) (module_of m) _ _ (found_printed ds n)
found_printed (constant_of c ∷ ds) n = found_printed ds n

-- ---- items

items_append : (xs ys : List ItemTree) → by_name item_name (xs ++ ys) ≡ by_name item_name xs ++ by_name item_name ys
items_append [] ys = refl
items_append (import_of i ∷ xs) ys = ap (λ (l : List (List ℕ × ItemTree)). (i.name, import_of i) ∷ l) (items_append xs ys)
items_append (func_of f ∷ xs) ys = ap (λ (l : List (List ℕ × ItemTree)). (f.name, func_of f) ∷ l) (items_append xs ys)

no_import : (is : List ItemTree) (n : List ℕ) → NotIn n (map item_called is) → found (by_name item_name (filter is_import is)) n ≡ None
no_import [] n e = refl
no_import (import_of i ∷ is) n e =
    let p = or_parts (same n i.name) _ e in
    ap (λ b. cond b (Some (import_of i)) (found (by_name item_name (filter is_import is)) n)) p.0 ∙ no_import is n p.1
no_import (func_of f ∷ is) n e = no_import is n (or_parts (same n f.name) _ e).1

items_split : (is : List ItemTree) (n : List ℕ) → AllDiffer (map item_called is)
    → or_else (found (by_name item_name (filter is_import is)) n) (found (by_name item_name (filter is_func is)) n) ≡ found (by_name item_name is) n
items_split [] n d = refl
items_split (import_of i ∷ is) n d = sym (or_cond (same n i.name) (import_of i) (found (by_name item_name is) n) (found (by_name item_name (filter is_import is)) n)
    (found (by_name item_name (filter is_func is)) n) (sym (items_split is n d.1)))
items_split (func_of f ∷ is) n d = swapped n f.name (func_of f) (found (by_name item_name (filter is_import is)) n) (found (by_name item_name (filter is_func is)) n) (found (by_name item_name is) n)
    (λ e. no_import is n (subst (λ (k : List ℕ). NotIn k (map item_called is)) (sym (same_is n f.name e)) d.0)) (items_split is n d.1)

items_ordered : (is : List ItemTree) (n : List ℕ) → AllDiffer (map item_called is) → found (by_name item_name (items_in_order is)) n ≡ found (by_name item_name is) n
items_ordered is n d = ap (λ l. found l n) (items_append (filter is_import is) (filter is_func is))
    ∙ found_both (by_name item_name (filter is_import is)) (by_name item_name (filter is_func is)) n ∙ items_split is n d

found_item : (is : List ItemTree) (n : List ℕ) → found (by_name item_name (map emptied_item is)) n ≡ option_map emptied_item (found (by_name item_name is) n)
found_item [] n = refl
found_item (import_of i ∷ is) n = map_cond emptied_item (same n i.name) (import_of i) _ _ (found_item is n)
found_item (func_of f ∷ is) n = map_cond emptied_item (same n f.name) (func_of f) _ _ (found_item is n)

same_items : (is js : List ItemTree) → AllDiffer (map item_called is) → map emptied_item js ≡ map emptied_item (items_in_order is) → SameItems is js
same_items is js d e n =
    ap (λ (o : Option ItemTree). option_map emptied_item o) (sym (items_ordered is n d)) ∙ sym (found_item (items_in_order is) n)
    ∙ ap (λ (l : List ItemTree). found (by_name item_name l) n) (sym e) ∙ found_item js n

-- ---- entries

-- what is found under a name, if it is a module, has items whose names differ
abbrev IfFound : Option DefinitionTree → Type 0
IfFound None = Unit {0}
IfFound (Some d) = ItemsDiffer d

pick : (b : Bool) (d : DefinitionTree) (o : Option DefinitionTree) → ItemsDiffer d → IfFound o → IfFound (cond b (Some d) o)
pick true d o h k = h
pick false d o h k = k

found_differ : (ds : List DefinitionTree) (n : List ℕ) → AllItemsDiffer ds → IfFound (found (by_name introduced ds) n)
found_differ [] n h = tt
found_differ (typename_of k t d ∷ ds) n h = pick (same n k) (typename_of k t d) (found (by_name introduced ds) n) h.0 (found_differ ds n h.1)
found_differ (module_of m ∷ ds) n h = pick (same n m.name) (module_of m) (found (by_name introduced ds) n) h.0 (found_differ ds n h.1)
found_differ (constant_of c ∷ ds) n h = found_differ ds n h.1

abbrev called : DefinitionTree → List ℕ
called (typename_of n t d) = n
called (module_of m) = m.name
called (constant_of c) = []

abbrev type_in : DefinitionTree → Option Tree
type_in (typename_of n t d) = Some t
type_in (module_of m) = None
type_in (constant_of c) = None

abbrev items_in : DefinitionTree → Option (List ItemTree)
items_in (typename_of n t d) = None
items_in (module_of m) = Some m.items
items_in (constant_of c) = None

some_is : {A : Type 0} (x y : A) → Some x ≡ Some y → x ≡ y
some_is x y e = cc

none_some : {A : Type 0} (x : A) → None ≡ Some x → ⊥
none_some x e = cc

same_definition : (d e : DefinitionTree) → ItemsDiffer d → emptied_definition e ≡ emptied_printed d → SameAt (Some d) (Some e)
same_definition (typename_of n t c) (typename_of m u b) h q = (sym (ap (λ x. called x) q), sym (some_is (emptied u) (emptied t) (ap (λ x. type_in x) q)))
same_definition (typename_of n t c) (module_of o) h q = absurd (none_some (emptied t) (ap (λ x. type_in x) q))
same_definition (typename_of n t c) (constant_of b) h q = absurd (none_some (emptied t) (ap (λ x. type_in x) q))
same_definition (module_of m) (typename_of k u b) h q = absurd (none_some (map emptied_item (items_in_order m.items)) (ap (λ x. items_in x) q))
same_definition (module_of m) (module_of o) h q =
    (sym (ap (λ x. called x) q), same_items m.items o.items h (some_is (map emptied_item o.items) (map emptied_item (items_in_order m.items)) (ap (λ x. items_in x) q)))
same_definition (module_of m) (constant_of b) h q = absurd (none_some (map emptied_item (items_in_order m.items)) (ap (λ x. items_in x) q))
same_definition (constant_of c) e h q = tt

same_at : (o p : Option DefinitionTree) → IfFound o → option_map emptied_definition p ≡ option_map emptied_printed o → SameAt o p
same_at None None h q = tt
same_at None (Some e) h q = absurd (none_some (emptied_definition e) (sym q))
same_at (Some d) None h q = absurd (none_some (emptied_printed d) q)
same_at (Some d) (Some e) h q = same_definition d e h (some_is (emptied_definition e) (emptied_printed d) q)

-- definitions that are those of the print, but for documentation, have the same entries
pub same_entries : (ds es : List DefinitionTree) → AllDiffer (def_names ds) → AllItemsDiffer ds → map emptied_definition es ≡ map emptied_printed (typenames_first ds) → SameEntries ds es
same_entries ds es d h e n = same_at (found (by_name introduced ds) n) (found (by_name introduced es) n) (found_differ ds n h)
    (sym (found_emptied es n) ∙ ap (λ (l : List DefinitionTree). found (by_name introduced l) n) e ∙ found_printed (typenames_first ds) n
    ∙ ap (λ (o : Option DefinitionTree). option_map emptied_printed o) (defs_ordered ds n d))
