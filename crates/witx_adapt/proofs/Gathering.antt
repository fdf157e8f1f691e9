-- What a loop over definitions, or over the items of a module, has made of those that it has passed, with what those
-- still to come give, is what it makes in all; what has passed is not refused, so the first refusal is still to come.
use Rattle.std.proofs.Common.{◌≡◌, ℕ, ◌+◌, ◌<◌, ◌≤◌, List, [], ◌∷◌, ◌++◌, length, get_or, map, drop, sym, ap, ◌∙◌, append_assoc, append-nil, refl, subst, Option, Some, None}
use Rattle.std.specs.List.{flat_map}
use Rattle.std.specs.Option.{option_or}
use Rattle.std.proofs.lemmas.List.{drop_more, drop_all, map-append}
use Rattle.witx_ast.specs.declared.module.ModuleDefinition.{ModuleDefinition}
use Rattle.witx_ast.specs.declared.definition.Definition.{Definition}
use Rattle.witx_ast.specs.Items.{item_tree}
use Rattle.witx_ast.specs.Definitions.{definition_tree, ModuleTree}
use Rattle.witx_adapt.specs.declared.error.DocumentError.{DocumentError}
use Rattle.witx_adapt.specs.declared.error.DocumentError.TheVariants as document_error
use Rattle.witx_adapt.specs.Entries.{Entry, Owned, all_functions, entry_for, owned_functions, owned_item}
use Rattle.witx_adapt.specs.Adaptable.{UnlowerableAt, Unlowered, first_unlowered, unlowered}

-- what the elements from one on give: what it gives, and what those behind it do
rest-drop : {X T P : Type 0} (f : X → T) (part : T → List P) (xs : List X) (i : ℕ) (x : X) → i < length xs → x ≡ get_or xs i x
    → flat_map part (map f (drop i xs)) ≡ part (f x) ++ flat_map part (map f (drop (i + 1) xs))
rest-drop f part xs i x l p = ap (λ ys. flat_map part (map f ys)) (drop_more xs i x l ∙ ap (λ y. y ∷ drop (i + 1) xs) (sym p))

joined : {P : Type 0} (done now one more total : List P) → now ≡ done ++ one → done ++ (one ++ more) ≡ total → now ++ more ≡ total
joined done now one more total p e = ap (λ s. s ++ more) p ∙ append_assoc done one more ∙ e

-- functions
or-assoc : {T : Type 0} (a b c : Option T) → option_or a (option_or b c) ≡ option_or (option_or a b) c
or-assoc None b c = refl
or-assoc (Some x) b c = refl

unlowered-append : (ps qs : List Owned) → first_unlowered (ps ++ qs) ≡ option_or (first_unlowered ps) (first_unlowered qs)
unlowered-append [] qs = refl
unlowered-append (p ∷ ps) qs = ap (option_or (unlowered p)) (unlowered-append ps qs) ∙ or-assoc (unlowered p) (first_unlowered ps) (first_unlowered qs)

unlowered-told : (o rest : Option Unlowered) (e : DocumentError) → UnlowerableAt o e → UnlowerableAt (option_or o rest) e
unlowered-told (Some u) rest e h = h
unlowered-told None rest (document_error.TagTooNarrow t) h = h
unlowered-told None rest (document_error.TooLarge n) h = h
unlowered-told None rest (document_error.Unlowerable m f p) h = cc
unlowered-told None rest document_error.OutOfMemory h = tt

module _ {X T : Type 0} (f : X → T) (part : T → List Owned) (xs : List X) (i : ℕ) where
  entries-more : (x : X) (done now all : List Entry) → i < length xs → x ≡ get_or xs i x → now ≡ done ++ map entry_for (part (f x))
      → done ++ map entry_for (flat_map part (map f (drop i xs))) ≡ all → now ++ map entry_for (flat_map part (map f (drop (i + 1) xs))) ≡ all
  entries-more x done now all l p w e =
      joined done now (map entry_for (part (f x))) (map entry_for (flat_map part (map f (drop (i + 1) xs)))) all w
      (ap (λ ys. done ++ ys) (sym (ap (map entry_for) (rest-drop f part xs i x l p) ∙ map-append entry_for (part (f x)) (flat_map part (map f (drop (i + 1) xs))))) ∙ e)

  entries-end : (done all : List Entry) → length xs ≤ i → done ++ map entry_for (flat_map part (map f (drop i xs))) ≡ all → done ≡ all
  entries-end done all l e = sym (append-nil done) ∙ ap (λ ys. done ++ map entry_for (flat_map part (map f ys))) (sym (drop_all i xs l)) ∙ e

  unlowered-drop : (x : X) → i < length xs → x ≡ get_or xs i x
      → first_unlowered (flat_map part (map f (drop i xs))) ≡ option_or (first_unlowered (part (f x))) (first_unlowered (flat_map part (map f (drop (i + 1) xs))))
  unlowered-drop x l p = ap first_unlowered (rest-drop f part xs i x l p) ∙ unlowered-append (part (f x)) (flat_map part (map f (drop (i + 1) xs)))

  lowerable-more : (x : X) (all : Option Unlowered) → i < length xs → x ≡ get_or xs i x → first_unlowered (part (f x)) ≡ None
      → first_unlowered (flat_map part (map f (drop i xs))) ≡ all → first_unlowered (flat_map part (map f (drop (i + 1) xs))) ≡ all
  lowerable-more x all l p h e =
      sym (unlowered-drop x l p ∙ ap (λ o. option_or o (first_unlowered (flat_map part (map f (drop (i + 1) xs))))) h) ∙ e

  lowerable-end : (all : Option Unlowered) → length xs ≤ i → first_unlowered (flat_map part (map f (drop i xs))) ≡ all → all ≡ None
  lowerable-end all l e = sym e ∙ ap (λ ys. first_unlowered (flat_map part (map f ys))) (drop_all i xs l)

  unlowerable-here : (x : X) (all : Option Unlowered) (e : DocumentError) → i < length xs → x ≡ get_or xs i x → UnlowerableAt (first_unlowered (part (f x))) e
      → first_unlowered (flat_map part (map f (drop i xs))) ≡ all → UnlowerableAt all e
  unlowerable-here x all e l p h q =
      subst (λ o. UnlowerableAt o e) (sym (unlowered-drop x l p) ∙ q)
      (unlowered-told (first_unlowered (part (f x))) (first_unlowered (flat_map part (map f (drop (i + 1) xs)))) e h)

-- of definitions
abbrev pub left_functions : List Definition → ℕ → List Owned
left_functions xs i = all_functions (map definition_tree (drop i xs))

pub functions-more : (xs : List Definition) (i : ℕ) (d : Definition) (done now all : List Entry) → i < length xs → d ≡ get_or xs i d
    → now ≡ done ++ map entry_for (owned_functions (definition_tree d))
    → done ++ map entry_for (left_functions xs i) ≡ all → now ++ map entry_for (left_functions xs (i + 1)) ≡ all
functions-more xs i = entries-more definition_tree owned_functions xs i

pub functions-end : (xs : List Definition) (i : ℕ) (done all : List Entry) → length xs ≤ i → done ++ map entry_for (left_functions xs i) ≡ all → done ≡ all
functions-end xs i = entries-end definition_tree owned_functions xs i

pub functions-lower : (xs : List Definition) (i : ℕ) (d : Definition) (all : Option Unlowered) → i < length xs → d ≡ get_or xs i d
    → first_unlowered (owned_functions (definition_tree d)) ≡ None → first_unlowered (left_functions xs i) ≡ all → first_unlowered (left_functions xs (i + 1)) ≡ all
functions-lower xs i = lowerable-more definition_tree owned_functions xs i

pub functions-lowered : (xs : List Definition) (i : ℕ) (all : Option Unlowered) → length xs ≤ i → first_unlowered (left_functions xs i) ≡ all → all ≡ None
functions-lowered xs i = lowerable-end definition_tree owned_functions xs i

pub functions-refused : (xs : List Definition) (i : ℕ) (d : Definition) (all : Option Unlowered) (e : DocumentError) → i < length xs → d ≡ get_or xs i d
    → UnlowerableAt (first_unlowered (owned_functions (definition_tree d))) e → first_unlowered (left_functions xs i) ≡ all → UnlowerableAt all e
functions-refused xs i = unlowerable-here definition_tree owned_functions xs i

pub ruleset function_rules = (functions-more, functions-end, functions-lower, functions-lowered, functions-refused)

-- of the items of a module
abbrev pub left_items : ModuleTree → List ModuleDefinition → ℕ → List Owned
left_items m xs i = flat_map (owned_item m) (map item_tree (drop i xs))

pub items-more : (m : ModuleTree) (xs : List ModuleDefinition) (i : ℕ) (d : ModuleDefinition) (done now all : List Entry) → i < length xs → d ≡ get_or xs i d
    → now ≡ done ++ map entry_for (owned_item m (item_tree d))
    → done ++ map entry_for (left_items m xs i) ≡ all → now ++ map entry_for (left_items m xs (i + 1)) ≡ all
items-more m xs i = entries-more item_tree (owned_item m) xs i

pub items-end : (m : ModuleTree) (xs : List ModuleDefinition) (i : ℕ) (done all : List Entry) → length xs ≤ i → done ++ map entry_for (left_items m xs i) ≡ all → done ≡ all
items-end m xs i = entries-end item_tree (owned_item m) xs i

pub items-lower : (m : ModuleTree) (xs : List ModuleDefinition) (i : ℕ) (d : ModuleDefinition) (all : Option Unlowered) → i < length xs → d ≡ get_or xs i d
    → first_unlowered (owned_item m (item_tree d)) ≡ None → first_unlowered (left_items m xs i) ≡ all → first_unlowered (left_items m xs (i + 1)) ≡ all
items-lower m xs i = lowerable-more item_tree (owned_item m) xs i

pub items-lowered : (m : ModuleTree) (xs : List ModuleDefinition) (i : ℕ) (all : Option Unlowered) → length xs ≤ i → first_unlowered (left_items m xs i) ≡ all → all ≡ None
items-lowered m xs i = lowerable-end item_tree (owned_item m) xs i

pub items-refused : (m : ModuleTree) (xs : List ModuleDefinition) (i : ℕ) (d : ModuleDefinition) (all : Option Unlowered) (e : DocumentError) → i < length xs → d ≡ get_or xs i d
    → UnlowerableAt (first_unlowered (owned_item m (item_tree d))) e → first_unlowered (left_items m xs i) ≡ all → UnlowerableAt all e
items-refused m xs i = unlowerable-here item_tree (owned_item m) xs i

pub ruleset item_rules = (items-more, items-end, items-lower, items-lowered, items-refused)
