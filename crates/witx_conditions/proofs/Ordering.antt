-- The tests of names decide what they test; definitions, one after the other, each with those before it.
use Rattle.std.specs.Prelude.{◌≡◌, ℕ, ◌+◌, ◌<◌, ◌≤◌, List, [], ◌∷◌, ◌++◌, Bool, true, false, ◌&&◌, Option, Some, None, map, length, drop, take}
use Rattle.std.proofs.Common.{refl, ap, sym, ◌∙◌, get_or}
use Rattle.std.specs.Bool.{Decides}
use Rattle.std.proofs.lemmas.List.{drop_more, drop_all, take_more, map-append}
use Rattle.witx_ast.specs.Closed.{AllNamesStand, ClosedAfter, IsClosed, ItemNamesStand, ParamNamesStand}
use Rattle.witx_ast.specs.Definitions.{DefinitionTree, typename_of, module_of, constant_of, definition_tree, typename_called}
use Rattle.witx_ast.specs.Items.{ItemTree, import_of, func_of}
use Rattle.witx_ast.specs.Ordered.{ArmNamesStand, DefinitionStands, FieldNamesStand, IsOrdered, NamesStand, OrderedAfter, StandsBefore}
use Rattle.witx_base.specs.SameBytes.{false-true}
use Rattle.witx_ast.specs.SameLaws.{same-to, same-from}
use Rattle.witx_ast.specs.Tree.{Tree, Fields, Arms, Field, behind}
use Rattle.witx_ast.specs.declared.definition.Definition.{Definition}
use Rattle.witx_ast.proofs.Decided.{always, decides-and}
use Rattle.witx_conditions.specs.NameTests.{arms_stand, definition_stands, each_after, fields_stand, is_type_behind, items_stand, names_stand, params_stand}

-- ---- the tests decide

behind-decides : (before : List DefinitionTree) (name : List ℕ) (t : Tree) (o : Option Tree) → typename_called before name ≡ o
    → Decides (is_type_behind o t) (StandsBefore before name t)
behind-decides before name t None e = (λ h. absurd (false-true h), λ s. absurd (none s.0 (sym e ∙ s.1)))
  where
    none : (u : Tree) → None ≡ Some u → ⊥
    none u h = cc
behind-decides before name t (Some u) e =
    (λ h. (u, e, same-to (behind u) (behind t) h), λ s. same-from (behind u) (behind t) (ap behind (some u s.0 (sym e ∙ s.1)) ∙ s.2))
  where
    some : (x y : Tree) → Some x ≡ Some y → x ≡ y
    some x y h = cc

mutual
  names-decide : (before : List DefinitionTree) (t : Tree) → Decides (names_stand before t) (NamesStand before t)
  names-decide before (Tree.named name t docs) = behind-decides before name t (typename_called before name) refl
  names-decide before (Tree.builtin b) = always
  names-decide before Tree.handle = always
  names-decide before (Tree.list_of t) = names-decide before t
  names-decide before (Tree.pointer_to t) = names-decide before t
  names-decide before (Tree.const_pointer_to t) = names-decide before t
  names-decide before (Tree.record_of kind ms) = fields-decide before ms
  names-decide before (Tree.variant_of repr cs) = arms-decide before cs

  fields-decide : (before : List DefinitionTree) (ms : Fields) → Decides (fields_stand before ms) (FieldNamesStand before ms)
  fields-decide before Fields.no_fields = always
  fields-decide before (Fields.field name t docs ms) = decides-and _ _ (names-decide before t) (fields-decide before ms)

  arms-decide : (before : List DefinitionTree) (cs : Arms) → Decides (arms_stand before cs) (ArmNamesStand before cs)
  arms-decide before Arms.no_arms = always
  arms-decide before (Arms.bare name docs cs) = arms-decide before cs
  arms-decide before (Arms.carries name t docs cs) = decides-and _ _ (names-decide before t) (arms-decide before cs)

params-decide : (before : List DefinitionTree) (ps : List Field) → Decides (params_stand before ps) (ParamNamesStand before ps)
params-decide before [] = always
params-decide before (p ∷ ps) = decides-and _ _ (names-decide before p.tree) (params-decide before ps)

nested : {P Q R : Type 0} (b : Bool) → Decides b ((P × Q) × R) → Decides b (P × Q × R)
nested b d = (λ h. let s = d.0 h in (s.0.0, s.0.1, s.1), λ s. d.1 ((s.0, s.1), s.2))

items-decide : (before : List DefinitionTree) (items : List ItemTree) → Decides (items_stand before items) (ItemNamesStand before items)
items-decide before [] = always
items-decide before (import_of i ∷ items) = items-decide before items
items-decide before (func_of f ∷ items) =
    nested _ (decides-and _ _ (decides-and _ _ (params-decide before f.params) (params-decide before f.results)) (items-decide before items))

type-decides : (before : List DefinitionTree) (d : DefinitionTree) → Decides (definition_stands false before d) (DefinitionStands before d)
type-decides before (typename_of name t docs) = names-decide before t
type-decides before (module_of m) = always
type-decides before (constant_of c) = always

all-decide : (before : List DefinitionTree) (d : DefinitionTree) → Decides (definition_stands true before d) (AllNamesStand before d)
all-decide before (typename_of name t docs) = names-decide before t
all-decide before (module_of m) = items-decide before m.items
all-decide before (constant_of c) = always

ordered-decides : (before ds : List DefinitionTree) → Decides (each_after (definition_stands false) before ds) (OrderedAfter before ds)
ordered-decides before [] = always
ordered-decides before (d ∷ ds) = decides-and _ _ (type-decides before d) (ordered-decides (before ++ d ∷ []) ds)

closed-decides : (before ds : List DefinitionTree) → Decides (each_after (definition_stands true) before ds) (ClosedAfter before ds)
closed-decides before [] = always
closed-decides before (d ∷ ds) = decides-and _ _ (all-decide before d) (closed-decides (before ++ d ∷ []) ds)

-- a closed document is ordered
definition-ordered : (before : List DefinitionTree) (d : DefinitionTree) → AllNamesStand before d → DefinitionStands before d
definition-ordered before (typename_of n t docs) s = s
definition-ordered before (module_of m) s = tt
definition-ordered before (constant_of c) s = tt

ordered-after : (before rest : List DefinitionTree) → ClosedAfter before rest → OrderedAfter before rest
ordered-after before [] s = tt
ordered-after before (d ∷ ds) s = (definition-ordered before d s.0, ordered-after (before ++ d ∷ []) ds s.1)

pub yes-ordered : (ds : List DefinitionTree) (b : Bool) → b ≡ each_after (definition_stands false) [] ds → b ≡ true → IsOrdered ds
yes-ordered ds b e h = (ordered-decides [] ds).0 (sym e ∙ h)

pub ordered-yes : (ds : List DefinitionTree) (b : Bool) → b ≡ each_after (definition_stands false) [] ds → IsOrdered ds → b ≡ true
ordered-yes ds b e s = e ∙ (ordered-decides [] ds).1 s

pub yes-closed : (ds : List DefinitionTree) (b : Bool) → b ≡ each_after (definition_stands true) [] ds → b ≡ true → IsClosed ds
yes-closed ds b e h = (closed-decides [] ds).0 (sym e ∙ h)

pub closed-yes : (ds : List DefinitionTree) (b : Bool) → b ≡ each_after (definition_stands true) [] ds → IsClosed ds → b ≡ true
closed-yes ds b e s = e ∙ (closed-decides [] ds).1 s

pub closed-is-ordered : (ds : List DefinitionTree) (b : Bool) → b ≡ each_after (definition_stands true) [] ds → b ≡ true → IsOrdered ds
closed-is-ordered ds b e h = ordered-after [] ds (yes-closed ds b e h)

pub ruleset order_rules = (yes-ordered, ordered-yes, yes-closed, closed-yes, closed-is-ordered)

-- ---- each definition with those before it

module _ (test : List DefinitionTree → DefinitionTree → Bool) where
  abbrev pub EachFrom : List Definition → ℕ → Type 0
  EachFrom ds i = each_after test (map definition_tree (take i ds)) (map definition_tree (drop i ds)) ≡ each_after test [] (map definition_tree ds)

  step : (ds : List Definition) (i : ℕ) (d : Definition) → i < length ds → d ≡ get_or ds i d
      → each_after test (map definition_tree (take i ds)) (map definition_tree (drop i ds))
      ≡ test (map definition_tree (take i ds)) (definition_tree d) && each_after test (map definition_tree (take (i + 1) ds)) (map definition_tree (drop (i + 1) ds))
  step ds i d l p =
      rw (take_more ds i d l, drop_more ds i d l, ← p, map-append definition_tree (take i ds) (d ∷ [])) refl

  pub each-refused : (ds : List Definition) (i : ℕ) (d : Definition) → i < length ds → d ≡ get_or ds i d → EachFrom ds i
      → test (map definition_tree (take i ds)) (definition_tree d) ≡ false → each_after test [] (map definition_tree ds) ≡ false
  each-refused ds i d l p h e = sym h ∙ step ds i d l p ∙ ap (λ b. b && each_after test (map definition_tree (take (i + 1) ds)) (map definition_tree (drop (i + 1) ds))) e

  pub each-passed : (ds : List Definition) (i : ℕ) (d : Definition) → i < length ds → d ≡ get_or ds i d → EachFrom ds i
      → test (map definition_tree (take i ds)) (definition_tree d) ≡ true → EachFrom ds (i + 1)
  each-passed ds i d l p h e =
      ap (λ b. b && each_after test (map definition_tree (take (i + 1) ds)) (map definition_tree (drop (i + 1) ds))) (sym e) ∙ sym (step ds i d l p) ∙ h

  pub each-ended : (ds : List Definition) (i : ℕ) → length ds ≤ i → EachFrom ds i → each_after test [] (map definition_tree ds) ≡ true
  each-ended ds i l h = sym h ∙ ap (λ k. each_after test (map definition_tree (take i ds)) (map definition_tree k)) (drop_all i ds l)

pub ruleset each_rules = (each-refused, each-passed, each-ended)
