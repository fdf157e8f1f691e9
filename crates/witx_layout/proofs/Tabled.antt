-- A table of the typenames that a loop has passed knows the type of the next one, since the document is ordered; and
-- what the loop has made, with what the definitions left give, is what it makes in all.
use Rattle.std.specs.Prelude.{◌≡◌, ℕ, ◌+◌, ◌≤◌, ◌<◌, List, [], ◌∷◌, ◌++◌, Bool, true, false, cond, length, take, drop, map, option_map, Option, Some, None}
use Rattle.std.proofs.Common.{arith, get_or, refl, sym, ap, ◌∙◌, subst, inl, inr, append_assoc, append-nil}
use Rattle.std.specs.List.{AllByRecursion, IsDistinct}
use Rattle.std.specs.Map.{keys_of}
use Rattle.std.specs.Option.{option_or, option_and_then}
use Rattle.std.proofs.lemmas.List.{drop_more, drop_all, take_more, map-append}
use Rattle.std.proofs.lemmas.List.Elements.{filter_map-append}
use Rattle.witx_base.specs.Texts.{same_text}
use Rattle.witx_base.specs.Found.{found}
use Rattle.witx_base.specs.SameBytes.{bytes-self, false-true}
use Rattle.witx_ast.specs.Tree.{Tree, Fields, Arms, behind}
use Rattle.witx_ast.specs.Plain.{Plain, plain}
use Rattle.witx_ast.specs.Entries.{by_name}
use Rattle.witx_ast.specs.Definitions.{DefinitionTree, typename_of, module_of, constant_of, definition_tree, introduced, as_typename, typename_called, ModuleTree}
use Rattle.witx_ast.specs.Ordered.{NamesStand, FieldNamesStand, ArmNamesStand, DefinitionStands, OrderedAfter, IsOrdered}
use Rattle.witx_ast.proofs.EntryLaws.{is_key, found-more, names-more, names-same, key-decides, not-true}
use Rattle.witx_ast.proofs.TreeKinds.{plain-behind}
use Rattle.witx_ast.specs.declared.definition.Constant.{Constant}
use Rattle.witx_ast.specs.declared.definition.Definition.{Definition}
use Rattle.witx_layout.specs.declared.layout.SizeAlign.{SizeAlign}
use Rattle.witx_layout.specs.declared.table.LayoutsError.{LayoutsError}
use Rattle.witx_layout.specs.declared.table.LayoutsError.TheVariants as layouts_error
use Rattle.witx_layout.specs.Nodes.{definition_nodes, typename_node_count, one_typename, typename_count}
use Rattle.witx_layout.specs.Layouts.{plain_layout, layouts_in, all_layouts, large_at, first_large_from, TooLargeAt}
use Rattle.witx_layout.specs.LayoutsText.{part_lines}
use Rattle.witx_layout.specs.Known.{is_flat, Tells, Knows, KnowsFields, KnowsArms, KnowsDefinition, HasLines, DefinitionHasLines, IsKept, IsEntered, IsLined}

-- what a table has at a name, where a typename of that name may stand: without one it has nothing
abbrev pub HasOf : {V : Type 0} → (Option V → Plain → Type 0) → Option V → Option Tree → Type 0
HasOf Has entry None = entry ≡ None
HasOf Has entry (Some t) = Has entry (plain t)

-- the table has what it should of each typename so far, and nothing else
unfoldable pub KeptBy : {V : Type 0} → (Option V → Plain → Type 0) → List (List ℕ × V) → List DefinitionTree → Type 0
KeptBy Has table before = (q : List ℕ) → HasOf Has (found table q) (typename_called before q)

-- of layouts, and of lines
abbrev pub Tabled : List (List ℕ × SizeAlign) → List DefinitionTree → Type 0
Tabled = KeptBy Tells

abbrev pub TellsLines : Option (List ℕ) → Plain → Type 0
TellsLines entry t = entry ≡ Some (part_lines t)

abbrev pub Lined : List (List ℕ × List ℕ) → List DefinitionTree → Type 0
Lined = KeptBy TellsLines

pub nothing-kept : {V : Type 0} (Has : Option V → Plain → Type 0) → KeptBy Has [] []
unfolding KeptBy
nothing-kept Has q = refl

pub nothing-tabled : Tabled [] []
nothing-tabled = nothing-kept Tells

pub nothing-lined : Lined [] []
nothing-lined = nothing-kept TellsLines

-- types that are equal behind their names have one plain tree
behind-same : (u t : Tree) → behind u ≡ behind t → plain u ≡ plain t
behind-same u t b = sym (plain-behind u) ∙ ap plain b ∙ plain-behind t

-- what is kept of a name that stands before
name-kept : {V : Type 0} (Has : Option V → Plain → Type 0) (entry : Option V) (o : Option Tree) (u t : Tree)
    → HasOf Has entry o → o ≡ Some u → behind u ≡ behind t → Has entry (plain t)
name-kept Has entry o u t h e b = subst (Has entry) (behind-same u t b) (subst (HasOf Has entry) e h)

lined-name : (lines : List (List ℕ × List ℕ)) (before : List DefinitionTree) → Lined lines before → (t : Tree) → NamesStand before t → HasLines lines t
unfolding KeptBy
lined-name lines before h (Tree.named n t d) s = name-kept TellsLines (found lines n) (typename_called before n) s.0 t (h n) s.1 s.2
lined-name lines before h _ s = tt

definition-lined : (lines : List (List ℕ × List ℕ)) (before : List DefinitionTree) → Lined lines before → (d : DefinitionTree) → DefinitionStands before d → DefinitionHasLines lines d
definition-lined lines before h (typename_of n t docs) s = lined-name lines before h t s
definition-lined lines before h (module_of m) s = tt
definition-lined lines before h (constant_of c) s = tt

-- the table tells the layout of each typename that stands before
abbrev pub HasAll : List (List ℕ × SizeAlign) → List DefinitionTree → Type 0
HasAll table before = (name : List ℕ) → (u : Tree) → typename_called before name ≡ Some u → Tells (found table name) (plain u)

behind-told : (entry : Option SizeAlign) (u t : Tree) → behind u ≡ behind t → Tells entry (plain u) → Tells entry (plain t)
behind-told entry u t b h = subst (Tells entry) (behind-same u t b) h

pub has-all : (table : List (List ℕ × SizeAlign)) (ds : List DefinitionTree) → Tabled table ds → HasAll table ds
unfolding KeptBy
has-all table ds h n u c = subst (HasOf Tells (found table n)) c (h n)

mutual
  pub type-known : (table : List (List ℕ × SizeAlign)) (before : List DefinitionTree) → HasAll table before → (t : Tree) → NamesStand before t → Knows table t
  type-known table before h (Tree.named n t d) s = behind-told (found table n) s.0 t s.2 (h n s.0 s.1)
  type-known table before h (Tree.builtin b) s = tt
  type-known table before h Tree.handle s = tt
  type-known table before h (Tree.list_of t) s = tt
  type-known table before h (Tree.pointer_to t) s = tt
  type-known table before h (Tree.const_pointer_to t) s = tt
  type-known table before h (Tree.record_of k ms) s = fields-known table before h ms s
  type-known table before h (Tree.variant_of r cs) s = arms-known table before h cs s

  fields-known : (table : List (List ℕ × SizeAlign)) (before : List DefinitionTree) → HasAll table before → (ms : Fields) → FieldNamesStand before ms → KnowsFields table ms
  fields-known table before h Fields.no_fields s = tt
  fields-known table before h (Fields.field n t d ms) s = (type-known table before h t s.0, fields-known table before h ms s.1)

  arms-known : (table : List (List ℕ × SizeAlign)) (before : List DefinitionTree) → HasAll table before → (cs : Arms) → ArmNamesStand before cs → KnowsArms table cs
  arms-known table before h Arms.no_arms s = tt
  arms-known table before h (Arms.bare n d cs) s = arms-known table before h cs s
  arms-known table before h (Arms.carries n t d cs) s = (type-known table before h t s.0, arms-known table before h cs s.1)

definition-known : (table : List (List ℕ × SizeAlign)) (before : List DefinitionTree) → Tabled table before → (d : DefinitionTree) → DefinitionStands before d → KnowsDefinition table d
definition-known table before h (typename_of n t docs) s = type-known table before (has-all table before h) t s
definition-known table before h (module_of m) s = tt
definition-known table before h (constant_of c) s = tt

-- a name that stands later stands nowhere before
all-at : {T : Type 0} (P : List ℕ → Type 0) (es fs : List (List ℕ × T)) (n : List ℕ) (t : T) → AllByRecursion P (keys_of (es ++ (n, t) ∷ fs)) → P n
all-at P [] fs n t h = h.0
all-at P (e ∷ es) fs n t h = all-at P es fs n t h.1

unlike-key : (a b : List ℕ) → same_text a b ≡ false → is_key b a ≡ false
unfolding same_text
unlike-key a b h = not-true (is_key b a) (λ e. false-true (sym h ∙ ap (same_text a) ((key-decides b a).0 e) ∙ bytes-self a))

new-name : {T : Type 0} (es fs : List (List ℕ × T)) (n : List ℕ) (t : T) → IsDistinct same_text (keys_of (es ++ (n, t) ∷ fs)) → found es n ≡ None
unfolding IsDistinct
new-name [] fs n t h = refl
new-name (e ∷ es) fs n t h =
    rw (unlike-key e.0 n (all-at (λ y. same_text e.0 y ≡ false) es fs n t h.0)) (new-name es fs n t h.1)

-- by the definitions
pub names-append : (before rest : List DefinitionTree) → by_name introduced (before ++ rest) ≡ by_name introduced before ++ by_name introduced rest
names-append before rest = filter_map-append {Y = List ℕ × DefinitionTree} (λ (u : DefinitionTree). option_map (λ (m : List ℕ). (m, u)) (introduced u)) before rest

new-typename : (before rest : List DefinitionTree) (n : List ℕ) (t : Tree) (docs : List ℕ)
    → IsDistinct same_text (keys_of (by_name introduced (before ++ typename_of n t docs ∷ rest))) → found (by_name introduced before) n ≡ None
new-typename before rest n t docs h =
    new-name (by_name introduced before) (by_name introduced rest) n (typename_of n t docs) (rw (names-append before (typename_of n t docs ∷ rest)) at h)

new-module : (before rest : List DefinitionTree) (m : ModuleTree) → IsDistinct same_text (keys_of (by_name introduced (before ++ module_of m ∷ rest)))
    → found (by_name introduced before) m.name ≡ None
new-module before rest m h =
    new-name (by_name introduced before) (by_name introduced rest) m.name (module_of m) (rw (names-append before (module_of m ∷ rest)) at h)

-- one more typename, which is entered
enters : {V : Type 0} (Has : Option V → Plain → Type 0) (b : Bool) (d : DefinitionTree) (v : Tree) (l : V) (o : Option DefinitionTree) (s : Option V)
    → as_typename d ≡ Some v → Has (Some l) (plain v) → HasOf Has s (option_and_then as_typename o)
    → HasOf Has (cond b (Some l) s) (option_and_then as_typename (cond b (Some d) o))
enters Has true d v l o s e k h = subst (HasOf Has (Some l)) (sym e) k
enters Has false d v l o s e k h = h

-- one that is not, since nothing is to be known of it
skips : {V : Type 0} (Has : Option V → Plain → Type 0) (b : Bool) (d : DefinitionTree) (v : Tree) (o : Option DefinitionTree) (s : Option V)
    → as_typename d ≡ Some v → (b ≡ true → s ≡ None) → Has None (plain v) → HasOf Has s (option_and_then as_typename o)
    → HasOf Has s (option_and_then as_typename (cond b (Some d) o))
skips Has true d v o s e k n h = subst (HasOf Has s) (sym e) (subst (λ r. Has r (plain v)) (sym (k refl)) n)
skips Has false d v o s e k n h = h

-- a module hides nothing
hides : {V : Type 0} (Has : Option V → Plain → Type 0) (b : Bool) (d : DefinitionTree) (o : Option DefinitionTree) (s : Option V) → as_typename d ≡ None
    → (b ≡ true → s ≡ None) → HasOf Has s (option_and_then as_typename o)
    → HasOf Has s (option_and_then as_typename (cond b (Some d) o))
hides Has true d o s e k h = subst (HasOf Has s) (sym e) (k refl)
hides Has false d o s e k h = h

found-next : (before : List DefinitionTree) (d : DefinitionTree) (n : List ℕ) → introduced d ≡ Some n → found (by_name introduced before) n ≡ None → (q : List ℕ)
    → found (by_name introduced (before ++ d ∷ [])) q ≡ cond (is_key n q) (Some d) (found (by_name introduced before) q)
found-next before d n e h q = ap (λ es. found es q) (names-more introduced before d n e) ∙ found-more (by_name introduced before) n d h q

lacks : {V : Type 0} (Has : Option V → Plain → Type 0) (table : List (List ℕ × V)) (before : List DefinitionTree) (n q : List ℕ) → KeptBy Has table before
    → found (by_name introduced before) n ≡ None → is_key n q ≡ true → found table q ≡ None
unfolding KeptBy
lacks Has table before n q h o k =
    ap (found table) (sym ((key-decides n q).0 k)) ∙ subst (λ x. HasOf Has (found table n) (option_and_then as_typename x)) o (h n)

-- what the table has at a name, before and behind one more definition
entry-next : {V : Type 0} (Has : Option V → Plain → Type 0) (entry : Option V) (before : List DefinitionTree) (d : DefinitionTree) (n q : List ℕ)
    → introduced d ≡ Some n → found (by_name introduced before) n ≡ None
    → HasOf Has entry (option_and_then as_typename (cond (is_key n q) (Some d) (found (by_name introduced before) q)))
    → HasOf Has entry (typename_called (before ++ d ∷ []) q)
entry-next Has entry before d n q e o h = subst (λ x. HasOf Has entry (option_and_then as_typename x)) (sym (found-next before d n e o q)) h

module-next : {V : Type 0} (Has : Option V → Plain → Type 0) (table : List (List ℕ × V)) (before rest : List DefinitionTree) (m : ModuleTree)
    → IsDistinct same_text (keys_of (by_name introduced (before ++ module_of m ∷ rest))) → KeptBy Has table before → KeptBy Has table (before ++ module_of m ∷ [])
unfolding KeptBy
module-next Has table before rest m u h q =
    entry-next Has (found table q) before (module_of m) m.name q refl (new-module before rest m u)
    (hides Has (is_key m.name q) (module_of m) (found (by_name introduced before) q) (found table q) refl (lacks Has table before m.name q h (new-module before rest m u)) (h q))

constant-next : {V : Type 0} (Has : Option V → Plain → Type 0) (table : List (List ℕ × V)) (before : List DefinitionTree) (c : Constant)
    → KeptBy Has table before → KeptBy Has table (before ++ constant_of c ∷ [])
unfolding KeptBy
constant-next Has table before c h q =
    subst (λ es. HasOf Has (found table q) (option_and_then as_typename (found es q))) (sym (names-same introduced before (constant_of c) refl)) (h q)

kept-next : {V : Type 0} (Has : Option V → Plain → Type 0) (of : Plain → V) → ((t : Plain) → Has (Some (of t)) t)
    → (table new : List (List ℕ × V)) (before rest : List DefinitionTree) (d : DefinitionTree)
    → IsDistinct same_text (keys_of (by_name introduced (before ++ d ∷ rest))) → KeptBy Has table before → IsKept of table d new → KeptBy Has new (before ++ d ∷ [])
unfolding KeptBy
kept-next Has of told table new before rest (typename_of n t docs) u h k q =
    entry-next Has (found new q) before (typename_of n t docs) n q refl (new-typename before rest n t docs u)
    (subst (λ r. HasOf Has r (option_and_then as_typename (cond (is_key n q) (Some (typename_of n t docs)) (found (by_name introduced before) q)))) (sym (k q))
    (enters Has (is_key n q) (typename_of n t docs) (Tree.named n t docs) (of (plain t)) (found (by_name introduced before) q) (found table q) refl (told (plain t)) (h q)))
kept-next Has of told table new before rest (module_of m) u h k q = (subst (λ x. KeptBy Has x (before ++ module_of m ∷ [])) (sym k) (module-next Has table before rest m u h)) q
kept-next Has of told table new before rest (constant_of c) u h k q = (subst (λ x. KeptBy Has x (before ++ constant_of c ∷ [])) (sym k) (constant-next Has table before c h)) q

flat-next : (table : List (List ℕ × SizeAlign)) (before rest : List DefinitionTree) (n : List ℕ) (t : Tree) (docs : List ℕ)
    → IsDistinct same_text (keys_of (by_name introduced (before ++ typename_of n t docs ∷ rest))) → Tabled table before → is_flat (plain t) ≡ true
    → Tabled table (before ++ typename_of n t docs ∷ [])
unfolding KeptBy
flat-next table before rest n t docs u h f q =
    let new = new-typename before rest n t docs u in
    entry-next Tells (found table q) before (typename_of n t docs) n q refl new
    (skips Tells (is_key n q) (typename_of n t docs) (Tree.named n t docs) (found (by_name introduced before) q) (found table q) refl (lacks Tells table before n q h new) f (h q))

entered-next : (table new : List (List ℕ × SizeAlign)) (before rest : List DefinitionTree) (d : DefinitionTree)
    → IsDistinct same_text (keys_of (by_name introduced (before ++ d ∷ rest))) → Tabled table before → IsEntered table d new → Tabled new (before ++ d ∷ [])
entered-next table new before rest (typename_of n t docs) u h (inl k) = kept-next Tells plain_layout (λ t. refl) table new before rest (typename_of n t docs) u h k
entered-next table new before rest (typename_of n t docs) u h (inr k) =
    subst (λ x. Tabled x (before ++ typename_of n t docs ∷ [])) (sym k.1) (flat-next table before rest n t docs u h k.0)
entered-next table new before rest (module_of m) u h k = subst (λ x. Tabled x (before ++ module_of m ∷ [])) (sym k) (module-next Tells table before rest m u h)
entered-next table new before rest (constant_of c) u h k = subst (λ x. Tabled x (before ++ constant_of c ∷ [])) (sym k) (constant-next Tells table before c h)

-- what is still to come is ordered, and its names are new
unfoldable pub Ahead : List DefinitionTree → List DefinitionTree → Type 0
Ahead before rest = OrderedAfter before rest × IsDistinct same_text (keys_of (by_name introduced (before ++ rest)))

ahead-next : (before rest : List DefinitionTree) (d : DefinitionTree) → Ahead before (d ∷ rest) → Ahead (before ++ d ∷ []) rest
unfolding Ahead
ahead-next before rest d h = (h.0.1, rw (append_assoc before (d ∷ []) rest) h.1)

abbrev pub passed : List Definition → ℕ → List DefinitionTree
passed xs i = map definition_tree (take i xs)

abbrev pub left : List Definition → ℕ → List DefinitionTree
left xs i = map definition_tree (drop i xs)

left-drop : (xs : List Definition) (i : ℕ) (d : Definition) → i < length xs → d ≡ get_or xs i d → left xs i ≡ definition_tree d ∷ left xs (i + 1)
left-drop xs i d l p = ap (map definition_tree) (drop_more xs i d l ∙ ap (λ y. y ∷ drop (i + 1) xs) (sym p))

passed-more : (xs : List Definition) (i : ℕ) (d : Definition) → i < length xs → d ≡ get_or xs i d → passed xs (i + 1) ≡ passed xs i ++ definition_tree d ∷ []
passed-more xs i d l p = ap (map definition_tree) (take_more xs i d l ∙ ap (λ y. take i xs ++ y ∷ []) (sym p)) ∙ map-append definition_tree (take i xs) (d ∷ [])

here : (xs : List Definition) (i : ℕ) (d : Definition) → i < length xs → d ≡ get_or xs i d → Ahead (passed xs i) (left xs i)
    → Ahead (passed xs i) (definition_tree d ∷ left xs (i + 1))
here xs i d l p h = subst (Ahead (passed xs i)) (left-drop xs i d l p) h

pub ahead-start : (xs : List Definition) → IsOrdered (map definition_tree xs) → IsDistinct same_text (keys_of (by_name introduced (map definition_tree xs)))
    → Ahead (passed xs 0) (left xs 0)
unfolding Ahead
ahead-start xs o u = (o, u)

pub tabled-start : (xs : List Definition) → Tabled [] (passed xs 0)
tabled-start xs = nothing-tabled

pub next-ahead : (xs : List Definition) (i : ℕ) (d : Definition) → i < length xs → d ≡ get_or xs i d → Ahead (passed xs i) (left xs i) → Ahead (passed xs (i + 1)) (left xs (i + 1))
next-ahead xs i d l p h = subst (λ b. Ahead b (left xs (i + 1))) (sym (passed-more xs i d l p)) (ahead-next (passed xs i) (left xs (i + 1)) (definition_tree d) (here xs i d l p h))

pub next-known : (table : List (List ℕ × SizeAlign)) (xs : List Definition) (i : ℕ) (d : Definition) → i < length xs → d ≡ get_or xs i d
    → Ahead (passed xs i) (left xs i) → Tabled table (passed xs i) → KnowsDefinition table (definition_tree d)
unfolding Ahead
next-known table xs i d l p h k = definition-known table (passed xs i) k (definition_tree d) (here xs i d l p h).0.0

pub next-tabled : (table new : List (List ℕ × SizeAlign)) (xs : List Definition) (i : ℕ) (d : Definition) → i < length xs → d ≡ get_or xs i d
    → Ahead (passed xs i) (left xs i) → Tabled table (passed xs i) → IsEntered table (definition_tree d) new → Tabled new (passed xs (i + 1))
unfolding Ahead
next-tabled table new xs i d l p h k e =
    subst (Tabled new) (sym (passed-more xs i d l p)) (entered-next table new (passed xs i) (left xs (i + 1)) (definition_tree d) (here xs i d l p h).1 k e)

pub next-lined : (lines new : List (List ℕ × List ℕ)) (xs : List Definition) (i : ℕ) (d : Definition) → i < length xs → d ≡ get_or xs i d
    → Ahead (passed xs i) (left xs i) → Lined lines (passed xs i) → IsLined lines (definition_tree d) new → Lined new (passed xs (i + 1))
unfolding Ahead
next-lined lines new xs i d l p h k e =
    subst (Lined new) (sym (passed-more xs i d l p)) (kept-next TellsLines part_lines (λ t. refl) lines new (passed xs i) (left xs (i + 1)) (definition_tree d) (here xs i d l p h).1 k e)

pub next-has-lines : (lines : List (List ℕ × List ℕ)) (xs : List Definition) (i : ℕ) (d : Definition) → i < length xs → d ≡ get_or xs i d
    → Ahead (passed xs i) (left xs i) → Lined lines (passed xs i) → DefinitionHasLines lines (definition_tree d)
unfolding Ahead
next-has-lines lines xs i d l p h k = definition-lined lines (passed xs i) k (definition_tree d) (here xs i d l p h).0.0

-- layouts
abbrev pub left_layouts : List Definition → ℕ → List SizeAlign
left_layouts xs i = all_layouts (left xs i)

abbrev pub left_large : List Definition → ℕ → Option ℕ
left_large xs i = first_large_from i (left xs i)

pub layouts-more : (xs : List Definition) (i : ℕ) (d : Definition) (done now all : List SizeAlign) → i < length xs → d ≡ get_or xs i d
    → now ≡ done ++ layouts_in (definition_tree d) → done ++ left_layouts xs i ≡ all → now ++ left_layouts xs (i + 1) ≡ all
layouts-more xs i d done now all l p w e =
    ap (λ s. s ++ left_layouts xs (i + 1)) w ∙ append_assoc done (layouts_in (definition_tree d)) (left_layouts xs (i + 1))
    ∙ (ap (λ ys. done ++ all_layouts ys) (sym (left-drop xs i d l p)) ∙ e)

pub layouts-end : (xs : List Definition) (i : ℕ) (done all : List SizeAlign) → length xs ≤ i → done ++ left_layouts xs i ≡ all → done ≡ all
layouts-end xs i done all l e = sym (append-nil done) ∙ ap (λ ys. done ++ all_layouts (map definition_tree ys)) (sym (drop_all i xs l)) ∙ e

large-drop : (xs : List Definition) (i : ℕ) (d : Definition) → i < length xs → d ≡ get_or xs i d
    → left_large xs i ≡ option_or (large_at i (definition_tree d)) (left_large xs (i + 1))
large-drop xs i d l p = ap (first_large_from i) (left-drop xs i d l p)

pub sizes-more : (xs : List Definition) (i : ℕ) (d : Definition) (all : Option ℕ) → i < length xs → d ≡ get_or xs i d
    → large_at i (definition_tree d) ≡ None → left_large xs i ≡ all → left_large xs (i + 1) ≡ all
sizes-more xs i d all l p h e = sym (large-drop xs i d l p ∙ ap (λ o. option_or o (left_large xs (i + 1))) h) ∙ e

pub sizes-end : (xs : List Definition) (i : ℕ) (all : Option ℕ) → length xs ≤ i → left_large xs i ≡ all → all ≡ None
sizes-end xs i all l e = sym e ∙ ap (λ ys. first_large_from i (map definition_tree ys)) (drop_all i xs l)

large-told : (o rest : Option ℕ) (e : LayoutsError) → TooLargeAt o e → TooLargeAt (option_or o rest) e
large-told (Some n) rest e h = h
large-told None rest (layouts_error.TooLarge n) h = cc
large-told None rest layouts_error.OutOfMemory h = tt

pub too-large : (xs : List Definition) (i : ℕ) (d : Definition) (all : Option ℕ) (e : LayoutsError) → i < length xs → d ≡ get_or xs i d
    → TooLargeAt (large_at i (definition_tree d)) e → left_large xs i ≡ all → TooLargeAt all e
too-large xs i d all e l p h q =
    subst (λ o. TooLargeAt o e) (sym (large-drop xs i d l p) ∙ q) (large-told (large_at i (definition_tree d)) (left_large xs (i + 1)) e h)

-- steps
pub next-most : (xs : List Definition) (i : ℕ) (d : Definition) (s r n : ℕ) → i < length xs → d ≡ get_or xs i d
    → s + typename_node_count (left xs i) ≤ n → r ≤ s + definition_nodes (definition_tree d) → r + typename_node_count (left xs (i + 1)) ≤ n
next-most xs i d s r n l p h k = omega (arith, h, k, ap typename_node_count (left-drop xs i d l p))

pub within-most : (xs : List Definition) (i : ℕ) (d : Definition) (s r n : ℕ) → i < length xs → d ≡ get_or xs i d
    → s + typename_node_count (left xs i) ≤ n → r ≤ s + definition_nodes (definition_tree d) → r ≤ n
within-most xs i d s r n l p h k = omega (arith, next-most xs i d s r n l p h k)

pub next-least : (xs : List Definition) (i : ℕ) (d : Definition) (s r n : ℕ) → i < length xs → d ≡ get_or xs i d
    → n ≤ s + typename_count (left xs i) → s + one_typename (definition_tree d) ≤ r → n ≤ r + typename_count (left xs (i + 1))
next-least xs i d s r n l p h k = omega (arith, h, k, ap typename_count (left-drop xs i d l p))

pub all-least : (xs : List Definition) (i s n : ℕ) → length xs ≤ i → n ≤ s + typename_count (left xs i) → n ≤ s
all-least xs i s n l h = omega (arith, h, ap (λ ys. typename_count (map definition_tree ys)) (drop_all i xs l))

pub ruleset table_rules = (ahead-start, tabled-start, next-ahead, next-known, next-tabled, next-has-lines, next-lined, layouts-more, layouts-end, sizes-more, sizes-end, too-large, next-most, within-most, next-least, all-least)
