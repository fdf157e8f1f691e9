-- A plain document that declarations without a fault define can stand in the order in which it is printed, and can be written.
use Rattle.std.proofs.Common.{◌≡◌, ℕ, Bool, true, false, not, ◌||◌, cond, List, [], ◌∷◌, ◌++◌, map, filter, Option, Some, None, refl, sym, ap, ◌∙◌, subst}
use Rattle.std.specs.Prelude.{option_map}
use Rattle.std.specs.Map.{keys_of}
use Rattle.std.specs.Option.{is_some}
use Rattle.std.specs.Ordering.{is_eq, nat_cmp}
use Rattle.std.specs.Cmp.Lexicographic.{slice_cmp}
use Rattle.std.proofs.lemmas.List.{append_assoc, append-nil}
use Rattle.std.proofs.lemmas.Map.Made.{is_some-lookup}
use Rattle.witx_base.specs.Paths.{Path}
use Rattle.witx_base.specs.Found.{found}
use Rattle.witx_files.specs.declared.location.Location.{Location}
use Rattle.witx_ast.specs.declared.types.IntRepr.{IntRepr}
use Rattle.witx_ast.specs.declared.types.RecordKind.{RecordKind}
use Rattle.witx_ast.specs.Words.{is_bool_arms}
use Rattle.witx_ast.specs.Tree as ast
use Rattle.witx_ast.specs.Tree.{Tree, Field, arm_list}
use Rattle.witx_ast.specs.Functions.{FunctionTree}
use Rattle.witx_ast.specs.Items.{ItemTree, import_of, func_of}
use Rattle.witx_ast.specs.Definitions.{DefinitionTree, ModuleTree, typename_of, module_of, constant_of}
use Rattle.witx_scope.specs.Modules.{item_called}
use Rattle.witx_render.specs.TypeExpressions.{have_no_payload}
use Rattle.witx_render.specs.ModuleExpressions.{items_in_order, is_import, is_func}
use Rattle.witx_render.specs.DocumentTexts.{is_typename, is_module, typenames_first}
use Rattle.witx_read_back.specs.Emptied.{emptied}
use Rattle.witx_read_back.proofs.Stands.{Denotes, Stands, FieldsStand, ArmsStand, StandsRecord, StandsVariant, ParamsStand, FuncStands, ItemStands, ItemsStand, Known, denoted, learned, DefinitionStands, DefinitionsStand}
use Rattle.witx_read_back.specs.Distinct.{any_same, AllNew}
use Rattle.witx_read_back.proofs.Writable.{IsWritable, ItemWritable, ItemsWritable, DefinitionWritable, DocumentWritable}
use Rattle.std.specs.Cmp.Lexicographic.{texts_ties}
use Rattle.std.proofs.lemmas.Cmp.{nat_list_eq_equiv}
use Rattle.witx_read_back.proofs.Orders.{or_else, same, same_is, same_sym, NotIn, AllDiffer, or_parts, or_none, not_in_both, new_differ, differ_all_new, differ_split}

-- ---- what stands under some meaning of names stands under each that says as much

abbrev pub SaysMore : Denotes → Denotes → Type 0
SaysMore D E = (n : List ℕ) (t : Tree) → D n t → E n t

more_record : (kind : RecordKind) (named : Bool) (ms : ast.Fields) (S T : Type 0) → (S → T) → StandsRecord kind named ms S → StandsRecord kind named ms T
more_record RecordKind.Tuple named ms S T f st = (st.0, f st.1)
more_record (RecordKind.Bitflags r) named ms S T f st = st
more_record RecordKind.Other named ms S T f st = (st.0, st.1, f st.2)

more_variant : (is_bool bare named : Bool) (r : IntRepr) (cs : ast.Arms) (S T : Type 0) → (S → T) → StandsVariant is_bool bare named r cs S → StandsVariant is_bool bare named r cs T
more_variant true bare named r cs S T f st = st
more_variant false true named r cs S T f st = st
more_variant false false named r cs S T f st = f st

module _ (D E : Denotes) (g : SaysMore D E) where
  mutual
    more_type : (named : Bool) (t : Tree) → Stands D named t → Stands E named t
    more_type named (Tree.named n t d) st = g n (emptied (Tree.named n t d)) st
    more_type named (Tree.builtin b) st = tt
    more_type named Tree.handle st = st
    more_type named (Tree.list_of t) st = more_type false t st
    more_type named (Tree.pointer_to t) st = more_type false t st
    more_type named (Tree.const_pointer_to t) st = more_type false t st
    more_type named (Tree.record_of kind ms) st = more_record kind named ms (FieldsStand D ms) (FieldsStand E ms) (λ x. more_fields ms x) st
    more_type named (Tree.variant_of r cs) st = more_variant (is_bool_arms (arm_list cs)) (have_no_payload cs) named r cs (ArmsStand D cs) (ArmsStand E cs) (λ x. more_arms cs x) st

    more_fields : (ms : ast.Fields) → FieldsStand D ms → FieldsStand E ms
    more_fields ast.no_fields st = tt
    more_fields (ast.field n t d ms) st = (more_type false t st.0, more_fields ms st.1)

    more_arms : (cs : ast.Arms) → ArmsStand D cs → ArmsStand E cs
    more_arms ast.no_arms st = tt
    more_arms (ast.bare n d cs) st = more_arms cs st
    more_arms (ast.carries n t d cs) st = (more_type false t st.0, more_arms cs st.1)

  more_params : (ps : List Field) → ParamsStand D ps → ParamsStand E ps
  more_params [] st = tt
  more_params (p ∷ ps) st = (more_type false p.tree st.0, more_params ps st.1)

  more_item : (i : ItemTree) → ItemStands D i → ItemStands E i
  more_item (import_of i) st = tt
  more_item (func_of f) st = record {
    params = more_params f.params st.params;
    results = more_params f.results st.results;
    param_names_new = st.param_names_new;
    result_names_new = st.result_names_new;
    permitted = st.permitted;
  }

  more_items : (is : List ItemTree) → ItemsStand D is → ItemsStand E is
  more_items [] st = tt
  more_items (i ∷ is) st = (more_item i st.0, more_items is st.1)

-- ---- items in the order in which they are printed

items_filter : (D : Denotes) (p : ItemTree → Bool) (is : List ItemTree) → ItemsStand D is → ItemsStand D (filter p is)
items_filter D p [] st = tt
items_filter D p (i ∷ is) st = kept (p i) (items_filter D p is st.1)
  where
    kept : (b : Bool) → ItemsStand D (filter p is) → ItemsStand D (cond b (i ∷ filter p is) (filter p is))
    kept true x = (st.0, x)
    kept false x = x

items_both : (D : Denotes) (xs ys : List ItemTree) → ItemsStand D xs → ItemsStand D ys → ItemsStand D (xs ++ ys)
items_both D [] ys a b = b
items_both D (x ∷ xs) ys a b = (a.0, items_both D xs ys a.1 b)

items_ordered : (D : Denotes) (is : List ItemTree) → ItemsStand D is → ItemsStand D (items_in_order is)
items_ordered D is st = items_both D (filter is_import is) (filter is_func is) (items_filter D is_import is st) (items_filter D is_func is st)

writable_filter : (p : ItemTree → Bool) (is : List ItemTree) → ItemsWritable is → ItemsWritable (filter p is)
writable_filter p [] st = tt
writable_filter p (i ∷ is) st = kept (p i) (writable_filter p is st.1)
  where
    kept : (b : Bool) → ItemsWritable (filter p is) → ItemsWritable (cond b (i ∷ filter p is) (filter p is))
    kept true x = (st.0, x)
    kept false x = x

writable_both : (xs ys : List ItemTree) → ItemsWritable xs → ItemsWritable ys → ItemsWritable (xs ++ ys)
writable_both [] ys a b = b
writable_both (x ∷ xs) ys a b = (a.0, writable_both xs ys a.1 b)

writable_ordered : (is : List ItemTree) → ItemsWritable is → ItemsWritable (items_in_order is)
writable_ordered is st = writable_both (filter is_import is) (filter is_func is) (writable_filter is_import is st) (writable_filter is_func is st)

names_ordered : (is : List ItemTree) → AllNew [] (map item_called is) → AllNew [] (map item_called (items_in_order is))
names_ordered is w = differ_all_new (map item_called (items_in_order is)) (differ_split item_called is_import is (new_differ [] (map item_called is) w))

-- ---- look-ups

or_cond : {A : Type 0} (b : Bool) (x : A) (o p q : Option A) → o ≡ or_else p q → cond b (Some x) o ≡ or_else (cond b (Some x) p) q
or_cond true x o p q e = refl
or_cond false x o p q e = e

pub found_both : (xs ys : Known) (n : List ℕ) → found (xs ++ ys) n ≡ or_else (found xs n) (found ys n)
found_both [] ys n = refl
found_both (x ∷ xs) ys n = or_cond (same n x.0) x.1 (found (xs ++ ys) n) (found xs n) (found ys n) (found_both xs ys n)

abbrev Entry : Type 0
Entry = List ℕ × Option Tree

abbrev pub one : List ℕ → Option Tree → Known
one n x = (n, x) ∷ []

left_none : {A : Type 0} (o p : Option A) → or_else o p ≡ None → o ≡ None
left_none None p e = refl
left_none (Some x) p e = e

both_none : {A : Type 0} (o p : Option A) → o ≡ None → p ≡ None → or_else o p ≡ None
both_none o p e f = ap (λ q. or_else q p) e ∙ f

some_left : {A : Type 0} (o p : Option A) (x : A) → o ≡ Some x → or_else o p ≡ Some x
some_left o p x e = ap (λ q. or_else q p) e

none_cond : {A : Type 0} (b : Bool) (x : A) → b ≡ false → cond b (Some x) None ≡ None
none_cond b x e = ap (λ c. cond c (Some x) None) e

no_some : {A : Type 0} (x : A) → Some x ≡ None → ⊥
no_some x e = cc

right_none : {A : Type 0} (o p : Option A) → or_else o p ≡ None → p ≡ None
right_none None p e = e
right_none (Some x) p e = absurd (no_some x e)

no_none : {A : Type 0} (x : A) → None ≡ Some x → ⊥
no_none x e = cc

none_is_some : (t : Tree) → Some None ≡ Some (Some t) → ⊥
none_is_some t e = cc

-- behind a module the same types are denoted
without_module : (o : Option (Option Tree)) (b : Bool) (t : Tree) → or_else o (cond b (Some None) None) ≡ Some (Some t) → o ≡ Some (Some t)
without_module None true t e = absurd (none_is_some t e)
without_module None false t e = absurd (no_none (Some t) e)
without_module (Some x) b t e = e

-- ---- what declarations give, in their order

abbrev pub GivenDefinition : Known → DefinitionTree → Type 0
GivenDefinition known (typename_of n t d) = (found known n ≡ None) × Stands (denoted known) true t × IsWritable t
GivenDefinition known (module_of m) = (found known m.name ≡ None) × AllNew [] (map item_called m.items) × ItemsStand (denoted known) m.items × ItemsWritable m.items
GivenDefinition known (constant_of c) = Unit {0}

abbrev pub AllGiven : Known → List DefinitionTree → Type 0
AllGiven known [] = Unit {0}
AllGiven known (d ∷ ds) = GivenDefinition known d × AllGiven (learned known d) ds

-- ---- typenames

abbrev pub type_entry : List ℕ → Tree → Option Tree
type_entry n t = Some (Tree.named n (emptied t) [])

abbrev type_known : List DefinitionTree → Known
type_known [] = []
type_known (typename_of n t d ∷ ds) = (n, type_entry n t) ∷ type_known ds
type_known (module_of m ∷ ds) = type_known ds
type_known (constant_of c ∷ ds) = type_known ds

more_known : (known out : Known) (n : List ℕ) (x : Option Tree) → SaysMore (denoted known) (denoted out) → ((k : List ℕ) → found known k ≡ None → found out k ≡ None)
    → SaysMore (denoted (known ++ one n x)) (denoted (out ++ one n x))
more_known known out n x g h k t e =
    found_both out (one n x) k ∙ by (found known k) refl (sym (found_both known (one n x) k) ∙ e)
  where
    by : (o : Option (Option Tree)) → found known k ≡ o → or_else o (found (one n x) k) ≡ Some (Some t) → or_else (found out k) (found (one n x) k) ≡ Some (Some t)
    by None a b = ap (λ q. or_else q (found (one n x) k)) (h k a) ∙ b
    by (Some y) a b = some_left (found out k) (found (one n x) k) (Some t) (g k t (a ∙ b))

typenames_stand : (known out : Known) (ds rest : List DefinitionTree) → SaysMore (denoted known) (denoted out) → ((k : List ℕ) → found known k ≡ None → found out k ≡ None)
    → AllGiven known ds → DefinitionsStand (out ++ type_known ds) rest → DefinitionsStand out (filter is_typename ds ++ rest)
typenames_stand known out [] rest g h w r = subst (λ (l : Known). DefinitionsStand l rest) (append-nil out) r
typenames_stand known out (typename_of n t d ∷ ds) rest g h w r = (
  (h n w.0.0, more_type (denoted known) (denoted out) g true t w.0.1),
  typenames_stand (known ++ one n (type_entry n t)) (out ++ one n (type_entry n t)) ds rest (more_known known out n (type_entry n t) g h)
      (λ k e. found_both out (one n (type_entry n t)) k ∙ both_none (found out k) (found (one n (type_entry n t)) k)
      (h k (left_none (found known k) (found (one n (type_entry n t)) k) (sym (found_both known (one n (type_entry n t)) k) ∙ e)))
      (right_none (found known k) (found (one n (type_entry n t)) k) (sym (found_both known (one n (type_entry n t)) k) ∙ e)))
      w.1 (subst (λ (l : Known). DefinitionsStand l rest) (sym (append_assoc out (one n (type_entry n t)) (type_known ds))) r),
)
typenames_stand known out (module_of m ∷ ds) rest g h w r =
    typenames_stand (known ++ one m.name None) out ds rest
    (λ k t e. g k t (without_module (found known k) (same k m.name) t (sym (found_both known (one m.name None) k) ∙ e)))
    (λ k e. h k (left_none (found known k) (found (one m.name None) k) (sym (found_both known (one m.name None) k) ∙ e))) w.1 r
typenames_stand known out (constant_of c ∷ ds) rest g h w r = typenames_stand known out ds rest g h w.1 r

-- the names of each module's items differ
abbrev pub ItemsDiffer : DefinitionTree → Type 0
ItemsDiffer (typename_of n t d) = Unit {0}
ItemsDiffer (module_of m) = AllDiffer (map item_called m.items)
ItemsDiffer (constant_of c) = Unit {0}

abbrev pub AllItemsDiffer : List DefinitionTree → Type 0
AllItemsDiffer [] = Unit {0}
AllItemsDiffer (d ∷ ds) = ItemsDiffer d × AllItemsDiffer ds

-- ---- names of definitions

abbrev pub def_names : List DefinitionTree → List (List ℕ)
def_names [] = []
def_names (typename_of n t d ∷ ds) = n ∷ def_names ds
def_names (module_of m ∷ ds) = m.name ∷ def_names ds
def_names (constant_of c ∷ ds) = def_names ds

same_refl : (n : List ℕ) → same n n ≡ true
same_refl n = sym (texts_ties n n) ∙ nat_list_eq_equiv.refl n

one_holds : (n : List ℕ) (x : Option Tree) → found (one n x) n ≡ Some x
one_holds n x = ap (λ b. cond b (Some x) None) (same_refl n)

-- a name that is held isn't one that is not
apart : (es : Known) (s n : List ℕ) (x : Option Tree) → found es s ≡ Some x → found es n ≡ None → same s n ≡ false
apart es s n x e f = by (same s n) refl
  where
    by : (b : Bool) → same s n ≡ b → b ≡ false
    by true h = absurd (no_none x (sym f ∙ (ap (λ k. found es k) (sym (same_is s n h)) ∙ e)))
    by false h = refl

holds_on : (known : Known) (n s : List ℕ) (x y : Option Tree) → found known s ≡ Some x → found (known ++ one n y) s ≡ Some x
holds_on known n s x y e = found_both known (one n y) s ∙ some_left (found known s) (found (one n y) s) x e

holds_new : (known : Known) (n : List ℕ) (x : Option Tree) → found known n ≡ None → found (known ++ one n x) n ≡ Some x
holds_new known n x e = found_both known (one n x) n ∙ ap (λ o. or_else o (found (one n x) n)) e ∙ one_holds n x

avoid : (known : Known) (ds : List DefinitionTree) (s : List ℕ) (x : Option Tree) → AllGiven known ds → found known s ≡ Some x → NotIn s (def_names ds)
avoid known [] s x w e = refl
avoid known (typename_of n t d ∷ ds) s x w e = or_none (same s n) (any_same s (def_names ds)) (apart known s n x e w.0.0)
    (avoid (known ++ one n (type_entry n t)) ds s x w.1 (holds_on known n s x (type_entry n t) e))
avoid known (module_of m ∷ ds) s x w e = or_none (same s m.name) (any_same s (def_names ds)) (apart known s m.name x e w.0.0)
    (avoid (known ++ one m.name None) ds s x w.1 (holds_on known m.name s x None e))
avoid known (constant_of c ∷ ds) s x w e = avoid known ds s x w.1 e

pub given_differ : (known : Known) (ds : List DefinitionTree) → AllGiven known ds → AllDiffer (def_names ds)
given_differ known [] w = tt
given_differ known (typename_of n t d ∷ ds) w =
    (avoid (known ++ one n (type_entry n t)) ds n (type_entry n t) w.1 (holds_new known n (type_entry n t) w.0.0), given_differ (known ++ one n (type_entry n t)) ds w.1)
given_differ known (module_of m ∷ ds) w =
    (avoid (known ++ one m.name None) ds m.name None w.1 (holds_new known m.name None w.0.0), given_differ (known ++ one m.name None) ds w.1)
given_differ known (constant_of c ∷ ds) w = given_differ known ds w.1

-- ---- modules, behind all typenames

-- none of the names is held
abbrev Outside : Known → List DefinitionTree → Type 0
Outside es [] = Unit {0}
Outside es (typename_of n t d ∷ ds) = (found es n ≡ None) × Outside es ds
Outside es (module_of m ∷ ds) = (found es m.name ≡ None) × Outside es ds
Outside es (constant_of c ∷ ds) = Outside es ds

outside_nothing : (ds : List DefinitionTree) → Outside [] ds
outside_nothing [] = tt
outside_nothing (typename_of n t d ∷ ds) = (refl, outside_nothing ds)
outside_nothing (module_of m ∷ ds) = (refl, outside_nothing ds)
outside_nothing (constant_of c ∷ ds) = outside_nothing ds

not_one : (es : Known) (n k : List ℕ) (x : Option Tree) → found es k ≡ None → same n k ≡ false → found (es ++ one n x) k ≡ None
not_one es n k x e f = found_both es (one n x) k ∙ both_none (found es k) (found (one n x) k) e (none_cond (same k n) x (same_sym k n ∙ f))

outside_one : (es : Known) (n : List ℕ) (x : Option Tree) (ds : List DefinitionTree) → Outside es ds → NotIn n (def_names ds) → Outside (es ++ one n x) ds
outside_one es n x [] w e = tt
outside_one es n x (typename_of k t d ∷ ds) w e =
    let p = or_parts (same n k) (any_same n (def_names ds)) e in
    (not_one es n k x w.0 p.0, outside_one es n x ds w.1 p.1)
outside_one es n x (module_of m ∷ ds) w e =
    let p = or_parts (same n m.name) (any_same n (def_names ds)) e in
    (not_one es n m.name x w.0 p.0, outside_one es n x ds w.1 p.1)
outside_one es n x (constant_of c ∷ ds) w e = outside_one es n x ds w e

-- the typenames are held, and the modules are not
abbrev Ready : Known → List DefinitionTree → Type 0
Ready out [] = Unit {0}
Ready out (typename_of n t d ∷ ds) = (found out n ≡ Some (type_entry n t)) × Ready out ds
Ready out (module_of m ∷ ds) = (found out m.name ≡ None) × Ready out ds
Ready out (constant_of c ∷ ds) = Ready out ds

types_none : (ds : List DefinitionTree) (n : List ℕ) → NotIn n (def_names ds) → found (type_known ds) n ≡ None
types_none [] n e = refl
types_none (typename_of k t d ∷ ds) n e =
    let p = or_parts (same n k) (any_same n (def_names ds)) e in
    ap (λ b. cond b (Some (type_entry k t)) (found (type_known ds) n)) p.0 ∙ types_none ds n p.1
types_none (module_of m ∷ ds) n e = types_none ds n (or_parts (same n m.name) (any_same n (def_names ds)) e).1
types_none (constant_of c ∷ ds) n e = types_none ds n e

ready : (es : Known) (ds : List DefinitionTree) → Outside es ds → AllDiffer (def_names ds) → Ready (es ++ type_known ds) ds
ready es [] w d = tt
ready es (typename_of n t c ∷ ds) w d =
    let x = type_entry n t in
    let more : Ready ((es ++ one n x) ++ type_known ds) ds = ready (es ++ one n x) ds (outside_one es n x ds w.1 d.0) d.1 in
    let shift : (es ++ one n x) ++ type_known ds ≡ es ++ (n, x) ∷ type_known ds = append_assoc es (one n x) (type_known ds) in
    let held : found ((es ++ one n x) ++ type_known ds) n ≡ Some x = found_both (es ++ one n x) (type_known ds) n ∙ some_left (found (es ++ one n x) n) (found (type_known ds) n) x (holds_new es n x w.0) in
    (ap (λ l. found l n) (sym shift) ∙ held, subst (λ (l : Known). Ready l ds) shift more)
ready es (module_of m ∷ ds) w d =
    (found_both es (type_known ds) m.name ∙ both_none (found es m.name) (found (type_known ds) m.name) w.0 (types_none ds m.name d.0), ready es ds w.1 d.1)
ready es (constant_of c ∷ ds) w d = ready es ds w d

ready_one : (out : Known) (n : List ℕ) (ds : List DefinitionTree) → Ready out ds → NotIn n (def_names ds) → Ready (out ++ one n None) ds
ready_one out n [] r e = tt
ready_one out n (typename_of k t d ∷ ds) r e =
    let p = or_parts (same n k) (any_same n (def_names ds)) e in
    (holds_on out n k (type_entry k t) None r.0, ready_one out n ds r.1 p.1)
ready_one out n (module_of m ∷ ds) r e =
    let p = or_parts (same n m.name) (any_same n (def_names ds)) e in
    (not_one out n m.name None r.0 p.0, ready_one out n ds r.1 p.1)
ready_one out n (constant_of c ∷ ds) r e = ready_one out n ds r e

learns_type : (known out : Known) (n : List ℕ) (x : Option Tree) → SaysMore (denoted known) (denoted out) → found out n ≡ Some x → SaysMore (denoted (known ++ one n x)) (denoted out)
learns_type known out n x g e k t h = by (found known k) refl (same k n) refl (sym (found_both known (one n x) k) ∙ h)
  where
    by : (o : Option (Option Tree)) → found known k ≡ o → (b : Bool) → same k n ≡ b → or_else o (cond b (Some x) None) ≡ Some (Some t) → found out k ≡ Some (Some t)
    by (Some y) a b c f = g k t (a ∙ f)
    by None a true c f = ap (λ l. found out l) (same_is k n c) ∙ e ∙ f
    by None a false c f = absurd (no_none (Some t) f)

modules_stand : (known out : Known) (ds : List DefinitionTree) → SaysMore (denoted known) (denoted out) → Ready out ds → AllDiffer (def_names ds) → AllGiven known ds → DefinitionsStand out (filter is_module ds)
modules_stand known out [] g r d w = tt
modules_stand known out (typename_of n t c ∷ ds) g r d w =
    modules_stand (known ++ one n (type_entry n t)) out ds (learns_type known out n (type_entry n t) g r.0) r.1 d.1 w.1
modules_stand known out (module_of m ∷ ds) g r d w = (
  (r.0, names_ordered m.items w.0.1, items_ordered (denoted out) m.items (more_items (denoted known) (denoted out) g m.items w.0.2)),
  modules_stand (known ++ one m.name None) (out ++ one m.name None) ds
      (λ k t e. holds_on out m.name k (Some t) None (g k t (without_module (found known k) (same k m.name) t (sym (found_both known (one m.name None) k) ∙ e))))
      (ready_one out m.name ds r.1 d.0) d.1 w.1,
)
modules_stand known out (constant_of c ∷ ds) g r d w = modules_stand known out ds g r d w.1

-- ---- the whole document

pub all_stand : (ds : List DefinitionTree) → AllGiven [] ds → DefinitionsStand [] (typenames_first ds)
all_stand ds w =
    let d = given_differ [] ds w in
    typenames_stand [] [] ds (filter is_module ds) (λ n t e. e) (λ k e. e) w
    (modules_stand [] (type_known ds) ds (λ n t e. absurd (no_none (Some t) e)) (ready [] ds (outside_nothing ds) d) d w)

all_writable_both : (xs ys : List DefinitionTree) → DocumentWritable xs → DocumentWritable ys → DocumentWritable (xs ++ ys)
all_writable_both [] ys a b = b
all_writable_both (x ∷ xs) ys a b = (a.0, all_writable_both xs ys a.1 b)

typenames_writable : (known : Known) (ds : List DefinitionTree) → AllGiven known ds → DocumentWritable (filter is_typename ds)
typenames_writable known [] w = tt
typenames_writable known (typename_of n t d ∷ ds) w = (w.0.2, typenames_writable (known ++ one n (type_entry n t)) ds w.1)
typenames_writable known (module_of m ∷ ds) w = typenames_writable (known ++ one m.name None) ds w.1
typenames_writable known (constant_of c ∷ ds) w = typenames_writable known ds w.1

modules_writable : (known : Known) (ds : List DefinitionTree) → AllGiven known ds → DocumentWritable (filter is_module ds)
modules_writable known [] w = tt
modules_writable known (typename_of n t d ∷ ds) w = modules_writable (known ++ one n (type_entry n t)) ds w.1
modules_writable known (module_of m ∷ ds) w = (writable_ordered m.items w.0.3, modules_writable (known ++ one m.name None) ds w.1)
modules_writable known (constant_of c ∷ ds) w = modules_writable known ds w.1

pub all_writable : (ds : List DefinitionTree) → AllGiven [] ds → DocumentWritable (typenames_first ds)
all_writable ds w = all_writable_both (filter is_typename ds) (filter is_module ds) (typenames_writable [] ds w) (modules_writable [] ds w)

pub given_items : (known : Known) (ds : List DefinitionTree) → AllGiven known ds → AllItemsDiffer ds
given_items known [] w = tt
given_items known (typename_of n t d ∷ ds) w = (tt, given_items (known ++ one n (type_entry n t)) ds w.1)
given_items known (module_of m ∷ ds) w = (new_differ [] (map item_called m.items) w.0.1, given_items (known ++ one m.name None) ds w.1)
given_items known (constant_of c ∷ ds) w = (tt, given_items known ds w.1)
