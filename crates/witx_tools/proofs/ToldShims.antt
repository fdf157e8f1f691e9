-- Of the refusals of shims only two are told. In a document that files mean the parameters of each function have names of their own,
-- since the checks refuse a name that stands twice; in one that can be adapted each function can be lowered.
use Rattle.std.specs.Prelude.{◌≡◌, ℕ, List, [], ◌∷◌, ◌++◌, Bool, true, false, cond, ◌||◌, map, All, Option, None, Some, Result, Ok, Err, option_map, if◌then◌else◌}
use Rattle.std.specs.Option.{option_and_then, option_or}
use Rattle.std.specs.List.{cons_option, flat_map, list_any}
use Rattle.std.proofs.Common.{refl, sym, ap, ◌∙◌, subst}
use Rattle.std.proofs.lemmas.List.Folds.{list_any-append}
use Rattle.witx_base.proofs.Names.{same-is}
use Rattle.witx_base.specs.Found.{found}
use Rattle.witx_base.specs.Paths.{Path}
use Rattle.witx_files.specs.Files.{Files}
use Rattle.witx_files.specs.declared.location.Location.{Location}
use Rattle.witx_syntax_tree.specs.Trees as syntax
use Rattle.witx_comments.specs.Comments.{Comments}
use Rattle.witx_ast.specs.Definitions.{DefinitionTree, ModuleTree, constant_of, introduced, module_called, module_of, typename_of}
use Rattle.witx_ast.specs.Definitions as definitions
use Rattle.witx_ast.specs.Entries.{by_name}
use Rattle.witx_ast.specs.Functions.{FunctionTree}
use Rattle.witx_ast.specs.Items.{ItemTree, as_func, func_called, func_of, funcs_of, import_of, item_name}
use Rattle.witx_base.specs.SameBytes.{same_bytes}
use Rattle.witx_ast.specs.Tree.{Field}
use Rattle.witx_ast.specs.contracts.function.AbiPartialEq.TheImpl as abis
use Rattle.witx_machine.specs.Functions.{function_of}
use Rattle.witx_machine.specs.Lowerable.{unlowerable}
use Rattle.witx_machine.specs.declared.surface.Place.{Place}
use Rattle.witx_adapt.proofs.Fitting.{lowered-none, none-here, none-later}
use Rattle.witx_adapt.specs.Adaptable.{IsAdaptable, first_unlowered, unlowered}
use Rattle.witx_adapt.specs.Entries.{Owned, all_functions, module_functions, owned_item}
use Rattle.witx_compat.proofs.Tables.{key-bytes}
use Rattle.witx_compat.specs.Polyfills.{MappedFunction, MappedModule, all_or_refusal, function_answer, function_mapped, function_or_none, is_fully_compatible, module_answer, new_or_none, pair_answer, polyfill_answer}
use Rattle.witx_compat.specs.Polyfills as polyfill
use Rattle.witx_scope.specs.Checks.{field_checks, type_checks}
use Rattle.witx_scope.specs.DeclarationForms.{DeclForm, constant_form, module_form, typename_form}
use Rattle.witx_scope.specs.Declarations.{Past, decl_checks, decl_tree, nothing_before}
use Rattle.witx_scope.specs.Faults.{Check, first_fault}
use Rattle.witx_scope.specs.Modules.{decl_meant, item_checks, item_meant, items_checks, with_name}
use Rattle.witx_scope.specs.Names.{Here, NameMarks, new_mark}
use Rattle.witx_scope.specs.Positions.{after, is_same_name}
use Rattle.witx_scope.specs.Trees.{fields_meant}
use Rattle.witx_order.specs.Fronts.{AreSound}
use Rattle.witx_order.specs.Items.{Declared}
use Rattle.witx_walk.specs.Meaning.{definitions_from, definitions_with, form_definitions, form_fault, form_of, past_of, past_with, places_of, world}
use Rattle.witx_walk.specs.Readings.{OneReading, FileReading}
use Rattle.witx_walk.proofs.Declarations.{past-more}
use Rattle.witx_shim.specs.Refusals.{ShimRefusal, first_refusal_of, new_unlowerable, not_compatible, old_unlowerable, other_abi, refusal_of, repeated, repeated_after, repeated_param, refusal_unless}
use Rattle.witx_commands.specs.Adapting.{IsParsedDocument, Parses}
use Rattle.witx_tools.specs.ToolLaws.{IsToldShim, ShimsTellTwoRefusals}
use Rattle.witx_tools.proofs.Shims.{Each, anything, each-all, each-has}

-- ---- checks that all hold

none-first : (xs ys : List Check) → first_fault (xs ++ ys) ≡ None → first_fault xs ≡ None
none-first [] ys h = refl
none-first (None ∷ xs) ys h = none-first xs ys h
none-first (Some f ∷ xs) ys h = h

none-behind : (xs ys : List Check) → first_fault (xs ++ ys) ≡ None → first_fault ys ≡ None
none-behind [] ys h = h
none-behind (None ∷ xs) ys h = none-behind xs ys h
none-behind (Some f ∷ xs) ys h = cc

holds-first : (c : Check) (cs : List Check) → first_fault (c ∷ cs) ≡ None → c ≡ None
holds-first None cs h = refl
holds-first (Some f) cs h = h

hold-behind : (c : Check) (cs : List Check) → first_fault (c ∷ cs) ≡ None → first_fault cs ≡ None
hold-behind None cs h = h
hold-behind (Some f) cs h = cc

map-none : {A B : Type 0} (f : A → B) (o : Option A) → option_map f o ≡ None → o ≡ None
map-none f None h = refl
map-none f (Some x) h = cc

-- ---- the names of fields in one scope

-- a name that isn't marked isn't among these
Covers : NameMarks → List (List ℕ) → Type 0
Covers marks names = (n : List ℕ) → found marks n ≡ None → list_any (λ b. same_bytes b n) names ≡ false

not-marked : (b : Bool) (s : ℕ) (o : Option ℕ) → cond b (Some s) o ≡ None → (b ≡ false) × (o ≡ None)
not-marked true s o e = cc
not-marked false s o e = (refl, e)

other-name : (b : Bool) (m n : List ℕ) → same_bytes m n ≡ b → is_same_name n m ≡ false → same_bytes m n ≡ false
other-name false m n e k = e
other-name true m n e k =
    let same : m ≡ n = same-is m n (key-bytes m n ∙ e) in
    let here : is_same_name m m ≡ true = ap (λ q. is_same_name m q) same ∙ (key-bytes m n ∙ e) in
    let there : is_same_name m m ≡ false = ap (λ q. is_same_name q m) same ∙ k in
    cc

or-none : (a b : Bool) → a ≡ false → b ≡ false → (a || (b || false)) ≡ false
or-none a b h k = rw (h, k) refl

covers-more : (marks : NameMarks) (names : List (List ℕ)) (m : List ℕ) (s : ℕ) → Covers marks names → Covers ((m, s) ∷ marks) (names ++ m ∷ [])
unfolding Covers
covers-more marks names m s h n e =
    let apart = not-marked (is_same_name n m) s (found marks n) e in
    list_any-append (λ b. same_bytes b n) names (m ∷ [])
    ∙ or-none (list_any (λ b. same_bytes b n) names) (same_bytes m n) (h n apart.1) (other-name (same_bytes m n) m n refl apart.0)

not-before : (b : Bool) (n : List ℕ) (o : Option (List ℕ)) → b ≡ false → o ≡ None → (if b then Some n else o) ≡ None
not-before true n o h k = cc
not-before false n o h k = k

fields-apart : (h : Here) (marks : NameMarks) (names : List (List ℕ)) (fs : syntax.Fields) → Covers marks names → first_fault (field_checks h marks fs) ≡ None
    → repeated_after names (map (λ (p : Field). p.called) (fields_meant h fs)) ≡ None
unfolding Covers
fields-apart h marks names syntax.no_fields c e = refl
fields-apart h marks names (syntax.one_field docs m t fs) c e =
    let behind = type_checks h false (h.place m.start) t ++ field_checks h ((m.name, m.start) ∷ marks) fs in
    let apart = holds-first (new_mark h marks m.name m.start) behind e in
    let rest =
    none-behind (type_checks h false (h.place m.start) t) (field_checks h ((m.name, m.start) ∷ marks) fs)
    (hold-behind (new_mark h marks m.name m.start) behind e) in
    not-before (list_any (λ b. same_bytes b m.name) names) m.name (repeated_after (names ++ m.name ∷ []) (map (λ (p : Field). p.called) (fields_meant h fs)))
    (c m.name (map-none _ (found marks m.name) apart))
    (fields-apart h ((m.name, m.start) ∷ marks) (names ++ m.name ∷ []) fs (covers-more marks names m.name m.start c) rest)

nothing-covered : Covers [] []
unfolding Covers
nothing-covered n e = refl

-- ---- what functions of a document have

abbrev ItemHas : (FunctionTree → Type 0) → ItemTree → Type 0
ItemHas P (import_of i) = Unit {0}
ItemHas P (func_of f) = P f

abbrev DefinitionHas : (FunctionTree → Type 0) → DefinitionTree → Type 0
DefinitionHas P (typename_of name t docs) = Unit {0}
DefinitionHas P (module_of m) = Each (ItemHas P) m.items
DefinitionHas P (constant_of c) = Unit {0}

abbrev AllHave : (FunctionTree → Type 0) → List DefinitionTree → Type 0
AllHave P ds = Each (DefinitionHas P) ds

each-append : {A : Type 0} (P : A → Type 0) (xs ys : List A) → Each P xs → Each P ys → Each P (xs ++ ys)
each-append P [] ys h k = k
each-append P (x ∷ xs) ys h k = (h.0, each-append P xs ys h.1 k)

each-as : {A : Type 0} (P Q : A → Type 0) → ((x : A) → P x → Q x) → (xs : List A) → Each P xs → Each Q xs
each-as P Q f [] h = tt
each-as P Q f (x ∷ xs) h = (f x h.0, each-as P Q f xs h.1)

-- ---- names of their own

abbrev HasOwnNames : FunctionTree → Type 0
HasOwnNames f = repeated_param f.params ≡ None

item-apart : (h : Here) (before : NameMarks) (comments : Comments) (d : syntax.DeclTree) → first_fault (item_checks h before d) ≡ None → ItemHas HasOwnNames (decl_meant h comments d)
item-apart h before comments (syntax.memory name) e = tt
item-apart h before comments (syntax.function name params results noreturn stored) e =
    fields-apart h [] [] params nothing-covered (none-first (field_checks h [] params) _ (hold-behind (new_mark h before name.text name.start) _ e))

items-apart : (h : Here) (before : NameMarks) (items : List syntax.NotedDecl) → first_fault (items_checks h before items) ≡ None → Each (ItemHas HasOwnNames) (map (item_meant h) items)
items-apart h before [] e = tt
items-apart h before (d ∷ ds) e = (
  item-apart h before d.comments d.decl (none-first (item_checks h before d.decl) (items_checks h (with_name d.decl before) ds) e),
  items-apart h (with_name d.decl before) ds (none-behind (item_checks h before d.decl) (items_checks h (with_name d.decl before) ds) e),
)

form-apart : (past : Past) (place : ℕ → Location) (comments : Comments) (form : DeclForm) → first_fault (decl_checks past place form) ≡ None
    → DefinitionHas HasOwnNames (decl_tree past place comments form)
form-apart past place comments (typename_form n t) e = tt
form-apart past place comments (module_form n items) e = items-apart (after past.taken place n) [] items (hold-behind _ (items_checks (after past.taken place n) [] items) e)
form-apart past place comments (constant_form ty n value own) e = tt

one-apart : (past : Past) (place : ℕ → Location) (comments : Comments) (form : Option DeclForm) → form_fault past place form ≡ None
    → AllHave HasOwnNames (form_definitions past place comments form)
one-apart past place comments None e = tt
one-apart past place comments (Some form) e = (form-apart past place comments form e, tt)

-- declarations without a fault, behind others
module _ (files : Files) (reading : FileReading) where
  sound-apart : (before rest : List Declared) → AreSound (world files [] reading) before rest → AllHave HasOwnNames (definitions_from (past_of before) rest)
  sound-apart before [] s = tt
  sound-apart before (δ ∷ rest) s =
      each-append (DefinitionHas HasOwnNames) (definitions_with (past_of before) δ) (definitions_from (past_with (past_of before) δ) rest)
      (one-apart (past_of before) (places_of δ) δ.item.comments (form_of δ.item.item) s.0)
      (subst (λ past. AllHave HasOwnNames (definitions_from past rest)) (past-more nothing_before before δ) (sound-apart (before ++ δ ∷ []) rest s.1))

parsed-apart : OneReading → (files : Files) (handed : List Path) (ds : List DefinitionTree) → Parses files handed (Ok ds) → AllHave HasOwnNames ds
unfolding IsParsedDocument
parsed-apart one files handed ds p =
    let answer = p files [] one.0 refl refl one.1.0 in
    subst (AllHave HasOwnNames) (sym answer.1.1.1) (sound-apart files one.0 [] answer.1.0 answer.1.1.0.1.1)

-- ---- lowered

abbrev CanLower : FunctionTree → Type 0
CanLower f = unlowerable (function_of f) ≡ None

unlowered-first : (ps qs : List Owned) → first_unlowered (ps ++ qs) ≡ None → first_unlowered ps ≡ None
unlowered-first [] qs e = refl
unlowered-first (p ∷ ps) qs e =
    let here = none-here (unlowered p) (first_unlowered (ps ++ qs)) e in
    ap (λ o. option_or o (first_unlowered ps)) here ∙ unlowered-first ps qs (none-later (unlowered p) (first_unlowered (ps ++ qs)) e)

unlowered-behind : (ps qs : List Owned) → first_unlowered (ps ++ qs) ≡ None → first_unlowered qs ≡ None
unlowered-behind [] qs e = e
unlowered-behind (p ∷ ps) qs e = unlowered-behind ps qs (none-later (unlowered p) (first_unlowered (ps ++ qs)) e)

items-lowered : (m : ModuleTree) (items : List ItemTree) → first_unlowered (flat_map (owned_item m) items) ≡ None → Each (ItemHas CanLower) items
items-lowered m [] e = tt
items-lowered m (import_of i ∷ items) e = (tt, items-lowered m items e)
items-lowered m (func_of f ∷ items) e =
    let p : Owned = record { owner = m; func = f } in
    let rest = first_unlowered (flat_map (owned_item m) items) in
    (lowered-none p (none-here (unlowered p) rest e), items-lowered m items (none-later (unlowered p) rest e))

all-lowered : (ds : List DefinitionTree) → first_unlowered (all_functions ds) ≡ None → AllHave CanLower ds
all-lowered [] e = tt
all-lowered (typename_of name t docs ∷ ds) e = (tt, all-lowered ds e)
all-lowered (module_of m ∷ ds) e = (
  items-lowered m m.items (unlowered-first (module_functions m) (all_functions ds) e),
  all-lowered ds (unlowered-behind (module_functions m) (all_functions ds) e),
)
all-lowered (constant_of c ∷ ds) e = (tt, all-lowered ds e)

-- ---- what is found has what each has

module _ {T : Type 0} (name_of : T → Option (List ℕ)) (P : T → Type 0) where
  found-cond : (c : Bool) (s t : T) (rest : Option T) → P s → cond c (Some s) rest ≡ Some t → (rest ≡ Some t → P t) → P t
  found-cond true s t rest p e more = let same : s ≡ t = cc in subst P same p
  found-cond false s t rest p e more = more e

  found-step : (o : Option (List ℕ)) (s t : T) (rest : List (List ℕ × T)) (q : List ℕ) → P s
      → found (cons_option (option_map (λ (n : List ℕ). (n, s)) o) rest) q ≡ Some t → (found rest q ≡ Some t → P t) → P t
  found-step None s t rest q p e more = more e
  found-step (Some n) s t rest q p e more = found-cond (is_same_name q n) s t (found rest q) p e more

  found-has : (ts : List T) (q : List ℕ) (t : T) → Each P ts → found (by_name name_of ts) q ≡ Some t → P t
  found-has [] q t h e = absurd (cc)
  found-has (s ∷ ts) q t h e = found-step (name_of s) s t (by_name name_of ts) q h.0 e (found-has ts q t h.1)

-- both functions of what is mapped
abbrev BothHave : (FunctionTree → Type 0) → MappedFunction → Type 0
BothHave P f = P f.new × P f.old

abbrev ModuleHas : (FunctionTree → Type 0) → MappedModule → Type 0
ModuleHas P m = Each (BothHave P) m.functions

module _ (P : FunctionTree → Type 0) where
  as-func-has : (o : Option ItemTree) (f : FunctionTree) → ((i : ItemTree) → o ≡ Some i → ItemHas P i) → option_and_then as_func o ≡ Some f → P f
  as-func-has None f h e = absurd (cc)
  as-func-has (Some (import_of i)) f h e = absurd (cc)
  as-func-has (Some (func_of g)) f h e = let same : g ≡ f = cc in subst P same (h (func_of g) refl)

  func-has : (items : List ItemTree) (n : List ℕ) (f : FunctionTree) → Each (ItemHas P) items → func_called items n ≡ Some f → P f
  func-has items n f h e = as-func-has (found (by_name item_name items) n) f (λ i k. found-has item_name (ItemHas P) items n i h k) e

  as-module-has : (o : Option DefinitionTree) (m : ModuleTree) → ((d : DefinitionTree) → o ≡ Some d → DefinitionHas P d) → option_and_then definitions.as_module o ≡ Some m
      → Each (ItemHas P) m.items
  as-module-has None m h e = absurd (cc)
  as-module-has (Some (typename_of name t docs)) m h e = absurd (cc)
  as-module-has (Some (module_of k)) m h e = let same : k ≡ m = cc in subst (λ (x : ModuleTree). Each (ItemHas P) x.items) same (h (module_of k) refl)
  as-module-has (Some (constant_of c)) m h e = absurd (cc)

  module-has : (ds : List DefinitionTree) (n : List ℕ) (m : ModuleTree) → AllHave P ds → module_called ds n ≡ Some m → Each (ItemHas P) m.items
  module-has ds n m h e = as-module-has (found (by_name introduced ds) n) m (λ d k. found-has introduced (DefinitionHas P) ds n d h k) e

  funcs-have : (items : List ItemTree) → Each (ItemHas P) items → Each P (funcs_of items)
  funcs-have [] h = tt
  funcs-have (import_of i ∷ items) h = funcs-have items h.1
  funcs-have (func_of f ∷ items) h = (h.0, funcs-have items h.1)

  function-has : (new : ModuleTree) (old : FunctionTree) (o : Option FunctionTree) (f : MappedFunction) → ((g : FunctionTree) → o ≡ Some g → P g) → P old
      → function_or_none new old o ≡ Ok f → BothHave P f
  function-has new old None f h p e = absurd (cc)
  function-has new old (Some g) f h p e = subst (BothHave P) (the-function e) (h g refl, p)
    where
      the-function : function_or_none new old (Some g) ≡ Ok f → function_mapped g old ≡ f
      the-function q = cc

  mapped-has : (new old : ModuleTree) (r : Result (List MappedFunction) polyfill.PolyfillRefusal) (m : MappedModule) → ((fs : List MappedFunction) → r ≡ Ok fs → Each (BothHave P) fs)
      → polyfill.as_mapped_module new old r ≡ Ok m → ModuleHas P m
  mapped-has new old (Err why) m h e = absurd (cc)
  mapped-has new old (Ok fs) m h e = subst (ModuleHas P) (the-module e) (h fs refl)
    where
      the-module : polyfill.as_mapped_module new old (Ok fs) ≡ Ok m → record { new = new; old = old; functions = fs } ≡ m
      the-module q = cc

  modules-have : (new old : ModuleTree) (m : MappedModule) → Each (ItemHas P) new.items → Each (ItemHas P) old.items → module_answer new old ≡ Ok m → ModuleHas P m
  modules-have new old m h k e =
      mapped-has new old (all_or_refusal (function_answer new) (funcs_of old.items)) m
      (λ fs q. each-has (function_answer new) P (BothHave P)
      (λ f g p r. function-has new f (func_called new.items f.name) g (λ x s. func-has new.items f.name x h s) p r)
      (funcs_of old.items) fs (funcs-have old.items k) q)
      e

  pair-has : (names : List ℕ × List ℕ) (new old : Option ModuleTree) (m : MappedModule) → ((x : ModuleTree) → new ≡ Some x → Each (ItemHas P) x.items)
      → ((x : ModuleTree) → old ≡ Some x → Each (ItemHas P) x.items) → new_or_none names.0 names.1 new old ≡ Ok m → ModuleHas P m
  pair-has names None old m h k e = absurd (cc)
  pair-has names (Some new) None m h k e = absurd (cc)
  pair-has names (Some new) (Some old) m h k e = modules-have new old m (h new refl) (k old refl) e

  polyfill-has : (new old : List DefinitionTree) (pairs : List (List ℕ × List ℕ)) (ms : List MappedModule) → AllHave P new → AllHave P old
      → polyfill_answer new old pairs ≡ Ok ms → Each (ModuleHas P) ms
  polyfill-has new old pairs ms h k e =
      each-has (pair_answer new old) (λ _. Unit {0}) (ModuleHas P)
      (λ names m i q. pair-has names (module_called new names.0) (module_called old names.1) m
      (λ x s. module-has new names.0 x h s) (λ x s. module-has old names.1 x k s) q)
      pairs ms (anything pairs) e

-- ---- the refusals that are left

abbrev first_told : (olds news : Option (List ℕ)) (compatible same : Bool) (old new : Option Place) → Option ShimRefusal
first_told olds news compatible same old new =
    first_refusal_of (option_map repeated olds ∷ option_map repeated news ∷ refusal_unless compatible not_compatible ∷ refusal_unless same other_abi
    ∷ option_map old_unlowerable old ∷ option_map new_unlowerable new ∷ [])

two-left : (compatible same : Bool) → IsToldShim (first_told None None compatible same None None)
two-left true true = tt
two-left true false = tt
two-left false same = tt

told-by : (olds news : Option (List ℕ)) (compatible same : Bool) (old new : Option Place) → olds ≡ None → news ≡ None → old ≡ None → new ≡ None
    → IsToldShim (first_told olds news compatible same old new)
told-by olds news compatible same old new a b c d =
    subst (λ o. IsToldShim (first_told o news compatible same old new)) (sym a)
    (subst (λ o. IsToldShim (first_told None o compatible same old new)) (sym b)
    (subst (λ o. IsToldShim (first_told None None compatible same o new)) (sym c)
    (subst (λ o. IsToldShim (first_told None None compatible same None o)) (sym d) (two-left compatible same))))

abbrev IsFine : FunctionTree → Type 0
IsFine f = HasOwnNames f × CanLower f

function-told : (f : MappedFunction) → IsFine f.new × IsFine f.old → IsToldShim (refusal_of f)
function-told f (n, o) =
    told-by (repeated_param f.old.params) (repeated_param f.new.params) (is_fully_compatible f) (abis.ghosts.eq f.old.abi f.new.abi)
    (unlowerable (function_of f.old)) (unlowerable (function_of f.new)) o.0 n.0 o.1 n.1

items-both : (items : List ItemTree) → Each (ItemHas HasOwnNames) items → Each (ItemHas CanLower) items → Each (ItemHas IsFine) items
items-both [] h k = tt
items-both (import_of i ∷ items) h k = (tt, items-both items h.1 k.1)
items-both (func_of f ∷ items) h k = ((h.0, k.0), items-both items h.1 k.1)

all-both : (ds : List DefinitionTree) → AllHave HasOwnNames ds → AllHave CanLower ds → AllHave IsFine ds
all-both [] h k = tt
all-both (typename_of name t docs ∷ ds) h k = (tt, all-both ds h.1 k.1)
all-both (module_of m ∷ ds) h k = (items-both m.items h.0 k.0, all-both ds h.1 k.1)
all-both (constant_of c ∷ ds) h k = (tt, all-both ds h.1 k.1)

abbrev AreTold : MappedModule → Type 0
AreTold m = All (λ (f : MappedFunction). IsToldShim (refusal_of f)) m.functions

module-told : (m : MappedModule) → ModuleHas IsFine m → AreTold m
module-told m h =
    let each = each-as (BothHave IsFine) (λ (f : MappedFunction). IsToldShim (refusal_of f)) function-told m.functions h in
    each-all (λ (f : MappedFunction). IsToldShim (refusal_of f)) m.functions each

all-fine : OneReading → (files : Files) (handed : List Path) (ds : List DefinitionTree) → Parses files handed (Ok ds) → IsAdaptable ds → AllHave IsFine ds
all-fine one files handed ds p a = all-both ds (parsed-apart one files handed ds p) (all-lowered ds a.lowerable)

-- ONLY TWO REFUSALS OF SHIMS ARE TOLD
pub shims-tell-two-refusals : OneReading → ShimsTellTwoRefusals
shims-tell-two-refusals one = λ files news olds new old p q a b pairs modules e.
    each-all AreTold modules
    (each-as (ModuleHas IsFine) AreTold module-told modules
    (polyfill-has IsFine new old pairs modules (all-fine one files news new p a) (all-fine one files olds old q b) e))
