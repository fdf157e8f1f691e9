-- In a closed document without misfit each function fits its tags, so the two traces of each entry are faithful.
use Rattle.std.specs.Prelude.{◌≡◌, ℕ, ◌+◌, ◌^◌, List, [], ◌∷◌, ◌++◌, Bool, true, false, cond, ◌&&◌, Option, Some, None, map, min, nat_le, option_map, All, IsTrue, ◌⊎◌, is_none}
use Rattle.std.proofs.Common.{refl, sym, ap, ◌∙◌, subst, inl, inr, arith}
use Rattle.std.specs.List.{flat_map}
use Rattle.std.specs.Option.{option_or, option_and_then}
use Rattle.std.proofs.lemmas.Bool.Decides.{nat_tests}
use Rattle.std.proofs.lemmas.List.Elements.{All-cons}
use Rattle.std.specs.Ordering.{is_eq, nat_cmp}
use Rattle.std.specs.Cmp.Lexicographic.{slice_cmp}
use Rattle.witx_base.specs.Found.{found}
use Rattle.witx_ast.specs.declared.types.IntRepr.{IntRepr}
use Rattle.witx_ast.specs.declared.types.RecordKind.{RecordKind}
use Rattle.witx_ast.specs.Tree.{Tree, Fields, Arms, Field, behind}
use Rattle.witx_ast.specs.Plain.{plain, plain_fields, plain_arms, field_count, arm_count}
use Rattle.witx_ast.specs.Tags.{repr_bits, flags_fit, fits, fields_fit, arms_fit, types_fit, function_fits}
use Rattle.witx_ast.specs.Misfits.{Excess, Misfit, beyond, most_cases, flags_beyond, misfits, field_misfits, arm_misfits, params_misfits, item_misfits, definition_misfits, first_here, first_misfit_from, first_misfit}
use Rattle.witx_ast.specs.Items.{ItemTree, import_of, func_of}
use Rattle.witx_ast.specs.Entries.{by_name}
use Rattle.witx_ast.specs.Definitions.{DefinitionTree, typename_of, module_of, constant_of, ModuleTree, introduced, as_typename, typename_called}
use Rattle.witx_ast.proofs.EntryLaws.{names-more, names-same}
use Rattle.witx_ast.proofs.TreeKinds.{plain-behind}
use Rattle.witx_ast.specs.Ordered.{NamesStand, FieldNamesStand, ArmNamesStand}
use Rattle.witx_machine.specs.Functions.{function_of}
use Rattle.witx_machine.specs.Lowerable.{unlowerable}
use Rattle.witx_machine.specs.Faithful.{Faithful}
use Rattle.witx_machine.proofs.CellLaws.{traces_are_faithful}
pub use Rattle.witx_instructions.proofs.Called.{called-same}
use Rattle.witx_instructions.specs.Views.{event_of}
use Rattle.witx_adapt.specs.declared.adapted.AdaptedFunc.{AdaptedFunc}
use Rattle.witx_ast.specs.Closed.{ParamNamesStand, ItemNamesStand, AllNamesStand, ClosedAfter, IsClosed}
use Rattle.witx_adapt.specs.Entries.{Entry, Owned, owned_item, owned_functions, all_functions, entry_of, entry_for, IsFaithful}
use Rattle.witx_adapt.specs.Adaptable.{Unlowered, unlowered, first_unlowered}

-- nothing in two lists
none-left : {A : Type 0} (xs ys : List A) → xs ++ ys ≡ [] → xs ≡ []
none-left [] ys h = refl
none-left (x ∷ xs) ys h = cc

none-right : {A : Type 0} (xs ys : List A) → xs ++ ys ≡ [] → ys ≡ []
none-right [] ys h = h
none-right (x ∷ xs) ys h = cc

both : (a b : Bool) → a ≡ true → b ≡ true → (a && b) ≡ true
both a b h k = rw (h, k) refl

-- one node
within : (b : Bool) (e : Excess) → cond b [] (e ∷ []) ≡ [] → b ≡ true
within true e h = refl
within false e h = cc

le-min : (n a b : ℕ) → nat_le n (min a b) ≡ true → (nat_le n a && nat_le n b) ≡ true
le-min n a b h = grind (arith, nat_tests)

flags-node : (kind : RecordKind) (n : ℕ) → flags_beyond kind n ≡ [] → flags_fit kind n ≡ true
flags-node (RecordKind.Bitflags r) n h = within (nat_le n (repr_bits r)) (record { count = n; most = repr_bits r }) h
flags-node RecordKind.Tuple n h = refl
flags-node RecordKind.Other n h = refl

cases-node : (r : IntRepr) (n : ℕ) → beyond (most_cases r) n ≡ [] → (nat_le n (2 ^ repr_bits r) && nat_le n (2 ^ 32)) ≡ true
cases-node r n h = le-min n (2 ^ repr_bits r) (2 ^ 32) (within (nat_le n (most_cases r)) (record { count = n; most = most_cases r }) h)

-- all typenames among the definitions fit
TypenamesFit : List DefinitionTree → Type 0
TypenamesFit before = (n : List ℕ) (u : Tree) → typename_called before n ≡ Some u → fits (plain u) ≡ true

named-fits : (before : List DefinitionTree) → TypenamesFit before → (n : List ℕ) (t u : Tree) → typename_called before n ≡ Some u → behind u ≡ behind t → fits (plain t) ≡ true
unfolding TypenamesFit
named-fits before h n t u e s = ap fits (sym (plain-behind t) ∙ ap plain (sym s) ∙ plain-behind u) ∙ h n u e

mutual
  tree-fits : (before : List DefinitionTree) → TypenamesFit before → (t : Tree) → NamesStand before t → misfits t ≡ [] → fits (plain t) ≡ true
  tree-fits before h (Tree.named n t d) s e = named-fits before h n t s.0 s.1 s.2
  tree-fits before h (Tree.builtin b) s e = refl
  tree-fits before h Tree.handle s e = refl
  tree-fits before h (Tree.list_of t) s e = refl
  tree-fits before h (Tree.pointer_to t) s e = refl
  tree-fits before h (Tree.const_pointer_to t) s e = refl
  tree-fits before h (Tree.record_of k ms) s e =
      both (flags_fit k (field_count (plain_fields ms))) (fields_fit (plain_fields ms))
      (flags-node k (field_count (plain_fields ms)) (none-left (flags_beyond k (field_count (plain_fields ms))) (field_misfits ms) e))
      (fields-fit before h ms s (none-right (flags_beyond k (field_count (plain_fields ms))) (field_misfits ms) e))
  tree-fits before h (Tree.variant_of r cs) s e =
      both (nat_le (arm_count (plain_arms cs)) (2 ^ repr_bits r) && nat_le (arm_count (plain_arms cs)) (2 ^ 32)) (arms_fit (plain_arms cs))
      (cases-node r (arm_count (plain_arms cs)) (none-left (beyond (most_cases r) (arm_count (plain_arms cs))) (arm_misfits cs) e))
      (arms-fit before h cs s (none-right (beyond (most_cases r) (arm_count (plain_arms cs))) (arm_misfits cs) e))

  fields-fit : (before : List DefinitionTree) → TypenamesFit before → (ms : Fields) → FieldNamesStand before ms → field_misfits ms ≡ [] → fields_fit (plain_fields ms) ≡ true
  fields-fit before h Fields.no_fields s e = refl
  fields-fit before h (Fields.field n t d ms) s e =
      both (fits (plain t)) (fields_fit (plain_fields ms))
      (tree-fits before h t s.0 (none-left (misfits t) (field_misfits ms) e)) (fields-fit before h ms s.1 (none-right (misfits t) (field_misfits ms) e))

  arms-fit : (before : List DefinitionTree) → TypenamesFit before → (cs : Arms) → ArmNamesStand before cs → arm_misfits cs ≡ [] → arms_fit (plain_arms cs) ≡ true
  arms-fit before h Arms.no_arms s e = refl
  arms-fit before h (Arms.bare n d cs) s e = arms-fit before h cs s e
  arms-fit before h (Arms.carries n t d cs) s e =
      both (fits (plain t)) (arms_fit (plain_arms cs))
      (tree-fits before h t s.0 (none-left (misfits t) (arm_misfits cs) e)) (arms-fit before h cs s.1 (none-right (misfits t) (arm_misfits cs) e))

-- the functions of a module
params-fit : (before : List DefinitionTree) → TypenamesFit before → (ps : List Field) → ParamNamesStand before ps → params_misfits ps ≡ [] → types_fit ps ≡ true
params-fit before h [] s e = refl
params-fit before h (p ∷ ps) s e =
    both (fits (plain p.tree)) (types_fit ps)
    (tree-fits before h p.tree s.0 (none-left (misfits p.tree) (params_misfits ps) e)) (params-fit before h ps s.1 (none-right (misfits p.tree) (params_misfits ps) e))

abbrev pub FunctionsFit : List Owned → Type 0
FunctionsFit [] = Unit {0}
FunctionsFit (p ∷ ps) = IsTrue (function_fits p.func) × FunctionsFit ps

fit-append : (ps qs : List Owned) → FunctionsFit ps → FunctionsFit qs → FunctionsFit (ps ++ qs)
fit-append [] qs h k = k
fit-append (p ∷ ps) qs h k = (h.0, fit-append ps qs h.1 k)

items-fit : (m : ModuleTree) (before : List DefinitionTree) → TypenamesFit before → (items : List ItemTree) → ItemNamesStand before items → item_misfits items ≡ [] → FunctionsFit (flat_map (owned_item m) items)
items-fit m before h [] s e = tt
items-fit m before h (import_of i ∷ items) s e = items-fit m before h items s e
items-fit m before h (func_of f ∷ items) s e =
    let l = none-left (params_misfits f.params ++ params_misfits f.results) (item_misfits items) e in
    let r = none-right (params_misfits f.params ++ params_misfits f.results) (item_misfits items) e in (
      both (types_fit f.params) (types_fit f.results)
          (params-fit before h f.params s.0 (none-left (params_misfits f.params) (params_misfits f.results) l))
          (params-fit before h f.results s.1 (none-right (params_misfits f.params) (params_misfits f.results) l)),
      items-fit m before h items s.2 r,
    )

-- the typenames after one more definition
last-case : (b : Bool) (d : DefinitionTree) (u : Tree) → option_and_then as_typename (cond b (Some d) None) ≡ Some u → as_typename d ≡ Some u
last-case true d u h = h
last-case false d u h = cc

step-case : (b : Bool) (x d : DefinitionTree) (u : Tree) (r s : Option DefinitionTree) → (option_and_then as_typename r ≡ Some u → (option_and_then as_typename s ≡ Some u) ⊎ (as_typename d ≡ Some u))
    → option_and_then as_typename (cond b (Some x) r) ≡ Some u → (option_and_then as_typename (cond b (Some x) s) ≡ Some u) ⊎ (as_typename d ≡ Some u)
step-case true x d u r s f h = inl h
step-case false x d u r s f h = f h

called-last : (es : List (List ℕ × DefinitionTree)) (n : List ℕ) (d : DefinitionTree) (q : List ℕ) (u : Tree)
    → option_and_then as_typename (found (es ++ (n, d) ∷ []) q) ≡ Some u → (option_and_then as_typename (found es q) ≡ Some u) ⊎ (as_typename d ≡ Some u)
called-last [] n d q u h = inr (last-case (is_eq (slice_cmp nat_cmp q n)) d u h)
called-last (e ∷ es) n d q u h =
    step-case (is_eq (slice_cmp nat_cmp q e.0)) e.1 d u (found (es ++ (n, d) ∷ []) q) (found es q) (called-last es n d q u) h

DefinitionFits : DefinitionTree → Type 0
DefinitionFits d = (u : Tree) → as_typename d ≡ Some u → fits (plain u) ≡ true

fit-more : (before : List DefinitionTree) (d : DefinitionTree) (n : List ℕ) → introduced d ≡ Some n → TypenamesFit before → DefinitionFits d → TypenamesFit (before ++ d ∷ [])
unfolding TypenamesFit DefinitionFits
fit-more before d n e h k q u c =
    elim (called-last (by_name introduced before) n d q u (ap (λ es. option_and_then as_typename (found es q)) (sym (names-more introduced before d n e)) ∙ c))
    [ inl old ↦ h q u old | inr new ↦ k u new ]

fit-same : (before : List DefinitionTree) (d : DefinitionTree) → introduced d ≡ None → TypenamesFit before → TypenamesFit (before ++ d ∷ [])
unfolding TypenamesFit
fit-same before d e h q u c = h q u (ap (λ es. option_and_then as_typename (found es q)) (sym (names-same introduced before d e)) ∙ c)

fit-next : (before : List DefinitionTree) (d : DefinitionTree) → TypenamesFit before → AllNamesStand before d → definition_misfits d ≡ [] → TypenamesFit (before ++ d ∷ [])
unfolding DefinitionFits
fit-next before (typename_of n t docs) h s e =
    fit-more before (typename_of n t docs) n refl h (λ u c. let same : Tree.named n t docs ≡ u = cc in ap (λ v. fits (plain v)) (sym same) ∙ tree-fits before h t s e)
fit-next before (module_of m) h s e = fit-more before (module_of m) m.name refl h (λ u c. absurd (cc))
fit-next before (constant_of c) h s e = fit-same before (constant_of c) refl h

definition-fits : (before : List DefinitionTree) (d : DefinitionTree) → TypenamesFit before → AllNamesStand before d → definition_misfits d ≡ [] → FunctionsFit (owned_functions d)
definition-fits before (typename_of n t docs) h s e = tt
definition-fits before (module_of m) h s e = items-fit m before h m.items s e
definition-fits before (constant_of c) h s e = tt

here-none : (n : ℕ) (xs : List Excess) (later : Option Misfit) → first_here n xs later ≡ None → xs ≡ []
here-none n [] later h = refl
here-none n (x ∷ xs) later h = cc

later-none : (n : ℕ) (xs : List Excess) (later : Option Misfit) → first_here n xs later ≡ None → later ≡ None
later-none n [] later h = h
later-none n (x ∷ xs) later h = cc

fits-after : (k : ℕ) (before ds : List DefinitionTree) → TypenamesFit before → ClosedAfter before ds → first_misfit_from k ds ≡ None → FunctionsFit (all_functions ds)
fits-after k before [] h c e = tt
fits-after k before (d ∷ ds) h c e =
    let n = here-none k (definition_misfits d) (first_misfit_from (k + 1) ds) e in
    fit-append (owned_functions d) (all_functions ds) (definition-fits before d h c.0 n)
    (fits-after (k + 1) (before ++ d ∷ []) ds (fit-next before d h c.0 n) c.1 (later-none k (definition_misfits d) (first_misfit_from (k + 1) ds) e))

no-typenames : TypenamesFit []
unfolding TypenamesFit
no-typenames n u e = cc

pub functions-fit : (ds : List DefinitionTree) → IsClosed ds → first_misfit ds ≡ None → FunctionsFit (all_functions ds)
functions-fit ds c e = fits-after 0 [] ds no-typenames c e

-- each entry
pub none-here : (o : Option Unlowered) (rest : Option Unlowered) → option_or o rest ≡ None → o ≡ None
none-here None rest h = refl
none-here (Some u) rest h = cc

pub none-later : (o : Option Unlowered) (rest : Option Unlowered) → option_or o rest ≡ None → rest ≡ None
none-later None rest h = h
none-later (Some u) rest h = cc

map-none : {A B : Type 0} (f : A → B) (o : Option A) → option_map f o ≡ None → o ≡ None
map-none f None h = refl
map-none f (Some x) h = cc

pub lowered-none : (p : Owned) → unlowered p ≡ None → unlowerable (function_of p.func) ≡ None
lowered-none p h = map-none _ (unlowerable (function_of p.func)) h

FaithfulEntry : Entry → Type 0
FaithfulEntry e = Faithful e.owned.owner.name (function_of e.owned.func) e.lowered.caller e.lowered.callee

entry-faithful : (p : Owned) → IsTrue (function_fits p.func) → unlowered p ≡ None → FaithfulEntry (entry_for p)
unfolding FaithfulEntry
entry-faithful p h u = traces_are_faithful p.owner.name p.func (ap is_none (lowered-none p u)) h

as-entry : (f : AdaptedFunc) → FaithfulEntry (entry_of f) → IsFaithful f
unfolding FaithfulEntry
as-entry f h = subst (λ g. Faithful f.module.value.name g (map event_of f.caller.events) (map event_of f.callee.events)) (called-same f.func.value) h

none-faithful : All IsFaithful []
none-faithful k d h = absurd (omega arith)

entries-faithful : (fs : List AdaptedFunc) (ps : List Owned) → map entry_of fs ≡ map entry_for ps → FunctionsFit ps → first_unlowered ps ≡ None → All IsFaithful fs
entries-faithful [] ps e h u = none-faithful
entries-faithful (f ∷ fs) [] e h u = cc
entries-faithful (f ∷ fs) (p ∷ ps) e h u =
    let same : entry_for p ≡ entry_of f = cc in
    let rest : map entry_of fs ≡ map entry_for ps = cc in
    All-cons IsFaithful f fs (as-entry f (subst FaithfulEntry same (entry-faithful p h.0 (none-here (unlowered p) (first_unlowered ps) u))))
    (entries-faithful fs ps rest h.1 (none-later (unlowered p) (first_unlowered ps) u))

-- EVERY PAIR IS FAITHFUL
pub all-faithful : (ds : List DefinitionTree) (fs : List AdaptedFunc) → map entry_of fs ≡ map entry_for (all_functions ds) → first_misfit ds ≡ None → first_unlowered (all_functions ds) ≡ None
    → IsClosed ds → All IsFaithful fs
all-faithful ds fs e m u c = entries-faithful fs (all_functions ds) e (functions-fit ds c m) u
