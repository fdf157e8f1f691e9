-- What is counted of a sample's document: its typenames fit their tags and have sizes, and each of its functions can be lowered
-- and has 42 events.
use Rattle.std.proofs.Common.{◌≡◌, ℕ, zero, suc, ◌+◌, ◌*◌, ◌^◌, Bool, true, false, cond, nat_le, if◌then◌else◌, List, [], ◌∷◌, ◌++◌, length, map, flat_map, sum_by, append-nil, Option, Some, None, option_map, refl, sym, ap, ◌∙◌, subst, arith, codes}
use Rattle.std.specs.Option.{option_or}
use Rattle.std.proofs.lemmas.List.Sums.{sum_by-cons}
use Rattle.std.specs.Fmt.{decimal}
use Rattle.witx_base.specs.Texts.{same_text}
use Rattle.witx_ast.specs.declared.types.IntRepr.{IntRepr}
use Rattle.witx_ast.specs.declared.types.RecordKind.{RecordKind}
use Rattle.witx_ast.specs.declared.function.Abi.{Abi}
use Rattle.witx_ast.specs.Tree.{Tree, Fields, Arms}
use Rattle.witx_ast.specs.Plain as plain_tree
use Rattle.witx_ast.specs.Plain.{Plain, plain, plain_fields, plain_arms, field_count, arm_count}
use Rattle.witx_ast.specs.Functions.{FunctionTree}
use Rattle.witx_ast.specs.Items.{ItemTree, func_of}
use Rattle.witx_ast.specs.Definitions.{DefinitionTree, ModuleTree, typename_of, module_of, constant_of}
use Rattle.witx_ast.specs.Misfits.{Excess, misfits, field_misfits, arm_misfits, params_misfits, item_misfits, definition_misfits, first_here, first_misfit_from, beyond, most_cases, flags_beyond}
use Rattle.witx_machine.specs.declared.surface.WasmType.{WasmType}
use Rattle.witx_machine.specs.declared.surface.Place.{Place}
use Rattle.witx_machine.specs.Words.{same_types}
use Rattle.witx_machine.specs.Functions.{function_of}
use Rattle.witx_machine.specs.Signature.{param_words}
use Rattle.witx_machine.specs.Lowerable.{unlowerable}
use Rattle.witx_machine.specs.Traces.{caller_events, callee_events}
use Rattle.witx_layout.specs.declared.layout.SizeAlign.{SizeAlign}
use Rattle.witx_layout.specs.Numbers.{size_of}
use Rattle.witx_layout.specs.Layouts.{layout_of, all_layouts, first_large_from}
use Rattle.witx_adapt.specs.Entries.{Owned, Entry, entry_for, owned_item, all_functions}
use Rattle.witx_adapt.specs.Adaptable.{IsAdaptable, first_unlowered}
use Rattle.witx_read_back.specs.Emptied.{emptied, emptied_fields, emptied_arms}
use Rattle.witx_read_back.proofs.Printed.{emptied_definition}
use Rattle.witx_sample_laws.proofs.Documents.{the_enum, named_enum, the_record, named_record, the_variant, named_variant, the_string, enum_name, record_name, variant_name}

-- ---- documentation plays no part

mutual
  pub plain_emptied : (t : Tree) → plain (emptied t) ≡ plain t
  plain_emptied (Tree.named n t d) = plain_emptied t
  plain_emptied (Tree.builtin b) = refl
  plain_emptied Tree.handle = refl
  plain_emptied (Tree.list_of t) = ap (λ (p : Plain). Plain.list_of p) (plain_emptied t)
  plain_emptied (Tree.pointer_to t) = ap (λ (p : Plain). Plain.pointer_to p) (plain_emptied t)
  plain_emptied (Tree.const_pointer_to t) = ap (λ (p : Plain). Plain.const_pointer_to p) (plain_emptied t)
  plain_emptied (Tree.record_of k ms) = ap (λ (p : plain_tree.Fields). Plain.record_of k p) (plain_fields_emptied ms)
  plain_emptied (Tree.variant_of r cs) = ap (λ (p : plain_tree.Arms). Plain.variant_of r p) (plain_arms_emptied cs)

  plain_fields_emptied : (ms : Fields) → plain_fields (emptied_fields ms) ≡ plain_fields ms
  plain_fields_emptied Fields.no_fields = refl
  plain_fields_emptied (Fields.field n t d ms) =
      ap (λ (p : Plain). plain_tree.field n p (plain_fields (emptied_fields ms))) (plain_emptied t)
      ∙ ap (λ (p : plain_tree.Fields). plain_tree.field n (plain t) p) (plain_fields_emptied ms)

  plain_arms_emptied : (cs : Arms) → plain_arms (emptied_arms cs) ≡ plain_arms cs
  plain_arms_emptied Arms.no_arms = refl
  plain_arms_emptied (Arms.bare n d cs) = ap (λ (p : plain_tree.Arms). plain_tree.bare n p) (plain_arms_emptied cs)
  plain_arms_emptied (Arms.carries n t d cs) =
      ap (λ (p : Plain). plain_tree.carries n p (plain_arms (emptied_arms cs))) (plain_emptied t)
      ∙ ap (λ (p : plain_tree.Arms). plain_tree.carries n (plain t) p) (plain_arms_emptied cs)

mutual
  pub misfits_emptied : (t : Tree) → misfits (emptied t) ≡ misfits t
  misfits_emptied (Tree.named n t d) = refl
  misfits_emptied (Tree.builtin b) = refl
  misfits_emptied Tree.handle = refl
  misfits_emptied (Tree.list_of t) = misfits_emptied t
  misfits_emptied (Tree.pointer_to t) = misfits_emptied t
  misfits_emptied (Tree.const_pointer_to t) = misfits_emptied t
  misfits_emptied (Tree.record_of k ms) =
      ap (λ (p : plain_tree.Fields). flags_beyond k (field_count p) ++ field_misfits (emptied_fields ms)) (plain_fields_emptied ms)
      ∙ ap (λ (l : List Excess). flags_beyond k (field_count (plain_fields ms)) ++ l) (field_misfits_emptied ms)
  misfits_emptied (Tree.variant_of r cs) =
      ap (λ (p : plain_tree.Arms). beyond (most_cases r) (arm_count p) ++ arm_misfits (emptied_arms cs)) (plain_arms_emptied cs)
      ∙ ap (λ (l : List Excess). beyond (most_cases r) (arm_count (plain_arms cs)) ++ l) (arm_misfits_emptied cs)

  field_misfits_emptied : (ms : Fields) → field_misfits (emptied_fields ms) ≡ field_misfits ms
  field_misfits_emptied Fields.no_fields = refl
  field_misfits_emptied (Fields.field n t d ms) =
      ap (λ (l : List Excess). l ++ field_misfits (emptied_fields ms)) (misfits_emptied t) ∙ ap (λ (l : List Excess). misfits t ++ l) (field_misfits_emptied ms)

  arm_misfits_emptied : (cs : Arms) → arm_misfits (emptied_arms cs) ≡ arm_misfits cs
  arm_misfits_emptied Arms.no_arms = refl
  arm_misfits_emptied (Arms.bare n d cs) = arm_misfits_emptied cs
  arm_misfits_emptied (Arms.carries n t d cs) =
      ap (λ (l : List Excess). l ++ arm_misfits (emptied_arms cs)) (misfits_emptied t) ∙ ap (λ (l : List Excess). misfits t ++ l) (arm_misfits_emptied cs)

-- a name, of what its type is and of its documentation
pub record IsNamed (n : List ℕ) (u t : Tree) : Type 0 where
  pub inner : Tree
  pub docs : List ℕ
  pub is : t ≡ Tree.named n inner docs
  pub same : emptied inner ≡ u

named_parts : (m n : List ℕ) (t u : Tree) → Tree.named m t [] ≡ Tree.named n u [] → (m ≡ n) × (t ≡ u)
named_parts m n t u e = (cc, cc)

pub is_named : (n : List ℕ) (u t : Tree) → emptied t ≡ Tree.named n u [] → IsNamed n u t
is_named n u (Tree.named m t d) e =
    let p = named_parts m n (emptied t) u e in
    record { inner = t; docs = d; is = ap (λ (k : List ℕ). Tree.named k t d) p.0; same = p.1 }
is_named n u (Tree.builtin b) e = absurd (cc)
is_named n u Tree.handle e = absurd (cc)
is_named n u (Tree.list_of t) e = absurd (cc)
is_named n u (Tree.pointer_to t) e = absurd (cc)
is_named n u (Tree.const_pointer_to t) e = absurd (cc)
is_named n u (Tree.record_of k ms) e = absurd (cc)
is_named n u (Tree.variant_of r cs) e = absurd (cc)

-- ---- a function

-- the parts of a function that may differ: its name, its documentation, and what its names stand for
abbrev pub a_function : (name : List ℕ) (p q s : List ℕ) (a b c d : List ℕ) (variant record_ ok err : Tree) → FunctionTree
a_function name p q s a b c d variant record_ ok err = record {
  abi = Abi.Preview1;
  name = name;
  params = record { called = p; tree = variant; comment = a } ∷ record { called = q; tree = the_string; comment = b } ∷ [];
  results = record {
    called = s;
    tree = Tree.variant_of IntRepr.U32 (
        Arms.carries (codes "ok") (Tree.record_of RecordKind.Tuple (Fields.field (decimal 0) record_ [] (Fields.field (decimal 1) ok [] Fields.no_fields))) [] (
        Arms.carries (codes "err") err [] Arms.no_arms));
    comment = c;
  } ∷ [];
  noreturn = false;
  comment = d;
}

-- it can be lowered, fits its tags, and its two traces have 42 events
pub record IsCounted (f : FunctionTree) : Type 0 where
  pub lowered : unlowerable (function_of f) ≡ None
  pub params_fit : params_misfits f.params ≡ []
  pub results_fit : params_misfits f.results ≡ []
  pub events : (m : List ℕ) → length (caller_events m (function_of f)) + length (callee_events m (function_of f)) ≡ 42

module _ (name : List ℕ) (p q s : List ℕ) (a b c d : List ℕ) (variant record_ ok err : List ℕ) (v r e f : Tree) (j k l o : List ℕ) where
  abbrev the_function : FunctionTree
  the_function = a_function name p q s a b c d (Tree.named variant v j) (Tree.named record_ r k) (Tree.named ok e l) (Tree.named err f o)

  is_lowered : same_types (param_words (plain f)) (WasmType.I32 ∷ []) ≡ true → unlowerable (function_of the_function) ≡ None
  unfolding same_text
  is_lowered h = ap (λ (t : Bool). cond t None (Some (Place.Result 0))) h

  -- of the caller the number is computed; the callee's takes a word for each word of the variant
  callee_is : (m : List ℕ) → param_words (plain v) ≡ WasmType.I32 ∷ [] → length (callee_events m (function_of the_function)) ≡ 20
  callee_is m h = rw h refl

words_as : (t u : Tree) → emptied t ≡ u → param_words (plain t) ≡ param_words (plain u)
words_as t u e = ap (λ (p : Plain). param_words p) (sym (plain_emptied t) ∙ ap (λ (x : Tree). plain x) e)

-- where its names stand for the types of the sample but for documentation
pub is_counted : (i : ℕ) (name p q s a b c d : List ℕ) (v r e f : Tree) → emptied v ≡ named_variant i → emptied r ≡ named_record i → emptied e ≡ named_enum → emptied f ≡ named_enum
    → IsCounted (a_function name p q s a b c d v r e f)
is_counted i name p q s a b c d v r e f hv hr he hf =
    let x = is_named (variant_name i) (the_variant i) v hv in
    let y = is_named (record_name i) the_record r hr in
    let z = is_named enum_name the_enum e he in
    let w = is_named enum_name the_enum f hf in
    subst (λ (t : Tree). IsCounted (a_function name p q s a b c d t r e f)) (sym x.is)
    (subst (λ (t : Tree). IsCounted (a_function name p q s a b c d (Tree.named (variant_name i) x.inner x.docs) t e f)) (sym y.is)
    (subst (λ (t : Tree). IsCounted (a_function name p q s a b c d (Tree.named (variant_name i) x.inner x.docs) (Tree.named (record_name i) y.inner y.docs) t f)) (sym z.is)
    (subst (λ (t : Tree). IsCounted (a_function name p q s a b c d (Tree.named (variant_name i) x.inner x.docs) (Tree.named (record_name i) y.inner y.docs) (Tree.named enum_name z.inner z.docs) t)) (sym w.is)
    (named_counted i name p q s a b c d x.inner y.inner z.inner w.inner x.docs y.docs z.docs w.docs (words_as x.inner (the_variant i) x.same) (words_as w.inner the_enum w.same)))))
  where
    named_counted : (i : ℕ) (name p q s a b c d : List ℕ) (v r e f : Tree) (j k l o : List ℕ) → param_words (plain v) ≡ WasmType.I32 ∷ [] → param_words (plain f) ≡ WasmType.I32 ∷ []
        → IsCounted (a_function name p q s a b c d (Tree.named (variant_name i) v j) (Tree.named (record_name i) r k) (Tree.named enum_name e l) (Tree.named enum_name f o))
    named_counted i name p q s a b c d v r e f j k l o hv hf = record {
      lowered = is_lowered name p q s a b c d (variant_name i) (record_name i) enum_name enum_name v r e f j k l o (ap (λ (ws : List WasmType). same_types ws (WasmType.I32 ∷ [])) hf);
      params_fit = refl;
      results_fit = refl;
      events = λ m. ap (λ (x : ℕ). 22 + x) (callee_is name p q s a b c d (variant_name i) (record_name i) enum_name enum_name v r e f j k l o m hv);
    }

-- ---- a document of such definitions

-- a typename, by what it stands for but for documentation
pub record IsTypename (n : List ℕ) (t : Tree) (x : DefinitionTree) : Type 0 where
  pub tree : Tree
  pub docs : List ℕ
  pub is : x ≡ typename_of n tree docs
  pub same : emptied tree ≡ t

typename_parts : (m n : List ℕ) (t u : Tree) → typename_of m t [] ≡ typename_of n u [] → (m ≡ n) × (t ≡ u)
typename_parts m n t u e = (cc, cc)

pub is_typename : (n : List ℕ) (t : Tree) (x : DefinitionTree) → emptied_definition x ≡ typename_of n t [] → IsTypename n t x
is_typename n t (typename_of m u d) e =
    let p = typename_parts m n (emptied u) t e in
    record { tree = u; docs = d; is = ap (λ (k : List ℕ). typename_of k u d) p.0; same = p.1 }
is_typename n t (module_of o) e = absurd (cc)
is_typename n t (constant_of c) e = absurd (cc)

-- k functions
abbrev pub AreCounted : ℕ → List ItemTree → Type 0
AreCounted zero items = items ≡ []
AreCounted (suc k) items = (f : FunctionTree) × (more : List ItemTree) × (items ≡ func_of f ∷ more) × IsCounted f × AreCounted k more

abbrev pub IsModule : ℕ → List DefinitionTree → Type 0
IsModule n ds = (m : ModuleTree) × (ds ≡ module_of m ∷ []) × AreCounted n m.items

-- the records and variants of k numbers from i on, and a module of n functions
abbrev pub AreTypes : (i k n : ℕ) → List DefinitionTree → Type 0
AreTypes i zero n ds = IsModule n ds
AreTypes i (suc k) n ds = (x : DefinitionTree) × (y : DefinitionTree) × (more : List DefinitionTree) × (ds ≡ x ∷ y ∷ more)
    × IsTypename (record_name i) the_record x × IsTypename (variant_name i) (the_variant i) y × AreTypes (i + 1) k n more

-- the definitions of a sample, but for documentation
abbrev pub IsSample : ℕ → List DefinitionTree → Type 0
IsSample n ds = (x : DefinitionTree) × (more : List DefinitionTree) × (ds ≡ x ∷ more) × IsTypename enum_name the_enum x × AreTypes 0 n n more

-- ---- it can be adapted

typename_fits : (n : List ℕ) (t : Tree) (x : DefinitionTree) → IsTypename n t x → misfits t ≡ [] → definition_misfits x ≡ []
typename_fits n t x h e = ap (λ (d : DefinitionTree). definition_misfits d) h.is ∙ (sym (misfits_emptied h.tree) ∙ (ap (λ (u : Tree). misfits u) h.same ∙ e))

fits_step : (j : ℕ) (x : DefinitionTree) (ds : List DefinitionTree) → definition_misfits x ≡ [] → first_misfit_from (j + 1) ds ≡ None → first_misfit_from j (x ∷ ds) ≡ None
fits_step j x ds e h = ap (λ (l : List Excess). first_here j l (first_misfit_from (j + 1) ds)) e ∙ h

items_fit : (k : ℕ) (items : List ItemTree) → AreCounted k items → item_misfits items ≡ []
items_fit zero items h = ap (λ (l : List ItemTree). item_misfits l) h
items_fit (suc k) items h =
    ap (λ (l : List ItemTree). item_misfits l) h.2
    ∙ (ap (λ (l : List Excess). l ++ params_misfits h.0.results ++ item_misfits h.1) h.3.params_fit
    ∙ (ap (λ (l : List Excess). l ++ item_misfits h.1) h.3.results_fit ∙ items_fit k h.1 h.4))

types_fit : (i k n j : ℕ) (ds : List DefinitionTree) → AreTypes i k n ds → first_misfit_from j ds ≡ None
types_fit i zero n j ds h = ap (λ (l : List DefinitionTree). first_misfit_from j l) h.1 ∙ fits_step j (module_of h.0) [] (items_fit n h.0.items h.2) refl
types_fit i (suc k) n j ds h =
    ap (λ (l : List DefinitionTree). first_misfit_from j l) h.3
    ∙ fits_step j h.0 (h.1 ∷ h.2) (typename_fits (record_name i) the_record h.0 h.4 refl)
    (fits_step (j + 1) h.1 h.2 (typename_fits (variant_name i) (the_variant i) h.1 h.5 refl) (types_fit (i + 1) k n (j + 1 + 1) h.2 h.6))

same_size : (n : List ℕ) (t : Tree) (x : DefinitionTree) (h : IsTypename n t x) → size_of (plain h.tree) ≡ size_of (plain t)
same_size n t x h = ap (λ (p : Plain). size_of p) (sym (plain_emptied h.tree) ∙ ap (λ (u : Tree). plain u) h.same)

small_step : (j : ℕ) (n : List ℕ) (t : Tree) (x : DefinitionTree) (ds : List DefinitionTree) → IsTypename n t x → nat_le (2 ^ 64) (size_of (plain t)) ≡ false → first_large_from (j + 1) ds ≡ None
    → first_large_from j (x ∷ ds) ≡ None
small_step j n t x ds h e s =
    ap (λ (d : DefinitionTree). first_large_from j (d ∷ ds)) h.is
    ∙ (ap (λ (b : Bool). option_or (if b then Some j else None) (first_large_from (j + 1) ds)) (ap (λ (m : ℕ). nat_le (2 ^ 64) m) (same_size n t x h) ∙ e) ∙ s)

types_small : (i k n j : ℕ) (ds : List DefinitionTree) → AreTypes i k n ds → first_large_from j ds ≡ None
types_small i zero n j ds h = ap (λ (l : List DefinitionTree). first_large_from j l) h.1
types_small i (suc k) n j ds h =
    ap (λ (l : List DefinitionTree). first_large_from j l) h.3
    ∙ small_step j (record_name i) the_record h.0 (h.1 ∷ h.2) h.4 refl (small_step (j + 1) (variant_name i) (the_variant i) h.1 h.2 h.5 refl (types_small (i + 1) k n (j + 1 + 1) h.2 h.6))

items_lowered : (m : ModuleTree) (k : ℕ) (items : List ItemTree) → AreCounted k items → first_unlowered (flat_map (owned_item m) items) ≡ None
items_lowered m zero items h = ap (λ (l : List ItemTree). first_unlowered (flat_map (owned_item m) l)) h
items_lowered m (suc k) items h =
    ap (λ (l : List ItemTree). first_unlowered (flat_map (owned_item m) l)) h.2
    ∙ (ap (λ (o : Option Place). option_or (option_map (λ place. record { owner = m.name; function = h.0.name; place = place }) o) (first_unlowered (flat_map (owned_item m) h.1))) h.3.lowered
    ∙ items_lowered m k h.1 h.4)

-- the functions of a document are those of its last definition
functions_step : (n : List ℕ) (t : Tree) (x : DefinitionTree) (ds : List DefinitionTree) → IsTypename n t x → all_functions (x ∷ ds) ≡ all_functions ds
functions_step n t x ds h = ap (λ (d : DefinitionTree). all_functions (d ∷ ds)) h.is

pub record ModuleOf (n : ℕ) (ds : List DefinitionTree) : Type 0 where
  pub owner : ModuleTree
  pub functions : all_functions ds ≡ flat_map (owned_item owner) owner.items
  pub counted : AreCounted n owner.items

types_module : (i k n : ℕ) (ds : List DefinitionTree) → AreTypes i k n ds → ModuleOf n ds
types_module i zero n ds h = record { owner = h.0; functions = ap (λ (l : List DefinitionTree). all_functions l) h.1 ∙ append-nil (flat_map (owned_item h.0) h.0.items); counted = h.2 }
types_module i (suc k) n ds h =
    let m = types_module (i + 1) k n h.2 h.6 in
    record {
      owner = m.owner;
      functions = ap (λ (l : List DefinitionTree). all_functions l) h.3 ∙ (functions_step (record_name i) the_record h.0 (h.1 ∷ h.2) h.4 ∙ (functions_step (variant_name i) (the_variant i) h.1 h.2 h.5 ∙ m.functions));
      counted = m.counted;
    }

sample_module : (n : ℕ) (ds : List DefinitionTree) → IsSample n ds → ModuleOf n ds
sample_module n ds h =
    let m = types_module 0 n n h.1 h.4 in
    record {
      owner = m.owner;
      functions = ap (λ (l : List DefinitionTree). all_functions l) h.2 ∙ (functions_step enum_name the_enum h.0 h.1 h.3 ∙ m.functions);
      counted = m.counted;
    }

pub sample_adaptable : (n : ℕ) (ds : List DefinitionTree) → IsSample n ds → IsAdaptable ds
unfolding same_text
sample_adaptable n ds h =
    let m = sample_module n ds h in
    record {
      fits = ap (λ (l : List DefinitionTree). first_misfit_from 0 l) h.2 ∙ fits_step 0 h.0 h.1 (typename_fits enum_name the_enum h.0 h.3 refl) (types_fit 0 n n (0 + 1) h.1 h.4);
      sizes = ap (λ (l : List DefinitionTree). first_large_from 0 l) h.2 ∙ small_step 0 enum_name the_enum h.0 h.1 h.3 refl (types_small 0 n n (0 + 1) h.1 h.4);
      lowerable = ap (λ (l : List Owned). first_unlowered l) m.functions ∙ items_lowered m.owner n m.owner.items m.counted;
    }

-- ---- its numbers

abbrev pub layout_size : SizeAlign → ℕ
layout_size l = l.size

layouts_step : (n : List ℕ) (t : Tree) (x : DefinitionTree) (ds : List DefinitionTree) → IsTypename n t x → (length (all_layouts (x ∷ ds)) ≡ length (all_layouts ds) + 1) × (sum_by layout_size (all_layouts (x ∷ ds)) ≡ size_of (plain t) + sum_by layout_size (all_layouts ds))
layouts_step n t x ds h = (
  ap (λ (d : DefinitionTree). length (all_layouts (d ∷ ds))) h.is ∙ omega arith,
  (let s = ap (λ (d : DefinitionTree). sum_by layout_size (all_layouts (d ∷ ds))) h.is ∙ sum_by-cons layout_size (layout_of h.tree) (all_layouts ds) in
      let z = same_size n t x h in
      omega (arith, s, z)),
)

types_layouts : (i k n : ℕ) (ds : List DefinitionTree) → AreTypes i k n ds → (length (all_layouts ds) ≡ 2 * k) × (sum_by layout_size (all_layouts ds) ≡ 40 * k)
types_layouts i zero n ds h = (ap (λ (l : List DefinitionTree). length (all_layouts l)) h.1, ap (λ (l : List DefinitionTree). sum_by layout_size (all_layouts l)) h.1)
types_layouts i (suc k) n ds h =
    let a = layouts_step (record_name i) the_record h.0 (h.1 ∷ h.2) h.4 in
    let b = layouts_step (variant_name i) (the_variant i) h.1 h.2 h.5 in
    let c = types_layouts (i + 1) k n h.2 h.6 in
    let count = ap (λ (l : List DefinitionTree). length (all_layouts l)) h.3 in
    let sizes = ap (λ (l : List DefinitionTree). sum_by layout_size (all_layouts l)) h.3 in
    (omega (arith, a.0, b.0, c.0, count), omega (arith, a.1, b.1, c.1, sizes))

pub sample_layouts : (n : ℕ) (ds : List DefinitionTree) → IsSample n ds → (length (all_layouts ds) ≡ 2 * n + 1) × (sum_by layout_size (all_layouts ds) ≡ 40 * n + 2)
sample_layouts n ds h =
    let a = layouts_step enum_name the_enum h.0 h.1 h.3 in
    let c = types_layouts 0 n n h.1 h.4 in
    let count = ap (λ (l : List DefinitionTree). length (all_layouts l)) h.2 in
    let sizes = ap (λ (l : List DefinitionTree). sum_by layout_size (all_layouts l)) h.2 in
    (omega (arith, a.0, c.0, count), omega (arith, a.1, c.1, sizes))

-- the events of an entry
abbrev pub entry_events : Entry → ℕ
entry_events e = length e.lowered.caller + length e.lowered.callee

items_counted : (m : ModuleTree) (k : ℕ) (items : List ItemTree) → AreCounted k items
    → (length (flat_map (owned_item m) items) ≡ k) × (sum_by entry_events (map entry_for (flat_map (owned_item m) items)) ≡ 42 * k)
items_counted m zero items h = (ap (λ (l : List ItemTree). length (flat_map (owned_item m) l)) h, ap (λ (l : List ItemTree). sum_by entry_events (map entry_for (flat_map (owned_item m) l))) h)
items_counted m (suc k) items h =
    let c = items_counted m k h.1 h.4 in
    let count = ap (λ (l : List ItemTree). length (flat_map (owned_item m) l)) h.2 in
    let more = map entry_for (flat_map (owned_item m) h.1) in
    let sum = ap (λ (l : List ItemTree). sum_by entry_events (map entry_for (flat_map (owned_item m) l))) h.2 ∙ sum_by-cons entry_events (entry_for (record { owner = m; func = h.0 })) more in
    (omega (arith, count, c.0), omega (arith, sum, h.3.events m.name, c.1))

pub sample_functions : (n : ℕ) (ds : List DefinitionTree) → IsSample n ds → (length (all_functions ds) ≡ n) × (sum_by entry_events (map entry_for (all_functions ds)) ≡ 42 * n)
sample_functions n ds h =
    let m = sample_module n ds h in
    let c = items_counted m.owner n m.owner.items m.counted in
    (ap (λ (l : List Owned). length l) m.functions ∙ c.0, ap (λ (l : List Owned). sum_by entry_events (map entry_for l)) m.functions ∙ c.1)
