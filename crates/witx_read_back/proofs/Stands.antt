-- When a printed type can stand at a place: what its names denote there, and where its parts may stand.
use Rattle.std.specs.Prelude.{◌≡◌, ℕ, ◌+◌, Bool, true, false, List, [], ◌∷◌, ◌++◌, map, Option, None, Some}
use Rattle.std.specs.List.{list_any}
use Rattle.std.specs.Ordering.{is_eq, nat_cmp}
use Rattle.std.specs.Cmp.Lexicographic.{slice_cmp}
use Rattle.witx_ast.specs.declared.types.IntRepr.{IntRepr}
use Rattle.witx_ast.specs.declared.types.RecordKind.{RecordKind}
use Rattle.witx_base.specs.Found.{found}
use Rattle.witx_ast.specs.Tree.{Tree, Fields, Arms, Field, arm_list}
use Rattle.witx_ast.specs.Functions.{FunctionTree}
use Rattle.witx_ast.specs.Items.{ItemTree, import_of, func_of}
use Rattle.witx_ast.specs.Definitions.{DefinitionTree, typename_of, module_of, constant_of}
use Rattle.witx_ast.specs.Results.{results_reason}
use Rattle.witx_ast.specs.Words.{is_bool_arms}
use Rattle.witx_scope.specs.Trees.{bool_tree, number_name}
use Rattle.witx_scope.specs.Tags as tags
use Rattle.witx_scope.specs.Modules.{item_called}
use Rattle.witx_render.specs.TypeExpressions.{have_no_payload}
use Rattle.witx_render.specs.ModuleExpressions.{items_in_order}
use Rattle.witx_read_back.specs.Distinct.{any_same, AllNew}
use Rattle.witx_read_back.specs.Emptied.{emptied}

abbrev pub field_names : Fields → List (List ℕ)
field_names Fields.no_fields = []
field_names (Fields.field n t d ms) = n ∷ field_names ms

-- members of flags
abbrev pub AreFlags : Fields → Type 0
AreFlags Fields.no_fields = Unit {0}
AreFlags (Fields.field n t d ms) = (emptied t ≡ bool_tree) × AreFlags ms

-- members of a tuple are named by their numbers
abbrev pub NumbersFrom : ℕ → Fields → Type 0
NumbersFrom i Fields.no_fields = Unit {0}
NumbersFrom i (Fields.field n t d ms) = (n ≡ number_name i) × NumbersFrom (i + 1) ms

abbrev pub StandsRecord : RecordKind → Bool → Fields → Type 0 → Type 0
StandsRecord RecordKind.Tuple named ms S = NumbersFrom 0 ms × S
StandsRecord (RecordKind.Bitflags r) named ms S = (named ≡ true) × AllNew [] (field_names ms) × AreFlags ms
StandsRecord RecordKind.Other named ms S = (named ≡ true) × AllNew [] (field_names ms) × S

abbrev pub StandsVariant : Bool → Bool → Bool → IntRepr → Arms → Type 0 → Type 0
StandsVariant true bare named r cs S = r ≡ IntRepr.U32
StandsVariant false true named r cs S = (named ≡ true) × AllNew [] (tags.arm_names cs)
StandsVariant false false named r cs S = S

-- which names stand for which types, documentation emptied
abbrev pub Denotes : Type 1
Denotes = List ℕ → Tree → Type 0

abbrev mutual
  pub Stands : Denotes → Bool → Tree → Type 0
  Stands D named (Tree.named n t d) = D n (emptied (Tree.named n t d))
  Stands D named (Tree.builtin b) = Unit {0}
  Stands D named Tree.handle = named ≡ true
  Stands D named (Tree.list_of t) = Stands D false t
  Stands D named (Tree.pointer_to t) = Stands D false t
  Stands D named (Tree.const_pointer_to t) = Stands D false t
  Stands D named (Tree.record_of kind ms) = StandsRecord kind named ms (FieldsStand D ms)
  Stands D named (Tree.variant_of r cs) = StandsVariant (is_bool_arms (arm_list cs)) (have_no_payload cs) named r cs (ArmsStand D cs)

  pub FieldsStand : Denotes → Fields → Type 0
  FieldsStand D Fields.no_fields = Unit {0}
  FieldsStand D (Fields.field n t d ms) = Stands D false t × FieldsStand D ms

  pub ArmsStand : Denotes → Arms → Type 0
  ArmsStand D Arms.no_arms = Unit {0}
  ArmsStand D (Arms.bare n d cs) = ArmsStand D cs
  ArmsStand D (Arms.carries n t d cs) = Stands D false t × ArmsStand D cs

-- ---- functions, modules, documents

abbrev pub param_names : List Field → List (List ℕ)
param_names ps = map (λ p. p.called) ps

-- the names of a scope after some names
abbrev pub scope_after : List (List ℕ) → List (List ℕ) → List (List ℕ)
scope_after seen [] = seen
scope_after seen (n ∷ ns) = scope_after (n ∷ seen) ns

abbrev pub ParamsStand : Denotes → List Field → Type 0
ParamsStand D [] = Unit {0}
ParamsStand D (p ∷ ps) = Stands D false p.tree × ParamsStand D ps

pub record FuncStands (D : Denotes) (f : FunctionTree) : Type 0 where
  pub params : ParamsStand D f.params
  pub results : ParamsStand D f.results
  pub param_names_new : AllNew [] (param_names f.params)
  pub result_names_new : AllNew (scope_after [] (param_names f.params)) (param_names f.results)
  pub permitted : results_reason f.abi f.results ≡ None

abbrev pub ItemStands : Denotes → ItemTree → Type 0
ItemStands D (import_of i) = Unit {0}
ItemStands D (func_of f) = FuncStands D f

abbrev pub ItemsStand : Denotes → List ItemTree → Type 0
ItemsStand D [] = Unit {0}
ItemsStand D (i ∷ is) = ItemStands D i × ItemsStand D is

-- names that are introduced, each with its type, documentation emptied, or none for a module
abbrev pub Known : Type 0
Known = List (List ℕ × Option Tree)

abbrev pub denoted : Known → Denotes
denoted known n t = found known n ≡ Some (Some t)

abbrev pub learned : Known → DefinitionTree → Known
learned known (typename_of n t d) = known ++ (n, Some (Tree.named n (emptied t) [])) ∷ []
learned known (module_of m) = known ++ (m.name, None) ∷ []
learned known (constant_of c) = known

abbrev pub DefinitionStands : Known → DefinitionTree → Type 0
DefinitionStands known (typename_of n t d) = (found known n ≡ None) × Stands (denoted known) true t
DefinitionStands known (module_of m) = (found known m.name ≡ None) × AllNew [] (map item_called (items_in_order m.items)) × ItemsStand (denoted known) (items_in_order m.items)
DefinitionStands known (constant_of c) = ⊥

-- definitions in the order in which they are printed
abbrev pub DefinitionsStand : Known → List DefinitionTree → Type 0
DefinitionsStand known [] = Unit {0}
DefinitionsStand known (d ∷ ds) = DefinitionStands known d × DefinitionsStand (learned known d) ds
