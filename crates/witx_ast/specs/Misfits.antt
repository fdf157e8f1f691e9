-- The types of a document that don't fit their tags, in document order: definition by definition,
-- a function's parameters before its results, a type before its parts.
-- Types are taken as they are written: a name isn't looked through, and the targets of lists and pointers are entered.
use Rattle.std.specs.List.{AllByRecursion}
use Rattle.std.specs.Prelude.{ℕ, ◌+◌, ◌^◌, List, [], ◌∷◌, ◌++◌, min, Option, Some, None, nat_le, if◌then◌else◌}
use Rattle.witx_ast.specs.declared.types.IntRepr.{IntRepr}
use Rattle.witx_ast.specs.declared.types.RecordKind.{RecordKind}
use Rattle.witx_ast.specs.Tree.{Tree, Fields, Arms, Field}
use Rattle.witx_ast.specs.Plain.{plain, plain_fields, plain_arms, field_count, arm_count}
use Rattle.witx_ast.specs.Tags.{repr_bits, NodeFits}
use Rattle.witx_ast.specs.Items.{ItemTree, import_of, func_of}
use Rattle.witx_ast.specs.Definitions.{DefinitionTree, typename_of, module_of, constant_of}

-- how many flags or cases there are, and how many there may be
pub record Excess : Type 0 where
  pub count : ℕ
  pub most : ℕ

abbrev pub beyond : ℕ → ℕ → List Excess
beyond most count = if nat_le count most then [] else record { count = count; most = most } ∷ []

-- how many cases a tag tells apart
abbrev pub most_cases : IntRepr → ℕ
most_cases repr = min (2 ^ repr_bits repr) (2 ^ 32)

abbrev pub flags_beyond : RecordKind → ℕ → List Excess
flags_beyond (RecordKind.Bitflags repr) count = beyond (repr_bits repr) count
flags_beyond RecordKind.Tuple count = []
flags_beyond RecordKind.Other count = []

abbrev mutual
  pub misfits : Tree → List Excess
  misfits (Tree.named name t docs) = []
  misfits (Tree.builtin b) = []
  misfits Tree.handle = []
  misfits (Tree.list_of t) = misfits t
  misfits (Tree.pointer_to t) = misfits t
  misfits (Tree.const_pointer_to t) = misfits t
  misfits (Tree.record_of kind ms) = flags_beyond kind (field_count (plain_fields ms)) ++ field_misfits ms
  misfits (Tree.variant_of repr cs) = beyond (most_cases repr) (arm_count (plain_arms cs)) ++ arm_misfits cs

  pub field_misfits : Fields → List Excess
  field_misfits Fields.no_fields = []
  field_misfits (Fields.field name t docs ms) = misfits t ++ field_misfits ms

  pub arm_misfits : Arms → List Excess
  arm_misfits Arms.no_arms = []
  arm_misfits (Arms.bare name docs cs) = arm_misfits cs
  arm_misfits (Arms.carries name t docs cs) = misfits t ++ arm_misfits cs

abbrev pub params_misfits : List Field → List Excess
params_misfits [] = []
params_misfits (p ∷ ps) = misfits p.tree ++ params_misfits ps

abbrev pub item_misfits : List ItemTree → List Excess
item_misfits [] = []
item_misfits (import_of i ∷ items) = item_misfits items
item_misfits (func_of f ∷ items) = params_misfits f.params ++ params_misfits f.results ++ item_misfits items

abbrev pub definition_misfits : DefinitionTree → List Excess
definition_misfits (typename_of name t docs) = misfits t
definition_misfits (module_of m) = item_misfits m.items
definition_misfits (constant_of c) = []

-- the number of the definition, counted from 0
pub record Misfit : Type 0 where
  pub definition : ℕ
  pub excess : Excess

-- the first of a definition, or else the one told of those behind it
abbrev pub first_here : ℕ → List Excess → Option Misfit → Option Misfit
first_here n [] others = others
first_here n (e ∷ es) others = Some (record { definition = n; excess = e })

-- the first misfit of definitions that are counted from n
abbrev pub first_misfit_from : ℕ → List DefinitionTree → Option Misfit
first_misfit_from n [] = None
first_misfit_from n (d ∷ ds) = first_here n (definition_misfits d) (first_misfit_from (n + 1) ds)

abbrev pub first_misfit : List DefinitionTree → Option Misfit
first_misfit = first_misfit_from 0

-- each node of a type fits its tag, the type being taken as it is written
abbrev mutual
  pub NodesFit : Tree → Type 0
  NodesFit (Tree.named name t docs) = Unit {0}
  NodesFit (Tree.builtin b) = Unit {0}
  NodesFit Tree.handle = Unit {0}
  NodesFit (Tree.list_of t) = NodesFit t
  NodesFit (Tree.pointer_to t) = NodesFit t
  NodesFit (Tree.const_pointer_to t) = NodesFit t
  NodesFit (Tree.record_of kind ms) = NodeFits (plain (Tree.record_of kind ms)) × FieldNodesFit ms
  NodesFit (Tree.variant_of repr cs) = NodeFits (plain (Tree.variant_of repr cs)) × ArmNodesFit cs

  pub FieldNodesFit : Fields → Type 0
  FieldNodesFit Fields.no_fields = Unit {0}
  FieldNodesFit (Fields.field name t docs ms) = NodesFit t × FieldNodesFit ms

  pub ArmNodesFit : Arms → Type 0
  ArmNodesFit Arms.no_arms = Unit {0}
  ArmNodesFit (Arms.bare name docs cs) = ArmNodesFit cs
  ArmNodesFit (Arms.carries name t docs cs) = NodesFit t × ArmNodesFit cs

-- so for an import, which has none, and for a function's parameters and results
abbrev pub ItemNodesFit : ItemTree → Type 0
ItemNodesFit (import_of i) = Unit {0}
ItemNodesFit (func_of f) = AllByRecursion (λ p. NodesFit p.tree) f.params × AllByRecursion (λ p. NodesFit p.tree) f.results

abbrev pub DefinitionNodesFit : DefinitionTree → Type 0
DefinitionNodesFit (typename_of name t docs) = NodesFit t
DefinitionNodesFit (module_of m) = AllByRecursion ItemNodesFit m.items
DefinitionNodesFit (constant_of c) = Unit {0}

-- each type node of a document fits its tag
abbrev pub AllNodesFit : List DefinitionTree → Type 0
AllNodesFit = AllByRecursion DefinitionNodesFit
