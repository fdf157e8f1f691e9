-- An ordered document: each name inside a typename's type is that of a typename that stands before it, and the types behind both are equal.
use Rattle.std.specs.Prelude.{◌≡◌, ℕ, List, [], ◌∷◌, ◌++◌, Some}
use Rattle.witx_ast.specs.Tree.{Tree, Fields, Arms, behind}
use Rattle.witx_ast.specs.Definitions.{DefinitionTree, typename_of, module_of, constant_of, typename_called}

-- among the definitions before there is a typename of that name, for an equal type
abbrev pub StandsBefore : List DefinitionTree → List ℕ → Tree → Type 0
StandsBefore before name t = (u : Tree) × (typename_called before name ≡ Some u) × (behind u ≡ behind t)

-- so for each name in a type; what a name stands for isn't entered
abbrev mutual
  pub NamesStand : List DefinitionTree → Tree → Type 0
  NamesStand before (Tree.named name t docs) = StandsBefore before name t
  NamesStand before (Tree.builtin b) = Unit {0}
  NamesStand before Tree.handle = Unit {0}
  NamesStand before (Tree.list_of t) = NamesStand before t
  NamesStand before (Tree.pointer_to t) = NamesStand before t
  NamesStand before (Tree.const_pointer_to t) = NamesStand before t
  NamesStand before (Tree.record_of kind ms) = FieldNamesStand before ms
  NamesStand before (Tree.variant_of repr cs) = ArmNamesStand before cs

  pub FieldNamesStand : List DefinitionTree → Fields → Type 0
  FieldNamesStand before Fields.no_fields = Unit {0}
  FieldNamesStand before (Fields.field name t docs ms) = NamesStand before t × FieldNamesStand before ms

  pub ArmNamesStand : List DefinitionTree → Arms → Type 0
  ArmNamesStand before Arms.no_arms = Unit {0}
  ArmNamesStand before (Arms.bare name docs cs) = ArmNamesStand before cs
  ArmNamesStand before (Arms.carries name t docs cs) = NamesStand before t × ArmNamesStand before cs

abbrev pub DefinitionStands : List DefinitionTree → DefinitionTree → Type 0
DefinitionStands before (typename_of name t docs) = NamesStand before t
DefinitionStands before (module_of m) = Unit {0}
DefinitionStands before (constant_of c) = Unit {0}

-- the definitions that follow those before
abbrev pub OrderedAfter : List DefinitionTree → List DefinitionTree → Type 0
OrderedAfter before [] = Unit {0}
OrderedAfter before (d ∷ ds) = DefinitionStands before d × OrderedAfter (before ++ d ∷ []) ds

abbrev pub IsOrdered : List DefinitionTree → Type 0
IsOrdered = OrderedAfter []
