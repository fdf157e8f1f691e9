-- A table of layouts by name knows a type: it tells the layout of each name that is a part of it. The targets of lists
-- and pointers don't count. A type that is flat needs no entry.
use Rattle.std.specs.Prelude.{◌≡◌, ◌⊎◌, ℕ, List, map, Bool, true, false, Option, Some, None, cond}
use Rattle.std.specs.List.{IsDistinct}
use Rattle.std.specs.Map.{keys_of}
use Rattle.witx_base.specs.Texts.{same_text}
use Rattle.witx_base.specs.Found.{found}
use Rattle.std.specs.Ordering.{is_eq, nat_cmp}
use Rattle.std.specs.Cmp.Lexicographic.{slice_cmp}
use Rattle.witx_ast.specs.Tree.{Tree, Fields, Arms}
use Rattle.witx_ast.specs.Plain.{Plain, plain}
use Rattle.witx_ast.specs.Entries.{by_name}
use Rattle.witx_ast.specs.declared.definition.Definition.{Definition}
use Rattle.witx_ast.specs.Definitions.{DefinitionTree, definition_tree, introduced, typename_of, module_of, constant_of}
use Rattle.witx_ast.specs.declared.types.RecordKind.{RecordKind}
use Rattle.witx_layout.specs.declared.layout.SizeAlign.{SizeAlign}
use Rattle.witx_layout.specs.Layouts.{plain_layout}
use Rattle.witx_layout.specs.LayoutsText.{part_lines}

-- flags are as wide as their representation, whatever their members are
abbrev pub are_flags : RecordKind → Bool
are_flags (RecordKind.Bitflags repr) = true
are_flags RecordKind.Tuple = false
are_flags RecordKind.Other = false

-- a type whose layout doesn't depend on those of its parts
abbrev pub is_flat : Plain → Bool
is_flat (Plain.builtin b) = true
is_flat Plain.handle = true
is_flat (Plain.list_of t) = true
is_flat (Plain.pointer_to t) = true
is_flat (Plain.const_pointer_to t) = true
is_flat (Plain.record_of kind ms) = are_flags kind
is_flat (Plain.variant_of repr cs) = false

-- what a table has at the name of a type: an entry is the type's layout, and only a flat type has none
abbrev pub Tells : Option SizeAlign → Plain → Type 0
Tells (Some layout) t = layout ≡ plain_layout t
Tells None t = is_flat t ≡ true

abbrev mutual
  pub Knows : List (List ℕ × SizeAlign) → Tree → Type 0
  Knows table (Tree.named name t docs) = Tells (found table name) (plain t)
  Knows table (Tree.builtin b) = Unit {0}
  Knows table Tree.handle = Unit {0}
  Knows table (Tree.list_of t) = Unit {0}
  Knows table (Tree.pointer_to t) = Unit {0}
  Knows table (Tree.const_pointer_to t) = Unit {0}
  Knows table (Tree.record_of kind ms) = KnowsFields table ms
  Knows table (Tree.variant_of repr cs) = KnowsArms table cs

  pub KnowsFields : List (List ℕ × SizeAlign) → Fields → Type 0
  KnowsFields table Fields.no_fields = Unit {0}
  KnowsFields table (Fields.field name t docs ms) = Knows table t × KnowsFields table ms

  pub KnowsArms : List (List ℕ × SizeAlign) → Arms → Type 0
  KnowsArms table Arms.no_arms = Unit {0}
  KnowsArms table (Arms.bare name docs cs) = KnowsArms table cs
  KnowsArms table (Arms.carries name t docs cs) = Knows table t × KnowsArms table cs

-- the type of a typename is known
abbrev pub KnowsDefinition : List (List ℕ × SizeAlign) → DefinitionTree → Type 0
KnowsDefinition table (typename_of name t docs) = Knows table t
KnowsDefinition table (module_of m) = Unit {0}
KnowsDefinition table (constant_of c) = Unit {0}

-- a typename is entered under its name with what is kept of its type, and nothing else changes
abbrev pub IsKept : {V : Type 0} → (Plain → V) → List (List ℕ × V) → DefinitionTree → List (List ℕ × V) → Type 0
IsKept of table (typename_of name t docs) new = (q : List ℕ) → found new q ≡ cond (is_eq (slice_cmp nat_cmp name q)) (Some (of (plain t))) (found table q)
IsKept of table (module_of m) new = new ≡ table
IsKept of table (constant_of c) new = new ≡ table

-- a typename is entered with its layout, or its type is flat and nothing changes
abbrev pub IsEntered : List (List ℕ × SizeAlign) → DefinitionTree → List (List ℕ × SizeAlign) → Type 0
IsEntered table (typename_of name t docs) new =
    IsKept plain_layout table (typename_of name t docs) new ⊎ ((is_flat (plain t) ≡ true) × (new ≡ table))
IsEntered table (module_of m) new = new ≡ table
IsEntered table (constant_of c) new = new ≡ table

-- a definition is entered, and the table goes from `old` to `new`
abbrev pub Enters : Definition → (old new : List (List ℕ × SizeAlign)) → Type 0
Enters definition old new = IsEntered old (definition_tree definition) new

-- no two of these definitions introduce the same name
abbrev pub HaveDistinctNames : List Definition → Type 0
HaveDistinctNames definitions = IsDistinct same_text (keys_of (by_name introduced (map definition_tree definitions)))

-- A table of lines by name has the lines of the parts of a type that is a name.
abbrev pub HasLines : List (List ℕ × List ℕ) → Tree → Type 0
HasLines lines (Tree.named name t docs) = found lines name ≡ Some (part_lines (plain t))
HasLines lines _ = Unit {0}

abbrev pub DefinitionHasLines : List (List ℕ × List ℕ) → DefinitionTree → Type 0
DefinitionHasLines lines (typename_of name t docs) = HasLines lines t
DefinitionHasLines lines (module_of m) = Unit {0}
DefinitionHasLines lines (constant_of c) = Unit {0}

abbrev pub IsLined : List (List ℕ × List ℕ) → DefinitionTree → List (List ℕ × List ℕ) → Type 0
IsLined = IsKept part_lines
