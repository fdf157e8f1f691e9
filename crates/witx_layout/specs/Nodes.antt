-- How many nodes a type has as it is written: a name is one node and isn't looked through, any other type is a node and those of its parts.
use Rattle.std.specs.Prelude.{ℕ, ◌+◌, List, [], ◌∷◌}
use Rattle.witx_ast.specs.Tree.{Tree, Fields, Arms}
use Rattle.witx_ast.specs.Definitions.{DefinitionTree, typename_of, module_of, constant_of}

abbrev mutual
  pub type_nodes : Tree → ℕ
  type_nodes (Tree.named name t docs) = 1
  type_nodes (Tree.builtin b) = 1
  type_nodes Tree.handle = 1
  type_nodes (Tree.list_of t) = type_nodes t + 1
  type_nodes (Tree.pointer_to t) = type_nodes t + 1
  type_nodes (Tree.const_pointer_to t) = type_nodes t + 1
  type_nodes (Tree.record_of kind ms) = field_nodes ms + 1
  type_nodes (Tree.variant_of repr cs) = arm_nodes cs + 1

  -- of all members
  pub field_nodes : Fields → ℕ
  field_nodes Fields.no_fields = 0
  field_nodes (Fields.field name t docs ms) = type_nodes t + field_nodes ms

  -- of all payloads
  pub arm_nodes : Arms → ℕ
  arm_nodes Arms.no_arms = 0
  arm_nodes (Arms.bare name docs cs) = arm_nodes cs
  arm_nodes (Arms.carries name t docs cs) = type_nodes t + arm_nodes cs

-- the nodes of a typename's type; other definitions have none here
abbrev pub definition_nodes : DefinitionTree → ℕ
definition_nodes (typename_of name t docs) = type_nodes t
definition_nodes (module_of m) = 0
definition_nodes (constant_of c) = 0

-- the nodes of all typenames' types
abbrev pub typename_node_count : List DefinitionTree → ℕ
typename_node_count [] = 0
typename_node_count (d ∷ ds) = definition_nodes d + typename_node_count ds

abbrev pub one_typename : DefinitionTree → ℕ
one_typename (typename_of name t docs) = 1
one_typename (module_of m) = 0
one_typename (constant_of c) = 0

-- how many typenames there are
abbrev pub typename_count : List DefinitionTree → ℕ
typename_count [] = 0
typename_count (d ∷ ds) = one_typename d + typename_count ds
