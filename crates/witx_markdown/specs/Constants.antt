-- The constants of a document, and the first type of one that is no typename.
use Rattle.std.specs.Prelude.{ℕ, List, Bool, not, map, find, Option, Some, None, is_some}
use Rattle.std.specs.List.{filter_map}
use Rattle.witx_ast.specs.declared.definition.Constant.{Constant}
use Rattle.witx_ast.specs.Definitions.{DefinitionTree, typename_of, module_of, constant_of, typename_called}

abbrev pub as_constant : DefinitionTree → Option Constant
as_constant (typename_of name t docs) = None
as_constant (module_of m) = None
as_constant (constant_of c) = Some c

-- all constants
abbrev pub constants_in : List DefinitionTree → List Constant
constants_in = filter_map as_constant

-- the type of a constant is a typename
abbrev pub names_typename : List DefinitionTree → List ℕ → Bool
names_typename ds name = is_some (typename_called ds name)

-- the first constant's type that is no typename
abbrev pub unknown_type : List DefinitionTree → Option (List ℕ)
unknown_type ds = find (λ name. not (names_typename ds name)) (map (λ c. c.ty) (constants_in ds))
