-- What a printed definition says: a module's items in the order in which they are printed, and no documentation.
use Rattle.std.specs.Prelude.{ℕ, List, [], ◌∷◌, map}
use Rattle.witx_ast.specs.Definitions.{DefinitionTree, typename_of, module_of, constant_of}
use Rattle.witx_render.specs.ModuleExpressions.{items_in_order}
use Rattle.witx_read_back.specs.Emptied.{emptied, emptied_item}

abbrev pub as_printed : DefinitionTree → DefinitionTree
as_printed (typename_of n t d) = typename_of n t d
as_printed (module_of m) = module_of (record { name = m.name; comment = m.comment; items = items_in_order m.items })
as_printed (constant_of c) = constant_of c

abbrev pub emptied_definition : DefinitionTree → DefinitionTree
emptied_definition (typename_of n t d) = typename_of n (emptied t) []
emptied_definition (module_of m) = module_of (record { name = m.name; comment = []; items = map emptied_item m.items })
emptied_definition (constant_of c) = constant_of (record { ty = c.ty; name = c.name; value = c.value; docs = [] })
