-- A closed document: each name inside a type, of a typename or of a parameter or a result of a function, is that of a
-- typename that stands before the definition, for an equal type. A closed document is ordered.
use Rattle.std.specs.Prelude.{List, [], ◌∷◌, ◌++◌}
use Rattle.witx_ast.specs.Tree.{Field}
use Rattle.witx_ast.specs.Items.{ItemTree, import_of, func_of}
use Rattle.witx_ast.specs.Definitions.{DefinitionTree, typename_of, module_of, constant_of}
use Rattle.witx_ast.specs.Ordered.{NamesStand}

-- the names in the types of parameters, or of results
abbrev pub ParamNamesStand : List DefinitionTree → List Field → Type 0
ParamNamesStand before [] = Unit {0}
ParamNamesStand before (p ∷ ps) = NamesStand before p.tree × ParamNamesStand before ps

-- the names in the types of a module's functions
abbrev pub ItemNamesStand : List DefinitionTree → List ItemTree → Type 0
ItemNamesStand before [] = Unit {0}
ItemNamesStand before (import_of i ∷ items) = ItemNamesStand before items
ItemNamesStand before (func_of f ∷ items) = ParamNamesStand before f.params × ParamNamesStand before f.results × ItemNamesStand before items

abbrev pub AllNamesStand : List DefinitionTree → DefinitionTree → Type 0
AllNamesStand before (typename_of name t docs) = NamesStand before t
AllNamesStand before (module_of m) = ItemNamesStand before m.items
AllNamesStand before (constant_of c) = Unit {0}

abbrev pub ClosedAfter : List DefinitionTree → List DefinitionTree → Type 0
ClosedAfter before [] = Unit {0}
ClosedAfter before (d ∷ ds) = AllNamesStand before d × ClosedAfter (before ++ d ∷ []) ds

abbrev pub IsClosed : List DefinitionTree → Type 0
IsClosed = ClosedAfter []
