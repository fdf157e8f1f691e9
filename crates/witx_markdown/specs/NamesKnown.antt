-- What is known of the names in a type. Where layouts are kept by name it is the layout of each name that is a part of the
-- type, targets of lists and pointers aside. Where names are looked through nothing has to be known.
use Rattle.std.specs.Prelude.{List, map, Option, Some, None}
use Rattle.std.specs.List.{AllByRecursion}
use Rattle.witx_ast.specs.Tree.{Tree, Fields, Arms, Field}
use Rattle.witx_ast.specs.Functions.{FunctionTree}
use Rattle.witx_ast.specs.Items.{ItemTree, import_of, func_of}
use Rattle.witx_ast.specs.declared.definition.Definition.{Definition}
use Rattle.witx_ast.specs.Definitions.{DefinitionTree, definition_tree, typename_of, module_of, constant_of}
use Rattle.witx_layout.specs.Known.{Knows, KnowsFields, KnowsArms}
use Rattle.witx_markdown.specs.declared.named_layouts.NamedLayouts.{NamedLayouts}
use Rattle.witx_markdown.specs.declared.named_layouts.NamedLayouts.TheVariants as layouts

abbrev pub NamesKnown : NamedLayouts → Tree → Type 0
NamesKnown (layouts.Kept table) t = Knows table.now t
NamesKnown layouts.LookedThrough t = Unit {0}

abbrev pub FieldNamesKnown : NamedLayouts → Fields → Type 0
FieldNamesKnown (layouts.Kept table) ms = KnowsFields table.now ms
FieldNamesKnown layouts.LookedThrough ms = Unit {0}

abbrev pub ArmNamesKnown : NamedLayouts → Arms → Type 0
ArmNamesKnown (layouts.Kept table) cs = KnowsArms table.now cs
ArmNamesKnown layouts.LookedThrough cs = Unit {0}

abbrev pub PayloadKnown : NamedLayouts → Option Tree → Type 0
PayloadKnown names None = Unit {0}
PayloadKnown names (Some t) = NamesKnown names t

-- of each type of parameters, of a function, of what a module defines, of a definition
abbrev pub InParams : (Tree → Type 0) → List Field → Type 0
InParams P = AllByRecursion (λ p. P p.tree)

abbrev pub InFunction : (Tree → Type 0) → FunctionTree → Type 0
InFunction P f = InParams P f.params × InParams P f.results

abbrev pub InItem : (Tree → Type 0) → ItemTree → Type 0
InItem P (import_of i) = Unit {0}
InItem P (func_of f) = InFunction P f

abbrev pub InItems : (Tree → Type 0) → List ItemTree → Type 0
InItems P = AllByRecursion (InItem P)

abbrev pub InDefinition : (Tree → Type 0) → DefinitionTree → Type 0
InDefinition P (typename_of name t docs) = P t
InDefinition P (module_of m) = InItems P m.items
InDefinition P (constant_of c) = Unit {0}

abbrev pub InDefinitions : (Tree → Type 0) → List DefinitionTree → Type 0
InDefinitions P = AllByRecursion (InDefinition P)

-- what has to be known of the names in all that is defined
abbrev pub AllNamesKnown : NamedLayouts → List Definition → Type 0
AllNamesKnown names definitions = InDefinitions (NamesKnown names) (map definition_tree definitions)
