-- The checks of a module's declarations, as one list, and what they define.
-- Imports and functions share one scope; a function's parameters and results have one of their own.
use Rattle.std.specs.Prelude.{ℕ, List, [], ◌∷◌, ◌++◌, Option, Some, option_map, cond}
use Rattle.witx_base.specs.Found.{found}
use Rattle.witx_comments.specs.Documentation.{documentation_of}
use Rattle.witx_syntax_tree.specs.Trees.{QuotedText, DeclTree, memory, function, NotedDecl}
use Rattle.witx_ast.specs.declared.module.ModuleImportVariant.TheVariants.{Memory}
use Rattle.witx_ast.specs.declared.module.ModuleEntry.{ModuleEntry}
use Rattle.witx_ast.specs.Items as items
use Rattle.witx_scope.specs.Faults.{Check}
use Rattle.witx_scope.specs.Names.{Here, NameMarks, new_mark}
use Rattle.witx_scope.specs.Positions.{is_same_name}
use Rattle.witx_scope.specs.Functions.{abi_of, func_checks, func_meant}

-- the quoted name of an import or a function
abbrev pub quoted_name : DeclTree → QuotedText
quoted_name (memory name) = name
quoted_name (function name params results noreturn stored) = name

abbrev pub item_checks : Here → NameMarks → DeclTree → List Check
item_checks h before (memory name) = new_mark h before name.text name.start ∷ []
item_checks h before (function name params results noreturn stored) = func_checks h before (abi_of stored) name params results

abbrev pub with_name : DeclTree → NameMarks → NameMarks
with_name d before = ((quoted_name d).text, (quoted_name d).start) ∷ before

abbrev pub items_checks : Here → NameMarks → List NotedDecl → List Check
items_checks h before [] = []
items_checks h before (d ∷ ds) = item_checks h before d.decl ++ items_checks h (with_name d.decl before) ds

abbrev pub decl_meant : Here → List (List ℕ) → DeclTree → items.ItemTree
decl_meant h comments (memory name) = items.import_of (record { name = name.text; variant = Memory; docs = documentation_of comments })
decl_meant h comments (function name params results noreturn stored) = items.func_of (func_meant h name params results noreturn stored comments)

abbrev pub item_meant : Here → NotedDecl → items.ItemTree
item_meant h d = decl_meant h d.comments d.decl

abbrev pub item_called : items.ItemTree → List ℕ
item_called (items.import_of i) = i.name
item_called (items.func_of f) = f.name

-- the items that names go by, with one more
abbrev pub item_with : List (List ℕ × ModuleEntry) → items.ItemTree → List ℕ → Option items.ItemTree
item_with entries item q = cond (is_same_name q (item_called item)) (Some item) (option_map items.entry_item (found entries q))
