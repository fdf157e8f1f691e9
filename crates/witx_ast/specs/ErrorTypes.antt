-- The error types of a document: of each function with one `ok`/`err` result the type of `err`, each once, at its first appearance.
use Rattle.std.specs.Prelude.{List, [], ◌∷◌, ◌++◌, Option, Some, None, if◌then◌else◌}
use Rattle.std.specs.List.{filter_map, list_any}
use Rattle.witx_ast.specs.Tree.{Tree, Field, behind, arm_list}
use Rattle.witx_ast.specs.Words.{expected_payloads}
use Rattle.witx_ast.specs.Same.{same_tree}
use Rattle.witx_ast.specs.Functions.{FunctionTree}
use Rattle.witx_ast.specs.Items.{ItemTree, funcs_of}
use Rattle.witx_ast.specs.Definitions.{DefinitionTree, module_of, typename_of, constant_of}

abbrev pub payload_of_err : Option (Option Tree × Option Tree) → Option Tree
payload_of_err None = None
payload_of_err (Some (ok, err)) = err

-- of a type whose names are looked through
abbrev pub type_error : Tree → Option Tree
type_error (Tree.variant_of repr cs) = payload_of_err (expected_payloads (arm_list cs))
type_error _ = None

abbrev pub results_error : List Field → Option Tree
results_error [] = None
results_error (r ∷ []) = type_error (behind r.tree)
results_error (r ∷ s ∷ rs) = None

abbrev pub function_error : FunctionTree → Option Tree
function_error f = results_error f.results

-- those of a module's functions, in order
abbrev pub item_errors : List ItemTree → List Tree
item_errors items = filter_map function_error (funcs_of items)

abbrev pub definition_errors : DefinitionTree → List Tree
definition_errors (typename_of name t docs) = []
definition_errors (module_of m) = item_errors m.items
definition_errors (constant_of c) = []

-- those of all modules, in order, with repeats
abbrev pub all_errors : List DefinitionTree → List Tree
all_errors [] = []
all_errors (d ∷ ds) = definition_errors d ++ all_errors ds

-- those that stand nowhere before, of a list that follows the list before
abbrev pub new_types_after : List Tree → List Tree → List Tree
new_types_after before [] = []
new_types_after before (x ∷ xs) = if list_any (same_tree x) before then new_types_after (before ++ x ∷ []) xs else x ∷ new_types_after (before ++ x ∷ []) xs

-- each of a list once, at its first appearance
abbrev pub each_type_once : List Tree → List Tree
each_type_once = new_types_after []

abbrev pub error_types_of : List DefinitionTree → List Tree
error_types_of ds = each_type_once (all_errors ds)
