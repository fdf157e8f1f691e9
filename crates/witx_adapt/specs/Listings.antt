-- The listing of an adapted document: the lines of each definition, in document order.
-- A typename has its size and alignment, a constant its value, a module its imports and its functions, and a function
-- its signature, with a mark where it stores its whole result, and the events of both sides. Layouts and functions are
-- taken from their lists in order.
use Rattle.std.specs.Prelude.{◌≡◌, ℕ, ◌+◌, List, [], ◌∷◌, ◌++◌, map, drop, Result, IfOk, codes}
use Rattle.std.specs.Borrow.{Bor}
use Rattle.std.specs.Fmt.{decimal}
use Rattle.witx_ast.specs.declared.definition.Constant.{Constant}
use Rattle.witx_ast.specs.declared.function.Abi.{Abi}
use Rattle.witx_ast.specs.Items.{ItemTree, import_of, func_of}
use Rattle.witx_ast.specs.Definitions.{DefinitionTree, typename_of, module_of, constant_of, definition_tree}
use Rattle.witx_machine.specs.Events.{Event}
use Rattle.witx_machine.specs.declared.surface.WasmType.{WasmType}
use Rattle.witx_layout.specs.declared.layout.SizeAlign.{SizeAlign}
use Rattle.witx_layout.specs.LayoutsText.{typename_line}
use Rattle.witx_adapt.specs.declared.adapted.Adapted.{Adapted}
use Rattle.witx_adapt.specs.declared.adapted.AdaptedFunc.{AdaptedFunc}
use Rattle.witx_adapt.specs.Entries.{Lowered, lowered}
use Rattle.witx_adapt.specs.Names.{in_quotes, signature}
use Rattle.witx_adapt.specs.Lines.{event_lines}

abbrev pub constant_line : Constant → List ℕ
constant_line c = codes "const " ++ c.ty ++ codes " " ++ c.name ++ codes " " ++ decimal c.value ++ codes "\n"

abbrev pub module_line : List ℕ → List ℕ
module_line name = codes "module " ++ name ++ codes "\n"

abbrev pub import_line : List ℕ → List ℕ
import_line name = codes "import " ++ in_quotes name ++ codes " memory" ++ codes "\n"

-- behind the signature of a function that stores its whole result
abbrev pub stored_mark : Abi → List ℕ
stored_mark Abi.Preview1 = []
stored_mark Abi.Stored = codes " stored"

abbrev pub listed_func_line : List ℕ → Abi → (params results : List WasmType) → List ℕ
listed_func_line name abi params results = codes "func " ++ in_quotes name ++ codes " " ++ signature params results ++ stored_mark abi ++ codes "\n"

-- the events of one side, under its name
abbrev pub side_lines : List ℕ → List Event → List ℕ
side_lines side events = side ++ codes "\n" ++ event_lines events

abbrev pub func_lines : List ℕ → Abi → Lowered → List ℕ
func_lines name abi f = listed_func_line name abi f.params f.results ++ side_lines (codes "caller") f.caller ++ side_lines (codes "callee") f.callee

-- with the first of the layouts, where there is one
abbrev pub listed_typename_lines : List ℕ → List SizeAlign → List ℕ
listed_typename_lines name [] = []
listed_typename_lines name (l ∷ ls) = typename_line name l.size l.align

-- with the first of the functions, where there is one
abbrev pub next_func_lines : List ℕ → Abi → List Lowered → List ℕ
next_func_lines name abi [] = []
next_func_lines name abi (f ∷ fs) = func_lines name abi f

-- the lines of a module's imports and functions
abbrev pub item_lines : List ItemTree → List Lowered → List ℕ
item_lines [] fs = []
item_lines (import_of i ∷ items) fs = import_line i.name ++ item_lines items fs
item_lines (func_of f ∷ items) fs = next_func_lines f.name f.abi fs ++ item_lines items (drop 1 fs)

-- how many functions a module has
abbrev pub func_count : List ItemTree → ℕ
func_count [] = 0
func_count (import_of i ∷ items) = func_count items
func_count (func_of f ∷ items) = 1 + func_count items

-- what is answered are the functions behind those of these items
abbrev pub FunctionsBehind : {E : Type 0} → Result (Bor (List AdaptedFunc)) E → List AdaptedFunc → List ItemTree → Type 0
FunctionsBehind r functions items = IfOk r (λ rest. rest.now ≡ drop (func_count items) functions)

abbrev pub listed_definition_lines : List DefinitionTree → List Lowered → List SizeAlign → List ℕ
listed_definition_lines [] fs ls = []
listed_definition_lines (typename_of name t docs ∷ ds) fs ls = listed_typename_lines name ls ++ listed_definition_lines ds fs (drop 1 ls)
listed_definition_lines (module_of m ∷ ds) fs ls = (module_line m.name ++ item_lines m.items fs) ++ listed_definition_lines ds (drop (func_count m.items) fs) ls
listed_definition_lines (constant_of c ∷ ds) fs ls = constant_line c ++ listed_definition_lines ds fs ls

unfoldable pub listing_text : Adapted → List ℕ
listing_text a = listed_definition_lines (map definition_tree a.document.definitions) (map lowered a.functions) a.layouts
