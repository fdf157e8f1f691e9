-- The checks of a function: its name, its parameters and results, and what it returns; and what it defines.
use Rattle.std.specs.Prelude.{ℕ, List, [], ◌∷◌, ◌++◌, Bool, true, false, option_map}
use Rattle.witx_files.specs.declared.location.Location.{Location}
use Rattle.witx_syntax_tree.specs.Trees.{Fields, no_fields, one_field, QuotedText}
use Rattle.witx_syntax_tree.specs.Views.{fields_view}
use Rattle.witx_syntax_tree.specs.declared.tree.InterfaceFuncSyntax.{InterfaceFuncSyntax}
use Rattle.witx_comments.specs.Documentation.{documentation_of}
use Rattle.witx_ast.specs.declared.function.Abi.{Abi}
use Rattle.witx_ast.specs.Functions.{FunctionTree}
use Rattle.witx_ast.specs.Tree.{Field}
use Rattle.witx_ast.specs.Results.{results_reason}
use Rattle.witx_scope.specs.Faults.{Check, abi}
use Rattle.witx_scope.specs.Names.{Here, NameMarks, new_mark}
use Rattle.witx_scope.specs.Checks.{type_checks, field_checks}
use Rattle.witx_scope.specs.Trees.{fields_meant}

-- the names of a scope after some fields
abbrev pub fields_scope : NameMarks → Fields → NameMarks
fields_scope before no_fields = before
fields_scope before (one_field docs m t fs) = fields_scope ((m.name, m.start) ∷ before) fs

-- results: the type and then the name
abbrev pub result_checks : Here → NameMarks → Fields → List Check
result_checks h before no_fields = []
result_checks h before (one_field docs m t fs) =
    type_checks h false (h.place m.start) t ++ (new_mark h before m.name m.start ∷ result_checks h ((m.name, m.start) ∷ before) fs)

-- the ABI of a function, by whether its result is stored whole
abbrev pub abi_of : Bool → Abi
abi_of true = Abi.Stored
abi_of false = Abi.Preview1

abbrev pub abi_check : Abi → List Field → Location → Check
abi_check a results at = option_map (λ reason. abi reason at) (results_reason a results)

-- what stands in a function: its parameters, its results, and then what it returns; parameters and results share a scope
abbrev pub inner_checks : Here → Abi → Fields → Fields → Location → List Check
inner_checks h a params results at =
    field_checks h [] params
    ++ (result_checks h (fields_scope [] params) results
    ++ (abi_check a (fields_meant h results) at ∷ []))

-- a function, after the names of its module: its name, and what stands in it
abbrev pub func_checks : Here → NameMarks → Abi → QuotedText → Fields → Fields → List Check
func_checks h before a export params results =
    new_mark h before export.text export.start ∷ inner_checks h a params results (h.place export.start)

-- the same by the parts of its syntax tree
abbrev pub export_of : InterfaceFuncSyntax → QuotedText
export_of f = record { text = f.export; start = f.export_loc.start; end = f.export_loc.end }

abbrev pub checks_inside : Here → InterfaceFuncSyntax → List Check
checks_inside h f = inner_checks h (abi_of f.stored) (fields_view f.params) (fields_view f.results) (h.place f.export_loc.start)

abbrev pub checks_func : Here → NameMarks → InterfaceFuncSyntax → List Check
checks_func h before f = func_checks h before (abi_of f.stored) (export_of f) (fields_view f.params) (fields_view f.results)

abbrev pub func_meant : Here → QuotedText → Fields → Fields → Bool → Bool → List (List ℕ) → FunctionTree
func_meant h name params results noreturn stored comments = record {
  abi = abi_of stored;
  name = name.text;
  params = fields_meant h params;
  results = fields_meant h results;
  noreturn = noreturn;
  comment = documentation_of comments;
}

abbrev pub makes_func : Here → List (List ℕ) → InterfaceFuncSyntax → FunctionTree
makes_func h comments f = func_meant h (export_of f) (fields_view f.params) (fields_view f.results) f.noreturn f.stored comments

-- names in a module, with a function's one more
abbrev pub with_export : InterfaceFuncSyntax → NameMarks → NameMarks
with_export f before = (f.export, f.export_loc.start) ∷ before
