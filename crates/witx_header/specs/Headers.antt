-- The header of a document, whole: a front, the lines of each definition in order, and a back. A constant is a macro, a
-- module has the prototypes of its functions as WebAssembly imports them, by their signatures' words, each with its caller's side.
use Rattle.std.specs.Prelude.{ℕ, ◌+◌, ◌==◌, List, [], ◌∷◌, ◌++◌, Bool, codes, if◌then◌else◌}
use Rattle.std.specs.List.{flat_map}
use Rattle.std.specs.Fmt.{decimal}
use Rattle.witx_ast.specs.declared.definition.Constant.{Constant}
use Rattle.witx_ast.specs.Functions.{FunctionTree}
use Rattle.witx_ast.specs.Items.{ItemTree, import_of, func_of}
use Rattle.witx_ast.specs.Definitions.{DefinitionTree, ModuleTree, typename_of, module_of, constant_of}
use Rattle.witx_machine.specs.declared.surface.WasmType.{WasmType}
use Rattle.witx_machine.specs.Functions.{function_of}
use Rattle.witx_machine.specs.Signature.{signature_params, signature_results}
use Rattle.witx_header.specs.CNames.{comment, imported_name, literal}
use Rattle.witx_header.specs.CTypes.{c_word}
use Rattle.witx_header.specs.Bodies.{body_lines}
use Rattle.witx_header.specs.Typedefs.{define, header_typename_lines, typename_numbers}

abbrev pub front : List ℕ
front = codes "#pragma once\n\n#include <stddef.h>\n#include <stdint.h>\n\n#ifdef __cplusplus\nextern \"C\" {\n#endif\n\n"

abbrev pub back : List ℕ
back = codes "#ifdef __cplusplus\n}\n#endif\n"

abbrev pub constant_lines : Constant → List ℕ
constant_lines c = comment [] c.docs ++ (define c.ty c.name ++ codes "UINT64_C(" ++ decimal c.value ++ codes ")\n\n")

-- the word that comes back; a function that can be lowered has no second one
abbrev pub c_result_text : List WasmType → List ℕ
c_result_text [] = codes "void"
c_result_text (w ∷ ws) = c_word w

-- a parameter behind a comma, but for the first
abbrev pub param_text : ℕ → WasmType → List ℕ
param_text place w = (if place == 0 then [] else codes ", ") ++ (c_word w ++ codes " arg" ++ decimal place)

abbrev pub params_from : ℕ → List WasmType → List ℕ
params_from place [] = []
params_from place (w ∷ ws) = param_text place w ++ params_from (place + 1) ws

abbrev pub params_text : List WasmType → List ℕ
params_text [] = codes "void"
params_text (w ∷ ws) = params_from 0 (w ∷ ws)

abbrev pub noreturn_line : Bool → List ℕ
noreturn_line noreturn = if noreturn then codes "    __noreturn__,\n" else []

-- a function's declaration, for its module and its words
abbrev pub prototype : (owner name : List ℕ) → (params results : List WasmType) → (noreturn : Bool) → List ℕ
prototype owner name params results noreturn =
    (c_result_text results ++ codes " " ++ imported_name owner name)
    ++ (codes "(" ++ params_text params ++ codes ") __attribute__((\n")
    ++ noreturn_line noreturn
    ++ (codes "    __import_module__(" ++ literal owner ++ codes "),\n    __import_name__(" ++ literal name ++ codes ")\n));\n\n")

abbrev pub import_lines : (owner : List ℕ) → FunctionTree → List ℕ
import_lines owner f = prototype owner f.name (signature_params (function_of f)) (signature_results (function_of f)) f.noreturn

abbrev pub c_func_lines : (owner : List ℕ) → FunctionTree → List ℕ
c_func_lines owner f = comment [] f.comment ++ import_lines owner f ++ body_lines owner f

abbrev pub c_item_lines : (owner : List ℕ) → ItemTree → List ℕ
c_item_lines owner (import_of i) = []
c_item_lines owner (func_of f) = c_func_lines owner f

abbrev pub c_module_lines : ModuleTree → List ℕ
c_module_lines m = comment [] m.comment ++ codes "\n" ++ flat_map (c_item_lines m.name) m.items

abbrev pub c_definition_lines : DefinitionTree → List ℕ
c_definition_lines (typename_of name t docs) = header_typename_lines name t docs
c_definition_lines (module_of m) = c_module_lines m
c_definition_lines (constant_of c) = constant_lines c

-- THE HEADER of a document
abbrev pub header : List DefinitionTree → List ℕ
header definitions = front ++ flat_map c_definition_lines definitions ++ back

-- the numbers that the header asserts
abbrev pub definition_numbers : DefinitionTree → List ℕ
definition_numbers (typename_of name t docs) = typename_numbers t
definition_numbers (module_of m) = []
definition_numbers (constant_of c) = []

abbrev pub header_numbers : List DefinitionTree → List ℕ
header_numbers definitions = flat_map definition_numbers definitions
