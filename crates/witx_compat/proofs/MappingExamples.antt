-- The rows of the mapping, computed at small functions and modules.
use Rattle.std.specs.Prelude.{◌≡◌, ℕ, codes, List, [], ◌∷◌, true, false, Ok, Err, Result}
use Rattle.std.proofs.Common.{refl}
use Rattle.witx_ast.specs.declared.types.BuiltinType.{BuiltinType}
use Rattle.witx_ast.specs.declared.function.Abi.{Abi}
use Rattle.witx_ast.specs.Tree.{Tree, Field}
use Rattle.witx_ast.specs.Functions.{FunctionTree}
use Rattle.witx_ast.specs.Items.{ItemTree, func_of}
use Rattle.witx_ast.specs.Definitions.{ModuleTree, module_of, typename_of}
use Rattle.witx_compat.specs.declared.answer.RepEquality.{RepEquality}
use Rattle.witx_compat.specs.Conversions.{of_old, of_new, old_to_new, new_to_old, param_mapped, result_mapped, converted, conversion_answer, is_compatible, unknown_word}
use Rattle.witx_compat.specs.Polyfills.{PolyfillRefusal, no_module, no_function, mapped_params, mapped_results, params_unknown, results_unknown, MappedModule, function_mapped, is_fully_compatible, module_answer, polyfill_answer}
use Rattle.witx_compat.specs.Once.{each_once, function_conversions}

abbrev u8 : Tree
u8 = Tree.builtin (BuiltinType.U8 false)

abbrev u16 : Tree
u16 = Tree.builtin BuiltinType.U16

abbrev a : Tree → Field
a t = record { called = codes "a"; tree = t; comment = [] }

abbrev b : Tree → Field
b t = record { called = codes "b"; tree = t; comment = [] }

-- an old parameter goes to the first new one of its name
first-of-name : mapped_params (b u8 ∷ a u16 ∷ a u8 ∷ []) (a u8 ∷ []) ≡ param_mapped (a u16) (a u8) ∷ []
first-of-name = refl

-- in the order of the old ones
old-order : mapped_params (b u8 ∷ a u8 ∷ []) (a u8 ∷ b u8 ∷ []) ≡ param_mapped (a u8) (a u8) ∷ param_mapped (b u8) (b u8) ∷ []
old-order = refl

-- results in the order of the new ones, each to the first old one of its name
new-order : mapped_results (b u8 ∷ a u8 ∷ []) (a u16 ∷ a u8 ∷ b u8 ∷ []) ≡ result_mapped (b u8) (b u8) ∷ result_mapped (a u8) (a u16) ∷ []
new-order = refl

old-then-new : params_unknown (b u8 ∷ []) (a u8 ∷ []) ≡ of_old (a u8) ∷ of_new (b u8) ∷ []
old-then-new = refl

new-then-old : results_unknown (b u8 ∷ []) (a u8 ∷ []) ≡ of_new (b u8) ∷ of_old (a u8) ∷ []
new-then-old = refl

-- a repeated name that is mapped once leaves nothing unknown
repeated-old : results_unknown (a u8 ∷ []) (a u8 ∷ a u16 ∷ []) ≡ []
repeated-old = refl

repeated-new : params_unknown (a u8 ∷ a u16 ∷ []) (a u8 ∷ []) ≡ []
repeated-new = refl

-- two old ones of one name go to the same new one
both-old : mapped_params (a u16 ∷ []) (a u8 ∷ a u8 ∷ []) ≡ param_mapped (a u16) (a u8) ∷ param_mapped (a u16) (a u8) ∷ []
both-old = refl

lists-give-targets : converted (Tree.list_of u8) (Tree.list_of u16) ≡ (u8, u16)
lists-give-targets = refl

pointers-give-targets : converted (Tree.pointer_to u8) (Tree.pointer_to u16) ≡ (u8, u16)
pointers-give-targets = refl

-- one level alone
lists-of-lists : converted (Tree.list_of (Tree.list_of u8)) (Tree.list_of (Tree.list_of u16)) ≡ (Tree.list_of u8, Tree.list_of u16)
lists-of-lists = refl

-- a name is no list, whatever stands behind it
named-lists-stay : converted (Tree.named (codes "l") (Tree.list_of u8) []) (Tree.list_of u16) ≡ (Tree.named (codes "l") (Tree.list_of u8) [], Tree.list_of u16)
named-lists-stay = refl

pointer-kinds-stay : converted (Tree.pointer_to u8) (Tree.const_pointer_to u8) ≡ (Tree.pointer_to u8, Tree.const_pointer_to u8)
pointer-kinds-stay = refl

-- a parameter: the new type by the old one
param-grows : conversion_answer (old_to_new u8 u16) ≡ RepEquality.NotEq
param-grows = refl

param-shrinks : conversion_answer (old_to_new u16 u8) ≡ RepEquality.Superset
param-shrinks = refl

-- a result: the old type by the new one
result-grows : conversion_answer (new_to_old u16 u8) ≡ RepEquality.Superset
result-grows = refl

result-shrinks : conversion_answer (new_to_old u8 u16) ≡ RepEquality.NotEq
result-shrinks = refl

compatible : is_compatible (param_mapped (a u8) (a u8)) ≡ true
compatible = refl

-- a superset is not enough
superset : is_compatible (param_mapped (a u8) (a u16)) ≡ false
superset = refl

other-name : is_compatible (param_mapped (a u8) (b u8)) ≡ false
other-name = refl

old-word : unknown_word (of_old (a u8)) ≡ codes "old"
old-word = refl

-- functions

abbrev function : List ℕ → List Field → List Field → FunctionTree
function name params results = record { abi = Abi.Preview1; name = name; params = params; results = results; noreturn = false; comment = [] }

abbrev f : List Field → FunctionTree
f params = function (codes "f") params (a u8 ∷ [])

abbrev g : FunctionTree
g = function (codes "g") [] []

full : is_fully_compatible (function_mapped (f (a u8 ∷ b u8 ∷ [])) (f (b u8 ∷ a u8 ∷ []))) ≡ true
full = refl

-- one more parameter on either side
more-new : is_fully_compatible (function_mapped (f (a u8 ∷ b u8 ∷ [])) (f (a u8 ∷ []))) ≡ false
more-new = refl

more-old : is_fully_compatible (function_mapped (f (a u8 ∷ [])) (f (a u8 ∷ b u8 ∷ []))) ≡ false
more-old = refl

other-functions : is_fully_compatible (function_mapped (function (codes "g") [] []) (function (codes "f") [] [])) ≡ false
other-functions = refl

-- a conversion stands once in each direction
once : each_once (function_conversions (function_mapped (f (a u8 ∷ b u8 ∷ [])) (f (a u8 ∷ b u8 ∷ [])))) ≡ old_to_new u8 u8 ∷ new_to_old u8 u8 ∷ []
once = refl

-- modules

abbrev with_functions : List ℕ → List ItemTree → ModuleTree
with_functions name items = record { name = name; comment = []; items = items }

abbrev m : List ItemTree → ModuleTree
m items = with_functions (codes "m") items

abbrev answered : List MappedModule → Result (List MappedModule) PolyfillRefusal
answered modules = Ok modules

abbrev refused : PolyfillRefusal → Result (List MappedModule) PolyfillRefusal
refused refusal = Err refusal

abbrev refused_module : PolyfillRefusal → Result MappedModule PolyfillRefusal
refused_module refusal = Err refusal

lacks-a-function : module_answer (m (func_of (f []) ∷ [])) (with_functions (codes "n") (func_of (f []) ∷ func_of g ∷ [])) ≡ refused_module (no_function (codes "m") (codes "g"))
lacks-a-function = refl

-- the first that is lacking
lacks-both : module_answer (m []) (m (func_of g ∷ func_of (f []) ∷ [])) ≡ refused_module (no_function (codes "m") (codes "g"))
lacks-both = refl

abbrev pairs : List ℕ → List ℕ → List (List ℕ × List ℕ)
pairs new old = (new, old) ∷ []

-- the new module is looked up first
lacks-new : polyfill_answer [] [] (pairs (codes "x") (codes "y")) ≡ refused (no_module (codes "x"))
lacks-new = refl

lacks-old : polyfill_answer (module_of (m []) ∷ []) [] (pairs (codes "m") (codes "y")) ≡ refused (no_module (codes "y"))
lacks-old = refl

-- a typename is no module
typename-is-none : polyfill_answer (typename_of (codes "m") u8 [] ∷ []) (module_of (m []) ∷ []) (pairs (codes "m") (codes "m")) ≡ refused (no_module (codes "m"))
typename-is-none = refl

empty-modules : polyfill_answer (module_of (m []) ∷ []) (module_of (m []) ∷ []) (pairs (codes "m") (codes "m")) ≡ answered (record { new = m []; old = m []; functions = [] } ∷ [])
empty-modules = refl

-- an earlier pair's refusal comes before a later one's
first-pair : polyfill_answer (module_of (m []) ∷ []) (module_of (m (func_of g ∷ [])) ∷ []) ((codes "m", codes "m") ∷ (codes "x", codes "y") ∷ []) ≡ refused (no_function (codes "m") (codes "g"))
first-pair = refl
