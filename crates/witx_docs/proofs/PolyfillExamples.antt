-- The rows of a polyfill's Markdown, computed.
use Rattle.std.specs.Prelude.{◌≡◌, ℕ, codes, List, [], ◌∷◌, ◌++◌, false}
use Rattle.std.proofs.Common.{refl}
use Rattle.witx_ast.specs.declared.types.BuiltinType.{BuiltinType}
use Rattle.witx_ast.specs.declared.function.Abi.{Abi}
use Rattle.witx_ast.specs.Tree.{Tree, Field}
use Rattle.witx_ast.specs.Functions.{FunctionTree}
use Rattle.witx_ast.specs.Definitions.{ModuleTree}
use Rattle.witx_compat.specs.Conversions.{old_to_new, new_to_old, param_mapped, result_mapped}
use Rattle.witx_compat.specs.Polyfills.{MappedModule, function_mapped}
use Rattle.witx_docs.specs.PolyfillTexts.{conversion_text, mapped_text, function_text, module_text, polyfill_text}

abbrev u8 : Tree
u8 = Tree.builtin (BuiltinType.U8 false)

abbrev u16 : Tree
u16 = Tree.builtin BuiltinType.U16

abbrev a : Tree → Field
a t = record { called = codes "a"; tree = t; comment = [] }

abbrev b : Tree → Field
b t = record { called = codes "b"; tree = t; comment = [] }

-- conversions

alike-conversion : conversion_text (old_to_new u8 u8) ≡ codes "* old `u8` => new `u8`: compatible"
alike-conversion = refl

superset-conversion : conversion_text (old_to_new u16 u8) ≡ codes "* old `u16` => new `u8`: superset"
superset-conversion = refl

no-conversion : conversion_text (new_to_old u8 u16) ≡ codes "* new `u8` => old `u16`"
no-conversion = refl

-- parameters and results

alike-types : mapped_text (param_mapped (a u8) (a u8)) ≡ codes "`a`: compatible types"
alike-types = refl

superset-types : mapped_text (param_mapped (a u8) (a u16)) ≡ codes "`a`: `u16` is superset-compatible with `u8`"
superset-types = refl

other-types : mapped_text (result_mapped (a u8) (a u16)) ≡ codes "`a`: `u16` is incompatible with new `u8`"
other-types = refl

other-names : mapped_text (param_mapped (a u8) (b u8)) ≡ codes "`b` => `a`: compatible types"
other-names = refl

-- the types shown are the parameters' own, and not the targets that are converted
shown-types : mapped_text (param_mapped (a (Tree.list_of u16)) (a (Tree.list_of u8))) ≡ codes "`a`: `List<u8>` is incompatible with new `List<u16>`"
shown-types = refl

-- functions

abbrev function : List ℕ → List Field → List Field → FunctionTree
function name params results = record { abi = Abi.Preview1; name = name; params = params; results = results; noreturn = false; comment = [] }

abbrev f : List Field → List Field → FunctionTree
f params results = function (codes "f") params results

abbrev g : List Field → List Field → FunctionTree
g params results = function (codes "g") params results

full : function_text (function_mapped (f (a u8 ∷ []) (b u8 ∷ [])) (f (a u8 ∷ []) (b u8 ∷ []))) ≡ codes "* `f`: full compatibility"
full = refl

-- without parts there is no colon
no-parts : function_text (function_mapped (g [] []) (f [] [])) ≡ codes "* `f` => `g`"
no-parts = refl

-- a compatible part of a function that is not
with-parts : function_text (function_mapped (f (a u8 ∷ []) (a u16 ∷ [])) (f (a u8 ∷ b u8 ∷ []) (b u8 ∷ [])))
    ≡ codes "* `f`:\n    - param `a`: compatible\n    - old param `b`: no corresponding result!"
    ++ codes "\n    - new result `a`: no corresponding result!\n    - old result `b`: no corresponding result!"
with-parts = refl

renamed-function : function_text (function_mapped (g (b u8 ∷ []) (a u8 ∷ [])) (f [] (a u16 ∷ [])))
    ≡ codes "* `f` => `g`:\n    - new param `b`: no corresponding result!\n    - result `a`: `u16` is incompatible with new `u8`"
renamed-function = refl

-- modules

abbrev m : List ℕ → ModuleTree
m name = record { name = name; comment = []; items = [] }

abbrev one : Tree → Tree → MappedModule
one new old = record { new = m (codes "m"); old = m (codes "o"); functions = function_mapped (f (a new ∷ []) []) (f (a old ∷ []) []) ∷ [] }

abbrev none : MappedModule
none = record { new = m (codes "n"); old = m (codes "n"); functions = [] }

no-functions : module_text none ≡ codes "## `n` in terms of `n`\n"
no-functions = refl

two-functions : module_text (record {
  new = m (codes "m");
  old = m (codes "o");
  functions = function_mapped (f [] []) (f [] []) ∷ function_mapped (g [] []) (g [] []) ∷ [];
}) ≡ codes "## `m` in terms of `o`\n* `f`: full compatibility\n* `g`: full compatibility"
two-functions = refl

-- the whole

no-modules : polyfill_text [] ≡ codes "# Modules\n\n# Type Conversions\n\n"
no-modules = refl

wider : polyfill_text (one u16 u8 ∷ [])
    ≡ codes "# Modules\n## `m` in terms of `o`\n* `f`:\n    - param `a`: `u8` is incompatible with new `u16`\n"
    ++ codes "# Type Conversions\n* old `u8` => new `u16`\n"
wider = refl

narrower : polyfill_text (one u8 u16 ∷ [])
    ≡ codes "# Modules\n## `m` in terms of `o`\n* `f`:\n    - param `a`: `u16` is superset-compatible with `u8`\n"
    ++ codes "# Type Conversions\n* old `u16` => new `u8`: superset\n"
narrower = refl

-- a conversion between alike types is left out; each other one stands once
alike-left-out : polyfill_text (one u8 u8 ∷ none ∷ [])
    ≡ codes "# Modules\n## `m` in terms of `o`\n* `f`: full compatibility\n## `n` in terms of `n`\n\n# Type Conversions\n\n"
alike-left-out = refl

once : polyfill_text (one u8 u16 ∷ one u8 u16 ∷ one u16 u8 ∷ [])
    ≡ codes "# Modules\n## `m` in terms of `o`\n* `f`:\n    - param `a`: `u16` is superset-compatible with `u8`\n"
    ++ codes "## `m` in terms of `o`\n* `f`:\n    - param `a`: `u16` is superset-compatible with `u8`\n"
    ++ codes "## `m` in terms of `o`\n* `f`:\n    - param `a`: `u8` is incompatible with new `u16`\n"
    ++ codes "# Type Conversions\n* old `u16` => new `u8`: superset\n* old `u8` => new `u16`\n"
once = refl
