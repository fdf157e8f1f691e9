-- How an old function is mapped to a new one, an old module to a new one, and the modules of a document to those of another.
use Rattle.std.specs.Prelude.{ℕ, ◌==◌, List, [], ◌∷◌, ◌++◌, map, length, Option, Some, None, Bool, true, false, ◌&&◌, option_map, Result, Ok, Err}
use Rattle.std.specs.List.{filter_map, list_all}
use Rattle.witx_ast.specs.Tree.{Field}
use Rattle.witx_base.specs.SameBytes.{same_bytes}
use Rattle.witx_ast.specs.Functions.{FunctionTree}
use Rattle.witx_ast.specs.Items.{funcs_of, func_called}
use Rattle.witx_ast.specs.Definitions.{ModuleTree, DefinitionTree, module_called}
use Rattle.witx_compat.specs.Conversions.{Mapped, Unknown, of_old, of_new, param_mapped, result_mapped, is_compatible}

-- parameters and results

abbrev pub prefer : Bool → Field → Option Field → Option Field
prefer true f rest = Some f
prefer false f rest = rest

-- the first of a name
abbrev pub first_called : List ℕ → List Field → Option Field
first_called name [] = None
first_called name (f ∷ fs) = prefer (same_bytes f.called name) f (first_called name fs)

-- in order, each with the first of its name among others
abbrev pub paired : (Field → Field → Mapped) → List Field → List Field → List Mapped
paired pair fields others = filter_map (λ f. option_map (pair f) (first_called f.called others)) fields

-- old parameters, in order, each to the first new one of its name
abbrev pub mapped_params : List Field → List Field → List Mapped
mapped_params new old = paired (λ o n. param_mapped n o) old new

-- new results, in order, each to the first old one of its name
abbrev pub mapped_results : List Field → List Field → List Mapped
mapped_results new old = paired result_mapped new old

abbrev pub when_none : Option Field → Unknown → List Unknown
when_none None u = u ∷ []
when_none (Some f) u = []

abbrev pub unless_named : (Field → Unknown) → List Field → Field → List Unknown
unless_named unknown others f = when_none (first_called f.called others) (unknown f)

-- in order, those whose name no other has
abbrev pub without : (Field → Unknown) → List Field → List Field → List Unknown
without unknown others [] = []
without unknown others (f ∷ fs) = unless_named unknown others f ++ without unknown others fs

-- the old parameters without a new one, then the new ones whose name is not mapped
abbrev pub params_unknown : List Field → List Field → List Unknown
params_unknown new old = without of_old new old ++ without of_new (map (λ m. m.new) (mapped_params new old)) new

-- the new results without an old one, then the old ones whose name is not mapped
abbrev pub results_unknown : List Field → List Field → List Unknown
results_unknown new old = without of_new old new ++ without of_old (map (λ m. m.old) (mapped_results new old)) old

-- functions

-- an old function, the new one by which it is called, and how their parts are mapped
pub record MappedFunction : Type 0 where
  pub new : FunctionTree
  pub old : FunctionTree
  pub params : List Mapped
  pub unknown_params : List Unknown
  pub results : List Mapped
  pub unknown_results : List Unknown

abbrev pub function_mapped : FunctionTree → FunctionTree → MappedFunction
function_mapped new old = record {
  new = new;
  old = old;
  params = mapped_params new.params old.params;
  unknown_params = params_unknown new.params old.params;
  results = mapped_results new.results old.results;
  unknown_results = results_unknown new.results old.results;
}

-- the names are equal, all that is mapped is fully compatible, and nothing is unknown
abbrev pub is_fully_compatible : MappedFunction → Bool
is_fully_compatible f =
    same_bytes f.new.name f.old.name && list_all is_compatible f.params && (length f.unknown_params == 0)
    && list_all is_compatible f.results && (length f.unknown_results == 0)

-- modules

pub record MappedModule : Type 0 where
  pub new : ModuleTree
  pub old : ModuleTree
  pub functions : List MappedFunction

-- a module that a document lacks; a function that a module lacks
pub data PolyfillRefusal : Type 0 where
  no_module : List ℕ → PolyfillRefusal
  no_function : List ℕ → List ℕ → PolyfillRefusal

-- all of them in order, or the first refusal
abbrev pub mapped_then : {A : Type 0} → Result A PolyfillRefusal → Result (List A) PolyfillRefusal → Result (List A) PolyfillRefusal
mapped_then (Ok x) (Ok xs) = Ok (x ∷ xs)
mapped_then (Ok x) (Err refusal) = Err refusal
mapped_then (Err refusal) rest = Err refusal

abbrev pub all_or_refusal : {A B : Type 0} → (A → Result B PolyfillRefusal) → List A → Result (List B) PolyfillRefusal
all_or_refusal f [] = Ok []
all_or_refusal f (x ∷ xs) = mapped_then (f x) (all_or_refusal f xs)

abbrev pub function_or_none : ModuleTree → FunctionTree → Option FunctionTree → Result MappedFunction PolyfillRefusal
function_or_none new old None = Err (no_function new.name old.name)
function_or_none new old (Some f) = Ok (function_mapped f old)

-- an old function to the new module's function of its name
abbrev pub function_answer : ModuleTree → FunctionTree → Result MappedFunction PolyfillRefusal
function_answer new old = function_or_none new old (func_called new.items old.name)

abbrev pub as_mapped_module : ModuleTree → ModuleTree → Result (List MappedFunction) PolyfillRefusal → Result MappedModule PolyfillRefusal
as_mapped_module new old (Ok functions) = Ok (record { new = new; old = old; functions = functions })
as_mapped_module new old (Err refusal) = Err refusal

-- each old function in order, or the first that the new module lacks
abbrev pub module_answer : ModuleTree → ModuleTree → Result MappedModule PolyfillRefusal
module_answer new old = as_mapped_module new old (all_or_refusal (function_answer new) (funcs_of old.items))

abbrev pub old_or_none : List ℕ → ModuleTree → Option ModuleTree → Result MappedModule PolyfillRefusal
old_or_none old_name new None = Err (no_module old_name)
old_or_none old_name new (Some old) = module_answer new old

abbrev pub new_or_none : List ℕ → List ℕ → Option ModuleTree → Option ModuleTree → Result MappedModule PolyfillRefusal
new_or_none new_name old_name None old = Err (no_module new_name)
new_or_none new_name old_name (Some new) old = old_or_none old_name new old

-- a new module's name with an old one's: the new module is looked up first
abbrev pub pair_answer : List DefinitionTree → List DefinitionTree → List ℕ × List ℕ → Result MappedModule PolyfillRefusal
pair_answer new old names = new_or_none names.0 names.1 (module_called new names.0) (module_called old names.1)

-- all pairs, in order of the new names, which is the order of the map's entries
abbrev pub polyfill_answer : List DefinitionTree → List DefinitionTree → List (List ℕ × List ℕ) → Result (List MappedModule) PolyfillRefusal
polyfill_answer new old pairs = all_or_refusal (pair_answer new old) pairs
