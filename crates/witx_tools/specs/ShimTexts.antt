-- What `shim` tells: for each pair of modules a line with both names, and for each old function the line of the listing and which
-- of its words go to the new function, or why there is no shim.
use Rattle.std.specs.Prelude.{ℕ, List, ◌++◌, Option, Some, None, codes}
use Rattle.std.specs.Fmt.{decimal}
use Rattle.std.specs.List.{flat_map}
use Rattle.witx_ast.specs.Functions.{FunctionTree}
use Rattle.witx_machine.specs.Functions.{function_of}
use Rattle.witx_machine.specs.Signature.{signature_params, signature_results}
use Rattle.witx_adapt.specs.Listings.{listed_func_line}
use Rattle.witx_compat.specs.Polyfills.{MappedFunction, MappedModule}
use Rattle.witx_shim.specs.Arrivals.{words_passed}
use Rattle.witx_shim.specs.Numbers.{or_none}
use Rattle.witx_shim.specs.Refusals as refusals
use Rattle.witx_shim.specs.Refusals.{ShimRefusal, refusal_of}

-- a number behind a space
abbrev pub spaced_number : ℕ → List ℕ
spaced_number n = codes " " ++ decimal n

-- the numbers of the old function's words in the order in which the new one gets them
abbrev pub pass_line : List ℕ → List ℕ
pass_line words = codes "  pass" ++ flat_map spaced_number words ++ codes "\n"

-- why there is no shim. Functions of documents that can be adapted can be lowered, and their parameters have names of their own.
abbrev pub refusal_line : ShimRefusal → List ℕ
refusal_line refusals.other_abi = codes "  other abi\n"
refusal_line _ = codes "  not compatible\n"

-- by the refusal of the two functions, where there is one
abbrev pub passing_line : MappedFunction → Option ShimRefusal → List ℕ
passing_line f None = pass_line (or_none (words_passed f.old f.new))
passing_line f (Some refusal) = refusal_line refusal

-- the line of a function in the listing
abbrev pub listed_line : FunctionTree → List ℕ
listed_line f = listed_func_line f.name f.abi (signature_params (function_of f)) (signature_results (function_of f))

abbrev pub function_lines : MappedFunction → List ℕ
function_lines f = listed_line f.old ++ passing_line f (refusal_of f)

abbrev pub shim_module_line : MappedModule → List ℕ
shim_module_line m = codes "module " ++ m.old.name ++ codes " by " ++ m.new.name ++ codes "\n"

abbrev pub module_lines : MappedModule → List ℕ
module_lines m = shim_module_line m ++ flat_map function_lines m.functions

-- THE TEXT of mapped modules, in their order
unfoldable pub shims_text : List MappedModule → List ℕ
shims_text modules = flat_map module_lines modules
