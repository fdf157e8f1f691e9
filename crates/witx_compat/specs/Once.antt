-- The conversions of functions: parameters, then results, function by function, each once.
use Rattle.std.specs.Prelude.{List, [], ◌∷◌, ◌++◌, map, Bool, false, ◌&&◌, if◌then◌else◌}
use Rattle.std.specs.List.{list_any, flat_map}
use Rattle.witx_ast.specs.Same.{same_tree}
use Rattle.witx_compat.specs.Conversions.{Conversion, new_to_old, old_to_new}
use Rattle.witx_compat.specs.Polyfills.{MappedFunction, MappedModule}

-- the same types, names and documentation included, and the same way
abbrev pub same_conversion : Conversion → Conversion → Bool
same_conversion (new_to_old a b) (new_to_old c d) = same_tree a c && same_tree b d
same_conversion (old_to_new a b) (old_to_new c d) = same_tree a c && same_tree b d
same_conversion (new_to_old a b) (old_to_new c d) = false
same_conversion (old_to_new a b) (new_to_old c d) = false

-- those that stand nowhere before, of a list that follows the list before
abbrev pub new_after : List Conversion → List Conversion → List Conversion
new_after before [] = []
new_after before (x ∷ xs) =
    if list_any (same_conversion x) before then new_after (before ++ x ∷ []) xs else x ∷ new_after (before ++ x ∷ []) xs

-- each of a list once, at its first appearance
abbrev pub each_once : List Conversion → List Conversion
each_once = new_after []

abbrev pub function_conversions : MappedFunction → List Conversion
function_conversions f = map (λ m. m.conversion) f.params ++ map (λ m. m.conversion) f.results

abbrev pub module_conversions : MappedModule → List Conversion
module_conversions m = flat_map function_conversions m.functions
