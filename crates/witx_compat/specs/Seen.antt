-- What a search for conversions has found: a set tells which its list has, and the list grows by those that it lacks.
use Rattle.std.specs.Prelude.{◌≡◌, List, [], ◌∷◌, ◌++◌, map, if◌then◌else◌}
use Rattle.std.specs.List.{list_any}
use Rattle.std.specs.HashSet.{HashSet, contains}
use Rattle.witx_compat.specs.declared.conversion.TypePolyfill.{TypePolyfill}
use Rattle.witx_compat.specs.Conversions.{Conversion}
use Rattle.witx_compat.specs.Once.{same_conversion}
use Rattle.witx_compat.specs.Views.{conversion_view}
use Rattle.witx_compat.specs.contracts.conversion.TypePolyfillPartialEq.TheImpl as conversions

abbrev pub TellsPairs : {S : Type 0} → HashSet TypePolyfill S → List TypePolyfill → Type 0
TellsPairs seen kept = (t : TypePolyfill) → contains conversions.ghosts.eq seen t ≡ list_any (same_conversion (conversion_view t)) (map conversion_view kept)

-- one more, unless it is there
abbrev pub with_conversion : List Conversion → Conversion → List Conversion
with_conversion kept x = if list_any (same_conversion x) kept then kept else kept ++ x ∷ []

abbrev pub with_conversions : List Conversion → List Conversion → List Conversion
with_conversions kept [] = kept
with_conversions kept (x ∷ xs) = with_conversions (with_conversion kept x) xs
