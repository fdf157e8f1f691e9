-- Parameters go from the old function to the new one, results from the new one to the old.
-- What gives values is the source, what receives them the target.
use Rattle.std.specs.Prelude.{◌≡◌, ℕ, List, Option, Some, None, option_map}
use Rattle.std.specs.Option.{option_copied}
use Rattle.std.specs.Borrow.{Bor}
use Rattle.witx_base.specs.Found.{found}
use Rattle.witx_ast.specs.Tree.{Field}
use Rattle.witx_ast.specs.Functions.{param_field}
use Rattle.witx_ast.specs.declared.function.InterfaceFuncParam.{InterfaceFuncParam}
use Rattle.witx_compat.specs.declared.part.Part.{Part}
use Rattle.witx_compat.specs.Conversions.{Mapped, Unknown, of_old, of_new, param_mapped, result_mapped}
use Rattle.witx_compat.specs.Polyfills.{first_called}

abbrev pub pair_of : Part → Field → Field → Mapped
pair_of Part.Params = λ source target. param_mapped target source
pair_of Part.Results = result_mapped

abbrev pub target_of : Part → Mapped → Field
target_of Part.Params = λ m. m.new
target_of Part.Results = λ m. m.old

abbrev pub unknown_source : Part → Field → Unknown
unknown_source Part.Params = of_old
unknown_source Part.Results = of_new

-- the part whose values go the other way: its sources are the targets here
abbrev pub opposite : Part → Part
opposite Part.Params = Part.Results
opposite Part.Results = Part.Params

abbrev pub unknown_target : Part → Field → Unknown
unknown_target part = unknown_source (opposite part)

-- what a table holds at a name
abbrev pub named : List (List ℕ × Bor InterfaceFuncParam) → List ℕ → Option Field
named entries name = option_map param_field (option_copied (found entries name))

-- a table holds the first field of each name
abbrev pub IsTable : List (List ℕ × Bor InterfaceFuncParam) → List Field → Type 0
IsTable entries fields = (name : List ℕ) → named entries name ≡ first_called name fields

-- the first that is there
abbrev pub earlier_field : Option Field → Option Field → Option Field
earlier_field None later = later
earlier_field (Some f) later = Some f
