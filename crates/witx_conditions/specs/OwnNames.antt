-- No two of these have one name.
use Rattle.std.specs.Prelude.{ℕ, List, Option}
use Rattle.std.specs.List.{IsDistinct}
use Rattle.std.specs.Map.{keys_of}
use Rattle.witx_base.specs.Texts.{same_text}
use Rattle.witx_ast.specs.Entries.{by_name}

-- definitions, or a module's items, some of which have a name
abbrev pub HaveOwnNames : {T : Type 0} → (T → Option (List ℕ)) → List T → Type 0
HaveOwnNames name_of ts = IsDistinct same_text (keys_of (by_name name_of ts))
