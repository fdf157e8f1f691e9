-- What the map of first entries has at given names.
use Rattle.std.specs.Prelude.{ℕ, List, Bool, ◌&&◌, Option}
use Rattle.std.specs.Map.{lookup}
use Rattle.witx_base.specs.Texts.{same_text}
use Rattle.witx_adapt.specs.declared.adapted.AdaptedFunc.{AdaptedFunc}
use Rattle.witx_adapt.specs.declared.first_entry.FunctionName.{FunctionName}

-- the names that a function goes by
abbrev pub names_of : AdaptedFunc → FunctionName
names_of e = record { «module» = e.module.value.name; name = e.func.value.name }

-- the second has the names of the first
abbrev pub has_names : FunctionName → FunctionName → Bool
has_names i x = same_text x.module i.module && same_text x.name i.name

-- these are the names that are asked for
abbrev pub asks_for : FunctionName → FunctionName → Bool
asks_for i n = same_text i.module n.module && same_text i.name n.name

-- what the map with these entries has at the names that are asked for
abbrev pub first_at : List (FunctionName × ℕ) → FunctionName → Option ℕ
first_at first i = lookup (asks_for i) first
