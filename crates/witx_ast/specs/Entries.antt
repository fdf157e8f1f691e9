-- When a map of entries fits a list of definitions: the names are distinct, and the map holds exactly the named definitions, each under its name.
use Rattle.std.specs.Prelude.{◌≡◌, ℕ, List, Option, option_map}
use Rattle.std.specs.List.{filter_map, IsDistinct}
use Rattle.std.specs.Map.{keys_of}
use Rattle.witx_base.specs.Texts.{same_text}
use Rattle.witx_base.specs.Found.{found}

-- definitions in order, and entries by name
pub record Held (D E : Type 0) : Type 0 where
  pub definitions : List D
  pub entries : List (List ℕ × E)

-- the definitions that have a name, each with it
abbrev pub by_name : {T : Type 0} → (T → Option (List ℕ)) → List T → List (List ℕ × T)
by_name name_of ts = filter_map (λ t. option_map (λ n. (n, t)) (name_of t)) ts

pub record Fits {T E : Type 0} (name_of : T → Option (List ℕ)) (tree : E → T) (ts : List T) (entries : List (List ℕ × E)) : Type 0 where
  pub distinct : IsDistinct same_text (keys_of (by_name name_of ts))
  pub holds : (n : List ℕ) → option_map tree (found entries n) ≡ found (by_name name_of ts) n
