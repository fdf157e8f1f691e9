-- What a name denotes inside a declaration, and the two checks of names: a new name stands nowhere earlier in its scope,
-- and a used name denotes a type.
use Rattle.std.specs.Prelude.{◌≡◌, ℕ, List, Some, None, option_map, codes, Result, OnOk}
use Rattle.witx_base.specs.Found.{found}
use Rattle.witx_files.specs.declared.location.Location.{Location}
use Rattle.witx_ast.specs.Tree.{Tree}
use Rattle.witx_scope.specs.Faults.{unknown_name, recursive, name_already_exists, wrong_kind_name, Check}

-- what a name denotes inside a declaration
pub data Sense : Type 0 where
  unknown : Sense
  unfinished : Sense
  a_module : Sense
  a_type : Tree → Sense

-- where a declaration stands: what names denote in it, and the location of each place of its text
pub record Here : Type 0 where
  pub sense : List ℕ → Sense
  pub place : ℕ → Location

abbrev pub Names : Type 0
Names = List (List ℕ × Location)

abbrev pub new_name : Names → List ℕ → Location → Check
new_name before n at = option_map (λ earlier. name_already_exists n at earlier) (found before n)

-- where it is done, what is found under a name afterwards is what these entries have
abbrev pub FindsOnOk : {V U E : Type 0} → Result U E → List (List ℕ × V) → List (List ℕ × V) → Type 0
FindsOnOk r now entries = (name : List ℕ) → OnOk r (found now name ≡ found entries name)

-- names inside one declaration, with the offsets at which they stand
abbrev pub NameMarks : Type 0
NameMarks = List (List ℕ × ℕ)

abbrev pub new_mark : Here → NameMarks → List ℕ → ℕ → Check
new_mark h before n at = option_map (λ earlier. name_already_exists n (h.place at) (h.place earlier)) (found before n)

abbrev pub use_check : List ℕ → Location → Sense → Check
use_check n at unknown = Some (unknown_name n at)
use_check n at unfinished = Some (recursive n at)
use_check n at a_module = Some (wrong_kind_name n (codes "datatype") (codes "module") at)
use_check n at (a_type t) = None

-- the type that a name stands for; where a name has none, what is built of it is never used
abbrev pub sense_tree : Sense → Tree
sense_tree (a_type t) = t
sense_tree _ = Tree.handle
