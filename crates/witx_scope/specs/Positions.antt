-- Names by position. The declarations of typenames and modules stand in one list, in reading order; a name is introduced
-- by the first declaration of that name. A name that is used inside a declaration denotes what came of the declaration
-- before it that introduces the name; the declaration itself, and one that was refused, count as unfinished.
use Rattle.std.specs.Prelude.{ℕ, List, [], ◌∷◌, Option, Some, None, option_map, cond, Bool, true, false}
use Rattle.std.specs.Ordering.{is_eq, nat_cmp}
use Rattle.std.specs.Cmp.Lexicographic.{slice_cmp}
use Rattle.witx_files.specs.declared.location.Location.{Location}
use Rattle.witx_syntax_tree.specs.Trees.{Name}
use Rattle.witx_ast.specs.Tree.{Tree}
use Rattle.witx_scope.specs.Faults.{Check, name_already_exists}
use Rattle.witx_scope.specs.Names.{Sense, unknown, unfinished, a_module, a_type, Here}

-- what came of a declaration of a typename or a module
pub data DeclarationOutcome : Type 0 where
  refused : DeclarationOutcome
  made_type : Tree → DeclarationOutcome
  made_module : DeclarationOutcome

-- a declaration that introduces a name, with the name's place
pub record TakenName : Type 0 where
  pub name : List ℕ
  pub place : Location
  pub outcome : DeclarationOutcome

abbrev pub is_same_name : List ℕ → List ℕ → Bool
is_same_name n m = is_eq (slice_cmp nat_cmp n m)

-- the first declaration of the list that introduces the name
abbrev pub introducer : List TakenName → List ℕ → Option TakenName
introducer [] n = None
introducer (t ∷ ts) n = cond (is_same_name n t.name) (Some t) (introducer ts n)

abbrev pub sense_from : DeclarationOutcome → Sense
sense_from refused = unfinished
sense_from (made_type t) = a_type t
sense_from made_module = a_module

-- a name that no earlier declaration introduces: the declaration's own, or none
abbrev pub own_sense : Bool → Sense
own_sense true = unfinished
own_sense false = unknown

abbrev pub sense_after : Option TakenName → Bool → Sense
sense_after (Some t) own = sense_from t.outcome
sense_after None own = own_sense own

-- what n denotes inside a declaration that introduces `own`, after the declarations of `past`
abbrev pub denotes : List TakenName → List ℕ → List ℕ → Sense
denotes past own n = sense_after (introducer past n) (is_same_name n own)

-- what n denotes inside a declaration that introduces no name
abbrev pub denotes_before : List TakenName → List ℕ → Sense
denotes_before past n = sense_after (introducer past n) false

-- the inside of a declaration that introduces n, after the declarations of `past`
abbrev pub after : List TakenName → (ℕ → Location) → Name → Here
after past place n = record { sense = denotes past n.name; place = place }

-- where the name stands first
abbrev pub first_place : List TakenName → List ℕ → Option Location
first_place past n = option_map (λ t. t.place) (introducer past n)

-- the name of a declaration stands nowhere earlier
abbrev pub declared_name : List TakenName → (ℕ → Location) → Name → Check
declared_name past place n = option_map (λ earlier. name_already_exists n.name (place n.start) earlier) (first_place past n.name)
