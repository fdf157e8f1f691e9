-- What a validator keeps, and when it keeps what the declarations so far have left: each introduced name with its first
-- place, the finished typenames and modules, and the accepted constants of each type name.
use Rattle.std.specs.Prelude.{◌≡◌, ℕ, List, Option, Some, None, option_map, cond}
use Rattle.witx_base.specs.Found.{found}
use Rattle.witx_files.specs.declared.location.Location.{Location}
use Rattle.witx_ast.specs.Views.{tree_of, named_tree}
use Rattle.witx_ast.specs.declared.types.NamedType.{NamedType}
use Rattle.witx_ast.specs.Definitions.{DefinitionTree, typename_of, entry_tree}
use Rattle.witx_ast.specs.declared.definition.Entry.{Entry}
use Rattle.witx_ast.specs.declared.definition.Entry.TheVariants as entry
use Rattle.witx_scope.specs.declared.constants.ConstantName.{ConstantName}
use Rattle.witx_scope.specs.Constants.{constant_place}
use Rattle.witx_scope.specs.Names.{Sense, a_module, a_type, Names}
use Rattle.witx_scope.specs.Positions.{is_same_name, DeclarationOutcome, refused, made_type, made_module, TakenName, introducer, first_place}
use Rattle.witx_scope.specs.Declarations.{Past, TakenConstant, constants_of_type}

-- the names and places, the entries, and the constants by the names of their types
pub record Kept : Type 0 where
  pub names : Names
  pub entries : List (List ℕ × Entry)
  pub constants : List (ConstantName × Location)

-- the sense of a finished name
abbrev pub finished : DeclarationOutcome → Option Sense
finished refused = None
finished (made_type t) = Some (a_type t)
finished made_module = Some a_module

abbrev pub finished_sense : Option TakenName → Option Sense
finished_sense None = None
finished_sense (Some t) = finished t.outcome

abbrev pub entry_sense_of : Option Entry → Option Sense
entry_sense_of None = None
entry_sense_of (Some (entry.Typename n)) = Some (a_type (named_tree n.value))
entry_sense_of (Some (entry.Module m)) = Some a_module

-- the definition of a typename
abbrev pub made_typename : NamedType → DefinitionTree
made_typename n = typename_of n.name (tree_of n.tref) n.docs

-- what a name denotes, and the definition that it goes by, with one name more
abbrev pub sense_with : List (List ℕ × Entry) → List ℕ → Option Sense → List ℕ → Option Sense
sense_with es n sense q = cond (is_same_name q n) sense (entry_sense_of (found es q))

abbrev pub tree_with : List (List ℕ × Entry) → List ℕ → DefinitionTree → List ℕ → Option DefinitionTree
tree_with es n tree q = cond (is_same_name q n) (Some tree) (option_map entry_tree (found es q))

pub record KeepsNames (names : Names) (entries : List (List ℕ × Entry)) (taken : List TakenName) : Type 0 where
  pub places : (n : List ℕ) → found names n ≡ first_place taken n
  pub senses : (n : List ℕ) → entry_sense_of (found entries n) ≡ finished_sense (introducer taken n)

abbrev pub KeepsConstants : List (ConstantName × Location) → List TakenConstant → Type 0
KeepsConstants kept taken = (type_name n : List ℕ) → constant_place kept type_name n ≡ found (constants_of_type taken type_name) n

pub record Keeps (kept : Kept) (past : Past) : Type 0 where
  pub introduced : KeepsNames kept.names kept.entries past.taken
  pub constants : KeepsConstants kept.constants past.constants
