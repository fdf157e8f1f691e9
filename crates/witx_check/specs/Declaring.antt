-- What the name of a declaration does to the names of a validator, and a finished declaration to its entries and tables.
use Rattle.std.specs.Prelude.{◌≡◌, ◌∷◌, ℕ, List, Option, Result, IfErr, OnOk, OnErr, option_map}
use Rattle.witx_base.specs.Found.{found}
use Rattle.witx_syntax_tree.specs.declared.tree.IdSyntax.{IdSyntax}
use Rattle.witx_ast.specs.Definitions.{DefinitionTree, entry_tree}
use Rattle.witx_ast.specs.declared.definition.Definition.{Definition}
use Rattle.witx_ast.specs.declared.definition.Entry.{Entry}
use Rattle.witx_scope.specs.Answers.{IsCheckFault}
use Rattle.witx_scope.specs.Inside.{RefusesDeclaration, TakesAtMost}
use Rattle.witx_scope.specs.Kept.{entry_sense_of, sense_with, tree_with}
use Rattle.witx_scope.specs.Names.{Names, Sense}
use Rattle.witx_scope.specs.Sites.{kept_in, place_at}
use Rattle.witx_scope.specs.Validates.{Site, Validates}
use Rattle.witx_scope.specs.declared.error.CheckError.{CheckError}
use Rattle.witx_scope.specs.declared.site.Site as code
use Rattle.witx_scope.specs.declared.tables.Tables.{Tables}

-- the names with a declaration's one more, where it stands
abbrev pub with_declared : code.Site → IdSyntax → Names → Names
with_declared at n before = (n.name.now, place_at at n) ∷ before

-- a fault refuses the declaration of this name
abbrev pub RefusesName : {U : Type 0} → Result U CheckError → Names → Names → code.Site → IdSyntax → Type 0
RefusesName r old new at n = IfErr r (λ e. IsCheckFault e → RefusesDeclaration old new n.name.now (place_at at n))

-- an error, of whichever kind, leaves at most this name
abbrev pub LeavesName : {U : Type 0} → Result U CheckError → Names → Names → code.Site → IdSyntax → Type 0
LeavesName r old new at n = OnErr r (TakesAtMost old new n.name.now (place_at at n))

-- where it is done, one name denotes this, and each other what it denoted
abbrev pub SensesOnOk : {U E : Type 0} → Result U E → List (List ℕ × Entry) → List (List ℕ × Entry) → List ℕ → Option Sense → Type 0
SensesOnOk r old new n sense = (name : List ℕ) → OnOk r (entry_sense_of (found new name) ≡ sense_with old n sense name)

-- and goes by this definition
abbrev pub TreesOnOk : {U E : Type 0} → Result U E → List (List ℕ × Entry) → List (List ℕ × Entry) → List ℕ → DefinitionTree → Type 0
TreesOnOk r old new n tree = (name : List ℕ) → OnOk r (option_map entry_tree (found new name) ≡ tree_with old n tree name)

-- tables take a declaration in
abbrev pub TablesTake : Tables → Tables → List Definition → List Definition → Site → Result (Unit {0}) CheckError → Type 0
TablesTake before after old new at r = Validates (kept_in before) (kept_in after) old new at r
