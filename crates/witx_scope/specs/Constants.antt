-- The constants that a validator keeps: where the constant of a type's name and a name stands.
use Rattle.std.specs.Prelude.{◌≡◌, ℕ, List, Option, Some, option_map, cond, Bool, ◌&&◌, Result, OnOk}
use Rattle.std.specs.BTreeMap.{BTreeMap}
use Rattle.std.specs.Map.{lookup}
use Rattle.witx_files.specs.declared.location.Location.{Location}
use Rattle.witx_comments.specs.Documentation.{documentation_of}
use Rattle.witx_comments.specs.Comments.{comments_view}
use Rattle.witx_comments.specs.declared.comment.Documented.{Documented}
use Rattle.witx_syntax_tree.specs.declared.tree.ConstSyntax.{ConstSyntax}
use Rattle.witx_ast.specs.declared.definition.Constant.{Constant}
use Rattle.witx_scope.specs.declared.constants.ConstantName.{ConstantName}
use Rattle.witx_scope.specs.Faults.{Check, name_already_exists}
use Rattle.witx_scope.specs.Positions.{is_same_name}

abbrev pub is_constant : List ℕ → List ℕ → ConstantName → Bool
is_constant type_name name key = is_same_name type_name key.ty && is_same_name name key.name

abbrev pub constant_place : List (ConstantName × Location) → List ℕ → List ℕ → Option Location
constant_place entries type_name name = lookup (is_constant type_name name) entries

-- the constant of a declaration
abbrev pub made_constant : Documented ConstSyntax → Constant
made_constant d = record {
  ty = d.item.ty.name.now;
  name = d.item.name.name.now;
  value = d.item.value;
  docs = documentation_of (comments_view d.comments);
}

-- the same with one place more, under a type's name and a name
abbrev pub place_under : List (ConstantName × Location) → List ℕ → List ℕ → Location → List ℕ → List ℕ → Option Location
place_under old ty n at type_name name =
    cond (is_same_name type_name ty && is_same_name name n) (Some at) (constant_place old type_name name)

-- where it is done, that place is kept, and all others as before
abbrev pub PlacesOnOk : {U E : Type 0} → Result U E → BTreeMap ConstantName Location → BTreeMap ConstantName Location → List ℕ → List ℕ → Location → Type 0
PlacesOnOk r old new ty n at =
    (type_name name : List ℕ) → OnOk r (constant_place new.entries type_name name ≡ place_under old.entries ty n at type_name name)

-- the name of a constant, which stands at a place
abbrev pub repeated_constant : List (ConstantName × Location) → ConstSyntax → Location → Check
repeated_constant entries c at = option_map (λ earlier. name_already_exists c.name.name.now at earlier) (constant_place entries c.ty.name.now c.name.name.now)
