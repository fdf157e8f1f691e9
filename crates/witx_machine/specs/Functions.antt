-- What a call is about: the function's ABI, its name, and the types of its parameters and results.
-- The names and the documentation of parameters play no part in a call.
use Rattle.std.specs.Prelude.{ℕ, List, [], ◌∷◌, map, Bool, true, false, cond, not, Option, Some, None, is_some}
use Rattle.witx_ast.specs.declared.function.Abi.{Abi}
use Rattle.witx_ast.specs.Tree.{Tree, Fields, Arms}
use Rattle.witx_ast.specs.Plain as plain_tree
use Rattle.witx_ast.specs.Plain.{Plain, all_bare, plain_arms}
use Rattle.witx_ast.specs.declared.types.RecordKind.{RecordKind}
use Rattle.witx_ast.specs.Functions.{FunctionTree}

pub record Function : Type 0 where
  pub abi : Abi
  pub name : List ℕ
  pub params : List Tree
  pub results : List Tree

abbrev pub function_of : FunctionTree → Function
function_of f = record { abi = f.abi; name = f.name; params = map (λ p. p.tree) f.params; results = map (λ r. r.tree) f.results }

-- some case has a payload
abbrev pub has_payload : plain_tree.Arms → Bool
has_payload cs = not (all_bare cs)

-- what is passed by address: a record that isn't flags, or a variant with a payload
abbrev pub by_address : Plain → Bool
by_address (Plain.record_of RecordKind.Tuple ms) = true
by_address (Plain.record_of RecordKind.Other ms) = true
by_address (Plain.variant_of r cs) = has_payload cs
by_address _ = false

-- the named type under which a value of the type comes, if its type is a name
abbrev pub name_of : Tree → Option Tree
name_of (Tree.named n t d) = Some (Tree.named n t d)
name_of _ = None

-- the types of a record's members
abbrev pub member_types : Fields → List Tree
member_types Fields.no_fields = []
member_types (Fields.field n t d ms) = t ∷ member_types ms

-- the types of a tuple's members, names looked through; none of another type
abbrev pub tuple_types : Tree → Option (List Tree)
tuple_types (Tree.named n t d) = tuple_types t
tuple_types (Tree.record_of RecordKind.Tuple ms) = Some (member_types ms)
tuple_types _ = None

abbrev pub is_tuple : Tree → Bool
is_tuple t = is_some (tuple_types t)

-- the type that the first case carries, and that the second one carries
abbrev pub ok_of : Arms → Option Tree
ok_of Arms.no_arms = None
ok_of (Arms.bare n d cs) = None
ok_of (Arms.carries n t d cs) = Some t

abbrev pub err_of : Arms → Option Tree
err_of Arms.no_arms = None
err_of (Arms.bare n d cs) = ok_of cs
err_of (Arms.carries n t d cs) = ok_of cs

-- the cases of a result that is a variant with a payload
abbrev pub result_cases : Tree → Option Arms
result_cases (Tree.named n t d) = result_cases t
result_cases (Tree.variant_of r cs) = cond (has_payload (plain_arms cs)) (Some cs) None
result_cases _ = None
