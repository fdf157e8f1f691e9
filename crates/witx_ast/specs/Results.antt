-- Which results each ABI permits, and the reason that is told of others.
use Rattle.std.specs.Prelude.{ℕ, List, [], ◌∷◌, Bool, true, ◌&&◌, Option, Some, None, codes, if◌then◌else◌}
use Rattle.witx_ast.specs.declared.function.Abi.{Abi}
use Rattle.witx_ast.specs.declared.types.RecordKind.{RecordKind}
use Rattle.witx_ast.specs.Tree.{Tree, Fields, Field, behind, arm_list}
use Rattle.witx_ast.specs.Words.{is_named, expected_payloads}

abbrev pub more_than_one : List ℕ
more_than_one = codes "more than one result"

abbrev pub invalid_return : List ℕ
invalid_return = codes "invalid return type"

abbrev pub only_named : List ℕ
only_named = codes "only named types are allowed in results"

-- each member's type is a name
abbrev pub all_named : Fields → Bool
all_named Fields.no_fields = true
all_named (Fields.field name t docs ms) = is_named t && all_named ms

-- the members of a tuple are named; of any other type, the type is
abbrev pub members_named : Tree → Bool → Bool
members_named (Tree.record_of RecordKind.Tuple ms) itself = all_named ms
members_named _ itself = itself

abbrev pub ok_named : Tree → Bool
ok_named t = members_named (behind t) (is_named t)

abbrev pub if_there : (Tree → Bool) → Option Tree → Bool
if_there test None = true
if_there test (Some t) = test t

-- the payloads of `ok` and `err`
abbrev pub payloads_reason : Option (Option Tree × Option Tree) → Option (List ℕ)
payloads_reason None = Some invalid_return
payloads_reason (Some (ok, err)) = if if_there ok_named ok && if_there is_named err then None else Some only_named

-- a result's type, its names looked through
abbrev pub type_reason : Tree → Option (List ℕ)
type_reason (Tree.named name t docs) = type_reason t
type_reason (Tree.builtin b) = None
type_reason Tree.handle = None
type_reason (Tree.list_of t) = Some invalid_return
type_reason (Tree.pointer_to t) = None
type_reason (Tree.const_pointer_to t) = None
type_reason (Tree.record_of (RecordKind.Bitflags repr) ms) = None
type_reason (Tree.record_of RecordKind.Tuple ms) = Some invalid_return
type_reason (Tree.record_of RecordKind.Other ms) = Some invalid_return
type_reason (Tree.variant_of repr cs) = payloads_reason (expected_payloads (arm_list cs))

-- the one result: stored whole it is a name, whatever the name stands for
abbrev pub result_reason : Abi → Tree → Option (List ℕ)
result_reason Abi.Preview1 t = type_reason (behind t)
result_reason Abi.Stored t = if is_named t then None else Some only_named

-- why the results are refused; none where they are permitted
abbrev pub results_reason : Abi → List Field → Option (List ℕ)
results_reason abi [] = None
results_reason abi (r ∷ []) = result_reason abi r.tree
results_reason abi (r ∷ s ∷ rs) = Some more_than_one
