-- Which functions can be lowered, and the place of the first part that can't be.
-- A parameter that is a record, a variant or a handle is a name. There is at most one result. Under Stored
-- it is a name. Under Preview1 it is a builtin, a pointer, a named handle, named flags, or a variant of the
-- two cases ok and err whose tag isn't u64, a name itself if it has no payload. Its ok type is a name, or a
-- tuple of names, and where the name stands for a tuple its members are names too; its err type is a name
-- that is passed as one I32.
use Rattle.std.specs.Prelude.{ℕ, List, [], ◌∷◌, Bool, true, false, ◌&&◌, ◌||◌, not, cond, position, Option, Some, None, is_none}
use Rattle.witx_ast.specs.declared.function.Abi.{Abi}
use Rattle.witx_ast.specs.declared.types.IntRepr.{IntRepr}
use Rattle.witx_ast.specs.declared.types.RecordKind.{RecordKind}
use Rattle.witx_ast.specs.Tree.{Tree, Arms, arm_list}
use Rattle.witx_ast.specs.Plain.{plain, plain_arms}
use Rattle.witx_ast.specs.Words.{is_named, is_expected}
use Rattle.witx_machine.specs.declared.surface.WasmType.{WasmType}
use Rattle.witx_machine.specs.declared.surface.Place.{Place}
use Rattle.witx_machine.specs.Words.{same_types}
use Rattle.witx_machine.specs.Functions.{Function, has_payload, tuple_types, is_tuple, ok_of, err_of}
use Rattle.witx_machine.specs.Signature.{param_words}

abbrev pub can_be_param : Tree → Bool
can_be_param (Tree.named n t d) = true
can_be_param (Tree.builtin b) = true
can_be_param (Tree.pointer_to t) = true
can_be_param (Tree.const_pointer_to t) = true
can_be_param (Tree.list_of t) = true
can_be_param Tree.handle = false
can_be_param (Tree.record_of k ms) = false
can_be_param (Tree.variant_of r cs) = false

abbrev pub all_names : List Tree → Bool
all_names [] = true
all_names (t ∷ ts) = is_named t && all_names ts

abbrev pub none_or_names : Option (List Tree) → Bool
none_or_names None = true
none_or_names (Some ts) = all_names ts

-- where a type is a tuple behind its names, its members are names
abbrev pub members_are_named : Tree → Bool
members_are_named t = none_or_names (tuple_types t)

abbrev pub can_be_ok : Option Tree → Bool
can_be_ok None = true
can_be_ok (Some t) = (is_named t || is_tuple t) && members_are_named t

abbrev pub can_be_err : Option Tree → Bool
can_be_err None = true
can_be_err (Some t) = is_named t && same_types (param_words (plain t)) (WasmType.I32 ∷ [])

abbrev pub is_narrow : IntRepr → Bool
is_narrow IntRepr.U64 = false
is_narrow _ = true

-- the cases `ok` and `err`, of a type that is a name or with a payload
abbrev pub cases_can_return : Bool → Arms → Bool
cases_can_return named cs =
    is_expected (arm_list cs) && ((has_payload (plain_arms cs) || named) && (can_be_ok (ok_of cs) && can_be_err (err_of cs)))

-- named: whether the type stands there as a name; then the type itself
abbrev pub can_return : Bool → Tree → Bool
can_return named (Tree.named n t d) = can_return true t
can_return named (Tree.builtin b) = true
can_return named (Tree.pointer_to t) = true
can_return named (Tree.const_pointer_to t) = true
can_return named Tree.handle = named
can_return named (Tree.record_of (RecordKind.Bitflags r) ms) = named
can_return named (Tree.variant_of r cs) = is_narrow r && cases_can_return named cs
can_return named _ = false

abbrev pub can_be_result : Abi → Tree → Bool
can_be_result Abi.Preview1 t = can_return false t
can_be_result Abi.Stored t = is_named t

abbrev pub unlowerable_result : Abi → List Tree → Option Place
unlowerable_result abi [] = None
unlowerable_result abi (t ∷ []) = cond (can_be_result abi t) None (Some (Place.Result 0))
unlowerable_result abi (t ∷ u ∷ ts) = Some (Place.Result 1)

abbrev pub earlier_place : Option ℕ → Option Place → Option Place
earlier_place (Some i) result = Some (Place.Param i)
earlier_place None result = result

-- the first parameter that can't be lowered, else the result
abbrev pub unlowerable : Function → Option Place
unlowerable f = earlier_place (position (λ t. not (can_be_param t)) f.params) (unlowerable_result f.abi f.results)

abbrev pub lowerable : Function → Bool
lowerable f = is_none (unlowerable f)
