-- Runs over bytes, computed.
use Rattle.std.specs.Prelude.{◌≡◌, refl, ℕ, zero, suc, List, [], ◌∷◌, Option, Some, None, pos, false, codes, option_map, cond, nat_eq}
use native.Mathlib.Decide.{ℕ_discrete}
use Rattle.witx_ast.specs.declared.function.Abi.{Abi}
use Rattle.witx_ast.specs.declared.types.BuiltinType.{BuiltinType}
use Rattle.witx_ast.specs.declared.types.IntRepr.{IntRepr}
use Rattle.witx_ast.specs.declared.types.RecordKind.{RecordKind}
use Rattle.witx_ast.specs.Tree.{Tree, Fields, Arms}
use Rattle.witx_ast.specs.Values.{Value, Values}
use Rattle.witx_machine.specs.Words.{Word, i32}
use Rattle.witx_machine.specs.Functions.{Function}
use Rattle.witx_machine.specs.Traces.{caller_events, callee_events}
use Rattle.witx_machine.specs.Run.{values_in, Outcome}
use Rattle.witx_bytes.specs.Bytes.{Bytes}
use Rattle.witx_bytes.specs.ByteMachine.{Store, run_bytes}

abbrev m : List ℕ
m = codes "m"

abbrev u8 : Tree
u8 = Tree.builtin (BuiltinType.U8 false)

abbrev u32 : Tree
u32 = Tree.builtin (BuiltinType.U32 false)

abbrev named : List ℕ → Tree → Tree
named name t = Tree.named name t []

abbrev pair : Tree
pair = named (codes "p") (Tree.record_of RecordKind.Other (Fields.field (codes "a") u8 [] (Fields.field (codes "b") u32 [] Fields.no_fields)))

abbrev errno : Tree
errno = named (codes "e") (Tree.variant_of IntRepr.U32 (Arms.bare (codes "a") [] (Arms.bare (codes "b") [] Arms.no_arms)))

abbrev expected : Tree
expected = Tree.variant_of IntRepr.U32 (Arms.carries (codes "ok") pair [] (Arms.carries (codes "err") errno [] Arms.no_arms))

-- a record in, and a record or an error back
abbrev turns : Function
turns = record { abi = Abi.Preview1; name = codes "f"; params = pair ∷ []; results = expected ∷ [] }

abbrev pair_value : ℕ → ℕ → Value
pair_value a b = Value.record_values (Values.value_then (Value.number (BuiltinType.U8 false) (pos a)) (Values.value_then (Value.number (BuiltinType.U32 false) (pos b)) Values.no_values))

-- one byte in use
abbrev used : Bytes
used at = cond (nat_eq at 40) (Some 99) None

abbrev shown : ℕ → ℕ → Bytes → List (Option ℕ)
shown at zero m = []
shown at (suc n) m = m at ∷ shown (suc at) n m

pub record Seen : Type 0 where
  pub back : Option (List Value)
  pub words : List Word
  pub given : List (Option ℕ)
  pub kept : Option ℕ

abbrev seen : Outcome Value Word Store → Seen
seen o = record { back = values_in o.back; words = o.call.words; given = shown 16 16 o.memory.bytes; kept = o.memory.bytes 40 }

ok_back : option_map seen (run_bytes m turns (caller_events m turns) (callee_events m turns) (pair_value 1 2 ∷ []) (Some (Value.case_with 0 (pair_value 7 258))) used (16 ∷ 24 ∷ []))
    ≡ Some (record { back = Some (Value.case_with 0 (pair_value 7 258) ∷ []); words = i32 16 ∷ i32 24 ∷ []; given = Some 1 ∷ Some 0 ∷ Some 0 ∷ Some 0 ∷ Some 2 ∷ Some 0 ∷ Some 0 ∷ Some 0 ∷ Some 7 ∷ Some 0 ∷ Some 0 ∷ Some 0 ∷ Some 2 ∷ Some 1 ∷ Some 0 ∷ Some 0 ∷ []; kept = Some 99 })
unfolding ℕ_discrete
ok_back = refl

-- ranges that overlap, or that use a byte of the memory, aren't given
overlapping : run_bytes m turns (caller_events m turns) (callee_events m turns) (pair_value 1 2 ∷ []) (Some (Value.case_with 0 (pair_value 7 258))) used (16 ∷ 20 ∷ []) ≡ None
unfolding ℕ_discrete
overlapping = refl

in_use : run_bytes m turns (caller_events m turns) (callee_events m turns) (pair_value 1 2 ∷ []) (Some (Value.case_with 0 (pair_value 7 258))) used (16 ∷ 36 ∷ []) ≡ None
unfolding ℕ_discrete
in_use = refl
