-- Whether a call is of the function: its types are compared with the function's, one by one.
use Rattle.std.proofs.Common.{◌≡◌, refl, ap, ◌∙◌, Bool, ◌&&◌, List, [], ◌∷◌, map}
use Rattle.std.specs.Cmp.Lexicographic.{pointwise}
use Rattle.witx_ast.specs.declared.types.TypeRef.{TypeRef}
use Rattle.witx_ast.specs.declared.function.InterfaceFuncParam.{InterfaceFuncParam}
use Rattle.witx_ast.specs.Same.{same_tree}
use Rattle.witx_ast.specs.Views.{tree_of}
use Rattle.witx_machine.specs.declared.surface.WasmType.{WasmType}
use Rattle.witx_machine.specs.contracts.surface.WasmTypePartialEq.TheImpl as wasm
use Rattle.witx_machine.specs.Words.{same_type, same_types}
use Rattle.witx_machine.specs.Run.{same_trees}
use Rattle.witx_instructions.specs.Views.{param_types}

abbrev pub is_type : TypeRef → InterfaceFuncParam → Bool
is_type t p = same_tree (tree_of t) (tree_of p.tref)

pub trees-pairs : (ts : List TypeRef) (ps : List InterfaceFuncParam) → pointwise is_type ts ps ≡ same_trees (map tree_of ts) (param_types ps)
trees-pairs [] [] = refl
trees-pairs [] (p ∷ ps) = refl
trees-pairs (t ∷ ts) [] = refl
trees-pairs (t ∷ ts) (p ∷ ps) = ap (λ b. is_type t p && b) (trees-pairs ts ps)

type-same : (t u : WasmType) → wasm.ghosts.eq t u ≡ same_type t u
type-same WasmType.I32 WasmType.I32 = refl
type-same WasmType.I32 WasmType.I64 = refl
type-same WasmType.I32 WasmType.F32 = refl
type-same WasmType.I32 WasmType.F64 = refl
type-same WasmType.I64 WasmType.I32 = refl
type-same WasmType.I64 WasmType.I64 = refl
type-same WasmType.I64 WasmType.F32 = refl
type-same WasmType.I64 WasmType.F64 = refl
type-same WasmType.F32 WasmType.I32 = refl
type-same WasmType.F32 WasmType.I64 = refl
type-same WasmType.F32 WasmType.F32 = refl
type-same WasmType.F32 WasmType.F64 = refl
type-same WasmType.F64 WasmType.I32 = refl
type-same WasmType.F64 WasmType.I64 = refl
type-same WasmType.F64 WasmType.F32 = refl
type-same WasmType.F64 WasmType.F64 = refl

pub types-same : (ts us : List WasmType) → pointwise wasm.ghosts.eq ts us ≡ same_types ts us
types-same [] [] = refl
types-same [] (u ∷ us) = refl
types-same (t ∷ ts) [] = refl
types-same (t ∷ ts) (u ∷ us) = ap (λ b. b && pointwise wasm.ghosts.eq ts us) (type-same t u) ∙ ap (λ b. same_type t u && b) (types-same ts us)

pub ruleset name_rules = (types-same)
