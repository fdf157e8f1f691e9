-- What the plans ask of parameters, of results and of return pointers.
use Rattle.std.specs.Prelude.{◌≡◌, List, None, not, position}
use Rattle.std.specs.Borrow.{Bor}
use Rattle.std.specs.declared.alloc.Global.{Global}
use Rattle.std.specs.declared.rc.Rc.{Rc}
use Rattle.witx_ast.specs.declared.function.Abi.{Abi}
use Rattle.witx_ast.specs.declared.function.InterfaceFuncParam.{InterfaceFuncParam}
use Rattle.witx_ast.specs.declared.function.InterfaceFunc.{InterfaceFunc}
use Rattle.witx_ast.specs.declared.types.NamedType.{NamedType}
use Rattle.witx_ast.specs.declared.types.TypeRef.{TypeRef}
use Rattle.witx_ast.specs.Views.{tree_of}
use Rattle.witx_machine.specs.Functions.{result_cases}
use Rattle.witx_machine.specs.Lowerable.{can_be_param, unlowerable_result}
use Rattle.witx_machine.specs.Signature.{pointers_by, pointers_under, return_pointers}
use Rattle.witx_instructions.specs.Views.{called, param_types, pointer_types}

-- each of these types can be that of a parameter
abbrev pub CanBeParams : List InterfaceFuncParam → Type 0
CanBeParams params = position (λ t. not (can_be_param t)) (param_types params) ≡ None

-- these results can be given back under this ABI
abbrev pub CanBeResults : Abi → List InterfaceFuncParam → Type 0
CanBeResults abi results = unlowerable_result abi (param_types results) ≡ None

-- these are the return pointers of a function
abbrev pub PointersOfFunction : InterfaceFunc → List (Bor (Rc NamedType Global)) → Type 0
PointersOfFunction f pointers = pointer_types pointers ≡ return_pointers (called f)

-- these are those of results under this ABI
abbrev pub PointersOfResults : Abi → List InterfaceFuncParam → List (Bor (Rc NamedType Global)) → Type 0
PointersOfResults abi results pointers = pointer_types pointers ≡ pointers_under abi (param_types results)

-- these are those of one result under Preview1
abbrev pub PointersOfResult : TypeRef → List (Bor (Rc NamedType Global)) → Type 0
PointersOfResult t pointers = pointer_types pointers ≡ pointers_by (result_cases (tree_of t))
