-- A function of the program, as the machine has it, is what its tree says.
use Rattle.std.proofs.Common.{◌≡◌, List, [], ◌∷◌, map, refl, ap}
use Rattle.witx_ast.specs.Tree.{Tree, Field}
use Rattle.witx_ast.specs.Views.{tree_of}
use Rattle.witx_ast.specs.Functions.{param_field, func_tree}
use Rattle.witx_ast.specs.declared.function.InterfaceFuncParam.{InterfaceFuncParam}
use Rattle.witx_ast.specs.declared.function.InterfaceFunc.{InterfaceFunc}
use Rattle.witx_machine.specs.Functions.{Function, function_of}
use Rattle.witx_instructions.specs.Views.{called, param_types}

types-read : (ps : List InterfaceFuncParam) → map (λ (p : Field). p.tree) (map param_field ps) ≡ param_types ps
types-read [] = refl
types-read (p ∷ ps) = ap (λ ts. tree_of p.tref ∷ ts) (types-read ps)

function-same : (f : InterfaceFunc) (ps qs rs ss : List Tree) → ps ≡ qs → rs ≡ ss
    → ◌≡◌ {A = Function} (record { abi = f.abi; name = f.name; params = ps; results = rs }) (record { abi = f.abi; name = f.name; params = qs; results = ss })
function-same f ps qs rs ss e k = cc

pub called-same : (f : InterfaceFunc) → function_of (func_tree f) ≡ called f
called-same f = function-same f _ _ _ _ (types-read f.params) (types-read f.results)
