-- What a function says: its parts, each type read as its tree.
use Rattle.std.specs.Prelude.{ℕ, List, map, Bool}
use Rattle.witx_ast.specs.Tree.{Field}
use Rattle.witx_ast.specs.Views.{tree_of}
use Rattle.witx_ast.specs.declared.function.Abi.{Abi}
use Rattle.witx_ast.specs.declared.function.InterfaceFuncParam.{InterfaceFuncParam}
use Rattle.witx_ast.specs.declared.function.InterfaceFunc.{InterfaceFunc}

pub record FunctionTree : Type 0 where
  pub abi : Abi
  pub name : List ℕ
  pub params : List Field
  pub results : List Field
  pub noreturn : Bool
  pub comment : List ℕ

-- a parameter or a result
abbrev pub param_field : InterfaceFuncParam → Field
param_field p = record { called = p.name; tree = tree_of p.tref; comment = p.docs }

abbrev pub func_tree : InterfaceFunc → FunctionTree
func_tree f = record {
  abi = f.abi;
  name = f.name;
  params = map param_field f.params;
  results = map param_field f.results;
  noreturn = f.noreturn;
  comment = f.docs;
}
