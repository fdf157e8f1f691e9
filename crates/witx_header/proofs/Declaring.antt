-- A function's import, by the function as it is lowered; and a function as an item of its module.
use Rattle.std.proofs.Common.{◌≡◌, ℕ, List, [], ◌++◌, subst, sym}
use Rattle.std.specs.Prelude.{OnOk, Result}
use Rattle.std.specs.declared.alloc.Global.{Global}
use Rattle.std.specs.declared.rc.Rc.{Rc}
use Rattle.witx_ast.specs.declared.function.InterfaceFunc.{InterfaceFunc}
use Rattle.witx_ast.specs.declared.module.ModuleDefinition.{ModuleDefinition}
use Rattle.witx_ast.specs.declared.module.ModuleDefinition.TheVariants as definition_variant
use Rattle.witx_ast.specs.Functions.{func_tree}
use Rattle.witx_ast.specs.Items.{item_tree}
use Rattle.witx_machine.specs.Functions.{function_of}
use Rattle.witx_machine.specs.Signature.{signature_params, signature_results}
use Rattle.witx_instructions.specs.Views.{called}
use Rattle.witx_header.specs.Headers.{c_func_lines, import_lines, c_item_lines, prototype}

pub imported : (f : InterfaceFunc) (owner start end : List ℕ) → function_of (func_tree f) ≡ called f
    → end ≡ start ++ prototype owner f.name (signature_params (called f)) (signature_results (called f)) f.noreturn → end ≡ start ++ import_lines owner (func_tree f)
imported f owner start end same words =
    subst (λ k. end ≡ start ++ prototype owner f.name (signature_params k) (signature_results k) f.noreturn) (sym same) words

pub of-func : {T E : Type 0} (g : Rc InterfaceFunc Global) (f : InterfaceFunc) (d : ModuleDefinition) (r : Result T E) (owner done now : List ℕ) → d ≡ definition_variant.Func g → f ≡ g.value
    → OnOk r (now ≡ done ++ c_func_lines owner (func_tree f)) → OnOk r (now ≡ done ++ c_item_lines owner (item_tree d))
of-func g f d r owner done now is same h =
    subst (λ x. OnOk r (now ≡ done ++ c_item_lines owner (item_tree x))) (sym is)
    (subst (λ x. OnOk r (now ≡ done ++ c_func_lines owner (func_tree x))) same h)
