-- The values of a function's caller side, line by line, and which function it is of.
use Rattle.std.proofs.Common.{◌≡◌, ℕ, ◌+◌, ◌<◌, ◌≤◌, List, [], ◌∷◌, ◌++◌, None, length, map, get_or, drop, sym, ap, ◌∙◌, append-nil, subst}
use Rattle.std.specs.Prelude.{OnOk, Result}
use Rattle.witx_ast.specs.Functions.{func_tree, param_field}
use Rattle.witx_ast.specs.declared.function.InterfaceFunc.{InterfaceFunc}
use Rattle.witx_ast.specs.declared.function.InterfaceFuncParam.{InterfaceFuncParam}
use Rattle.witx_machine.specs.Functions.{function_of}
use Rattle.witx_machine.specs.Lowerable.{unlowerable}
use Rattle.witx_machine.specs.Traces.{caller_events}
use Rattle.witx_instructions.specs.Handed.{GeneratorCall}
use Rattle.witx_instructions.specs.Views.{called}
use Rattle.witx_header.specs.declared.handed.Variable.{Variable}
use Rattle.witx_header.specs.Bodies.{body_lines, calls_from, lowered_side, side_text, value_line, field_lines}
use Rattle.witx_header.proofs.Appending.{joined, next-of, none-left}

pub next-value : (xs : List InterfaceFuncParam) (i : ℕ) (p : InterfaceFuncParam) (done now total : List ℕ) → i < length xs → p ≡ get_or xs i p
    → now ≡ done ++ value_line i (param_field p)
    → done ++ field_lines i (map param_field (drop i xs)) ≡ total → now ++ field_lines (i + 1) (map param_field (drop (i + 1) xs)) ≡ total
next-value xs i p done now total l is w e =
    joined done now (value_line i (param_field p)) (field_lines (i + 1) (map param_field (drop (i + 1) xs))) total w
    (ap (λ t. done ++ t) (sym (ap (field_lines i) (next-of param_field xs i p l is))) ∙ e)

pub all-values : (xs : List InterfaceFuncParam) (i : ℕ) (done total : List ℕ) → length xs ≤ i → done ++ field_lines i (map param_field (drop i xs)) ≡ total → done ≡ total
all-values xs i done total l e = sym (append-nil done) ∙ ap (λ ps. done ++ field_lines i ps) (sym (none-left param_field xs i l)) ∙ e

pub ruleset value_rules = (all-values)

-- the side of a function that can be lowered, by the function as it is lowered
side-is : (f : InterfaceFunc) (owner : List ℕ) (calls : List (GeneratorCall Variable)) → function_of (func_tree f) ≡ called f → None ≡ unlowerable (called f)
    → calls ≡ calls_from 0 [] (caller_events owner (called f)) → side_text (map param_field f.params) calls ≡ body_lines owner (func_tree f)
side-is f owner calls same can are =
    ap (side_text (map param_field f.params)) (are ∙ ap (λ k. calls_from 0 [] (caller_events owner k)) (sym same))
    ∙ ap (λ o. lowered_side o owner (func_tree f)) (can ∙ ap unlowerable (sym same))

pub with-side : {T E : Type 0} (r : Result T E) (f : InterfaceFunc) (owner start end : List ℕ) (calls : List (GeneratorCall Variable)) → function_of (func_tree f) ≡ called f
    → None ≡ unlowerable (called f) → calls ≡ calls_from 0 [] (caller_events owner (called f))
    → OnOk r (end ≡ start ++ side_text (map param_field f.params) calls) → OnOk r (end ≡ start ++ body_lines owner (func_tree f))
with-side r f owner start end calls same can are is = subst (λ t. OnOk r (end ≡ start ++ t)) (side-is f owner calls same can are) is
