use Rattle.std.proofs.Common.{◌≡◌, rules, map}
use Rattle.witx_ast.specs.Functions.{func_tree, param_field}
use Rattle.witx_machine.specs.Signature.{signature_params}
use Rattle.witx_instructions.specs.Views.{called}
use Rattle.witx_compat.specs.Views.{function_view}
use Rattle.witx_shim.proofs.Answered.{Made, shim-made}
use Rattle.witx_shim.proofs.serving.shim.Goals as goal

pub returns-clause-pass : goal.returns-clause-pass
returns-clause-pass c =
    let old = func_tree c.args.poly.now.old.value in
    let new = func_tree c.args.poly.now.new.value in
    let olds : map param_field c.as_slice.result.now ≡ old.params = search rules in
    let news : map param_field c.as_slice-2.result.now ≡ new.params = search rules in
    let again : map param_field c.as_slice-3.result.now ≡ new.params = search rules in
    let signed : c.in_ok-words_in.field-0 ≡ signature_params (called c.args.poly.now.old.value) = search rules in
    let made : Made old new c.in_ok-pass.pass = shim-made old new (function_view c.args.poly.now) _ _ _ c.in_ok-spans.spans.count c.len-total.result _ _ c.in_ok-pass.pass
    c.shims_are_faithful.ensures olds news again c.requires c.in_ok-check_calls.ensures c.in_ok-spans_of.ensures.names c.in_ok-spans.ensures.count
    c.len-total.ensures signed (c.functions_are_read_as_their_trees.ensures c.args.poly.now.old.value)
    (c.in_ok-pass.ensures (map param_field c.as_slice.result.now) c.in_ok-spans.ensures.spans) in
    made.pass

pub returns-clause-arrives : goal.returns-clause-arrives
returns-clause-arrives c =
    let old = func_tree c.args.poly.now.old.value in
    let new = func_tree c.args.poly.now.new.value in
    let olds : map param_field c.as_slice.result.now ≡ old.params = search rules in
    let news : map param_field c.as_slice-2.result.now ≡ new.params = search rules in
    let again : map param_field c.as_slice-3.result.now ≡ new.params = search rules in
    let signed : c.in_ok-words_in.field-0 ≡ signature_params (called c.args.poly.now.old.value) = search rules in
    let made : Made old new c.in_ok-pass.pass = shim-made old new (function_view c.args.poly.now) _ _ _ c.in_ok-spans.spans.count c.len-total.result _ _ c.in_ok-pass.pass
    c.shims_are_faithful.ensures olds news again c.requires c.in_ok-check_calls.ensures c.in_ok-spans_of.ensures.names c.in_ok-spans.ensures.count
    c.len-total.ensures signed (c.functions_are_read_as_their_trees.ensures c.args.poly.now.old.value)
    (c.in_ok-pass.ensures (map param_field c.as_slice.result.now) c.in_ok-spans.ensures.spans) in
    made.arrives
