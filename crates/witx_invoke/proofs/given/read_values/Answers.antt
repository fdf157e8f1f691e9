use Rattle.std.proofs.Common.{◌≡◌, ℕ, List, ◌+◌, ◌<◌, ◌≤◌, ◌++◌, [], ap, sym, ◌∙◌, map, length, subst, rules, arith}
use Rattle.std.proofs.lemmas.List.{length-map}
use Rattle.std.specs.Prelude.{IsSome, ◌↔◌, ◌≢◌}
use Rattle.witx_ast.specs.Functions.{func_tree}
use Rattle.witx_ast.specs.Tree.{Tree}
use Rattle.witx_bytes.specs.Seen.{seen}
use Rattle.witx_machine.specs.Functions.{function_of}
use Rattle.witx_call.specs.Lines.{AreLines, FirstFault, line_param_types, line_types}
use Rattle.witx_invoke.proofs.Lines.{reply-fault, too-many, values-given}
use Rattle.witx_invoke.proofs.given.read_values.Goals as goal

pub returns-in_err-replies-clause-line : goal.returns-in_err-replies-clause-line
returns-in_err-replies-clause-line c =
    let ps = c.as_slice-params.result.now in
    let rs = c.as_slice.result.now in
    let args : AreLines (line_param_types c.as_slice-params.result.now) c.args.text.now (map seen c.in_ok-args.args) c.in_ok-args.rest.now =
    subst (λ s. AreLines (line_param_types c.as_slice-params.result.now) s (map seen c.in_ok-args.args) c.in_ok-args.rest.now) c.as_bytes.ensures.value c.in_ok-args.ensures.read
    in
    let fault : (n : ℕ) → ((more : List Tree) → FirstFault (length c.as_slice-params.result.now + 1) (line_param_types c.as_slice.result.now ++ more) c.in_ok-args.rest.now n) → FirstFault 1 (line_types (function_of (func_tree c.args.func.now))) c.args.text.now n =
    λ n f. reply-fault c.args.func.now ps rs c.as_slice-params.ensures c.as_slice.ensures c.args.text.now c.in_ok-args.rest.now (map seen c.in_ok-args.args) args n f
    in
    search (rules, fault)

pub returns-then-not-is_empty-clause-line : goal.returns-then-not-is_empty-clause-line
returns-then-not-is_empty-clause-line c = λ n same.
    let ps = c.as_slice-params.result.now in
    let rs = c.as_slice.result.now in
    let args : AreLines (line_param_types c.as_slice-params.result.now) c.args.text.now (map seen c.in_ok-args.args) c.in_ok-args.rest.now =
    subst (λ s. AreLines (line_param_types c.as_slice-params.result.now) s (map seen c.in_ok-args.args) c.in_ok-args.rest.now) c.as_bytes.ensures.value c.in_ok-args.ensures.read
    in
    let some : 0 < length c.in_ok-replies.rest.now = first_of (omega arith, search rules, grind arith) in
    let filled : c.in_ok-replies.rest.now ≢ [] = λ e. absurd (omega (arith, ap length e, some)) in
    let line : length c.as_slice-params.result.now + c.len.result + 1 ≡ n = cc in
    let number : n ≡ length c.as_slice-params.result.now + length (map seen c.in_ok-replies.replies) + 1 = omega (arith, line, length-map c.in_ok-replies.replies seen, c.len.ensures) in
    too-many c.args.func.now ps rs c.as_slice-params.ensures c.as_slice.ensures c.args.text.now c.in_ok-args.rest.now (map seen c.in_ok-args.args) args
    c.in_ok-replies.rest.now (map seen c.in_ok-replies.replies) c.in_ok-replies.ensures.read n filled number

pub returns-clause-given : goal.returns-clause-given
returns-clause-given c =
    let ps = c.as_slice-params.result.now in
    let rs = c.as_slice.result.now in
    let args : AreLines (line_param_types c.as_slice-params.result.now) c.args.text.now (map seen c.in_ok-args.args) c.in_ok-args.rest.now =
    subst (λ s. AreLines (line_param_types c.as_slice-params.result.now) s (map seen c.in_ok-args.args) c.in_ok-args.rest.now) c.as_bytes.ensures.value c.in_ok-args.ensures.read
    in
    let none : length c.in_ok-replies.rest.now ≤ 0 = first_of (omega arith, search rules, grind arith) in
    let some = subst (λ n. IsSome c.pop.result ↔ (0 < n)) (c.into_vec.result.ok.0 ∙ ap length c.into_vec.ensures) c.pop.ensures.variant in
    values-given c.args.func.now ps rs c.as_slice-params.ensures c.as_slice.ensures c.args.text.now c.in_ok-args.rest.now c.in_ok-replies.rest.now c.in_ok-args.args c.in_ok-replies.replies
    c.pop.new.self.items c.pop.result args c.in_ok-replies.ensures.read none c.requires.single (sym c.into_vec.ensures ∙ c.pop.ensures.items) some
