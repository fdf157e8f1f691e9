use Rattle.std.proofs.Common.{◌+◌, ap, sym, ◌∙◌, ◌∷◌, [], map, subst}
use Rattle.std.proofs.lemmas.List.{map-append}
use Rattle.witx_ast.specs.Views.{tree_of}
use Rattle.witx_ast.specs.declared.function.InterfaceFuncParam.{InterfaceFuncParam}
use Rattle.witx_bytes.specs.Seen.{seen}
use Rattle.witx_call.specs.Lines.{IsValueLine}
use Rattle.witx_invoke.proofs.Lines.{LinesLeft, lines-next, lines-done}
use Rattle.witx_invoke.proofs.given.read_lines.Goals as goal

pub loop-i-preserved : goal.loop-i-preserved
loop-i-preserved c =
    let l = c.loop-i in
    let line : IsValueLine (tree_of c.index-params-i.result.tref) c.loop-i.rest.now (seen c.in_ok-value.value) c.in_ok-value.more.now =
    subst (λ (p : InterfaceFuncParam). IsValueLine (tree_of p.tref) c.loop-i.rest.now (seen c.in_ok-value.value) c.in_ok-value.more.now) (sym c.index-params-i.is) c.in_ok-value.ensures.read
    in
    let next = lines-next (map seen l.values) c.args.params.now c.args.before l.i c.args.text.now l.rest.now c.index-params-i.result l.invariant c.loop-i-test.true c.index-params-i.is (seen c.in_ok-value.value) c.in_ok-value.more.now line in
    let same = sym (map-append seen l.values (c.in_ok-value.value ∷ [])) ∙ ap (map seen) (sym c.in_ok-push.ensures) in
    subst (λ vs. LinesLeft vs c.args.params.now c.args.before (l.i + 1) c.args.text.now c.in_ok-value.more.now) same next

pub returns-clause-read : goal.returns-clause-read
returns-clause-read c = lines-done (map seen c.loop-i.values) c.args.params.now c.args.before c.loop-i.i c.args.text.now c.loop-i.rest.now c.loop-i.invariant c.loop-i-test.false
