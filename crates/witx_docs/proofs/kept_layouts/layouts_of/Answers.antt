use Rattle.std.proofs.Common.{arith, rules, sym, subst, [], map}
use Rattle.witx_ast.specs.Definitions.{definition_tree}
use Rattle.witx_layout.proofs.Tabled.{Tabled, ahead-start, nothing-tabled, next-ahead, next-tabled}
use Rattle.witx_docs.specs.LaidOut.{document_laid_out, refusal_fits, too_large}
use Rattle.witx_docs.proofs.Knowing.{all-known, closed-ordered, typename-refused}
use Rattle.witx_docs.proofs.kept_layouts.layouts_of.Goals as goal

pub loop-definition-init : goal.loop-definition-init
loop-definition-init c = record {
  ahead = ahead-start c.args.definitions.now (closed-ordered c.args.definitions.now c.requires.closed) c.requires.distinct;
  tabled = subst (λ t. Tabled t []) (sym c.new-table.ensures) nothing-tabled;
}

pub loop-definition-preserved : goal.loop-definition-preserved
loop-definition-preserved c = record {
  ahead = next-ahead c.args.definitions.now c.loop-definition.definition-index c.definition-item.result c.loop-definition-test.true c.definition-item.is c.loop-definition.invariant.ahead;
  tabled = next-tabled c.loop-definition.table c.keep_layout.new.table c.args.definitions.now c.loop-definition.definition-index c.definition-item.result c.loop-definition-test.true
      c.definition-item.is c.loop-definition.invariant.ahead c.loop-definition.invariant.tabled c.in_ok-keep_layout.ensures.kept;
}

pub returns-in_err-keep_layout-clause-refusal : goal.returns-in_err-keep_layout-clause-refusal
returns-in_err-keep_layout-clause-refusal c =
    let refused : refusal_fits (too_large (document_laid_out (map definition_tree c.args.definitions.now))) c.in_err-keep_layout.field-0.0 =
    typename-refused c.args.definitions.now c.loop-definition.definition-index c.definition-item.result c.in_err-keep_layout.field-0.0 c.loop-definition-test.true c.definition-item.is
    c.in_err-keep_layout.ensures.refusal in
    search (rules, refused)

pub returns-clause-known : goal.returns-clause-known
returns-clause-known c = all-known c.loop-definition.table c.args.definitions.now c.loop-definition.definition-index (omega arith) c.requires.closed c.loop-definition.invariant.tabled
