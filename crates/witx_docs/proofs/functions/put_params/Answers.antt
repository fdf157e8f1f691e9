use Rattle.std.proofs.Common.{arith}
use Rattle.std.specs.Prelude.{option_map}
use Rattle.witx_ast.specs.Functions.{param_field}
use Rattle.witx_markdown.specs.NamesKnown.{NamesKnown}
use Rattle.witx_docs.specs.Parts.{param_node}
use Rattle.witx_docs.specs.LaidOut.{laid_out}
use Rattle.witx_docs.proofs.EachSteps.{next-each, all-each, next-fit, left-hold}
use Rattle.witx_docs.proofs.functions.put_params.Goals as goal

pub loop-param-preserved : goal.loop-param-preserved
loop-param-preserved c = record {
  nodes = rw (c.in_ok-put_typed.ensures.nodes, c.as_str.ensures, c.as_str-in-loop-param.ensures)
      (next-each (param_node c.args.at.now.heading (option_map (λ id. id.now) c.args.at.now.id)) param_field c.loop-param.branch c.args.at.now.node _ c.args.params.now c.loop-param.param-index
      c.param-item.result c.loop-param-test.true c.param-item.is c.loop-param.invariant.nodes);
  numbers = next-fit (λ p. laid_out p.tree) param_field _ c.args.params.now c.loop-param.param-index c.param-item.result c.loop-param-test.true c.param-item.is
      c.loop-param.invariant.numbers c.in_ok-put_typed.ensures.refusal;
  known = left-hold (λ p. NamesKnown c.args.names p.tree) param_field c.args.params.now c.loop-param.param-index c.param-item.result c.loop-param-test.true c.param-item.is c.loop-param.invariant.known;
}

pub returns-clause-nodes : goal.returns-clause-nodes
returns-clause-nodes c =
    all-each (param_node c.args.at.now.heading (option_map (λ id. id.now) c.args.at.now.id)) param_field c.loop-param.branch c.args.at.now.node _ c.args.params.now c.loop-param.param-index
    (omega arith) c.loop-param.invariant.nodes
