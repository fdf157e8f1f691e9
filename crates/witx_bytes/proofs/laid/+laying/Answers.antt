use Rattle.std.proofs.Common.{arith}
use Rattle.witx_ast.specs.Plain.{plain}
use Rattle.witx_ast.specs.Views.{tree_of}
use Rattle.witx_layout.proofs.Alignments.{type-some}
use Rattle.witx_bytes.proofs.Laying.{laid_first, laid_next, cases_laid_first, cases_laid_next}
use Rattle.witx_bytes.proofs.laid.+laying.Goals as goal

pub lay_members-loop-i-init : goal.lay_members-loop-i-init
lay_members-loop-i-init t c = laid_first c.args.members.now c.leaf-whole.result c.leaf-whole.ensures.numbers c.leaf-whole.ensures.parts

pub lay_members-with_member-requires : goal.lay_members-with_member-requires
lay_members-with_member-requires t c = omega (arith, c.in_ok-part.ensures.0.1, type-some (plain (tree_of c.index-members-i.result.tref)))

pub lay_members-loop-i-preserved : goal.lay_members-loop-i-preserved
lay_members-loop-i-preserved t c =
    laid_next c.args.members.now c.loop-i.whole c.loop-i.i c.index-members-i.result c.loop-i.invariant c.loop-i-test.true c.index-members-i.is
    c.in_ok-part.part c.in_ok-whole.whole c.in_ok-part.ensures c.in_ok-whole.ensures

pub lay_cases-loop-i-init : goal.lay_cases-loop-i-init
lay_cases-loop-i-init t c = cases_laid_first c.args.cases.now c.leaf-whole.result c.leaf-whole.ensures.numbers c.leaf-whole.ensures.parts

pub lay_cases-loop-i-preserved : goal.lay_cases-loop-i-preserved
lay_cases-loop-i-preserved t c =
    cases_laid_next c.args.cases.now c.loop-i.whole c.in_ok-part.part c.in_ok-whole.whole c.loop-i.i c.index-cases-i.result c.loop-i.invariant c.loop-i-test.true c.index-cases-i.is
    c.in_ok-whole.ensures c.in_ok-part.ensures
