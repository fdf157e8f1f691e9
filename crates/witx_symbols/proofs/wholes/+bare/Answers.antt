use Rattle.std.proofs.Common.{sym, ap, ◌∙◌}
use Rattle.witx_ast.specs.Plain.{plain}
use Rattle.witx_ast.specs.Views.{tree_of}
use Rattle.witx_symbols.specs.Wholes.{has_no_atom}
use Rattle.witx_symbols.proofs.NamesBehind.{next-behind}
use Rattle.witx_symbols.proofs.WholeLemmas.{bare-refused}
use Rattle.witx_symbols.proofs.wholes.+bare.Goals as goal

pub has_no_atom-loop-tref-preserved : goal.has_no_atom-loop-tref-preserved
has_no_atom-loop-tref-preserved t c = next-behind _ c.loop-tref.tref.now c.in-Name.named c.deref.result.now c.in-Name.is c.deref.ensures c.loop-tref.invariant

pub have_no_atom-returns-then-not-has_no_atom : goal.have_no_atom-returns-then-not-has_no_atom
have_no_atom-returns-then-not-has_no_atom t c =
    bare-refused c.args.members.now c.loop-i.i c.index-members-i.result c.has_no_atom.result c.loop-i-test.true c.index-members-i.is (c.has_no_atom.ensures ∙ ap (λ x. has_no_atom (plain (tree_of x.tref))) (sym c.index-members-i.is)) c.if-not-has_no_atom.true c.loop-i.invariant
