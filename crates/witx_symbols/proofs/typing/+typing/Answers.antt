use Rattle.std.proofs.Common.{ap, sym, ◌∙◌}
use Rattle.witx_ast.specs.Plain.{plain}
use Rattle.witx_ast.specs.Views.{tree_of}
use Rattle.witx_symbols.specs.Symbols.{is_of}
use Rattle.witx_symbols.specs.SymbolViews.{source_of, symbol_of}
use Rattle.witx_symbols.proofs.SymbolReads.{read-atom}
use Rattle.witx_symbols.proofs.TypingLemmas.{of-refused}
use Rattle.witx_symbols.proofs.WholeLaws.{whole-is}
use Rattle.witx_symbols.proofs.typing.+typing.Goals as goal

pub all_are-returns-then-not-is_of : goal.all_are-returns-then-not-is_of
all_are-returns-then-not-is_of t c =
    of-refused c.args.members.now c.args.parts.now c.loop-i.i c.index-members-i.result c.index-parts-i.result c.is_of.result c.loop-i-test.true c.if-parts-members.false c.index-members-i.is c.index-parts-i.is (c.is_of.ensures ∙ ap (λ x. is_of (plain (tree_of x.tref)) (symbol_of c.deref.result.now)) (sym c.index-members-i.is) ∙ ap (λ x. is_of (plain (tree_of c.index-members-i.result.tref)) (symbol_of x)) c.deref.ensures) c.if-not-is_of.true c.loop-i.invariant

pub is_of-returns-in-Atom : goal.is_of-returns-in-Atom
is_of-returns-in-Atom t c =
    c.same_whole.ensures
    ∙ sym (ap (λ v. is_of (plain (tree_of c.args.ty.now)) v) (ap symbol_of c.in-Atom.is ∙ read-atom c.in-Atom.source c.in-Atom.own)
    ∙ whole-is (plain (tree_of c.in-Atom.own)) (plain (tree_of c.args.ty.now)) (source_of c.in-Atom.source.value))
