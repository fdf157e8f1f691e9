use Rattle.std.proofs.Common.{sym, ◌∙◌}
use Rattle.witx_ast.specs.Plain.{plain}
use Rattle.witx_ast.specs.Views.{tree_of}
use Rattle.witx_symbols.specs.SymbolViews.{source_of}
use Rattle.witx_symbols.proofs.WholeLaws.{whole-nowhere, whole-anywhere, whole-at}
use Rattle.witx_symbols.proofs.wholes.origin_of_whole.Goals as goal

pub returns-then-not-same_whole : goal.returns-then-not-same_whole
returns-then-not-same_whole c z =
    whole-nowhere (plain (tree_of c.args.own.now)) (plain (tree_of c.args.ty.now)) (source_of c.args.source.now) z (sym c.same_whole.ensures ∙ c.if-not-same_whole.true)

pub returns-then-has_no_atom : goal.returns-then-has_no_atom
returns-then-has_no_atom c z =
    whole-anywhere (plain (tree_of c.args.own.now)) (plain (tree_of c.args.ty.now)) (source_of c.args.source.now) z
    (sym c.same_whole.ensures ∙ c.if-not-same_whole.false) (sym c.has_no_atom.ensures ∙ c.if-has_no_atom.true)

pub returns-else-has_no_atom : goal.returns-else-has_no_atom
returns-else-has_no_atom c z =
    whole-at (plain (tree_of c.args.own.now)) (plain (tree_of c.args.ty.now)) (source_of c.args.source.now) z
    (sym c.same_whole.ensures ∙ c.if-not-same_whole.false) (sym c.has_no_atom.ensures ∙ c.if-has_no_atom.false)
