use Rattle.std.proofs.Common.{◌≡◌, sym, ap, ◌∙◌, rules}
use Rattle.witx_ast.specs.Plain.{plain}
use Rattle.witx_ast.specs.Views.{tree_of, datatype_tree}
use Rattle.witx_symbols.specs.Symbols.{tuple, symbol_from, same_symbol}
use Rattle.witx_symbols.specs.SymbolViews.{symbol_of, symbols_read}
use Rattle.witx_symbols.proofs.OriginLemmas.{origin_rules, parts-left}
use Rattle.witx_symbols.proofs.wholes.+origin.Goals as goal

pub origin_of-returns-in-Tuple : goal.origin_of-returns-in-Tuple
origin_of-returns-in-Tuple t c z =
    let own : symbol_of c.args.symbol.now ≡ tuple (symbols_read c.as_slice.result.now) = search (rules, origin_rules) in
    let written : plain (tree_of c.args.ty.now) ≡ plain (datatype_tree c.deref-in-Tuple.result.now) = search (rules, origin_rules) in
    ap (λ v. same_symbol v (symbol_from (plain (tree_of c.args.ty.now)) z)) own
    ∙ ap (λ u. same_symbol (tuple (symbols_read c.as_slice.result.now)) (symbol_from u z)) written ∙ c.origin_of_tuple.ensures z

pub origin_of_parts-loop-i-preserved : goal.origin_of_parts-loop-i-preserved
origin_of_parts-loop-i-preserved t c =
    parts-left c.args.parts.now c.args.members.now c.loop-i.i c.index-parts-i.result c.index-members-i.result c.loop-i.common c.origin_of.result c.whole_behind.result c.both-common.result
    c.loop-i-test.true c.if-parts-members.false c.index-parts-i.is c.index-members-i.is
    (λ z. ap (λ v. same_symbol (symbol_of v) (symbol_from (plain (tree_of c.index-members-i.result.tref)) z)) (sym c.deref.ensures)
    ∙ ap (λ m. same_symbol (symbol_of c.deref.result.now) (symbol_from (plain (tree_of m.tref)) z)) c.index-members-i.is ∙ c.origin_of.ensures z)
    c.whole_behind.ensures c.both-common.ensures c.loop-i.invariant
