use Rattle.std.proofs.Common.{sym, ap, ◌∙◌}
use Rattle.witx_ast.specs.Plain.{plain}
use Rattle.witx_ast.specs.Views.{tree_of}
use Rattle.witx_symbols.specs.SymbolViews.{source_of, symbol_of}
use Rattle.witx_symbols.specs.Symbols.{same_symbol}
use Rattle.witx_symbols.specs.Wholes.{comes_from}
use Rattle.witx_symbols.proofs.SymbolReads.{made-same, read-atom}
use Rattle.witx_symbols.proofs.SameLemmas.{by-other-origin}
use Rattle.witx_symbols.proofs.symbol.+symbol.Goals as goal

pub same-returns-then-i-j : goal.same-returns-then-i-j
same-returns-then-i-j t c =
    rw (c.in-Made-a-2.is, c.in-Made.is) (made-same c.in-Made-a-2.i c.in-Made.j c.in-Made-a-2.v c.in-Made.u c.same.result c.if-i-j.true
    (c.same.ensures ∙ ap (λ x. same_symbol (symbol_of x) (symbol_of c.deref-then-i-j-2.result.now)) c.deref-then-i-j.ensures ∙ ap (λ x. same_symbol (symbol_of c.in-Made-a-2.v.value) (symbol_of x)) c.deref-then-i-j-2.ensures))

pub same-returns-in-Atom-a : goal.same-returns-in-Atom-a
same-returns-in-Atom-a t c =
    by-other-origin (symbol_of c.args.b.now) (plain (tree_of c.in-Atom-a.ty)) (source_of c.in-Atom-a.source.value) c.origin_of-in-Atom-a.result c.is-in-Atom-a.result c.origin_of-in-Atom-a.ensures
    (c.is-in-Atom-a.ensures ∙ ap (λ s. comes_from c.origin_of-in-Atom-a.result (source_of s)) c.deref-in-Atom-a.ensures)
    ∙ ap (λ v. same_symbol v (symbol_of c.args.b.now)) (sym (ap symbol_of c.in-Atom-a.is ∙ read-atom c.in-Atom-a.source c.in-Atom-a.ty))
