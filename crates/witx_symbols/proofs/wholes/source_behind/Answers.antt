use Rattle.std.proofs.Common.{refl, sym, ap, ◌∙◌}
use Rattle.witx_symbols.specs.Symbols.{part, same_source}
use Rattle.witx_symbols.specs.SymbolViews.{source_of}
use Rattle.witx_symbols.proofs.SymbolReads.{read-argument, read-part}
use Rattle.witx_symbols.proofs.OriginLemmas.{behind-here, behind-elsewhere}
use Rattle.witx_symbols.proofs.wholes.source_behind.Goals as goal

pub returns-then-own-place : goal.returns-then-own-place
returns-then-own-place c z =
    ap (λ s. same_source (source_of s) z) c.deref.ensures ∙ behind-here (source_of c.in-Part.whole.value) z c.in-Part.own c.args.place c.if-own-place.true
    ∙ ap (λ s. same_source s (part z c.args.place)) (sym (ap source_of c.in-Part.is ∙ read-part c.in-Part.whole c.in-Part.own))

pub returns-else-own-place : goal.returns-else-own-place
returns-else-own-place c z =
    behind-elsewhere (source_of c.in-Part.whole.value) z c.in-Part.own c.args.place c.if-own-place.false
    ∙ ap (λ s. same_source s (part z c.args.place)) (sym (ap source_of c.in-Part.is ∙ read-part c.in-Part.whole c.in-Part.own))

pub returns-in-Argument : goal.returns-in-Argument
returns-in-Argument c z = rw (c.in-Argument.is, read-argument _) refl
