use Rattle.std.proofs.Common.{◌≡◌, refl, sym, ap, ◌∙◌, List, [], ◌∷◌, drop}
use Rattle.witx_ast.specs.Plain.{plain}
use Rattle.witx_ast.specs.Views.{tree_of}
use Rattle.witx_symbols.specs.PassageParts.{words_behind}
use Rattle.witx_symbols.specs.Verdicts.{passes}
use Rattle.witx_symbols.specs.OutcomeViews.{words_of}
use Rattle.witx_symbols.specs.SymbolViews.{symbol_of}
use Rattle.witx_symbols.specs.WordViews.{memory_of, shared_symbols}
use Rattle.witx_symbols.proofs.FromLemmas.{types_of}
use Rattle.witx_symbols.proofs.PassLemmas.{pass-more, pass-refused, pointer_trees}
use Rattle.witx_verify.proofs.going_in.passes.Goals as goal

from_first : {A : Type 0} (xs : List A) → drop 0 xs ≡ xs
from_first [] = refl
from_first (x ∷ xs) = refl

pub returns-in-None : goal.returns-in-None
returns-in-None c =
    let cells = memory_of c.args.cells.now in
    let pointers = pointer_trees c.args.pointers.now in
    let rest = words_of c.loop-i.rest.now in
    let words = words_of c.args.words.now in
    let refused = c.in-None.ensures
    ∙ ap (λ p. words_behind cells (plain (tree_of p.tref)) (symbol_of c.deref.result.now) rest) (sym c.index-params-i.is)
    ∙ ap (λ v. words_behind cells (plain (tree_of c.index-params-i.result.tref)) (symbol_of v) rest) c.deref.ensures in
    pass-refused cells pointers c.args.params.now c.args.arguments.now c.loop-i.i c.index-params-i.result c.index-arguments-i.result rest _
    c.loop-i-test.true c.if-params-arguments.false c.index-params-i.is c.index-arguments-i.is refused c.loop-i.invariant
    ∙ ap (λ ps. passes cells pointers (types_of ps) (shared_symbols (drop 0 c.args.arguments.now)) words) (from_first c.args.params.now)
    ∙ ap (λ vs. passes cells pointers (types_of c.args.params.now) (shared_symbols vs) words) (from_first c.args.arguments.now)

pub loop-i-preserved : goal.loop-i-preserved
loop-i-preserved c =
    let cells = memory_of c.args.cells.now in
    let rest = words_of c.loop-i.rest.now in
    let behind = c.in-Some.ensures
    ∙ ap (λ p. words_behind cells (plain (tree_of p.tref)) (symbol_of c.deref.result.now) rest) (sym c.index-params-i.is)
    ∙ ap (λ v. words_behind cells (plain (tree_of c.index-params-i.result.tref)) (symbol_of v) rest) c.deref.ensures in
    pass-more cells (pointer_trees c.args.pointers.now) c.args.params.now c.args.arguments.now c.loop-i.i c.index-params-i.result c.index-arguments-i.result rest (words_of c.in-Some.more.now) _
    c.loop-i-test.true c.if-params-arguments.false c.index-params-i.is c.index-arguments-i.is behind c.loop-i.invariant
