use Rattle.std.proofs.Common.{[], refl, sym, subst}
use Rattle.witx_layout.proofs.Typenames.{next-text, next-fits, next-large}
use Rattle.witx_layout.proofs.Tabled.{Tabled, Lined, ahead-start, nothing-tabled, nothing-lined, next-ahead, next-tabled, next-lined}
use Rattle.witx_layout.proofs.table_lines.put_all.Goals as goal

pub loop-definition-init : goal.loop-definition-init
loop-definition-init g c = record {
  ahead = ahead-start c.args.definitions.now c.requires.ordered c.requires.distinct;
  tabled = subst (λ t. Tabled t []) (sym c.new-table.ensures) nothing-tabled;
  lined = subst (λ t. Lined t []) (sym c.new-lines.ensures) nothing-lined;
  text = refl;
  fits = λ fit. fit;
  large = λ large. large;
}

pub loop-definition-preserved : goal.loop-definition-preserved
loop-definition-preserved g c =
    let xs = c.args.definitions.now in
    let i = c.loop-definition.definition-index in
    let d = c.definition-item.result in
    let here = c.loop-definition-test.true in
    let is = c.definition-item.is in
    let before = c.loop-definition.invariant in
    let made = c.in_ok-put_known.ensures in
    record {
      ahead = next-ahead xs i d here is before.ahead;
      tabled = next-tabled c.loop-definition.table c.put_known.new.table xs i d here is before.ahead before.tabled made.table;
      lined = next-lined c.loop-definition.lines c.put_known.new.lines xs i d here is before.ahead before.lined made.kept;
      text = rw made.lines (next-text xs i d _ _ here is before.text);
      fits = λ fit. before.fits (next-fits xs i d here is made.fits fit);
      large = λ large. before.large (next-large xs i d here is large);
    }
