use Rattle.std.proofs.Common.{arith, refl, sym, ap, subst, [], ◌++◌}
use Rattle.witx_layout.proofs.Tabled.{Tabled, left_layouts, ahead-start, nothing-tabled, next-ahead, next-tabled, layouts-more, sizes-more, next-most, next-least}
use Rattle.witx_layout.proofs.table.typename_layouts.Goals as goal

pub loop-number-init : goal.loop-number-init
loop-number-init g c = record {
  ahead = ahead-start c.args.definitions.now c.requires.ordered c.requires.distinct;
  tabled = subst (λ t. Tabled t []) (sym c.new-table.ensures) nothing-tabled;
  layouts = ap (λ ls. ls ++ left_layouts c.args.definitions.now 0) c.new-layouts.ensures;
  sizes = refl;
  most = omega arith;
  least = omega arith;
}

pub loop-number-preserved : goal.loop-number-preserved
loop-number-preserved g c =
    let xs = c.args.definitions.now in
    let i = c.loop-number.number in
    let d = c.index-definitions-number.result in
    let here = c.loop-number-test.true in
    let is = c.index-definitions-number.is in
    let before = c.loop-number.invariant in
    let made = c.in_ok-push_layout.ensures in
    record {
      ahead = next-ahead xs i d here is before.ahead;
      tabled = next-tabled c.loop-number.table c.push_layout.new.table xs i d here is before.ahead before.tabled made.table;
      layouts = layouts-more xs i d c.loop-number.layouts c.push_layout.new.layouts _ here is made.layouts before.layouts;
      sizes = sizes-more xs i d _ here is made.sizes before.sizes;
      most = next-most xs i d c.loop-number.steps c.push_layout.new.steps _ here is before.most made.most;
      least = next-least xs i d c.loop-number.steps c.push_layout.new.steps _ here is before.least made.least;
    }
