use Rattle.std.proofs.Common.{arith, ◌≡◌, ◌≤◌, ◌^◌, refl}
use Rattle.std.proofs.lemmas.List.{take_more, map-append}
use Rattle.witx_ast.specs.Plain.{plain}
use Rattle.witx_ast.specs.Views.{tree_of}
use Rattle.witx_layout.specs.Numbers.{align_to, align_of}
use Rattle.witx_layout.proofs.Begins.{begin_rules, reached, reached-more, next-begin, begin-large, all-small}
use Rattle.witx_layout.proofs.members.placed.Goals as goal

pub returns-in_default-clause-too_large : goal.returns-in_default-clause-too_large
returns-in_default-clause-too_large c _ =
    let large : 2 ^ 64 ≤ align_to (reached c.args.members.now c.loop-member.member-index) (align_of (plain (tree_of c.member-item.result.tref))) =
    rw (← c.mem_align.ensures) (c.in_default.ensures (reached c.args.members.now c.loop-member.member-index) c.loop-member.invariant.end) in
    begin-large c.args.members.now c.loop-member.member-index c.member-item.result _ _ c.loop-member-test.true c.member-item.is c.loop-member.invariant.begins large

pub loop-member-preserved : goal.loop-member-preserved
loop-member-preserved c =
    let xs = c.args.members.now in
    let i = c.loop-member.member-index in
    let m = c.member-item.result in
    let pushed = c.in_ok-push.ensures in
    let begun : c.in-Some.offset ≡ align_to (reached xs i) (align_of (plain (tree_of m.tref))) =
    rw (← c.mem_align.ensures) (c.in-Some.ensures (reached xs i) c.loop-member.invariant.end) in
    record {
      members = rw (pushed, map-append, c.loop-member.invariant.members, take_more xs i m c.loop-member-test.true, ← c.member-item.is) refl;
      begins = rw (pushed, map-append, begun) (next-begin xs i m _ _ c.loop-member-test.true c.member-item.is c.loop-member.invariant.begins);
      small = rw (pushed, map-append) (all-small _ _ c.loop-member.invariant.small (omega arith));
      end = rw (reached-more xs i m c.loop-member-test.true c.member-item.is, ← begun) c.end_of-end.ensures;
    }

pub next_begin-requires : goal.next_begin-requires
next_begin-requires c = grind (arith, begin_rules)
