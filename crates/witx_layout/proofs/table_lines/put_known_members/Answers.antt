use Rattle.witx_layout.proofs.Onward.{next-end}
use Rattle.witx_layout.proofs.Nodes.{members-known}
use Rattle.witx_layout.proofs.TableLines.{next-field}
use Rattle.witx_layout.proofs.table_lines.put_known_members.Goals as goal

pub loop-member-preserved : goal.loop-member-preserved
loop-member-preserved g c =
    let xs = c.args.members.now in
    let i = c.loop-member.member-index in
    let m = c.member-item.result in
    let here = c.loop-member-test.true in
    let is = c.member-item.is in
    let before = c.loop-member.invariant in
    let made = c.in_ok-end.ensures in
    record {
      known = members-known c.args.table.now xs i m here is before.known;
      ends = rw made.end (next-end xs i m c.loop-member.end _ here is before.ends);
      text = rw (made.line, made.end) (next-field xs i m c.loop-member.end _ _ here is before.text);
    }
