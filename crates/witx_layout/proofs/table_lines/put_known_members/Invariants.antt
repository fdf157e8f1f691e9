use Rattle.std.proofs.Common.{◌≡◌, ◌++◌, drop, string_bytes}
use Rattle.witx_ast.specs.Views.{members_plain}
use Rattle.witx_layout.specs.Numbers.{members_end, offsets}
use Rattle.witx_layout.specs.LayoutsText.{field_lines}
use Rattle.witx_layout.proofs.Nodes.{LeftKnown}
use Rattle.witx_layout.proofs.table_lines.put_known_members.Given as goal

abbrev pub invariant-loop-member : goal.invariant-loop-member
invariant-loop-member g l = record {
  known : LeftKnown l.table l.members l.member-index;
  ends : members_end l.end (members_plain (drop l.member-index l.members)) ≡ members_end 0 (members_plain l.members);
  text : string_bytes l.out ++ field_lines (members_plain (drop l.member-index l.members)) (offsets l.end (members_plain (drop l.member-index l.members)))
      ≡ string_bytes l.initial.out ++ field_lines (members_plain l.members) (offsets 0 (members_plain l.members));
}
