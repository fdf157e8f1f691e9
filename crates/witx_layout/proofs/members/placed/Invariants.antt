use Rattle.std.proofs.Common.{◌≡◌, map, take, drop, ◌++◌, ◌<◌, ◌≤◌, ◌^◌, All, MatchOption}
use Rattle.witx_ast.specs.Views.{members_plain}
use Rattle.witx_layout.specs.Numbers.{offsets}
use Rattle.witx_layout.proofs.Begins.{reached}
use Rattle.witx_layout.proofs.members.placed.Given as goal

abbrev pub invariant-loop-member : goal.invariant-loop-member
invariant-loop-member l = record {
  members : map (λ m. m.member.now) l.layouts ≡ take l.member-index l.members;
  begins : map (λ m. m.offset) l.layouts ++ offsets (reached l.members l.member-index) (members_plain (drop l.member-index l.members)) ≡ offsets 0 (members_plain l.members);
  small : All (λ offset. offset < 2 ^ 64) (map (λ m. m.offset) l.layouts);
  end : MatchOption l.end (2 ^ 64 ≤ reached l.members l.member-index) (λ e. e ≡ reached l.members l.member-index);
}
