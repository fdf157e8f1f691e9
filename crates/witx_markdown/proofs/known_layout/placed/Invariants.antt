use Rattle.std.proofs.Common.{◌≡◌, ◌++◌, ◌<◌, max, map, take, drop}
use Rattle.witx_ast.specs.Views.{members_plain}
use Rattle.witx_layout.specs.Numbers.{members_end, members_align, offsets}
use Rattle.witx_markdown.proofs.NameSteps.{LeftNamesKnown}
use Rattle.witx_markdown.proofs.known_layout.placed.Given as goal

abbrev pub invariant-loop-member : goal.invariant-loop-member
invariant-loop-member l = record {
  some : 0 < l.reached.align;
  members : map (λ m. m.member.now) l.layouts ≡ take l.member-index l.members;
  begins : map (λ m. m.offset) l.layouts ++ offsets l.reached.size (members_plain (drop l.member-index l.members)) ≡ offsets 0 (members_plain l.members);
  ends : members_end l.reached.size (members_plain (drop l.member-index l.members)) ≡ members_end 0 (members_plain l.members);
  aligned : max l.reached.align (members_align (members_plain (drop l.member-index l.members))) ≡ members_align (members_plain l.members);
  known : LeftNamesKnown l.names l.members l.member-index;
}
