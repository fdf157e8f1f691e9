use Rattle.std.proofs.Common.{◌≡◌, map, drop}
use Rattle.witx_ast.specs.Tree.{fields_of}
use Rattle.witx_ast.specs.Views.{member_field}
use Rattle.witx_ast.specs.Results.{all_named}
use Rattle.witx_ast.proofs.abi.all_are_named.Given as goal

abbrev pub invariant-loop-member : goal.invariant-loop-member
invariant-loop-member l = all_named (fields_of (map member_field l.members)) ≡ all_named (fields_of (map member_field (drop l.member-index l.members)))
