use Rattle.std.proofs.Common.{◌≡◌, ◌++◌, drop}
use Rattle.witx_grammar.specs.Grammar.{grammar}
use Rattle.witx_grammar.specs.Search.{all_wants, all_firsts}
use Rattle.witx_grammar.specs.declared.table.TheConstants.{DEPTH}
use Rattle.witx_grammar.proofs.fault.expected_kinds.Given as goal

abbrev pub invariant-loop-want : goal.invariant-loop-want
invariant-loop-want g l = l.out.items ++ all_firsts g.N.PartialEq.eq (grammar l.table) DEPTH (all_wants (drop l.want-index l.wants)) ≡ all_firsts g.N.PartialEq.eq (grammar l.table) DEPTH (all_wants l.wants)
