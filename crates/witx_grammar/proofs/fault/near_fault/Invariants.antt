use Rattle.std.proofs.Common.{◌≡◌, ◌≤◌, ◌+◌, ◌-◌, Some, length, drop, slice_index_or, [], ◌∷◌}
use Rattle.witx_grammar.specs.Grammar.{grammar}
use Rattle.witx_grammar.specs.Search.{all_wants, all_ways, not_ruled_out, search_fault}
use Rattle.witx_grammar.specs.declared.table.Symbol.TheVariants.{Nonterminal}
use Rattle.witx_grammar.specs.declared.table.TheConstants.{DEPTH}
use Rattle.witx_grammar.proofs.fault.near_fault.Given as goal

abbrev pub invariant-each : goal.invariant-each
invariant-each g l = (l.at + 2 ≤ length l.tokens) ×
    ((d : g.row.T.Denot) → all_wants l.after.items ≡ not_ruled_out g.T.PartialEq.eq (Some (slice_index_or l.tokens (l.at + 1) d)) (all_ways g.T.PartialEq.eq g.N.PartialEq.eq (grammar l.table) DEPTH (slice_index_or l.tokens l.at d) (all_wants l.wants.items))) ×
    (search_fault g.T.PartialEq.eq g.N.PartialEq.eq (grammar l.table) DEPTH (all_wants l.wants.items) l.at (drop l.at l.tokens) ≡ search_fault g.T.PartialEq.eq g.N.PartialEq.eq (grammar l.table) DEPTH ((Nonterminal l.fn.start ∷ []) ∷ []) 0 l.tokens)

abbrev pub decreases-each : goal.decreases-each
decreases-each g l = length l.tokens - l.at
