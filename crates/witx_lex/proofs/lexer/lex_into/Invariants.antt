use Rattle.std.proofs.Common.{◌-◌, ℕ, List, length}
use Rattle.witx_lex.specs.Tokens.{Lexed}
use Rattle.witx_lex.proofs.Progress.{Sofar}
use Rattle.witx_lex.proofs.lexer.lex_into.Given as goal

-- the pieces that were read, whose tokens and comments were taken
abbrev pub invariant-loop-cut : goal.invariant-loop-cut
invariant-loop-cut g l = (ts : List Lexed) × (cs : List (List ℕ)) × Sofar l.text l.cut.at l.cut.depth cs ts × g.S.TokenSink.Took l.sink ts cs

abbrev pub decreases-loop-cut : goal.decreases-loop-cut
decreases-loop-cut g l = length l.text - l.cut.at
