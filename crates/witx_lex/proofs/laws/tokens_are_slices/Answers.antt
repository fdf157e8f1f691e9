use Rattle.std.proofs.Common.{arith, sym, subst, List, []}
use Rattle.std.specs.Prelude.{All}
use Rattle.witx_lex.specs.Slices.{StandsAt}
use Rattle.witx_lex.specs.Tokens.{Lexed}
use Rattle.witx_lex.proofs.SlicesOfTokens.{tokens_stand}
use Rattle.witx_lex.proofs.laws.tokens_are_slices.Goals as goal

pub returns : goal.returns
returns c text tokens h = subst (λ (ts : List Lexed). All (StandsAt text) ts) (sym h.2) (tokens_stand h.0 0 0 text [] (omega arith) h.1)
