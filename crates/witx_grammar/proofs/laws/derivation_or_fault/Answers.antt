use Rattle.std.proofs.Common.{List, [], ◌∷◌, Option, Some, None, inl, inr, arith}
use Rattle.std.specs.Prelude.{◌⊎◌}
use Rattle.witx_grammar.specs.Grammar.{Rewrite, grammar}
use Rattle.witx_grammar.specs.Faults.{HasDerivation, HasTokenFault}
use Rattle.witx_grammar.specs.Search.{Found, IsSearched, search_fault}
use Rattle.witx_grammar.specs.declared.table.Symbol.TheVariants.{Nonterminal}
use Rattle.witx_grammar.specs.declared.table.TheConstants.{DEPTH}
use Rattle.witx_grammar.proofs.Parts.{below}
use Rattle.witx_grammar.proofs.Verdicts.{search_is_right}
use Rattle.witx_grammar.proofs.laws.derivation_or_fault.Goals as goal

one_of_both : {T N P : Type 0} (g : List (Rewrite T N P)) (f : N) (ts : List T) (o : Option (Found T)) → IsSearched g f ts o → HasDerivation g f ts ⊎ HasTokenFault g f ts
one_of_both g f ts None v = inl v
one_of_both g f ts (Some x) v = inr (x.at, x.expected, v)

pub returns : goal.returns
returns g c t f ts fine =
    one_of_both (grammar t) f ts (search_fault g.T.PartialEq.eq g.N.PartialEq.eq (grammar t) DEPTH ((Nonterminal f ∷ []) ∷ []) 0 ts)
    (search_is_right g.T.PartialEq.eq g.N.PartialEq.eq g.met.T.Kind.exact g.met.N.Kind.exact (grammar t) DEPTH
    (below g.T.PartialEq.eq g.N.PartialEq.eq g.P.PartialEq.eq g.met.N.Kind.exact g.met.P.Kind.exact t fine DEPTH (omega arith)) f ts)
