use Rattle.std.proofs.Common.{rules, ◌<◌, length}
use Rattle.witx_grammar.proofs.Choosing.{sure_head}
use Rattle.witx_grammar.proofs.choice.first_if_fit.Goals as goal

pub goes_on-requires-clause-front : goal.goes_on-requires-clause-front
goes_on-requires-clause-front g c =
    let some : 0 < length c.args.productions.now = search rules in
    (sure_head g.T.PartialEq.eq c.args.tokens.now c.args.front c.in-Some.front c.args.productions.now c.index-productions-0.result c.in-Some.is some c.index-productions-0.is c.requires).0

pub goes_on-requires-clause-begins : goal.goes_on-requires-clause-begins
goes_on-requires-clause-begins g c =
    let some : 0 < length c.args.productions.now = search rules in
    (sure_head g.T.PartialEq.eq c.args.tokens.now c.args.front c.in-Some.front c.args.productions.now c.index-productions-0.result c.in-Some.is some c.index-productions-0.is c.requires).1

pub returns-then-goes_on-clause-front : goal.returns-then-goes_on-clause-front
returns-then-goes_on-clause-front g c =
    let some : 0 < length c.args.productions.now = search rules in
    (sure_head g.T.PartialEq.eq c.args.tokens.now c.args.front c.in-Some.front c.args.productions.now c.index-productions-0.result c.in-Some.is some c.index-productions-0.is c.requires).0
