use Rattle.std.proofs.Common.{rules, ◌≡◌, Some}
use Rattle.witx_conditions.proofs.Making.{nameless-put, put-told, twice-told}
use Rattle.witx_conditions.proofs.entering.put.Goals as goal

pub returns-in-Some-clause-put : goal.returns-in-Some-clause-put
returns-in-Some-clause-put g c =
    let same : c.in_ok-name.field-0 ≡ Some (c.in-Some.name, c.in-Some.entry) = search rules in
    put-told g.D.Defined.name_of g.D.Defined.tree c.put_new.result (g.D.Defined.view c.args.definition.now) c.in_ok-name.field-0 c.in-Some.name c.in-Some.entry
    c.args.entries.now c.put_new.new.entries c.in_ok-name.ensures same c.put_new.ensures.lacked c.put_new.ensures.put

pub returns-in-Some-clause-twice : goal.returns-in-Some-clause-twice
returns-in-Some-clause-twice g c =
    let same : c.in_ok-name.field-0 ≡ Some (c.in-Some.name, c.in-Some.entry) = search rules in
    twice-told g.D.Defined.name_of g.D.Defined.tree c.put_new.result (g.D.Defined.view c.args.definition.now) c.in_ok-name.field-0 c.in-Some.name
    c.in-Some.entry c.args.entries.now c.in_ok-name.ensures same c.put_new.ensures.held

pub returns-in-None-clause-put : goal.returns-in-None-clause-put
returns-in-None-clause-put g c =
    λ _. nameless-put g.D.Defined.name_of g.D.Defined.tree (g.D.Defined.view c.args.definition.now) c.in_ok-name.field-0 c.args.entries.now
    c.in_ok-name.ensures c.in-None.is
