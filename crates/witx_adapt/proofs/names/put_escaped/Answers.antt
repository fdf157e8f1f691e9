use Rattle.std.proofs.Common.{length, arith}
use Rattle.std.proofs.lemmas.Iterator.{YieldsList-from_chars}
use Rattle.std.proofs.lemmas.Iterator.Consumers.{YieldsList-turn, YieldsList-end}
use Rattle.std.proofs.lemmas.List.{length_push}
use Rattle.std.specs.Str.{chars}
use Rattle.witx_adapt.specs.Names.{escaped}
use Rattle.witx_adapt.proofs.Appending.{flat-more, flat-end}
use Rattle.witx_adapt.proofs.names.put_escaped.Goals as goal

pub loop-c-preserved : goal.loop-c-preserved
loop-c-preserved c =
    let t = YieldsList-turn (YieldsList-from_chars c.args.name.now c.utf8.name cc) c.loop-c.yielded _ c.loop-c.yielded_by _ _ c.in-Some.c c.in-Some.is c.next.ensures.steps in
    rw (length_push c.loop-c.yielded c.in-Some.c) (flat-more escaped (chars c.args.name.now) (length c.loop-c.yielded) c.in-Some.c _ _ _ t c.in_ok-put_character.ensures c.loop-c.invariant)

pub returns : goal.returns
returns c =
    let t = YieldsList-end (YieldsList-from_chars c.args.name.now c.utf8.name cc) c.loop-c.yielded _ c.loop-c.yielded_by _ _ c.in-None.is c.next.ensures.steps in
    flat-end escaped (chars c.args.name.now) (length c.loop-c.yielded) _ _ (omega (arith, t.1)) c.loop-c.invariant
