use Rattle.std.proofs.Common.{length, arith}
use Rattle.std.proofs.lemmas.Iterator.{YieldsList-from_chars}
use Rattle.std.proofs.lemmas.Iterator.Consumers.{YieldsList-turn, YieldsList-end}
use Rattle.std.proofs.lemmas.List.{length_push}
use Rattle.std.specs.Str.{chars}
use Rattle.witx_header.proofs.Commenting.{comment-more, comment-end}
use Rattle.witx_header.proofs.comments.put_comment_text.Goals as goal

pub loop-character-preserved : goal.loop-character-preserved
loop-character-preserved c =
    let t = YieldsList-turn (YieldsList-from_chars c.args.docs.now c.utf8.docs cc) c.loop-character.yielded _ c.loop-character.yielded_by _ _ c.in-Some.character c.in-Some.is c.next.ensures.steps in
    rw (length_push c.loop-character.yielded c.in-Some.character) (comment-more c.args.margin.now (chars c.args.docs.now) (length c.loop-character.yielded) c.loop-character.before c.in-Some.character _ _ _ t c.in_ok-put_behind.ensures c.loop-character.invariant)

pub returns : goal.returns
returns c =
    let t = YieldsList-end (YieldsList-from_chars c.args.docs.now c.utf8.docs cc) c.loop-character.yielded _ c.loop-character.yielded_by _ _ c.in-None.is c.next.ensures.steps in
    comment-end c.args.margin.now (chars c.args.docs.now) (length c.loop-character.yielded) c.loop-character.before _ _ (omega (arith, t.1)) c.loop-character.invariant
