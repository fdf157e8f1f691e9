use Rattle.std.proofs.Common.{[], refl, Some}
use Rattle.witx_walk.proofs.OneFile.{path-is, world-is, answer-as, verdict-as, one-file, named}
use Rattle.witx_walk.proofs.source.parse.Goals as goal

pub returns-clause-answer : goal.returns-clause-answer
returns-clause-answer c = λ reading er.
    answer-as _ _ _ _ (world-is _ _ _ _ _ reading c.new-files.ensures (path-is _ c.in_ok-new.ensures) c.in_ok-new-2.ensures c.in_ok-insert.ensures.put)
    (path-is _ c.in_ok-new-3.ensures) (c.parse_witx_with.ensures.answer c.insert.new.self [] reading refl refl er)

pub returns-clause-verdict : goal.returns-clause-verdict
returns-clause-verdict c = λ reading er v h.
    c.parse_witx_with.ensures.verdict c.insert.new.self [] reading refl refl er v
    (verdict-as _ _ _ v (world-is _ _ _ _ _ reading c.new-files.ensures (path-is _ c.in_ok-new.ensures) c.in_ok-new-2.ensures c.in_ok-insert.ensures.put)
    (path-is _ c.in_ok-new-3.ensures) h)

pub returns-clause-one_file : goal.returns-clause-one_file
returns-clause-one_file c =
    one-file c.args.source.now c.one_reading.ensures.0 _ (Some c.insert.new.self) _ (λ p h. named _ p (path-is _ c.in_ok-new-3.ensures) h) c.parse_witx_with.ensures.cause (returns-clause-answer c c.one_reading.ensures.0 c.one_reading.ensures.1.0)
