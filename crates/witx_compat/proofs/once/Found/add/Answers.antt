use Rattle.std.proofs.Common.{rules, arith}
use Rattle.std.proofs.lemmas.Grind.{common_steps}
use Rattle.witx_compat.proofs.OnceLaws.{told-more}
use Rattle.witx_compat.proofs.once.Found.add.Goals as goal

pub returns-in_ok-push-clause-told : goal.returns-in_ok-push-clause-told
returns-in_ok-push-clause-told c =
    told-more c.args.self.now.seen c.insert.new.self _ _ c.in_ok-copy.field-0 c.in_ok-copy-2.field-0 c.args.conversion.now c.requires c.in_ok-insert.ensures.updates c.in_ok-copy.ensures c.in_ok-copy-2.ensures c.in_ok-push.ensures

pub returns-else-branch-clause-told : goal.returns-else-branch-clause-told
returns-else-branch-clause-told c = search rules

pub returns-else-branch-clause-types : goal.returns-else-branch-clause-types
returns-else-branch-clause-types c = search rules

pub returns-in_ok-push-clause-types : goal.returns-in_ok-push-clause-types
returns-in_ok-push-clause-types c = grind (arith, common_steps)
