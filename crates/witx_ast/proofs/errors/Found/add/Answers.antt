use Rattle.witx_ast.proofs.ErrorLaws.{told-more}
use Rattle.witx_ast.proofs.errors.Found.add.Goals as goal

pub returns-in_ok-push-clause-told : goal.returns-in_ok-push-clause-told
returns-in_ok-push-clause-told c =
    told-more c.args.self.now.seen c.insert.new.self _ _ c.in_ok-clone.field-0 c.in_ok-clone-2.field-0 c.args.error.now c.requires c.in_ok-insert.ensures.updates c.in_ok-clone.ensures.cases c.in_ok-clone-2.ensures.cases c.in_ok-push.ensures
