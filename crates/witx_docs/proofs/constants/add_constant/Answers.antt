use Rattle.std.proofs.Common.{refl}
use Rattle.witx_docs.proofs.Standing.{stands-more}
use Rattle.witx_docs.proofs.constants.add_constant.Goals as goal

pub returns : goal.returns
returns c =
    stands-more c.args.constants.now.entries c.remove.new.self.entries c.insert.new.self.entries c.args.constant c.unwrap_or-own.result c.push.new.self
    (rw (c.unwrap_or-own.ensures, c.remove.ensures.value, c.new.ensures) refl) c.in_ok-push.ensures
    c.remove.ensures.updates.0 (rw c.in_ok-copy.ensures at c.in_ok-insert.ensures.updates.0)
