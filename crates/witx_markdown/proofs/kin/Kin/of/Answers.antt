use Rattle.std.proofs.Common.{◌≡◌, length, replicate, None, rules}
use Rattle.witx_markdown.proofs.Descent.{no-links}
use Rattle.witx_markdown.proofs.kin.Kin.of.Goals as goal

pub link-requires-clause-none : goal.link-requires-clause-none
link-requires-clause-none c =
    let first : c.in_ok-first.first.items ≡ replicate (length c.args.parents.now) None = c.in_ok-first.ensures.items_if_clones_equal (search rules) in
    let next : c.in_ok-next.next.items ≡ replicate (length c.args.parents.now) None = c.in_ok-next.ensures.items_if_clones_equal (search rules) in
    rw (c.deref_mut.ensures.value, c.deref_mut-2.ensures.value, first, next) (no-links c.args.parents.now)
