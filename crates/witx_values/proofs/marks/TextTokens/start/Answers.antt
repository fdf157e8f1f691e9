use Rattle.std.proofs.Common.{◌<◌, ◌≤◌, length, rules}
use Rattle.witx_values.proofs.Held.{starts_at, ends_at}
use Rattle.witx_values.proofs.marks.TextTokens.start.Goals as goal

pub returns-then-at-len : goal.returns-then-at-len
returns-then-at-len g c ls h =
    let inside : c.args.at < length c.args.self.now.marks.items = search rules in
    starts_at c.args.self.now ls h c.args.at c.index.result.now inside c.index.ensures

pub returns-else-at-len : goal.returns-else-at-len
returns-else-at-len g c ls h =
    let past : length c.args.self.now.marks.items ≤ c.args.at = search rules in
    ends_at c.args.self.now ls h c.args.at past
