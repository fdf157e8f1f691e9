use Rattle.std.proofs.Common.{◌<◌, ◌≤◌, length, ap, sym, ◌∙◌, rules}
use Rattle.witx_lex.specs.Views.{texts_view}
use Rattle.witx_values.proofs.Held.{comments_there, counts_inside, none_there}
use Rattle.witx_values.proofs.marks.TextTokens.comments_at.Goals as goal

pub returns-then-at-len : goal.returns-then-at-len
returns-then-at-len g c ls h =
    let past : length c.args.self.now.marks.items ≤ c.args.at = search rules in
    ap texts_view c.new.ensures ∙ sym (none_there c.args.self.now ls h c.args.at past)

pub comments_between-requires : goal.comments_between-requires
comments_between-requires g c =
    let inside : c.args.at < length c.args.self.now.marks.items = search rules in
    let r = c.requires in
    let counts =
    counts_inside c.args.self.now r.0 r.1 c.args.at c.comments_until-from.result c.comments_until-to.result inside
    (c.comments_until-from.ensures r.0 r.1) (c.comments_until-to.ensures r.0 r.1) in
    record { ordered = counts.0; inside = counts.1 }

pub returns : goal.returns
returns g c ls h =
    let inside : c.args.at < length c.args.self.now.marks.items = search rules in
    ap texts_view (c.from_vec.ensures ∙ c.in_ok-comments.ensures.items ∙ c.comments_between.ensures)
    ∙ comments_there c.args.self.now ls h c.args.at c.comments_until-from.result c.comments_until-to.result inside
    (c.comments_until-from.ensures ls h) (c.comments_until-to.ensures ls h)
