use Rattle.std.proofs.Common.{◌≡◌, length, refl, rules}
use Rattle.witx_lex.specs.Sinks.{lexed_token}
use Rattle.witx_lex.specs.Views.{token_view}
use Rattle.witx_values.proofs.Held.{told_more}
use Rattle.witx_values.proofs.filling.FillingTokenSink.take_token.Goals as goal

pub returns : goal.returns
returns g c ts cs told =
    let count : c.len-comments.result ≡ length c.args.self.now.comments.items = search rules in
    told_more g.A.Actions.language c.args.self.now.kinds.items c.push.new.self.items c.args.self.now.marks.items c.push-2.new.self.items c.args.self.now.comments.items ts cs
    c.kind.result (token_view c.args.token) c.args.span c.len-comments.result told (c.kind.ensures (lexed_token (token_view c.args.token) c.args.span cs) refl)
    c.in_ok-push.ensures.items count c.in_ok-push-2.ensures.items
