use Rattle.std.proofs.Common.{rules, ◌≡◌, ◌∙◌, refl, sym, true, append-nil}
use Rattle.std.specs.Map.{keys_of}
use Rattle.witx_markdown.specs.Links.{dotted, is_there}
use Rattle.witx_markdown.proofs.Ids.{found-there, known_rules}
use Rattle.witx_markdown.proofs.links.put_link.Goals as goal

pub returns-then-is_some-clause-text : goal.returns-then-is_some-clause-text
returns-then-is_some-clause-text c =
    let same : c.in_ok-id.id ≡ dotted c.args.link.now = c.in_ok-id.ensures ∙ c.deref.ensures ∙ c.in_ok-with_dots.ensures in
    let there : is_there (keys_of c.args.known.now) c.args.link.now ≡ true =
    found-there (λ v. v.now) c.args.known.now (dotted c.args.link.now) c.in_ok-id.id c.get.result same c.get.ensures (sym c.is_some.ensures ∙ c.if-is_some.true) in
    rw (c.in_ok-put_target.ensures, c.as_str.ensures, same, there) refl

pub returns-then-is_some-clause-missing : goal.returns-then-is_some-clause-missing
returns-then-is_some-clause-missing c =
    let same : c.in_ok-id.id ≡ dotted c.args.link.now = c.in_ok-id.ensures ∙ c.deref.ensures ∙ c.in_ok-with_dots.ensures in
    let there : is_there (keys_of c.args.known.now) c.args.link.now ≡ true =
    found-there (λ v. v.now) c.args.known.now (dotted c.args.link.now) c.in_ok-id.id c.get.result same c.get.ensures (sym c.is_some.ensures ∙ c.if-is_some.true) in
    rw there (sym (append-nil c.args.missing_links.now))

pub returns-clause-missing : goal.returns-clause-missing
returns-clause-missing c = search (rules, known_rules)

pub returns-clause-text : goal.returns-clause-text
returns-clause-text c = search (rules, known_rules)
