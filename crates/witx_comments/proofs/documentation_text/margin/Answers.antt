use Rattle.std.proofs.Common.{min, rules, ap, ◌∙◌}
use borrow.Author.Tests.{tests}
use Rattle.std.specs.List.{reduce}
use Rattle.std.specs.Option.{unwrap_or}
use Rattle.std.proofs.lemmas.Iterator.{YieldsList-from_slice}
use Rattle.std.proofs.lemmas.Iterator.Consumers.{YieldsList-from_filter_map, min_from_yields_List}
use Rattle.witx_comments.specs.Documentation.{margin_of, indent_in}
use Rattle.witx_comments.proofs.Lines.{indents, same_option}
use Rattle.witx_comments.proofs.documentation_text.margin.Goals as goal

pub returns : goal.returns
unfolding margin_of
returns c = c.unwrap_or.ensures
    ∙ ap (λ least. unwrap_or least 0) (same_option c.min.result
    ∙ min_from_yields_List {v = λ n. n} c.filter_map.result c.min.result c.min.ensures.ran
    (YieldsList-from_filter_map _ (λ comment. indent_in comment.now) (YieldsList-from_slice c.args.comments.now cc) c.filter_map.ensures.closure (λ x r q k. search (rules, tests)))
    ∙ ap (reduce min) (indents c.args.comments.now))
