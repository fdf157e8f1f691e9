use Rattle.std.proofs.Common.{[], ◌∷◌, ◌++◌, ap, subst, ◌∙◌}
use Rattle.std.specs.String.{string_bytes}
use Rattle.std.proofs.lemmas.List.{drop_all}
use Rattle.witx_comments.specs.Documentation.{documentation_of, text_of_lines, doc_lines}
use Rattle.witx_comments.proofs.Lines.{IsAt, shown, at_start, at_end, at_other, at_line}
use Rattle.witx_comments.proofs.documentation_text.documentation.Goals as goal
use Rattle.witx_comments.proofs.documentation_text.documentation.Goals.{in-Some+in_ok-push_str+in_ok-push, in_default}

pub loop-comment-init : goal.loop-comment-init
loop-comment-init c = at_start _ _ _ c.margin-margin.ensures c.new-text.ensures.bytes

pub loop-comment-preserved : goal.loop-comment-preserved
unfolding lib.Utf8.encode
loop-comment-preserved c = elim c.match-line.branch [
  | in-Some+in_ok-push_str+in_ok-push w ↦ at_line c.args.comments.now c.loop-comment.comment-index _ w.in-Some.line.now _ _ w.floor_char_boundary.result (string_bytes c.loop-comment.text) _ c.loop-comment-test.true w.in-Some.ensures
      (w.floor_char_boundary.ensures.bound, w.floor_char_boundary.ensures.boundary, w.floor_char_boundary.ensures.nearest)
      (ap string_bytes w.text-is ∙ w.in_ok-push.ensures.bytes ∙ ap (λ l. l ++ (10 ∷ [])) (w.in_ok-push_str.ensures.bytes ∙ ap (λ l. string_bytes c.loop-comment.text ++ l) w.range_from.ensures.value))
      c.loop-comment.invariant
  | in_default w ↦ at_other c.args.comments.now c.loop-comment.comment-index _ _ _ (string_bytes c.loop-comment.text) _ c.loop-comment-test.true w.in_default.ensures (ap string_bytes w.text-is) c.loop-comment.invariant
]

pub returns : goal.returns
unfolding documentation_of
returns c = c.from_string.ensures ∙ at_end _ _ _ (subst (λ l. IsAt c.margin-margin.result (string_bytes c.loop-comment.text) (doc_lines (shown c.args.comments.now)) (doc_lines (shown l))) (drop_all c.loop-comment.comment-index c.args.comments.now c.loop-comment-test.false) c.loop-comment.invariant)
    ∙ ap (λ m. text_of_lines m (doc_lines (shown c.args.comments.now))) c.margin-margin.ensures
