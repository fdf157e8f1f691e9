use Rattle.std.proofs.Common.{map, drop}
use Rattle.std.specs.String.{string_bytes}
use Rattle.witx_comments.specs.Documentation.{doc_lines}
use Rattle.witx_comments.proofs.Lines.{IsAt}
use Rattle.witx_comments.proofs.documentation_text.documentation.Given as goal

abbrev pub invariant-loop-comment : goal.invariant-loop-comment
invariant-loop-comment l =
    IsAt l.margin (string_bytes l.text) (doc_lines (map (λ comment. comment.now) l.comments)) (doc_lines (map (λ comment. comment.now) (drop l.comment-index l.comments)))
