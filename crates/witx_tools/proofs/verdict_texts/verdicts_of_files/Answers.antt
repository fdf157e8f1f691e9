use Rattle.std.proofs.Common.{◌≡◌, map, subst}
use Rattle.witx_traces.specs.Passages.{sides_of}
use Rattle.witx_traces.specs.Traces.{GivesTraces, listed}
use Rattle.witx_tools.specs.VerdictTexts.{owned_of, verdicts_text}
use Rattle.witx_tools.proofs.Telling.{verdicts-told}
use Rattle.witx_tools.proofs.verdict_texts.verdicts_of_files.Goals as goal

pub returns-clause-output : goal.returns-clause-output
returns-clause-output c =
    let adapted = c.in_ok-opened.opened.adapted in
    let gives = subst (λ text. GivesTraces (listed adapted) text (map sides_of c.in_ok-pairs.pairs)) c.as_str.ensures c.in_ok-pairs.ensures.traces in
    let told = subst (λ pairs. c.in_ok-text.text ≡ verdicts_text (map owned_of adapted.functions) (map sides_of pairs)) c.as_slice.ensures c.in_ok-text.ensures in (
      c.text_alone.ensures.notes,
      c.text_alone.ensures.adapted,
      verdicts-told _ _ _ _ _ _ adapted c.in_ok-pairs.pairs c.functions_are_read_as_their_trees.ensures c.in_ok-opened.ensures.held
          c.in_ok-opened.ensures.document c.in_ok-opened.ensures.parts gives told c.text_alone.ensures.text,
    )
