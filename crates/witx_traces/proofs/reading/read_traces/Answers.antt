use Rattle.std.proofs.Common.{◌≡◌, map, ap, ◌∙◌}
use Rattle.witx_traces.specs.Passages.{passage_of, passages_of, sides_of}
use Rattle.witx_traces.specs.Traces.{listed}
use Rattle.witx_traces.proofs.Refusing.{passages-last, traces-read, unfit-line}
use Rattle.witx_traces.proofs.reading.read_traces.Goals as goal

pub read_passages-requires-clause-last : goal.read_passages-requires-clause-last
read_passages-requires-clause-last c = passages-last (listed c.args.adapted.now) c.as_str.result.now (c.as_str.ensures ∙ c.in_ok-shown.ensures.last)

pub returns-in-Ok-clause-traces : goal.returns-in-Ok-clause-traces
returns-in-Ok-clause-traces c =
    let here : map passage_of c.as_slice.result.now ≡ (passages_of (listed c.args.adapted.now)).done = ap (map passage_of) c.as_slice.ensures.value ∙ c.in_ok-shown.ensures.passages in
    traces-read (listed c.args.adapted.now) (map passage_of c.as_slice.result.now) (map sides_of c.in-Ok.pairs) c.as_str.result.now c.args.text.now c.requires here (c.as_str.ensures ∙ c.in_ok-shown.ensures.last) c.in-Ok.ensures.pairs

pub returns-in-Err-At-clause-line : goal.returns-in-Err-At-clause-line
returns-in-Err-At-clause-line c =
    let here : map passage_of c.as_slice.result.now ≡ (passages_of (listed c.args.adapted.now)).done = ap (map passage_of) c.as_slice.ensures.value ∙ c.in_ok-shown.ensures.passages in
    unfit-line (listed c.args.adapted.now) (map passage_of c.as_slice.result.now) c.as_str.result.now c.args.text.now c.in-Err-At.rest.now c.line_number.result c.requires here (c.as_str.ensures ∙ c.in_ok-shown.ensures.last)
    (rw c.in-Err-At.field-0-is at c.in-Err-At.ensures.stopped) c.line_number.ensures
