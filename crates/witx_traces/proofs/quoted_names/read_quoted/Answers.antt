use Rattle.std.proofs.Common.{◌≡◌, ◌∷◌, rules}
use Rattle.witx_traces.specs.LineReading.{SpellsQuoted}
use Rattle.witx_traces.proofs.Spelling.{not-utf8}
use Rattle.witx_traces.proofs.quoted_names.read_quoted.Goals as goal

pub returns : goal.returns
returns c =
    let whole : c.args.text.now ≡ 34 ∷ c.in-Some.inside.now = search rules in
    let spelled : SpellsQuoted c.in-Some.inside.now c.in_ok-bytes.bytes.items = rw c.as_bytes.ensures.value at c.in_ok-bytes.ensures in
    not-utf8 c.args.text.now c.in-Some.inside.now c.in_ok-bytes.bytes.items whole spelled (rw c.as_slice.ensures.value at c.in-Err.ensures.cases.0)
