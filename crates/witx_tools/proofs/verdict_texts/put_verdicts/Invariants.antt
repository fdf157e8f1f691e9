use Rattle.std.proofs.Common.{◌≡◌, ◌++◌, map, string_bytes}
use Rattle.std.specs.List.{flat_map, zip}
use Rattle.witx_traces.specs.Passages.{sides_of}
use Rattle.witx_tools.specs.VerdictTexts.{judged_line, owned_of}
use Rattle.witx_tools.proofs.verdict_texts.put_verdicts.Given as goal

abbrev pub invariant-loop-entry : goal.invariant-loop-entry
invariant-loop-entry l =
    string_bytes l.text ++ flat_map (λ p. judged_line p.0 p.1) (zip (map owned_of l.entry-iterator.a.rest.now) (map sides_of l.entry-iterator.b.rest.now))
    ≡ string_bytes l.initial.text ++ flat_map (λ p. judged_line p.0 p.1) (zip (map owned_of l.functions) (map sides_of l.pairs))
