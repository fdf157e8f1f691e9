use Rattle.std.proofs.Common.{◌≡◌, ◌++◌, drop, string_bytes}
use Rattle.witx_docs.specs.PolyfillTexts.{lines}
use Rattle.witx_docs.proofs.Lines.{lines_from}
use Rattle.witx_docs.proofs.written.put_lines.Given as goal

abbrev pub invariant-loop-one : goal.invariant-loop-one
invariant-loop-one g l = string_bytes l.out ++ lines_from g.W.Written.written l.first (drop l.one-index l.all) ≡ string_bytes l.initial.out ++ lines g.W.Written.written l.all
