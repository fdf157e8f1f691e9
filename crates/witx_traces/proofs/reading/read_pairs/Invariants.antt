use Rattle.std.proofs.Common.{drop, map}
use denote.Text.{Utf8}
use denote.Shadow.{shadow}
use Rattle.witx_ast.specs.Definitions.{definition_tree}
use Rattle.witx_traces.specs.Passages.{passage_of, sides_of}
use Rattle.witx_traces.proofs.ReadSteps.{PairsOn}
use Rattle.witx_traces.proofs.reading.read_pairs.Given as goal

abbrev pub invariant-loop-passage : goal.invariant-loop-passage
invariant-loop-passage l = record {
  rest : shadow (Utf8 l.rest);
  on : PairsOn (map definition_tree l.document.definitions) (map passage_of l.passages) l.text (map sides_of l.pairs) (map passage_of (drop l.passage-index l.passages)) l.rest;
}
