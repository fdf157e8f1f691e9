use Rattle.std.proofs.Common.{◌≡◌, ◌∷◌, ◌++◌, [], map, drop, subst, refl, rules, arith, ◌+◌}
use Rattle.witx_ast.specs.Definitions.{definition_tree}
use Rattle.witx_traces.specs.Passages.{StopsAt, passage_of, sides_of, stretches}
use Rattle.witx_traces.proofs.ReadSteps.{PairsOn, handed-on, next-passage, no-passage, pairs-more, pairs-read, pairs-told}
use Rattle.witx_traces.proofs.TypeReading.{pushed}
use Rattle.witx_traces.proofs.reading.read_pairs.Goals as goal

pub returns-in_err-pair-clause-stopped : goal.returns-in_err-pair-clause-stopped
returns-in_err-pair-clause-stopped c = λ last ends.
    let left = map passage_of (drop (c.loop-passage.passage-index + 1) c.args.passages.now) in
    let on : PairsOn (map definition_tree c.args.document.now.definitions) (map passage_of c.args.passages.now) c.args.text.now (map sides_of c.loop-passage.pairs) (passage_of c.passage-item.result ∷ left) c.loop-passage.rest.now =
    subst (λ z. PairsOn (map definition_tree c.args.document.now.definitions) (map passage_of c.args.passages.now) c.args.text.now (map sides_of c.loop-passage.pairs) z c.loop-passage.rest.now)
    (next-passage c.args.passages.now c.loop-passage.passage-index c.passage-item.result c.loop-passage-test.true c.passage-item.is) c.loop-passage.invariant.on in
    handed-on (StopsAt (stretches (map definition_tree c.args.document.now.definitions) (map passage_of c.args.passages.now)) last c.args.text.now) c.from_residual.result c.in_err-pair.field-0.0 c.from_residual.ensures.1
    (pairs-told (map definition_tree c.args.document.now.definitions) (map passage_of c.args.passages.now) c.args.text.now (map sides_of c.loop-passage.pairs) (passage_of c.passage-item.result) left c.loop-passage.rest.now c.in_err-pair.field-0.0 on
    c.in_err-pair.ensures.stopped last ends)

pub loop-passage-preserved : goal.loop-passage-preserved
loop-passage-preserved c =
    let left = map passage_of (drop (c.loop-passage.passage-index + 1) c.args.passages.now) in
    let on : PairsOn (map definition_tree c.args.document.now.definitions) (map passage_of c.args.passages.now) c.args.text.now (map sides_of c.loop-passage.pairs) (passage_of c.passage-item.result ∷ left) c.loop-passage.rest.now =
    subst (λ z. PairsOn (map definition_tree c.args.document.now.definitions) (map passage_of c.args.passages.now) c.args.text.now (map sides_of c.loop-passage.pairs) z c.loop-passage.rest.now)
    (next-passage c.args.passages.now c.loop-passage.passage-index c.passage-item.result c.loop-passage-test.true c.passage-item.is) c.loop-passage.invariant.on in
    let items : c.push.new.self ≡ c.loop-passage.pairs ++ c.in_ok-pair.pair ∷ [] = search rules in
    let now = pushed sides_of c.loop-passage.pairs c.push.new.self c.in_ok-pair.pair (sides_of c.in_ok-pair.pair) items refl in
    record {
      rest = search rules;
      on = pairs-more (map definition_tree c.args.document.now.definitions) (map passage_of c.args.passages.now) c.args.text.now (map sides_of c.loop-passage.pairs) (map sides_of c.push.new.self) (passage_of c.passage-item.result) left
          c.loop-passage.rest.now c.in_ok-pair.more.now (sides_of c.in_ok-pair.pair) on c.in_ok-pair.ensures.lines c.in_ok-pair.ensures.pair now
          (λ last at plain s. c.in_ok-pair.ensures.behind left last at plain s);
    }

pub returns-clause-pairs : goal.returns-clause-pairs
returns-clause-pairs c =
    pairs-read (map definition_tree c.args.document.now.definitions) (map passage_of c.args.passages.now) c.args.text.now (map sides_of c.loop-passage.pairs) c.loop-passage.rest.now
    (subst (λ z. PairsOn (map definition_tree c.args.document.now.definitions) (map passage_of c.args.passages.now) c.args.text.now (map sides_of c.loop-passage.pairs) z c.loop-passage.rest.now)
    (no-passage c.args.passages.now c.loop-passage.passage-index (omega arith)) c.loop-passage.invariant.on)
