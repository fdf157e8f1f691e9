use Rattle.std.proofs.Common.{◌∙◌, get_or, arith}
use Rattle.std.proofs.lemmas.Grind.{common_steps}
use Rattle.witx_machine.specs.declared.surface.WasmType.{WasmType}
use Rattle.witx_run.proofs.PairLemmas.{pair-fails, pairs-end, pairs-uneven, same-item}
use Rattle.witx_run.proofs.CallLemmas.{is_typed, typed-pairs}
use Rattle.witx_run.proofs.calls.are_typed.Goals as goal

pub returns-then-types-words : goal.returns-then-types-words
returns-then-types-words g c =
    let d = g.D.Domain.domain c.args.domain.now in
    pairs-uneven (is_typed d g.D.Domain.word_of) c.args.types.now c.args.words.now c.if-types-words.true ∙ typed-pairs d g.D.Domain.word_of c.args.types.now c.args.words.now

pub returns-then-not-has_type : goal.returns-then-not-has_type
returns-then-not-has_type g c =
    let d = g.D.Domain.domain c.args.domain.now in
    let ty = get_or c.args.types.now c.loop-i.i WasmType.I32 in
    pair-fails (is_typed d g.D.Domain.word_of) c.args.types.now c.args.words.now c.loop-i.i ty c.index-words-i.result c.has_type.result c.loop-i-test.true c.if-types-words.false
    (same-item c.args.types.now c.loop-i.i WasmType.I32 ty c.loop-i-test.true) c.index-words-i.is c.has_type.ensures c.if-not-has_type.true c.loop-i.invariant
    ∙ typed-pairs d g.D.Domain.word_of c.args.types.now c.args.words.now

pub returns : goal.returns
returns g c =
    let d = g.D.Domain.domain c.args.domain.now in
    pairs-end (is_typed d g.D.Domain.word_of) c.args.types.now c.args.words.now c.loop-i.i c.loop-i-test.false c.if-types-words.false c.loop-i.invariant ∙ typed-pairs d g.D.Domain.word_of c.args.types.now c.args.words.now

pub loop-i-preserved : goal.loop-i-preserved
loop-i-preserved g c = grind (arith, common_steps)
