use Rattle.std.proofs.Common.{arith, ◌∙◌, ◌<◌, ap, get_or, length, sym, rules}
use Rattle.witx_ast.specs.Views.{tree_of, datatype_tree, record_tree, cases_plain}
use Rattle.witx_ast.specs.Plain.{plain}
use Rattle.witx_ast.specs.declared.types.RecordMember.{RecordMember}
use Rattle.witx_compat.specs.Answers.{is_same, worse}
use Rattle.witx_compat.specs.declared.answer.RepEquality.{RepEquality}
use Rattle.witx_compat.specs.Represents.{represented}
use Rattle.witx_compat.proofs.Heads.{same-count, headed-other, headed-names, record-lost, record-kept, names-next, type-same, type-other, all-same, placed-here, placed-rest}
use Rattle.witx_compat.proofs.Sizes.{size, member-size, payload-size}
use Rattle.witx_compat.proofs.Steps.{looked-through, alike-by, in-range, next-carried, refused-carried, lost-payload, next-gained, next-bare, all-cases, variant-whole, misplaced-type}
use Rattle.witx_compat.proofs.representable.+compat.Goals as goal

pub RecordDatatypeRepresentable::representable-returns-then-not-are_headed_alike-clause-exact : goal.RecordDatatypeRepresentable::representable-returns-then-not-are_headed_alike-clause-exact
RecordDatatypeRepresentable::representable-returns-then-not-are_headed_alike-clause-exact t c =
    headed-other c.args.self.now c.args.by.now (sym c.are_headed_alike.ensures ∙ c.if-not-are_headed_alike.true)

pub RecordDatatypeRepresentable::representable-part_answer-requires : goal.RecordDatatypeRepresentable::representable-part_answer-requires
RecordDatatypeRepresentable::representable-part_answer-requires t c =
    let less = member-size c.args.self.now c.as_slice-members.result.now c.loop-i.i c.index-members-i.result c.as_slice-members.ensures c.loop-i-test.true c.index-members-i.is in
    let same = ap (λ (x : RecordMember). size (plain (tree_of x.tref))) c.index-members-i.is in
    (omega (arith, less, same, c.decreases), tt)

pub RecordDatatypeRepresentable::representable-returns-then-not-is_same-clause-exact : goal.RecordDatatypeRepresentable::representable-returns-then-not-is_same-clause-exact
RecordDatatypeRepresentable::representable-returns-then-not-is_same-clause-exact t c =
    let xs = c.as_slice-members.result.now in
    let ys = c.as_slice-others.result.now in
    let count = same-count xs ys (headed-names c.args.self.now c.args.by.now xs ys c.as_slice-members.ensures c.as_slice-others.ensures (sym c.are_headed_alike.ensures ∙ c.if-not-are_headed_alike.false)) in
    let here = c.loop-i-test.true in
    let within : c.loop-i.i < length ys = omega (arith, here, count) in
    let look =
    c.part_answer.ensures
    ∙ ap (λ (x : RecordMember). represented (plain (tree_of x.tref)) (plain (tree_of (get_or ys c.loop-i.i c.index-others-i.result).tref))) (sym c.index-members-i.is)
    ∙ ap (λ (x : RecordMember). represented (plain (tree_of c.index-members-i.result.tref)) (plain (tree_of x.tref))) (sym c.index-others-i.is) in
    record-lost c.args.self.now c.args.by.now xs ys c.as_slice-members.ensures c.as_slice-others.ensures
    (type-other xs ys c.loop-i.i c.index-members-i.result c.index-others-i.result _ here within c.index-members-i.is c.index-others-i.is (ap is_same (sym look) ∙ sym c.is_same.ensures ∙ c.if-not-is_same.true) c.loop-i.invariant.same)

pub RecordDatatypeRepresentable::representable-loop-i-preserved : goal.RecordDatatypeRepresentable::representable-loop-i-preserved
RecordDatatypeRepresentable::representable-loop-i-preserved t c =
    let xs = c.as_slice-members.result.now in
    let ys = c.as_slice-others.result.now in
    let count = same-count xs ys (headed-names c.args.self.now c.args.by.now xs ys c.as_slice-members.ensures c.as_slice-others.ensures (sym c.are_headed_alike.ensures ∙ c.if-not-are_headed_alike.false)) in
    let here = c.loop-i-test.true in
    let within : c.loop-i.i < length ys = omega (arith, here, count) in
    let look =
    c.part_answer.ensures
    ∙ ap (λ (x : RecordMember). represented (plain (tree_of x.tref)) (plain (tree_of (get_or ys c.loop-i.i c.index-others-i.result).tref))) (sym c.index-members-i.is)
    ∙ ap (λ (x : RecordMember). represented (plain (tree_of c.index-members-i.result.tref)) (plain (tree_of x.tref))) (sym c.index-others-i.is) in
    record {
      named = names-next xs ys c.loop-i.i c.index-members-i.result c.index-others-i.result here within c.index-members-i.is c.index-others-i.is c.loop-i.invariant.named;
      same = type-same xs ys c.loop-i.i c.index-members-i.result c.index-others-i.result _ here within c.index-members-i.is c.index-others-i.is c.loop-i.invariant.named (ap is_same (sym look) ∙ sym c.is_same.ensures ∙ c.if-not-is_same.false) c.loop-i.invariant.same;
    }

pub RecordDatatypeRepresentable::representable-returns-clause-exact : goal.RecordDatatypeRepresentable::representable-returns-clause-exact
RecordDatatypeRepresentable::representable-returns-clause-exact t c =
    let xs = c.as_slice-members.result.now in
    let ys = c.as_slice-others.result.now in
    let heads = sym c.are_headed_alike.ensures ∙ c.if-not-are_headed_alike.false in
    let count = same-count xs ys (headed-names c.args.self.now c.args.by.now xs ys c.as_slice-members.ensures c.as_slice-others.ensures heads) in
    record-kept c.args.self.now c.args.by.now xs ys c.as_slice-members.ensures c.as_slice-others.ensures heads
    (all-same xs ys c.loop-i.i _ c.loop-i-test.false count c.loop-i.invariant.same)

pub RecordDatatypeRepresentable::representable-returns-clause-alike : goal.RecordDatatypeRepresentable::representable-returns-clause-alike
RecordDatatypeRepresentable::representable-returns-clause-alike t c =
    λ h. alike-by (plain (record_tree c.args.self.now)) (plain (record_tree c.args.by.now)) _ (RecordDatatypeRepresentable::representable-returns-clause-exact t c) h

pub cases_answer-bounds-others-i : goal.cases_answer-bounds-others-i
cases_answer-bounds-others-i t c =
    let xs = c.as_slice-cases.result.now in
    let ys = c.as_slice-others.result.now in
    in-range ys c.index-cases-i.result.name c.loop-i.i (placed-here xs c.loop-i.i c.index-cases-i.result (cases_plain ys) c.loop-i-test.true c.index-cases-i.is c.loop-i.invariant.placed)

pub cases_answer-part_answer-requires : goal.cases_answer-part_answer-requires
cases_answer-part_answer-requires t c =
    let less = payload-size c.args.one.now c.as_slice-cases.result.now c.loop-i.i c.index-cases-i.result c.in-Some-Some.mine c.as_slice-cases.ensures c.loop-i-test.true c.index-cases-i.is (search rules) in
    (omega (arith, less, c.decreases), tt)

pub cases_answer-returns-then-is_refused-2 : goal.cases_answer-returns-then-is_refused-2
cases_answer-returns-then-is_refused-2 t c =
    let xs = c.as_slice-cases.result.now in
    let ys = c.as_slice-others.result.now in
    let look = c.part_answer.ensures in
    refused-carried xs ys c.loop-i.i c.index-cases-i.result c.index-others-i.result c.in-Some-Some.mine c.in-Some-Some.other c.loop-i.answer _ c.worse-answer.result c.loop-i-test.true c.index-cases-i.is c.index-others-i.is c.loop-i.invariant.placed (search rules) (search rules)
    c.loop-i.invariant.answer (c.worse-answer.ensures ∙ ap (worse c.loop-i.answer) look) (sym c.is_refused-in-Some-Some.ensures ∙ c.if-is_refused-2.true)
    ∙ variant-whole c.args.one.now c.args.by.now xs ys c.head_answer-answer.result c.as_slice-cases.ensures c.as_slice-others.ensures c.head_answer-answer.ensures

pub cases_answer-loop-i-preserved-in-Some-Some : goal.cases_answer-loop-i-preserved-in-Some-Some
cases_answer-loop-i-preserved-in-Some-Some t c =
    let xs = c.as_slice-cases.result.now in
    let ys = c.as_slice-others.result.now in
    let look = c.part_answer.ensures in
    record {
      placed = placed-rest xs c.loop-i.i c.index-cases-i.result (cases_plain ys) c.loop-i-test.true c.index-cases-i.is c.loop-i.invariant.placed;
      answer =
          rw (c.worse-answer.ensures, look)
          (next-carried xs ys c.loop-i.i c.index-cases-i.result c.index-others-i.result c.in-Some-Some.mine c.in-Some-Some.other c.loop-i.answer _ c.loop-i-test.true c.index-cases-i.is c.index-others-i.is c.loop-i.invariant.placed (search rules) (search rules) c.loop-i.invariant.answer);
    }

pub cases_answer-returns-in-Some-None : goal.cases_answer-returns-in-Some-None
cases_answer-returns-in-Some-None t c =
    let xs = c.as_slice-cases.result.now in
    let ys = c.as_slice-others.result.now in
    lost-payload xs ys c.loop-i.i c.index-cases-i.result c.index-others-i.result c.in-Some-None.field-0-0 c.loop-i.answer _ c.loop-i-test.true c.index-cases-i.is c.index-others-i.is c.loop-i.invariant.placed (search rules) (search rules) c.loop-i.invariant.answer
    ∙ variant-whole c.args.one.now c.args.by.now xs ys c.head_answer-answer.result c.as_slice-cases.ensures c.as_slice-others.ensures c.head_answer-answer.ensures

pub cases_answer-loop-i-preserved-in-None-Some : goal.cases_answer-loop-i-preserved-in-None-Some
cases_answer-loop-i-preserved-in-None-Some t c =
    let xs = c.as_slice-cases.result.now in
    let ys = c.as_slice-others.result.now in
    record {
      placed = placed-rest xs c.loop-i.i c.index-cases-i.result (cases_plain ys) c.loop-i-test.true c.index-cases-i.is c.loop-i.invariant.placed;
      answer =
          rw c.worse-answer-in-None-Some.ensures
          (next-gained xs ys c.loop-i.i c.index-cases-i.result c.index-others-i.result c.in-None-Some.field-0-1 c.loop-i.answer _ c.loop-i-test.true c.index-cases-i.is c.index-others-i.is c.loop-i.invariant.placed (search rules) (search rules) c.loop-i.invariant.answer);
    }

pub cases_answer-loop-i-preserved : goal.cases_answer-loop-i-preserved
cases_answer-loop-i-preserved t c =
    let xs = c.as_slice-cases.result.now in
    let ys = c.as_slice-others.result.now in
    record {
      placed = placed-rest xs c.loop-i.i c.index-cases-i.result (cases_plain ys) c.loop-i-test.true c.index-cases-i.is c.loop-i.invariant.placed;
      answer = next-bare xs ys c.loop-i.i c.index-cases-i.result c.index-others-i.result c.loop-i.answer _ c.loop-i-test.true c.index-cases-i.is c.index-others-i.is c.loop-i.invariant.placed (search rules) (search rules) c.loop-i.invariant.answer;
    }

pub cases_answer-returns : goal.cases_answer-returns
cases_answer-returns t c =
    let xs = c.as_slice-cases.result.now in
    let ys = c.as_slice-others.result.now in
    all-cases xs c.loop-i.i (cases_plain ys) c.loop-i.answer _ c.loop-i-test.false c.loop-i.invariant.answer
    ∙ variant-whole c.args.one.now c.args.by.now xs ys c.head_answer-answer.result c.as_slice-cases.ensures c.as_slice-others.ensures c.head_answer-answer.ensures

pub part_answer-returns-then-are_misplaced : goal.part_answer-returns-then-are_misplaced
part_answer-returns-then-are_misplaced t c =
    looked-through c.deref.result.now c.deref-2.result.now c.args.mine.now c.args.other.now RepEquality.NotEq
    (misplaced-type (plain (datatype_tree c.deref.result.now)) (plain (datatype_tree c.deref-2.result.now)) (sym c.are_misplaced.ensures ∙ c.if-are_misplaced.true))
    (ap datatype_tree c.deref.ensures ∙ c.type_-one.ensures) (ap datatype_tree c.deref-2.ensures ∙ c.type_-by.ensures)
