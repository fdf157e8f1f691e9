use Rattle.std.proofs.Common.{◌≡◌, ◌+◌, ◌*◌, true, drop}
use Rattle.witx_ast.specs.Plain.{plain}
use Rattle.witx_ast.specs.Views.{tree_of, datatype_tree, record_tree, variant_tree, cases_plain, members_plain}
use Rattle.witx_compat.specs.Answers.{worse}
use Rattle.witx_compat.specs.Heads.{same_names, all_placed}
use Rattle.witx_compat.specs.Represents.{fields_same, cases_by}
use Rattle.witx_compat.proofs.Sizes.{size}
use Rattle.witx_compat.proofs.representable.+compat.Given as goal

abbrev pub decreases-gone_into : goal.decreases-gone_into
decreases-gone_into l = 3 * size (plain (datatype_tree l.one.now)) + 1

abbrev pub decreases-part_answer : goal.decreases-part_answer
decreases-part_answer l = 3 * size (plain (tree_of l.mine.now)) + 2

abbrev pub decreases-RecordDatatypeRepresentable::representable : goal.decreases-RecordDatatypeRepresentable::representable
decreases-RecordDatatypeRepresentable::representable l = 3 * size (plain (record_tree l.self.now))

abbrev pub decreases-cases_answer : goal.decreases-cases_answer
decreases-cases_answer l = 3 * size (plain (variant_tree l.one.now))

abbrev pub invariant-RecordDatatypeRepresentable::representable-loop-i : goal.invariant-RecordDatatypeRepresentable::representable-loop-i
invariant-RecordDatatypeRepresentable::representable-loop-i l = record {
  named : same_names (members_plain (drop l.i l.members)) (members_plain (drop l.i l.others)) ≡ true;
  same : fields_same (members_plain (drop l.i l.members)) (members_plain (drop l.i l.others)) ≡ fields_same (members_plain l.members) (members_plain l.others);
}

abbrev pub invariant-cases_answer-loop-i : goal.invariant-cases_answer-loop-i
invariant-cases_answer-loop-i l = record {
  placed : all_placed l.i (cases_plain (drop l.i l.cases)) (cases_plain l.others) ≡ true;
  answer : worse l.answer (cases_by l.i (cases_plain (drop l.i l.cases)) (cases_plain l.others)) ≡ worse l.initial.answer (cases_by 0 (cases_plain l.cases) (cases_plain l.others));
}
