use Rattle.std.proofs.Common.{take}
use Rattle.std.specs.List.{AllZip}
use Rattle.witx_comments.specs.Copies.{IsCopyOfDocumented}
use Rattle.witx_syntax_tree.specs.Copies.{ReadsAs}
use Rattle.witx_syntax_tree.specs.Views.{type_view, field_view, case_view}
use Rattle.witx_syntax_tree.proofs.copies.+typedefs.Given as goal

abbrev pub invariant-copied_types-loop-item : goal.invariant-copied_types-loop-item
invariant-copied_types-loop-item l = AllZip (ReadsAs type_view) (take l.item-index l.types) l.copies

abbrev pub invariant-copied_fields-loop-noted : goal.invariant-copied_fields-loop-noted
invariant-copied_fields-loop-noted l = AllZip (IsCopyOfDocumented (ReadsAs field_view)) (take l.noted-index l.fields) l.copies

abbrev pub invariant-copied_union_fields-loop-noted : goal.invariant-copied_union_fields-loop-noted
invariant-copied_union_fields-loop-noted l = AllZip (IsCopyOfDocumented (ReadsAs type_view)) (take l.noted-index l.fields) l.copies

abbrev pub invariant-copied_cases-loop-noted : goal.invariant-copied_cases-loop-noted
invariant-copied_cases-loop-noted l = AllZip (IsCopyOfDocumented (ReadsAs case_view)) (take l.noted-index l.cases) l.copies
