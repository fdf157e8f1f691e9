-- One more copy in a list, and the types whose parts were copied.
use Rattle.witx_base.proofs.Zipped.{zip-take}
use Rattle.witx_comments.specs.Copies.{IsCopyOfDocumented}
use Rattle.witx_syntax_tree.specs.Copies.{ReadsAs}
use Rattle.witx_syntax_tree.specs.Views.{type_view, field_view, case_view}
use Rattle.witx_syntax_tree.proofs.Copied.{made-tuple, made-expected, made-union}
use Rattle.witx_syntax_tree.proofs.copies.+typedefs.Goals as goal

pub TupleSyntaxDuplicate::copy-returns : goal.TupleSyntaxDuplicate::copy-returns
TupleSyntaxDuplicate::copy-returns t c = made-tuple _ _ _ c.as_slice.ensures c.in_ok-copied_types.ensures

pub ExpectedSyntaxDuplicate::copy-returns : goal.ExpectedSyntaxDuplicate::copy-returns
ExpectedSyntaxDuplicate::copy-returns t c = made-expected _ _ _ c.in_ok-optional_copy.ensures c.in_ok-optional_copy-2.ensures

pub UnionSyntaxDuplicate::copy-returns : goal.UnionSyntaxDuplicate::copy-returns
UnionSyntaxDuplicate::copy-returns t c = made-union _ _ _ _ c.in_ok-optional_copy.ensures c.as_slice.ensures c.in_ok-copied_union_fields.ensures

pub copied_types-loop-item-preserved : goal.copied_types-loop-item-preserved
copied_types-loop-item-preserved t c =
    rw c.in_ok-push.ensures
    (zip-take (ReadsAs type_view) _ _ _ _ _ c.loop-item-test.true c.item-item.is c.loop-item.invariant c.in_ok-copy.ensures)

pub copied_fields-loop-noted-preserved : goal.copied_fields-loop-noted-preserved
copied_fields-loop-noted-preserved t c =
    rw c.in_ok-push.ensures
    (zip-take (IsCopyOfDocumented (ReadsAs field_view)) _ _ _ _ _ c.loop-noted-test.true c.noted-item.is c.loop-noted.invariant (c.in_ok-comments.ensures, c.in_ok-item.ensures))

pub copied_union_fields-loop-noted-preserved : goal.copied_union_fields-loop-noted-preserved
copied_union_fields-loop-noted-preserved t c =
    rw c.in_ok-push.ensures
    (zip-take (IsCopyOfDocumented (ReadsAs type_view)) _ _ _ _ _ c.loop-noted-test.true c.noted-item.is c.loop-noted.invariant (c.in_ok-comments.ensures, c.in_ok-item.ensures))

pub copied_cases-loop-noted-preserved : goal.copied_cases-loop-noted-preserved
copied_cases-loop-noted-preserved t c =
    rw c.in_ok-push.ensures
    (zip-take (IsCopyOfDocumented (ReadsAs case_view)) _ _ _ _ _ c.loop-noted-test.true c.noted-item.is c.loop-noted.invariant (c.in_ok-comments.ensures, c.in_ok-item.ensures))
