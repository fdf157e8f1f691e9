use Rattle.witx_tools.proofs.Excluded.{valid-is-not-refused}
use Rattle.witx_tools.proofs.laws.valid_is_not_refused_by_tools.Goals as goal

pub returns : goal.returns
returns c =
    valid-is-not-refused c.valid_is_not_refused.ensures c.no_fault_where_imports_are_read.ensures
    c.traces_leave_no_line_unfit.ensures c.one_reading.ensures c.lines_tell_values.ensures
