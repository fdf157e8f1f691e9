use Rattle.witx_base.proofs.Copied.{copied-entries, copied-list, copied-option}
use Rattle.witx_base.proofs.laws.copies_are_equal.Goals as goal

pub returns-clause-list : goal.returns-clause-list
returns-clause-list g c equal items made h = copied-list g.T.Duplicate.is_copy equal items made h

pub returns-clause-option : goal.returns-clause-option
returns-clause-option g c equal value made h = copied-option g.T.Duplicate.is_copy equal value made h

pub returns-clause-entries : goal.returns-clause-entries
returns-clause-entries g c equal entries made h = copied-entries g.T.Duplicate.is_copy equal entries made h
