-- The summary of an adapted document, in four lines: the numbers of its typenames, of its functions and of the events in all
-- their traces, and the sum of its typenames' sizes. It has one layout for each typename and one entry for each function.
use Rattle.std.specs.Prelude.{ℕ, ◌+◌, List, ◌++◌, length, codes}
use Rattle.std.specs.Fmt.{decimal}
use Rattle.std.specs.List.{sum_by}
use Rattle.witx_layout.specs.declared.layout.SizeAlign.{SizeAlign}
use Rattle.witx_adapt.specs.declared.adapted.Adapted.{Adapted}
use Rattle.witx_adapt.specs.declared.adapted.AdaptedFunc.{AdaptedFunc}

-- the events of both sides
abbrev pub event_count : AdaptedFunc → ℕ
event_count f = length f.caller.events + length f.callee.events

abbrev pub size_in_bytes : SizeAlign → ℕ
size_in_bytes l = l.size

unfoldable pub summary_text : Adapted → List ℕ
summary_text a =
    codes "typenames " ++ decimal (length a.layouts) ++ codes "\nfunctions " ++ decimal (length a.functions)
    ++ codes "\nevents " ++ decimal (sum_by event_count a.functions) ++ codes "\nbytes " ++ decimal (sum_by size_in_bytes a.layouts) ++ codes "\n"
