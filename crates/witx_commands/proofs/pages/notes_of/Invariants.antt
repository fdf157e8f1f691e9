use Rattle.std.proofs.Common.{◌≡◌, ◌++◌, drop, string_bytes}
use Rattle.std.specs.List.{flat_map}
use Rattle.witx_docs.specs.Pages.{missing_line}
use Rattle.witx_commands.proofs.pages.notes_of.Given as goal

abbrev pub invariant-loop-name : goal.invariant-loop-name
invariant-loop-name l = string_bytes l.notes ++ flat_map missing_line (drop l.name-index l.missing) ≡ flat_map missing_line l.missing
