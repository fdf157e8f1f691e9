use Rattle.std.proofs.Common.{◌≡◌, ◌++◌, drop, map, string_bytes}
use Rattle.std.specs.List.{flat_map}
use Rattle.witx_imports.specs.Faults.{offered_import}
use Rattle.witx_tools.specs.ImportTexts.{fault_line}
use Rattle.witx_tools.proofs.import_texts.put_faults.Given as goal

abbrev pub invariant-loop-fault : goal.invariant-loop-fault
invariant-loop-fault l =
    string_bytes l.text ++ flat_map (fault_line (map offered_import l.functions) l.imports) (drop l.fault-index l.faults)
    ≡ string_bytes l.initial.text ++ flat_map (fault_line (map offered_import l.functions) l.imports) l.faults
