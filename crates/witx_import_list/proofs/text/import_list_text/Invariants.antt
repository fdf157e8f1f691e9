use Rattle.std.proofs.Common.{◌≡◌, ◌++◌, drop}
use Rattle.std.specs.Prelude.{string_bytes}
use Rattle.std.specs.List.{flat_map}
use Rattle.witx_import_list.specs.ListTexts.{wasm_import_line, list_text}
use Rattle.witx_import_list.proofs.text.import_list_text.Given as goal

abbrev pub invariant-loop-import : goal.invariant-loop-import
invariant-loop-import l = string_bytes l.text ++ flat_map wasm_import_line (drop l.import-index l.imports) ≡ list_text l.imports
