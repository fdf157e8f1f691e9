use Rattle.std.proofs.Common.{◌≡◌, drop}
use Rattle.witx_import_list.specs.Functions.{wasm_types_of}
use Rattle.witx_import_list.proofs.Walk.{with_words_done}
use Rattle.witx_import_list.proofs.functions.words_of.Given as goal

abbrev pub invariant-loop-value : goal.invariant-loop-value
invariant-loop-value l = with_words_done l.words (wasm_types_of (drop l.value-index l.values)) ≡ wasm_types_of l.values
