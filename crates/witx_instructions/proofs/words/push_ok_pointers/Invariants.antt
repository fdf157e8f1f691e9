use Rattle.std.proofs.Common.{◌≡◌, ◌++◌, drop, map}
use Rattle.witx_machine.specs.declared.surface.WasmType.{WasmType}
use Rattle.witx_machine.specs.Signature.{pointers_of}
use Rattle.witx_instructions.specs.Views.{param_types}
use Rattle.witx_instructions.proofs.words.push_ok_pointers.Given as goal

abbrev pub invariant-loop-each : goal.invariant-loop-each
invariant-loop-each l = l.words ++ map (λ t. WasmType.I32) (pointers_of (param_types (drop l.each-index l.results))) ≡ l.initial.words ++ map (λ t. WasmType.I32) (pointers_of (param_types l.results))
