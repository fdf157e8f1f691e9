use Rattle.std.proofs.Common.{◌≡◌, ◌-◌, ◌++◌, replicate}
use Rattle.witx_machine.specs.declared.surface.WasmType.{WasmType}
use Rattle.witx_instructions.proofs.words.push_i32s.Given as goal

abbrev pub invariant-loop-made : goal.invariant-loop-made
invariant-loop-made l = l.words ++ replicate (l.count - l._made) WasmType.I32 ≡ l.initial.words ++ replicate l.count WasmType.I32
