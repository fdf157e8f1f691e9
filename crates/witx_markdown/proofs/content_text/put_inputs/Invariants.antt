use Rattle.std.proofs.Common.{◌≡◌, ◌++◌, drop, map, string_bytes}
use Rattle.witx_ast.specs.TypeNames.{comma_joined}
use Rattle.witx_ast.proofs.Naming.{joined_after}
use Rattle.witx_markdown.specs.Contents.{input_text}
use Rattle.witx_markdown.proofs.content_text.put_inputs.Given as goal

abbrev pub invariant-loop-input : goal.invariant-loop-input
invariant-loop-input l = string_bytes l.out ++ joined_after l.first (map input_text (drop l.input-index l.inputs))
    ≡ string_bytes l.initial.out ++ comma_joined (map input_text l.inputs)
