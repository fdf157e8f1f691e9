use Rattle.std.proofs.Common.{◌≡◌, ◌++◌, drop, string_bytes}
use Rattle.witx_ast.specs.TypeNames.{comma_joined}
use Rattle.witx_ast.proofs.Naming.{joined_after}
use Rattle.witx_markdown.proofs.content_text.put_joined.Given as goal

abbrev pub invariant-loop-text : goal.invariant-loop-text
invariant-loop-text l = string_bytes l.out ++ joined_after l.first (drop l.text-index l.texts) ≡ string_bytes l.initial.out ++ comma_joined l.texts
