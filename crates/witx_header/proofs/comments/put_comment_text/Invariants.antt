use Rattle.std.proofs.Common.{◌≡◌, ◌++◌, length, drop, string_bytes}
use Rattle.std.specs.Str.{chars}
use Rattle.witx_header.specs.CNames.{comment_from}
use Rattle.witx_header.proofs.comments.put_comment_text.Given as goal

abbrev pub invariant-loop-character : goal.invariant-loop-character
invariant-loop-character l = string_bytes l.text ++ comment_from l.margin l.before (drop (length l.yielded) (chars l.docs)) ≡ string_bytes l.initial.text ++ comment_from l.margin 32 (chars l.docs)
