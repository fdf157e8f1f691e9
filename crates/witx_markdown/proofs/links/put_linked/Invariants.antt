use Rattle.std.proofs.Common.{◌≡◌, ◌++◌, length, string_bytes}
use denote.Text.{Utf8}
use denote.Shadow.{shadow}
use Rattle.std.specs.Map.{keys_of}
use Rattle.witx_markdown.specs.Links.{linked, missing, pieces}
use Rattle.witx_markdown.proofs.links.put_linked.Given as goal

abbrev pub invariant-loop-before : goal.invariant-loop-before
invariant-loop-before l =
    shadow (Utf8 l.rest)
    × (string_bytes l.out ++ linked (keys_of l.known) l.rest ≡ string_bytes l.initial.out ++ linked (keys_of l.known) l.docs)
    × (l.missing_links ++ missing (keys_of l.known) l.rest ≡ l.initial.missing_links ++ missing (keys_of l.known) l.docs)

abbrev pub decreases-loop-before : goal.decreases-loop-before
decreases-loop-before l = length (pieces l.rest)
