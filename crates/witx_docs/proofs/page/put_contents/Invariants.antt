use Rattle.std.proofs.Common.{◌≡◌, ◌++◌, drop, string_bytes}
use Rattle.std.specs.Map.{keys_of}
use Rattle.witx_docs.specs.Pages.{text_with, missing_with}
use Rattle.witx_docs.proofs.page.put_contents.Given as goal

abbrev pub invariant-loop-content : goal.invariant-loop-content
invariant-loop-content l = record {
  text : string_bytes l.out ++ text_with (keys_of l.known) (drop l.content-index l.contents) ≡ string_bytes l.initial.out ++ text_with (keys_of l.known) l.contents;
  missing : l.missing_links ++ missing_with (keys_of l.known) (drop l.content-index l.contents) ≡ l.initial.missing_links ++ missing_with (keys_of l.known) l.contents;
}
