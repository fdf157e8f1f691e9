use Rattle.std.proofs.Common.{◌≡◌, ℕ, List, drop}
use Rattle.std.specs.Prelude.{◌||◌}
use Rattle.std.specs.List.{list_any}
use Rattle.std.specs.Map.{keys_of}
use Rattle.witx_base.specs.Texts.{same_text}
use Rattle.witx_markdown.specs.Links.{ids}
use Rattle.witx_markdown.proofs.links.known_ids.Given as goal

abbrev pub invariant-loop-content : goal.invariant-loop-content
invariant-loop-content l = (q : List ℕ) → list_any (same_text q) (keys_of l.known) || list_any (same_text q) (ids (drop l.content-index l.contents)) ≡ list_any (same_text q) (ids l.contents)
