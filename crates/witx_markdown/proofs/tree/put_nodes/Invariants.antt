use Rattle.std.proofs.Common.{◌≡◌, ◌++◌, drop, string_bytes}
use Rattle.std.specs.List.{flat_map}
use Rattle.witx_markdown.specs.Contents.{content_text}
use Rattle.witx_markdown.specs.Trees.{content_at}
use Rattle.witx_markdown.proofs.tree.put_nodes.Given as goal

abbrev pub invariant-loop-node : goal.invariant-loop-node
invariant-loop-node l =
    string_bytes l.out ++ flat_map (λ n. content_text (content_at l.contents n)) (drop l.node-index l.nodes)
    ≡ string_bytes l.initial.out ++ flat_map (λ n. content_text (content_at l.contents n)) l.nodes
