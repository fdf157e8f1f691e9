use Rattle.std.proofs.Common.{◌≡◌, ◌++◌, drop}
use Rattle.std.specs.List.{flat_map}
use Rattle.witx_markdown.specs.Trees.{children_of}
use Rattle.witx_markdown.proofs.kin.Kin.children_of_each.Given as goal

abbrev pub invariant-loop-node : goal.invariant-loop-node
invariant-loop-node l = l.numbers ++ flat_map (children_of l.self) (drop l.node-index l.nodes) ≡ flat_map (children_of l.self) l.nodes
