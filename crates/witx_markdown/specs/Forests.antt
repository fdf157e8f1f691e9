-- Nodes that a page gets below one of its nodes, with what stands below each of them, in order.
use Rattle.std.specs.Prelude.{ℕ, ◌+◌, List, [], ◌∷◌, ◌++◌, length, Option, Some}
use Rattle.witx_markdown.specs.declared.content.MdContent.{MdContent}
use Rattle.witx_markdown.specs.declared.branch.Branch.{Branch}

pub data Forest : Type 0 where
  no_nodes : Forest
  -- a node, what stands below it, and the nodes that follow it
  node : MdContent → Forest → Forest → Forest

-- one node with nothing below it
abbrev pub lone_node : MdContent → Forest
lone_node c = node c no_nodes no_nodes

-- the nodes of one, and then those of the other
abbrev pub followed_by : Forest → Forest → Forest
followed_by no_nodes more = more
followed_by (node c below next) more = node c below (followed_by next more)

-- those of each, in order
abbrev pub each : {X : Type 0} → (X → Forest) → List X → Forest
each nodes [] = no_nodes
each nodes (x ∷ xs) = followed_by (nodes x) (each nodes xs)

-- the contents in the order of the text: each node's, and then those below it
abbrev pub contents_of : Forest → List MdContent
contents_of no_nodes = []
contents_of (node c below next) = c ∷ (contents_of below ++ contents_of next)

abbrev pub node_count : Forest → ℕ
node_count no_nodes = 0
node_count (node c below next) = (node_count below + node_count next) + 1

-- the parents of the nodes, which are numbered in that order from n on, below the node numbered p
abbrev pub parents_from : ℕ → ℕ → Forest → List (Option ℕ)
parents_from n p no_nodes = []
parents_from n p (node c below next) = Some p ∷ (parents_from (n + 1) n below ++ parents_from ((n + 1) + node_count below) p next)

-- the number of the next node of a branch
abbrev pub next_number : Branch → ℕ
next_number b = b.first + length b.contents

-- a branch with further nodes below the node numbered p
unfoldable pub sprouted : Branch → ℕ → Forest → Branch
sprouted b p f = record b { parents = b.parents ++ parents_from (next_number b) p f; contents = b.contents ++ contents_of f }
