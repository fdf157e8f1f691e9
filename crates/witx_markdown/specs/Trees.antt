-- A tree is of each node its parent and its content, in the order of the nodes' numbers, which begin at 0. The first node
-- is the root and has no parent; each other node's parent stands before it. The children of a node are the nodes that have
-- it as their parent, in order.
use Rattle.std.specs.Prelude.{ℕ, zero, suc, ◌+◌, ◌<◌, List, [], ◌∷◌, ◌++◌, length, Bool, false, Option, Some, None, nat_eq, if◌then◌else◌}
use Rattle.std.specs.List.{flat_map, slice_index_or, slice_set}
use Rattle.witx_markdown.specs.declared.heading.MdHeading.{MdHeading}
use Rattle.witx_markdown.specs.declared.content.MdContent.{MdContent}
use Rattle.witx_markdown.specs.declared.content.MdContent.TheVariants as content
use Rattle.witx_markdown.specs.Contents.{header_marks, content_text}
use Rattle.witx_markdown.specs.Forests.{Forest, contents_of, parents_from}

pub record PageTree : Type 0 where
  pub parents : List (Option ℕ)
  pub contents : List MdContent

-- each of these, numbered from i on, has a parent before it
abbrev pub HaveParents : ℕ → List (Option ℕ) → Type 0
HaveParents i [] = Unit {0}
HaveParents i (None ∷ ps) = ⊥
HaveParents i (Some p ∷ ps) = (p < i) × HaveParents (i + 1) ps

abbrev pub AreParents : List (Option ℕ) → Type 0
AreParents [] = ⊥
AreParents (None ∷ ps) = HaveParents 1 ps
AreParents (Some p ∷ ps) = ⊥

abbrev pub parent_of : List (Option ℕ) → ℕ → Option ℕ
parent_of parents n = slice_index_or parents n None

-- a parent, and what stands above it
abbrev pub parent_first : (ℕ → List ℕ) → Option ℕ → List ℕ
parent_first above None = []
parent_first above (Some p) = p ∷ above p

-- from the parent up to the root, at most so many
abbrev pub ancestors_within : ℕ → List (Option ℕ) → ℕ → List ℕ
ancestors_within zero parents n = []
ancestors_within (suc most) parents n = parent_first (ancestors_within most parents) (parent_of parents n)

-- a node has no more ancestors than its number says
abbrev pub ancestors_of : List (Option ℕ) → ℕ → List ℕ
ancestors_of parents n = ancestors_within n parents n

abbrev pub is_parent : ℕ → Option ℕ → Bool
is_parent p None = false
is_parent p (Some q) = nat_eq p q

-- the children of p among nodes numbered from i on
abbrev pub children_from : ℕ → List (Option ℕ) → ℕ → List ℕ
children_from i [] p = []
children_from i (q ∷ qs) p = (if is_parent p q then i ∷ [] else []) ++ children_from (i + 1) qs p

abbrev pub children_of : List (Option ℕ) → ℕ → List ℕ
children_of parents p = children_from 0 parents p

-- among nodes numbered from i on: for each child of p its own children, and then in turn the same of each of these
abbrev pub deeper_from : ℕ → List (Option ℕ) → ℕ → List ℕ
deeper_from i [] p = []
deeper_from i (q ∷ qs) p = (if is_parent p q then children_from (i + 1) qs i ++ deeper_from (i + 1) qs i else []) ++ deeper_from (i + 1) qs p

-- the children of p, and then in turn the same of each of them
abbrev pub levels_from : ℕ → List (Option ℕ) → ℕ → List ℕ
levels_from i qs p = children_from i qs p ++ deeper_from i qs p

abbrev pub levels_of : List (Option ℕ) → ℕ → List ℕ
levels_of parents p = levels_from 0 parents p

-- among nodes numbered from i on: each child of p, followed by what stands below it
abbrev pub order_from : ℕ → List (Option ℕ) → ℕ → List ℕ
order_from i [] p = []
order_from i (q ∷ qs) p = (if is_parent p q then i ∷ order_from (i + 1) qs i else []) ++ order_from (i + 1) qs p

-- all nodes in the order of the text: the root, and then what stands below it
abbrev pub text_order : List (Option ℕ) → List ℕ
text_order parents = 0 ∷ order_from 0 parents 0

abbrev pub content_at : List MdContent → ℕ → MdContent
content_at contents n = slice_index_or contents n content.Root

-- what is told of each node's content, in the order of the text
abbrev pub told_of : {A : Type 0} → (MdContent → List A) → PageTree → List A
told_of told t = flat_map (λ n. told (content_at t.contents n)) (text_order t.parents)

abbrev pub tree_text : PageTree → List ℕ
tree_text t = told_of content_text t

-- a root with nothing below it
abbrev pub root_alone : PageTree
root_alone = record { parents = None ∷ []; contents = content.Root ∷ [] }

-- the header of what stands right below a node
abbrev pub heading_below : PageTree → ℕ → MdHeading
heading_below t n = header_marks (length (ancestors_of t.parents n) + 1)

-- a tree after generation at a node: the node has this content, and below it there are further nodes, which come last
abbrev pub generated : PageTree → ℕ → MdContent → Forest → PageTree
generated t n c f = record {
  parents = t.parents ++ parents_from (length t.contents) n f;
  contents = slice_set t.contents n c ++ contents_of f;
}
