-- Nodes that are added below a node of a tree, and the content that the node then gets.
use Rattle.std.specs.Prelude.{◌≡◌, ◌⊎◌, ℕ, ◌+◌, ◌<◌, List, [], ◌++◌, false, length, Some, None}
use Rattle.std.specs.List.{slice_set}
use Rattle.std.proofs.Common.{arith, refl, sym, ap, ◌∙◌, inl, inr, append-nil, length-append}
use Rattle.std.proofs.lemmas.List.{length-set, get_or_append_left, get_or-set_same, set-get_or, set-set, set-append_left}
use Rattle.witx_layout.specs.declared.members.LayoutError.{LayoutError}
use Rattle.witx_layout.specs.declared.members.LayoutError.TheVariants as layout_error
use Rattle.witx_markdown.specs.declared.content.MdContent.{MdContent}
use Rattle.witx_markdown.specs.declared.content.MdContent.TheVariants as content
use Rattle.witx_markdown.specs.declared.branch.Branch.{Branch}
use Rattle.witx_docs.specs.declared.error.DocsError.TheVariants as docs_error
use Rattle.witx_markdown.specs.Forests.{Forest, no_nodes, node, contents_of, node_count, parents_from, sprouted}
use Rattle.witx_docs.specs.LaidOut.{too_large, refusal_fits, layout_refusal, number_refusal}
use Rattle.witx_markdown.specs.Trees.{PageTree, HaveParents, content_at, generated}
use Rattle.witx_markdown.proofs.Ancestry.{have-append}
use Rattle.witx_docs.proofs.Grown.{count-contents}

pub count-parents : (f : Forest) (n p : ℕ) → length (parents_from n p f) ≡ node_count f
count-parents no_nodes n p = refl
count-parents (node c below next) n p =
    omega (
      arith,
      length-append (parents_from (n + 1) n below) (parents_from ((n + 1) + node_count below) p next),
      count-parents below (n + 1) n,
      count-parents next ((n + 1) + node_count below) p,
    )

-- each node's parent stands before it
have-from : (f : Forest) (n p : ℕ) → p < n → HaveParents n (parents_from n p f)
have-from no_nodes n p l = tt
have-from (node c below next) n p l = (
  l,
  have-append (n + 1) (parents_from (n + 1) n below) (parents_from ((n + 1) + node_count below) p next)
      (have-from below (n + 1) n (omega arith)) (rw (count-parents below (n + 1) n) (have-from next ((n + 1) + node_count below) p (omega arith))),
)

-- nodes below the node p, with numbers from n on
abbrev pub new_branch : ℕ → ℕ → Forest → Branch
new_branch n p f = sprouted (record { first = n; parents = []; contents = [] }) p f

pub branch-fits : (n p : ℕ) (f : Forest) (b : Branch) → p < n → b ≡ new_branch n p f → HaveParents n b.parents × (length b.contents ≡ length b.parents)
unfolding sprouted
branch-fits n p f b l e =
    let z : n + 0 ≡ n = omega arith in rw (e, z) (have-from f n p l, count-contents f ∙ sym (count-parents f n p))

pub branch-grown : (t x : PageTree) (p : ℕ) (f : Forest) (b : Branch) → b ≡ new_branch (length t.contents) p f
    → x ≡ record { parents = t.parents ++ b.parents; contents = t.contents ++ b.contents } → x ≡ generated t p (content_at t.contents p) f
unfolding sprouted
branch-grown t x p f b e k =
    let z : length t.contents + 0 ≡ length t.contents = omega arith in rw (k, e, z, set-get_or t.contents p content.Root) refl

-- the content of a node that has got its parts
content-kept : (t : PageTree) (p : ℕ) (c : MdContent) (f : Forest) → p < length t.contents → content_at (generated t p c f).contents p ≡ c
content-kept t p c f l =
    get_or_append_left (slice_set t.contents p c) (contents_of f) content.Root p (rw (length-set t.contents p c) l) ∙ get_or-set_same t.contents p c content.Root l

-- the node's content is changed once its parts stand below it
pub then-shown : (t x : PageTree) (p : ℕ) (c now d : MdContent) (f : Forest) (change : MdContent → MdContent) → p < length t.contents → x ≡ generated t p c f
    → now ≡ content_at x.contents p → d ≡ change now → record x { contents = slice_set x.contents p d } ≡ generated t p (change c) f
then-shown t x p c now d f change l e n k =
    let same : now ≡ c = n ∙ ap (λ y. content_at y.contents p) e ∙ content-kept t p c f l in
    rw (k, same, e, set-append_left (slice_set t.contents p c) (contents_of f) p (change c) (rw (length-set t.contents p c) l), set-set t.contents p c (change c)) refl

-- the content alone is changed
pub shown-alone : (t : PageTree) (p : ℕ) (d : MdContent) → record t { contents = slice_set t.contents p d } ≡ generated t p d no_nodes
shown-alone t p d = rw (append-nil t.parents, append-nil (slice_set t.contents p d)) refl

pub numbers-accepted : (ns : List ℕ) → too_large ns ≡ false → number_refusal ns ≡ None
numbers-accepted ns e = rw e refl

pub numbers-refused : (ns : List ℕ) (e : LayoutError) → refusal_fits (too_large ns) e → (layout_refusal e ≡ docs_error.OutOfMemory) ⊎ (number_refusal ns ≡ Some (layout_refusal e))
numbers-refused ns layout_error.TooLarge h = inr (rw h refl)
numbers-refused ns layout_error.OutOfMemory h = inl refl

pub ruleset grown_tree_rules = (branch-fits, branch-grown, numbers-accepted, numbers-refused)
