-- Nodes that are added one after the other are all of them in order, and nodes that are added below one that was just
-- added stand below it.
use Rattle.std.specs.Prelude.{◌≡◌, ℕ, ◌+◌, [], ◌∷◌, ◌++◌, length, Some, Result, Ok, Err, OnOk}
use Rattle.std.proofs.Common.{arith, refl, sym, ap, ◌∙◌, append_assoc, append-nil, length-append}
use Rattle.witx_markdown.specs.declared.content.MdContent.{MdContent}
use Rattle.witx_markdown.specs.declared.branch.Branch.{Branch}
use Rattle.witx_markdown.specs.Forests.{Forest, no_nodes, node, lone_node, followed_by, contents_of, node_count, parents_from, next_number, sprouted}

pub count-contents : (f : Forest) → length (contents_of f) ≡ node_count f
count-contents no_nodes = refl
count-contents (node c below next) = omega (arith, length-append (contents_of below) (contents_of next), count-contents below, count-contents next)

pub contents-followed : (f g : Forest) → contents_of (followed_by f g) ≡ contents_of f ++ contents_of g
contents-followed no_nodes g = refl
contents-followed (node c below next) g = ap (λ cs. c ∷ cs) (ap (λ cs. contents_of below ++ cs) (contents-followed next g) ∙ sym (append_assoc (contents_of below) (contents_of next) (contents_of g)))

pub count-followed : (f g : Forest) → node_count (followed_by f g) ≡ node_count f + node_count g
count-followed no_nodes g = omega arith
count-followed (node c below next) g = omega (arith, count-followed next g)

parents-followed : (n p : ℕ) (f g : Forest) → parents_from n p (followed_by f g) ≡ parents_from n p f ++ parents_from (n + node_count f) p g
parents-followed n p no_nodes g = let e : n + 0 ≡ n = omega arith in rw e refl
parents-followed n p (node c below next) g =
    let e : ((n + 1) + node_count below) + node_count next ≡ n + ((node_count below + node_count next) + 1) = omega arith in
    let h = parents-followed ((n + 1) + node_count below) p next g in
    rw (h, e) (ap (λ ps. Some p ∷ ps) (sym (append_assoc (parents_from (n + 1) n below) (parents_from ((n + 1) + node_count below) p next) (parents_from (n + ((node_count below + node_count next) + 1)) p g))))

followed-end : (f : Forest) → followed_by f no_nodes ≡ f
followed-end no_nodes = refl
followed-end (node c below next) = ap (λ n. node c below n) (followed-end next)

-- nothing more
pub sprouted-none : (b : Branch) (p : ℕ) → sprouted b p no_nodes ≡ b
unfolding sprouted
sprouted-none b p = rw (append-nil b.parents, append-nil b.contents) refl

-- one after the other
pub sprouted-followed : (b : Branch) (p : ℕ) (f g : Forest) → sprouted (sprouted b p f) p g ≡ sprouted b p (followed_by f g)
unfolding sprouted
sprouted-followed b p f g =
    let n : b.first + length (b.contents ++ contents_of f) ≡ (b.first + length b.contents) + node_count f =
    omega (arith, length-append b.contents (contents_of f), count-contents f) in
    rw (
      n,
      parents-followed (b.first + length b.contents) p f g,
      contents-followed f g,
      append_assoc b.parents (parents_from (b.first + length b.contents) p f) (parents_from ((b.first + length b.contents) + node_count f) p g),
      append_assoc b.contents (contents_of f) (contents_of g),
    ) refl

-- below what was just added
pub sprouted-node : (b : Branch) (p : ℕ) (c : MdContent) (below : Forest) → sprouted (sprouted b p (lone_node c)) (next_number b) below ≡ sprouted b p (node c below no_nodes)
unfolding sprouted
sprouted-node b p c below =
    let n : b.first + length (b.contents ++ c ∷ []) ≡ (b.first + length b.contents) + 1 = omega (arith, length-append b.contents (c ∷ [])) in
    rw (
      n,
      append_assoc b.parents (Some p ∷ []) (parents_from ((b.first + length b.contents) + 1) (b.first + length b.contents) below),
      append_assoc b.contents (c ∷ []) (contents_of below),
      append-nil (parents_from ((b.first + length b.contents) + 1) (b.first + length b.contents) below),
      append-nil (contents_of below),
    ) refl

pub sprouted-three : (b : Branch) (p : ℕ) (f g h : Forest) → sprouted (sprouted (sprouted b p f) p g) p h ≡ sprouted b p (followed_by f (followed_by g h))
sprouted-three b p f g h = sprouted-followed (sprouted b p f) p g h ∙ sprouted-followed b p f (followed_by g h)

pub sprouted-four : (b : Branch) (p : ℕ) (f g h k : Forest) → sprouted (sprouted (sprouted (sprouted b p f) p g) p h) p k ≡ sprouted b p (followed_by f (followed_by g (followed_by h k)))
sprouted-four b p f g h k = sprouted-followed (sprouted (sprouted b p f) p g) p h k ∙ sprouted-three b p f g (followed_by h k)

-- what a branch then holds
pub sprouted-contents : (b : Branch) (p : ℕ) (f : Forest) → (sprouted b p f).contents ≡ b.contents ++ contents_of f
unfolding sprouted
sprouted-contents b p f = refl

-- two nodes with what stands below each
pub sprouted-two : (b : Branch) (p : ℕ) (c d : MdContent) (f g : Forest)
    → sprouted (sprouted (sprouted (sprouted b p (lone_node c)) (next_number b) f) p (lone_node d)) (next_number (sprouted (sprouted b p (lone_node c)) (next_number b) f)) g
    ≡ sprouted b p (node c f (node d g no_nodes))
sprouted-two b p c d f g =
    sprouted-node (sprouted (sprouted b p (lone_node c)) (next_number b) f) p d g
    ∙ ap (λ x. sprouted x p (node d g no_nodes)) (sprouted-node b p c f)
    ∙ sprouted-followed b p (node c f no_nodes) (node d g no_nodes)

-- what an answer leaves, read another way
pub then-sprouted : {A E : Type 0} (r : Result A E) (x y z : Branch) → OnOk r (x ≡ y) → y ≡ z → OnOk r (x ≡ z)
then-sprouted (Ok v) x y z h e = h ∙ e
then-sprouted (Err v) x y z h e = tt

-- two sections, each with what is added below its number
pub two-groups : {A E : Type 0} (b one two three four : Branch) (p i j : ℕ) (c d : MdContent) (f g : Forest) (r : Result A E)
    → i ≡ next_number b → one ≡ sprouted b p (lone_node c) → two ≡ sprouted one i f
    → j ≡ next_number two → three ≡ sprouted two p (lone_node d) → OnOk r (four ≡ sprouted three j g)
    → OnOk r (four ≡ sprouted b p (node c f (node d g no_nodes)))
two-groups b one two three four p i j c d f g r number first below other second h =
    then-sprouted r four _ _ h (rw (second, other, below, first, number) (sprouted-two b p c d f g))

pub ruleset grown_rules = (sprouted-none, sprouted-followed, sprouted-node, sprouted-three, sprouted-four, sprouted-two)
