-- One more of many: its nodes stand before those of the others, and so do its numbers.
use Rattle.std.specs.Prelude.{◌≡◌, ℕ, ◌+◌, ◌≤◌, ◌<◌, List, Bool, true, false, length, drop, map}
use Rattle.std.specs.List.{AllByRecursion, flat_map}
use Rattle.std.proofs.Common.{get_or, sym, ◌∙◌}
use Rattle.std.proofs.lemmas.List.{drop_more, drop_all}
use Rattle.witx_markdown.specs.declared.branch.Branch.{Branch}
use Rattle.witx_markdown.specs.Forests.{Forest, each, sprouted}
use Rattle.witx_docs.specs.LaidOut.{too_large}
use Rattle.witx_docs.proofs.Grown.{sprouted-followed, sprouted-none}
use Rattle.witx_docs.proofs.Judging.{next-fits, next-large, large-none}

pub next-each : {X Y : Type 0} (f : X → Forest) (g : Y → X) (b : Branch) (p : ℕ) (all : Branch) (ys : List Y) (i : ℕ) (y : Y) → i < length ys → y ≡ get_or ys i y
    → sprouted b p (each f (map g (drop i ys))) ≡ all → sprouted (sprouted b p (f (g y))) p (each f (map g (drop (i + 1) ys))) ≡ all
next-each f g b p all ys i y s q e = sprouted-followed b p (f (g y)) (each f (map g (drop (i + 1) ys))) ∙ rw (drop_more ys i y s, ← q) at e

pub all-each : {X Y : Type 0} (f : X → Forest) (g : Y → X) (b : Branch) (p : ℕ) (all : Branch) (ys : List Y) (i : ℕ) → length ys ≤ i
    → sprouted b p (each f (map g (drop i ys))) ≡ all → b ≡ all
all-each f g b p all ys i s e = sym (sprouted-none b p) ∙ rw (drop_all i ys s) at e

pub next-fit : {X Y : Type 0} (f : X → List ℕ) (g : Y → X) (all : Bool) (ys : List Y) (i : ℕ) (y : Y) → i < length ys → y ≡ get_or ys i y
    → too_large (flat_map f (map g (drop i ys))) ≡ all → too_large (f (g y)) ≡ false → too_large (flat_map f (map g (drop (i + 1) ys))) ≡ all
next-fit f g all ys i y s q e h = next-fits (f (g y)) (flat_map f (map g (drop (i + 1) ys))) all (rw (drop_more ys i y s, ← q) at e) h

pub one-large : {X Y : Type 0} (f : X → List ℕ) (g : Y → X) (all : Bool) (ys : List Y) (i : ℕ) (y : Y) → i < length ys → y ≡ get_or ys i y
    → too_large (flat_map f (map g (drop i ys))) ≡ all → too_large (f (g y)) ≡ true → all ≡ true
one-large f g all ys i y s q e h = next-large (f (g y)) (flat_map f (map g (drop (i + 1) ys))) all (rw (drop_more ys i y s, ← q) at e) h

pub all-fit : {X Y : Type 0} (f : X → List ℕ) (g : Y → X) (all : Bool) (ys : List Y) (i : ℕ) → length ys ≤ i → too_large (flat_map f (map g (drop i ys))) ≡ all → all ≡ false
all-fit f g all ys i s e = sym (rw (drop_all i ys s) at e) ∙ large-none

-- what holds of each holds of the next one, and of those left
pub this-holds : {X Y : Type 0} (P : X → Type 0) (g : Y → X) (ys : List Y) (i : ℕ) (y : Y) → i < length ys → y ≡ get_or ys i y
    → AllByRecursion P (map g (drop i ys)) → P (g y)
this-holds P g ys i y s q h = (rw (drop_more ys i y s, ← q) at h).0

pub left-hold : {X Y : Type 0} (P : X → Type 0) (g : Y → X) (ys : List Y) (i : ℕ) (y : Y) → i < length ys → y ≡ get_or ys i y
    → AllByRecursion P (map g (drop i ys)) → AllByRecursion P (map g (drop (i + 1) ys))
left-hold P g ys i y s q h = (rw (drop_more ys i y s) at h).1
