-- Which ids are known, once they are put into a set one by one.
use Rattle.std.specs.Prelude.{◌≡◌, ℕ, ◌+◌, ◌<◌, List, [], ◌∷◌, Bool, true, false, ◌||◌, length, drop, Option, Some, None, is_some, cond, option_map}
use Rattle.std.specs.List.{list_any}
use Rattle.std.specs.Ordering.{is_eq, nat_cmp}
use Rattle.std.specs.Cmp.Lexicographic.{slice_cmp}
use Rattle.std.specs.Map.{keys_of}
use Rattle.std.proofs.Common.{get_or, refl, sym, ap, ◌∙◌}
use Rattle.std.proofs.lemmas.List.{drop_more}
use Rattle.witx_base.specs.Found.{found}
use Rattle.witx_base.specs.Texts.{same_text}
use Rattle.std.proofs.lemmas.Map.Text.{is_eq-slice_cmp}
use Rattle.witx_ast.proofs.EntryLaws.{key-swap}
use Rattle.witx_markdown.specs.declared.content.MdContent.{MdContent}
use Rattle.witx_markdown.specs.Contents.{content_id}
use Rattle.witx_markdown.specs.Links.{ids}

key-same : (a b : List ℕ) → is_eq (slice_cmp nat_cmp a b) ≡ same_text a b
unfolding same_text
key-same a b = is_eq-slice_cmp a b

found-step : {V : Type 0} (key test : Bool) (v : V) (o : Option V) (rest : Bool) → key ≡ test → is_some o ≡ rest → is_some (cond key (Some v) o) ≡ test || rest
found-step true test v o rest e h = rw (← e) refl
found-step false test v o rest e h = rw (← e) h

-- a name is found exactly where it is among the keys
pub any-found : {V : Type 0} (es : List (List ℕ × V)) (q : List ℕ) → is_some (found es q) ≡ list_any (same_text q) (keys_of es)
any-found [] q = refl
any-found (e ∷ es) q = found-step (is_eq (slice_cmp nat_cmp q e.0)) (same_text q e.0) e.1 (found es q) (list_any (same_text q) (keys_of es)) (key-same q e.0) (any-found es q)

text-swap : (a b : List ℕ) → same_text a b ≡ same_text b a
text-swap a b = sym (key-same a b) ∙ key-swap a b ∙ key-same b a

or-moved : (s a b : Bool) → (s || a) || b ≡ a || (s || b)
or-moved true true b = refl
or-moved true false b = refl
or-moved false a b = refl

-- one more id, or a content without one
pub next-id : (cs : List MdContent) (i : ℕ) (c : MdContent) (old new : List (List ℕ × Unit {0})) (x q : List ℕ) (all : Bool) → i < length cs → c ≡ get_or cs i c
    → content_id c ≡ Some x → found new q ≡ cond (is_eq (slice_cmp nat_cmp x q)) (Some tt) (found old q)
    → list_any (same_text q) (keys_of old) || list_any (same_text q) (ids (drop i cs)) ≡ all
    → list_any (same_text q) (keys_of new) || list_any (same_text q) (ids (drop (i + 1) cs)) ≡ all
next-id cs i c old new x q all l p e f h =
    let k : list_any (same_text q) (keys_of new) ≡ same_text q x || list_any (same_text q) (keys_of old) =
    sym (any-found new q) ∙ ap is_some f
    ∙ found-step (is_eq (slice_cmp nat_cmp x q)) (same_text q x) tt (found old q) (list_any (same_text q) (keys_of old)) (key-same x q ∙ text-swap x q) (any-found old q) in
    rw k (or-moved (same_text q x) (list_any (same_text q) (keys_of old)) (list_any (same_text q) (ids (drop (i + 1) cs))) ∙ (rw (drop_more cs i c l, ← p, e) at h))

pub known-there : {V : Type 0} (es : List (List ℕ × V)) (q : List ℕ) (b : Bool) → is_some (found es q) ≡ b → list_any (same_text q) (keys_of es) ≡ b
known-there es q b e = sym (any-found es q) ∙ e

some-mapped : {A B : Type 0} (f : A → B) (o : Option A) → is_some (option_map f o) ≡ is_some o
some-mapped f None = refl
some-mapped f (Some x) = refl

-- a name that is found is there
pub found-there : {A V : Type 0} (f : A → V) (es : List (List ℕ × V)) (q id : List ℕ) (o : Option A) → id ≡ q → option_map f o ≡ found es id → is_some o ≡ true
    → list_any (same_text q) (keys_of es) ≡ true
found-there f es q id o e g h = sym (any-found es q) ∙ ap (λ x. is_some (found es x)) (sym e) ∙ ap is_some (sym g) ∙ some-mapped f o ∙ h

pub ruleset known_rules = (known-there)
