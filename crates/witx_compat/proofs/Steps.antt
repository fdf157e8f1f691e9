-- Steps of the functions.
use Rattle.std.specs.Prelude.{◌≡◌, ℕ, zero, suc, ◌+◌, ◌≤◌, ◌<◌, List, [], ◌∷◌, length, drop, Option, Some, None, Bool, true, false, not, option_map, cond, ◌==◌, nat_lt}
use Rattle.std.proofs.Common.{refl, sym, ◌∙◌, ap, arith, rules, get_or}
use Rattle.std.specs.Ordering.{is_eq, nat_cmp}
use Rattle.std.specs.Cmp.Lexicographic.{slice_cmp}
use Rattle.std.specs.Bool.{one_answer}
use Rattle.witx_ast.specs.Plain.{Plain, plain, Arms, arm_count, plain_arms}
use Rattle.witx_ast.specs.Tree as arms
use Rattle.witx_ast.specs.Tree.{Tree, arm, behind}
use Rattle.std.proofs.lemmas.Bool.{ltb-true}
use Rattle.witx_ast.specs.declared.types.Variant.{Variant, out-Variant}
use Rattle.witx_ast.specs.Views.{cases_plain, tree_of, case_arm, datatype_tree, variant_tree}
use Rattle.witx_base.specs.SameBytes.{same_bytes, bytes-to, bytes-self, false-true}
use Rattle.witx_ast.specs.declared.types.Case.{Case}
use Rattle.witx_ast.specs.declared.types.Datatype.{Datatype}
use Rattle.witx_ast.specs.declared.types.TypeRef.{TypeRef}
use Rattle.witx_ast.proofs.EntryLaws.{key-decides}
use Rattle.witx_ast.proofs.Parts.{cases-bare, cases-carries, cases-end, members-drop, record-plain, variant-plain, count-cases}
use Rattle.witx_ast.proofs.Trees.{tree_rules}
use Rattle.witx_ast.proofs.TreeKinds.{plain-behind}
use Rattle.witx_base.specs.Found.{found}
use Rattle.witx_compat.specs.declared.answer.RepEquality.{RepEquality}
use Rattle.witx_compat.specs.Answers.{worse, is_refused, repr_by}
use Rattle.witx_compat.specs.Represents.{CasePlace, place_number, bare_at, carrying_at, last_case, last_place, later_of, only_if, number_if, represented, cases_by, case_by, payload_by, count_by}
use Rattle.witx_compat.specs.Heads.{all_placed, has_misplaced}
use Rattle.witx_compat.proofs.Heads.{placed-here, worse-refused, misplaced}
use Rattle.witx_compat.proofs.Standing.{standing, cases_from, found-there}
use Rattle.witx_compat.proofs.SameLaws.{builtin-alike, repr-alike, same-alike}

-- the table, and the search

-- what was found so far, and what is found in the cases from `i` on
abbrev pub last_from : Option ℕ → ℕ → List ℕ → Arms → Option ℕ
last_from found i name left = later_of found (option_map place_number (last_case i name left))

later-assoc : {A : Type 0} (a b c : Option A) → later_of a (later_of b c) ≡ later_of (later_of a b) c
later-assoc a b None = refl
later-assoc a b (Some c) = refl

later-map : (a b : Option CasePlace) → option_map place_number (later_of a b) ≡ later_of (option_map place_number a) (option_map place_number b)
later-map a None = refl
later-map a (Some b) = refl

bare-if : (b : Bool) (i : ℕ) → option_map place_number (only_if b (bare_at i)) ≡ number_if b i
bare-if true i = refl
bare-if false i = refl

carrying-if : (b : Bool) (i : ℕ) (t : Plain) → option_map place_number (only_if b (carrying_at i t)) ≡ number_if b i
carrying-if true i t = refl
carrying-if false i t = refl

case-of : (xs : List Case) (i : ℕ) (c : Case) (q : List ℕ) (f : Option ℕ) (o : Option TypeRef) → c.tref ≡ o → i < length xs → c ≡ get_or xs i c
    → last_from f i q (cases_plain (drop i xs)) ≡ last_from (later_of f (number_if (same_bytes q c.name) i)) (i + 1) q (cases_plain (drop (i + 1) xs))
case-of xs i c q f None h l p = rw (cases-bare xs i c l p h, later-map (only_if (same_bytes q c.name) (bare_at i)) (last_case (i + 1) q (cases_plain (drop (i + 1) xs))), bare-if (same_bytes q c.name) i) (later-assoc f _ _)
case-of xs i c q f (Some t) h l p = rw (cases-carries xs i c t l p h, later-map (only_if (same_bytes q c.name) (carrying_at i (plain (tree_of t)))) (last_case (i + 1) q (cases_plain (drop (i + 1) xs))), carrying-if (same_bytes q c.name) i (plain (tree_of t))) (later-assoc f _ _)

pub next-place : (xs : List Case) (i : ℕ) (c : Case) (q : List ℕ) (f : Option ℕ) → i < length xs → c ≡ get_or xs i c
    → last_from f i q (cases_plain (drop i xs)) ≡ last_from (later_of f (number_if (same_bytes q c.name) i)) (i + 1) q (cases_plain (drop (i + 1) xs))
next-place xs i c q f l p = case-of xs i c q f _ refl l p

key-bytes : (a q : List ℕ) → is_eq (slice_cmp nat_cmp a q) ≡ same_bytes q a
key-bytes a q = one_answer _ _ (key-decides a q) (λ h. sym (bytes-to q a h), λ e. self-bytes q a (sym e))
  where
    self-bytes : (x y : List ℕ) → x ≡ y → same_bytes x y ≡ true
    self-bytes x y e = rw (← e) (bytes-self x)

cond-later : (b : Bool) (i : ℕ) (f : Option ℕ) → cond b (Some i) f ≡ later_of f (number_if b i)
cond-later true i f = refl
cond-later false i f = refl

-- one more entry of the table
pub put-place : (xs : List Case) (i : ℕ) (c : Case) (old new : List (List ℕ × ℕ)) (n : List ℕ → Option ℕ) → i < length xs → c ≡ get_or xs i c
    → ((q : List ℕ) → found new q ≡ cond (is_eq (slice_cmp nat_cmp c.name q)) (Some i) (found old q))
    → ((q : List ℕ) → last_from (found old q) i q (cases_plain (drop i xs)) ≡ n q)
    → (q : List ℕ) → last_from (found new q) (i + 1) q (cases_plain (drop (i + 1) xs)) ≡ n q
put-place xs i c old new n l p put e q =
    ap (λ f. last_from f (i + 1) q (cases_plain (drop (i + 1) xs))) (put q ∙ ap (λ b. cond b (Some i) (found old q)) (key-bytes c.name q) ∙ cond-later (same_bytes q c.name) i (found old q))
    ∙ sym (next-place xs i c q (found old q) l p) ∙ e q

pub all-placed : (xs : List Case) (i : ℕ) (f : Option ℕ) (q : List ℕ) (n : Option ℕ) → length xs ≤ i → last_from f i q (cases_plain (drop i xs)) ≡ n → f ≡ n
all-placed xs i f q n l e = rw (cases-end xs i l) at e

-- one more case that is looked at
pub looked-at : (xs : List Case) (i : ℕ) (c : Case) (q : List ℕ) (f g n : Option ℕ) (b : Bool) → i < length xs → c ≡ get_or xs i c → b ≡ same_bytes q c.name
    → g ≡ later_of f (number_if b i)
    → last_from f i q (cases_plain (drop i xs)) ≡ n → last_from g (i + 1) q (cases_plain (drop (i + 1) xs)) ≡ n
looked-at xs i c q f g n b l p t k e =
    ap (λ m. last_from m (i + 1) q (cases_plain (drop (i + 1) xs))) (k ∙ ap (λ b. later_of f (number_if b i)) t) ∙ sym (next-place xs i c q f l p) ∙ e

-- cases

is-refused : (a : RepEquality) → is_refused a ≡ true → a ≡ RepEquality.NotEq
is-refused RepEquality.Eq h = absurd (false-true h)
is-refused RepEquality.Superset h = absurd (false-true h)
is-refused RepEquality.NotEq h = refl

worse-assoc : (a b c : RepEquality) → worse (worse a b) c ≡ worse a (worse b c)
worse-assoc a b c = search rules

case-step : (xs : List Case) (i : ℕ) (c : Case) (by : Arms) (o : Option TypeRef) → c.tref ≡ o → i < length xs → c ≡ get_or xs i c
    → cases_by i (cases_plain (drop i xs)) by
    ≡ worse (case_by i (option_map (λ t. plain (tree_of t)) o) (last_case 0 c.name by)) (cases_by (i + 1) (cases_plain (drop (i + 1) xs)) by)
case-step xs i c by None h l p = rw (cases-bare xs i c l p h) refl
case-step xs i c by (Some t) h l p = rw (cases-carries xs i c t l p h) refl

pub next-case : (xs : List Case) (i : ℕ) (c : Case) (by : Arms) (a n : RepEquality) → i < length xs → c ≡ get_or xs i c
    → worse a (cases_by i (cases_plain (drop i xs)) by) ≡ n
    → worse (worse a (case_by i (option_map (λ t. plain (tree_of t)) c.tref) (last_case 0 c.name by))) (cases_by (i + 1) (cases_plain (drop (i + 1) xs)) by) ≡ n
next-case xs i c by a n l p e = worse-assoc a _ _ ∙ ap (worse a) (sym (case-step xs i c by _ refl l p)) ∙ e

arm-from : (i : ℕ) (name docs : List ℕ) (o : Option Tree) (cs : arms.Arms) → cases_from (suc i) (plain_arms (arm name o docs cs)) ≡ cases_from i (plain_arms cs)
arm-from i name docs None cs = refl
arm-from i name docs (Some t) cs = refl

from-drop : (i : ℕ) (xs : List Case) → cases_from i (cases_plain xs) ≡ cases_plain (drop i xs)
from-drop zero xs = refl
from-drop (suc i) [] = refl
from-drop (suc i) (x ∷ xs) = arm-from i _ _ (case_arm x).payload _ ∙ from-drop i xs

record PlaceIs (o : Option CasePlace) (j : ℕ) : Type 0 where
  spot : CasePlace
  found : o ≡ Some spot
  there : place_number spot ≡ j

place-is : (o : Option CasePlace) (j : ℕ) → option_map place_number o ≡ Some j → PlaceIs o j
place-is None j h = absurd (none-is h)
  where
    none-is : {x : ℕ} → None ≡ Some x → ⊥
    none-is h = cc
place-is (Some p) j h = record { spot = p; found = refl; there = some-is h }
  where
    some-is : {x y : ℕ} → Some x ≡ Some y → x ≡ y
    some-is h = cc

no-standing : (p : CasePlace) (name : List ℕ) (rest : Arms) → Arms.no_arms ≡ standing p name rest → ⊥
no-standing (bare_at i) name rest h = cc
no-standing (carrying_at i t) name rest h = cc

stands-in : (by : List Case) (name : List ℕ) (j : ℕ) (p : CasePlace) → last_case 0 name (cases_plain by) ≡ Some p → place_number p ≡ j
    → cases_plain (drop j by) ≡ standing p name (cases_from (j + 1) (cases_plain by))
stands-in by name j p h e = sym (from-drop j by) ∙ found-there j name (cases_plain by) p e h

in-range-by : (by : List Case) (name : List ℕ) (j : ℕ) (b : Bool) → nat_lt j (length by) ≡ b → PlaceIs (last_case 0 name (cases_plain by)) j → j < length by
in-range-by by name j true t s = ltb-true j (length by) t
in-range-by by name j false t s =
    let past : length by ≤ j = grind (arith, t) in
    absurd (no-standing s.spot name _ (sym (cases-end by j past) ∙ stands-in by name j s.spot s.found s.there))

pub in-range : (by : List Case) (name : List ℕ) (j : ℕ) → last_place name (cases_plain by) ≡ Some j → j < length by
in-range by name j h = in-range-by by name j _ refl (place-is _ j h)

at-self : (i k : ℕ) → k ≡ i → (i == k) ≡ true
at-self i k e = grind (arith, e)

met : (i : ℕ) (o : Option Plain) (p : CasePlace) (c : Case) (t : Option TypeRef) (name : List ℕ) (rest others : Arms) → place_number p ≡ i → c.tref ≡ t
    → (t ≡ None → standing p name rest ≡ Arms.bare c.name others)
    → ((u : TypeRef) → t ≡ Some u → standing p name rest ≡ Arms.carries c.name (plain (tree_of u)) others)
    → payload_by o (option_map (λ t. plain (tree_of t)) t) ≡ case_by i o (Some p)
met i None (bare_at k) c None name rest others e h f g = rw (at-self i k e) refl
met i (Some t) (bare_at k) c None name rest others e h f g = refl
met i o (bare_at k) c (Some u) name rest others e h f g = absurd (bare-carries (g u refl))
  where
    bare-carries : {n m : List ℕ} {t : Plain} {cs ds : Arms} → Arms.bare n cs ≡ Arms.carries m t ds → ⊥
    bare-carries h = cc
met i o (carrying_at k v) c None name rest others e h f g = absurd (carries-bare (f refl))
  where
    carries-bare : {n m : List ℕ} {t : Plain} {cs ds : Arms} → Arms.carries m t ds ≡ Arms.bare n cs → ⊥
    carries-bare h = cc
met i None (carrying_at k v) c (Some u) name rest others e h f g = rw (at-self i k e) refl
met i (Some t) (carrying_at k v) c (Some u) name rest others e h f g = rw (at-self i k e, same-payload (g u refl)) refl
  where
    same-payload : {n m : List ℕ} {t u : Plain} {cs ds : Arms} → Arms.carries n t cs ≡ Arms.carries m u ds → t ≡ u
    same-payload h = cc

pub counterpart : (by : List Case) (i : ℕ) (c : Case) (name : List ℕ) (o : Option Plain) → c ≡ get_or by i c → last_place name (cases_plain by) ≡ Some i
    → payload_by o (option_map (λ t. plain (tree_of t)) c.tref) ≡ case_by i o (last_case 0 name (cases_plain by))
counterpart by i c name o p h =
    let s = place-is _ i h in
    let l = in-range by name i h in
    let e = stands-in by name i s.spot s.found s.there in
    met i o s.spot c c.tref name _ _ s.there refl (λ t. sym e ∙ cases-bare by i c l p t) (λ u t. sym e ∙ cases-carries by i c u l p t)
    ∙ ap (case_by i o) (sym s.found)

worse-eq : (a : RepEquality) → worse a RepEquality.Eq ≡ a
worse-eq RepEquality.Eq = refl
worse-eq RepEquality.Superset = refl
worse-eq RepEquality.NotEq = refl

-- the payloads of two cases that stand at one place
abbrev payloads : Case → Case → RepEquality
payloads x y = payload_by (option_map (λ t. plain (tree_of t)) x.tref) (option_map (λ t. plain (tree_of t)) y.tref)

at-place : (xs ys : List Case) (i : ℕ) (x y : Case) → i < length xs → x ≡ get_or xs i x → y ≡ get_or ys i y
    → all_placed i (cases_plain (drop i xs)) (cases_plain ys) ≡ true
    → payloads x y ≡ case_by i (option_map (λ t. plain (tree_of t)) x.tref) (last_case 0 x.name (cases_plain ys))
at-place xs ys i x y l p q h = counterpart ys i y x.name (option_map (λ t. plain (tree_of t)) x.tref) q (placed-here xs i x (cases_plain ys) l p h)

next-payload : (xs ys : List Case) (i : ℕ) (x y : Case) (a r n : RepEquality) → i < length xs → x ≡ get_or xs i x → y ≡ get_or ys i y
    → all_placed i (cases_plain (drop i xs)) (cases_plain ys) ≡ true
    → payloads x y ≡ r
    → worse a (cases_by i (cases_plain (drop i xs)) (cases_plain ys)) ≡ n
    → worse (worse a r) (cases_by (i + 1) (cases_plain (drop (i + 1) xs)) (cases_plain ys)) ≡ n
next-payload xs ys i x y a r n l p q h k e =
    ap (λ b. worse (worse a b) (cases_by (i + 1) (cases_plain (drop (i + 1) xs)) (cases_plain ys))) (sym k ∙ at-place xs ys i x y l p q h)
    ∙ next-case xs i x (cases_plain ys) a n l p e

both-carry : (o p : Option TypeRef) (t u : TypeRef) → o ≡ Some t → p ≡ Some u
    → payload_by (option_map (λ t. plain (tree_of t)) o) (option_map (λ t. plain (tree_of t)) p) ≡ represented (plain (tree_of t)) (plain (tree_of u))
both-carry o p t u h k = rw (h, k) refl

-- both cases have a payload
pub next-carried : (xs ys : List Case) (i : ℕ) (x y : Case) (t u : TypeRef) (a n : RepEquality) → i < length xs → x ≡ get_or xs i x → y ≡ get_or ys i y
    → all_placed i (cases_plain (drop i xs)) (cases_plain ys) ≡ true
    → x.tref ≡ Some t → y.tref ≡ Some u
    → worse a (cases_by i (cases_plain (drop i xs)) (cases_plain ys)) ≡ n
    → worse (worse a (represented (plain (tree_of t)) (plain (tree_of u)))) (cases_by (i + 1) (cases_plain (drop (i + 1) xs)) (cases_plain ys)) ≡ n
next-carried xs ys i x y t u a n l p q h j k e = next-payload xs ys i x y a _ n l p q h (both-carry x.tref y.tref t u j k) e

pub refused-carried : (xs ys : List Case) (i : ℕ) (x y : Case) (t u : TypeRef) (a n r : RepEquality) → i < length xs → x ≡ get_or xs i x → y ≡ get_or ys i y
    → all_placed i (cases_plain (drop i xs)) (cases_plain ys) ≡ true
    → x.tref ≡ Some t → y.tref ≡ Some u
    → worse a (cases_by i (cases_plain (drop i xs)) (cases_plain ys)) ≡ n
    → r ≡ worse a (represented (plain (tree_of t)) (plain (tree_of u)))
    → is_refused r ≡ true → r ≡ n
refused-carried xs ys i x y t u a n r l p q h j k e w f =
    let g = is-refused r f in
    let z = next-carried xs ys i x y t u a n l p q h j k e in
    g ∙ ap (λ b. worse b (cases_by (i + 1) (cases_plain (drop (i + 1) xs)) (cases_plain ys))) (sym g ∙ w) ∙ z

-- the old case alone has one
pub lost-payload : (xs ys : List Case) (i : ℕ) (x y : Case) (t : TypeRef) (a n : RepEquality) → i < length xs → x ≡ get_or xs i x → y ≡ get_or ys i y
    → all_placed i (cases_plain (drop i xs)) (cases_plain ys) ≡ true
    → x.tref ≡ Some t → y.tref ≡ None
    → worse a (cases_by i (cases_plain (drop i xs)) (cases_plain ys)) ≡ n → RepEquality.NotEq ≡ n
lost-payload xs ys i x y t a n l p q h j k e =
    ap (λ b. worse b (cases_by (i + 1) (cases_plain (drop (i + 1) xs)) (cases_plain ys))) (sym (worse-refused a))
    ∙ next-payload xs ys i x y a RepEquality.NotEq n l p q h (rw (j, k) refl) e

-- the other case alone has one
pub next-gained : (xs ys : List Case) (i : ℕ) (x y : Case) (u : TypeRef) (a n : RepEquality) → i < length xs → x ≡ get_or xs i x → y ≡ get_or ys i y
    → all_placed i (cases_plain (drop i xs)) (cases_plain ys) ≡ true
    → x.tref ≡ None → y.tref ≡ Some u
    → worse a (cases_by i (cases_plain (drop i xs)) (cases_plain ys)) ≡ n
    → worse (worse a RepEquality.Superset) (cases_by (i + 1) (cases_plain (drop (i + 1) xs)) (cases_plain ys)) ≡ n
next-gained xs ys i x y u a n l p q h j k e = next-payload xs ys i x y a RepEquality.Superset n l p q h (rw (j, k) refl) e

-- no case has one
pub next-bare : (xs ys : List Case) (i : ℕ) (x y : Case) (a n : RepEquality) → i < length xs → x ≡ get_or xs i x → y ≡ get_or ys i y
    → all_placed i (cases_plain (drop i xs)) (cases_plain ys) ≡ true
    → x.tref ≡ None → y.tref ≡ None
    → worse a (cases_by i (cases_plain (drop i xs)) (cases_plain ys)) ≡ n
    → worse a (cases_by (i + 1) (cases_plain (drop (i + 1) xs)) (cases_plain ys)) ≡ n
next-bare xs ys i x y a n l p q h j k e =
    ap (λ b. worse b (cases_by (i + 1) (cases_plain (drop (i + 1) xs)) (cases_plain ys))) (sym (worse-eq a))
    ∙ next-payload xs ys i x y a RepEquality.Eq n l p q h (rw (j, k) refl) e

pub all-cases : (xs : List Case) (i : ℕ) (by : Arms) (a n : RepEquality) → length xs ≤ i → worse a (cases_by i (cases_plain (drop i xs)) by) ≡ n → a ≡ n
all-cases xs i by a n l e = sym (worse-eq a) ∙ (rw (cases-end xs i l) at e)

variant-answer : (v w : Variant) → worse (repr_by (out-Variant v).tag_repr (out-Variant w).tag_repr)
    (worse (cases_by 0 (cases_plain (out-Variant v).cases) (cases_plain (out-Variant w).cases)) (count_by (length (out-Variant v).cases) (length (out-Variant w).cases)))
    ≡ represented (plain (variant_tree v)) (plain (variant_tree w))
variant-answer v w = rw (variant-plain v, variant-plain w, count-cases (out-Variant v).cases, count-cases (out-Variant w).cases) refl

worse-last : (t n c : RepEquality) → worse (worse t n) c ≡ worse t (worse c n)
worse-last t n c = search rules

-- the answer of the tags, and of the numbers of cases
abbrev pub IsHead : Variant → Variant → RepEquality → Type 0
IsHead v w a = a ≡ worse (repr_by (out-Variant v).tag_repr (out-Variant w).tag_repr) (count_by (length (out-Variant v).cases) (length (out-Variant w).cases))

pub variant-whole : (v w : Variant) (xs ys : List Case) (a : RepEquality) → xs ≡ (out-Variant v).cases → ys ≡ (out-Variant w).cases → IsHead v w a
    → worse a (cases_by 0 (cases_plain xs) (cases_plain ys)) ≡ represented (plain (variant_tree v)) (plain (variant_tree w))
variant-whole v w xs ys a p q e =
    let cases = cases_by 0 (cases_plain (out-Variant v).cases) (cases_plain (out-Variant w).cases) in
    let tags = repr_by (out-Variant v).tag_repr (out-Variant w).tag_repr in
    let count = count_by (length (out-Variant v).cases) (length (out-Variant w).cases) in
    rw (p, q) (ap (λ x. worse x cases) e ∙ worse-last tags count cases ∙ variant-answer v w)

pub refused-head : (v w : Variant) (a : RepEquality) → IsHead v w a → is_refused a ≡ true → a ≡ represented (plain (variant_tree v)) (plain (variant_tree w))
refused-head v w a e h =
    let q = is-refused a h in
    q ∙ ap (λ x. worse x (cases_by 0 (cases_plain (out-Variant v).cases) (cases_plain (out-Variant w).cases))) (sym q)
    ∙ variant-whole v w _ _ a refl refl e

pub misplaced-variant : (v w : Variant) → all_placed 0 (cases_plain (out-Variant v).cases) (cases_plain (out-Variant w).cases) ≡ false
    → RepEquality.NotEq ≡ represented (plain (variant_tree v)) (plain (variant_tree w))
misplaced-variant v w h =
    let count = count_by (length (out-Variant v).cases) (length (out-Variant w).cases) in
    let tags = repr_by (out-Variant v).tag_repr (out-Variant w).tag_repr in
    sym (worse-refused tags) ∙ ap (λ x. worse tags (worse x count)) (sym (misplaced 0 (cases_plain (out-Variant v).cases) (cases_plain (out-Variant w).cases) h)) ∙ variant-answer v w

was-not : (b : Bool) → not b ≡ true → b ≡ false
was-not true h = absurd (false-true h)
was-not false h = refl

pub misplaced-type : (a b : Plain) → has_misplaced a b ≡ true → RepEquality.NotEq ≡ represented a b
misplaced-type (Plain.variant_of tag cs) (Plain.variant_of other ds) h =
    let tags = repr_by tag other in
    let count = count_by (arm_count cs) (arm_count ds) in
    sym (worse-refused tags) ∙ ap (λ x. worse tags (worse x count)) (sym (misplaced 0 cs ds (was-not _ h)))
misplaced-type _ _ h = absurd (false-true h)

-- the answer of two types behind names is that of the names
pub looked-through : (a b : Datatype) (t u : TypeRef) (r : RepEquality) → r ≡ represented (plain (datatype_tree a)) (plain (datatype_tree b))
    → datatype_tree a ≡ behind (tree_of t) → datatype_tree b ≡ behind (tree_of u) → r ≡ represented (plain (tree_of t)) (plain (tree_of u))
looked-through a b t u r e h k = rw (h, k, plain-behind (tree_of t), plain-behind (tree_of u)) at e

pub alike-by : (a b : Plain) (r : RepEquality) → r ≡ represented a b → r ≡ RepEquality.Eq → a ≡ b
alike-by a b r e h = same-alike a b (sym e ∙ h)

pub ruleset answer_rules = (builtin-alike, repr-alike, same-alike)

pub ruleset place_rules = (put-place, all-placed, looked-at)

pub ruleset compat_rules = (tree_rules, record-plain, variant-plain, plain-behind, same-alike)
