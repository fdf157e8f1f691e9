-- Records and variants by their heads: where these are alike, what lies in them is compared in order.
use Rattle.std.specs.Prelude.{◌≡◌, ℕ, suc, ◌+◌, ◌≤◌, ◌<◌, ◌≢◌, List, [], ◌∷◌, length, drop, Option, Some, None, Bool, true, false, option_map, ◌&&◌, if◌then◌else◌}
use Rattle.std.proofs.Common.{refl, sym, ◌∙◌, ap, get_or}
use Rattle.std.proofs.lemmas.Bool.{eqb-true}
use Rattle.witx_ast.specs.Plain.{Plain, plain, Fields, Arms}
use Rattle.witx_ast.specs.Views.{members_plain, cases_plain, tree_of, record_tree}
use Rattle.witx_base.specs.SameBytes.{same_bytes, both, false-true}
use Rattle.witx_ast.specs.contracts.types.RecordKindPartialEq.TheImpl as kinds
use Rattle.witx_ast.specs.declared.types.Case.{Case}
use Rattle.witx_ast.specs.declared.types.RecordDatatype.{RecordDatatype, out-RecordDatatype}
use Rattle.witx_ast.specs.declared.types.RecordMember.{RecordMember}
use Rattle.witx_ast.specs.declared.types.TypeRef.{TypeRef}
use Rattle.witx_ast.proofs.Parts.{cases-bare, cases-carries, cases-end, members-drop, members-end, record-plain}
use Rattle.witx_compat.specs.declared.answer.RepEquality.{RepEquality}
use Rattle.witx_compat.specs.Answers.{worse, is_same}
use Rattle.witx_compat.specs.Heads.{same_names, is_place, all_placed}
use Rattle.witx_compat.specs.Represents.{CasePlace, place_number, bare_at, carrying_at, last_case, last_place, represented, fields_same, cases_by, bare_by, carried_by}

-- names of members

pub same-count : (xs ys : List RecordMember) → same_names (members_plain xs) (members_plain ys) ≡ true → length xs ≡ length ys
same-count [] [] h = refl
same-count [] (y ∷ ys) h = absurd (false-true h)
same-count (x ∷ xs) [] h = absurd (false-true h)
same-count (x ∷ xs) (y ∷ ys) h = ap suc (same-count xs ys (both _ _ h).1)

by-test : (b : Bool) (xs ys : List RecordMember) → same_names (members_plain xs) (members_plain ys) ≡ b → length xs ≢ length ys → false ≡ b
by-test true xs ys e d = absurd (d (same-count xs ys e))
by-test false xs ys e d = refl

pub other-count : (xs ys : List RecordMember) → length xs ≢ length ys → false ≡ same_names (members_plain xs) (members_plain ys)
other-count xs ys d = by-test _ xs ys refl d

name-step : (xs ys : List RecordMember) (i : ℕ) (x y : RecordMember) (n : Bool) → i < length xs → i < length ys → x ≡ get_or xs i x → y ≡ get_or ys i y
    → same_names (members_plain (drop i xs)) (members_plain (drop i ys)) ≡ n
    → same_bytes x.name y.name && same_names (members_plain (drop (i + 1) xs)) (members_plain (drop (i + 1) ys)) ≡ n
name-step xs ys i x y n l m p q e = rw (members-drop xs i x l p, members-drop ys i y m q) at e

pub name-same : (xs ys : List RecordMember) (i : ℕ) (x y : RecordMember) (n : Bool) → i < length xs → i < length ys → x ≡ get_or xs i x → y ≡ get_or ys i y
    → same_bytes x.name y.name ≡ true
    → same_names (members_plain (drop i xs)) (members_plain (drop i ys)) ≡ n
    → same_names (members_plain (drop (i + 1) xs)) (members_plain (drop (i + 1) ys)) ≡ n
name-same xs ys i x y n l m p q t e = rw t at (name-step xs ys i x y n l m p q e)

pub name-other : (xs ys : List RecordMember) (i : ℕ) (x y : RecordMember) (n : Bool) → i < length xs → i < length ys → x ≡ get_or xs i x → y ≡ get_or ys i y
    → same_bytes x.name y.name ≡ false
    → same_names (members_plain (drop i xs)) (members_plain (drop i ys)) ≡ n
    → false ≡ n
name-other xs ys i x y n l m p q t e = rw t at (name-step xs ys i x y n l m p q e)

-- types of members

pub names-next : (xs ys : List RecordMember) (i : ℕ) (x y : RecordMember) → i < length xs → i < length ys → x ≡ get_or xs i x → y ≡ get_or ys i y
    → same_names (members_plain (drop i xs)) (members_plain (drop i ys)) ≡ true
    → same_names (members_plain (drop (i + 1) xs)) (members_plain (drop (i + 1) ys)) ≡ true
names-next xs ys i x y l m p q e = (both _ _ (name-step xs ys i x y true l m p q e)).1

type-step : (xs ys : List RecordMember) (i : ℕ) (x y : RecordMember) (n : Bool) → i < length xs → i < length ys → x ≡ get_or xs i x → y ≡ get_or ys i y
    → fields_same (members_plain (drop i xs)) (members_plain (drop i ys)) ≡ n
    → same_bytes x.name y.name && (is_same (represented (plain (tree_of x.tref)) (plain (tree_of y.tref))) && fields_same (members_plain (drop (i + 1) xs)) (members_plain (drop (i + 1) ys))) ≡ n
type-step xs ys i x y n l m p q e = rw (members-drop xs i x l p, members-drop ys i y m q) at e

both-named : (a b c n : Bool) → a ≡ true → b ≡ true → a && (b && c) ≡ n → c ≡ n
both-named true true c n h k e = e
both-named false b c n h k e = absurd (false-true h)
both-named true false c n h k e = absurd (false-true k)

named-lost : (a b c n : Bool) → b ≡ false → a && (b && c) ≡ n → false ≡ n
named-lost true false c n k e = e
named-lost false b c n k e = e
named-lost true true c n k e = absurd (false-true (sym k))

pub type-same : (xs ys : List RecordMember) (i : ℕ) (x y : RecordMember) (n : Bool) → i < length xs → i < length ys → x ≡ get_or xs i x → y ≡ get_or ys i y
    → same_names (members_plain (drop i xs)) (members_plain (drop i ys)) ≡ true
    → is_same (represented (plain (tree_of x.tref)) (plain (tree_of y.tref))) ≡ true
    → fields_same (members_plain (drop i xs)) (members_plain (drop i ys)) ≡ n
    → fields_same (members_plain (drop (i + 1) xs)) (members_plain (drop (i + 1) ys)) ≡ n
type-same xs ys i x y n l m p q h t e = both-named _ _ _ n (both _ _ (name-step xs ys i x y true l m p q h)).0 t (type-step xs ys i x y n l m p q e)

pub type-other : (xs ys : List RecordMember) (i : ℕ) (x y : RecordMember) (n : Bool) → i < length xs → i < length ys → x ≡ get_or xs i x → y ≡ get_or ys i y
    → is_same (represented (plain (tree_of x.tref)) (plain (tree_of y.tref))) ≡ false
    → fields_same (members_plain (drop i xs)) (members_plain (drop i ys)) ≡ n
    → false ≡ n
type-other xs ys i x y n l m p q t e = named-lost _ _ _ n t (type-step xs ys i x y n l m p q e)

pub all-same : (xs ys : List RecordMember) (i : ℕ) (n : Bool) → length xs ≤ i → length xs ≡ length ys
    → fields_same (members_plain (drop i xs)) (members_plain (drop i ys)) ≡ n → true ≡ n
all-same xs ys i n l k e = rw (members-end xs i l, members-end ys i (rw k at l)) at e

-- records

record-by : (a b : RecordDatatype) (t : Bool) → kinds.ghosts.eq (out-RecordDatatype a).kind (out-RecordDatatype b).kind && fields_same (members_plain (out-RecordDatatype a).members) (members_plain (out-RecordDatatype b).members) ≡ t
    → (if t then RepEquality.Eq else RepEquality.NotEq) ≡ represented (plain (record_tree a)) (plain (record_tree b))
record-by a b t h = rw (record-plain a, record-plain b) (ap (λ x. if x then RepEquality.Eq else RepEquality.NotEq) (sym h))

fields-named : (ms ns : Fields) → fields_same ms ns ≡ true → same_names ms ns ≡ true
fields-named Fields.no_fields Fields.no_fields h = refl
fields-named (Fields.field name t ms) (Fields.field other u ns) h =
    let p = both (same_bytes name other) (is_same (represented t u) && fields_same ms ns) h in
    rw (p.0, fields-named ms ns (both (is_same (represented t u)) (fields_same ms ns) p.1).1) refl
fields-named _ _ h = absurd (false-true h)

not-whole : (k f s : Bool) → (f ≡ true → s ≡ true) → k && s ≡ false → k && f ≡ false
not-whole true true s g h = absurd (false-true (sym h ∙ g refl))
not-whole true false s g h = refl
not-whole false f s g h = refl

and-false : (k f : Bool) → false ≡ f → k && f ≡ false
and-false true f h = sym h
and-false false f h = refl

and-true : (k f : Bool) → k ≡ true → true ≡ f → k && f ≡ true
and-true true f e h = sym h
and-true false f e h = absurd (false-true e)

abbrev pub HeadsAre : RecordDatatype → RecordDatatype → Bool → Type 0
HeadsAre a b t = kinds.ghosts.eq (out-RecordDatatype a).kind (out-RecordDatatype b).kind && same_names (members_plain (out-RecordDatatype a).members) (members_plain (out-RecordDatatype b).members) ≡ t

pub headed-other : (a b : RecordDatatype) → HeadsAre a b false → RepEquality.NotEq ≡ represented (plain (record_tree a)) (plain (record_tree b))
headed-other a b h =
    let ms = members_plain (out-RecordDatatype a).members in
    let ns = members_plain (out-RecordDatatype b).members in
    record-by a b false (not-whole (kinds.ghosts.eq (out-RecordDatatype a).kind (out-RecordDatatype b).kind) (fields_same ms ns) (same_names ms ns) (fields-named ms ns) h)

pub headed-names : (a b : RecordDatatype) (xs ys : List RecordMember) → xs ≡ (out-RecordDatatype a).members → ys ≡ (out-RecordDatatype b).members
    → HeadsAre a b true → same_names (members_plain xs) (members_plain ys) ≡ true
headed-names a b xs ys p q h =
    rw (p, q) (both (kinds.ghosts.eq (out-RecordDatatype a).kind (out-RecordDatatype b).kind) (same_names (members_plain (out-RecordDatatype a).members) (members_plain (out-RecordDatatype b).members)) h).1

pub record-lost : (a b : RecordDatatype) (xs ys : List RecordMember) → xs ≡ (out-RecordDatatype a).members → ys ≡ (out-RecordDatatype b).members
    → false ≡ fields_same (members_plain xs) (members_plain ys) → RepEquality.NotEq ≡ represented (plain (record_tree a)) (plain (record_tree b))
record-lost a b xs ys p q h =
    record-by a b false (and-false (kinds.ghosts.eq (out-RecordDatatype a).kind (out-RecordDatatype b).kind) (fields_same (members_plain (out-RecordDatatype a).members) (members_plain (out-RecordDatatype b).members)) (rw (p, q) at h))

pub record-kept : (a b : RecordDatatype) (xs ys : List RecordMember) → xs ≡ (out-RecordDatatype a).members → ys ≡ (out-RecordDatatype b).members
    → HeadsAre a b true → true ≡ fields_same (members_plain xs) (members_plain ys) → RepEquality.Eq ≡ represented (plain (record_tree a)) (plain (record_tree b))
record-kept a b xs ys p q k h =
    let ms = members_plain (out-RecordDatatype a).members in
    let ns = members_plain (out-RecordDatatype b).members in
    let same = kinds.ghosts.eq (out-RecordDatatype a).kind (out-RecordDatatype b).kind in
    record-by a b true (and-true same (fields_same ms ns) (both same (same_names ms ns) k).0 (rw (p, q) at h))

-- places of cases

placed-of : (xs : List Case) (i : ℕ) (c : Case) (by : Arms) (o : Option TypeRef) → c.tref ≡ o → i < length xs → c ≡ get_or xs i c
    → all_placed i (cases_plain (drop i xs)) by ≡ (is_place i (last_place c.name by) && all_placed (i + 1) (cases_plain (drop (i + 1) xs)) by)
placed-of xs i c by None h l p = rw (cases-bare xs i c l p h) refl
placed-of xs i c by (Some t) h l p = rw (cases-carries xs i c t l p h) refl

placed-step : (xs : List Case) (i : ℕ) (c : Case) (by : Arms) (n : Bool) → i < length xs → c ≡ get_or xs i c
    → all_placed i (cases_plain (drop i xs)) by ≡ n
    → is_place i (last_place c.name by) && all_placed (i + 1) (cases_plain (drop (i + 1) xs)) by ≡ n
placed-step xs i c by n l p e = sym (placed-of xs i c by _ refl l p) ∙ e

pub placed-next : (xs : List Case) (i : ℕ) (c : Case) (by : Arms) (n : Bool) → i < length xs → c ≡ get_or xs i c
    → is_place i (last_place c.name by) ≡ true
    → all_placed i (cases_plain (drop i xs)) by ≡ n → all_placed (i + 1) (cases_plain (drop (i + 1) xs)) by ≡ n
placed-next xs i c by n l p t e = rw t at (placed-step xs i c by n l p e)

pub misplaced-here : (xs : List Case) (i : ℕ) (c : Case) (by : Arms) (n : Bool) → i < length xs → c ≡ get_or xs i c
    → is_place i (last_place c.name by) ≡ false
    → all_placed i (cases_plain (drop i xs)) by ≡ n → false ≡ n
misplaced-here xs i c by n l p t e = rw t at (placed-step xs i c by n l p e)

pub placed-all : (xs : List Case) (i : ℕ) (by : Arms) (n : Bool) → length xs ≤ i → all_placed i (cases_plain (drop i xs)) by ≡ n → true ≡ n
placed-all xs i by n l e = rw (cases-end xs i l) at e

is-here : (i : ℕ) (o : Option ℕ) → is_place i o ≡ true → o ≡ Some i
is-here i None h = absurd (false-true h)
is-here i (Some j) h = let e = eqb-true i j h in rw e refl

pub placed-here : (xs : List Case) (i : ℕ) (c : Case) (by : Arms) → i < length xs → c ≡ get_or xs i c
    → all_placed i (cases_plain (drop i xs)) by ≡ true → last_place c.name by ≡ Some i
placed-here xs i c by l p e = is-here i _ (both _ _ (placed-step xs i c by true l p e)).0

pub placed-rest : (xs : List Case) (i : ℕ) (c : Case) (by : Arms) → i < length xs → c ≡ get_or xs i c
    → all_placed i (cases_plain (drop i xs)) by ≡ true → all_placed (i + 1) (cases_plain (drop (i + 1) xs)) by ≡ true
placed-rest xs i c by l p e = (both _ _ (placed-step xs i c by true l p e)).1

pub worse-refused : (a : RepEquality) → worse a RepEquality.NotEq ≡ RepEquality.NotEq
worse-refused RepEquality.Eq = refl
worse-refused RepEquality.Superset = refl
worse-refused RepEquality.NotEq = refl

bare-off : (i : ℕ) (o : Option CasePlace) → is_place i (option_map place_number o) ≡ false → bare_by i o ≡ RepEquality.NotEq
bare-off i None h = refl
bare-off i (Some (bare_at j)) h = rw h refl
bare-off i (Some (carrying_at j u)) h = rw h refl

carried-off : (f : Plain → RepEquality) (i : ℕ) (o : Option CasePlace) → is_place i (option_map place_number o) ≡ false → carried_by f i o ≡ RepEquality.NotEq
carried-off f i None h = refl
carried-off f i (Some (bare_at j)) h = refl
carried-off f i (Some (carrying_at j u)) h = rw h refl

either-off : (p q : Bool) (a b : RepEquality) → p && q ≡ false → (p ≡ false → a ≡ RepEquality.NotEq) → (q ≡ false → b ≡ RepEquality.NotEq) → worse a b ≡ RepEquality.NotEq
either-off true q a b h f g = rw (g h) (worse-refused a)
either-off false q a b h f g = rw (f refl) refl

-- where a case stands elsewhere, the answer is the worst
pub misplaced : (i : ℕ) (cs by : Arms) → all_placed i cs by ≡ false → cases_by i cs by ≡ RepEquality.NotEq
misplaced i Arms.no_arms by h = absurd (false-true (sym h))
misplaced i (Arms.bare name cs) by h =
    either-off (is_place i (last_place name by)) (all_placed (i + 1) cs by) _ _ h (bare-off i (last_case 0 name by)) (misplaced (i + 1) cs by)
misplaced i (Arms.carries name t cs) by h =
    either-off (is_place i (last_place name by)) (all_placed (i + 1) cs by) _ _ h (carried-off (λ u. represented t u) i (last_case 0 name by)) (misplaced (i + 1) cs by)
