-- Names that stand before, and refusals.
use Rattle.std.specs.Prelude.{◌≡◌, ℕ, ◌+◌, ◌≤◌, ◌<◌, List, [], ◌∷◌, ◌++◌, map, length, take, drop, Option, Some, None, Bool, true, false, cond, is_some, option_map, ◌||◌}
use Rattle.std.specs.List.{list_any}
use Rattle.std.proofs.Common.{refl, sym, ◌∙◌, ap, subst, get_or}
use Rattle.std.proofs.Math.Bool.{or-false, or-true}
use Rattle.std.proofs.lemmas.List.{drop_more, drop_all, take_more, map-append}
use Rattle.std.proofs.lemmas.List.Folds.{list_any-append}
use Rattle.std.proofs.lemmas.Option.{none-some}
use Rattle.witx_base.specs.SameBytes.{same_bytes}
use Rattle.witx_ast.specs.Functions.{param_field}
use Rattle.witx_ast.specs.declared.function.InterfaceFuncParam.{InterfaceFuncParam}
use Rattle.witx_shim.specs.Refusals.{ShimRefusal, repeated, repeated_after, repeated_param, IsShimRefusal, first_refusal_of}
use Rattle.witx_shim.specs.declared.error.ShimError.{ShimError}

abbrev pub names_of : List InterfaceFuncParam → List (List ℕ)
names_of ps = map (λ p. p.name) ps

fields-names : (ps : List InterfaceFuncParam) → map (λ p. p.called) (map param_field ps) ≡ names_of ps
fields-names [] = refl
fields-names (p ∷ ps) = ap (λ ns. p.name ∷ ns) (fields-names ps)

pub repeated-names : (ps : List InterfaceFuncParam) → repeated_param (map param_field ps) ≡ repeated_after [] (names_of ps)
repeated-names ps = ap (repeated_after []) (fields-names ps)

one-more : (xs : List InterfaceFuncParam) (i : ℕ) (x : InterfaceFuncParam) → i < length xs → x ≡ get_or xs i x → names_of (take (i + 1) xs) ≡ names_of (take i xs) ++ x.name ∷ []
one-more xs i x l p = ap names_of (take_more xs i x l) ∙ map-append (λ p. p.name) (take i xs) (get_or xs i x ∷ []) ∙ ap (λ y. names_of (take i xs) ++ y.name ∷ []) (sym p)

-- what is tested at one more name
pub next-name : (xs : List InterfaceFuncParam) (i : ℕ) (x : InterfaceFuncParam) (whole : Option (List ℕ)) → i < length xs → x ≡ get_or xs i x
    → list_any (λ b. same_bytes b x.name) (names_of (take i xs)) ≡ false
    → repeated_after (names_of (take i xs)) (names_of (drop i xs)) ≡ whole
    → repeated_after (names_of (take (i + 1) xs)) (names_of (drop (i + 1) xs)) ≡ whole
next-name xs i x whole l p f h =
    ap (λ b. repeated_after b (names_of (drop (i + 1) xs))) (one-more xs i x l p) ∙ (rw (drop_more xs i x l, ← p, f) at h)

pub met-name : (xs : List InterfaceFuncParam) (i : ℕ) (x : InterfaceFuncParam) (whole : Option (List ℕ)) → i < length xs → x ≡ get_or xs i x
    → list_any (λ b. same_bytes b x.name) (names_of (take i xs)) ≡ true
    → repeated_after (names_of (take i xs)) (names_of (drop i xs)) ≡ whole → whole ≡ Some x.name
met-name xs i x whole l p f h = sym (rw (drop_more xs i x l, ← p, f) at h)

pub no-name : (xs : List InterfaceFuncParam) (i : ℕ) (whole : Option (List ℕ)) → length xs ≤ i
    → repeated_after (names_of (take i xs)) (names_of (drop i xs)) ≡ whole → whole ≡ None
no-name xs i whole l h = sym (rw (drop_all i xs l) at h)

some-cond : {A : Type 0} (b : Bool) (a : A) (o : Option A) → is_some (cond b (Some a) o) ≡ is_some o || b
some-cond true a o = sym (or-true (is_some o))
some-cond false a o = sym (or-false (is_some o))

-- the table has one more name
pub next-seen : {A : Type 0} (xs : List InterfaceFuncParam) (i : ℕ) (x : InterfaceFuncParam) (old new : Option A) (a : A) (q : List ℕ) → i < length xs → x ≡ get_or xs i x
    → new ≡ cond (same_bytes x.name q) (Some a) old → is_some old ≡ list_any (λ b. same_bytes b q) (names_of (take i xs))
    → is_some new ≡ list_any (λ b. same_bytes b q) (names_of (take (i + 1) xs))
next-seen xs i x old new a q l p n e =
    ap is_some n ∙ some-cond (same_bytes x.name q) a old ∙ ap (λ b. b || same_bytes x.name q) e
    ∙ ap (λ b. list_any (λ b. same_bytes b q) (names_of (take i xs)) || b) (sym (or-false (same_bytes x.name q)))
    ∙ sym (list_any-append (λ b. same_bytes b q) (names_of (take i xs)) (x.name ∷ []))
    ∙ ap (list_any (λ b. same_bytes b q)) (sym (one-more xs i x l p))

-- ---- refusals

-- an error that no refusal is behind may stand for any
pub free-error : (refusal : Option ShimRefusal) (e : ShimError) → IsShimRefusal None e → IsShimRefusal refusal e
free-error refusal (ShimError.Repeated name) h = absurd (none-some _ h)
free-error refusal ShimError.NotCompatible h = absurd (none-some _ h)
free-error refusal ShimError.OtherAbi h = absurd (none-some _ h)
free-error refusal (ShimError.OldUnlowerable place) h = absurd (none-some _ h)
free-error refusal (ShimError.NewUnlowerable place) h = absurd (none-some _ h)
free-error refusal ShimError.OutOfMemory h = tt

pub says-memory : (refusal : Option ShimRefusal) (e : ShimError) → e ≡ ShimError.OutOfMemory → IsShimRefusal refusal e
says-memory refusal e h = rw h tt

refused-by : (b : Bool) (name : List ℕ) (whole : Option (List ℕ)) (e : ShimError) → (b ≡ true → whole ≡ Some name) → IsShimRefusal (cond b (Some (repeated name)) None) e
    → IsShimRefusal (option_map repeated whole) e
refused-by true name whole e k h = subst (λ w. IsShimRefusal (option_map repeated w) e) (sym (k refl)) h
refused-by false name whole e k h = free-error (option_map repeated whole) e h

-- the refusal of a name that the table has already
pub refused-name : (xs : List InterfaceFuncParam) (i : ℕ) (x : InterfaceFuncParam) (b : Bool) (whole : Option (List ℕ)) (e : ShimError) → i < length xs → x ≡ get_or xs i x
    → b ≡ list_any (λ b. same_bytes b x.name) (names_of (take i xs))
    → repeated_after (names_of (take i xs)) (names_of (drop i xs)) ≡ whole
    → IsShimRefusal (cond b (Some (repeated x.name)) None) e → IsShimRefusal (option_map repeated whole) e
refused-name xs i x b whole e l p s h r = refused-by b x.name whole e (λ t. met-name xs i x whole l p (sym s ∙ t) h) r

-- a name that isn't refused is new
pub fresh-name : (b : Bool) (refusal : ShimRefusal) → cond b (Some refusal) None ≡ None → b ≡ false
fresh-name true refusal h = absurd (none-some refusal (sym h))
fresh-name false refusal h = refl

-- the first of several: what is behind those that hold not
pub behind : (o : Option ShimRefusal) (rest : List (Option ShimRefusal)) → o ≡ None → first_refusal_of (o ∷ rest) ≡ first_refusal_of rest
behind o rest h = rw h refl

pub refused-first : (o : Option ShimRefusal) (rest : List (Option ShimRefusal)) (e : ShimError) → IsShimRefusal o e → IsShimRefusal (first_refusal_of (o ∷ rest)) e
refused-first None rest e h = free-error (first_refusal_of rest) e h
refused-first (Some refusal) rest e h = h

pub refused-behind : (o : Option ShimRefusal) (rest : List (Option ShimRefusal)) (e : ShimError) → o ≡ None → IsShimRefusal (first_refusal_of rest) e → IsShimRefusal (first_refusal_of (o ∷ rest)) e
refused-behind o rest e n h = rw n h

pub ruleset refusal_rules = (says-memory)

pub ruleset name_rules = (repeated-names, next-name, no-name, next-seen, refused-name, fresh-name)
