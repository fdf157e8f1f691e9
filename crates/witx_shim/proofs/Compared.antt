-- What full compatibility says, parameter by parameter and of the results.
use Rattle.std.specs.Prelude.{◌≡◌, ℕ, ◌==◌, List, [], ◌∷◌, ◌++◌, map, length, Option, Some, None, Bool, true, false, ◌&&◌, is_some, option_map}
use Rattle.std.specs.List.{list_all, cons_option}
use Rattle.std.proofs.Common.{refl, sym, ◌∙◌, ap, arith}
use Rattle.std.proofs.lemmas.Bool.{eqb-true}
use Rattle.std.proofs.lemmas.Option.{none-some}
use Rattle.witx_ast.specs.Tree.{Tree, Field}
use Rattle.witx_ast.specs.Plain.{Plain, plain}
use Rattle.witx_base.specs.SameBytes.{same_bytes, bytes-to, both}
use Rattle.witx_compat.specs.Answers.{is_same}
use Rattle.witx_compat.specs.Represents.{represented}
use Rattle.witx_compat.specs.Conversions.{Unknown, targets, or_both, converted, param_mapped, result_mapped, is_compatible, of_new}
use Rattle.witx_compat.specs.Polyfills.{first_called, prefer, mapped_params, mapped_results, when_none, without, params_unknown, results_unknown}
use Rattle.witx_compat.proofs.SameLaws.{is-same, same-alike}
use Rattle.witx_machine.specs.Shims.{Alike}

-- ---- the types behind a conversion

abbrev the : {A : Type 0} → A → Option A → A
the other None = other
the other (Some x) = x

pub some-same : {A : Type 0} (x y : A) → Some x ≡ Some y → x ≡ y
some-same x y h = ap (the x) h

-- where targets are alike, so are the types
targets-alike : (a b : Tree) (p : Tree × Tree) → targets a b ≡ Some p → plain p.0 ≡ plain p.1 → plain a ≡ plain b
targets-alike (Tree.list_of a) (Tree.list_of b) p h e = let q = some-same (a, b) p h in ap Plain.list_of (ap (λ r. plain r.0) q ∙ e ∙ ap (λ r. plain r.1) (sym q))
targets-alike (Tree.pointer_to a) (Tree.pointer_to b) p h e = let q = some-same (a, b) p h in ap Plain.pointer_to (ap (λ r. plain r.0) q ∙ e ∙ ap (λ r. plain r.1) (sym q))
targets-alike (Tree.const_pointer_to a) (Tree.const_pointer_to b) p h e = let q = some-same (a, b) p h in ap Plain.const_pointer_to (ap (λ r. plain r.0) q ∙ e ∙ ap (λ r. plain r.1) (sym q))
targets-alike _ _ p h e = absurd (none-some p h)

or-alike : (a b : Tree) (o : Option (Tree × Tree)) → targets a b ≡ o → plain (or_both a b o).0 ≡ plain (or_both a b o).1 → plain a ≡ plain b
or-alike a b None h e = e
or-alike a b (Some p) h e = targets-alike a b p h e

converted-alike : (a b : Tree) → plain (converted a b).0 ≡ plain (converted a b).1 → plain a ≡ plain b
converted-alike a b e = or-alike a b (targets a b) refl e

same-plain : (a b : Plain) → is_same (represented a b) ≡ true → a ≡ b
same-plain a b h = same-alike a b (is-same (represented a b) h)

pub param-alike : (new old : Field) → is_compatible (param_mapped new old) ≡ true → plain old.tree ≡ plain new.tree
param-alike new old h = converted-alike old.tree new.tree (sym (same-plain (plain (converted old.tree new.tree).1) (plain (converted old.tree new.tree).0) (both _ _ h).1))

pub result-alike : (new old : Field) → is_compatible (result_mapped new old) ≡ true → plain old.tree ≡ plain new.tree
result-alike new old h = sym (converted-alike new.tree old.tree (sym (same-plain (plain (converted new.tree old.tree).1) (plain (converted new.tree old.tree).0) (both _ _ h).1)))

-- ---- parameters by name

-- this holds of each field
abbrev pub Each : (Field → Type 0) → List Field → Type 0
Each P [] = Unit {0}
Each P (f ∷ fs) = P f × Each P fs

nil-none : (o : Option Field) (u : Unknown) (us : List Unknown) → when_none o u ++ us ≡ [] → (is_some o ≡ true) × (us ≡ [])
nil-none None u us h = absurd (cc)
nil-none (Some f) u us h = (refl, h)

pub none-unknown : (u : Field → Unknown) (others fs : List Field) → without u others fs ≡ [] → Each (λ f. is_some (first_called f.called others) ≡ true) fs
none-unknown u others [] h = tt
none-unknown u others (f ∷ fs) h = let p = nil-none (first_called f.called others) (u f) (without u others fs) h in (p.0, none-unknown u others fs p.1)

both-nil : (us vs : List Unknown) → us ++ vs ≡ [] → (us ≡ []) × (vs ≡ [])
both-nil [] vs h = (refl, h)
both-nil (u ∷ us) vs h = absurd (cc)

prefer-some : (b : Bool) (f : Field) (o : Option Field) → is_some o ≡ true → is_some (prefer b f o) ≡ true
prefer-some true f o h = refl
prefer-some false f o h = h

-- the first of a name has it
pub first-named : (name : List ℕ) (fs : List Field) (f : Field) → first_called name fs ≡ Some f → f.called ≡ name
first-named name [] f h = absurd (none-some f h)
first-named name (g ∷ gs) f h = by (same_bytes g.called name) refl (λ k. first-named name gs f k) h
  where
    by : (b : Bool) → same_bytes g.called name ≡ b → (first_called name gs ≡ Some f → f.called ≡ name) → prefer b g (first_called name gs) ≡ Some f → f.called ≡ name
    by true e more k = ap (λ x. x.called) (sym (some-same g f k)) ∙ bytes-to g.called name e
    by false e more k = more k

-- a name that is mapped is one of the old function's
pub mapped-named : (q : List ℕ) (new old : List Field) → is_some (first_called q (map (λ m. m.new) (mapped_params new old))) ≡ true → is_some (first_called q old) ≡ true
mapped-named q new [] h = h
mapped-named q new (o ∷ os) h = by (first_called o.called new) refl (λ k. mapped-named q new os k) h
  where
    by : (found : Option Field) → first_called o.called new ≡ found → (is_some (first_called q (map (λ m. m.new) (mapped_params new os))) ≡ true → is_some (first_called q os) ≡ true)
        → is_some (first_called q (map (λ m. m.new) (cons_option (option_map (λ n. param_mapped n o) found) (mapped_params new os)))) ≡ true → is_some (first_called q (o ∷ os)) ≡ true
    by None e more k = prefer-some (same_bytes o.called q) o (first_called q os) (more k)
    by (Some n) e more k = go (same_bytes n.called q) refl k
      where
        go : (b : Bool) → same_bytes n.called q ≡ b → is_some (prefer b n (first_called q (map (λ m. m.new) (mapped_params new os)))) ≡ true → is_some (first_called q (o ∷ os)) ≡ true
        go true t i = rw (ap (λ m. same_bytes m q) (sym (first-named o.called new n e)) ∙ t) refl
        go false t i = prefer-some (same_bytes o.called q) o (first_called q os) (more i)

-- what is mapped is compatible
pub named-compatible : (q : List ℕ) (new old : List Field) (o n : Field) → list_all is_compatible (mapped_params new old) ≡ true
    → first_called q old ≡ Some o → first_called o.called new ≡ Some n → is_compatible (param_mapped n o) ≡ true
named-compatible q new [] o n a h k = absurd (none-some o h)
named-compatible q new (p ∷ ps) o n a h k = by (same_bytes p.called q) refl (λ c f. named-compatible q new ps o n c f k) h
  where
    skipped : (found : Option Field) → list_all is_compatible (cons_option (option_map (λ m. param_mapped m p) found) (mapped_params new ps)) ≡ true → list_all is_compatible (mapped_params new ps) ≡ true
    skipped None e = e
    skipped (Some m) e = (both _ _ e).1

    taken : p ≡ o → is_compatible (param_mapped n o) ≡ true
    taken e =
        let found : first_called p.called new ≡ Some n = ap (λ x. first_called x.called new) e ∙ k in
        let all : list_all is_compatible (cons_option (option_map (λ m. param_mapped m p) (Some n)) (mapped_params new ps)) ≡ true = rw found at a in
        ap (λ x. is_compatible (param_mapped n x)) (sym e) ∙ (both _ _ all).0

    by : (b : Bool) → same_bytes p.called q ≡ b → (list_all is_compatible (mapped_params new ps) ≡ true → first_called q ps ≡ Some o → is_compatible (param_mapped n o) ≡ true)
        → prefer b p (first_called q ps) ≡ Some o → is_compatible (param_mapped n o) ≡ true
    by true e more f = taken (some-same p o f)
    by false e more f = more (skipped (first_called p.called new) a) f

-- ---- what is said by the test of full compatibility

empty : {A : Type 0} (xs : List A) → (length xs == 0) ≡ true → xs ≡ []
empty [] h = refl
empty (x ∷ xs) h = let e = eqb-true (length (x ∷ xs)) 0 h in absurd (omega (arith, e))

pub record IsCompatible (new old : List Field) (newer older : List Field) : Type 0 where
  pub params : list_all is_compatible (mapped_params new old) ≡ true
  pub known : params_unknown new old ≡ []
  pub results : list_all is_compatible (mapped_results newer older) ≡ true
  pub returned : results_unknown newer older ≡ []

pub compatible-parts : (names : Bool) (new old newer older : List Field)
    → names && list_all is_compatible (mapped_params new old) && (length (params_unknown new old) == 0)
    && list_all is_compatible (mapped_results newer older) && (length (results_unknown newer older) == 0) ≡ true → IsCompatible new old newer older
compatible-parts names new old newer older h =
    let a = both _ _ h in let b = both _ _ a.0 in let c = both _ _ b.0 in let d = both _ _ c.0 in
    record { params = d.1; known = empty _ c.1; results = b.1; returned = empty _ a.1 }

-- each new parameter has the name of an old one
pub each-named : (new old : List Field) → params_unknown new old ≡ [] → Each (λ p. is_some (first_called p.called old) ≡ true) new
each-named new old h = go new (none-unknown of_new (map (λ m. m.new) (mapped_params new old)) new (both-nil _ _ h).1)
  where
    go : (ps : List Field) → Each (λ p. is_some (first_called p.called (map (λ m. m.new) (mapped_params new old))) ≡ true) ps → Each (λ p. is_some (first_called p.called old) ≡ true) ps
    go [] e = tt
    go (p ∷ ps) e = (mapped-named p.called new old e.0, go ps e.1)

-- ---- results, where there is at most one of each

abbrev pub trees : List Field → List Tree
trees fs = map (λ f. f.tree) fs

one-result : (n o : Field) → list_all is_compatible (mapped_results (n ∷ []) (o ∷ [])) ≡ true → without of_new (o ∷ []) (n ∷ []) ≡ [] → Alike (o.tree ∷ []) (n.tree ∷ [])
one-result n o a u = by (same_bytes o.called n.called) refl
  where
    by : (b : Bool) → same_bytes o.called n.called ≡ b → Alike (o.tree ∷ []) (n.tree ∷ [])
    by true e = let all : list_all is_compatible (result_mapped n o ∷ []) ≡ true = rw e at a in (result-alike n o (both _ _ all).0, tt)
    by false e = let left : of_new n ∷ [] ≡ [] = rw e at u in absurd (cc)

abbrev pub AtMostOne : List Field → Type 0
AtMostOne [] = Unit {0}
AtMostOne (f ∷ []) = Unit {0}
AtMostOne (f ∷ g ∷ fs) = ⊥

pub results-alike : (new old : List Field) → AtMostOne new → AtMostOne old → list_all is_compatible (mapped_results new old) ≡ true → results_unknown new old ≡ [] → Alike (trees old) (trees new)
results-alike [] [] m k a u = tt
results-alike (n ∷ []) [] m k a u = absurd (cc)
results-alike [] (o ∷ []) m k a u = absurd (cc)
results-alike (n ∷ []) (o ∷ []) m k a u = one-result n o a (both-nil _ _ u).0
results-alike (n ∷ p ∷ new) old m k a u = absurd m
results-alike [] (o ∷ q ∷ old) m k a u = absurd k
results-alike (n ∷ []) (o ∷ q ∷ old) m k a u = absurd k
