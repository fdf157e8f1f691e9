-- `keeps-typename`, `keeps-module`, `keeps-refused`: what a validator keeps after a declaration.
use Rattle.std.specs.Prelude.{◌≡◌, ◌⊎◌, ℕ, List, [], ◌∷◌, ◌++◌, Option, Some, None, option_map, cond, Bool, true, false}
use Rattle.std.proofs.Common.{refl, sym, ap, subst, inl, inr, ◌∙◌}
use Rattle.std.proofs.lemmas.Map.Lookups.{exact_bytes}
use Rattle.std.proofs.lemmas.Map.Views.{tells_apart}
use Rattle.std.specs.Ordering.{is_eq, nat_cmp}
use Rattle.std.specs.Cmp.Lexicographic.{slice_cmp}
use Rattle.witx_base.specs.Found.{found}
use Rattle.witx_files.specs.declared.location.Location.{Location}
use Rattle.witx_ast.specs.declared.definition.Entry.{Entry}
use Rattle.witx_scope.specs.Faults.{name_already_exists}
use Rattle.witx_scope.specs.Names.{Names, Sense, new_name}
use Rattle.witx_scope.specs.Inside.{Takes, TakesAtMost, RefusesDeclaration}
use Rattle.witx_scope.specs.Positions.{TakenName, DeclarationOutcome, refused, is_same_name, introducer, first_place}
use Rattle.witx_scope.specs.Kept.{KeepsNames, entry_sense_of, finished_sense, finished}
use Rattle.witx_scope.proofs.Steps.{is_eq-swap}
use Rattle.witx_check.proofs.ByPosition.{keeps-more, keeps-same, taken_place}

abbrev pub taken_as : List ℕ → Location → DeclarationOutcome → TakenName
taken_as n p o = record { name = n; place = p; outcome = o }

-- one entry more
sense-cond : (c : Bool) (a b : Option Entry) → entry_sense_of (cond c a b) ≡ cond c (entry_sense_of a) (entry_sense_of b)
sense-cond true a b = refl
sense-cond false a b = refl

pub entries-more : (old new : List (List ℕ × Entry)) (e : Entry) (k q : List ℕ)
    → found new q ≡ cond (is_eq (slice_cmp nat_cmp k q)) (Some e) (found old q)
    → entry_sense_of (found new q) ≡ cond (is_same_name q k) (entry_sense_of (Some e)) (entry_sense_of (found old q))
entries-more old new e k q h =
    let h1 = rw (is_eq-swap k q) at h in
    ap entry_sense_of h1 ∙ sense-cond (is_same_name q k) (Some e) (found old q)

-- a typename or a module is made
pub keeps-made : (names new : Names) (es es2 : List (List ℕ × Entry)) (past : List TakenName) (n : List ℕ) (p : Location) (o : DeclarationOutcome)
    → Takes names new n p
    → ((q : List ℕ) → entry_sense_of (found es2 q) ≡ cond (is_same_name q n) (finished o) (entry_sense_of (found es q)))
    → KeepsNames names es past
    → KeepsNames new es2 (past ++ taken_as n p o ∷ [])
keeps-made names new es es2 past n p o t m h =
    keeps-more names new es es2 past (taken_as n p o) h
    (λ (q : List ℕ) (e : is_same_name q n ≡ true). subst (λ (x : List ℕ). found names x ≡ None) (sym (tells_apart exact_bytes q n e)) t.0) t.1 m

none-more : (c : Bool) (o : Option Sense) → (c ≡ true → o ≡ None) → o ≡ cond c None o
none-more true o f = f refl
none-more false o f = refl

pub none-taken : (t : Option TakenName) → taken_place t ≡ None → t ≡ None
none-taken None e = refl
none-taken (Some t) e = absurd (cc)

stood : (names : Names) (n : List ℕ) (past : List TakenName) (q : List ℕ) → found names n ≡ first_place past n → (found names n ≡ None → ⊥) → q ≡ n → introducer past q ≡ None → ⊥
stood names n past q a f e i = f (a ∙ ap taken_place (subst (λ (x : List ℕ). introducer past x ≡ None) e i))

pub keeps-taken : (names new : Names) (es : List (List ℕ × Entry)) (past : List TakenName) (n : List ℕ) (p : Location)
    → Takes names new n p → KeepsNames names es past → KeepsNames new es (past ++ taken_as n p refused ∷ [])
keeps-taken names new es past n p r k =
    keeps-more names new es es past (taken_as n p refused) k
    (λ (q : List ℕ) (e : is_same_name q n ≡ true). subst (λ (x : List ℕ). found names x ≡ None) (sym (tells_apart exact_bytes q n e)) r.0) r.1
    (λ (q : List ℕ). none-more (is_same_name q n) (entry_sense_of (found es q)) (λ (e : is_same_name q n ≡ true). k.senses q ∙ ap finished_sense (none-taken (introducer past q) (sym (k.places q) ∙ subst (λ (x : List ℕ). found names x ≡ None) (sym (tells_apart exact_bytes q n e)) r.0))))

-- a refused declaration: its name stands without an entry, or stood already
pub keeps-refused : (names new : Names) (es : List (List ℕ × Entry)) (past : List TakenName) (n : List ℕ) (p : Location)
    → RefusesDeclaration names new n p → KeepsNames names es past → KeepsNames new es (past ++ taken_as n p refused ∷ [])
keeps-refused names new es past n p (inl r) k = keeps-taken names new es past n p r k
keeps-refused names new es past n p (inr r) k =
    subst (λ (x : Names). KeepsNames x es (past ++ taken_as n p refused ∷ [])) (sym r.1)
    (keeps-same names es past (taken_as n p refused) k
    (λ (q : List ℕ) (e : is_same_name q n ≡ true). stood names n past q (k.places n) r.0 (tells_apart exact_bytes q n e)))

pub keeps-left : (names new : Names) (es : List (List ℕ × Entry)) (past : List TakenName) (n : List ℕ) (p : Location)
    → TakesAtMost names new n p → KeepsNames names es past → KeepsNames new es past ⊎ KeepsNames new es (past ++ taken_as n p refused ∷ [])
keeps-left names new es past n p (inl same) k = inl (subst (λ (x : Names). KeepsNames x es past) (sym same) k)
keeps-left names new es past n p (inr r) k = inr (keeps-taken names new es past n p r k)

-- the check of a declaration's name, by positions
pub name-by-position : (names : Names) (es : List (List ℕ × Entry)) (past : List TakenName) (n : List ℕ) (at : Location) → KeepsNames names es past
    → new_name names n at ≡ option_map (λ earlier. name_already_exists n at earlier) (first_place past n)
name-by-position names es past n at k = ap (option_map (λ (l : Location). name_already_exists n at l)) (k.places n)
