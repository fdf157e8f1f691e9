-- `fits-more`: a definition with a new name, and its entry, leave a fitting map fitting.
use Rattle.std.specs.Prelude.{◌≡◌, ℕ, List, [], ◌∷◌, ◌++◌, Option, Some, None, option_map, cond, Bool, true, false, ◌||◌}
use Rattle.std.proofs.Common.{refl, sym, ap, subst, ◌∙◌}
use Rattle.std.proofs.lemmas.List.{map-append, append-nil}
use Rattle.std.proofs.lemmas.List.Elements.{filter_map-append}
use Rattle.std.proofs.lemmas.Map.Lookups.{exact_bytes}
use Rattle.std.proofs.lemmas.Map.Views.{tells_apart}
use Rattle.std.proofs.lemmas.Map.Keys.{IsDistinct-push}
use Rattle.std.specs.List.{cons_option, IsDistinct, list_any}
use Rattle.std.specs.Map.{keys_of}
use Rattle.std.specs.Cmp.Lexicographic.{texts_ties, nat_list_eq_equiv}
use Rattle.witx_base.specs.Found.{found}
use Rattle.witx_base.specs.Texts.{same_text}
use Rattle.witx_ast.specs.Entries.{by_name, Fits}
use Rattle.witx_scope.specs.Positions.{is_same_name}

same-name : (a b : List ℕ) → same_text a b ≡ is_same_name a b
unfolding same_text
same-name a b = texts_ties a b

abbrev pub first_or : {V : Type 0} → Option V → Option V → Option V
first_or None b = b
first_or (Some a) b = Some a

first_or-cond : {V : Type 0} (c : Bool) (a b d : Option V) (v : V) → b ≡ first_or a d → cond c (Some v) b ≡ first_or (cond c (Some v) a) d
first_or-cond true a b d v e = refl
first_or-cond false a b d v e = e

-- a name is looked up among the others first, and then in the last entry
pub found-last : {V : Type 0} (es : List (List ℕ × V)) (n : List ℕ) (v : V) (q : List ℕ) → found (es ++ (n, v) ∷ []) q ≡ first_or (found es q) (cond (is_same_name q n) (Some v) None)
found-last [] n v q = refl
found-last (e ∷ es) n v q = first_or-cond (is_same_name q e.0) (found es q) (found (es ++ (n, v) ∷ []) q) (cond (is_same_name q n) (Some v) None) e.1 (found-last es n v q)

-- a name that is not found is no key
or-false : (a b : Bool) → a ≡ false → b ≡ false → (a || b) ≡ false
or-false a b e f = rw (e, f) refl

past-first : {V : Type 0} (c : Bool) (v : V) (rest : Option V) → cond c (Some v) rest ≡ None → (c ≡ false) × (rest ≡ None)
past-first true v rest e = absurd (cc)
past-first false v rest e = (refl, e)

no-key : {V : Type 0} (es : List (List ℕ × V)) (n : List ℕ) → found es n ≡ None → list_any (same_text n) (keys_of es) ≡ false
no-key [] n e = refl
no-key (x ∷ es) n e =
    let p = past-first (is_same_name n x.0) x.1 (found es n) e in
    or-false (same_text n x.0) (list_any (same_text n) (keys_of es)) (same-name n x.0 ∙ p.0) (no-key es n p.1)

pub last-step : {T : Type 0} (c : Bool) (t : T) (before : Option T) → (c ≡ true → before ≡ None) → cond c (Some t) before ≡ first_or before (cond c (Some t) None)
last-step true t None f = refl
last-step true t (Some s) f = absurd (let g = f refl in cc)
last-step false t None f = refl
last-step false t (Some s) f = refl

module _ {T E : Type 0} (name_of : T → Option (List ℕ)) (tree : E → T) where
  abbrev named_with : T → List ℕ → List ℕ × T
  named_with t n = (n, t)

  by_name-one : (t : T) (n : List ℕ) (o : Option (List ℕ)) → o ≡ Some n → cons_option (option_map (named_with t) o) [] ≡ named_with t n ∷ []
  by_name-one t n o e = rw e refl

  by_name-last : (ts : List T) (t : T) (n : List ℕ) → name_of t ≡ Some n → by_name name_of (ts ++ t ∷ []) ≡ by_name name_of ts ++ (n, t) ∷ []
  by_name-last ts t n e = filter_map-append (λ s. option_map (λ m. (m, s)) (name_of s)) ts (t ∷ []) ∙ ap (λ l. by_name name_of ts ++ l) (by_name-one t n (name_of t) e)

  pub fits-more : (ts : List T) (t : T) (n : List ℕ) (es new : List (List ℕ × E)) → name_of t ≡ Some n → Fits name_of tree ts es
      → option_map tree (found es n) ≡ None
      → ((q : List ℕ) → option_map tree (found new q) ≡ cond (is_same_name q n) (Some t) (option_map tree (found es q)))
      → Fits name_of tree (ts ++ t ∷ []) new
  unfolding same_text
  fits-more ts t n es new e fits absent more =
      let none : found (by_name name_of ts) n ≡ None = sym (fits.holds n) ∙ absent in
      let last = by_name-last ts t n e in
      record {
        distinct = subst (λ l. IsDistinct same_text (keys_of l)) (sym last)
            (subst (λ l. IsDistinct same_text l) (sym (map-append (λ x. x.0) (by_name name_of ts) ((n, t) ∷ [])))
            (IsDistinct-push nat_list_eq_equiv (keys_of (by_name name_of ts)) n fits.distinct (no-key (by_name name_of ts) n none)));
        holds = λ q. more q
            ∙ (ap (cond (is_same_name q n) (Some t)) (fits.holds q)
            ∙ (last-step (is_same_name q n) t (found (by_name name_of ts) q) (λ c. subst (λ x. found (by_name name_of ts) x ≡ None) (sym (tells_apart exact_bytes q n c)) none)
            ∙ (sym (found-last (by_name name_of ts) n t q) ∙ ap (λ l. found l q) (sym last))));
      }

  -- a definition without a name needs no entry
  pub fits-unnamed : (ts : List T) (t : T) (es : List (List ℕ × E)) → name_of t ≡ None → Fits name_of tree ts es → Fits name_of tree (ts ++ t ∷ []) es
  fits-unnamed ts t es e fits =
      let last : by_name name_of (ts ++ t ∷ []) ≡ by_name name_of ts
      = filter_map-append (λ s. option_map (λ m. (m, s)) (name_of s)) ts (t ∷ []) ∙ (ap (λ o. by_name name_of ts ++ cons_option (option_map (λ m. (m, t)) o) []) e ∙ append-nil (by_name name_of ts)) in
      record {
        distinct = subst (λ l. IsDistinct same_text (keys_of l)) (sym last) fits.distinct;
        holds = λ q. fits.holds q ∙ ap (λ l. found l q) (sym last);
      }
