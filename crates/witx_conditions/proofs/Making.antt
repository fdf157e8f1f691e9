-- Entries of definitions, one definition after the other.
use Rattle.std.specs.Prelude.{◌≡◌, ℕ, ◌+◌, ◌<◌, ◌≤◌, List, [], ◌∷◌, ◌++◌, Bool, true, false, cond, IfOk, Option, Some, None, Result, Ok, Err, is_none, map, option_map, length, take, drop}
use Rattle.std.proofs.Common.{refl, ap, sym, ◌∙◌, subst, get_or}
use Rattle.std.specs.List.{AllByRecursion, IsDistinct}
use Rattle.std.specs.Map.{keys_of}
use Rattle.std.proofs.lemmas.List.{drop_more, take_all, take_more, map-append, take-append-drop}
use Rattle.witx_base.specs.Found.{found}
use Rattle.witx_base.specs.Texts.{same_text}
use Rattle.witx_base.specs.declared.memory.OutOfMemory.{OutOfMemory}
use Rattle.witx_base.proofs.Names.{same-test}
use Rattle.witx_ast.specs.Entries.{Fits, by_name}
use Rattle.witx_ast.proofs.EntryLaws.{is_key, key-swap, fits-empty, fits-more, fits-same}
use Rattle.witx_conditions.specs.Making.{IsEntry, PutsOne, StandsTwice}
use Rattle.witx_conditions.specs.OwnNames.{HaveOwnNames}

module _ {T : Type 0} (name_of : T → Option (List ℕ)) where
  head-some : (x : T) (xs : List T) (m : List ℕ) → name_of x ≡ Some m → by_name name_of (x ∷ xs) ≡ (m, x) ∷ by_name name_of xs
  head-some x xs m e = rw e refl

  head-none : (x : T) (xs : List T) → name_of x ≡ None → by_name name_of (x ∷ xs) ≡ by_name name_of xs
  head-none x xs e = rw e refl

  at-tail : (P : List ℕ → Type 0) (x : T) (ys : List T) (o : Option (List ℕ)) → name_of x ≡ o
      → AllByRecursion P (keys_of (by_name name_of (x ∷ ys))) → AllByRecursion P (keys_of (by_name name_of ys))
  at-tail P x ys None k h = subst (λ es. AllByRecursion P (keys_of es)) (head-none x ys k) h
  at-tail P x ys (Some m) k h = (subst (λ es. AllByRecursion P (keys_of es)) (head-some x ys m k) h).1

  all-at : (P : List ℕ → Type 0) (xs : List T) (t : T) (rest : List T) (n : List ℕ) → name_of t ≡ Some n
      → AllByRecursion P (keys_of (by_name name_of (xs ++ t ∷ rest))) → P n
  all-at P [] t rest n e h = (subst (λ es. AllByRecursion P (keys_of es)) (head-some t rest n e) h).0
  all-at P (x ∷ xs) t rest n e h = all-at P xs t rest n e (at-tail P x (xs ++ t ∷ rest) (name_of x) refl h)

  other-key : (m n : List ℕ) → same_text m n ≡ false → is_key n m ≡ false
  other-key m n h = key-swap n m ∙ same-test m n ∙ h

  abbrev AreDistinct : List (List ℕ × T) → Type 0
  AreDistinct es = IsDistinct same_text (keys_of es)

  distinct-tail : (x : T) (ys : List T) (o : Option (List ℕ)) → name_of x ≡ o → AreDistinct (by_name name_of (x ∷ ys)) → AreDistinct (by_name name_of ys)
  unfolding IsDistinct
  distinct-tail x ys None k d = subst AreDistinct (head-none x ys k) d
  distinct-tail x ys (Some m) k d = (subst AreDistinct (head-some x ys m k) d).1

  lacks-head : (x : T) (xs : List T) (t : T) (rest : List T) (n : List ℕ) (o : Option (List ℕ)) → name_of x ≡ o → name_of t ≡ Some n
      → AreDistinct (by_name name_of (x ∷ (xs ++ t ∷ rest))) → found (by_name name_of xs) n ≡ None → found (by_name name_of (x ∷ xs)) n ≡ None
  unfolding IsDistinct
  lacks-head x xs t rest n None k e d r = ap (λ es. found es n) (head-none x xs k) ∙ r
  lacks-head x xs t rest n (Some m) k e d r =
      let s = subst AreDistinct (head-some x (xs ++ t ∷ rest) m k) d in
      let other : same_text m n ≡ false = all-at (λ y. same_text m y ≡ false) xs t rest n e s.0 in
      ap (λ es. found es n) (head-some x xs m k) ∙ ap (λ b. cond b (Some x) (found (by_name name_of xs) n)) (other-key m n other) ∙ r

  -- of distinct names, none before is the one that follows
  later-lacks : (xs : List T) (t : T) (rest : List T) (n : List ℕ) → name_of t ≡ Some n
      → AreDistinct (by_name name_of (xs ++ t ∷ rest)) → found (by_name name_of xs) n ≡ None
  later-lacks [] t rest n e d = refl
  later-lacks (x ∷ xs) t rest n e d =
      lacks-head x xs t rest n (name_of x) refl e d (later-lacks xs t rest n e (distinct-tail x (xs ++ t ∷ rest) (name_of x) refl d))

module _ {T E : Type 0} (name_of : T → Option (List ℕ)) (tree : E → T) where
  new-put : (t : T) (n : List ℕ) (e : E) (old new : List (List ℕ × E)) → name_of t ≡ Some n → tree e ≡ t → found old n ≡ None
      → ((q : List ℕ) → found new q ≡ cond (is_key n q) (Some e) (found old q)) → PutsOne name_of tree t old new
  new-put t n e old new named same none put ts fits = fits-more name_of tree ts t n old new e fits named none same put

  none-of : (o : Option E) → option_map tree o ≡ None → is_none o ≡ false → ⊥
  none-of None h k = absurd (cc)
  none-of (Some e) h k = absurd (cc)

  held-twice : (t : T) (n : List ℕ) (old : List (List ℕ × E)) → name_of t ≡ Some n → is_none (found old n) ≡ false → StandsTwice name_of tree t old
  held-twice t n old e h ts fits rest d = none-of (found old n) (fits.holds n ∙ later-lacks name_of ts t rest n e d) h

  entry-told : (t : T) (o : Option (List ℕ × E)) (n : List ℕ) (e : E) → IsEntry name_of tree t o → o ≡ Some (n, e) → (name_of t ≡ Some n) × (tree e ≡ t)
  entry-told t o n e told same = subst (IsEntry name_of tree t) same told

  -- what was told of the put of an entry
  pub put-told : (r : Result Bool OutOfMemory) (t : T) (o : Option (List ℕ × E)) (n : List ℕ) (e : E) (old new : List (List ℕ × E))
      → IsEntry name_of tree t o → o ≡ Some (n, e)
      → IfOk r (λ lacked. lacked ≡ true → found old n ≡ None)
      → IfOk r (λ lacked. lacked ≡ true → (q : List ℕ) → found new q ≡ cond (is_key n q) (Some e) (found old q))
      → IfOk r (λ lacked. lacked ≡ true → PutsOne name_of tree t old new)
  put-told (Ok lacked) t o n e old new told same none put =
      let k = entry-told t o n e told same in
      λ h. new-put t n e old new k.0 k.1 (none h) (put h)
  put-told (Err x) t o n e old new told same none put = tt

  pub twice-told : (r : Result Bool OutOfMemory) (t : T) (o : Option (List ℕ × E)) (n : List ℕ) (e : E) (old : List (List ℕ × E))
      → IsEntry name_of tree t o → o ≡ Some (n, e)
      → IfOk r (λ lacked. lacked ≡ false → is_none (found old n) ≡ false)
      → IfOk r (λ lacked. lacked ≡ false → StandsTwice name_of tree t old)
  twice-told (Ok lacked) t o n e old told same held = λ h. held-twice t n old (entry-told t o n e told same).0 (held h)
  twice-told (Err x) t o n e old told same held = tt

  nameless : (t : T) (o : Option (List ℕ × E)) → IsEntry name_of tree t o → o ≡ None → name_of t ≡ None
  nameless t o told same = subst (IsEntry name_of tree t) same told

  pub nameless-put : (t : T) (o : Option (List ℕ × E)) (old : List (List ℕ × E)) → IsEntry name_of tree t o → o ≡ None → PutsOne name_of tree t old old
  nameless-put t o old told same ts fits = fits-same name_of tree ts t old fits (nameless t o told same)

  -- ---- the definitions, each read as it is

  module _ {D : Type 0} (view : D → T) where
    abbrev pub FitsTo : List D → ℕ → List (List ℕ × E) → Type 0
    FitsTo ds i es = Fits name_of tree (map view (take i ds)) es

    taken : (ds : List D) (i : ℕ) (d : D) → i < length ds → d ≡ get_or ds i d → map view (take (i + 1) ds) ≡ map view (take i ds) ++ view d ∷ []
    taken ds i d l p = rw (take_more ds i d l, ← p) (map-append view (take i ds) (d ∷ []))

    split : (ds : List D) (i : ℕ) (d : D) → i < length ds → d ≡ get_or ds i d → map view ds ≡ map view (take i ds) ++ view d ∷ map view (drop (i + 1) ds)
    split ds i d l p =
        ap (map view) (sym (take-append-drop i ds)) ∙ map-append view (take i ds) (drop i ds)
        ∙ ap (λ xs. map view (take i ds) ++ map view xs) (drop_more ds i d l ∙ ap (λ x. x ∷ drop (i + 1) ds) (sym p))

    pub fits-next : (ds : List D) (i : ℕ) (d : D) (old new : List (List ℕ × E)) → i < length ds → d ≡ get_or ds i d → FitsTo ds i old
        → PutsOne name_of tree (view d) old new → FitsTo ds (i + 1) new
    fits-next ds i d old new l p fits puts = subst (λ ts. Fits name_of tree ts new) (sym (taken ds i d l p)) (puts (map view (take i ds)) fits)

    pub fits-twice : (ds : List D) (i : ℕ) (d : D) (old : List (List ℕ × E)) → i < length ds → d ≡ get_or ds i d → FitsTo ds i old
        → StandsTwice name_of tree (view d) old → HaveOwnNames name_of (map view ds) → ⊥
    fits-twice ds i d old l p fits twice s =
        twice (map view (take i ds)) fits (map view (drop (i + 1) ds)) (subst (HaveOwnNames name_of) (split ds i d l p) s)

    pub fits-all : (ds : List D) (i : ℕ) (es : List (List ℕ × E)) → length ds ≤ i → FitsTo ds i es → Fits name_of tree (map view ds) es
    fits-all ds i es l fits = subst (λ xs. Fits name_of tree (map view xs) es) (take_all i ds l) fits

    pub fits-none : (ds : List D) (es : List (List ℕ × E)) → es ≡ [] → FitsTo ds 0 es
    fits-none ds es e = subst (λ k. Fits name_of tree [] k) (sym e) (fits-empty name_of tree)

pub ruleset put_rules = (put-told, twice-told, nameless-put)

pub ruleset made_rules = (fits-next, fits-twice, fits-all, fits-none)
