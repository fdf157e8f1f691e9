-- Definitions and entries that fit still fit after one more definition with a new name (`fits-more`), or without a name (`fits-same`).
use Rattle.std.specs.Prelude.{◌≡◌, ℕ, List, [], ◌∷◌, ◌++◌, Bool, true, false, cond, Option, Some, None, option_map}
use Rattle.std.proofs.Common.{refl, ap, sym, ◌∙◌, append-nil}
use Rattle.std.specs.Bool.{Decides}
use Rattle.std.specs.List.{AllByRecursion, IsDistinct}
use Rattle.std.specs.Map.{keys_of}
use Rattle.std.specs.Ordering.{is_eq, nat_cmp}
use Rattle.std.specs.Cmp.Lexicographic.{slice_cmp}
use Rattle.std.proofs.lemmas.Map.Text.{is_eq-slice_cmp}
use Rattle.std.proofs.lemmas.Slice.Eq.{bytes_eq-Decides}
use Rattle.std.proofs.lemmas.Bool.Decides.{Decides-at, same_from_decides}
use Rattle.std.proofs.lemmas.List.Elements.{filter_map-append}
use Rattle.witx_base.specs.Texts.{same_text}
use Rattle.witx_base.specs.Found.{found}
use Rattle.witx_base.specs.SameBytes.{bytes-to, false-true}
use Rattle.witx_ast.specs.Entries.{by_name, Fits}

-- the test by which a map tells its names apart
abbrev pub is_key : List ℕ → List ℕ → Bool
is_key a b = is_eq (slice_cmp nat_cmp a b)

pub key-decides : (a b : List ℕ) → Decides (is_key a b) (a ≡ b)
key-decides a b = Decides-at _ _ (is_eq-slice_cmp a b) (bytes_eq-Decides a b)

pub key-swap : (a b : List ℕ) → is_key a b ≡ is_key b a
key-swap a b = same_from_decides _ _ (key-decides a b) (λ h. sym ((key-decides b a).0 h), λ e. (key-decides b a).1 (sym e))

pub not-true : (b : Bool) → (b ≡ true → ⊥) → b ≡ false
not-true true h = absurd (h refl)
not-true false h = refl

pub unlike : (a b : List ℕ) → is_key b a ≡ false → same_text a b ≡ false
unfolding same_text
unlike a b h = not-true (same_text a b) (λ e. false-true (sym h ∙ (key-decides b a).1 (sym (bytes-to a b e))))

pub head-other : {T : Type 0} (c : Bool) (v : T) (o : Option T) → cond c (Some v) o ≡ None → (c ≡ false) × (o ≡ None)
head-other true v o h = absurd (cc)
head-other false v o h = (refl, h)

pub pick : {T : Type 0} (b d : Bool) (v w r s : Option T) → (b ≡ true → d ≡ false) → r ≡ cond d w s → cond b v r ≡ cond d w (cond b v s)
pick true d v w r s k e = rw (k refl) refl
pick false d v w r s k e = e

-- what is found after one more entry behind those that lack its name
pub found-more : {T : Type 0} (es : List (List ℕ × T)) (n : List ℕ) (t : T) → found es n ≡ None → (q : List ℕ)
    → found (es ++ (n, t) ∷ []) q ≡ cond (is_key n q) (Some t) (found es q)
found-more [] n t h q = rw (key-swap q n) refl
found-more (e ∷ es) n t h q =
    let o = head-other (is_key n e.0) e.1 (found es n) h in
    pick (is_key q e.0) (is_key n q) (Some e.1) (Some t) (found (es ++ (n, t) ∷ []) q) (found es q)
    (λ k. ap (is_key n) ((key-decides q e.0).0 k) ∙ o.0) (found-more es n t o.1 q)

pub all-more : {T : Type 0} (P : List ℕ → Type 0) (es : List (List ℕ × T)) (k : List ℕ) (v : T) → AllByRecursion P (keys_of es) → P k → AllByRecursion P (keys_of (es ++ (k, v) ∷ []))
all-more P [] k v h p = (p, tt)
all-more P (e ∷ es) k v h p = (h.0, all-more P es k v h.1 p)

pub distinct-more : {T : Type 0} (es : List (List ℕ × T)) (n : List ℕ) (t : T) → found es n ≡ None → IsDistinct same_text (keys_of es) → IsDistinct same_text (keys_of (es ++ (n, t) ∷ []))
unfolding IsDistinct
distinct-more [] n t h d = (tt, tt)
distinct-more (e ∷ es) n t h d =
    let o = head-other (is_key n e.0) e.1 (found es n) h in
    (all-more (λ y. same_text e.0 y ≡ false) es n t d.0 (unlike e.0 n o.0), distinct-more es n t o.1 d.1)

pub map-cond : {E T : Type 0} (tree : E → T) (b : Bool) (e : E) (t : T) (o : Option E) (p : Option T) → tree e ≡ t → option_map tree o ≡ p
    → option_map tree (cond b (Some e) o) ≡ cond b (Some t) p
map-cond tree true e t o p h k = ap Some h
map-cond tree false e t o p h k = k

pub names-more : {T : Type 0} (name_of : T → Option (List ℕ)) (ts : List T) (t : T) (n : List ℕ) → name_of t ≡ Some n → by_name name_of (ts ++ t ∷ []) ≡ by_name name_of ts ++ (n, t) ∷ []
names-more {T} name_of ts t n e = rw (filter_map-append {Y = List ℕ × T} (λ (u : T). option_map (λ (m : List ℕ). (m, u)) (name_of u)) ts (t ∷ []), e) refl

pub names-same : {T : Type 0} (name_of : T → Option (List ℕ)) (ts : List T) (t : T) → name_of t ≡ None → by_name name_of (ts ++ t ∷ []) ≡ by_name name_of ts
names-same {T} name_of ts t e = rw (filter_map-append {Y = List ℕ × T} (λ (u : T). option_map (λ (m : List ℕ). (m, u)) (name_of u)) ts (t ∷ []), e) (append-nil (by_name name_of ts))

pub fits-empty : {T E : Type 0} (name_of : T → Option (List ℕ)) (tree : E → T) → Fits name_of tree [] []
unfolding IsDistinct
fits-empty name_of tree = record { distinct = tt; holds = λ n. refl }

pub fits-more : {T E : Type 0} (name_of : T → Option (List ℕ)) (tree : E → T) (ts : List T) (t : T) (n : List ℕ) (es now : List (List ℕ × E)) (e : E)
    → Fits name_of tree ts es → name_of t ≡ Some n → found es n ≡ None → tree e ≡ t
    → ((q : List ℕ) → found now q ≡ cond (is_key n q) (Some e) (found es q)) → Fits name_of tree (ts ++ t ∷ []) now
fits-more name_of tree ts t n es now e fits named none same put =
    let lacks : found (by_name name_of ts) n ≡ None = sym (fits.holds n) ∙ ap (option_map tree) none in
    let names = names-more name_of ts t n named in
    record {
      distinct = rw names (distinct-more (by_name name_of ts) n t lacks fits.distinct);
      holds = λ q. rw names (ap (option_map tree) (put q) ∙ map-cond tree (is_key n q) e t (found es q) (found (by_name name_of ts) q) same (fits.holds q)
          ∙ sym (found-more (by_name name_of ts) n t lacks q));
    }

pub fits-same : {T E : Type 0} (name_of : T → Option (List ℕ)) (tree : E → T) (ts : List T) (t : T) (es : List (List ℕ × E))
    → Fits name_of tree ts es → name_of t ≡ None → Fits name_of tree (ts ++ t ∷ []) es
fits-same name_of tree ts t es fits e = record {
  distinct = rw (names-same name_of ts t e) fits.distinct;
  holds = λ q. rw (names-same name_of ts t e) (fits.holds q);
}
