-- Names and their first places: a map of places tells which names a list has, and finds the case of a name.
use Rattle.std.specs.Prelude.{◌≡◌, ◌<◌, ◌≤◌, ◌||◌, ◌++◌, ◌∷◌, ◌+◌, [], ℕ, List, Option, Some, None, Bool, true, false, map, length, drop, cond, slice_get}
use Rattle.std.specs.Option.{option_or, is_some}
use Rattle.std.specs.List.{position_from}
use Rattle.std.specs.Map.{keys_of}
use Rattle.std.specs.Ordering.{is_eq, nat_cmp}
use Rattle.std.specs.Cmp.Lexicographic.{slice_cmp}
use Rattle.std.proofs.Common.{refl, sym, ap, arith, suc, get_or, append_assoc, ◌∙◌}
use Rattle.std.proofs.lemmas.List.{drop_more, drop_all, map-append, append-nil}
use Rattle.std.proofs.lemmas.Map.Text.{is_eq-slice_cmp}
use Rattle.witx_base.specs.Found.{found}
use Rattle.witx_base.specs.Texts.{same_text}
use Rattle.witx_ast.specs.declared.types.Case.{Case}
use Rattle.witx_ast.specs.Tree.{Arm, arms_of}
use Rattle.witx_ast.specs.Views.{case_arm}
use Rattle.witx_scope.specs.Tags.{has_name, arm_names}
use Rattle.witx_scope.specs.Trees.{arm_called}
use Rattle.witx_scope.specs.NamePlaces.{place_in, case_or_bare, case_placed}
use Rattle.witx_ast.proofs.EntryLaws.{key-decides}
use Rattle.witx_scope.proofs.Steps.{is_eq-swap}
use Rattle.witx_scope.proofs.ArmNames.{arm_names-arm}
use Rattle.std.proofs.lemmas.Bool.{false≢true}

-- ---- a name at a map, and in a list

same-is_eq : (a b : List ℕ) → same_text a b ≡ is_eq (slice_cmp nat_cmp a b)
unfolding same_text
same-is_eq a b = sym (is_eq-slice_cmp a b)

pub key-same : (a b : List ℕ) → is_eq (slice_cmp nat_cmp a b) ≡ same_text b a
key-same a b = is_eq-swap a b ∙ sym (same-is_eq b a)

is_some-pick : {T : Type 0} (t : Bool) (v : T) (o : Option T) (b : Bool) → is_some o ≡ b → is_some (cond t (Some v) o) ≡ (t || b)
is_some-pick true v o b e = refl
is_some-pick false v o b e = e

pub has-place : (ns : List (List ℕ)) (n : List ℕ) (i : ℕ) → is_some (position_from (same_text n) i ns) ≡ has_name ns n
has-place [] n i = refl
has-place (m ∷ ns) n i = is_some-pick (same_text n m) i (position_from (same_text n) (i + 1) ns) (has_name ns n) (has-place ns n (i + 1))

pub has-places : (ns : List (List ℕ)) (places : List (List ℕ × ℕ)) (n : List ℕ) → found places n ≡ place_in ns n → is_some (found places n) ≡ has_name ns n
has-places ns places n e = ap is_some e ∙ has-place ns n 0

pub has-keys : (marks : List (List ℕ × ℕ)) (n : List ℕ) → is_some (found marks n) ≡ has_name (keys_of marks) n
has-keys [] n = refl
has-keys (e ∷ es) n = is_some-pick (is_eq (slice_cmp nat_cmp n e.0)) e.1 (found es n) (has_name (keys_of es) n) (has-keys es n) ∙ ap (λ t. t || has_name (keys_of es) n) (sym (same-is_eq n e.0))

-- ---- a first place more

first-kept-at : (o : Option ℕ) (t : Bool) (i : ℕ) → (t ≡ true → is_some o ≡ true) → o ≡ option_or o (cond t (Some i) None)
first-kept-at (Some p) t i h = refl
first-kept-at None true i h = absurd (false≢true (h refl))
first-kept-at None false i h = refl

pub first-kept : (old : List (List ℕ × ℕ)) (key n : List ℕ) (i : ℕ) → is_some (found old key) ≡ true → found old n ≡ option_or (found old n) (cond (is_eq (slice_cmp nat_cmp key n)) (Some i) None)
first-kept old key n i h = first-kept-at (found old n) (is_eq (slice_cmp nat_cmp key n)) i (λ e. ap (λ q. is_some (found old q)) (sym ((key-decides key n).0 e)) ∙ h)

first-put-at : (o : Option ℕ) (t : Bool) (i : ℕ) → (t ≡ true → is_some o ≡ false) → cond t (Some i) o ≡ option_or o (cond t (Some i) None)
first-put-at (Some p) true i h = absurd (false≢true (sym (h refl)))
first-put-at (Some p) false i h = refl
first-put-at None true i h = refl
first-put-at None false i h = refl

pub first-put : (old new : List (List ℕ × ℕ)) (key n : List ℕ) (i : ℕ) → is_some (found old key) ≡ false
    → found new n ≡ cond (is_eq (slice_cmp nat_cmp key n)) (Some i) (found old n)
    → found new n ≡ option_or (found old n) (cond (is_eq (slice_cmp nat_cmp key n)) (Some i) None)
first-put old new key n i h e = e ∙ first-put-at (found old n) (is_eq (slice_cmp nat_cmp key n)) i (λ t. ap (λ q. is_some (found old q)) (sym ((key-decides key n).0 t)) ∙ h)

pub ruleset first_rules = (first-kept, first-put)

place-step : (o : Option ℕ) (s t : Bool) (i : ℕ) (rest : Option ℕ) → s ≡ t → option_or (option_or o (cond s (Some i) None)) rest ≡ option_or o (cond t (Some i) rest)
place-step (Some p) s t i rest e = refl
place-step None true true i rest e = refl
place-step None false false i rest e = refl
place-step None true false i rest e = absurd (false≢true (sym e))
place-step None false true i rest e = absurd (false≢true e)

pub place-next : (names : List (List ℕ)) (i : ℕ) (a n : List ℕ) (old new : List (List ℕ × ℕ)) (x : Option ℕ)
    → i < length names → a ≡ get_or names i a
    → found new n ≡ option_or (found old n) (cond (is_eq (slice_cmp nat_cmp a n)) (Some i) None)
    → option_or (found old n) (position_from (same_text n) i (drop i names)) ≡ x
    → option_or (found new n) (position_from (same_text n) (i + 1) (drop (i + 1) names)) ≡ x
place-next names i a n old new x l p f e =
    let e1 = rw (drop_more names i a l, ← p) at e in
    ap (λ o. option_or o (position_from (same_text n) (i + 1) (drop (i + 1) names))) f ∙ place-step (found old n) (is_eq (slice_cmp nat_cmp a n)) (same_text n a) i (position_from (same_text n) (i + 1) (drop (i + 1) names)) (key-same a n) ∙ e1

or-none : (o : Option ℕ) → option_or o None ≡ o
or-none None = refl
or-none (Some p) = refl

pub place-end : (names : List (List ℕ)) (i : ℕ) (n : List ℕ) (places : List (List ℕ × ℕ)) (x : Option ℕ)
    → length names ≤ i → option_or (found places n) (position_from (same_text n) i (drop i names)) ≡ x → found places n ≡ x
place-end names i n places x l e = let e1 = rw (drop_all i names l) at e in sym (or-none (found places n)) ∙ e1

pub ruleset place_rules = (place-next, place-end, has-places)

-- ---- the case at the place of its name

placed-pick : (t : Bool) (cs : List Case) (c : Case) (i : ℕ) (n : List ℕ) (p : Option ℕ) (a : Arm) → slice_get cs i ≡ Some c → case_placed cs p n ≡ a → case_placed cs (cond t (Some i) p) n ≡ cond t (case_arm c) a
placed-pick true cs c i n p a g e = ap (λ o. case_or_bare o n) g
placed-pick false cs c i n p a g e = e

placed-from : (cs rest : List Case) (i : ℕ) (n : List ℕ) → ((k j : ℕ) → j ≡ i + k → slice_get cs j ≡ slice_get rest k)
    → case_placed cs (position_from (same_text n) i (arm_names (arms_of (map case_arm rest)))) n ≡ arm_called (map case_arm rest) n
placed-from cs [] i n h = refl
placed-from cs (c ∷ rest) i n h =
    let others : case_placed cs (position_from (same_text n) (i + 1) (arm_names (arms_of (map case_arm rest)))) n ≡ arm_called (map case_arm rest) n
    = placed-from cs rest (i + 1) n (λ k j e. h (suc k) j (omega arith)) in
    let here : slice_get cs i ≡ Some c = h 0 i (omega arith) in
    rw (arm_names-arm (case_arm c) (map case_arm rest)) (placed-pick (same_text n (case_arm c).called) cs c i n (position_from (same_text n) (i + 1) (arm_names (arms_of (map case_arm rest)))) (arm_called (map case_arm rest) n) here others)

pub case-placed : (cs : List Case) (n : List ℕ) → case_placed cs (place_in (arm_names (arms_of (map case_arm cs))) n) n ≡ arm_called (map case_arm cs) n
case-placed cs n = placed-from cs cs 0 n (λ k j e. ap (slice_get cs) (omega arith))

pub turn-next : (cs : List Case) (called : List (List ℕ)) (places : List (List ℕ × ℕ)) (ns : List (List ℕ)) (i : ℕ) (a : List ℕ) (ms : List Case) (c : Case) (x : List Arm)
    → i < length ns → a ≡ get_or ns i a
    → map case_arm ms ++ map (arm_called (map case_arm cs)) (drop i ns) ≡ x
    → called ≡ arm_names (arms_of (map case_arm cs))
    → ((n : List ℕ) → found places n ≡ place_in called n)
    → case_arm c ≡ case_placed cs (found places a) a
    → map case_arm (ms ++ c ∷ []) ++ map (arm_called (map case_arm cs)) (drop (i + 1) ns) ≡ x
turn-next cs called places ns i a ms c x l p e k f h =
    let e1 = rw (drop_more ns i a l, ← p) at e in
    let at : case_arm c ≡ arm_called (map case_arm cs) a = h ∙ ap (λ o. case_placed cs o a) (f a ∙ ap (λ names. place_in names a) k) ∙ case-placed cs a in
    rw (map-append case_arm ms (c ∷ []), append_assoc, at) e1

pub turn-end : (cs : List Case) (ns : List (List ℕ)) (i : ℕ) (ms : List Case) (x : List Arm)
    → length ns ≤ i → map case_arm ms ++ map (arm_called (map case_arm cs)) (drop i ns) ≡ x → map case_arm ms ≡ x
turn-end cs ns i ms x l e = let e1 = rw (drop_all i ns l, append-nil) at e in e1

pub ruleset turn_rules = (turn-next, turn-end)

-- ---- a name more among those of the cases so far

or-assoc : (a b c : Bool) → (a || (b || c)) ≡ ((a || b) || c)
or-assoc true b c = refl
or-assoc false b c = refl

pub has-push : (ns : List (List ℕ)) (m n : List ℕ) → has_name (ns ++ m ∷ []) n ≡ (has_name ns n || has_name (m ∷ []) n)
has-push [] m n = refl
has-push (k ∷ ns) m n = ap (λ t. same_text n k || t) (has-push ns m n) ∙ or-assoc (same_text n k) (has_name ns n) (has_name (m ∷ []) n)

seen-pick : (t : Bool) (at : ℕ) (o : Option ℕ) (b : Bool) → is_some o ≡ b → is_some (cond t (Some at) o) ≡ (b || (t || false))
seen-pick true at o true e = refl
seen-pick true at o false e = refl
seen-pick false at o true e = e
seen-pick false at o false e = e

pub seen-more : (old new : List (List ℕ × ℕ)) (n q : List ℕ) (at : ℕ) → found new q ≡ found ((n, at) ∷ old) q
    → has_name (keys_of new) q ≡ has_name (keys_of old ++ n ∷ []) q
seen-more old new n q at e =
    sym (has-keys new q) ∙ ap is_some e ∙ ap (λ t. is_some (cond t (Some at) (found old q))) (sym (same-is_eq q n))
    ∙ seen-pick (same_text q n) at (found old q) (has_name (keys_of old) q) (has-keys old q) ∙ sym (has-push (keys_of old) n q)
