-- Conversions, each once: one more, and the end.
use Rattle.std.specs.Prelude.{◌≡◌, ℕ, ◌+◌, ◌≤◌, ◌<◌, List, [], ◌∷◌, ◌++◌, length, Bool, true, false, ◌&&◌, cond, ◌||◌, map}
use Rattle.std.proofs.Common.{get_or, drop, refl, ◌∙◌, sym, ap, append_assoc, append-nil}
use Rattle.std.proofs.lemmas.List.{drop_more, drop_all, map-append}
use Rattle.std.proofs.lemmas.List.Folds.{list_any-append}
use Rattle.std.proofs.Math.Bool.{or-true, or-false}
use Rattle.std.specs.List.{list_any, flat_map}
use Rattle.std.specs.HashSet.{HashSet, IsEmpty, Updates}
use Rattle.witx_ast.specs.Tree.{Tree}
use Rattle.witx_ast.specs.Same.{same_tree}
use Rattle.witx_base.specs.SameBytes.{bool-iff, both, false-true}
use Rattle.witx_ast.specs.SameLaws.{same-to, same-self}
use Rattle.witx_compat.specs.declared.conversion.TypePolyfill.{TypePolyfill}
use Rattle.witx_compat.specs.declared.conversion.ParamPolyfill.{ParamPolyfill}
use Rattle.witx_compat.specs.declared.functions.FuncPolyfill.{FuncPolyfill}
use Rattle.witx_compat.specs.declared.modules.ModulePolyfill.{ModulePolyfill}
use Rattle.witx_compat.specs.contracts.conversion.TypePolyfillPartialEq.TheImpl as conversions
use Rattle.witx_compat.specs.Conversions.{Conversion, new_to_old, old_to_new}
use Rattle.witx_compat.specs.Once.{same_conversion, new_after, each_once, function_conversions, module_conversions}
use Rattle.witx_compat.specs.Seen.{TellsPairs, with_conversion, with_conversions}
use Rattle.witx_compat.specs.Views.{conversion_view, mapped_view, function_view, module_view}

-- the test of conversions holds exactly of equal ones

same-trees : (a b c d : Tree) → same_tree a c && same_tree b d ≡ true → (a ≡ c) × (b ≡ d)
same-trees a b c d h = let p = both _ _ h in (same-to a c p.0, same-to b d p.1)

pub conversion-to : (x y : Conversion) → same_conversion x y ≡ true → x ≡ y
conversion-to (new_to_old a b) (new_to_old c d) h = let p = same-trees a b c d h in rw (p.0, p.1) refl
conversion-to (old_to_new a b) (old_to_new c d) h = let p = same-trees a b c d h in rw (p.0, p.1) refl
conversion-to (new_to_old a b) (old_to_new c d) h = absurd (false-true h)
conversion-to (old_to_new a b) (new_to_old c d) h = absurd (false-true h)

pub conversion-self : (x : Conversion) → same_conversion x x ≡ true
conversion-self (new_to_old a b) = rw (same-self a, same-self b) refl
conversion-self (old_to_new a b) = rw (same-self a, same-self b) refl

same-from : (x y : Conversion) → x ≡ y → same_conversion x y ≡ true
same-from x y e = rw (← e) (conversion-self x)

swap : (x y : Conversion) → same_conversion x y ≡ same_conversion y x
swap x y = bool-iff (same_conversion x y) (same_conversion y x) (λ h. same-from y x (sym (conversion-to x y h))) (λ h. same-from x y (sym (conversion-to y x h)))

-- the program's test is the test of what it says
pub tested : (a b : TypePolyfill) → conversions.ghosts.eq a b ≡ same_conversion (conversion_view a) (conversion_view b)
tested (TypePolyfill.NewToOld a b) (TypePolyfill.NewToOld c d) = refl
tested (TypePolyfill.OldToNew a b) (TypePolyfill.OldToNew c d) = refl
tested (TypePolyfill.NewToOld a b) (TypePolyfill.OldToNew c d) = refl
tested (TypePolyfill.OldToNew a b) (TypePolyfill.NewToOld c d) = refl

-- a list after a list
pub once-append : (kept xs ys : List Conversion) → with_conversions kept (xs ++ ys) ≡ with_conversions (with_conversions kept xs) ys
once-append kept [] ys = refl
once-append kept (x ∷ xs) ys = once-append (with_conversion kept x) xs ys

-- the loops: what is kept so far, with what is left, makes the whole
pub next-conversion : (kept whole : List Conversion) (xs : List ParamPolyfill) (i : ℕ) (x : ParamPolyfill) → i < length xs → x ≡ get_or xs i x
    → with_conversions kept (map (λ m. m.conversion) (map mapped_view (drop i xs))) ≡ whole
    → with_conversions (with_conversion kept (conversion_view x.type_polyfill)) (map (λ m. m.conversion) (map mapped_view (drop (i + 1) xs))) ≡ whole
next-conversion kept whole xs i x l p h = rw (drop_more xs i x l, ← p) at h

pub last-conversion : (kept whole : List Conversion) (xs : List ParamPolyfill) (i : ℕ) → length xs ≤ i
    → with_conversions kept (map (λ m. m.conversion) (map mapped_view (drop i xs))) ≡ whole → kept ≡ whole
last-conversion kept whole xs i l h = rw (drop_all i xs l) at h

pub next-function : (kept whole : List Conversion) (xs : List FuncPolyfill) (i : ℕ) (x : FuncPolyfill) → i < length xs → x ≡ get_or xs i x
    → with_conversions kept (flat_map function_conversions (map function_view (drop i xs))) ≡ whole
    → with_conversions (with_conversions kept (function_conversions (function_view x))) (flat_map function_conversions (map function_view (drop (i + 1) xs))) ≡ whole
next-function kept whole xs i x l p h =
    sym (once-append kept (function_conversions (function_view x)) (flat_map function_conversions (map function_view (drop (i + 1) xs)))) ∙ (rw (drop_more xs i x l, ← p) at h)

pub last-function : (kept whole : List Conversion) (xs : List FuncPolyfill) (i : ℕ) → length xs ≤ i
    → with_conversions kept (flat_map function_conversions (map function_view (drop i xs))) ≡ whole → kept ≡ whole
last-function kept whole xs i l h = rw (drop_all i xs l) at h

pub next-module : (kept whole : List Conversion) (xs : List ModulePolyfill) (i : ℕ) (x : ModulePolyfill) → i < length xs → x ≡ get_or xs i x
    → with_conversions kept (flat_map module_conversions (map module_view (drop i xs))) ≡ whole
    → with_conversions (with_conversions kept (module_conversions (module_view x))) (flat_map module_conversions (map module_view (drop (i + 1) xs))) ≡ whole
next-module kept whole xs i x l p h =
    sym (once-append kept (module_conversions (module_view x)) (flat_map module_conversions (map module_view (drop (i + 1) xs)))) ∙ (rw (drop_more xs i x l, ← p) at h)

pub last-module : (kept whole : List Conversion) (xs : List ModulePolyfill) (i : ℕ) → length xs ≤ i
    → with_conversions kept (flat_map module_conversions (map module_view (drop i xs))) ≡ whole → kept ≡ whole
last-module kept whole xs i l h = rw (drop_all i xs l) at h

-- what is taken, one after the other, is what stands nowhere before
any-more : (t x : Conversion) (xs : List Conversion) → list_any (same_conversion t) (xs ++ x ∷ []) ≡ list_any (same_conversion t) xs || same_conversion t x
any-more t x xs = list_any-append (same_conversion t) xs (x ∷ []) ∙ ap (λ b. list_any (same_conversion t) xs || b) (or-false (same_conversion t x))

still-told : (x t : Conversion) (before : List Conversion) (b : Bool) → list_any (same_conversion x) before ≡ true → same_conversion t x ≡ b
    → list_any (same_conversion t) before ≡ list_any (same_conversion t) before || b
still-told x t before true h e = rw (conversion-to t x e, h) refl
still-told x t before false h e = sym (or-false (list_any (same_conversion t) before))

taken-one : (kept before : List Conversion) (x : Conversion) (b : Bool) → ((t : Conversion) → list_any (same_conversion t) kept ≡ list_any (same_conversion t) before)
    → list_any (same_conversion x) before ≡ b → (t : Conversion) → list_any (same_conversion t) (cond b kept (kept ++ x ∷ [])) ≡ list_any (same_conversion t) (before ++ x ∷ [])
taken-one kept before x true told h t = told t ∙ still-told x t before (same_conversion t x) h refl ∙ sym (any-more t x before)
taken-one kept before x false told h t = any-more t x kept ∙ ap (λ b. b || same_conversion t x) (told t) ∙ sym (any-more t x before)

taken-by : (kept before rest : List Conversion) (x : Conversion) (xs : List Conversion) (b : Bool) → ((t : Conversion) → list_any (same_conversion t) kept ≡ list_any (same_conversion t) before)
    → list_any (same_conversion x) before ≡ b
    → ((now : List Conversion) → ((t : Conversion) → list_any (same_conversion t) now ≡ list_any (same_conversion t) (before ++ x ∷ [])) → with_conversions now xs ≡ now ++ rest)
    → with_conversions (cond b kept (kept ++ x ∷ [])) xs ≡ kept ++ cond b rest (x ∷ rest)
taken-by kept before rest x xs true told h more = more kept (taken-one kept before x true told h)
taken-by kept before rest x xs false told h more = more (kept ++ x ∷ []) (taken-one kept before x false told h) ∙ append_assoc kept (x ∷ []) rest

taken-new : (kept before xs : List Conversion) → ((t : Conversion) → list_any (same_conversion t) kept ≡ list_any (same_conversion t) before)
    → with_conversions kept xs ≡ kept ++ new_after before xs
taken-new kept before [] told = sym (append-nil kept)
taken-new kept before (x ∷ xs) told =
    rw (told x) (taken-by kept before (new_after (before ++ x ∷ []) xs) x xs (list_any (same_conversion x) before) told refl (λ now t. taken-new now (before ++ x ∷ []) xs t))

pub taken-once : (xs : List Conversion) → with_conversions [] xs ≡ each_once xs
taken-once xs = taken-new [] [] xs (λ t. refl)

pub then-more : (kept next now xs ys : List Conversion) → next ≡ with_conversions kept xs → now ≡ with_conversions next ys → now ≡ with_conversions kept (xs ++ ys)
then-more kept next now xs ys e n = n ∙ ap (λ k. with_conversions k ys) e ∙ sym (once-append kept xs ys)

pub from-none : (kept : List TypePolyfill) (now xs : List Conversion) → kept ≡ [] → now ≡ with_conversions (map conversion_view kept) xs → now ≡ each_once xs
from-none kept now xs e n = n ∙ ap (λ ts. with_conversions (map conversion_view ts) xs) e ∙ taken-once xs

-- the set after one more, and the list after one more
pub none-told : {S : Type 0} (seen : HashSet TypePolyfill S) → IsEmpty seen → TellsPairs seen []
none-told seen e t = rw e refl

one-any : {X : Type 0} (p : X → Bool) (x : X) (xs : List X) (b s : Bool) → s ≡ list_any p xs → b ≡ p x → cond b true s ≡ list_any p (xs ++ x ∷ [])
one-any p x xs true s h k = rw (list_any-append p xs (x ∷ []), ← k) (sym (or-true (list_any p xs)))
one-any p x xs false s h k = rw (list_any-append p xs (x ∷ []), ← k, h) (sym (or-false (list_any p xs)))

pub told-more : {S : Type 0} (seen after : HashSet TypePolyfill S) (kept now : List TypePolyfill) (k c e : TypePolyfill) → TellsPairs seen kept
    → Updates conversions.ghosts.eq seen after k true → conversion_view k ≡ conversion_view e → conversion_view c ≡ conversion_view e → now ≡ kept ++ c ∷ [] → TellsPairs after now
told-more seen after kept now k c e told updates p q n t =
    let alike : conversions.ghosts.eq k t ≡ same_conversion (conversion_view t) (conversion_view c) =
    tested k t ∙ swap (conversion_view k) (conversion_view t) ∙ ap (same_conversion (conversion_view t)) (p ∙ sym q) in
    rw (n, map-append conversion_view kept (c ∷ []))
    (updates.0 t ∙ one-any (same_conversion (conversion_view t)) (conversion_view c) (map conversion_view kept) _ _ (told t) alike)

pub ruleset once_rules = (next-conversion, last-conversion, next-function, last-function, next-module, last-module, once-append, then-more, from-none, none-told)
