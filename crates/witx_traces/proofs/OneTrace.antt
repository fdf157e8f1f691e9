-- A text gives at most one list of traces.
use Rattle.std.proofs.Common.{◌≡◌, ℕ, zero, suc, ◌+◌, List, [], ◌∷◌, ◌++◌, length, take, true, false, refl, sym, ap, ◌∙◌, subst, arith, append_assoc}
use Rattle.std.specs.Prelude.{codes, drop}
use Rattle.std.specs.List.{AllByRecursion}
use Rattle.witx_ast.specs.declared.function.Abi.{Abi}
use Rattle.witx_ast.specs.Items.{ItemTree, import_of, func_of}
use Rattle.witx_ast.specs.Definitions.{DefinitionTree, typename_of, module_of, constant_of}
use Rattle.witx_machine.specs.Events.{Event}
use Rattle.witx_layout.specs.declared.layout.SizeAlign.{SizeAlign}
use Rattle.witx_adapt.specs.Entries.{Lowered}
use Rattle.witx_adapt.specs.Lines.{event_line, event_lines, event_text}
use Rattle.witx_adapt.specs.Listings.{constant_line, module_line, import_line, listed_func_line, func_lines, side_lines, listed_typename_lines, item_lines, func_count, listed_definition_lines}
use Rattle.witx_traces.specs.Passages.{indented}
use Rattle.witx_traces.specs.Traces.{Types, known_of, ended, IsSayable, AreSayable, Listed, Offered, Sides, FitFunctions, GivesTraces, with_sides, function_number, HasEachEntry}
use Rattle.witx_traces.proofs.OneEvent.{one-event}
use Rattle.witx_traces.proofs.UnfitLines.{line-cut}

rest-of : (a b : ℕ) (xs ys : List ℕ) → a ∷ xs ≡ b ∷ ys → xs ≡ ys
rest-of a b xs ys e = cc

first-of : (a b : ℕ) (xs ys : List ℕ) → a ∷ xs ≡ b ∷ ys → a ≡ b
first-of a b xs ys e = cc

-- what both texts begin with
behind-same : (xs ys zs : List ℕ) → xs ++ ys ≡ xs ++ zs → ys ≡ zs
behind-same [] ys zs e = e
behind-same (x ∷ xs) ys zs e = behind-same xs ys zs (rest-of x x _ _ e)

-- ---- the events of one side

line-flat : (e : Event) (es : List Event) (r : List ℕ) → event_lines (e ∷ es) ++ r ≡ 32 ∷ 32 ∷ (ended (event_text e) ++ (event_lines es ++ r))
line-flat e es r = append_assoc (event_line e) (event_lines es) r

side-same : (types : Types) (es ds : List Event) (r t : List ℕ) → AllByRecursion (IsSayable types) es → AllByRecursion (IsSayable types) ds → indented r ≡ false → indented t ≡ false
    → event_lines es ++ r ≡ event_lines ds ++ t → (es ≡ ds) × (r ≡ t)
side-same types [] [] r t f g p q e = (refl, e)
side-same types [] (d ∷ ds) r t f g p q e = let wrong : false ≡ true = sym p ∙ ap indented e in absurd (cc)
side-same types (c ∷ es) [] r t f g p q e = let wrong : false ≡ true = sym q ∙ ap indented (sym e) in absurd (cc)
side-same types (c ∷ es) (d ∷ ds) r t f g p q e =
    let flat = rest-of 32 32 _ _ (rest-of 32 32 _ _ (sym (line-flat c es r) ∙ (e ∙ line-flat d ds t))) in
    let here = line-cut (event_text c) (event_text d) (event_lines es ++ r) (event_lines ds ++ t) f.0.1 g.0.1 flat in
    let more = side-same types es ds r t f.1 g.1 p q here.1 in
    (ap (λ z. z ∷ es) (one-event types (event_text d) c d (here.0, f.0.0) (refl, g.0.0)) ∙ ap (λ z. d ∷ z) more.0, more.1)

-- ---- the two sides of a function

abbrev pub with_events : Lowered → Sides → Lowered
with_events f s = record { params = f.params; results = f.results; caller = s.caller; callee = s.callee }

pub func-flat : (name : List ℕ) (abi : Abi) (f : Lowered) (s : Sides) (r : List ℕ)
    → func_lines name abi (with_events f s) ++ r
    ≡ listed_func_line name abi f.params f.results ++ (codes "caller\n" ++ (event_lines s.caller ++ (codes "callee\n" ++ (event_lines s.callee ++ r))))
func-flat name abi f s r =
    append_assoc (listed_func_line name abi f.params f.results ++ side_lines (codes "caller") s.caller) (side_lines (codes "callee") s.callee) r
    ∙ (append_assoc (listed_func_line name abi f.params f.results) (side_lines (codes "caller") s.caller) (side_lines (codes "callee") s.callee ++ r)
    ∙ ap (λ z. listed_func_line name abi f.params f.results ++ z) (append_assoc (codes "caller\n") (event_lines s.caller) (side_lines (codes "callee") s.callee ++ r)
    ∙ ap (λ z. codes "caller\n" ++ (event_lines s.caller ++ z)) (append_assoc (codes "callee\n") (event_lines s.callee) r)))

func-same : (types : Types) (name : List ℕ) (abi : Abi) (f : Lowered) (s u : Sides) (r t : List ℕ) → AreSayable types s → AreSayable types u → indented r ≡ false → indented t ≡ false
    → func_lines name abi (with_events f s) ++ r ≡ func_lines name abi (with_events f u) ++ t → (s ≡ u) × (r ≡ t)
func-same types name abi f s u r t a b p q e =
    let front = behind-same (codes "caller\n") _ _ (behind-same (listed_func_line name abi f.params f.results) _ _ (sym (func-flat name abi f s r) ∙ (e ∙ func-flat name abi f u t))) in
    let one = side-same types s.caller u.caller _ _ a.0 b.0 refl refl front in
    let two = side-same types s.callee u.callee r t a.1 b.1 p q (behind-same (codes "callee\n") _ _ one.1) in
    (ap (λ z. record { caller = z; callee = s.callee }) one.0 ∙ ap (λ z. record { caller = u.caller; callee = z }) two.0, two.1)

-- ---- the functions of a module, and of the definitions

items-plain : (items : List ItemTree) (fs : List Lowered) (r : List ℕ) → indented r ≡ false → indented (item_lines items fs ++ r) ≡ false
items-plain [] fs r p = p
items-plain (import_of i ∷ items) fs r p = refl
items-plain (func_of f ∷ items) [] r p = items-plain items [] r p
items-plain (func_of f ∷ items) (l ∷ fs) r p = refl

definitions-plain : (ds : List DefinitionTree) (fs : List Lowered) (ls : List SizeAlign) → indented (listed_definition_lines ds fs ls) ≡ false
definitions-plain [] fs ls = refl
definitions-plain (typename_of name t docs ∷ ds) fs [] = definitions-plain ds fs []
definitions-plain (typename_of name t docs ∷ ds) fs (l ∷ ls) = refl
definitions-plain (module_of m ∷ ds) fs ls = refl
definitions-plain (constant_of c ∷ ds) fs ls = refl

-- the first of two lists are the same
abbrev Alike : ℕ → List Sides → List Sides → Type 0
Alike n ss us = take n ss ≡ take n us

alike-more : (n k : ℕ) (s u : Sides) (ss us : List Sides) → n ≡ suc k → s ≡ u → Alike k ss us → Alike n (s ∷ ss) (u ∷ us)
alike-more n k s u ss us e f g = subst (λ j. take j (s ∷ ss) ≡ take j (u ∷ us)) (sym e) (ap (λ z. z ∷ take k ss) f ∙ ap (λ z. u ∷ z) g)

items-same : (all : List DefinitionTree) (items : List ItemTree) (fs : List Offered) (ss us : List Sides) (r t : List ℕ) → FitFunctions all fs ss → FitFunctions all fs us → indented r ≡ false → indented t ≡ false
    → item_lines items (with_sides fs ss) ++ r ≡ item_lines items (with_sides fs us) ++ t → Alike (func_count items) ss us × (r ≡ t)
items-same all [] fs ss us r t a b p q e = (refl, e)
items-same all (import_of i ∷ items) fs ss us r t a b p q e =
    items-same all items fs ss us r t a b p q
    (behind-same (import_line i.name) _ _ (sym (append_assoc (import_line i.name) (item_lines items (with_sides fs ss)) r) ∙ (e ∙ append_assoc (import_line i.name) (item_lines items (with_sides fs us)) t)))
items-same all (func_of f ∷ items) [] [] [] r t a b p q e = (refl, (items-same all items [] [] [] r t tt tt p q e).1)
items-same all (func_of f ∷ items) [] [] (u ∷ us) r t a b p q e = absurd b
items-same all (func_of f ∷ items) [] (s ∷ ss) us r t a b p q e = absurd a
items-same all (func_of f ∷ items) (l ∷ fs) [] us r t a b p q e = absurd a
items-same all (func_of f ∷ items) (l ∷ fs) (s ∷ ss) [] r t a b p q e = absurd b
items-same all (func_of f ∷ items) (l ∷ fs) (s ∷ ss) (u ∷ us) r t a b p q e =
    let here = func-same (known_of all l.function) f.name f.abi l.lowered s u (item_lines items (with_sides fs ss) ++ r) (item_lines items (with_sides fs us) ++ t) a.0 b.0
    (items-plain items (with_sides fs ss) r p) (items-plain items (with_sides fs us) t q)
    (sym (append_assoc (func_lines f.name f.abi (with_events l.lowered s)) (item_lines items (with_sides fs ss)) r)
    ∙ (e ∙ append_assoc (func_lines f.name f.abi (with_events l.lowered u)) (item_lines items (with_sides fs us)) t)) in
    let more = items-same all items fs ss us r t a.1 b.1 p q here.1 in
    (alike-more (1 + func_count items) (func_count items) s u ss us (omega arith) here.0 more.0, more.1)

-- behind the first of them
pub sides-behind : (n : ℕ) (fs : List Offered) (ss : List Sides) → drop n (with_sides fs ss) ≡ with_sides (drop n fs) (drop n ss)
sides-behind zero fs ss = refl
sides-behind (suc n) [] [] = refl
sides-behind (suc n) [] (s ∷ ss) = refl
sides-behind (suc n) (f ∷ fs) [] = nothing n fs
  where
    nothing : (n : ℕ) (fs : List Offered) → [] ≡ with_sides (drop n fs) []
    nothing zero [] = refl
    nothing zero (f ∷ fs) = refl
    nothing (suc n) [] = refl
    nothing (suc n) (f ∷ fs) = nothing n fs
sides-behind (suc n) (f ∷ fs) (s ∷ ss) = sides-behind n fs ss

fits-behind : (all : List DefinitionTree) (n : ℕ) (fs : List Offered) (ss : List Sides) → FitFunctions all fs ss → FitFunctions all (drop n fs) (drop n ss)
fits-behind all zero fs ss a = a
fits-behind all (suc n) [] [] a = tt
fits-behind all (suc n) [] (s ∷ ss) a = absurd a
fits-behind all (suc n) (f ∷ fs) [] a = absurd a
fits-behind all (suc n) (f ∷ fs) (s ∷ ss) a = fits-behind all n fs ss a.1

alike-both : (n k : ℕ) (ss us : List Sides) → Alike n ss us → Alike k (drop n ss) (drop n us) → Alike (n + k) ss us
alike-both zero k ss us f g = subst (λ j. take j ss ≡ take j us) (omega arith) g
alike-both (suc n) k [] [] f g = refl
alike-both (suc n) k [] (u ∷ us) f g = absurd (cc)
alike-both (suc n) k (s ∷ ss) [] f g = absurd (cc)
alike-both (suc n) k (s ∷ ss) (u ∷ us) f g = alike-more (suc n + k) (n + k) s u ss us (omega arith) (heads s u _ _ f) (alike-both n k ss us (tails s u _ _ f) g)
  where
    heads : (x y : Sides) (xs ys : List Sides) → x ∷ xs ≡ y ∷ ys → x ≡ y
    heads x y xs ys e = cc

    tails : (x y : Sides) (xs ys : List Sides) → x ∷ xs ≡ y ∷ ys → xs ≡ ys
    tails x y xs ys e = cc

definitions-same : (all ds : List DefinitionTree) (fs : List Offered) (ss us : List Sides) (ls : List SizeAlign) → FitFunctions all fs ss → FitFunctions all fs us
    → listed_definition_lines ds (with_sides fs ss) ls ≡ listed_definition_lines ds (with_sides fs us) ls → Alike (function_number ds) ss us
definitions-same all [] fs ss us ls a b e = refl
definitions-same all (typename_of name t docs ∷ ds) fs ss us ls a b e = definitions-same all ds fs ss us (drop 1 ls) a b (behind-same (listed_typename_lines name ls) _ _ e)
definitions-same all (constant_of c ∷ ds) fs ss us ls a b e = definitions-same all ds fs ss us ls a b (behind-same (constant_line c) _ _ e)
definitions-same all (module_of m ∷ ds) fs ss us ls a b e =
    let rest : List Sides → List ℕ = λ sides. listed_definition_lines ds (drop (func_count m.items) (with_sides fs sides)) ls in
    let flat : (sides : List Sides) → (module_line m.name ++ item_lines m.items (with_sides fs sides)) ++ rest sides ≡ module_line m.name ++ (item_lines m.items (with_sides fs sides) ++ rest sides)
    = λ sides. append_assoc (module_line m.name) (item_lines m.items (with_sides fs sides)) (rest sides) in
    let here = items-same all m.items fs ss us (rest ss) (rest us) a b
    (definitions-plain ds (drop (func_count m.items) (with_sides fs ss)) ls) (definitions-plain ds (drop (func_count m.items) (with_sides fs us)) ls)
    (behind-same (module_line m.name) _ _ (sym (flat ss) ∙ (e ∙ flat us))) in
    let more = definitions-same all ds (drop (func_count m.items) fs) (drop (func_count m.items) ss) (drop (func_count m.items) us) ls
    (fits-behind all (func_count m.items) fs ss a) (fits-behind all (func_count m.items) fs us b)
    (ap (λ z. listed_definition_lines ds z ls) (sym (sides-behind (func_count m.items) fs ss)) ∙ (here.1 ∙ ap (λ z. listed_definition_lines ds z ls) (sides-behind (func_count m.items) fs us))) in
    alike-both (func_count m.items) (function_number ds) ss us here.0 more

-- ---- all of them

pub whole-list : (ss : List Sides) (n : ℕ) → n ≡ length ss → take n ss ≡ ss
whole-list [] zero e = refl
whole-list [] (suc n) e = refl
whole-list (s ∷ ss) zero e = absurd (omega (arith, e))
whole-list (s ∷ ss) (suc n) e = ap (λ z. s ∷ z) (whole-list ss n (omega (arith, e)))

pub each-side : (all : List DefinitionTree) (fs : List Offered) (ss : List Sides) → FitFunctions all fs ss → length fs ≡ length ss
each-side all [] [] a = refl
each-side all [] (s ∷ ss) a = absurd a
each-side all (f ∷ fs) [] a = absurd a
each-side all (f ∷ fs) (s ∷ ss) a = let more = each-side all fs ss a.1 in omega (arith, more)

pub one-trace : (l : Listed) (text : List ℕ) (ss us : List Sides) → HasEachEntry l → GivesTraces l text ss → GivesTraces l text us → ss ≡ us
one-trace l text ss us each f g =
    let same = definitions-same l.definitions l.definitions l.functions ss us l.layouts f.1 g.1 (sym f.0 ∙ g.0) in
    sym (whole-list ss (function_number l.definitions) (sym each ∙ each-side l.definitions l.functions ss f.1))
    ∙ (same ∙ whole-list us (function_number l.definitions) (sym each ∙ each-side l.definitions l.functions us g.1))
