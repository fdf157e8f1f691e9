-- A text that gives traces has no unfit line, and a text has at most one.
use Rattle.std.proofs.Common.{◌≡◌, ℕ, ◌<◌, List, [], ◌∷◌, ◌++◌, length, Bool, true, false, refl, sym, ap, ◌∙◌, subst, arith, ◌==◌, append_assoc, if◌then◌else◌}
use Rattle.std.specs.Prelude.{codes, drop}
use Rattle.std.specs.Fmt.{decimal}
use Rattle.std.specs.List.{AllByRecursion, flat_map}
use Rattle.std.proofs.lemmas.Bool.Decides.{nat_tests}
use Rattle.witx_ast.specs.declared.function.Abi.{Abi}
use Rattle.witx_ast.specs.Items.{ItemTree, import_of, func_of}
use Rattle.witx_ast.specs.Definitions.{DefinitionTree, typename_of, module_of, constant_of}
use Rattle.witx_machine.specs.Events.{Event}
use Rattle.witx_layout.specs.declared.layout.SizeAlign.{SizeAlign}
use Rattle.witx_adapt.specs.Entries.{Lowered}
use Rattle.witx_adapt.specs.Names.{in_quotes, signature}
use Rattle.witx_adapt.specs.Lines.{event_line, event_lines, event_text}
use Rattle.witx_adapt.specs.Listings.{constant_line, module_line, import_line, listed_func_line, func_lines, side_lines, stored_mark, listed_typename_lines, next_func_lines, item_lines, func_count, listed_definition_lines}
use Rattle.witx_traces.specs.Passages.{is_ended}
use Rattle.witx_traces.specs.Traces.{one_line, ended, Listed, Sides, GivesTraces, CanBegin, IsUnfit, with_sides}

-- ---- lines, one by one

abbrev AllOne : List (List ℕ) → Type 0
AllOne lines = AllByRecursion (λ line. one_line line ≡ true) lines

abbrev whole : List (List ℕ) → List ℕ
whole lines = flat_map ended lines

no-feed : (b : ℕ) (t : Bool) (rest : Bool) → (b == 10) ≡ t → (if t then false else rest) ≡ true → (b ≡ 10 → ⊥) × (rest ≡ true)
no-feed b true rest h e = absurd (cc)
no-feed b false rest h e = (λ is. grind (arith, nat_tests), e)

feed-is : (b : ℕ) → (b == 10) ≡ true → b ≡ 10
feed-is b e = grind (arith, nat_tests)

head-same : (a b : ℕ) (xs ys : List ℕ) → a ∷ xs ≡ b ∷ ys → a ≡ b
head-same a b xs ys e = cc

tail-same : (a b : ℕ) (xs ys : List ℕ) → a ∷ xs ≡ b ∷ ys → xs ≡ ys
tail-same a b xs ys e = cc

-- a text begins with one line alone
pub line-cut : (x y r t : List ℕ) → one_line x ≡ true → one_line y ≡ true → ended x ++ r ≡ ended y ++ t → (x ≡ y) × (r ≡ t)
line-cut [] [] r t f g e = (refl, tail-same _ _ r t e)
line-cut [] (b ∷ y) r t f g e = absurd ((no-feed b (b == 10) (one_line y) refl g).0 (sym (head-same _ _ r _ e)))
line-cut (a ∷ x) [] r t f g e = absurd ((no-feed a (a == 10) (one_line x) refl f).0 (head-same _ _ _ t e))
line-cut (a ∷ x) (b ∷ y) r t f g e =
    let more = line-cut x y r t (no-feed a (a == 10) (one_line x) refl f).1 (no-feed b (b == 10) (one_line y) refl g).1 (tail-same a b _ _ e) in
    (ap (λ z. z ∷ x) (head-same a b _ _ e) ∙ ap (λ z. b ∷ z) more.0, more.1)

-- of two ways to begin a text with lines, the longer goes on with a line behind the shorter
record GoesOn (xs ys : List (List ℕ)) (r : List ℕ) : Type 0 where
  line : List ℕ
  more : List ℕ
  others : List (List ℕ)
  one : one_line line ≡ true
  next : r ≡ ended line ++ more
  same : whole ys ≡ (whole xs ++ ended line) ++ whole others

goes-on : (xs ys : List (List ℕ)) (r t : List ℕ) → AllOne xs → AllOne ys → whole xs ++ r ≡ whole ys ++ t → length xs < length ys → GoesOn xs ys r
goes-on [] [] r t f g e l = absurd (omega (arith, l))
goes-on (x ∷ xs) [] r t f g e l = absurd (omega (arith, l))
goes-on [] (y ∷ ys) r t f g e l = record { line = y; more = whole ys ++ t; others = ys; one = g.0; next = e ∙ append_assoc (ended y) (whole ys) t; same = refl }
goes-on (x ∷ xs) (y ∷ ys) r t f g e l =
    let flat : ended x ++ (whole xs ++ r) ≡ ended y ++ (whole ys ++ t) = sym (append_assoc (ended x) (whole xs) r) ∙ (e ∙ append_assoc (ended y) (whole ys) t) in
    let cut = line-cut x y (whole xs ++ r) (whole ys ++ t) f.0 g.0 flat in
    let behind = goes-on xs ys r t f.1 g.1 cut.1 (omega (arith, l)) in
    let same =
    ap (λ z. ended y ++ z) behind.same
    ∙ (ap (λ z. ended z ++ ((whole xs ++ ended behind.line) ++ whole behind.others)) (sym cut.0)
    ∙ (sym (append_assoc (ended x) (whole xs ++ ended behind.line) (whole behind.others))
    ∙ ap (λ z. z ++ whole behind.others) (sym (append_assoc (ended x) (whole xs) (ended behind.line))))) in
    record { line = behind.line; more = behind.more; others = behind.others; one = behind.one; next = behind.next; same = same }

-- what begins such a text, begins one with any part of it
front-begins : (l : Listed) (front more : List ℕ) → CanBegin l (front ++ more) → CanBegin l front
front-begins l front more (behind, sides, gives) = (more ++ behind, sides, (sym (append_assoc front more behind) ∙ gives.0, gives.1))

not-less : (l : Listed) (text : List ℕ) (j k : ℕ) → IsUnfit l text j → IsUnfit l text k → j < k → ⊥
not-less l text j k u v less =
    let on = goes-on u.before v.before u.rest v.rest u.lines v.lines (sym u.whole ∙ v.whole) (omega (arith, less, u.counted, v.counted)) in
    u.stops on.line on.more on.one on.next (front-begins l (flat_map ended u.before ++ ended on.line) (whole on.others) (subst (CanBegin l) on.same v.begins))

equal-unless : (j k : ℕ) → (j < k → ⊥) → (k < j → ⊥) → j ≡ k
equal-unless j k f g = grind (arith)

pub one-unfit : (l : Listed) (text : List ℕ) (j k : ℕ) → IsUnfit l text j → IsUnfit l text k → j ≡ k
one-unfit l text j k u v = equal-unless j k (not-less l text j k u v) (not-less l text k j v u)

-- ---- a listing ends with a line feed, unless it has no line

pub ends-feed : (xs : List ℕ) → is_ended (xs ++ (10 ∷ [])) ≡ true
ends-feed [] = refl
ends-feed (b ∷ []) = refl
ends-feed (b ∷ c ∷ cs) = ends-feed (c ∷ cs)

pub ends-more : (b : ℕ) (xs ys : List ℕ) → is_ended (b ∷ xs) ≡ true → is_ended ys ≡ true → is_ended (b ∷ (xs ++ ys)) ≡ true
ends-more b [] [] e f = e
ends-more b [] (y ∷ ys) e f = f
ends-more b (x ∷ xs) ys e f = ends-more x xs ys e f

pub ends-both : (xs ys : List ℕ) → is_ended xs ≡ true → is_ended ys ≡ true → is_ended (xs ++ ys) ≡ true
ends-both [] ys e f = f
ends-both (x ∷ xs) ys e f = ends-more x xs ys e f

ends-cons : (b : ℕ) (xs : List ℕ) → is_ended (b ∷ xs) ≡ true → is_ended xs ≡ true
ends-cons b [] e = refl
ends-cons b (x ∷ xs) e = e

ends-behind : (xs ys : List ℕ) → is_ended (xs ++ ys) ≡ true → is_ended ys ≡ true
ends-behind [] ys e = e
ends-behind (x ∷ xs) ys e = ends-behind xs ys (ends-cons x (xs ++ ys) e)

-- the first line of a text that ends so
record FirstLine (text : List ℕ) : Type 0 where
  line : List ℕ
  more : List ℕ
  one : one_line line ≡ true
  same : text ≡ ended line ++ more

at-feed : (b : ℕ) (more : List ℕ) → b ≡ 10 → FirstLine (b ∷ more)
at-feed b more e = record { line = []; more = more; one = refl; same = ap (λ z. z ∷ more) e }

pub one-more : (b : ℕ) (line : List ℕ) → (b == 10) ≡ false → one_line line ≡ true → one_line (b ∷ line) ≡ true
one-more b line e f = ap (λ t. if t then false else one_line line) e ∙ f

past : (b : ℕ) (text : List ℕ) (t : Bool) → (b == 10) ≡ t → FirstLine text → FirstLine (b ∷ text)
past b text true e f = at-feed b text (feed-is b e)
past b text false e f = record { line = b ∷ f.line; more = f.more; one = one-more b f.line e f.one; same = ap (λ z. b ∷ z) f.same }

first-line : (b : ℕ) (text : List ℕ) → is_ended (b ∷ text) ≡ true → FirstLine (b ∷ text)
first-line b [] e = at-feed b [] (feed-is b e)
first-line b (c ∷ text) e = past b (c ∷ text) (b == 10) refl (first-line c text e)

events-end : (es : List Event) → is_ended (event_lines es) ≡ true
events-end [] = refl
events-end (e ∷ es) = ends-both (event_line e) (event_lines es) (ends-feed (codes "  " ++ event_text e)) (events-end es)

side-ends : (side : List ℕ) (es : List Event) → is_ended (side_lines side es) ≡ true
side-ends side es = ends-both (side ++ codes "\n") (event_lines es) (ends-feed side) (events-end es)

func-ends : (name : List ℕ) (abi : Abi) (f : Lowered) → is_ended (func_lines name abi f) ≡ true
func-ends name abi f = ends-both (listed_func_line name abi f.params f.results ++ side_lines (codes "caller") f.caller) (side_lines (codes "callee") f.callee)
    (ends-both (listed_func_line name abi f.params f.results) (side_lines (codes "caller") f.caller) (ends-feed (codes "func " ++ in_quotes name ++ codes " " ++ signature f.params f.results ++ stored_mark abi)) (side-ends (codes "caller") f.caller))
    (side-ends (codes "callee") f.callee)

next-ends : (name : List ℕ) (abi : Abi) (fs : List Lowered) → is_ended (next_func_lines name abi fs) ≡ true
next-ends name abi [] = refl
next-ends name abi (f ∷ fs) = func-ends name abi f

items-end : (items : List ItemTree) (fs : List Lowered) → is_ended (item_lines items fs) ≡ true
items-end [] fs = refl
items-end (import_of i ∷ items) fs = ends-both (import_line i.name) (item_lines items fs) (ends-feed (codes "import " ++ in_quotes i.name ++ codes " memory")) (items-end items fs)
items-end (func_of f ∷ items) fs = ends-both (next_func_lines f.name f.abi fs) (item_lines items (drop 1 fs)) (next-ends f.name f.abi fs) (items-end items (drop 1 fs))

typename-ends : (name : List ℕ) (ls : List SizeAlign) → is_ended (listed_typename_lines name ls) ≡ true
typename-ends name [] = refl
typename-ends name (l ∷ ls) = ends-feed (codes "typename " ++ name ++ codes " size " ++ decimal l.size ++ codes " align " ++ decimal l.align)

listing-ends : (ds : List DefinitionTree) (fs : List Lowered) (ls : List SizeAlign) → is_ended (listed_definition_lines ds fs ls) ≡ true
listing-ends [] fs ls = refl
listing-ends (typename_of name t docs ∷ ds) fs ls = ends-both (listed_typename_lines name ls) (listed_definition_lines ds fs (drop 1 ls)) (typename-ends name ls) (listing-ends ds fs (drop 1 ls))
listing-ends (module_of m ∷ ds) fs ls =
    ends-both (module_line m.name ++ item_lines m.items fs) (listed_definition_lines ds (drop (func_count m.items) fs) ls)
    (ends-both (module_line m.name) (item_lines m.items fs) (ends-feed (codes "module " ++ m.name)) (items-end m.items fs))
    (listing-ends ds (drop (func_count m.items) fs) ls)
listing-ends (constant_of c ∷ ds) fs ls = ends-both (constant_line c) (listed_definition_lines ds fs ls) (ends-feed (codes "const " ++ c.ty ++ codes " " ++ c.name ++ codes " " ++ decimal c.value)) (listing-ends ds fs ls)

-- ---- traces leave no line unfit

nothing-left : (l : Listed) (text : List ℕ) (k : ℕ) (u : IsUnfit l text k) (sides : List Sides) → GivesTraces l text sides → (rest : List ℕ) → rest ≡ u.rest → ⊥
nothing-left l text k u sides gives [] e = u.missing (sym e) sides gives
nothing-left l text k u sides gives (b ∷ more) e =
    let whole-text : text ≡ flat_map ended u.before ++ (b ∷ more) = u.whole ∙ ap (λ z. flat_map ended u.before ++ z) (sym e) in
    let ended-so : is_ended text ≡ true = ap is_ended gives.0 ∙ listing-ends l.definitions (with_sides l.functions sides) l.layouts in
    let first = first-line b more (ends-behind (flat_map ended u.before) (b ∷ more) (ap is_ended (sym whole-text) ∙ ended-so)) in
    let same : text ≡ (flat_map ended u.before ++ ended first.line) ++ first.more
    = whole-text ∙ (ap (λ z. flat_map ended u.before ++ z) first.same ∙ sym (append_assoc (flat_map ended u.before) (ended first.line) first.more)) in
    u.stops first.line first.more first.one (sym e ∙ first.same) (first.more, sides, (sym same ∙ gives.0, gives.1))

pub no-unfit : (l : Listed) (text : List ℕ) (k : ℕ) (sides : List Sides) → GivesTraces l text sides → IsUnfit l text k → ⊥
no-unfit l text k sides gives u = nothing-left l text k u sides gives u.rest refl
