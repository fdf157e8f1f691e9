-- The passages of a listing, with events, are the listing with those events; and their fixed texts are whole lines.
use Rattle.std.proofs.Common.{◌≡◌, ℕ, zero, suc, ◌+◌, ◌≤◌, List, [], ◌∷◌, ◌++◌, length, take, map, refl, sym, ap, ◌∙◌, subst, arith, append_assoc, append-nil}
use Rattle.std.specs.Prelude.{codes, drop}
use Rattle.std.specs.Fmt.{decimal}
use Rattle.witx_ast.specs.declared.function.Abi.{Abi}
use Rattle.witx_ast.specs.Items.{ItemTree, import_of, func_of}
use Rattle.witx_ast.specs.Definitions.{DefinitionTree, typename_of, module_of, constant_of}
use Rattle.witx_layout.specs.declared.layout.SizeAlign.{SizeAlign}
use Rattle.witx_adapt.specs.Names.{in_quotes, signature}
use Rattle.witx_adapt.specs.Lines.{event_lines}
use Rattle.witx_adapt.specs.Listings.{constant_line, module_line, import_line, listed_func_line, func_lines, stored_mark, listed_typename_lines, item_lines, func_count, listed_definition_lines}
use Rattle.witx_traces.specs.Traces.{Listed, Offered, Sides, HasEachEntry, function_number, listing_with, with_sides}
use Rattle.witx_traces.specs.Passages.{AreFixed, Draft, IsFixed, IsLast, Passage, nothing_put, pair_text, passages_of, put, put_definitions, put_func, put_items}
use Rattle.witx_traces.proofs.OneTrace.{func-flat, sides-behind, whole-list, with_events}
use Rattle.witx_traces.proofs.UnfitLines.{ends-both, ends-feed}

-- ---- the text of passages

-- with these events; without any, where there are none for a passage
abbrev pub woven : List Passage → List Sides → List ℕ → List ℕ
woven [] us last = last
woven (p ∷ ps) [] last = p.fixed ++ (codes "callee\n" ++ woven ps [] last)
woven (p ∷ ps) (s ∷ ss) last = pair_text p s (woven ps ss last)

abbrev worth : Draft → List Sides → List ℕ
worth d us = woven d.done us d.text

pair-more : (p : Passage) (s : Sides) (m x : List ℕ) → pair_text p s (m ++ x) ≡ pair_text p s m ++ x
pair-more p s m x = sym (append_assoc p.fixed (event_lines s.caller ++ (codes "callee\n" ++ (event_lines s.callee ++ m))) x
    ∙ ap (λ z. p.fixed ++ z) (append_assoc (event_lines s.caller) (codes "callee\n" ++ (event_lines s.callee ++ m)) x
    ∙ ap (λ z. event_lines s.caller ++ z) (append_assoc (codes "callee\n") (event_lines s.callee ++ m) x
    ∙ ap (λ z. codes "callee\n" ++ z) (append_assoc (event_lines s.callee) m x))))

woven-more : (ps : List Passage) (us : List Sides) (m x : List ℕ) → woven ps us (m ++ x) ≡ woven ps us m ++ x
woven-more [] us m x = refl
woven-more (p ∷ ps) [] m x =
    ap (λ z. p.fixed ++ (codes "callee\n" ++ z)) (woven-more ps [] m x)
    ∙ (ap (λ z. p.fixed ++ z) (sym (append_assoc (codes "callee\n") (woven ps [] m) x)) ∙ sym (append_assoc p.fixed (codes "callee\n" ++ woven ps [] m) x))
woven-more (p ∷ ps) (s ∷ us) m x = ap (pair_text p s) (woven-more ps us m x) ∙ pair-more p s (woven ps us m) x

woven-end : (ps : List Passage) (us : List Sides) (p : Passage) (s : Sides) (last : List ℕ) → length us ≡ length ps → woven (ps ++ p ∷ []) (us ++ s ∷ []) last ≡ woven ps us (pair_text p s last)
woven-end [] [] p s last e = refl
woven-end [] (u ∷ us) p s last e = absurd (omega (arith, e))
woven-end (q ∷ ps) [] p s last e = absurd (omega (arith, e))
woven-end (q ∷ ps) (u ∷ us) p s last e = ap (pair_text q u) (woven-end ps us p s last (omega (arith, e)))

-- ---- a function

-- the lines of a function, as its head and its two sides
func-lines : (name : List ℕ) (abi : Abi) (f : Offered) (s : Sides) (front : List ℕ)
    → pair_text (record { fixed = front ++ (listed_func_line name abi f.lowered.params f.lowered.results ++ codes "caller\n"); function = f }) s []
    ≡ front ++ func_lines name abi (with_events f.lowered s)
func-lines name abi f s front =
    let head = listed_func_line name abi f.lowered.params f.lowered.results in
    let behind = event_lines s.caller ++ (codes "callee\n" ++ (event_lines s.callee ++ [])) in
    append_assoc front (head ++ codes "caller\n") behind
    ∙ ap (λ z. front ++ z) (append_assoc head (codes "caller\n") behind ∙ (sym (func-flat name abi f.lowered s []) ∙ append-nil (func_lines name abi (with_events f.lowered s))))

func-worth : (name : List ℕ) (abi : Abi) (f : Offered) (fs : List Offered) (s : Sides) (d : Draft) (us : List Sides) → length us ≡ length d.done
    → worth (put_func name abi (f ∷ fs) d) (us ++ s ∷ []) ≡ worth d us ++ func_lines name abi (with_events f.lowered s)
func-worth name abi f fs s d us e =
    woven-end d.done us (record { fixed = d.text ++ (listed_func_line name abi f.lowered.params f.lowered.results ++ codes "caller\n"); function = f }) s [] e
    ∙ (ap (woven d.done us) (func-lines name abi f s d.text) ∙ woven-more d.done us d.text (func_lines name abi (with_events f.lowered s)))

-- ---- all functions

functions : List Passage → List Offered
functions ps = map (λ p. p.function) ps

functions-end : (ps : List Passage) (p : Passage) → functions (ps ++ p ∷ []) ≡ functions ps ++ p.function ∷ []
unfolding functions
functions-end [] p = refl
functions-end (q ∷ ps) p = ap (λ z. q.function ∷ z) (functions-end ps p)

-- what a draft becomes: as many functions more, their lines with these events, and the functions themselves
record Becomes (d e : Draft) (us new : List Sides) (mine : List Offered) (lines : List ℕ) : Type 0 where
  text : worth e (us ++ new) ≡ worth d us ++ lines
  count : length (us ++ new) ≡ length e.done
  named : functions e.done ≡ functions d.done ++ mine

length-end : {A : Type 0} (xs : List A) (x : A) → length (xs ++ x ∷ []) ≡ suc (length xs)
length-end [] x = refl
length-end (y ∷ xs) x = ap suc (length-end xs x)

same-length : (us : List Sides) (ps : List Passage) (s : Sides) (p : Passage) → length us ≡ length ps → length (us ++ s ∷ []) ≡ length (ps ++ p ∷ [])
same-length us ps s p e = length-end us s ∙ (ap suc e ∙ sym (length-end ps p))

none-new : (d : Draft) (us : List Sides) → length us ≡ length d.done → Becomes d d us [] [] []
none-new d us e = record {
  text = ap (worth d) (append-nil us) ∙ sym (append-nil (worth d us));
  count = ap length (append-nil us) ∙ e;
  named = sym (append-nil (functions d.done));
}

-- behind lines that were put
put-first : (d e : Draft) (us new : List Sides) (mine : List Offered) (x lines : List ℕ) → Becomes (put x d) e us new mine lines → Becomes d e us new mine (x ++ lines)
put-first d e us new mine x lines b = record {
  text = b.text ∙ (ap (λ z. z ++ lines) (woven-more d.done us d.text x) ∙ append_assoc (worth d us) x lines);
  count = b.count;
  named = b.named;
}

-- one after the other
then-more : (d e f : Draft) (us new more : List Sides) (mine yours : List Offered) (lines rest : List ℕ) → Becomes d e us new mine lines → Becomes e f (us ++ new) more yours rest
    → Becomes d f us (new ++ more) (mine ++ yours) (lines ++ rest)
then-more d e f us new more mine yours lines rest a b = record {
  text = ap (worth f) (sym (append_assoc us new more)) ∙ (b.text ∙ (ap (λ z. z ++ rest) a.text ∙ append_assoc (worth d us) lines rest));
  count = ap length (sym (append_assoc us new more)) ∙ b.count;
  named = b.named ∙ (ap (λ z. z ++ yours) a.named ∙ append_assoc (functions d.done) mine yours);
}

func-becomes : (name : List ℕ) (abi : Abi) (f : Offered) (fs : List Offered) (s : Sides) (d : Draft) (us : List Sides) → length us ≡ length d.done
    → Becomes d (put_func name abi (f ∷ fs) d) us (s ∷ []) (f ∷ []) (func_lines name abi (with_events f.lowered s))
func-becomes name abi f fs s d us e = record {
  text = func-worth name abi f fs s d us e;
  count = same-length us d.done s (record { fixed = d.text ++ (listed_func_line name abi f.lowered.params f.lowered.results ++ codes "caller\n"); function = f }) e;
  named = functions-end d.done (record { fixed = d.text ++ (listed_func_line name abi f.lowered.params f.lowered.results ++ codes "caller\n"); function = f });
}

take-none : {A : Type 0} (n : ℕ) → take {A = A} n [] ≡ []
take-none zero = refl
take-none (suc n) = refl

drop-none : {A : Type 0} (n : ℕ) → drop {A = A} n [] ≡ []
drop-none zero = refl
drop-none (suc n) = refl

take-first : {A : Type 0} (m n : ℕ) (x : A) (xs : List A) → m ≡ suc n → take m (x ∷ xs) ≡ x ∷ take n xs
take-first m n x xs e = ap (λ k. take k (x ∷ xs)) e

take-both : {A : Type 0} (n k : ℕ) (xs : List A) → take (n + k) xs ≡ take n xs ++ take k (drop n xs)
take-both n k [] = take-none (n + k) ∙ sym (ap (λ z. z ++ take k (drop n [])) (take-none n) ∙ (ap (take k) (drop-none n) ∙ take-none k))
take-both zero k (x ∷ xs) = ap (λ j. take j (x ∷ xs)) (omega arith)
take-both (suc n) k (x ∷ xs) = take-first (suc n + k) (n + k) x xs (omega arith) ∙ ap (λ z. x ∷ z) (take-both n k xs)

items-become : (items : List ItemTree) (fs : List Offered) (ss us : List Sides) (d : Draft) → length fs ≡ length ss → func_count items ≤ length fs → length us ≡ length d.done
    → Becomes d (put_items items fs d) us (take (func_count items) ss) (take (func_count items) fs) (item_lines items (with_sides fs ss))
items-become [] fs ss us d same enough e = none-new d us e
items-become (import_of i ∷ items) fs ss us d same enough e =
    put-first d (put_items items fs (put (import_line i.name) d)) us (take (func_count items) ss) (take (func_count items) fs) (import_line i.name) (item_lines items (with_sides fs ss))
    (items-become items fs ss us (put (import_line i.name) d) same enough e)
items-become (func_of f ∷ items) [] ss us d same enough e = absurd (omega (arith, enough))
items-become (func_of f ∷ items) (l ∷ fs) [] us d same enough e = absurd (omega (arith, same))
items-become (func_of f ∷ items) (l ∷ fs) (s ∷ ss) us d same enough e =
    let here = func-becomes f.name f.abi l fs s d us e in
    subst (λ z. Becomes d (put_items items fs (put_func f.name f.abi (l ∷ fs) d)) us z (take (1 + func_count items) (l ∷ fs)) (func_lines f.name f.abi (with_events l.lowered s) ++ item_lines items (with_sides fs ss)))
    (sym (take-first (1 + func_count items) (func_count items) s ss (omega arith)))
    (subst (λ z. Becomes d (put_items items fs (put_func f.name f.abi (l ∷ fs) d)) us (s ∷ take (func_count items) ss) z (func_lines f.name f.abi (with_events l.lowered s) ++ item_lines items (with_sides fs ss)))
    (sym (take-first (1 + func_count items) (func_count items) l fs (omega arith)))
    (then-more d (put_func f.name f.abi (l ∷ fs) d) (put_items items fs (put_func f.name f.abi (l ∷ fs) d)) us (s ∷ []) (take (func_count items) ss) (l ∷ []) (take (func_count items) fs)
    (func_lines f.name f.abi (with_events l.lowered s)) (item_lines items (with_sides fs ss)) here
    (items-become items fs ss (us ++ s ∷ []) (put_func f.name f.abi (l ∷ fs) d) (omega (arith, same)) (omega (arith, enough)) here.count)))

drop-length : {A : Type 0} (n : ℕ) (xs : List A) → n ≤ length xs → n + length (drop n xs) ≡ length xs
drop-length zero xs l = omega arith
drop-length (suc n) [] l = absurd (omega (arith, l))
drop-length (suc n) (x ∷ xs) l = let more = drop-length n xs (omega (arith, l)) in omega (arith, more)

definitions-become : (ds : List DefinitionTree) (fs : List Offered) (ss us : List Sides) (ls : List SizeAlign) (d : Draft) → length fs ≡ length ss → function_number ds ≤ length fs → length us ≡ length d.done
    → Becomes d (put_definitions ds fs ls d) us (take (function_number ds) ss) (take (function_number ds) fs) (listed_definition_lines ds (with_sides fs ss) ls)
definitions-become [] fs ss us ls d same enough e = none-new d us e
definitions-become (typename_of name t docs ∷ ds) fs ss us ls d same enough e =
    put-first d (put_definitions ds fs (drop 1 ls) (put (listed_typename_lines name ls) d)) us (take (function_number ds) ss) (take (function_number ds) fs) (listed_typename_lines name ls) (listed_definition_lines ds (with_sides fs ss) (drop 1 ls))
    (definitions-become ds fs ss us (drop 1 ls) (put (listed_typename_lines name ls) d) same enough e)
definitions-become (constant_of c ∷ ds) fs ss us ls d same enough e =
    put-first d (put_definitions ds fs ls (put (constant_line c) d)) us (take (function_number ds) ss) (take (function_number ds) fs) (constant_line c) (listed_definition_lines ds (with_sides fs ss) ls)
    (definitions-become ds fs ss us ls (put (constant_line c) d) same enough e)
definitions-become (module_of m ∷ ds) fs ss us ls d same enough e =
    let n = func_count m.items in
    let k = function_number ds in
    let inner = put_items m.items fs (put (module_line m.name) d) in
    let here = put-first d inner us (take n ss) (take n fs) (module_line m.name) (item_lines m.items (with_sides fs ss)) (items-become m.items fs ss us (put (module_line m.name) d) same (omega (arith, enough)) e) in
    let fl = drop-length n fs (omega (arith, enough)) in
    let sl = drop-length n ss (omega (arith, enough, same)) in
    let more = definitions-become ds (drop n fs) (drop n ss) (us ++ take n ss) ls inner (omega (arith, fl, sl, same)) (omega (arith, fl, enough)) here.count in
    let both = then-more d inner (put_definitions ds (drop n fs) ls inner) us (take n ss) (take k (drop n ss)) (take n fs) (take k (drop n fs)) (module_line m.name ++ item_lines m.items (with_sides fs ss)) (listed_definition_lines ds (with_sides (drop n fs) (drop n ss)) ls) here more in
    subst (λ z. Becomes d (put_definitions ds (drop n fs) ls inner) us (take (n + k) ss) (take (n + k) fs) ((module_line m.name ++ item_lines m.items (with_sides fs ss)) ++ listed_definition_lines ds z ls)) (sym (sides-behind n fs ss))
    (subst (λ z. Becomes d (put_definitions ds (drop n fs) ls inner) us z (take (n + k) fs) ((module_line m.name ++ item_lines m.items (with_sides fs ss)) ++ listed_definition_lines ds (with_sides (drop n fs) (drop n ss)) ls)) (sym (take-both n k ss))
    (subst (λ z. Becomes d (put_definitions ds (drop n fs) ls inner) us (take n ss ++ take k (drop n ss)) z ((module_line m.name ++ item_lines m.items (with_sides fs ss)) ++ listed_definition_lines ds (with_sides (drop n fs) (drop n ss)) ls)) (sym (take-both n k fs)) both))

whole-functions : (fs : List Offered) (n : ℕ) → n ≡ length fs → take n fs ≡ fs
whole-functions [] zero e = refl
whole-functions [] (suc n) e = refl
whole-functions (f ∷ fs) zero e = absurd (omega (arith, e))
whole-functions (f ∷ fs) (suc n) e = ap (λ z. f ∷ z) (whole-functions fs n (omega (arith, e)))

pub drafted-text : (l : Listed) (ss : List Sides) → HasEachEntry l → length l.functions ≡ length ss → woven (passages_of l).done ss (passages_of l).text ≡ listing_with l ss
unfolding passages_of
drafted-text l ss each same =
    let all = definitions-become l.definitions l.functions ss [] l.layouts nothing_put same (omega (arith, each)) refl in
    ap (λ z. worth (put_definitions l.definitions l.functions l.layouts nothing_put) z) (sym (whole-list ss (function_number l.definitions) (sym each ∙ same))) ∙ all.text

no-sides : (fs : List Offered) → List Sides
no-sides fs = map (λ f. record { caller = []; callee = [] }) fs

no-sides-length : (fs : List Offered) → length fs ≡ length (no-sides fs)
unfolding no-sides
no-sides-length [] = refl
no-sides-length (f ∷ fs) = ap suc (no-sides-length fs)

pub drafted-functions : (l : Listed) → HasEachEntry l → map (λ p. p.function) (passages_of l).done ≡ l.functions
unfolding passages_of functions
drafted-functions l each =
    let all = definitions-become l.definitions l.functions (no-sides l.functions) [] l.layouts nothing_put (no-sides-length l.functions) (omega (arith, each)) refl in
    all.named ∙ whole-functions l.functions (function_number l.definitions) (sym each)

-- ---- fixed texts are whole lines

record IsDraft (d : Draft) : Type 0 where
  fixed : AreFixed d.done
  last : IsLast d.text

last-both : (xs ys : List ℕ) → IsLast xs → IsLast ys → IsLast (xs ++ ys)
last-both [] ys f g = g
last-both (x ∷ xs) ys f g = (f.0, ends-both (x ∷ xs) ys f.1 g.1)

last-fixed : (xs ys : List ℕ) → IsLast xs → IsFixed ys → IsFixed (xs ++ ys)
last-fixed [] ys f g = g
last-fixed (x ∷ xs) [] f g = absurd g
last-fixed (x ∷ xs) (y ∷ ys) f g = (f.0, ends-both (x ∷ xs) (y ∷ ys) f.1 g.1)

fixed-end : (ps : List Passage) (p : Passage) → AreFixed ps → IsFixed p.fixed → AreFixed (ps ++ p ∷ [])
fixed-end [] p f g = (g, tt)
fixed-end (q ∷ ps) p f g = (f.0, fixed-end ps p f.1 g)

put-draft : (x : List ℕ) (d : Draft) → IsLast x → IsDraft d → IsDraft (put x d)
put-draft x d f h = record { fixed = h.fixed; last = last-both d.text x h.last f }

head-fixed : (name : List ℕ) (abi : Abi) (f : Offered) → IsFixed (listed_func_line name abi f.lowered.params f.lowered.results ++ codes "caller\n")
head-fixed name abi f = (refl, ends-both (listed_func_line name abi f.lowered.params f.lowered.results) (codes "caller\n") (ends-feed (codes "func " ++ in_quotes name ++ codes " " ++ signature f.lowered.params f.lowered.results ++ stored_mark abi)) refl)

func-draft : (name : List ℕ) (abi : Abi) (fs : List Offered) (d : Draft) → IsDraft d → IsDraft (put_func name abi fs d)
func-draft name abi [] d h = h
func-draft name abi (f ∷ fs) d h = record {
  fixed = fixed-end d.done (record { fixed = d.text ++ (listed_func_line name abi f.lowered.params f.lowered.results ++ codes "caller\n"); function = f }) h.fixed
      (last-fixed d.text (listed_func_line name abi f.lowered.params f.lowered.results ++ codes "caller\n") h.last (head-fixed name abi f));
  last = (refl, refl);
}

items-draft : (items : List ItemTree) (fs : List Offered) (d : Draft) → IsDraft d → IsDraft (put_items items fs d)
items-draft [] fs d h = h
items-draft (import_of i ∷ items) fs d h = items-draft items fs (put (import_line i.name) d) (put-draft (import_line i.name) d (refl, ends-feed (codes "import " ++ in_quotes i.name ++ codes " memory")) h)
items-draft (func_of f ∷ items) fs d h = items-draft items (drop 1 fs) (put_func f.name f.abi fs d) (func-draft f.name f.abi fs d h)

typename-last : (name : List ℕ) (ls : List SizeAlign) → IsLast (listed_typename_lines name ls)
typename-last name [] = (refl, refl)
typename-last name (l ∷ ls) = (refl, ends-feed (codes "typename " ++ name ++ codes " size " ++ decimal l.size ++ codes " align " ++ decimal l.align))

definitions-draft : (ds : List DefinitionTree) (fs : List Offered) (ls : List SizeAlign) (d : Draft) → IsDraft d → IsDraft (put_definitions ds fs ls d)
definitions-draft [] fs ls d h = h
definitions-draft (typename_of name t docs ∷ ds) fs ls d h = definitions-draft ds fs (drop 1 ls) (put (listed_typename_lines name ls) d) (put-draft (listed_typename_lines name ls) d (typename-last name ls) h)
definitions-draft (module_of m ∷ ds) fs ls d h =
    definitions-draft ds (drop (func_count m.items) fs) ls (put_items m.items fs (put (module_line m.name) d))
    (items-draft m.items fs (put (module_line m.name) d) (put-draft (module_line m.name) d (refl, ends-feed (codes "module " ++ m.name)) h))
definitions-draft (constant_of c ∷ ds) fs ls d h =
    definitions-draft ds fs ls (put (constant_line c) d) (put-draft (constant_line c) d (refl, ends-feed (codes "const " ++ c.ty ++ codes " " ++ c.name ++ codes " " ++ decimal c.value)) h)

nothing-draft : IsDraft nothing_put
nothing-draft = record { fixed = tt; last = (refl, refl) }

pub drafted-fixed : (l : Listed) → AreFixed (passages_of l).done
unfolding passages_of
drafted-fixed l = (definitions-draft l.definitions l.functions l.layouts nothing_put nothing-draft).fixed

pub drafted-last : (l : Listed) → IsLast (passages_of l).text
unfolding passages_of
drafted-last l = (definitions-draft l.definitions l.functions l.layouts nothing_put nothing-draft).last
