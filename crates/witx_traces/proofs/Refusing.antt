-- What the reader finds along the passages of a listing, said of the listing itself: its traces, and its first unfit line.
use Rattle.std.proofs.Common.{◌≡◌, ℕ, suc, List, [], ◌∷◌, ◌++◌, length, map, Bool, true, false, refl, sym, ap, ◌∙◌, subst, arith, ◌==◌, if◌then◌else◌}
use Rattle.std.specs.Prelude.{codes}
use Rattle.std.specs.List.{AllByRecursion, flat_map}
use Rattle.std.proofs.lemmas.Bool.Decides.{nat_tests}
use Rattle.witx_ast.specs.Definitions.{DefinitionTree}
use Rattle.witx_adapt.specs.Lines.{event_lines}
use Rattle.witx_traces.specs.Traces.{FitFunctions, GivesTraces, HasEachEntry, IsUnfit, Listed, Sides, ended, one_line}
use Rattle.witx_traces.specs.Passages.{AreFixed, Has, IsLast, Passage, ReadPairs, StopsAt, is_ended, feeds, pair_text, passages_of, stretches}
use Rattle.witx_traces.proofs.Drafting.{drafted-fixed, drafted-functions, drafted-last, drafted-text, woven}
use Rattle.witx_traces.proofs.OneTrace.{each-side}
use Rattle.witx_traces.proofs.UnfitLines.{one-more}

-- ---- texts that have the passages

abbrev Fit : List DefinitionTree → List Passage → List Sides → Type 0
Fit ds ps ss = FitFunctions ds (map (λ p. p.function) ps) ss

has-woven : (ds : List DefinitionTree) (ps : List Passage) (last text : List ℕ) (ss : List Sides) → Fit ds ps ss → text ≡ woven ps ss last → Has (stretches ds ps) last text
has-woven ds [] last text [] f e = e
has-woven ds [] last text (s ∷ ss) f e = absurd f
has-woven ds (p ∷ ps) last text [] f e = absurd f
has-woven ds (p ∷ ps) last text (s ∷ ss) f e =
    (s.caller, codes "callee\n" ++ (event_lines s.callee ++ woven ps ss last), f.0.0, e, (s.callee, woven ps ss last, f.0.1, refl, has-woven ds ps last (woven ps ss last) ss f.1 refl))

record Woven (ds : List DefinitionTree) (ps : List Passage) (last text : List ℕ) : Type 0 where
  sides : List Sides
  fit : Fit ds ps sides
  same : text ≡ woven ps sides last

woven-has : (ds : List DefinitionTree) (ps : List Passage) (last text : List ℕ) → Has (stretches ds ps) last text → Woven ds ps last text
woven-has ds [] last text h = record { sides = []; fit = tt; same = h }
woven-has ds (p ∷ ps) last text (es, more, f, e, (fs, rest, g, d, h)) =
    let w = woven-has ds ps last rest h in
    record {
      sides = record { caller = es; callee = fs } ∷ w.sides;
      fit = ((f, g), w.fit);
      same = e ∙ ap (λ z. p.fixed ++ (event_lines es ++ z)) (d ∙ ap (λ z. codes "callee\n" ++ (event_lines fs ++ z)) w.same);
    }

read-fit : (ds : List DefinitionTree) (ps : List Passage) (ss : List Sides) (text rest : List ℕ) → ReadPairs ds ps ss text rest → Fit ds ps ss
read-fit ds [] [] text rest h = tt
read-fit ds [] (s ∷ ss) text rest h = absurd h
read-fit ds (p ∷ ps) [] text rest h = absurd h
read-fit ds (p ∷ ps) (s ∷ ss) text rest (f, (more, e, h)) = (f, read-fit ds ps ss more rest h)

read-woven : (ds : List DefinitionTree) (ps : List Passage) (ss : List Sides) (text rest : List ℕ) → ReadPairs ds ps ss text rest → text ≡ woven ps ss rest
read-woven ds [] [] text rest h = h
read-woven ds [] (s ∷ ss) text rest h = absurd h
read-woven ds (p ∷ ps) [] text rest h = absurd h
read-woven ds (p ∷ ps) (s ∷ ss) text rest (f, (more, e, h)) = e ∙ ap (pair_text p s) (read-woven ds ps ss more rest h)

-- ---- the listing

-- the passages of the listing fit its functions
fits : (l : Listed) (ss : List Sides) → HasEachEntry l → Fit l.definitions (passages_of l).done ss → FitFunctions l.definitions l.functions ss
fits l ss each f = subst (λ z. FitFunctions l.definitions z ss) (drafted-functions l each) f

given : (l : Listed) (text : List ℕ) (ss : List Sides) → HasEachEntry l → Fit l.definitions (passages_of l).done ss → text ≡ woven (passages_of l).done ss (passages_of l).text → GivesTraces l text ss
given l text ss each f e =
    let fit = fits l ss each f in
    (e ∙ drafted-text l ss each (each-side l.definitions l.functions ss fit), fit)

has-given : (l : Listed) (text : List ℕ) (ss : List Sides) → HasEachEntry l → GivesTraces l text ss → Has (stretches l.definitions (passages_of l).done) (passages_of l).text text
has-given l text ss each g =
    has-woven l.definitions (passages_of l).done (passages_of l).text text ss (subst (λ z. FitFunctions l.definitions z ss) (sym (drafted-functions l each)) g.1)
    (g.0 ∙ sym (drafted-text l ss each (each-side l.definitions l.functions ss g.1)))

pub traces-read : (l : Listed) (ps : List Passage) (ss : List Sides) (last text : List ℕ) → HasEachEntry l → ps ≡ (passages_of l).done → last ≡ (passages_of l).text → ReadPairs l.definitions ps ss text last → GivesTraces l text ss
traces-read l ps ss last text each e f h =
    let g : ReadPairs l.definitions (passages_of l).done ss text (passages_of l).text = subst (λ z. ReadPairs l.definitions z ss text (passages_of l).text) e (subst (ReadPairs l.definitions ps ss text) f h) in
    given l text ss each (read-fit l.definitions (passages_of l).done ss text (passages_of l).text g) (read-woven l.definitions (passages_of l).done ss text (passages_of l).text g)

-- ---- lines

record Lines (text : List ℕ) : Type 0 where
  lines : List (List ℕ)
  one : AllByRecursion (λ line. one_line line ≡ true) lines
  same : flat_map ended lines ≡ text
  count : length lines ≡ feeds text

feed-is : (b : ℕ) → (b == 10) ≡ true → b ≡ 10
feed-is b e = grind (arith, nat_tests)

feeds-by : (b : ℕ) (bs : List ℕ) (t : Bool) → (b == 10) ≡ t → (if t then suc (feeds bs) else feeds bs) ≡ feeds (b ∷ bs)
feeds-by b bs t e = ap (λ z. if z then suc (feeds bs) else feeds bs) (sym e)

at-feed : (b : ℕ) (bs : List ℕ) → (b == 10) ≡ true → Lines bs → Lines (b ∷ bs)
at-feed b bs e h = record {
  lines = [] ∷ h.lines;
  one = (refl, h.one);
  same = ap (λ z. 10 ∷ z) h.same ∙ ap (λ z. z ∷ bs) (sym (feed-is b e));
  count = ap suc h.count ∙ feeds-by b bs true e;
}

past : (b c : ℕ) (bs : List ℕ) (lines : List (List ℕ)) → (b == 10) ≡ false → AllByRecursion (λ line. one_line line ≡ true) lines → flat_map ended lines ≡ c ∷ bs → length lines ≡ feeds (c ∷ bs) → Lines (b ∷ c ∷ bs)
past b c bs [] e one same count = absurd (cc)
past b c bs (line ∷ lines) e one same count = record {
  lines = (b ∷ line) ∷ lines;
  one = (one-more b line e one.0, one.1);
  same = ap (λ z. b ∷ z) same;
  count = count ∙ feeds-by b (c ∷ bs) false e;
}

by-feed : (b c : ℕ) (bs : List ℕ) (t : Bool) → (b == 10) ≡ t → Lines (c ∷ bs) → Lines (b ∷ c ∷ bs)
by-feed b c bs true e h = at-feed b (c ∷ bs) e h
by-feed b c bs false e h = past b c bs h.lines e h.one h.same h.count

split-lines : (text : List ℕ) → is_ended text ≡ true → Lines text
split-lines [] e = record { lines = []; one = tt; same = refl; count = refl }
split-lines (b ∷ []) e = at-feed b [] e (record { lines = []; one = tt; same = refl; count = refl })
split-lines (b ∷ c ∷ bs) e = by-feed b c bs (b == 10) refl (split-lines (c ∷ bs) e)

-- ---- the first unfit line

unfit : (l : Listed) (text rest : List ℕ) (n : ℕ) → HasEachEntry l → (h : StopsAt (stretches l.definitions (passages_of l).done) (passages_of l).text text rest) → n ≡ suc (feeds h.front) → IsUnfit l text n
unfit l text rest n each h e =
    let cut = split-lines h.front h.lines in
    let count = cut.count in
    let w = woven-has l.definitions (passages_of l).done (passages_of l).text (h.front ++ h.more) h.begins in
    record {
      before = cut.lines;
      rest = rest;
      lines = cut.one;
      whole = h.whole ∙ ap (λ z. z ++ rest) (sym cut.same);
      counted = omega (arith, e, count);
      begins = (h.more, w.sides, given l (flat_map ended cut.lines ++ h.more) w.sides each w.fit (ap (λ z. z ++ h.more) cut.same ∙ w.same));
      stops = λ line more one is can.
          h.stops line more can.0 one is (has-given l ((h.front ++ ended line) ++ can.0) can.1 each (subst (λ z. GivesTraces l ((z ++ ended line) ++ can.0) can.1) cut.same can.2));
      missing = λ is sides gives. h.missing is (has-given l text sides each gives);
    }

pub unfit-line : (l : Listed) (ps : List Passage) (last text rest : List ℕ) (n : ℕ) → HasEachEntry l → ps ≡ (passages_of l).done → last ≡ (passages_of l).text → StopsAt (stretches l.definitions ps) last text rest
    → ((front : List ℕ) → text ≡ front ++ rest → n ≡ suc (feeds front)) → IsUnfit l text n
unfit-line l ps last text rest n each e f h line =
    let g : StopsAt (stretches l.definitions (passages_of l).done) (passages_of l).text text rest = subst (λ z. StopsAt (stretches l.definitions z) (passages_of l).text text rest) e (subst (λ z. StopsAt (stretches l.definitions ps) z text rest) f h) in
    unfit l text rest n each g (line g.front g.whole)

pub passages-fixed : (l : Listed) (ps : List Passage) → ps ≡ (passages_of l).done → AreFixed ps
passages-fixed l ps e = subst AreFixed (sym e) (drafted-fixed l)

pub passages-last : (l : Listed) (last : List ℕ) → last ≡ (passages_of l).text → IsLast last
passages-last l last e = subst IsLast (sym e) (drafted-last l)

pub ruleset trace_rules = (traces-read, passages-fixed, passages-last)
