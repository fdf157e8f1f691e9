-- The steps of the reader: lines that are wanted, events, sides, and the passages one after the other.
use Rattle.std.proofs.Common.{◌≡◌, ℕ, suc, ◌+◌, ◌-◌, ◌<◌, ◌≤◌, List, [], ◌∷◌, ◌++◌, length, get_or, drop, take, map, Bool, true, false, refl, sym, ap, ◌∙◌, subst, arith, ◌==◌, append_assoc, append-nil, length-append, if◌then◌else◌}
use Rattle.std.specs.Prelude.{codes, Result, Ok, Err, IfErr, IfOk, IsErrAnd}
use Rattle.std.specs.List.{AllByRecursion}
use Rattle.std.proofs.lemmas.List.{drop_more, drop_all}
use Rattle.std.proofs.lemmas.Bool.{eq-eqb, ne_eqb}
use Rattle.witx_base.specs.Texts.{same_text}
use Rattle.witx_base.proofs.Names.{same-equal}
use Rattle.witx_ast.specs.Definitions.{DefinitionTree}
use Rattle.witx_machine.specs.Events.{Event}
use Rattle.witx_adapt.specs.Lines.{event_line, event_lines, event_text}
use Rattle.witx_traces.specs.Answers.{Never}
use Rattle.witx_traces.specs.LineParts.{HasLine}
use Rattle.witx_traces.specs.Traces.{AreSayable, IsSayable, Sides, Types, known_of, ended, one_line}
use Rattle.witx_traces.specs.declared.passages.Passage as code_passage
use Rattle.witx_traces.specs.declared.reading.Stopped.{Stopped}
use Rattle.witx_traces.specs.declared.reading.Stopped.TheVariants as stopped_variant
use Rattle.witx_traces.specs.Refusals.{TellsOfStop}
use Rattle.witx_traces.specs.Passages.{AreFixed, IsCutAt, LacksWantedLine, IsFixed, IsLast, BeginPlainly, Passage, ReadPairs, Stretch, StopsAt, is_ended, events_of, feeds, indented, pair_text, passage_of, side_of, stretches}
use Rattle.witx_traces.proofs.Stopping.{no-feed, stops-after, stops-behind, stops-event, stops-fixed, stops-last, stops-past, stops-unended, stops-unsaid}
use Rattle.witx_traces.proofs.TypeReading.{pushed}
use Rattle.witx_traces.proofs.UnfitLines.{ends-both, ends-feed, line-cut}

-- ---- wanted lines

-- what is wanted behind is found behind
abbrev pub WantedOn : List ℕ → List ℕ → List ℕ → List ℕ → Type 0
WantedOn lines text wanted rest = (front : List ℕ) × (lines ≡ front ++ wanted) × (text ≡ front ++ rest) × (is_ended front ≡ true)

pub wanted-first : (lines text : List ℕ) → WantedOn lines text lines text
wanted-first lines text = ([], refl, refl, refl)

pub wanted-more : (lines text wanted rest line more behind : List ℕ) → WantedOn lines text wanted rest → wanted ≡ ended line ++ more → rest ≡ ended line ++ behind → WantedOn lines text more behind
wanted-more lines text wanted rest line more behind (front, e, f, g) p q = (
  front ++ ended line,
  e ∙ (ap (λ z. front ++ z) p ∙ sym (append_assoc front (ended line) more)),
  f ∙ (ap (λ z. front ++ z) q ∙ sym (append_assoc front (ended line) behind)),
  ends-both front (ended line) g (ends-feed line),
)

closed-behind : (front wanted : List ℕ) → is_ended (front ++ wanted) ≡ true → is_ended front ≡ true → is_ended wanted ≡ true
closed-behind [] wanted e f = e
closed-behind (b ∷ []) [] e f = refl
closed-behind (b ∷ []) (w ∷ ws) e f = e
closed-behind (b ∷ c ∷ cs) wanted e f = closed-behind (c ∷ cs) wanted e f

no-feed-last : (b : ℕ) (bs : List ℕ) → is_ended (b ∷ bs) ≡ true → one_line (b ∷ bs) ≡ true → ⊥
no-feed-last b [] e f = by (b == 10) e f
  where
    by : (t : Bool) → t ≡ true → (if t then false else true) ≡ true → ⊥
    by true e f = absurd (cc)
    by false e f = absurd (cc)
no-feed-last b (c ∷ cs) e f = by (b == 10) f (no-feed-last c cs e)
  where
    by : (t : Bool) → (if t then false else one_line (c ∷ cs)) ≡ true → (one_line (c ∷ cs) ≡ true → ⊥) → ⊥
    by true f next = absurd (cc)
    by false f next = next f

closed-one : (wanted : List ℕ) → is_ended wanted ≡ true → one_line wanted ≡ true → [] ≡ wanted
closed-one [] e f = refl
closed-one (b ∷ bs) e f = absurd (no-feed-last b bs e f)

pub wanted-last : (lines text wanted rest : List ℕ) → WantedOn lines text wanted rest → is_ended lines ≡ true → one_line wanted ≡ true → text ≡ lines ++ rest
wanted-last lines text wanted rest (front, e, f, g) h one =
    let none = closed-one wanted (closed-behind front wanted (ap is_ended (sym e) ∙ h) g) one in
    f ∙ ap (λ z. z ++ rest) (sym (e ∙ (ap (λ z. front ++ z) (sym none) ∙ append-nil front)))

-- another line stands there, or none
pub wanted-cut : (lines text wanted rest line more at : List ℕ) → WantedOn lines text wanted rest → wanted ≡ ended line ++ more → one_line line ≡ true → LacksWantedLine line rest at → IsCutAt lines text at
wanted-cut lines text wanted rest line more at (front, e, f, g) p one h = record {
  front = front;
  wanted = line;
  behind = more;
  same = e ∙ ap (λ z. front ++ z) p;
  closed-front = g;
  one = one;
  whole = f ∙ ap (λ z. front ++ z) (sym h.same);
  other = λ behind is. h.other.none behind (sym h.same ∙ is);
}

pub wanted-tells : (lines text wanted rest line more : List ℕ) (e : Stopped) → WantedOn lines text wanted rest → wanted ≡ ended line ++ more → one_line line ≡ true → TellsOfStop (LacksWantedLine line rest) e → TellsOfStop (IsCutAt lines text) e
wanted-tells lines text wanted rest line more (stopped_variant.At r) h p one t = wanted-cut lines text wanted rest line more r.now h p one t
wanted-tells lines text wanted rest line more stopped_variant.OutOfMemory h p one t = tt

pub shorter-line : (text line more : List ℕ) → text ≡ ended line ++ more → length more < length text
shorter-line text line more e =
    let all = ap length e in
    omega (arith, all, length-append (ended line) more, length-append line (10 ∷ []))

pub ruleset lines_rules = (shorter-line, wanted-first, wanted-more, wanted-last, wanted-tells)

pub lacks-missing : (text wanted : List ℕ) → one_line text ≡ true → LacksWantedLine wanted text text
lacks-missing text wanted one = record { same = refl; other = record { none = λ more e. no-feed wanted more (ap one_line (sym e) ∙ one) } }

pub lacks-other : (text line behind wanted : List ℕ) → text ≡ ended line ++ behind → one_line line ≡ true → one_line wanted ≡ true → same_text line wanted ≡ false → LacksWantedLine wanted text text
lacks-other text line behind wanted e one want other = record {
  same = refl;
  other = record {
    none = λ more is.
        let same = (line-cut line wanted behind more one want (sym e ∙ is)).0 in
        let wrong : false ≡ true = sym other ∙ (same-equal line wanted).1 same in absurd (cc);
  };
}

pub line-same : (text line behind wanted : List ℕ) → text ≡ ended line ++ behind → same_text line wanted ≡ true → text ≡ ended wanted ++ behind
line-same text line behind wanted e same = e ∙ ap (λ z. ended z ++ behind) ((same-equal line wanted).0 same)

pub ruleset line_rules = (lacks-missing, lacks-other, line-same)

-- ---- what is refused within lines

pub cut-fixed : (s : Stretch) (ss : List Stretch) (last text rest : List ℕ) → IsCutAt s.fixed text rest → StopsAt (s ∷ ss) last text rest
cut-fixed s ss last text rest h = stops-fixed s ss last h.front h.wanted h.behind text rest h.same h.closed-front h.one h.whole h.other

pub cut-last : (last text rest : List ℕ) → IsCutAt last text rest → StopsAt [] last text rest
cut-last last text rest h = stops-last last h.front h.wanted h.behind text rest h.same h.closed-front h.one h.whole h.other

-- what is told of a refusal, said otherwise
pub tells-moved : (P Q : List ℕ → Type 0) (e : Stopped) → TellsOfStop P e → ((rest : List ℕ) → P rest → Q rest) → TellsOfStop Q e
tells-moved P Q (stopped_variant.At r) h f = f r.now h
tells-moved P Q stopped_variant.OutOfMemory h f = tt

-- ---- events

pub event-there : (types : Types) (line text behind : List ℕ) (e : Event) → HasLine types line e → text ≡ ended line ++ behind → text ≡ event_line e ++ behind
event-there types line text behind e h is = is ∙ ap (λ z. ended z ++ behind) (sym h.same)

pub event-line : (types : Types) (line : List ℕ) (e : Event) → HasLine types line e → one_line line ≡ true → IsSayable types e
event-line types line e h one = (h.can, ap one_line h.same ∙ one)

pub event-unsaid : (types : Types) (ss : List Stretch) (last line text more : List ℕ) → BeginPlainly ss last → one_line line ≡ true → text ≡ ended line ++ more → indented text ≡ true → Never (HasLine types line)
    → StopsAt (events_of types ∷ ss) last text text
event-unsaid types ss last line text more plain one whole blank none = stops-unsaid types ss last line text more plain one whole blank (λ e can same. none.none e (record { can = can; same = same }))

pub event-unended : (types : Types) (ss : List Stretch) (last text : List ℕ) → one_line text ≡ true → indented text ≡ true → StopsAt (events_of types ∷ ss) last text text
event-unended types ss last text one blank = stops-unended (events_of types ∷ ss) last text one blank

pub ruleset event_rules = (event-there, event-line, event-unsaid, event-unended)

-- whatever holds of the events behind, with those so far it holds of all
pub record EventsOn (types : Types) (text : List ℕ) (done : List Event) (rest : List ℕ) : Type 0 where
  pub text-is : (more : List Event) (end : List ℕ) → rest ≡ event_lines more ++ end → text ≡ event_lines (done ++ more) ++ end
  pub lines : (more : List Event) → AllByRecursion (IsSayable types) more → AllByRecursion (IsSayable types) (done ++ more)
  pub stops : (ss : List Stretch) (last at : List ℕ) → BeginPlainly ss last → StopsAt (events_of types ∷ ss) last rest at → StopsAt (events_of types ∷ ss) last text at

pub events-first : (types : Types) (text : List ℕ) → EventsOn types text [] text
events-first types text = record { text-is = λ more end e. e; lines = λ more f. f; stops = λ ss last at plain h. h }

pub events-more : (types : Types) (text rest behind : List ℕ) (done now : List Event) (e : Event) → EventsOn types text done rest → rest ≡ event_line e ++ behind → IsSayable types e → now ≡ done ++ e ∷ [] → EventsOn types text now behind
events-more types text rest behind done now e h is f p =
    let flat : (more : List Event) → now ++ more ≡ done ++ (e ∷ more) = λ more. ap (λ z. z ++ more) p ∙ append_assoc done (e ∷ []) more in
    record {
      text-is = λ more end q. h.text-is (e ∷ more) end (is ∙ (ap (λ z. event_line e ++ z) q ∙ sym (append_assoc (event_line e) (event_lines more) end))) ∙ ap (λ z. event_lines z ++ end) (sym (flat more));
      lines = λ more g. subst (AllByRecursion (IsSayable types)) (sym (flat more)) (h.lines (e ∷ more) (f, g));
      stops = λ ss last at plain g. h.stops ss last at plain (stops-event types ss last e rest behind at plain f is g);
    }

pub events-text : (types : Types) (text rest : List ℕ) (done : List Event) → EventsOn types text done rest → text ≡ event_lines done ++ rest
events-text types text rest done h = h.text-is [] rest refl ∙ ap (λ z. event_lines z ++ rest) (append-nil done)

pub events-lines : (types : Types) (text rest : List ℕ) (done : List Event) → EventsOn types text done rest → AllByRecursion (IsSayable types) done
events-lines types text rest done h = subst (AllByRecursion (IsSayable types)) (append-nil done) (h.lines [] tt)

pub events-stop : (types : Types) (text rest : List ℕ) (done : List Event) → EventsOn types text done rest → indented rest ≡ false
    → (ss : List Stretch) (last at : List ℕ) → BeginPlainly ss last → StopsAt ss last rest at → StopsAt (events_of types ∷ ss) last text at
events-stop types text rest done h plain ss last at p g = h.stops ss last at p (stops-after types ss last rest at plain g)

pub shorter-event : (text rest : List ℕ) (e : Event) → text ≡ event_line e ++ rest → length rest < length text
shorter-event text rest e is = shorter-line text (codes "  " ++ event_text e) rest is

pub ruleset events_rules = (shorter-event, pushed, events-first, events-more, events-text, events-lines, events-stop)

-- ---- sides

fixed-closed : (fixed : List ℕ) → IsFixed fixed → is_ended fixed ≡ true
fixed-closed [] f = absurd f
fixed-closed (b ∷ bs) f = f.1

pub is-closed : (fixed : List ℕ) → IsFixed fixed → is_ended fixed ≡ true
is-closed fixed f = fixed-closed fixed f

pub side-stop : (fixed : List ℕ) (types : Types) (ss : List Stretch) (last text behind at : List ℕ) → IsFixed fixed → text ≡ fixed ++ behind → StopsAt (events_of types ∷ ss) last behind at
    → StopsAt (record { fixed = fixed; types = types } ∷ ss) last text at
side-stop fixed types ss last text behind at f e h = stops-past (record { fixed = fixed; types = types }) ss last text behind at (fixed-closed fixed f) e h

pub ruleset side_rules = (is-closed, side-stop)

-- ---- passages

plain-fixed : (fixed : List ℕ) (rest : List ℕ) → IsFixed fixed → indented (fixed ++ rest) ≡ false
plain-fixed [] rest f = absurd f
plain-fixed (b ∷ bs) rest f = f.0

pub plain-stretch : (s : Stretch) (ss : List Stretch) (last : List ℕ) → IsFixed s.fixed → BeginPlainly (s ∷ ss) last
plain-stretch s ss last f = λ text h. ap indented h.3 ∙ plain-fixed s.fixed (event_lines h.0 ++ h.1) f

pub plain-passages : (ds : List DefinitionTree) (ps : List Passage) (last : List ℕ) → AreFixed ps → IsLast last → BeginPlainly (stretches ds ps) last
plain-passages ds [] last f g = λ text h. ap indented h ∙ g.0
plain-passages ds (p ∷ ps) last f g = plain-stretch (record { fixed = p.fixed; types = known_of ds p.function.function }) (record { fixed = codes "callee\n"; types = known_of ds p.function.function } ∷ stretches ds ps) last f.0

pub callee-fixed : IsFixed (codes "callee\n")
callee-fixed = (refl, refl)

-- a refusal that is handed on
pub handed-on : {A : Type 0} (Q : List ℕ → Type 0) (r : Result A Stopped) (e : Stopped) → IsErrAnd r (λ d. d ≡ e) → TellsOfStop Q e → IfErr r (TellsOfStop Q)
handed-on Q (Ok x) e is h = tt
handed-on Q (Err d) e is h = subst (TellsOfStop Q) (sym is) h

-- both sides of a function, with the types as they were made
both-sides : (ds : List DefinitionTree) (p : Passage) (types : Types) (ps : List Passage) (P : List Stretch → Type 0) → types ≡ known_of ds p.function.function
    → P (side_of p.fixed types ∷ side_of (codes "callee\n") types ∷ stretches ds ps) → P (stretches ds (p ∷ ps))
both-sides ds p types ps P e h = subst (λ z. P (side_of p.fixed z ∷ side_of (codes "callee\n") z ∷ stretches ds ps)) e h

pub pair-caller : (ds : List DefinitionTree) (p : Passage) (types : Types) (text : List ℕ) (e : Stopped) → types ≡ known_of ds p.function.function
    → ((ss : List Stretch) (last : List ℕ) → BeginPlainly ss last → TellsOfStop (StopsAt (side_of p.fixed types ∷ ss) last text) e)
    → (ps : List Passage) (last : List ℕ) → BeginPlainly (stretches ds ps) last → TellsOfStop (StopsAt (stretches ds (p ∷ ps)) last text) e
pair-caller ds p types text e same h ps last plain =
    both-sides ds p types ps (λ ss. TellsOfStop (StopsAt ss last text) e) same
    (h (side_of (codes "callee\n") types ∷ stretches ds ps) last (plain-stretch (side_of (codes "callee\n") types) (stretches ds ps) last callee-fixed))

pub pair-callee : (ds : List DefinitionTree) (p : Passage) (types : Types) (text mid : List ℕ) (e : Stopped) → types ≡ known_of ds p.function.function
    → ((ss : List Stretch) (last at : List ℕ) → BeginPlainly ss last → StopsAt ss last mid at → StopsAt (side_of p.fixed types ∷ ss) last text at)
    → ((ss : List Stretch) (last : List ℕ) → BeginPlainly ss last → TellsOfStop (StopsAt (side_of (codes "callee\n") types ∷ ss) last mid) e)
    → (ps : List Passage) (last : List ℕ) → BeginPlainly (stretches ds ps) last → TellsOfStop (StopsAt (stretches ds (p ∷ ps)) last text) e
pair-callee ds p types text mid e same first h ps last plain =
    both-sides ds p types ps (λ ss. TellsOfStop (StopsAt ss last text) e) same
    (tells-moved (StopsAt (side_of (codes "callee\n") types ∷ stretches ds ps) last mid) (StopsAt (side_of p.fixed types ∷ side_of (codes "callee\n") types ∷ stretches ds ps) last text) e (h (stretches ds ps) last plain)
    (λ at s. first (side_of (codes "callee\n") types ∷ stretches ds ps) last at (plain-stretch (side_of (codes "callee\n") types) (stretches ds ps) last callee-fixed) s))

pub pair-behind : (ds : List DefinitionTree) (p : Passage) (types : Types) (text mid rest : List ℕ) → types ≡ known_of ds p.function.function
    → ((ss : List Stretch) (last at : List ℕ) → BeginPlainly ss last → StopsAt ss last mid at → StopsAt (side_of p.fixed types ∷ ss) last text at)
    → ((ss : List Stretch) (last at : List ℕ) → BeginPlainly ss last → StopsAt ss last rest at → StopsAt (side_of (codes "callee\n") types ∷ ss) last mid at)
    → (ps : List Passage) (last at : List ℕ) → BeginPlainly (stretches ds ps) last → StopsAt (stretches ds ps) last rest at → StopsAt (stretches ds (p ∷ ps)) last text at
pair-behind ds p types text mid rest same first second ps last at plain s =
    both-sides ds p types ps (λ ss. StopsAt ss last text at) same
    (first (side_of (codes "callee\n") types ∷ stretches ds ps) last at (plain-stretch (side_of (codes "callee\n") types) (stretches ds ps) last callee-fixed) (second (stretches ds ps) last at plain s))

-- what a call promises of its answer or of its refusal, said otherwise
pub answer-moved : {A : Type 0} {P Q : A → Type 0} (r : Result A Stopped) → IfOk r P → ((x : A) → P x → Q x) → IfOk r Q
answer-moved (Ok x) h f = f x h
answer-moved (Err e) h f = tt

pub refusal-moved : {A : Type 0} (P Q : List ℕ → Type 0) (r : Result A Stopped) → IfErr r (TellsOfStop P) → ((rest : List ℕ) → P rest → Q rest) → IfErr r (TellsOfStop Q)
refusal-moved P Q (Ok x) h f = tt
refusal-moved P Q (Err e) h f = tells-moved P Q e h f

pub ruleset pair_rules = (callee-fixed, plain-stretch)

-- whatever holds of the passages behind, with those so far it holds of all
pub record PairsOn (ds : List DefinitionTree) (all : List Passage) (text : List ℕ) (done : List Sides) (left : List Passage) (rest : List ℕ) : Type 0 where
  pub read : (more : List Sides) (end : List ℕ) → ReadPairs ds left more rest end → ReadPairs ds all (done ++ more) text end
  pub stops : (last at : List ℕ) → IsLast last → StopsAt (stretches ds left) last rest at → StopsAt (stretches ds all) last text at
  pub fixed : AreFixed left

pub pairs-first : (ds : List DefinitionTree) (all : List Passage) (text : List ℕ) → AreFixed all → PairsOn ds all text [] all text
pairs-first ds all text f = record { read = λ more end h. h; stops = λ last at g h. h; fixed = f }

pub pairs-more : (ds : List DefinitionTree) (all : List Passage) (text : List ℕ) (done now : List Sides) (p : Passage) (left : List Passage) (rest behind : List ℕ) (s : Sides)
    → PairsOn ds all text done (p ∷ left) rest → AreSayable (known_of ds p.function.function) s → rest ≡ pair_text p s behind → now ≡ done ++ s ∷ []
    → ((last at : List ℕ) → BeginPlainly (stretches ds left) last → StopsAt (stretches ds left) last behind at → StopsAt (stretches ds (p ∷ left)) last rest at)
    → PairsOn ds all text now left behind
pairs-more ds all text done now p left rest behind s h f e q go = record {
  read = λ more end r. subst (λ z. ReadPairs ds all z text end) (sym (ap (λ z. z ++ more) q ∙ append_assoc done (s ∷ []) more)) (h.read (s ∷ more) end (f, (behind, e, r)));
  stops = λ last at g r. h.stops last at g (go last at (plain-passages ds left last h.fixed.1 g) r);
  fixed = h.fixed.1;
}

pub pairs-told : (ds : List DefinitionTree) (all : List Passage) (text : List ℕ) (done : List Sides) (p : Passage) (left : List Passage) (rest : List ℕ) (e : Stopped) → PairsOn ds all text done (p ∷ left) rest
    → ((ps : List Passage) (last : List ℕ) → BeginPlainly (stretches ds ps) last → TellsOfStop (StopsAt (stretches ds (p ∷ ps)) last rest) e)
    → (last : List ℕ) → IsLast last → TellsOfStop (StopsAt (stretches ds all) last text) e
pairs-told ds all text done p left rest e h go last g =
    tells-moved (StopsAt (stretches ds (p ∷ left)) last rest) (StopsAt (stretches ds all) last text) e (go left last (plain-passages ds left last h.fixed.1 g)) (λ at s. h.stops last at g s)

pub pairs-read : (ds : List DefinitionTree) (all : List Passage) (text : List ℕ) (done : List Sides) (rest : List ℕ) → PairsOn ds all text done [] rest → ReadPairs ds all done text rest
pairs-read ds all text done rest h = subst (λ z. ReadPairs ds all z text rest) (append-nil done) (h.read [] rest refl)

-- the text ends where the last lines end
pub pairs-end : (ds : List DefinitionTree) (ps : List Passage) (ss : List Sides) (text rest last end : List ℕ) → ReadPairs ds ps ss text rest → rest ≡ last ++ end → end ≡ [] → ReadPairs ds ps ss text last
pairs-end ds ps ss text rest last end h e f = subst (ReadPairs ds ps ss text) (e ∙ (ap (λ z. last ++ z) f ∙ append-nil last)) h

pub behind-last : (last text rest : List ℕ) → IsLast last → text ≡ last ++ rest → (rest ≡ [] → ⊥) → StopsAt [] last text rest
behind-last last text rest f e some = stops-behind last text rest f.1 e some

-- the passage that comes next
pub next-passage : (ps : List code_passage.Passage) (i : ℕ) (p : code_passage.Passage) → i < length ps → p ≡ get_or ps i p → map passage_of (drop i ps) ≡ passage_of p ∷ map passage_of (drop (i + 1) ps)
next-passage ps i p l e = ap (map passage_of) (drop_more ps i p l ∙ ap (λ y. y ∷ drop (i + 1) ps) (sym e))

pub no-passage : (ps : List code_passage.Passage) (i : ℕ) → length ps ≤ i → map passage_of (drop i ps) ≡ []
no-passage ps i l = ap (map passage_of) (drop_all i ps l)

pub ruleset pairs_rules = (pushed, pairs-first, pairs-more, pairs-read)

pub ruleset end_rules = (pairs-end, behind-last, cut-last)

-- ---- the number of a line

pub feed-there : (b : ℕ) (bs : List ℕ) → b ≡ 10 → feeds (b ∷ bs) ≡ suc (feeds bs)
feed-there b bs e = ap (λ t. if t then suc (feeds bs) else feeds bs) (eq-eqb b 10 e)

pub no-feed-there : (b : ℕ) (bs : List ℕ) → (b ≡ 10 → ⊥) → feeds (b ∷ bs) ≡ feeds bs
no-feed-there b bs f = ap (λ t. if t then suc (feeds bs) else feeds bs) (ne_eqb b 10 f)

pub ruleset feed_rules = (feed-there, no-feed-there, drop_more, drop_all)

pub front-is : (text front rest : List ℕ) (n : ℕ) → text ≡ front ++ rest → n ≡ length text - length rest → take n text ≡ front
front-is text front rest n e is =
    let all = ap length e in
    ap (λ k. take k text) (is ∙ numbers (length text) (length front) (length rest) (all ∙ length-append front rest)) ∙ (ap (take (length front)) e ∙ taken front rest)
  where
    numbers : (t f r : ℕ) → t ≡ f + r → t - r ≡ f
    numbers t f r e = omega (arith, e)

    taken : (xs ys : List ℕ) → take (length xs) (xs ++ ys) ≡ xs
    taken [] ys = refl
    taken (x ∷ xs) ys = ap (λ z. x ∷ z) (taken xs ys)

pub ruleset number_rules = (front-is)
