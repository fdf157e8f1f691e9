-- How far a text goes with a listing, piece by piece: a fixed text, the events behind it, and what follows.
use Rattle.std.proofs.Common.{◌≡◌, ℕ, List, [], ◌∷◌, ◌++◌, Bool, true, false, refl, sym, ap, ◌∙◌, subst, ◌==◌, append_assoc, append-nil, if◌then◌else◌}
use Rattle.std.specs.Prelude.{codes}
use Rattle.witx_machine.specs.Events.{Event}
use Rattle.witx_adapt.specs.Lines.{event_line, event_lines, event_text}
use Rattle.witx_traces.specs.Traces.{Types, CanSay, IsSayable, one_line, ended}
use Rattle.witx_traces.specs.Passages.{Stretch, Has, Stops, StopsAt, is_ended, indented, BeginPlainly, events_of}
use Rattle.witx_traces.proofs.UnfitLines.{ends-both, ends-feed, line-cut}

-- ---- texts

tail-of : (a b : ℕ) (xs ys : List ℕ) → a ∷ xs ≡ b ∷ ys → xs ≡ ys
tail-of a b xs ys e = cc

pub cancel : (xs ys zs : List ℕ) → xs ++ ys ≡ xs ++ zs → ys ≡ zs
cancel [] ys zs e = e
cancel (x ∷ xs) ys zs e = cancel xs ys zs (tail-of x x _ _ e)

-- a line with its feed begins no text without one
pub no-feed : (line more : List ℕ) → one_line (ended line ++ more) ≡ true → ⊥
no-feed [] more e = absurd (cc)
no-feed (b ∷ line) more e = by (b == 10) e (no-feed line more)
  where
    by : (t : Bool) → (if t then false else one_line (ended line ++ more)) ≡ true → (one_line (ended line ++ more) ≡ true → ⊥) → ⊥
    by true e next = absurd (cc)
    by false e next = next e

-- and isn't empty
pub some-line : (line more : List ℕ) → [] ≡ ended line ++ more → ⊥
some-line [] more e = absurd (cc)
some-line (b ∷ line) more e = absurd (cc)

-- the first byte of a line with its feed, whatever follows
same-start : (line more after : List ℕ) → indented (ended line ++ more) ≡ indented (ended line ++ after)
same-start [] more after = refl
same-start (b ∷ line) more after = refl

same-front : (front line more after : List ℕ) → indented ((front ++ ended line) ++ more) ≡ indented ((front ++ ended line) ++ after)
same-front [] line more after = same-start line more after
same-front (b ∷ front) line more after = refl

line-flat : (e : Event) (r : List ℕ) → event_line e ++ r ≡ ended (codes "  " ++ event_text e) ++ r
line-flat e r = refl

-- ---- some text has the stretches

record SomeText (ss : List Stretch) (last : List ℕ) : Type 0 where
  text : List ℕ
  has : Has ss last text

some-text : (ss : List Stretch) (last : List ℕ) → SomeText ss last
some-text [] last = record { text = last; has = refl }
some-text (s ∷ ss) last =
    let more = some-text ss last in
    record { text = s.fixed ++ more.text; has = ([], more.text, tt, refl, more.has) }

-- ---- a text that has no line feed, or whose first line is another one than is wanted

-- it stops where it begins
stops-here : (ss : List Stretch) (last text : List ℕ)
    → ((line behind after : List ℕ) → one_line line ≡ true → text ≡ ended line ++ behind → Has ss last (ended line ++ after) → ⊥)
    → (text ≡ [] → Has ss last text → ⊥) → StopsAt ss last text text
stops-here ss last text stops missing =
    let some = some-text ss last in
    record { front = []; whole = refl; lines = refl; more = some.text; begins = some.has; stops = stops; missing = missing }

pub stops-unended : (ss : List Stretch) (last text : List ℕ) → one_line text ≡ true → indented text ≡ true → StopsAt ss last text text
stops-unended ss last text one blank =
    stops-here ss last text (λ line behind after f e has. no-feed line behind (ap one_line (sym e) ∙ one))
    (λ e has. let wrong : false ≡ true = ap indented (sym e) ∙ blank in absurd (cc))

-- lines that stand above all that can follow
record Above (L : List ℕ → Type 0) (fixed : List ℕ) : Type 0 where
  more : List ℕ
  some : L (fixed ++ more)
  behind : (text : List ℕ) → L text → (rest : List ℕ) × (text ≡ fixed ++ rest)

stops-within : (L : List ℕ → Type 0) (fixed front wanted behind text rest : List ℕ) → Above L fixed → fixed ≡ front ++ (ended wanted ++ behind) → is_ended front ≡ true → one_line wanted ≡ true
    → text ≡ front ++ rest → ((more : List ℕ) → rest ≡ ended wanted ++ more → ⊥) → Stops L text rest
stops-within L fixed front wanted behind text rest above e lines one whole other =
    let flat : (z : List ℕ) → fixed ++ z ≡ front ++ (ended wanted ++ (behind ++ z)) =
    λ z. ap (λ x. x ++ z) e ∙ (append_assoc front (ended wanted ++ behind) z ∙ ap (λ x. front ++ x) (append_assoc (ended wanted) behind z)) in
    record {
      front = front;
      whole = whole;
      lines = lines;
      more = ended wanted ++ (behind ++ above.more);
      begins = subst L (flat above.more) above.some;
      stops = λ line after more f is has.
          let b = above.behind _ has in
          let here : ended line ++ more ≡ ended wanted ++ (behind ++ b.0) = cancel front _ _ (sym (append_assoc front (ended line) more) ∙ (b.1 ∙ flat b.0)) in
          let same = (line-cut line wanted more (behind ++ b.0) f one here).0 in
          other after (is ∙ ap (λ x. ended x ++ after) same);
      missing = λ is has.
          let b = above.behind _ has in
          some-line wanted (behind ++ b.0) (cancel front _ _ (ap (λ x. front ++ x) (sym is) ∙ (sym whole ∙ (b.1 ∙ flat b.0))));
    }

-- within the fixed text of a stretch, or within the last one
pub stops-fixed : (s : Stretch) (ss : List Stretch) (last front wanted behind text rest : List ℕ) → s.fixed ≡ front ++ (ended wanted ++ behind) → is_ended front ≡ true → one_line wanted ≡ true
    → text ≡ front ++ rest → ((more : List ℕ) → rest ≡ ended wanted ++ more → ⊥) → StopsAt (s ∷ ss) last text rest
stops-fixed s ss last front wanted behind text rest e lines one whole other =
    let some = some-text (s ∷ ss) last in
    let more = some-text ss last in
    let above : Above (Has (s ∷ ss) last) s.fixed = record { more = more.text; some = ([], more.text, tt, refl, more.has); behind = λ x h. (event_lines h.0 ++ h.1, h.3) } in
    stops-within (Has (s ∷ ss) last) s.fixed front wanted behind text rest above e lines one whole other

pub stops-last : (last front wanted behind text rest : List ℕ) → last ≡ front ++ (ended wanted ++ behind) → is_ended front ≡ true → one_line wanted ≡ true
    → text ≡ front ++ rest → ((more : List ℕ) → rest ≡ ended wanted ++ more → ⊥) → StopsAt [] last text rest
stops-last last front wanted behind text rest e lines one whole other =
    let above : Above (Has [] last) last = record { more = []; some = append-nil last; behind = λ x h. ([], h ∙ sym (append-nil last)) } in
    stops-within (Has [] last) last front wanted behind text rest above e lines one whole other

-- ---- behind the last fixed text

pub stops-behind : (last text rest : List ℕ) → is_ended last ≡ true → text ≡ last ++ rest → (rest ≡ [] → ⊥) → StopsAt [] last text rest
stops-behind last text rest lines whole some =
    record {
      front = last;
      whole = whole;
      lines = lines;
      more = [];
      begins = append-nil last;
      stops = λ line behind after f is has. some-line line after (sym (cancel last _ _ (sym (append_assoc last (ended line) after) ∙ (has ∙ sym (append-nil last)))));
      missing = λ is has. some is;
    }

-- ---- behind the fixed text of a stretch

pub stops-past : (s : Stretch) (ss : List Stretch) (last text behind rest : List ℕ) → is_ended s.fixed ≡ true → text ≡ s.fixed ++ behind → StopsAt (events_of s.types ∷ ss) last behind rest → StopsAt (s ∷ ss) last text rest
stops-past s ss last text behind rest lines whole h =
    let past : (x : List ℕ) → Has (s ∷ ss) last (s.fixed ++ x) → Has (events_of s.types ∷ ss) last x = λ x has. (has.0, has.1, has.2, cancel s.fixed _ _ has.3, has.4) in
    let front-flat : (z : List ℕ) → (s.fixed ++ h.front) ++ z ≡ s.fixed ++ (h.front ++ z) = λ z. append_assoc s.fixed h.front z in
    record {
      front = s.fixed ++ h.front;
      whole = whole ∙ (ap (λ z. s.fixed ++ z) h.whole ∙ sym (front-flat rest));
      lines = ends-both s.fixed h.front lines h.lines;
      more = h.more;
      begins = let b = h.begins in (b.0, b.1, b.2, front-flat h.more ∙ ap (λ z. s.fixed ++ z) b.3, b.4);
      stops = λ line more after f is has. h.stops line more after f is
          (past ((h.front ++ ended line) ++ after) (subst (Has (s ∷ ss) last) (ap (λ z. z ++ after) (front-flat (ended line)) ∙ append_assoc s.fixed (h.front ++ ended line) after) has));
      missing = λ is has. h.missing is (past behind (subst (Has (s ∷ ss) last) whole has));
    }

-- ---- events

lines-flat : (e : Event) (es : List Event) (m : List ℕ) → event_lines (e ∷ es) ++ m ≡ ended (codes "  " ++ event_text e) ++ (event_lines es ++ m)
lines-flat e es m = append_assoc (event_line e) (event_lines es) m

blank-line : (types : Types) (e : Event) → IsSayable types e → one_line (codes "  " ++ event_text e) ≡ true
blank-line types e f = f.1

-- what follows an event's line
behind-event : (types : Types) (ss : List Stretch) (last : List ℕ) (e : Event) (x : List ℕ) → IsSayable types e → BeginPlainly ss last → Has (events_of types ∷ ss) last (event_line e ++ x) → Has (events_of types ∷ ss) last x
behind-event types ss last e x f plain ([], m, all, is, has) = let wrong : true ≡ false = ap indented is ∙ plain m has in absurd (cc)
behind-event types ss last e x f plain (d ∷ es, m, all, is, has) =
    let same = line-cut (codes "  " ++ event_text e) (codes "  " ++ event_text d) x (event_lines es ++ m) (blank-line types e f) (blank-line types d all.0) (is ∙ lines-flat d es m) in
    (es, m, all.1, same.1, has)

pub stops-event : (types : Types) (ss : List Stretch) (last : List ℕ) (e : Event) (text behind rest : List ℕ) → BeginPlainly ss last → IsSayable types e → text ≡ event_line e ++ behind
    → StopsAt (events_of types ∷ ss) last behind rest → StopsAt (events_of types ∷ ss) last text rest
stops-event types ss last e text behind rest plain f whole h =
    let front-flat : (z : List ℕ) → (event_line e ++ h.front) ++ z ≡ event_line e ++ (h.front ++ z) = λ z. append_assoc (event_line e) h.front z in
    record {
      front = event_line e ++ h.front;
      whole = whole ∙ (ap (λ z. event_line e ++ z) h.whole ∙ sym (front-flat rest));
      lines = ends-both (event_line e) h.front (ends-feed (codes "  " ++ event_text e)) h.lines;
      more = h.more;
      begins = let b = h.begins in (e ∷ b.0, b.1, (f, b.2), front-flat h.more ∙ (ap (λ z. event_line e ++ z) b.3 ∙ sym (lines-flat e b.0 b.1)), b.4);
      stops = λ line more after g is has. h.stops line more after g is
          (behind-event types ss last e ((h.front ++ ended line) ++ after) f plain
          (subst (Has (events_of types ∷ ss) last) (ap (λ z. z ++ after) (front-flat (ended line)) ∙ append_assoc (event_line e) (h.front ++ ended line) after) has));
      missing = λ is has. h.missing is (behind-event types ss last e behind f plain (subst (Has (events_of types ∷ ss) last) whole has));
    }

-- a text that doesn't begin with a blank has no event
no-event : (types : Types) (ss : List Stretch) (last x : List ℕ) → indented x ≡ false → Has (events_of types ∷ ss) last x → Has ss last x
no-event types ss last x plain ([], m, all, is, has) = subst (Has ss last) (sym is) has
no-event types ss last x plain (d ∷ es, m, all, is, has) = let wrong : false ≡ true = sym plain ∙ ap indented is in absurd (cc)

pub stops-after : (types : Types) (ss : List Stretch) (last text rest : List ℕ) → indented text ≡ false → StopsAt ss last text rest → StopsAt (events_of types ∷ ss) last text rest
stops-after types ss last text rest plain h =
    record {
      front = h.front;
      whole = h.whole;
      lines = h.lines;
      more = h.more;
      begins = ([], h.front ++ h.more, tt, refl, h.begins);
      stops = λ line behind after f is has. h.stops line behind after f is
          (no-event types ss last ((h.front ++ ended line) ++ after)
          (same-front h.front line after behind ∙ (ap indented (append_assoc h.front (ended line) behind ∙ (ap (λ z. h.front ++ z) (sym is) ∙ sym h.whole)) ∙ plain)) has);
      missing = λ is has. h.missing is (no-event types ss last text plain has);
    }

-- a line that begins with a blank and says no event
pub stops-unsaid : (types : Types) (ss : List Stretch) (last line text more : List ℕ) → BeginPlainly ss last → one_line line ≡ true → text ≡ ended line ++ more → indented text ≡ true
    → ((e : Event) → CanSay types e → codes "  " ++ event_text e ≡ line → ⊥) → StopsAt (events_of types ∷ ss) last text text
stops-unsaid types ss last line text more plain one whole blank none =
    stops-here (events_of types ∷ ss) last text
    (λ other behind after f is has.
    let same = (line-cut line other more behind one f (sym whole ∙ is)).0 in
    unsaid other after f same has (same-start other after behind ∙ (ap indented (sym is) ∙ blank)))
    (λ is has. some-line line more (sym is ∙ whole))
  where
    unsaid : (other after : List ℕ) → one_line other ≡ true → line ≡ other → Has (events_of types ∷ ss) last (ended other ++ after) → indented (ended other ++ after) ≡ true → ⊥
    unsaid other after f same ([], m, all, is, has) led = let wrong : true ≡ false = sym led ∙ (ap indented is ∙ plain m has) in absurd (cc)
    unsaid other after f same (d ∷ es, m, all, is, has) led =
        none d all.0.0 (sym (same ∙ (line-cut other (codes "  " ++ event_text d) after (event_lines es ++ m) f (blank-line types d all.0) (is ∙ lines-flat d es m)).0))
