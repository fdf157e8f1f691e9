-- An event whose types each stand for something is read back from its line, each type as what its text stands for.
use Rattle.std.proofs.Common.{◌≡◌, ℕ, List, [], ◌∷◌, ◌++◌, map, Bool, true, false, refl, sym, ap, ◌∙◌, subst, Option, Some, None, if◌then◌else◌}
use Rattle.std.specs.Prelude.{⊤, ◌&&◌, codes, option_map}
use Rattle.std.specs.List.{AllByRecursion, flat_map}
use Rattle.std.specs.Str.{IsUtf8}
use Rattle.std.specs.Fmt.{decimal}
use Rattle.witx_base.specs.Texts.{same_text}
use Rattle.witx_base.proofs.Names.{same-equal}
use Rattle.witx_ast.specs.Tree.{Tree}
use Rattle.witx_ast.specs.TypeNames.{type_text}
use Rattle.witx_machine.specs.declared.surface.WasmType.{WasmType}
use Rattle.witx_machine.specs.Events.{Event}
use Rattle.witx_adapt.specs.Lines.{event_line, event_lines, event_text}
use Rattle.witx_adapt.specs.Names.{in_quotes, signature, spaced, wasm_word, wasm_words}
use Rattle.witx_traces.specs.declared.line_words.LineWord.{LineWord}
use Rattle.witx_traces.specs.Traces.{Types, EndsBeforeError, IsSayable, IsPayload, IsWord, one_line, shown as shown_in, shown_payload}
use Rattle.witx_traces.specs.LineParts.{Parts, plain, number, named, shown, wasm, interface, lower, room, finished, event_from, line_word, lower_tail, tail_of, word_spelling, the_line_words, word_spelled, CanSayParts, parts, with_tail}
use Rattle.witx_traces.specs.ReadBack.{event_read, or_itself, parts_read, read_as}
use Rattle.witx_traces.proofs.LineWords.{from-parts, text-parts, can-parts, spells}
use Rattle.witx_traces.proofs.TypeReading.{Named, AreNamed, shown-named, payload-named}
use Rattle.witx_traces.proofs.OneLines.{one-append, number-one, quoted-one}
use Rattle.witx_traces.proofs.OneEvent.{lower-texts}
use Rattle.witx_traces.specs.LineReading.{EndsFirst, payloads_tail}

-- ---- what is asked of an event's types

-- the text is in one line and stands for a type
pub record Stands (look : List ℕ → Option Tree) (t : Tree) : Type 0 where
  pub for : Tree
  pub is : look (type_text t) ≡ Some for
  pub one : one_line (type_text t) ≡ true

abbrev pub PayloadStands : Types → Option Tree → Type 0
PayloadStands types None = ⊤
PayloadStands types (Some t) = Stands (shown_payload types) t

abbrev pub CanTell : Types → Parts → Type 0
CanTell types (plain w) = ⊤
CanTell types (number w n) = IsWord n
CanTell types (named w t) = Stands types.typename t
CanTell types (shown w t) = Stands (shown_in types) t
CanTell types (wasm m n ps rs) = IsUtf8 m × IsUtf8 n
CanTell types (interface m n ps rs) = IsUtf8 m × IsUtf8 n × (ps ≡ types.params) × (rs ≡ types.results)
CanTell types (lower ok err) = PayloadStands types ok × PayloadStands types err × EndsBeforeError ok
CanTell types (room k t) = IsWord k × Stands types.typename t
CanTell types (finished v) = ⊤

-- what stands behind an event's word is in its line
abbrev OneTail : Option (List ℕ) → Type 0
OneTail None = ⊤
OneTail (Some tail) = one_line tail ≡ true

-- ---- types

read-text : (look : List ℕ → Option Tree) → Named look → (t : Tree) → Stands look t → type_text (read_as look t) ≡ type_text t
read-text look n t s = ap (λ o. type_text (or_itself t o)) s.is ∙ n (type_text t) s.for s.is

read-stands : (look : List ℕ → Option Tree) → Named look → (t : Tree) → Stands look t → look (type_text (read_as look t)) ≡ Some (read_as look t)
read-stands look n t s = ap look (read-text look n t s) ∙ (s.is ∙ sym (ap (λ o. Some (or_itself t o)) s.is))

payload-text : (types : Types) → AreNamed types → (o : Option Tree) → PayloadStands types o → option_map type_text (option_map (read_as (shown_payload types)) o) ≡ option_map type_text o
payload-text types n None s = refl
payload-text types n (Some t) s = ap Some (read-text (shown_payload types) (payload-named types n) t s)

payload-can : (types : Types) → AreNamed types → (o : Option Tree) → PayloadStands types o → IsPayload types (option_map (read_as (shown_payload types)) o)
payload-can types n None s = tt
payload-can types n (Some t) s = read-stands (shown_payload types) (payload-named types n) t s

ends-as : (types : Types) → AreNamed types → (o : Option Tree) → PayloadStands types o → EndsBeforeError o → EndsBeforeError (option_map (read_as (shown_payload types)) o)
ends-as types n None s h = tt
ends-as types n (Some t) s h = subst (λ z. EndsFirst (Some z)) (sym (read-text (shown_payload types) (payload-named types n) t s)) h

lower-tails : (a b c d : Option Tree) → option_map type_text a ≡ option_map type_text c → option_map type_text b ≡ option_map type_text d → lower_tail a b ≡ lower_tail c d
lower-tails a b c d e f = lower-texts a b ∙ (ap (λ z. payloads_tail z (option_map type_text b)) e ∙ (ap (payloads_tail (option_map type_text c)) f ∙ sym (lower-texts c d)))

-- ---- the parts that come back

word-read : (types : Types) (p : Parts) → line_word (parts_read types p) ≡ line_word p
word-read types (plain w) = refl
word-read types (number w n) = refl
word-read types (named w t) = refl
word-read types (shown w t) = refl
word-read types (wasm m n ps rs) = refl
word-read types (interface m n ps rs) = refl
word-read types (lower ok err) = refl
word-read types (room k t) = refl
word-read types (finished v) = refl

tail-read : (types : Types) → AreNamed types → (p : Parts) → CanTell types p → tail_of (parts_read types p) ≡ tail_of p
tail-read types a (plain w) h = refl
tail-read types a (number w n) h = refl
tail-read types a (named w t) h = ap Some (read-text types.typename a.typename t h)
tail-read types a (shown w t) h = ap Some (read-text (shown_in types) (shown-named types a) t h)
tail-read types a (wasm m n ps rs) h = refl
tail-read types a (interface m n ps rs) h = refl
tail-read types a (lower ok err) h =
    lower-tails (option_map (read_as (shown_payload types)) ok) (option_map (read_as (shown_payload types)) err) ok err (payload-text types a ok h.0) (payload-text types a err h.1)
tail-read types a (room k t) h = ap (λ z. Some (decimal k ++ (codes " " ++ z))) (read-text types.typename a.typename t h.1)
tail-read types a (finished v) h = refl

can-read : (types : Types) → AreNamed types → (p : Parts) → CanTell types p → CanSayParts types (parts_read types p)
can-read types a (plain w) h = tt
can-read types a (number w n) h = h
can-read types a (named w t) h = read-stands types.typename a.typename t h
can-read types a (shown w t) h = read-stands (shown_in types) (shown-named types a) t h
can-read types a (wasm m n ps rs) h = h
can-read types a (interface m n ps rs) h = h
can-read types a (lower ok err) h = (payload-can types a ok h.0, payload-can types a err h.1, ends-as types a ok h.0 h.2)
can-read types a (room k t) h = (h.0, read-stands types.typename a.typename t h.1)
can-read types a (finished v) h = tt

-- ---- one line

wasm-one : (t : WasmType) → one_line (wasm_word t) ≡ true
wasm-one WasmType.I32 = refl
wasm-one WasmType.I64 = refl
wasm-one WasmType.F32 = refl
wasm-one WasmType.F64 = refl

spaced-one : (ts : List WasmType) → one_line (flat_map spaced ts) ≡ true
spaced-one [] = refl
spaced-one (t ∷ ts) = one-append (spaced t) (flat_map spaced ts) (wasm-one t) (spaced-one ts)

words-one : (ts : List WasmType) → one_line (wasm_words ts) ≡ true
words-one [] = refl
words-one (t ∷ ts) = one-append (wasm_word t) (flat_map spaced ts) (wasm-one t) (spaced-one ts)

list-one : (ts : List WasmType) → one_line (codes "(" ++ wasm_words ts ++ codes ")") ≡ true
list-one ts = one-append (wasm_words ts) (codes ")") (words-one ts) refl

signature-one : (ps rs : List WasmType) → one_line (signature ps rs) ≡ true
signature-one ps rs =
    one-append ((codes "(" ++ wasm_words ps ++ codes ")") ++ codes " -> ") (codes "(" ++ wasm_words rs ++ codes ")")
    (one-append (codes "(" ++ wasm_words ps ++ codes ")") (codes " -> ") (list-one ps) refl) (list-one rs)

payloads-one : (types : Types) (ok err : Option Tree) → PayloadStands types ok → PayloadStands types err → OneTail (lower_tail ok err)
payloads-one types None None f g = tt
payloads-one types (Some t) None f g = f.one
payloads-one types (Some t) (Some u) f g = one-append (type_text t) (codes " err " ++ type_text u) f.one g.one
payloads-one types None (Some u) f g = g.one

tail-one : (types : Types) (p : Parts) → CanTell types p → OneTail (tail_of p)
tail-one types (plain w) h = tt
tail-one types (number w n) h = number-one n h
tail-one types (named w t) h = h.one
tail-one types (shown w t) h = h.one
tail-one types (wasm m n ps rs) h =
    one-append (in_quotes m) (codes " " ++ (in_quotes n ++ (codes " " ++ signature ps rs))) (quoted-one m)
    (one-append (in_quotes n) (codes " " ++ signature ps rs) (quoted-one n) (signature-one ps rs))
tail-one types (interface m n ps rs) h = one-append (in_quotes m) (codes " " ++ in_quotes n) (quoted-one m) (quoted-one n)
tail-one types (lower ok err) h = payloads-one types ok err h.0 h.1
tail-one types (room k t) h = one-append (decimal k) (codes " " ++ type_text t) (number-one k h.0) h.1.one
tail-one types (finished true) h = refl
tail-one types (finished false) h = refl

-- the words of lines
all_one : List (LineWord × List ℕ) → Bool
all_one [] = true
all_one (p ∷ ps) = one_line p.1 && all_one ps

spelled-one : all_one the_line_words ≡ true
unfolding all_one
spelled-one = refl

pub both-true : (a b : Bool) → a && b ≡ true → (a ≡ true) × (b ≡ true)
both-true true true e = (refl, refl)
both-true true false e = absurd (cc)
both-true false b e = absurd (cc)

by-spelling : (p : LineWord × List ℕ) (o : Option LineWord) (text : List ℕ) (w : LineWord) (t : Bool) → same_text p.1 text ≡ t → one_line p.1 ≡ true → (o ≡ Some w → one_line text ≡ true)
    → (if t then Some p.0 else o) ≡ Some w → one_line text ≡ true
by-spelling p o text w true e one more h = subst (λ z. one_line z ≡ true) ((same-equal p.1 text).0 e) one
by-spelling p o text w false e one more h = more h

among-one : (ps : List (LineWord × List ℕ)) (text : List ℕ) (w : LineWord) → all_one ps ≡ true → word_spelled ps text ≡ Some w → one_line text ≡ true
unfolding all_one
among-one [] text w a h = absurd (cc)
among-one (p ∷ ps) text w a h =
    let both = both-true (one_line p.1) (all_one ps) a in
    by-spelling p (word_spelled ps text) text w (same_text p.1 text) refl both.0 (among-one ps text w both.1) h

word-one : (w : LineWord) → one_line (word_spelling w) ≡ true
word-one w = among-one the_line_words (word_spelling w) w spelled-one (spells w)

line-one : (word : List ℕ) (tail : Option (List ℕ)) → one_line word ≡ true → OneTail tail → one_line (with_tail word tail) ≡ true
line-one word None e h = e
line-one word (Some tail) e h = one-append word (32 ∷ tail) e h

-- ---- an event, and events

pub record IsReadBack (types : Types) (e : Event) : Type 0 where
  pub line : IsSayable types (event_read types e)
  pub same : event_text (event_read types e) ≡ event_text e

pub read-back : (types : Types) → AreNamed types → (e : Event) → CanTell types (parts e) → IsReadBack types e
read-back types a e h =
    let p = parts e in
    let q = parts_read types p in
    let text : event_text (event_from q) ≡ with_tail (word_spelling (line_word p)) (tail_of p) =
    text-parts q ∙ (ap (λ w. with_tail (word_spelling w) (tail_of q)) (word-read types p) ∙ ap (with_tail (word_spelling (line_word p))) (tail-read types a p h)) in
    record {
      line = (
        subst (λ T. T) (sym (can-parts types q)) (can-read types a p h),
        ap one_line text ∙ line-one (word_spelling (line_word p)) (tail_of p) (word-one (line_word p)) (tail-one types p h),
      );
      same = text ∙ (sym (text-parts p) ∙ ap event_text (from-parts e));
    }

-- each event's types stand for something
abbrev pub Tells : Types → List Event → Type 0
Tells types es = AllByRecursion (λ e. CanTell types (parts e)) es

pub lines-read : (types : Types) → AreNamed types → (es : List Event) → Tells types es → AllByRecursion (IsSayable types) (map (event_read types) es)
lines-read types a [] h = tt
lines-read types a (e ∷ es) h = ((read-back types a e h.0).line, lines-read types a es h.1)

pub texts-read : (types : Types) → AreNamed types → (es : List Event) → Tells types es → event_lines (map (event_read types) es) ≡ event_lines es
texts-read types a [] h = refl
texts-read types a (e ∷ es) h =
    ap (λ z. (codes "  " ++ z ++ codes "\n") ++ event_lines (map (event_read types) es)) (read-back types a e h.0).same ∙ ap (λ z. event_line e ++ z) (texts-read types a es h.1)
