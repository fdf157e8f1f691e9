-- The event that a line says, by its word and what stands behind it.
use Rattle.std.proofs.Common.{◌≡◌, ℕ, List, [], ◌∷◌, ◌++◌, map, Bool, true, false, refl, sym, ap, ◌∙◌, subst, Option, Some, None, append-nil, if◌then◌else◌, ◌==◌}
use Rattle.std.specs.Prelude.{codes, option_map, Result, Ok, Err}
use Rattle.std.specs.Fmt.{decimal}
use Rattle.std.specs.Str.{IsUtf8}
use Rattle.std.specs.Str.Parse.{ParsesUnsigned}
use Rattle.std.proofs.lemmas.Fmt.{parse-decimal}
use Rattle.witx_base.specs.Texts.{same_text}
use Rattle.witx_base.proofs.Names.{same-equal}
use Rattle.witx_ast.specs.Tree.{Tree}
use Rattle.witx_ast.specs.TypeNames.{type_text}
use Rattle.witx_machine.specs.declared.surface.WasmType.{WasmType}
use Rattle.witx_machine.specs.Events.{Step, Event, emit, space, finish}
use Rattle.witx_adapt.specs.Lines.{event_text}
use Rattle.witx_adapt.specs.Names.{in_quotes, signature}
use Rattle.witx_traces.specs.declared.line_words.PlainWord.{PlainWord}
use Rattle.witx_traces.specs.declared.line_words.NumberWord.{NumberWord}
use Rattle.witx_traces.specs.declared.line_words.NamedWord.{NamedWord}
use Rattle.witx_traces.specs.declared.line_words.ShownWord.{ShownWord}
use Rattle.witx_traces.specs.declared.line_words.LineWord.{LineWord}
use Rattle.witx_traces.specs.LineParts.{Parts, plain, number, named, shown, wasm, interface, lower, room, finished, plain_event, number_step, named_word_step, shown_step, event_from, line_word, tail_of, block_end, CanSayParts, word_spelling, spelled_line_word, all_words, the_line_words, word_spelled, parts, with_tail, no_blank, HasParts, SaidBy, HasText, SaidByText, SaidByLine}
use Rattle.witx_traces.specs.LineReading.{IsBehind, NumberAt, NamesAt, QuotedAt, SignatureAt, PayloadsAt, payloads_tail, EndsFirst}
use Rattle.witx_traces.specs.declared.candidates.KnownTypes.{KnownTypes}
use Rattle.witx_traces.specs.ReadTypes.{PayloadAt, known_in}
use Rattle.witx_traces.specs.Traces.{Types, CanSay, IsWord, IsPayload, EndsBeforeError, shown as shown_in, shown_payload}
use Rattle.witx_traces.proofs.LineWords.{each-named, each-number, each-shown, from-parts, text-parts, can-parts, spells, word-unbroken}
use Rattle.witx_traces.proofs.OneEvent.{tails-same, said-parts, plain-shape, number-shape, named-shape, shown-shape, wasm-shape, interface-shape, lower-shape, room-shape, finished-shape, cut, number-unbroken, lower-texts, ends-first}
use Rattle.witx_traces.proofs.PayloadTexts.{payloads-same}
use Rattle.witx_traces.proofs.Quoting.{quoted-same}
use Rattle.witx_traces.proofs.TypeReading.{Named, known-named, payload-named, shown-named}

some-same : {A : Type 0} (x y : A) → Some x ≡ Some y → x ≡ y
some-same x y e = cc

-- ---- the parts of the event that is made of them

parts-plain : (w : PlainWord) → parts (plain_event w) ≡ plain w
parts-plain PlainWord.AddrOf = refl
parts-plain PlainWord.I32FromChar = refl
parts-plain PlainWord.I64FromU64 = refl
parts-plain PlainWord.I64FromS64 = refl
parts-plain PlainWord.I32FromU32 = refl
parts-plain PlainWord.I32FromS32 = refl
parts-plain PlainWord.I32FromUsize = refl
parts-plain PlainWord.I32FromU16 = refl
parts-plain PlainWord.I32FromS16 = refl
parts-plain PlainWord.I32FromU8 = refl
parts-plain PlainWord.I32FromS8 = refl
parts-plain PlainWord.I32FromChar8 = refl
parts-plain PlainWord.I32FromPointer = refl
parts-plain PlainWord.I32FromConstPointer = refl
parts-plain PlainWord.F32FromIf32 = refl
parts-plain PlainWord.F64FromIf64 = refl
parts-plain PlainWord.ListPointerLength = refl
parts-plain PlainWord.S8FromI32 = refl
parts-plain PlainWord.U8FromI32 = refl
parts-plain PlainWord.S16FromI32 = refl
parts-plain PlainWord.U16FromI32 = refl
parts-plain PlainWord.S32FromI32 = refl
parts-plain PlainWord.U32FromI32 = refl
parts-plain PlainWord.S64FromI64 = refl
parts-plain PlainWord.U64FromI64 = refl
parts-plain PlainWord.CharFromI32 = refl
parts-plain PlainWord.Char8FromI32 = refl
parts-plain PlainWord.UsizeFromI32 = refl
parts-plain PlainWord.If32FromF32 = refl
parts-plain PlainWord.If64FromF64 = refl
parts-plain PlainWord.VariantPayload = refl
parts-plain PlainWord.ReuseReturn = refl
parts-plain PlainWord.ResultLift = refl
parts-plain PlainWord.PushBlock = refl

parts-number : (w : NumberWord) (n : ℕ) → parts (emit (number_step w n)) ≡ number w n
parts-number w n = each-number (λ w. parts (emit (number_step w n)) ≡ number w n) refl refl refl refl refl w

parts-named : (w : NamedWord) (t : Tree) → parts (emit (named_word_step w t)) ≡ named w t
parts-named w t = each-named (λ w. parts (emit (named_word_step w t)) ≡ named w t) refl refl refl refl refl refl refl refl refl refl w

parts-shown : (w : ShownWord) (t : Tree) → parts (emit (shown_step w t)) ≡ shown w t
parts-shown w t = each-shown (λ w. parts (emit (shown_step w t)) ≡ shown w t) refl refl refl w

from-event : (p : Parts) → parts (event_from p) ≡ p
from-event (plain w) = parts-plain w
from-event (number w n) = parts-number w n
from-event (named w t) = parts-named w t
from-event (shown w t) = parts-shown w t
from-event (wasm m n ps rs) = refl
from-event (interface m n ps rs) = refl
from-event (lower ok err) = refl
from-event (room k t) = refl
from-event (finished v) = refl

-- the event of parts that can be said
has-parts : (types : Types) (p : Parts) (tail : Option (List ℕ)) → tail_of p ≡ tail → CanSayParts types p → HasParts types (line_word p) tail (event_from p)
has-parts types p tail e can = record { word-is = ap line_word (from-event p); tail-is = ap tail_of (from-event p) ∙ e; can = subst (CanSayParts types) (sym (from-event p)) can }

-- what is known of the parts with that word
told : (types : Types) (p q : Parts) (tail : Option (List ℕ)) → p ≡ q → tail_of p ≡ tail → CanSayParts types p → (tail_of q ≡ tail) × CanSayParts types q
told types p q tail e t can = (ap tail_of (sym e) ∙ t, subst (CanSayParts types) e can)

-- ---- words alone

pub plain-alone : (types : Types) (w : PlainWord) (e : Event) → e ≡ plain_event w → SaidBy types (LineWord.Plain w) None (Some e)
plain-alone types w e is = subst (HasParts types (LineWord.Plain w) None) (sym is) (has-parts types (plain w) None refl tt)

pub plain-behind : (types : Types) (w : PlainWord) (tail : List ℕ) → SaidBy types (LineWord.Plain w) (Some tail) None
plain-behind types w tail = record { none = λ e h. let t : None ≡ Some tail = (told types (parts e) (plain w) (Some tail) (plain-shape w (parts e) h.word-is) h.tail-is h.can).0 in absurd (cc) }

pub lower-alone : (types : Types) (e : Event) → e ≡ emit (Step.ResultLower None None) → SaidBy types LineWord.ResultLower None (Some e)
lower-alone types e is = subst (HasParts types LineWord.ResultLower None) (sym is) (has-parts types (lower None None) None refl (tt, tt, tt))

pub number-alone : (types : Types) (w : NumberWord) → SaidBy types (LineWord.Number w) None None
number-alone types w = record { none = λ e h. let s = number-shape w (parts e) h.word-is in let t : Some (decimal s.0) ≡ None = (told types (parts e) (number w s.0) None s.1 h.tail-is h.can).0 in absurd (cc) }

pub named-alone : (types : Types) (w : NamedWord) → SaidBy types (LineWord.Named w) None None
named-alone types w = record { none = λ e h. let s = named-shape w (parts e) h.word-is in let t : Some (type_text s.0) ≡ None = (told types (parts e) (named w s.0) None s.1 h.tail-is h.can).0 in absurd (cc) }

pub shown-alone : (types : Types) (w : ShownWord) → SaidBy types (LineWord.Shown w) None None
shown-alone types w = record { none = λ e h. let s = shown-shape w (parts e) h.word-is in let t : Some (type_text s.0) ≡ None = (told types (parts e) (shown w s.0) None s.1 h.tail-is h.can).0 in absurd (cc) }

pub wasm-alone : (types : Types) → SaidBy types LineWord.CallWasm None None
wasm-alone types = record { none = λ e h. let s = wasm-shape (parts e) h.word-is in let t : tail_of (wasm s.0 s.1 s.2 s.3) ≡ None = (told types (parts e) (wasm s.0 s.1 s.2 s.3) None s.4 h.tail-is h.can).0 in absurd (cc) }

pub interface-alone : (types : Types) → SaidBy types LineWord.CallInterface None None
interface-alone types = record { none = λ e h. let s = interface-shape (parts e) h.word-is in let t : tail_of (interface s.0 s.1 s.2 s.3) ≡ None = (told types (parts e) (interface s.0 s.1 s.2 s.3) None s.4 h.tail-is h.can).0 in absurd (cc) }

pub room-alone : (types : Types) → SaidBy types LineWord.Space None None
room-alone types = record { none = λ e h. let s = room-shape (parts e) h.word-is in let t : tail_of (room s.0 s.1) ≡ None = (told types (parts e) (room s.0 s.1) None s.2 h.tail-is h.can).0 in absurd (cc) }

pub finished-alone : (types : Types) → SaidBy types LineWord.FinishBlock None None
finished-alone types = record { none = λ e h. let s = finished-shape (parts e) h.word-is in let t : tail_of (finished s.0) ≡ None = (told types (parts e) (finished s.0) None s.1 h.tail-is h.can).0 in absurd (cc) }

pub ruleset alone_rules = (plain-alone, lower-alone, number-alone, named-alone, shown-alone, wasm-alone, interface-alone, room-alone, finished-alone)

-- ---- numbers

pub number-said : (types : Types) (w : NumberWord) (tail : List ℕ) (n : ℕ) (s : Step) → NumberAt tail (Some n) → s ≡ number_step w n → SaidBy types (LineWord.Number w) (Some tail) (Some (emit s))
number-said types w tail n s h e = subst (λ x. HasParts types (LineWord.Number w) (Some tail) (emit x)) (sym e) (has-parts types (number w n) (Some tail) (ap Some h.same) h.word)

pub number-unsaid : (types : Types) (w : NumberWord) (tail : List ℕ) → NumberAt tail None → SaidBy types (LineWord.Number w) (Some tail) None
number-unsaid types w tail none = record { none = λ e h. let s = number-shape w (parts e) h.word-is in let t = told types (parts e) (number w s.0) (Some tail) s.1 h.tail-is h.can in none.none s.0 (record { word = t.1; same = some-same _ _ t.0 }) }

-- ---- types

pub named-said : (types : Types) (w : NamedWord) (tail : List ℕ) (t : Tree) (s : Step) → Named types.typename → types.typename tail ≡ Some t → s ≡ named_word_step w t → SaidBy types (LineWord.Named w) (Some tail) (Some (emit s))
named-said types w tail t s own h e =
    let text = own tail t h in
    subst (λ x. HasParts types (LineWord.Named w) (Some tail) (emit x)) (sym e) (has-parts types (named w t) (Some tail) (ap Some text) (ap types.typename text ∙ h))

pub named-unsaid : (types : Types) (w : NamedWord) (tail : List ℕ) → types.typename tail ≡ None → SaidBy types (LineWord.Named w) (Some tail) None
named-unsaid types w tail none = record {
  none = λ e h.
      let s = named-shape w (parts e) h.word-is in
      let t = told types (parts e) (named w s.0) (Some tail) s.1 h.tail-is h.can in
      let wrong : None ≡ Some s.0 = sym none ∙ (ap types.typename (sym (some-same _ _ t.0)) ∙ t.1) in absurd (cc);
}

pub shown-said : (types : Types) (w : ShownWord) (tail : List ℕ) (t : Tree) (s : Step) → Named (shown_in types) → shown_in types tail ≡ Some t → s ≡ shown_step w t → SaidBy types (LineWord.Shown w) (Some tail) (Some (emit s))
shown-said types w tail t s own h e =
    let text = own tail t h in
    subst (λ x. HasParts types (LineWord.Shown w) (Some tail) (emit x)) (sym e) (has-parts types (shown w t) (Some tail) (ap Some text) (ap (shown_in types) text ∙ h))

pub shown-unsaid : (types : Types) (w : ShownWord) (tail : List ℕ) → shown_in types tail ≡ None → SaidBy types (LineWord.Shown w) (Some tail) None
shown-unsaid types w tail none = record {
  none = λ e h.
      let s = shown-shape w (parts e) h.word-is in
      let t = told types (parts e) (shown w s.0) (Some tail) s.1 h.tail-is h.can in
      let wrong : None ≡ Some s.0 = sym none ∙ (ap (shown_in types) (sym (some-same _ _ t.0)) ∙ t.1) in absurd (cc);
}

-- ---- spaces

pub room-said : (types : Types) (tail front name : List ℕ) (k : ℕ) (t u : Tree) → tail ≡ front ++ 32 ∷ name → NumberAt front (Some k) → Named types.typename → types.typename name ≡ Some t → u ≡ t
    → SaidBy types LineWord.Space (Some tail) (Some (space k u))
room-said types tail front name k t u e h own f is =
    let text = own name t f in
    subst (λ x. HasParts types LineWord.Space (Some tail) (space k x)) (sym is)
    (has-parts types (room k t) (Some tail) (ap Some (ap (λ z. z ++ 32 ∷ type_text t) h.same ∙ (ap (λ z. front ++ 32 ∷ z) text ∙ sym e))) (h.word, ap types.typename text ∙ f))

record Roomed (types : Types) (tail : List ℕ) : Type 0 where
  slot : ℕ
  ty : Tree
  word : IsWord slot
  known : types.typename (type_text ty) ≡ Some ty
  same : decimal slot ++ 32 ∷ type_text ty ≡ tail

roomed : (types : Types) (tail : List ℕ) (e : Event) → HasParts types LineWord.Space (Some tail) e → Roomed types tail
roomed types tail e h =
    let s = room-shape (parts e) h.word-is in
    let t = told types (parts e) (room s.0 s.1) (Some tail) s.2 h.tail-is h.can in
    record { slot = s.0; ty = s.1; word = t.1.0; known = t.1.1; same = some-same _ _ t.0 }

no-blank-in : (xs ys : List ℕ) → no_blank (xs ++ 32 ∷ ys) ≡ true → ⊥
no-blank-in [] ys e = absurd (cc)
no-blank-in (x ∷ xs) ys e = by (x == 32) e (no-blank-in xs ys)
  where
    by : (t : Bool) → (if t then false else no_blank (xs ++ 32 ∷ ys)) ≡ true → (no_blank (xs ++ 32 ∷ ys) ≡ true → ⊥) → ⊥
    by true e more = absurd (cc)
    by false e more = more e

pub room-whole : (types : Types) (tail : List ℕ) → no_blank tail ≡ true → SaidBy types LineWord.Space (Some tail) None
room-whole types tail one = record { none = λ e h. let r = roomed types tail e h in no-blank-in (decimal r.slot) (type_text r.ty) (ap no_blank r.same ∙ one) }

pub room-unnumbered : (types : Types) (tail front name : List ℕ) → tail ≡ front ++ 32 ∷ name → no_blank front ≡ true → NumberAt front None → SaidBy types LineWord.Space (Some tail) None
room-unnumbered types tail front name e one none = record {
  none = λ d h.
      let r = roomed types tail d h in
      none.none r.slot (record { word = r.word; same = (cut (decimal r.slot) front (type_text r.ty) name (number-unbroken r.slot r.word) one (r.same ∙ e)).0 });
}

pub room-unknown : (types : Types) (tail front name : List ℕ) → tail ≡ front ++ 32 ∷ name → no_blank front ≡ true → types.typename name ≡ None → SaidBy types LineWord.Space (Some tail) None
room-unknown types tail front name e one none = record {
  none = λ d h.
      let r = roomed types tail d h in
      let text = (cut (decimal r.slot) front (type_text r.ty) name (number-unbroken r.slot r.word) one (r.same ∙ e)).1 in
      let wrong : None ≡ Some r.ty = sym none ∙ (ap types.typename (sym text) ∙ r.known) in absurd (cc);
}

-- ---- ends of blocks

pub finished-said : (types : Types) (tail : List ℕ) (v : Bool) → same_text (block_end v) tail ≡ true → SaidBy types LineWord.FinishBlock (Some tail) (Some (finish v))
finished-said types tail v e = has-parts types (finished v) (Some tail) (ap Some ((same-equal (block_end v) tail).0 e)) tt

pub finished-unsaid : (types : Types) (tail : List ℕ) → same_text (codes "value") tail ≡ false → same_text (codes "none") tail ≡ false → SaidBy types LineWord.FinishBlock (Some tail) None
finished-unsaid types tail f g = record { none = λ e h. let s = finished-shape (parts e) h.word-is in neither s.0 (some-same _ _ (told types (parts e) (finished s.0) (Some tail) s.1 h.tail-is h.can).0) }
  where
    neither : (v : Bool) → block_end v ≡ tail → ⊥
    neither true e = let wrong : false ≡ true = sym f ∙ (same-equal (codes "value") tail).1 e in absurd (cc)
    neither false e = let wrong : false ≡ true = sym g ∙ (same-equal (codes "none") tail).1 e in absurd (cc)

-- ---- calls

pub wasm-said : (types : Types) (tail m n rest own : List ℕ) (ps rs : List WasmType) → NamesAt tail (Some (record { owner = m; name = n; rest = rest })) → rest ≡ 32 ∷ own → SignatureAt own (Some (ps, rs))
    → SaidBy types LineWord.CallWasm (Some tail) (Some (emit (Step.CallWasm m n ps rs)))
wasm-said types tail m n rest own ps rs h e s =
    has-parts types (wasm m n ps rs) (Some tail) (ap Some (ap (λ z. in_quotes m ++ 32 ∷ (in_quotes n ++ 32 ∷ z)) (sym s.same) ∙ (ap (λ z. in_quotes m ++ 32 ∷ (in_quotes n ++ z)) (sym e) ∙ sym h.same))) (h.owner-utf8, h.name-utf8)

record Called (types : Types) (tail : List ℕ) : Type 0 where
  owner : List ℕ
  name : List ℕ
  params : List WasmType
  results : List WasmType
  owner-is : IsUtf8 owner
  name-is : IsUtf8 name
  same : in_quotes owner ++ 32 ∷ (in_quotes name ++ 32 ∷ signature params results) ≡ tail

called : (types : Types) (tail : List ℕ) (e : Event) → HasParts types LineWord.CallWasm (Some tail) e → Called types tail
called types tail e h =
    let s = wasm-shape (parts e) h.word-is in
    let t = told types (parts e) (wasm s.0 s.1 s.2 s.3) (Some tail) s.4 h.tail-is h.can in
    record { owner = s.0; name = s.1; params = s.2; results = s.3; owner-is = t.1.0; name-is = t.1.1; same = some-same _ _ t.0 }

pub wasm-unnamed : (types : Types) (tail : List ℕ) → NamesAt tail None → SaidBy types LineWord.CallWasm (Some tail) None
wasm-unnamed types tail none = record { none = λ e h. let c = called types tail e h in none.none (record { owner = c.owner; name = c.name; rest = 32 ∷ signature c.params c.results }) (record { owner-utf8 = c.owner-is; name-utf8 = c.name-is; same = sym c.same }) }

cons-same : (a : ℕ) (xs ys : List ℕ) → a ∷ xs ≡ a ∷ ys → xs ≡ ys
cons-same a xs ys e = cc

-- what stands behind the two names
behind-names : (tail m n rest k l z : List ℕ) → IsUtf8 m → IsUtf8 n → IsUtf8 k → IsUtf8 l → tail ≡ in_quotes m ++ 32 ∷ (in_quotes n ++ rest) → in_quotes k ++ 32 ∷ (in_quotes l ++ z) ≡ tail → rest ≡ z
behind-names tail m n rest k l z f g p q e same =
    let one = quoted-same m k _ _ f p (sym e ∙ sym same) in
    (quoted-same n l rest z g q (cons-same 32 _ _ one.1)).1

pub wasm-bare : (types : Types) (tail m n rest : List ℕ) → NamesAt tail (Some (record { owner = m; name = n; rest = rest })) → IsBehind (codes " ") rest None → SaidBy types LineWord.CallWasm (Some tail) None
wasm-bare types tail m n rest h none = record {
  none = λ e s.
      let c = called types tail e s in
      none.none (signature c.params c.results) (behind-names tail m n rest c.owner c.name (32 ∷ signature c.params c.results) h.owner-utf8 h.name-utf8 c.owner-is c.name-is h.same c.same);
}

pub wasm-unsigned : (types : Types) (tail m n rest own : List ℕ) → NamesAt tail (Some (record { owner = m; name = n; rest = rest })) → rest ≡ 32 ∷ own → SignatureAt own None → SaidBy types LineWord.CallWasm (Some tail) None
wasm-unsigned types tail m n rest own h is none = record {
  none = λ e s.
      let c = called types tail e s in
      none.none (c.params, c.results) (record { same = cons-same 32 _ _ (sym is ∙ behind-names tail m n rest c.owner c.name (32 ∷ signature c.params c.results) h.owner-utf8 h.name-utf8 c.owner-is c.name-is h.same c.same) });
}

pub interface-said : (types : Types) (tail m n : List ℕ) (ps rs : List Tree) (event : Event) → NamesAt tail (Some (record { owner = m; name = n; rest = [] })) → ps ≡ types.params → rs ≡ types.results
    → event ≡ emit (Step.CallInterface m n ps rs) → SaidBy types LineWord.CallInterface (Some tail) (Some event)
interface-said types tail m n ps rs event h e f is =
    subst (HasParts types LineWord.CallInterface (Some tail)) (sym is) (has-parts types (interface m n ps rs) (Some tail) (ap Some (ap (λ z. in_quotes m ++ 32 ∷ z) (sym (append-nil (in_quotes n))) ∙ sym h.same)) (h.owner-utf8, h.name-utf8, e, f))

record Asked (types : Types) (tail : List ℕ) : Type 0 where
  owner : List ℕ
  name : List ℕ
  owner-is : IsUtf8 owner
  name-is : IsUtf8 name
  same : in_quotes owner ++ 32 ∷ (in_quotes name ++ []) ≡ tail

asked : (types : Types) (tail : List ℕ) (e : Event) → HasParts types LineWord.CallInterface (Some tail) e → Asked types tail
asked types tail e h =
    let s = interface-shape (parts e) h.word-is in
    let t = told types (parts e) (interface s.0 s.1 s.2 s.3) (Some tail) s.4 h.tail-is h.can in
    record { owner = s.0; name = s.1; owner-is = t.1.0; name-is = t.1.1; same = ap (λ z. in_quotes s.0 ++ 32 ∷ z) (append-nil (in_quotes s.1)) ∙ some-same _ _ t.0 }

pub interface-unnamed : (types : Types) (tail : List ℕ) → NamesAt tail None → SaidBy types LineWord.CallInterface (Some tail) None
interface-unnamed types tail none = record { none = λ e h. let c = asked types tail e h in none.none (record { owner = c.owner; name = c.name; rest = [] }) (record { owner-utf8 = c.owner-is; name-utf8 = c.name-is; same = sym c.same }) }

pub interface-behind : (types : Types) (tail m n rest : List ℕ) → NamesAt tail (Some (record { owner = m; name = n; rest = rest })) → (rest ≡ [] → ⊥) → SaidBy types LineWord.CallInterface (Some tail) None
interface-behind types tail m n rest h some = record {
  none = λ e s.
      let c = asked types tail e s in
      some (behind-names tail m n rest c.owner c.name [] h.owner-utf8 h.name-utf8 c.owner-is c.name-is h.same c.same);
}

-- ---- results that are lowered

ends-before : (ok : Option Tree) → EndsFirst (option_map type_text ok) → EndsBeforeError ok
ends-before None h = tt
ends-before (Some t) h = h

pub lower-said : (types : Types) (tail : List ℕ) (p : Option (List ℕ) × Option (List ℕ)) (ok err : Option Tree) (event : Event) → PayloadsAt tail (Some p) → PayloadAt types p.0 (Some ok) → PayloadAt types p.1 (Some err)
    → event ≡ emit (Step.ResultLower ok err) → SaidBy types LineWord.ResultLower (Some tail) (Some event)
lower-said types tail p ok err event h f g is =
    subst (HasParts types LineWord.ResultLower (Some tail)) (sym is) (has-parts types (lower ok err) (Some tail) (lower-texts ok err ∙ (ap (λ z. payloads_tail z (option_map type_text err)) f.same ∙ (ap (payloads_tail p.0) g.same ∙ h.same)))
    (f.payload, g.payload, ends-before ok (subst EndsFirst (sym f.same) h.ends)))

record Lowered (types : Types) (tail : List ℕ) : Type 0 where
  ok : Option Tree
  err : Option Tree
  ok-is : IsPayload types ok
  err-is : IsPayload types err
  ends : EndsFirst (option_map type_text ok)
  same : payloads_tail (option_map type_text ok) (option_map type_text err) ≡ Some tail

lowered : (types : Types) (tail : List ℕ) (e : Event) → HasParts types LineWord.ResultLower (Some tail) e → Lowered types tail
lowered types tail e h =
    let s = lower-shape (parts e) h.word-is in
    let t = told types (parts e) (lower s.0 s.1) (Some tail) s.2 h.tail-is h.can in
    record { ok = s.0; err = s.1; ok-is = t.1.0; err-is = t.1.1; ends = ends-first s.0 t.1.2; same = sym (lower-texts s.0 s.1) ∙ t.0 }

pub lower-unread : (types : Types) (tail : List ℕ) → PayloadsAt tail None → SaidBy types LineWord.ResultLower (Some tail) None
lower-unread types tail none = record { none = λ e h. let l = lowered types tail e h in none.none (option_map type_text l.ok, option_map type_text l.err) (record { ends = l.ends; same = l.same }) }

pub lower-ok-unknown : (types : Types) (tail : List ℕ) (p : Option (List ℕ) × Option (List ℕ)) → PayloadsAt tail (Some p) → PayloadAt types p.0 None → SaidBy types LineWord.ResultLower (Some tail) None
lower-ok-unknown types tail p h none = record { none = λ e s. let l = lowered types tail e s in none.none l.ok (record { payload = l.ok-is; same = (payloads-same (option_map type_text l.ok) (option_map type_text l.err) p.0 p.1 l.ends h.ends (l.same ∙ sym h.same)).0 }) }

pub lower-err-unknown : (types : Types) (tail : List ℕ) (p : Option (List ℕ) × Option (List ℕ)) → PayloadsAt tail (Some p) → PayloadAt types p.1 None → SaidBy types LineWord.ResultLower (Some tail) None
lower-err-unknown types tail p h none = record { none = λ e s. let l = lowered types tail e s in none.none l.err (record { payload = l.err-is; same = (payloads-same (option_map type_text l.ok) (option_map type_text l.err) p.0 p.1 l.ends h.ends (l.same ∙ sym h.same)).1 }) }

-- ---- words, texts, lines

spelled-so : (ws : List LineWord) (text : List ℕ) (w : LineWord) → word_spelled (map spelled_line_word ws) text ≡ Some w → word_spelling w ≡ text
spelled-so [] text w e = absurd (cc)
spelled-so (v ∷ ws) text w e = by (same_text (word_spelling v) text) refl e (spelled-so ws text w)
  where
    by : (t : Bool) → same_text (word_spelling v) text ≡ t → (if t then Some v else word_spelled (map spelled_line_word ws) text) ≡ Some w → (word_spelled (map spelled_line_word ws) text ≡ Some w → word_spelling w ≡ text) → word_spelling w ≡ text
    by true f e more = ap word_spelling (sym (some-same v w e)) ∙ (same-equal (word_spelling v) text).0 f
    by false f e more = more e

-- the word and what stands behind it are those of the event
halves : (types : Types) (word : List ℕ) (tail : Option (List ℕ)) (e : Event) → no_blank word ≡ true → HasText types (with_tail word tail) e
    → (word_spelled the_line_words word ≡ Some (line_word (parts e))) × (tail_of (parts e) ≡ tail)
halves types word tail e one h =
    let same = tails-same (word_spelling (line_word (parts e))) word (tail_of (parts e)) tail (word-unbroken (line_word (parts e))) one h.same in
    (ap (word_spelled the_line_words) (sym same.0) ∙ spells (line_word (parts e)), same.1)

pub by-word : (types : Types) (word : List ℕ) (tail : Option (List ℕ)) (w : LineWord) (o : Option Event) → no_blank word ≡ true → word_spelled the_line_words word ≡ Some w → SaidBy types w tail o
    → SaidByText types (with_tail word tail) o
by-word types word tail w None one is none = record { none = λ e h. let s = halves types word tail e one h in none.none e (record { word-is = some-same _ _ (sym s.0 ∙ is); tail-is = s.1; can = h.can }) }
by-word types word tail w (Some e) one is h = record {
  same = ap (λ z. with_tail (word_spelling z) (tail_of (parts e))) h.word-is ∙ (ap (λ z. with_tail z (tail_of (parts e))) (spelled-so all_words word w is) ∙ ap (with_tail word) h.tail-is);
  can = h.can;
}

pub no-word : (types : Types) (word : List ℕ) (tail : Option (List ℕ)) → no_blank word ≡ true → word_spelled the_line_words word ≡ None → SaidByText types (with_tail word tail) None
no-word types word tail one is = record { none = λ e h. let wrong : None ≡ Some (line_word (parts e)) = sym is ∙ (halves types word tail e one h).0 in absurd (cc) }

blanks-same : (xs ys : List ℕ) → 32 ∷ 32 ∷ xs ≡ 32 ∷ 32 ∷ ys → xs ≡ ys
blanks-same xs ys e = cc

pub line-said : (types : Types) (line text : List ℕ) (o : Option Event) → line ≡ codes "  " ++ text → SaidByText types text o → SaidByLine types line o
line-said types line text None is none = record { none = λ e h. let s = said-parts types text e (blanks-same (event_text e) text (h.same ∙ is), h.can) in none.none e (record { same = s.0; can = s.1 }) }
line-said types line text (Some e) is h = record {
  can = subst (CanSay types) (from-parts e) (subst (λ T. T) (sym (can-parts types (parts e))) h.can);
  same = ap (λ z. codes "  " ++ z) (ap event_text (sym (from-parts e)) ∙ (text-parts (parts e) ∙ h.same)) ∙ sym is;
}

pub line-unsaid : (types : Types) (line : List ℕ) → IsBehind (codes "  ") line None → SaidByLine types line None
line-unsaid types line none = record { none = λ e h. none.none (event_text e) (sym h.same) }

pub text-cut : (types : Types) (text word tail : List ℕ) (o : Option Event) → text ≡ word ++ 32 ∷ tail → SaidByText types (word ++ 32 ∷ tail) o → SaidByText types text o
text-cut types text word tail o e h = subst (λ z. SaidByText types z o) (sym e) h

pub ruleset line_rules = (line-said, line-unsaid, text-cut)

-- ---- what the reader finds

-- a text that isn't read as a number, or is read as another than it prints
pub unparsed : {E : Type 0} (text : List ℕ) (e : E) → ParsesUnsigned 64 10 text (Err e) → NumberAt text None
unparsed {E} text e h = record {
  none = λ n is.
      let wrong : Err e ≡ Ok n = parse-decimal {E = E} 64 n text (Err e) is.word is.word (sym is.same) h in absurd (cc);
}

pub unprinted : {E : Type 0} (text : List ℕ) (k : ℕ) (r : Result ℕ E) → r ≡ Ok k → ParsesUnsigned 64 10 text r → same_text (decimal k) text ≡ false → NumberAt text None
unprinted {E} text k r e h other = record {
  none = λ n is.
      let read : r ≡ Ok n = parse-decimal {E = E} 64 n text r is.word is.word (sym is.same) h in
      let same : k ≡ n = cc in
      let wrong : false ≡ true = sym other ∙ (same-equal (decimal k) text).1 (ap decimal same ∙ is.same) in absurd (cc);
}

pub printed : (text : List ℕ) (k : ℕ) → IsWord k → same_text (decimal k) text ≡ true → NumberAt text (Some k)
printed text k l e = record { word = l; same = (same-equal (decimal k) text).0 e }

pub ruleset number_rules = (printed, number-said, number-unsaid)

-- with the types as the program has them
pub known-named-said : (k : KnownTypes) (w : NamedWord) (tail : List ℕ) (t u : Tree) (s : Step) → Some t ≡ (known_in k).typename tail → u ≡ t → s ≡ named_word_step w u → SaidBy (known_in k) (LineWord.Named w) (Some tail) (Some (emit s))
known-named-said k w tail t u s h e is = named-said (known_in k) w tail t s (known-named k).typename (sym h) (is ∙ ap (named_word_step w) e)

pub known-named-unsaid : (k : KnownTypes) (w : NamedWord) (tail : List ℕ) → None ≡ (known_in k).typename tail → SaidBy (known_in k) (LineWord.Named w) (Some tail) None
known-named-unsaid k w tail h = named-unsaid (known_in k) w tail (sym h)

pub ruleset named_rules = (known-named-said, known-named-unsaid)

pub known-shown-said : (k : KnownTypes) (w : ShownWord) (tail : List ℕ) (t : Tree) (s : Step) → Some t ≡ shown_in (known_in k) tail → s ≡ shown_step w t → SaidBy (known_in k) (LineWord.Shown w) (Some tail) (Some (emit s))
known-shown-said k w tail t s h is = shown-said (known_in k) w tail t s (shown-named (known_in k) (known-named k)) (sym h) is

pub known-shown-unsaid : (k : KnownTypes) (w : ShownWord) (tail : List ℕ) → None ≡ shown_in (known_in k) tail → SaidBy (known_in k) (LineWord.Shown w) (Some tail) None
known-shown-unsaid k w tail h = shown-unsaid (known_in k) w tail (sym h)

pub ruleset shown_rules = (known-shown-said, known-shown-unsaid)

pub known-room-said : (k : KnownTypes) (tail front name : List ℕ) (n : ℕ) (t u : Tree) → tail ≡ front ++ 32 ∷ name → NumberAt front (Some n) → Some t ≡ (known_in k).typename name → u ≡ t
    → SaidBy (known_in k) LineWord.Space (Some tail) (Some (space n u))
known-room-said k tail front name n t u e h f is = room-said (known_in k) tail front name n t u e h (known-named k).typename (sym f) is

pub known-room-unknown : (k : KnownTypes) (tail front name : List ℕ) → tail ≡ front ++ 32 ∷ name → no_blank front ≡ true → None ≡ (known_in k).typename name → SaidBy (known_in k) LineWord.Space (Some tail) None
known-room-unknown k tail front name e one none = room-unknown (known_in k) tail front name e one (sym none)

pub ruleset room_rules = (known-room-said, known-room-unknown, room-whole, room-unnumbered)

pub ruleset fields_rules = (plain-behind)

pub ruleset finished_rules = (finished-said, finished-unsaid)

pub ruleset wasm_rules = (wasm-said, wasm-unnamed, wasm-bare, wasm-unsigned)

pub ruleset interface_rules = (interface-said, interface-unnamed, interface-behind)

pub ruleset lower_rules = (lower-said, lower-unread, lower-ok-unknown, lower-err-unknown)

pub ruleset word_rules = (by-word, no-word)

-- ---- names

pub names-there : (text rest start behind m n : List ℕ) → QuotedAt text (Some (m, rest)) → rest ≡ 32 ∷ start → QuotedAt start (Some (n, behind)) → NamesAt text (Some (record { owner = m; name = n; rest = behind }))
names-there text rest start behind m n f e g = record {
  owner-utf8 = f.utf8;
  name-utf8 = g.utf8;
  same = f.same ∙ (ap (λ z. in_quotes m ++ z) e ∙ ap (λ z. in_quotes m ++ 32 ∷ z) g.same);
}

pub no-owner : (text : List ℕ) → QuotedAt text None → NamesAt text None
no-owner text none = record { none = λ p h. none.none (p.owner, 32 ∷ (in_quotes p.name ++ p.rest)) (record { utf8 = h.owner-utf8; same = h.same }) }

pub no-gap : (text m rest : List ℕ) → QuotedAt text (Some (m, rest)) → IsBehind (codes " ") rest None → NamesAt text None
no-gap text m rest f none = record { none = λ p h. none.none (in_quotes p.name ++ p.rest) (quoted-same m p.owner rest (32 ∷ (in_quotes p.name ++ p.rest)) f.utf8 h.owner-utf8 (sym f.same ∙ h.same)).1 }

pub no-name : (text m rest start : List ℕ) → QuotedAt text (Some (m, rest)) → rest ≡ 32 ∷ start → QuotedAt start None → NamesAt text None
no-name text m rest start f e none = record {
  none = λ p h.
      let same : rest ≡ 32 ∷ (in_quotes p.name ++ p.rest) = (quoted-same m p.owner rest (32 ∷ (in_quotes p.name ++ p.rest)) f.utf8 h.owner-utf8 (sym f.same ∙ h.same)).1 in
      none.none (p.name, p.rest) (record { utf8 = h.name-utf8; same = cons-same 32 _ _ (sym e ∙ same) });
}

pub ruleset names_rules = (names-there, no-owner, no-gap, no-name)

-- ---- payloads

payload-said : (types : Types) (text : List ℕ) (t : Tree) → Named (shown_payload types) → shown_payload types text ≡ Some t → PayloadAt types (Some text) (Some (Some t))
payload-said types text t own h =
    let same = own text t h in
    record { payload = ap (shown_payload types) same ∙ h; same = ap Some same }

payload-unsaid : (types : Types) (text : List ℕ) → shown_payload types text ≡ None → PayloadAt types (Some text) None
payload-unsaid types text none = record { none = λ t h. by t h.payload h.same }
  where
    by : (t : Option Tree) → IsPayload types t → option_map type_text t ≡ Some text → ⊥
    by None f e = absurd (cc)
    by (Some t) f e = let wrong : None ≡ Some t = sym none ∙ (ap (shown_payload types) (sym (some-same _ _ e)) ∙ f) in absurd (cc)

pub known-payload-said : (k : KnownTypes) (text : List ℕ) (t : Tree) → Some t ≡ shown_payload (known_in k) text → PayloadAt (known_in k) (Some text) (Some (Some t))
known-payload-said k text t h = payload-said (known_in k) text t (payload-named (known_in k) (known-named k)) (sym h)

pub known-payload-unsaid : (k : KnownTypes) (text : List ℕ) → None ≡ shown_payload (known_in k) text → PayloadAt (known_in k) (Some text) None
known-payload-unsaid k text h = payload-unsaid (known_in k) text (sym h)

pub no-payload : (types : Types) → PayloadAt types None (Some None)
no-payload types = record { payload = tt; same = refl }

pub ruleset payload_rules = (known-payload-said, known-payload-unsaid, no-payload)
