-- A line says at most one event.
use Rattle.std.proofs.Common.{◌≡◌, ℕ, List, [], ◌∷◌, ◌++◌, take, drop, Bool, true, false, refl, sym, ap, ◌∙◌, subst, Option, Some, None, arith, append_assoc, append-nil, if◌then◌else◌, ◌==◌}
use Rattle.std.specs.Prelude.{codes, option_map}
use Rattle.std.specs.List.{flat_map}
use Rattle.std.specs.Fmt.{decimal}
use Rattle.std.specs.Str.Parse.{AllDigits}
use Rattle.std.proofs.lemmas.Bool.{ne_eqb}
use Rattle.std.proofs.lemmas.Bool.Decides.{nat_tests}
use Rattle.std.proofs.lemmas.Fmt.{decimal_injective, decimal_is_IsNumeral}
use Rattle.std.proofs.lemmas.Str.Parse.{digit_from_value}
use Rattle.witx_base.specs.Texts.{same_text}
use Rattle.witx_ast.specs.Tree.{Tree}
use Rattle.witx_ast.specs.TypeNames.{type_text}
use Rattle.witx_machine.specs.declared.surface.WasmType.{WasmType}
use Rattle.witx_machine.specs.Events.{Event}
use Rattle.witx_adapt.specs.Lines.{event_text}
use Rattle.witx_adapt.specs.Names.{in_quotes, signature, spaced, wasm_word, wasm_words}
use Rattle.witx_traces.specs.Traces.{Types, CanSay, Says, IsWord, IsPayload, EndsBeforeError, shown as shown_in, shown_payload}
use Rattle.witx_traces.specs.LineReading.{EndsFirst, payloads_tail}
use Rattle.witx_traces.proofs.PayloadTexts.{payloads-same}
use Rattle.witx_traces.proofs.Quoting.{quoted-same}
use Rattle.witx_traces.specs.declared.line_words.PlainWord.{PlainWord}
use Rattle.witx_traces.specs.declared.line_words.NumberWord.{NumberWord}
use Rattle.witx_traces.specs.declared.line_words.NamedWord.{NamedWord}
use Rattle.witx_traces.specs.declared.line_words.ShownWord.{ShownWord}
use Rattle.witx_traces.specs.declared.line_words.LineWord.{LineWord}
use Rattle.witx_traces.specs.LineParts.{Parts, plain, number, named, shown, wasm, interface, lower, room, finished, event_from, line_word, tail_of, lower_tail, block_end, CanSayParts, word_spelling, the_line_words, word_spelled, parts, with_tail, no_blank}
use Rattle.witx_traces.proofs.LineWords.{from-parts, text-parts, can-parts, spells, word-unbroken}

some-same : {A : Type 0} (x y : A) → Some x ≡ Some y → x ≡ y
some-same x y e = cc

pub first-of : (a b : ℕ) (xs ys : List ℕ) → a ∷ xs ≡ b ∷ ys → a ≡ b
first-of a b xs ys e = cc

pub rest-of : (a b : ℕ) (xs ys : List ℕ) → a ∷ xs ≡ b ∷ ys → xs ≡ ys
rest-of a b xs ys e = cc

-- ---- a text is cut at its first blank

unbroken : (b : ℕ) (t : Bool) (rest : Bool) → (b == 32) ≡ t → (if t then false else rest) ≡ true → (b ≡ 32 → ⊥) × (rest ≡ true)
unbroken b true rest h e = absurd (cc)
unbroken b false rest h e = (λ is. grind (arith, nat_tests), e)

pub no-start : (b : ℕ) (bs : List ℕ) → no_blank (b ∷ bs) ≡ true → (b ≡ 32 → ⊥) × (no_blank bs ≡ true)
no-start b bs e = unbroken b (b == 32) (no_blank bs) refl e

pub cut : (x y r t : List ℕ) → no_blank x ≡ true → no_blank y ≡ true → x ++ (32 ∷ r) ≡ y ++ (32 ∷ t) → (x ≡ y) × (r ≡ t)
cut [] [] r t f g e = (refl, rest-of 32 32 r t e)
cut [] (b ∷ y) r t f g e = absurd ((no-start b y g).0 (sym (first-of 32 b r (y ++ (32 ∷ t)) e)))
cut (a ∷ x) [] r t f g e = absurd ((no-start a x f).0 (first-of a 32 (x ++ (32 ∷ r)) t e))
cut (a ∷ x) (b ∷ y) r t f g e =
    let more = cut x y r t (no-start a x f).1 (no-start b y g).1 (rest-of a b _ _ e) in
    (ap (λ z. z ∷ x) (first-of a b _ _ e) ∙ ap (λ z. b ∷ z) more.0, more.1)

no-cut : (x y t : List ℕ) → no_blank x ≡ true → x ≡ y ++ (32 ∷ t) → ⊥
no-cut [] [] t f e = absurd (cc)
no-cut [] (b ∷ y) t f e = absurd (cc)
no-cut (a ∷ x) [] t f e = (no-start a x f).0 (first-of a 32 x t e)
no-cut (a ∷ x) (b ∷ y) t f e = no-cut x y t (no-start a x f).1 (rest-of a b x (y ++ (32 ∷ t)) e)

pub tails-same : (x y : List ℕ) (f g : Option (List ℕ)) → no_blank x ≡ true → no_blank y ≡ true → with_tail x f ≡ with_tail y g → (x ≡ y) × (f ≡ g)
tails-same x y None None p q e = (e, refl)
tails-same x y None (Some t) p q e = absurd (no-cut x y t p e)
tails-same x y (Some r) None p q e = absurd (no-cut y x r q (sym e))
tails-same x y (Some r) (Some t) p q e = let c = cut x y r t p q e in (c.0, ap Some c.1)

-- ---- numbers have no blank

digits-unbroken : (ds : List ℕ) → AllDigits 10 ds → no_blank ds ≡ true
digits-unbroken [] h = refl
digits-unbroken (d ∷ ds) h =
    let low = (digit_from_value d h.0).0 in
    let here : (d == 32) ≡ false = ne_eqb d 32 (λ e. omega (arith, low, e)) in
    ap (λ t. if t then false else no_blank ds) here ∙ digits-unbroken ds h.1

pub number-unbroken : (n : ℕ) → IsWord n → no_blank (decimal n) ≡ true
number-unbroken n small = digits-unbroken (decimal n) (decimal_is_IsNumeral n small).0.1

-- ---- signatures

-- the type of a word
word-type : List ℕ → WasmType
word-type z = if same_text (take 3 z) (codes "i32") then WasmType.I32 else if same_text (take 3 z) (codes "i64") then WasmType.I64 else if same_text (take 3 z) (codes "f32") then WasmType.F32 else WasmType.F64

typed-so : (a : WasmType) (r : List ℕ) → word-type (wasm_word a ++ r) ≡ a
unfolding same_text word-type
typed-so WasmType.I32 r = refl
typed-so WasmType.I64 r = refl
typed-so WasmType.F32 r = refl
typed-so WasmType.F64 r = refl

behind-word : (a : WasmType) (r : List ℕ) → drop 3 (wasm_word a ++ r) ≡ r
behind-word WasmType.I32 r = refl
behind-word WasmType.I64 r = refl
behind-word WasmType.F32 r = refl
behind-word WasmType.F64 r = refl

pub word-same : (a b : WasmType) (r t : List ℕ) → wasm_word a ++ r ≡ wasm_word b ++ t → (a ≡ b) × (r ≡ t)
word-same a b r t e = (sym (typed-so a r) ∙ (ap word-type e ∙ typed-so b t), sym (behind-word a r) ∙ (ap (drop 3) e ∙ behind-word b t))

more-same : (ps qs : List WasmType) (r t : List ℕ) → flat_map spaced ps ++ (41 ∷ r) ≡ flat_map spaced qs ++ (41 ∷ t) → (ps ≡ qs) × (r ≡ t)
more-same [] [] r t e = (refl, rest-of 41 41 r t e)
more-same [] (q ∷ qs) r t e = let wrong : 41 ≡ 32 = first-of 41 32 _ _ e in absurd (omega (arith, wrong))
more-same (p ∷ ps) [] r t e = let wrong : 32 ≡ 41 = first-of 32 41 _ _ e in absurd (omega (arith, wrong))
more-same (p ∷ ps) (q ∷ qs) r t e =
    let here : wasm_word p ++ (flat_map spaced ps ++ (41 ∷ r)) ≡ wasm_word q ++ (flat_map spaced qs ++ (41 ∷ t))
    = sym (append_assoc (wasm_word p) (flat_map spaced ps) (41 ∷ r)) ∙ (rest-of 32 32 _ _ e ∙ append_assoc (wasm_word q) (flat_map spaced qs) (41 ∷ t)) in
    let one = word-same p q _ _ here in
    let more = more-same ps qs r t one.1 in
    (ap (λ z. z ∷ ps) one.0 ∙ ap (λ z. q ∷ z) more.0, more.1)

pub word-begins : (q : WasmType) (r t : List ℕ) → 41 ∷ r ≡ wasm_word q ++ t → ⊥
word-begins WasmType.I32 r t e = let wrong : 41 ≡ 105 = first-of 41 105 _ _ e in omega (arith, wrong)
word-begins WasmType.I64 r t e = let wrong : 41 ≡ 105 = first-of 41 105 _ _ e in omega (arith, wrong)
word-begins WasmType.F32 r t e = let wrong : 41 ≡ 102 = first-of 41 102 _ _ e in omega (arith, wrong)
word-begins WasmType.F64 r t e = let wrong : 41 ≡ 102 = first-of 41 102 _ _ e in omega (arith, wrong)

words-same : (ps qs : List WasmType) (r t : List ℕ) → wasm_words ps ++ (41 ∷ r) ≡ wasm_words qs ++ (41 ∷ t) → (ps ≡ qs) × (r ≡ t)
words-same [] [] r t e = (refl, rest-of 41 41 r t e)
words-same [] (q ∷ qs) r t e = absurd (word-begins q r (flat_map spaced qs ++ (41 ∷ t)) (e ∙ append_assoc (wasm_word q) (flat_map spaced qs) (41 ∷ t)))
words-same (p ∷ ps) [] r t e = absurd (word-begins p t (flat_map spaced ps ++ (41 ∷ r)) (sym e ∙ append_assoc (wasm_word p) (flat_map spaced ps) (41 ∷ r)))
words-same (p ∷ ps) (q ∷ qs) r t e =
    let here : wasm_word p ++ (flat_map spaced ps ++ (41 ∷ r)) ≡ wasm_word q ++ (flat_map spaced qs ++ (41 ∷ t))
    = sym (append_assoc (wasm_word p) (flat_map spaced ps) (41 ∷ r)) ∙ (e ∙ append_assoc (wasm_word q) (flat_map spaced qs) (41 ∷ t)) in
    let one = word-same p q _ _ here in
    let more = more-same ps qs r t one.1 in
    (ap (λ z. z ∷ ps) one.0 ∙ ap (λ z. q ∷ z) more.0, more.1)

-- a signature up to its results, and its results
pub opened : (ps rs : List WasmType) → signature ps rs ≡ 40 ∷ (wasm_words ps ++ (41 ∷ (codes " -> (" ++ (wasm_words rs ++ (41 ∷ [])))))
opened ps rs = ap (λ z. 40 ∷ z) (append_assoc (wasm_words ps ++ (41 ∷ [])) (codes " -> ") (codes "(" ++ wasm_words rs ++ codes ")")
    ∙ append_assoc (wasm_words ps) (41 ∷ []) (codes " -> (" ++ (wasm_words rs ++ (41 ∷ []))))

signature-same : (ps rs qs ts : List WasmType) → signature ps rs ≡ signature qs ts → (ps ≡ qs) × (rs ≡ ts)
signature-same ps rs qs ts e =
    let front = words-same ps qs _ _ (rest-of 40 40 _ _ (sym (opened ps rs) ∙ (e ∙ opened qs ts))) in
    let back : wasm_words rs ++ (41 ∷ []) ≡ wasm_words ts ++ (41 ∷ []) = ap (drop 5) front.1 in
    (front.0, (words-same rs ts [] [] back).0)

-- ---- the parts with each word

-- what parts with this word are
abbrev Shape : LineWord → Parts → Type 0
Shape (LineWord.Plain v) p = p ≡ plain v
Shape (LineWord.Number v) p = (n : ℕ) × (p ≡ number v n)
Shape (LineWord.Named v) p = (t : Tree) × (p ≡ named v t)
Shape (LineWord.Shown v) p = (t : Tree) × (p ≡ shown v t)
Shape LineWord.CallWasm p = (m : List ℕ) × (n : List ℕ) × (ps : List WasmType) × (rs : List WasmType) × (p ≡ wasm m n ps rs)
Shape LineWord.CallInterface p = (m : List ℕ) × (n : List ℕ) × (ps : List Tree) × (rs : List Tree) × (p ≡ interface m n ps rs)
Shape LineWord.ResultLower p = (ok : Option Tree) × (err : Option Tree) × (p ≡ lower ok err)
Shape LineWord.Space p = (k : ℕ) × (t : Tree) × (p ≡ room k t)
Shape LineWord.FinishBlock p = (v : Bool) × (p ≡ finished v)

own-shape : (p : Parts) → Shape (line_word p) p
own-shape (plain w) = refl
own-shape (number w n) = (n, refl)
own-shape (named w t) = (t, refl)
own-shape (shown w t) = (t, refl)
own-shape (wasm m n ps rs) = (m, n, ps, rs, refl)
own-shape (interface m n ps rs) = (m, n, ps, rs, refl)
own-shape (lower ok err) = (ok, err, refl)
own-shape (room k t) = (k, t, refl)
own-shape (finished v) = (v, refl)

with-shape : (w : LineWord) (p : Parts) → line_word p ≡ w → Shape w p
with-shape w p e = subst (λ w. Shape w p) e (own-shape p)

pub plain-shape : (v : PlainWord) (p : Parts) → line_word p ≡ LineWord.Plain v → p ≡ plain v
plain-shape v p e = with-shape (LineWord.Plain v) p e

pub number-shape : (v : NumberWord) (p : Parts) → line_word p ≡ LineWord.Number v → (n : ℕ) × (p ≡ number v n)
number-shape v p e = with-shape (LineWord.Number v) p e

pub named-shape : (v : NamedWord) (p : Parts) → line_word p ≡ LineWord.Named v → (t : Tree) × (p ≡ named v t)
named-shape v p e = with-shape (LineWord.Named v) p e

pub shown-shape : (v : ShownWord) (p : Parts) → line_word p ≡ LineWord.Shown v → (t : Tree) × (p ≡ shown v t)
shown-shape v p e = with-shape (LineWord.Shown v) p e

pub wasm-shape : (p : Parts) → line_word p ≡ LineWord.CallWasm → (m : List ℕ) × (n : List ℕ) × (ps : List WasmType) × (rs : List WasmType) × (p ≡ wasm m n ps rs)
wasm-shape p e = with-shape LineWord.CallWasm p e

pub interface-shape : (p : Parts) → line_word p ≡ LineWord.CallInterface → (m : List ℕ) × (n : List ℕ) × (ps : List Tree) × (rs : List Tree) × (p ≡ interface m n ps rs)
interface-shape p e = with-shape LineWord.CallInterface p e

pub lower-shape : (p : Parts) → line_word p ≡ LineWord.ResultLower → (ok : Option Tree) × (err : Option Tree) × (p ≡ lower ok err)
lower-shape p e = with-shape LineWord.ResultLower p e

pub room-shape : (p : Parts) → line_word p ≡ LineWord.Space → (k : ℕ) × (t : Tree) × (p ≡ room k t)
room-shape p e = with-shape LineWord.Space p e

pub finished-shape : (p : Parts) → line_word p ≡ LineWord.FinishBlock → (v : Bool) × (p ≡ finished v)
finished-shape p e = with-shape LineWord.FinishBlock p e

-- ---- payloads

looked-same : (look : List ℕ → Option Tree) (t u : Tree) → look (type_text t) ≡ Some t → look (type_text u) ≡ Some u → type_text t ≡ type_text u → t ≡ u
looked-same look t u f g e = some-same t u (sym f ∙ (ap look e ∙ g))

payload-same : (types : Types) (t u : Option Tree) → IsPayload types t → IsPayload types u → option_map type_text t ≡ option_map type_text u → t ≡ u
payload-same types None None f g e = refl
payload-same types None (Some u) f g e = absurd (cc)
payload-same types (Some t) None f g e = absurd (cc)
payload-same types (Some t) (Some u) f g e = ap Some (looked-same (shown_payload types) t u f g (some-same _ _ e))

pub lower-texts : (ok err : Option Tree) → lower_tail ok err ≡ payloads_tail (option_map type_text ok) (option_map type_text err)
lower-texts None None = refl
lower-texts (Some t) None = refl
lower-texts (Some t) (Some u) = refl
lower-texts None (Some u) = refl

pub ends-first : (ok : Option Tree) → EndsBeforeError ok → EndsFirst (option_map type_text ok)
ends-first None h = tt
ends-first (Some t) h = h

lower-same : (types : Types) (ok err ok' err' : Option Tree) → IsPayload types ok × IsPayload types err × EndsBeforeError ok → IsPayload types ok' × IsPayload types err' × EndsBeforeError ok'
    → lower_tail ok err ≡ lower_tail ok' err' → (ok ≡ ok') × (err ≡ err')
lower-same types ok err ok' err' f g e =
    let same = payloads-same (option_map type_text ok) (option_map type_text err) (option_map type_text ok') (option_map type_text err') (ends-first ok f.2) (ends-first ok' g.2) (sym (lower-texts ok err) ∙ (e ∙ lower-texts ok' err')) in
    (payload-same types ok ok' f.0 g.0 same.0, payload-same types err err' f.1 g.1 same.1)

-- ---- the same word and the same behind it are the same parts

blocks-same : (v w : Bool) → Some (block_end v) ≡ Some (block_end w) → v ≡ w
blocks-same true true e = refl
blocks-same false false e = refl
blocks-same true false e = let wrong : 118 ≡ 110 = first-of 118 110 _ _ (some-same _ _ e) in absurd (omega (arith, wrong))
blocks-same false true e = let wrong : 110 ≡ 118 = first-of 110 118 _ _ (some-same _ _ e) in absurd (omega (arith, wrong))

-- the parts with the same word
abbrev AlikeParts : Types → Parts → Parts → Type 0
AlikeParts types p q = CanSayParts types q × (tail_of p ≡ tail_of q)

number-alike : (types : Types) (w : NumberWord) (n k : ℕ) → IsWord n → AlikeParts types (number w n) (number w k) → number w n ≡ number w k
number-alike types w n k f a = ap (number w) (decimal_injective n k f a.0 (some-same _ _ a.1))

named-alike : (types : Types) (w : NamedWord) (t u : Tree) → CanSayParts types (named w t) → AlikeParts types (named w t) (named w u) → named w t ≡ named w u
named-alike types w t u f a = ap (named w) (looked-same types.typename t u f a.0 (some-same _ _ a.1))

shown-alike : (types : Types) (w : ShownWord) (t u : Tree) → CanSayParts types (shown w t) → AlikeParts types (shown w t) (shown w u) → shown w t ≡ shown w u
shown-alike types w t u f a = ap (shown w) (looked-same (shown_in types) t u f a.0 (some-same _ _ a.1))

wasm-alike : (types : Types) (m n : List ℕ) (ps rs : List WasmType) (k l : List ℕ) (qs ts : List WasmType) → CanSayParts types (wasm m n ps rs) → AlikeParts types (wasm m n ps rs) (wasm k l qs ts) → wasm m n ps rs ≡ wasm k l qs ts
wasm-alike types m n ps rs k l qs ts f a =
    let one = quoted-same m k _ _ f.0 a.0.0 (some-same _ _ a.1) in
    let two = quoted-same n l _ _ f.1 a.0.1 (ap (drop 1) one.1) in
    let three = signature-same ps rs qs ts (ap (drop 1) two.1) in
    ap (λ z. wasm z n ps rs) one.0 ∙ (ap (λ z. wasm k z ps rs) two.0 ∙ (ap (λ z. wasm k l z rs) three.0 ∙ ap (λ z. wasm k l qs z) three.1))

interface-alike : (types : Types) (m n : List ℕ) (ps rs : List Tree) (k l : List ℕ) (qs ts : List Tree) → CanSayParts types (interface m n ps rs) → AlikeParts types (interface m n ps rs) (interface k l qs ts) → interface m n ps rs ≡ interface k l qs ts
interface-alike types m n ps rs k l qs ts f a =
    let one = quoted-same m k _ _ f.0 a.0.0 (some-same _ _ a.1) in
    let two = quoted-same n l [] [] f.1 a.0.1 (append-nil (in_quotes n) ∙ (ap (drop 1) one.1 ∙ sym (append-nil (in_quotes l)))) in
    ap (λ z. interface z n ps rs) one.0 ∙ (ap (λ z. interface k z ps rs) two.0 ∙ (ap (λ z. interface k l z rs) (f.2 ∙ sym a.0.2) ∙ ap (λ z. interface k l qs z) (f.3 ∙ sym a.0.3)))

lower-alike : (types : Types) (ok err a b : Option Tree) → CanSayParts types (lower ok err) → AlikeParts types (lower ok err) (lower a b) → lower ok err ≡ lower a b
lower-alike types ok err a b f s =
    let same = lower-same types ok err a b f s.0 s.1 in
    ap (λ z. lower z err) same.0 ∙ ap (λ z. lower a z) same.1

room-alike : (types : Types) (k l : ℕ) (t u : Tree) → CanSayParts types (room k t) → AlikeParts types (room k t) (room l u) → room k t ≡ room l u
room-alike types k l t u f a =
    let here = cut (decimal k) (decimal l) (type_text t) (type_text u) (number-unbroken k f.0) (number-unbroken l a.0.0) (some-same _ _ a.1) in
    ap (λ z. room z t) (decimal_injective k l f.0 a.0.0 here.0) ∙ ap (λ z. room l z) (looked-same types.typename t u f.1 a.0.1 here.1)

-- what holds of the parts with that word holds of the others
moved : (types : Types) (p q r : Parts) → q ≡ r → CanSayParts types q → tail_of p ≡ tail_of q → (AlikeParts types p r → p ≡ r) → p ≡ q
moved types p q r e can same go = go (subst (CanSayParts types) e can, same ∙ ap tail_of e) ∙ sym e

same-parts : (types : Types) (p q : Parts) → CanSayParts types p → CanSayParts types q → line_word p ≡ line_word q → tail_of p ≡ tail_of q → p ≡ q
same-parts types (plain w) q f g e s = sym (plain-shape w q (sym e))
same-parts types (number w n) q f g e s = let h = number-shape w q (sym e) in moved types (number w n) q (number w h.0) h.1 g s (number-alike types w n h.0 f)
same-parts types (named w t) q f g e s = let h = named-shape w q (sym e) in moved types (named w t) q (named w h.0) h.1 g s (named-alike types w t h.0 f)
same-parts types (shown w t) q f g e s = let h = shown-shape w q (sym e) in moved types (shown w t) q (shown w h.0) h.1 g s (shown-alike types w t h.0 f)
same-parts types (wasm m n ps rs) q f g e s = let h = wasm-shape q (sym e) in moved types (wasm m n ps rs) q (wasm h.0 h.1 h.2 h.3) h.4 g s (wasm-alike types m n ps rs h.0 h.1 h.2 h.3 f)
same-parts types (interface m n ps rs) q f g e s = let h = interface-shape q (sym e) in moved types (interface m n ps rs) q (interface h.0 h.1 h.2 h.3) h.4 g s (interface-alike types m n ps rs h.0 h.1 h.2 h.3 f)
same-parts types (lower ok err) q f g e s = let h = lower-shape q (sym e) in moved types (lower ok err) q (lower h.0 h.1) h.2 g s (lower-alike types ok err h.0 h.1 f)
same-parts types (room k t) q f g e s = let h = room-shape q (sym e) in moved types (room k t) q (room h.0 h.1) h.2 g s (room-alike types k h.0 t h.1 f)
same-parts types (finished v) q f g e s = let h = finished-shape q (sym e) in ap finished (blocks-same v h.0 (s ∙ ap tail_of h.1)) ∙ sym h.1

-- ---- a line says at most one event

pub said-parts : (types : Types) (text : List ℕ) (e : Event) → Says types text e → (with_tail (word_spelling (line_word (parts e))) (tail_of (parts e)) ≡ text) × CanSayParts types (parts e)
said-parts types text e s = (
  sym (text-parts (parts e)) ∙ (ap event_text (from-parts e) ∙ s.0),
  subst (λ T. T) (can-parts types (parts e)) (subst (CanSay types) (sym (from-parts e)) s.1),
)

pub one-event : (types : Types) (text : List ℕ) (d e : Event) → Says types text d → Says types text e → d ≡ e
one-event types text d e f g =
    let p = said-parts types text d f in
    let q = said-parts types text e g in
    let halves = tails-same (word_spelling (line_word (parts d))) (word_spelling (line_word (parts e))) (tail_of (parts d)) (tail_of (parts e)) (word-unbroken (line_word (parts d))) (word-unbroken (line_word (parts e))) (p.0 ∙ sym q.0) in
    let words : line_word (parts d) ≡ line_word (parts e) = some-same _ _ (sym (spells (line_word (parts d))) ∙ (ap (word_spelled the_line_words) halves.0 ∙ spells (line_word (parts e)))) in
    sym (from-parts d) ∙ (ap event_from (same-parts types (parts d) (parts e) p.1 q.1 words halves.1) ∙ from-parts e)
