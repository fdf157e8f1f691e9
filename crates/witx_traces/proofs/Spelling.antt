-- A quoted name, byte by byte: what the reader takes from the text of a name is the name.
use Rattle.std.proofs.Common.{◌≡◌, ℕ, suc, ◌+◌, ◌*◌, ◌/◌, ◌%◌, ◌<◌, min, List, [], ◌∷◌, ◌++◌, length, get_or, Bool, true, false, refl, sym, ap, ◌∙◌, subst, Option, Some, None, arith, append_assoc, append-nil, if◌then◌else◌, ◌==◌, ◌||◌, nat_lt}
use Rattle.std.specs.Prelude.{encode_utf8, codes}
use Rattle.std.specs.List.{flat_map}
use Rattle.std.specs.Str.{IsUtf8, chars, encode_utf8_all}
use Rattle.std.proofs.lemmas.Bool.{ne_eqb, eq-eqb}
use Rattle.std.proofs.lemmas.Bool.Decides.{nat_tests}
use Rattle.std.proofs.lemmas.Str.{encode_ascii, encodes-chars, inside_one}
use Rattle.witx_adapt.specs.Names.{digit, escaped, in_quotes}
use Rattle.witx_traces.specs.LineReading.{IsBehind, SpellsQuoted, QuotedAt, FrontOf, escaped_byte, hex_behind, hex_byte, hex_value, is_mark, spelled_byte}
use Rattle.witx_traces.proofs.Quoting.{Way, bare, mark, control, way, escapes, quoted-open}

-- ---- one byte

by-test : {A : Type 0} (t : Bool) (x y : A) → t ≡ true → (if t then x else y) ≡ x
by-test true x y e = refl
by-test false x y e = absurd (cc)

by-no : {A : Type 0} (t : Bool) (x y : A) → t ≡ false → (if t then x else y) ≡ y
by-no true x y e = absurd (cc)
by-no false x y e = refl

pub mark-there : (c : ℕ) (s : List ℕ) → is_mark c ≡ true → escaped_byte (c ∷ s) ≡ Some (c, s)
mark-there c s e = by-test (is_mark c) (Some (c, s)) (hex_behind c s) e

pub digits-there : (c d : ℕ) (s : List ℕ) → is_mark c ≡ false → escaped_byte (c ∷ d ∷ s) ≡ Some (hex_byte c d, s)
digits-there c d s e = by-no (is_mark c) (Some (c, d ∷ s)) (hex_behind c (d ∷ s)) e

pub digit-alone : (c : ℕ) → is_mark c ≡ false → escaped_byte (c ∷ []) ≡ None
digit-alone c e = by-no (is_mark c) (Some (c, [])) (hex_behind c []) e

pub quote-there : (b : ℕ) (s : List ℕ) → b ≡ 34 → spelled_byte (b ∷ s) ≡ None
quote-there b s e = by-test (b == 34) None (if b == 92 then escaped_byte s else Some (b, s)) (eq-eqb b 34 e)

pub slash-there : (b : ℕ) (s : List ℕ) → b ≡ 92 → spelled_byte (b ∷ s) ≡ escaped_byte s
slash-there b s e = by-no (b == 34) None (if b == 92 then escaped_byte s else Some (b, s)) (ne_eqb b 34 (λ h. omega (arith, e, h))) ∙ by-test (b == 92) (escaped_byte s) (Some (b, s)) (eq-eqb b 92 e)

pub byte-there : (b : ℕ) (s : List ℕ) → (b ≡ 34 → ⊥) → (b ≡ 92 → ⊥) → spelled_byte (b ∷ s) ≡ Some (b, s)
byte-there b s f g = by-no (b == 34) None (if b == 92 then escaped_byte s else Some (b, s)) (ne_eqb b 34 f) ∙ by-no (b == 92) (escaped_byte s) (Some (b, s)) (ne_eqb b 92 g)

pub ruleset byte_rules = (mark-there, digits-there, digit-alone, quote-there, slash-there, byte-there)

-- ---- the loop over bytes

-- whatever is spelled behind, with the bytes so far it is spelled in the whole
abbrev pub SpelledOn : List ℕ → List ℕ → List ℕ → Type 0
SpelledOn text done rest = (bytes : List ℕ) → SpellsQuoted rest bytes → SpellsQuoted text (done ++ bytes)

pub one-on : (text done now rest more : List ℕ) (b : ℕ) → SpelledOn text done rest → spelled_byte rest ≡ Some (b, more) → now ≡ done ++ b ∷ [] → SpelledOn text now more
one-on text done now rest more b f e p = λ bytes s. subst (SpellsQuoted text) (sym (append_assoc done (b ∷ []) bytes) ∙ ap (λ z. z ++ bytes) (sym p)) (f (b ∷ bytes) (more, e, s))

pub none-on : (text done rest : List ℕ) → SpelledOn text done rest → spelled_byte rest ≡ None → SpellsQuoted text done
none-on text done rest f e = subst (SpellsQuoted text) (append-nil done) (f [] e)

pub ruleset loop_rules = (one-on, none-on)

-- ---- the text of a name

-- these bytes are spelled first, and then others
record First (xs rest bytes : List ℕ) : Type 0 where
  more : List ℕ
  spelled : SpellsQuoted rest more
  same : bytes ≡ xs ++ more

some-same : {A : Type 0} (x y : A) → Some x ≡ Some y → x ≡ y
some-same x y e = cc

one-first : (text more bytes : List ℕ) (b : ℕ) → SpellsQuoted text bytes → spelled_byte text ≡ Some (b, more) → First (b ∷ []) more bytes
one-first text more [] b e is = absurd (cc)
one-first text more (c ∷ bs) b (m, e, s) is =
    let same : (c, m) ≡ (b, more) = some-same _ _ (sym e ∙ is) in
    record { more = bs; spelled = subst (λ z. SpellsQuoted z bs) (ap (λ p. p.1) same) s; same = ap (λ p. p.0 ∷ bs) same }

no-more : (text bytes : List ℕ) → SpellsQuoted text bytes → spelled_byte text ≡ None → bytes ≡ []
no-more text [] e is = refl
no-more text (c ∷ bs) (m, e, s) is = absurd (cc)

first-then : (x : ℕ) (xs rest bytes mid : List ℕ) → First (x ∷ []) mid bytes → ((more : List ℕ) → SpellsQuoted mid more → First xs rest more) → First (x ∷ xs) rest bytes
first-then x xs rest bytes mid f go =
    let g = go f.more f.spelled in
    record { more = g.more; spelled = g.spelled; same = f.same ∙ ap (λ z. x ∷ z) g.same }

-- neither a quote nor a backslash
abbrev IsOther : ℕ → Type 0
IsOther b = (b ≡ 34 → ⊥) × (b ≡ 92 → ⊥)

abbrev AreOthers : List ℕ → Type 0
AreOthers xs = (i : ℕ) → i < length xs → IsOther (get_or xs i 0)

others-first : (xs rest bytes : List ℕ) → AreOthers xs → SpellsQuoted (xs ++ rest) bytes → First xs rest bytes
others-first [] rest bytes f s = record { more = bytes; spelled = s; same = refl }
others-first (x ∷ xs) rest bytes f s =
    let here : IsOther x = f 0 (omega arith) in
    first-then x xs rest bytes (xs ++ rest) (one-first (x ∷ (xs ++ rest)) (xs ++ rest) bytes x s (byte-there x (xs ++ rest) here.0 here.1)) (λ more t. others-first xs rest more (λ i l. f (suc i) (omega (arith, l))) t)

-- the bytes of a character that isn't escaped
bare-byte : (c i : ℕ) → escapes c ≡ false → i < length (encode_utf8 c) → IsOther (get_or (encode_utf8 c) i 0)
bare-byte c i h l = (
  λ e. let same : c ≡ get_or (encode_utf8 c) i 0 = inside_one c [] (encode_utf8 c) i (sym (append-nil (encode_utf8 c))) l (omega (arith, e)) in
      let wrong : true ≡ false = ap escapes (sym (same ∙ e)) ∙ h in absurd (cc),
  λ e. let same : c ≡ get_or (encode_utf8 c) i 0 = inside_one c [] (encode_utf8 c) i (sym (append-nil (encode_utf8 c))) l (omega (arith, e)) in
      let wrong : true ≡ false = ap escapes (sym (same ∙ e)) ∙ h in absurd (cc),
)

bare-bytes : (c : ℕ) → escapes c ≡ false → AreOthers (encode_utf8 c)
bare-bytes c h = λ i l. bare-byte c i h l

-- what holds of a decimal digit and of a letter holds of each digit
each-digit : (P : ℕ → Type 0) (k : ℕ) → (nat_lt k 10 ≡ true → P (48 + k)) → (nat_lt k 10 ≡ false → P (87 + k)) → P (digit k)
each-digit P k decimal_digit letter = by (nat_lt k 10) refl
  where
    by : (t : Bool) → nat_lt k 10 ≡ t → P (if t then 48 + k else 87 + k)
    by true e = decimal_digit e
    by false e = letter e

hex-digit : (k : ℕ) → k < 16 → hex_value (digit k) ≡ k
hex-digit k l = each-digit (λ d. hex_value d ≡ k) k (λ e. grind (arith, nat_tests)) (λ e. grind (arith, nat_tests))

hex-both : (c : ℕ) → c < 128 → hex_byte (digit (c / 16)) (digit (c % 16)) ≡ c
hex-both c l =
    let high : c / 16 < 16 = omega (arith, l) in
    let low : c % 16 < 16 = omega (arith) in
    ap (λ h. min (min (h * 16) 255 + hex_value (digit (c % 16))) 255) (hex-digit (c / 16) high)
    ∙ (ap (λ h. min (min (c / 16 * 16) 255 + h) 255) (hex-digit (c % 16) low) ∙ omega (arith, l))

digit-mark : (k : ℕ) → k < 16 → is_mark (digit k) ≡ false
digit-mark k l = each-digit (λ d. is_mark d ≡ false) k (λ e. grind (arith, nat_tests)) (λ e. grind (arith, nat_tests))

control-small : (c : ℕ) → (nat_lt c 32 || c == 127) ≡ true → c < 128
control-small c e = grind (arith, nat_tests)

mark-ascii : (c : ℕ) → is_mark c ≡ true → c < 128
mark-ascii c e = grind (arith, nat_tests)

-- the bytes of a character from its spelling
character-first : (c : ℕ) (rest bytes : List ℕ) → Way c → SpellsQuoted (escaped c ++ rest) bytes → First (encode_utf8 c) rest bytes
character-first c rest bytes (bare h f) s = others-first (encode_utf8 c) rest bytes (bare-bytes c h) (subst (λ z. SpellsQuoted (z ++ rest) bytes) f s)
character-first c rest bytes (mark h f) s =
    let t : SpellsQuoted (92 ∷ c ∷ rest) bytes = subst (λ z. SpellsQuoted (z ++ rest) bytes) f s in
    subst (λ z. First z rest bytes) (sym (encode_ascii c (mark-ascii c h))) (one-first (92 ∷ c ∷ rest) rest bytes c t (slash-there 92 (c ∷ rest) refl ∙ mark-there c rest h))
character-first c rest bytes (control h f) s =
    let t : SpellsQuoted (92 ∷ digit (c / 16) ∷ digit (c % 16) ∷ rest) bytes = subst (λ z. SpellsQuoted (z ++ rest) bytes) f s in
    let small = control-small c h in
    let high : c / 16 < 16 = omega (arith, small) in
    subst (λ z. First z rest bytes) (sym (encode_ascii c small))
    (one-first (92 ∷ digit (c / 16) ∷ digit (c % 16) ∷ rest) rest bytes c t
    (slash-there 92 (digit (c / 16) ∷ digit (c % 16) ∷ rest) refl ∙ (digits-there (digit (c / 16)) (digit (c % 16)) rest (digit-mark (c / 16) high) ∙ ap (λ z. Some (z, rest)) (hex-both c small))))

characters : (cs rest bytes : List ℕ) → SpellsQuoted (flat_map escaped cs ++ (34 ∷ rest)) bytes → bytes ≡ encode_utf8_all cs
characters [] rest bytes s = no-more (34 ∷ rest) bytes s (quote-there 34 rest refl)
characters (c ∷ cs) rest bytes s =
    let first = character-first c (flat_map escaped cs ++ (34 ∷ rest)) bytes (way c) (subst (λ z. SpellsQuoted z bytes) (append_assoc (escaped c) (flat_map escaped cs) (34 ∷ rest)) s) in
    first.same ∙ ap (λ z. encode_utf8 c ++ z) (characters cs rest first.more first.spelled)

-- a quoted name spells the name
pub name-spelled : (name rest text inside bytes : List ℕ) → IsUtf8 name → text ≡ in_quotes name ++ rest → text ≡ 34 ∷ inside → SpellsQuoted inside bytes → bytes ≡ name
name-spelled name rest text inside bytes f e begins s =
    let same : inside ≡ flat_map escaped (chars name) ++ (34 ∷ rest) = tail-same 34 34 inside _ (sym begins ∙ (e ∙ quoted-open name rest)) in
    characters (chars name) rest bytes (subst (λ z. SpellsQuoted z bytes) same s) ∙ encodes-chars name f
  where
    tail-same : (a b : ℕ) (xs ys : List ℕ) → a ∷ xs ≡ b ∷ ys → xs ≡ ys
    tail-same a b xs ys e = cc

-- ---- what the reader answers

pub no-quote : (text : List ℕ) → IsBehind (codes "\"") text None → QuotedAt text None
no-quote text h = record { none = λ p q. h.none (flat_map escaped (chars p.0) ++ (34 ∷ p.1)) (q.same ∙ quoted-open p.0 p.1) }

pub not-utf8 : (text inside bytes : List ℕ) → text ≡ 34 ∷ inside → SpellsQuoted inside bytes → (IsUtf8 bytes → ⊥) → QuotedAt text None
not-utf8 text inside bytes e s h = record { none = λ p q. h (subst IsUtf8 (sym (name-spelled p.0 p.1 text inside bytes q.utf8 q.same e s)) q.utf8) }

pub front-quoted : (text inside bytes : List ℕ) (o : Option (List ℕ × List ℕ)) → text ≡ 34 ∷ inside → SpellsQuoted inside bytes → IsUtf8 bytes → FrontOf bytes text o → QuotedAt text o
front-quoted text inside bytes None e s f h = record {
  none = λ p q.
      let same = name-spelled p.0 p.1 text inside bytes q.utf8 q.same e s in
      h.none (bytes, p.1) (record { named = refl; same = q.same ∙ ap (λ z. in_quotes z ++ p.1) (sym same) });
}
front-quoted text inside bytes (Some p) e s f h = record { utf8 = subst IsUtf8 (sym h.named) f; same = h.same ∙ ap (λ z. in_quotes z ++ p.1) (sym h.named) }

pub no-front : (front name text : List ℕ) → front ≡ in_quotes name → IsBehind front text None → FrontOf name text None
no-front front name text e h = record { none = λ p f. h.none p.1 (f.same ∙ ap (λ z. z ++ p.1) (sym e)) }

pub front-there : (front name text own rest : List ℕ) → front ≡ in_quotes name → own ≡ name → text ≡ front ++ rest → FrontOf name text (Some (own, rest))
front-there front name text own rest e f h = record { named = f; same = h ∙ ap (λ z. z ++ rest) e }

pub ruleset front_rules = (no-front, front-there)

pub ruleset quoted_rules = (no-quote, not-utf8, front-quoted)
