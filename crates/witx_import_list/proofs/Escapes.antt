-- A name between quotes, as a listing has it, is a string that stands for the name.
use Rattle.std.proofs.Common.{◌≡◌, ℕ, zero, suc, ◌<◌, ◌≤◌, ◌/◌, ◌%◌, Bool, true, false, ◌&&◌, ◌||◌, ◌==◌, cond, List, [], ◌∷◌, ◌++◌, length, map, get_or, ◌⊎◌, inl, inr, refl, sym, ap, subst, ◌∙◌, arith}
use Rattle.std.specs.Prelude.{IsTrue, nat_lt, encode_utf8}
use Rattle.std.specs.Char.{is_digit}
use Rattle.std.specs.List.{list_all, flat_map}
use Rattle.std.specs.Str.{IsUtf8, chars}
use Rattle.std.specs.Str.Parse.{digits_value}
use Rattle.std.proofs.lemmas.Bool.{and_parts, cases_lt, eqb-true, eqb-false, ltb-true, ltb-false, le-ltb, ne_eqb}
use Rattle.std.proofs.lemmas.List.{append-nil}
use Rattle.std.proofs.lemmas.List.Concat.{flat_map-append}
use Rattle.std.proofs.lemmas.Str.{encode_ascii, encodes-chars, inside_one}
use Rattle.witx_adapt.specs.Names.{digit, escaped}
use Rattle.witx_adapt.specs.Names.{in_quotes as quoted_name}
use Rattle.witx_lex.specs.Characters.{is_raw}
use Rattle.witx_lex.specs.Pieces.{Part, raw, letter, two_digits, quoted, part_spelling, part_value, spelling, is_part, IsPiece}

-- ---- what spells a character

abbrev pub raws : List ℕ → List Part
raws s = map (λ b. raw b) s

abbrev digits : ℕ → List Part
digits c = two_digits (digit (c / 16)) (digit (c % 16)) ∷ []

abbrev char_parts : ℕ → List Part
char_parts c = cond (c == 34 || c == 92) (letter c ∷ []) (cond (nat_lt c 32 || c == 127) (digits c) (raws (encode_utf8 c)))

-- the parts spell the text, and stand for the character
record Spell (c : ℕ) (ps : List Part) (text : List ℕ) : Type 0 where
  spelled : flat_map part_spelling ps ≡ text
  value : flat_map part_value ps ≡ encode_utf8 c
  parts : IsTrue (list_all is_part ps)

mark : (c : ℕ) → (c ≡ 34) ⊎ (c ≡ 92) → Spell c (letter c ∷ []) (92 ∷ encode_utf8 c)
mark c (inl e) = subst (λ (n : ℕ). Spell n (letter n ∷ []) (92 ∷ encode_utf8 n)) (sym e)
    (record { spelled = ap (λ (t : List ℕ). 92 ∷ t) (sym (encode_ascii 34 (omega arith))); value = sym (encode_ascii 34 (omega arith)); parts = refl })
mark c (inr e) = subst (λ (n : ℕ). Spell n (letter n ∷ []) (92 ∷ encode_utf8 n)) (sym e)
    (record { spelled = ap (λ (t : List ℕ). 92 ∷ t) (sym (encode_ascii 92 (omega arith))); value = sym (encode_ascii 92 (omega arith)); parts = refl })

-- two digits stand for the byte
abbrev two_tell : ℕ → Bool
two_tell c = digits_value 16 (digit (c / 16) ∷ digit (c % 16) ∷ []) == c && (is_digit (digit (c / 16)) 16 && is_digit (digit (c % 16)) 16)

abbrev tell_below : ℕ → Bool
tell_below zero = true
tell_below (suc n) = two_tell n && tell_below n

below : (n : ℕ) → tell_below n ≡ true → (c : ℕ) → c < n → two_tell c ≡ true
below zero h c lt = absurd (omega (arith, lt))
below (suc n) h c lt =
    let p = and_parts (two_tell n) (tell_below n) h in
    elim (cases_lt c n) [
      | inl less ↦ below n p.1 c less
      | inr more ↦ let same : n ≡ c = omega (arith, lt, more) in subst (λ (k : ℕ). two_tell k ≡ true) same p.0
    ]

control-tell : (c : ℕ) → (c < 32) ⊎ (c ≡ 127) → two_tell c ≡ true
control-tell c (inl lt) = below 32 refl c lt
control-tell c (inr e) = subst (λ (k : ℕ). two_tell k ≡ true) (sym e) refl

control : (c : ℕ) → (c < 32) ⊎ (c ≡ 127) → Spell c (digits c) (92 ∷ digit (c / 16) ∷ digit (c % 16) ∷ [])
control c h =
    let small : c < 128 = elim h [ inl lt ↦ omega (arith, lt) | inr e ↦ omega (arith, e) ] in
    let told = and_parts (digits_value 16 (digit (c / 16) ∷ digit (c % 16) ∷ []) == c) (is_digit (digit (c / 16)) 16 && is_digit (digit (c % 16)) 16) (control-tell c h) in
    record {
      spelled = refl;
      value = ap (λ (n : ℕ). n ∷ []) (eqb-true _ _ told.0) ∙ sym (encode_ascii c small);
      parts = ap (λ (t : Bool). t && true) told.1;
    }

raw-spelled : (s : List ℕ) → flat_map part_spelling (raws s) ≡ s
raw-spelled [] = refl
raw-spelled (b ∷ s) = ap (λ (l : List ℕ). b ∷ l) (raw-spelled s)

raw-value : (s : List ℕ) → flat_map part_value (raws s) ≡ s
raw-value [] = refl
raw-value (b ∷ s) = ap (λ (l : List ℕ). b ∷ l) (raw-value s)

raw-parts : (s : List ℕ) → ((k : ℕ) → k < length s → is_raw (get_or s k 0) ≡ true) → list_all is_part (raws s) ≡ true
raw-parts [] h = refl
raw-parts (b ∷ s) h = rw (h 0 (omega arith), raw-parts s (λ k lt. h (suc k) (omega (arith, lt)))) refl

neither : (b : ℕ) → 32 ≤ b → (b ≡ 127 → ⊥) → (b ≡ 34 → ⊥) → (b ≡ 92 → ⊥) → is_raw b ≡ true
neither b least not-last not-quote not-mark = rw (le-ltb b 32 least, ne_eqb b 127 not-last, ne_eqb b 34 not-quote, ne_eqb b 92 not-mark) refl

large-raw : (b : ℕ) → 128 ≤ b → is_raw b ≡ true
large-raw b le = neither b (omega (arith, le)) (λ e. omega (arith, le, e)) (λ e. omega (arith, le, e)) (λ e. omega (arith, le, e))

-- each byte of a character beyond ASCII is itself beyond it
beyond : (c k : ℕ) → 128 ≤ c → k < length (encode_utf8 c) → 128 ≤ get_or (encode_utf8 c) k 0
beyond c k le lt =
    elim (cases_lt (get_or (encode_utf8 c) k 0) 128) [
      | inl less ↦ let same = inside_one c [] (encode_utf8 c) k (sym (append-nil (encode_utf8 c))) lt less in absurd (omega (arith, le, less, same))
      | inr more ↦ more
    ]

one-byte : (c : ℕ) (s : List ℕ) → s ≡ c ∷ [] → is_raw c ≡ true → (k : ℕ) → k < length s → is_raw (get_or s k 0) ≡ true
one-byte c s e h zero lt = ap (λ (t : List ℕ). is_raw (get_or t 0 0)) e ∙ h
one-byte c s e h (suc k) lt = let one : length s ≡ 1 = ap length e in absurd (omega (arith, lt, one))

plain-raw : (c : ℕ) → 32 ≤ c → (c ≡ 127 → ⊥) → (c ≡ 34 → ⊥) → (c ≡ 92 → ⊥) → (k : ℕ) → k < length (encode_utf8 c) → is_raw (get_or (encode_utf8 c) k 0) ≡ true
plain-raw c least not-last not-quote not-mark k lt =
    elim (cases_lt c 128) [
      | inl small ↦ one-byte c (encode_utf8 c) (encode_ascii c small) (neither c least not-last not-quote not-mark) k lt
      | inr large ↦ large-raw (get_or (encode_utf8 c) k 0) (beyond c k large lt)
    ]

plain : (c : ℕ) → 32 ≤ c → (c ≡ 127 → ⊥) → (c ≡ 34 → ⊥) → (c ≡ 92 → ⊥) → Spell c (raws (encode_utf8 c)) (encode_utf8 c)
plain c least not-last not-quote not-mark = record {
  spelled = raw-spelled (encode_utf8 c);
  value = raw-value (encode_utf8 c);
  parts = raw-parts (encode_utf8 c) (plain-raw c least not-last not-quote not-mark);
}

either-true : (a b : Bool) → a || b ≡ true → (a ≡ true) ⊎ (b ≡ true)
either-true true b e = inl refl
either-true false b e = inr e

neither-true : (a b : Bool) → a || b ≡ false → (a ≡ false) × (b ≡ false)
neither-true true b e = absurd cc
neither-true false b e = (refl, e)

by-tests : (c : ℕ) (t u : Bool) → (c == 34 || c == 92) ≡ t → (nat_lt c 32 || c == 127) ≡ u
    → Spell c (cond t (letter c ∷ []) (cond u (digits c) (raws (encode_utf8 c)))) (cond t (92 ∷ encode_utf8 c) (cond u (92 ∷ digit (c / 16) ∷ digit (c % 16) ∷ []) (encode_utf8 c)))
by-tests c true u e f = mark c (elim (either-true (c == 34) (c == 92) e) [ inl h ↦ inl (eqb-true c 34 h) | inr h ↦ inr (eqb-true c 92 h) ])
by-tests c false true e f = control c (elim (either-true (nat_lt c 32) (c == 127) f) [ inl h ↦ inl (ltb-true c 32 h) | inr h ↦ inr (eqb-true c 127 h) ])
by-tests c false false e f =
    let p = neither-true (c == 34) (c == 92) e in
    let q = neither-true (nat_lt c 32) (c == 127) f in
    plain c (ltb-false c 32 q.0) (eqb-false c 127 q.1) (eqb-false c 34 p.0) (eqb-false c 92 p.1)

spells : (c : ℕ) → Spell c (char_parts c) (escaped c)
spells c = by-tests c (c == 34 || c == 92) (nat_lt c 32 || c == 127) refl refl

-- ---- what spells a name

abbrev pub name_parts : List ℕ → List Part
name_parts name = flat_map char_parts (chars name)

all-append : (xs ys : List Part) → list_all is_part xs ≡ true → list_all is_part ys ≡ true → list_all is_part (xs ++ ys) ≡ true
all-append [] ys h k = k
all-append (x ∷ xs) ys h k = let p = and_parts (is_part x) (list_all is_part xs) h in rw (p.0, all-append xs ys p.1 k) refl

all-spelled : (cs : List ℕ) → flat_map part_spelling (flat_map char_parts cs) ≡ flat_map escaped cs
all-spelled [] = refl
all-spelled (c ∷ cs) = flat_map-append part_spelling (char_parts c) (flat_map char_parts cs) ∙ ap (λ (t : List ℕ). t ++ flat_map part_spelling (flat_map char_parts cs)) ((spells c).spelled)
    ∙ ap (λ (t : List ℕ). escaped c ++ t) (all-spelled cs)

all-values : (cs : List ℕ) → flat_map part_value (flat_map char_parts cs) ≡ flat_map encode_utf8 cs
all-values [] = refl
all-values (c ∷ cs) = flat_map-append part_value (char_parts c) (flat_map char_parts cs) ∙ ap (λ (t : List ℕ). t ++ flat_map part_value (flat_map char_parts cs)) ((spells c).value)
    ∙ ap (λ (t : List ℕ). encode_utf8 c ++ t) (all-values cs)

all-parts : (cs : List ℕ) → list_all is_part (flat_map char_parts cs) ≡ true
all-parts [] = refl
all-parts (c ∷ cs) = all-append (char_parts c) (flat_map char_parts cs) ((spells c).parts) (all-parts cs)

-- what the string of a name stands for
pub name-value : (name : List ℕ) → IsUtf8 name → flat_map part_value (name_parts name) ≡ name
name-value name u = all-values (chars name) ∙ encodes-chars name u

pub name-piece : (name : List ℕ) → IsUtf8 name → IsPiece (quoted (name_parts name))
name-piece name u = (all-parts (chars name), subst IsUtf8 (sym (name-value name u)) u)

pub name-spelled : (name rest : List ℕ) → quoted_name name ++ rest ≡ spelling (quoted (name_parts name)) ++ rest
name-spelled name rest = ap (λ (t : List ℕ). (34 ∷ (t ++ 34 ∷ [])) ++ rest) (sym (all-spelled (chars name)))
