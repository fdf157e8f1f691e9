-- At most one part of a string stands at the front of a text, so where no further part stands settles all parts: `parts_stop`.
use Rattle.std.proofs.Common.{◌≡◌, ◌≢◌, ℕ, ◌+◌, ◌<◌, Bool, true, false, cond, ◌&&◌, ◌||◌, ◌==◌, List, [], ◌∷◌, ◌++◌, length, get_or, take, drop, Option, Some, None, refl, sym, ap, ◌∙◌, inl, inr, arith, append_assoc}
use Rattle.std.proofs.lemmas.Bool.{and_parts, or_left, or_right}
use Rattle.std.proofs.lemmas.Bool.Decides.{nat_tests}
use Rattle.std.proofs.lemmas.List.{append_cancel_left, length-append, length-take-le, drop_more, drop-drop, take-append-drop, get_or_at}
use Rattle.std.specs.List.{prefix_len, list_all, flat_map}
use Rattle.std.specs.Prelude.{IsTrue, ◌⊎◌, slice_index, is_some, unwrap_or, if◌then◌else◌}
use Rattle.std.specs.Char.{is_digit}
use Rattle.std.specs.Str.Parse.{digits_value}
use Rattle.witx_lex.specs.declared.escape.Escaped.TheVariants.{Byte, Scalar}
use Rattle.witx_lex.specs.Characters.{is_raw, letter_value, is_digit_or_underscore, are_digits, is_unicode_scalar, scalar_value}
use Rattle.witx_lex.specs.Pieces.{Part, raw, letter, two_digits, scalar, part_spelling, is_part}
use Rattle.witx_lex.specs.Faults.{NoPart, StringParts}
use Rattle.witx_lex.specs.Escapes.{IsEscape}
use Rattle.witx_lex.proofs.Digits.{digits_follow, digits_same}
use Rattle.witx_lex.proofs.Texts.{front_two, within_from_byte, prefix_run, take_run}

abbrev is_letter : ℕ → Bool
is_letter c = is_part (letter c)

abbrev escape_at : List ℕ → Option Part
escape_at bs =
    cond (is_letter (slice_index bs 0)) (Some (letter (slice_index bs 0)))
    (cond (is_digit (slice_index bs 0) 16) (Some (two_digits (slice_index bs 0) (slice_index bs 1)))
    (Some (scalar (take (prefix_len is_digit_or_underscore (drop 2 bs)) (drop 2 bs)))))

abbrev part_at : List ℕ → Option Part
part_at [] = None
part_at (b ∷ bs) = cond (is_raw b) (Some (raw b)) (cond (b == 92) (escape_at bs) None)

hex_no_letter : (h : ℕ) → is_digit h 16 ≡ true → is_letter h ≡ false
hex_no_letter h e = grind (arith, nat_tests)

or_parts : (a b c : Bool) (r s : Bool) → ((a && r) || ((b && c) && s)) ≡ true → ((a ≡ true) × (r ≡ true)) ⊎ ((b ≡ true) × (s ≡ true))
or_parts true b c true s e = inl (refl, refl)
or_parts true true true false true e = inr (refl, refl)
or_parts true true true false false e = absurd cc
or_parts true true false false s e = absurd cc
or_parts true false c false s e = absurd cc
or_parts false true true r true e = inr (refl, refl)
or_parts false true true r false e = absurd cc
or_parts false true false r s e = absurd cc
or_parts false false c r s e = absurd cc

hex_all : (after : Bool) (ds : List ℕ) → digits_follow 16 after ds ≡ true → list_all is_digit_or_underscore ds ≡ true
hex_all after [] e = refl
hex_all after (b ∷ bs) e =
    elim (or_parts (is_digit b 16) (b == 95) after (digits_follow 16 true bs) (digits_follow 16 false bs) e) [
      | inl h ↦ rw (or_left (is_digit b 16) (b == 95) h.0) (hex_all true bs h.1)
      | inr h ↦ rw (or_right (is_digit b 16) (b == 95) h.0) (hex_all false bs h.1)
    ]

all_of_digits : (ds : List ℕ) → are_digits 16 ds ≡ true → list_all is_digit_or_underscore ds ≡ true
all_of_digits ds e = hex_all false ds (sym (digits_same 16 ds) ∙ e)

pub part_complete : (p : Part) (more : List ℕ) → IsTrue (is_part p) → part_at (part_spelling p ++ more) ≡ Some p
part_complete (raw b) more h = rw h refl
part_complete (letter c) more h = rw h refl
part_complete (two_digits h l) more e =
    let parts = and_parts (is_digit h 16) (is_digit l 16) e in
    rw (hex_no_letter h parts.0, parts.0) refl
part_complete (scalar ds) more e =
    let parts = and_parts (are_digits 16 ds) (is_unicode_scalar (scalar_value ds)) e in
    let split : (ds ++ 125 ∷ []) ++ more ≡ ds ++ 125 ∷ more = append_assoc ds (125 ∷ []) more in
    ap (λ (t : List ℕ). Some (scalar (take (prefix_len is_digit_or_underscore t) t))) split ∙ ap (λ (t : List ℕ). Some (scalar t)) (take_run is_digit_or_underscore ds (125 ∷ more) (all_of_digits ds parts.0) refl)

part_is : (p q : Part) → Some p ≡ Some q → p ≡ q
part_is p q e = cc

pub part_unique : (p q : Part) (text rest more : List ℕ) → IsTrue (is_part p) → IsTrue (is_part q) → text ≡ part_spelling p ++ rest → text ≡ part_spelling q ++ more → p ≡ q
part_unique p q text rest more hp hq e f = part_is p q (sym (part_complete p rest hp) ∙ ap part_at (sym e ∙ f) ∙ part_complete q more hq)

-- ---- where no part stands

pub no_part_at_end : NoPart []
no_part_at_end (raw b) rest h e = cc
no_part_at_end (letter c) rest h e = cc
no_part_at_end (two_digits h l) rest valid e = cc
no_part_at_end (scalar ds) rest h e = cc

-- no part begins with a byte that neither stands for itself nor is a backslash
pub no_part_before : (c : ℕ) (text : List ℕ) → is_raw c ≡ false → c ≢ 92 → NoPart (c ∷ text)
no_part_before c text not_raw other (raw b) rest h e =
    let same : c ≡ b = cc in
    absurd (let q : true ≡ false = sym h ∙ ap is_raw (sym same) ∙ not_raw in cc)
no_part_before c text not_raw other (letter d) rest h e = other cc
no_part_before c text not_raw other (two_digits h l) rest valid e = other cc
no_part_before c text not_raw other (scalar ds) rest h e = other cc

pub no_part_at_quote : (text : List ℕ) → NoPart (34 ∷ text)
no_part_at_quote text = no_part_before 34 text refl (λ e. cc)

-- what the parts of a string are is settled by where no further part stands
pub parts_stop : (ps qs : List Part) (text rest more : List ℕ) → StringParts ps text rest → StringParts qs text more → NoPart rest → NoPart more → (ps ≡ qs) × (rest ≡ more)
parts_stop [] [] text rest more a b stop end = (refl, sym a.1 ∙ b.1)
parts_stop [] (q ∷ qs) text rest more a b stop end =
    let parts = and_parts (is_part q) (list_all is_part qs) b.0 in
    absurd (stop q (flat_map part_spelling qs ++ more) parts.0 (sym a.1 ∙ b.1 ∙ append_assoc (part_spelling q) (flat_map part_spelling qs) more))
parts_stop (p ∷ ps) [] text rest more a b stop end =
    let parts = and_parts (is_part p) (list_all is_part ps) a.0 in
    absurd (end p (flat_map part_spelling ps ++ rest) parts.0 (sym b.1 ∙ a.1 ∙ append_assoc (part_spelling p) (flat_map part_spelling ps) rest))
parts_stop (p ∷ ps) (q ∷ qs) text rest more a b stop end =
    let one = and_parts (is_part p) (list_all is_part ps) a.0 in
    let two = and_parts (is_part q) (list_all is_part qs) b.0 in
    let left : text ≡ part_spelling p ++ (flat_map part_spelling ps ++ rest) = a.1 ∙ append_assoc (part_spelling p) (flat_map part_spelling ps) rest in
    let right : text ≡ part_spelling q ++ (flat_map part_spelling qs ++ more) = b.1 ∙ append_assoc (part_spelling q) (flat_map part_spelling qs) more in
    let same : p ≡ q = part_unique p q text _ _ one.0 two.0 left right in
    let others : flat_map part_spelling ps ++ rest ≡ flat_map part_spelling qs ++ more =
    append_cancel_left (part_spelling p) _ _ (sym left ∙ right ∙ ap (λ (x : Part). part_spelling x ++ (flat_map part_spelling qs ++ more)) (sym same)) in
    let tail = parts_stop ps qs (flat_map part_spelling ps ++ rest) rest more (one.1, refl) (two.1, others) stop end in
    (ap (λ (x : Part). x ∷ ps) same ∙ ap (λ (xs : List Part). q ∷ xs) tail.0, tail.1)

-- ---- escapes as the code reads them

pub escape_letter : (bytes : List ℕ) (v : ℕ) → Some v ≡ letter_value (slice_index bytes 0) → IsEscape bytes (record { value = Byte v; len = 1 })
escape_letter [] v e = absurd cc
escape_letter (b ∷ bs) v e = record {
  part = letter b;
  valid = ap is_some (sym e);
  spelled = refl;
  len = refl;
  value = ap (λ (o : Option ℕ). unwrap_or o 0 ∷ []) e;
}

chosen : (t : Bool) (v w : ℕ) → Some v ≡ (if t then Some w else None) → (t ≡ true) × (v ≡ w)
chosen true v w e = (refl, cc)
chosen false v w e = absurd cc

pub escape_digits : (bytes : List ℕ) (v : ℕ)
    → Some v ≡ (if is_digit (slice_index bytes 0) 16 && is_digit (slice_index bytes 1) 16 then Some (digits_value 16 (slice_index bytes 0 ∷ slice_index bytes 1 ∷ [])) else None)
    → IsEscape bytes (record { value = Byte v; len = 2 })
escape_digits [] v e = absurd cc
escape_digits (b ∷ []) v e =
    let h = chosen _ v (digits_value 16 (b ∷ 0 ∷ [])) e in
    absurd (let q : is_digit 0 16 ≡ true = (and_parts (is_digit b 16) (is_digit 0 16) h.0).1 in cc)
escape_digits (b ∷ c ∷ bs) v e =
    let h = chosen _ v (digits_value 16 (b ∷ c ∷ [])) e in
    record { part = two_digits b c; valid = h.0; spelled = refl; len = refl; value = ap (λ (x : ℕ). x ∷ []) h.1 }

pub escape_scalar : (bytes inside digits : List ℕ) (len c : ℕ) → get_or bytes 0 0 ≡ 117 → get_or bytes 1 0 ≡ 123 → inside ≡ drop 2 bytes
    → len ≡ prefix_len is_digit_or_underscore inside → digits ≡ take len inside → get_or inside len 0 ≡ 125
    → are_digits 16 digits ≡ true → is_unicode_scalar (scalar_value digits) ≡ true → c ≡ scalar_value digits
    → IsEscape bytes (record { value = Scalar c; len = len + 3 })
escape_scalar bytes inside digits len c u brace inside-is len-is digits-is last all valid c-is =
    let two : bytes ≡ 117 ∷ 123 ∷ drop 2 bytes = front_two bytes 117 123 (omega arith) (omega arith) u brace in
    let within : len < length inside = within_from_byte inside len (omega (arith, last)) in
    let past : drop (len + 1) inside ≡ drop (len + 3) bytes = ap (drop (len + 1)) inside-is ∙ drop-drop (len + 1) 2 bytes ∙ ap (λ (j : ℕ). drop j bytes) (omega arith) in
    let rest : drop len inside ≡ 125 ∷ drop (len + 3) bytes = drop_more inside len 0 within ∙ ap (λ (b : ℕ). b ∷ drop (len + 1) inside) last ∙ ap (λ (t : List ℕ). 125 ∷ t) past in
    let whole : drop 2 bytes ≡ (digits ++ 125 ∷ []) ++ drop (len + 3) bytes =
    sym inside-is ∙ sym (take-append-drop len inside) ∙ ap (λ (t : List ℕ). t ++ drop len inside) (sym digits-is) ∙ ap (λ (t : List ℕ). digits ++ t) rest
    ∙ sym (append_assoc digits (125 ∷ []) (drop (len + 3) bytes)) in
    let long : length digits ≡ len = ap (λ (t : List ℕ). length t) digits-is ∙ length-take-le len inside (omega arith) in
    record {
      part = scalar digits;
      valid = rw (all, valid) refl;
      spelled = ap (λ (t : List ℕ). 92 ∷ t) two ∙ ap (λ (t : List ℕ). 92 ∷ 117 ∷ 123 ∷ t) whole;
      len = omega (arith, long, length-append digits (125 ∷ []));
      value = rw c-is refl;
    }

pub no_scalar : (bytes inside digits : List ℕ) (len : ℕ) → get_or bytes 0 0 ≡ 117 → inside ≡ drop 2 bytes
    → len ≡ prefix_len is_digit_or_underscore inside → digits ≡ take len inside
    → (get_or inside len 0 ≡ 125 → are_digits 16 digits ≡ true → is_unicode_scalar (scalar_value digits) ≡ true → ⊥) → NoPart (92 ∷ bytes)
no_scalar bytes inside digits len u inside-is len-is digits-is none (raw b) rest h e =
    let same : 92 ≡ b = cc in
    absurd (let q : true ≡ is_raw 92 = sym h ∙ ap is_raw (sym same) in cc)
no_scalar bytes inside digits len u inside-is len-is digits-is none (letter c) rest h e =
    let tail : bytes ≡ c ∷ rest = cc in
    let same : c ≡ 117 = ap (λ (t : List ℕ). get_or t 0 0) (sym tail) ∙ u in
    absurd (let q : true ≡ is_some (letter_value 117) = sym h ∙ ap (λ (x : ℕ). is_some (letter_value x)) same in cc)
no_scalar bytes inside digits len u inside-is len-is digits-is none (two_digits high low) rest h e =
    let tail : bytes ≡ high ∷ low ∷ rest = cc in
    let same : high ≡ 117 = ap (λ (t : List ℕ). get_or t 0 0) (sym tail) ∙ u in
    absurd (let q : true ≡ is_digit 117 16 = sym (and_parts (is_digit high 16) (is_digit low 16) h).0 ∙ ap (λ (x : ℕ). is_digit x 16) same in cc)
no_scalar bytes inside digits len u inside-is len-is digits-is none (scalar ds) rest h e =
    let parts = and_parts (are_digits 16 ds) (is_unicode_scalar (scalar_value ds)) h in
    let tail : inside ≡ ds ++ 125 ∷ rest = inside-is ∙ ap (drop 3) e ∙ append_assoc ds (125 ∷ []) rest in
    let all = all_of_digits ds parts.0 in
    let long : len ≡ length ds = len-is ∙ ap (prefix_len is_digit_or_underscore) tail ∙ prefix_run is_digit_or_underscore ds (125 ∷ rest) all refl in
    let front : digits ≡ ds = digits-is ∙ ap (λ (j : ℕ). take j inside) len-is ∙ ap (λ (t : List ℕ). take (prefix_len is_digit_or_underscore t) t) tail ∙ take_run is_digit_or_underscore ds (125 ∷ rest) all refl in
    none (ap (λ (t : List ℕ). get_or t len 0) tail ∙ get_or_at ds 125 rest 0 len (sym long))
    (ap (are_digits 16) front ∙ parts.0)
    (ap (λ (t : List ℕ). is_unicode_scalar (scalar_value t)) front ∙ parts.1)
