-- Every text has pieces or a fault.
use Rattle.std.proofs.Common.{◌≡◌, ◌≢◌, ℕ, zero, suc, ◌≤◌, Bool, true, false, not, ◌&&◌, ◌||◌, ◌==◌, List, [], ◌∷◌, ◌++◌, length, get_or, take, drop, Option, Some, None, refl, sym, ap, ◌∙◌, subst, inl, inr, arith, append_assoc, eqb-true}
use Rattle.std.proofs.lemmas.Bool.{cases_lt, and_parts}
use Rattle.std.proofs.lemmas.Bool.Decides.{nat_tests}
use Rattle.std.proofs.lemmas.List.{length-append, length-take-le}
use Rattle.std.proofs.lemmas.List.Sums.{prefix_len-le-length}
use Rattle.std.proofs.lemmas.Slice.{between_from_start}
use Rattle.std.proofs.lemmas.Str.{IsUtf8-from_is_utf8, is_utf8-from_IsUtf8}
use Rattle.std.specs.List.{prefix_len, flat_map}
use Rattle.std.specs.Prelude.{IsTrue, ◌⊎◌, slice_index, slice_range, is_some, unwrap_or, if◌then◌else◌}
use Rattle.std.specs.Char.{is_digit}
use Rattle.std.specs.Str.{is_utf8}
use Rattle.witx_lex.specs.declared.error.LexKind.{LexKind}
use Rattle.witx_lex.specs.declared.error.LexKind.TheVariants.{UnexpectedCharacter, UnterminatedComment, UnterminatedString, BadEscape, BadCharacter, NotUtf8, EmptyId, TooDeep}
use Rattle.witx_lex.specs.declared.escape.Escape.{Escape}
use Rattle.witx_lex.specs.BlockScan.{block_len}
use Rattle.witx_lex.specs.Characters.{is_blank, is_name_character, is_raw, is_control, is_digit_or_underscore, letter_value, are_digits, is_unicode_scalar, scalar_value, begins}
use Rattle.witx_lex.specs.Pieces.{Part, raw, letter, two_digits, scalar, is_part, part_spelling, part_value, Piece, blank, line, block, opening, closing, run, quoted, spelling, open_after, open_after_all, Stands, Stand}
use Rattle.witx_lex.specs.Faults.{StringParts, NoPart, parts_length, IsFaultAt}
use Rattle.witx_lex.specs.Escapes.{IsEscape}
use Rattle.witx_lex.proofs.Blocks.{no_end}
use Rattle.witx_lex.proofs.Texts.{differs, run_stops}
use Rattle.witx_lex.proofs.Parts.{no_part_at_end, no_part_before, escape_letter, escape_digits, escape_scalar, no_scalar}
use Rattle.witx_lex.proofs.Found.{stands_blank, stands_opening, stands_closing, stands_line, found_block, found_run}

-- ---- a part of a string, or none

record PartAt (text : List ℕ) : Type 0 where
  part : Part
  rest : List ℕ
  valid : IsTrue (is_part part)
  spelled : text ≡ part_spelling part ++ rest

from_escape : (bytes : List ℕ) (e : Escape) → IsEscape bytes e → PartAt (92 ∷ bytes)
from_escape bytes e h = record { part = h.part; rest = drop e.len bytes; valid = h.valid; spelled = h.spelled }

no_escape : (bytes : List ℕ) → is_some (letter_value (slice_index bytes 0)) ≡ false → (slice_index bytes 0 == 117 && slice_index bytes 1 == 123) ≡ false
    → (is_digit (slice_index bytes 0) 16 && is_digit (slice_index bytes 1) 16) ≡ false → NoPart (92 ∷ bytes)
no_escape bytes no_letter no_brace no_digits (raw b) rest h e =
    let same : 92 ≡ b = cc in
    absurd (let q : true ≡ is_raw 92 = sym h ∙ ap is_raw (sym same) in cc)
no_escape bytes no_letter no_brace no_digits (letter c) rest h e =
    let tail : bytes ≡ c ∷ rest = cc in
    let q : true ≡ false = sym h ∙ ap (λ (t : List ℕ). is_some (letter_value (slice_index t 0))) (sym tail) ∙ no_letter in
    cc
no_escape bytes no_letter no_brace no_digits (two_digits high low) rest h e =
    let tail : bytes ≡ high ∷ low ∷ rest = cc in
    let q : true ≡ false = sym h ∙ ap (λ (t : List ℕ). is_digit (slice_index t 0) 16 && is_digit (slice_index t 1) 16) (sym tail) ∙ no_digits in
    cc
no_escape bytes no_letter no_brace no_digits (scalar ds) rest h e =
    let tail : bytes ≡ 117 ∷ 123 ∷ ((ds ++ 125 ∷ []) ++ rest) = cc in
    let q : true ≡ false = ap (λ (t : List ℕ). slice_index t 0 == 117 && slice_index t 1 == 123) (sym tail) ∙ no_brace in
    cc

some_of : (o : Option ℕ) → is_some o ≡ true → Some (unwrap_or o 0) ≡ o
some_of None e = absurd cc
some_of (Some v) e = refl

chosen : (t : Bool) (w : ℕ) → t ≡ true → Some w ≡ (if t then Some w else None)
chosen true w e = refl
chosen false w e = absurd cc

three_true : (a b c : Bool) → (a && (b && c)) ≡ true → (a ≡ true) × (b ≡ true) × (c ≡ true)
three_true a b c e = let p = and_parts a (b && c) e in let q = and_parts b c p.1 in (p.0, q.0, q.1)

three_false : (a b c : Bool) → (a && (b && c)) ≡ false → a ≡ true → b ≡ true → c ≡ true → ⊥
three_false true true true e p q r = cc
three_false false b c e p q r = cc
three_false true false c e p q r = cc
three_false true true false e p q r = cc

true_eq : (a b : ℕ) → a ≡ b → (a == b) ≡ true
true_eq a b e = grind (arith, nat_tests)

scalar_case : (t : Bool) (bytes : List ℕ) → slice_index bytes 0 ≡ 117 → slice_index bytes 1 ≡ 123
    → let inside = drop 2 bytes in let len = prefix_len is_digit_or_underscore inside in let digits = take len inside in
    ((get_or inside len 0 == 125) && (are_digits 16 digits && is_unicode_scalar (scalar_value digits))) ≡ t → PartAt (92 ∷ bytes) ⊎ NoPart (92 ∷ bytes)
scalar_case true bytes u brace e =
    let inside = drop 2 bytes in
    let len = prefix_len is_digit_or_underscore inside in
    let digits = take len inside in
    let h = three_true (get_or inside len 0 == 125) (are_digits 16 digits) (is_unicode_scalar (scalar_value digits)) e in
    inl (from_escape bytes _ (escape_scalar bytes inside digits len (scalar_value digits) u brace refl refl refl (eqb-true _ 125 h.0) h.1 h.2 refl))
scalar_case false bytes u brace e =
    let inside = drop 2 bytes in
    let len = prefix_len is_digit_or_underscore inside in
    let digits = take len inside in
    inr (no_scalar bytes inside digits len u refl refl refl
    (λ last all valid. three_false (get_or inside len 0 == 125) (are_digits 16 digits) (is_unicode_scalar (scalar_value digits)) e (true_eq _ 125 last) all valid))

escape_case : (l b d : Bool) (bytes : List ℕ) → is_some (letter_value (slice_index bytes 0)) ≡ l → (slice_index bytes 0 == 117 && slice_index bytes 1 == 123) ≡ b
    → (is_digit (slice_index bytes 0) 16 && is_digit (slice_index bytes 1) 16) ≡ d → PartAt (92 ∷ bytes) ⊎ NoPart (92 ∷ bytes)
escape_case true b d bytes l-is b-is d-is = inl (from_escape bytes _ (escape_letter bytes _ (some_of (letter_value (slice_index bytes 0)) l-is)))
escape_case false true d bytes l-is b-is d-is =
    let h = and_parts (slice_index bytes 0 == 117) (slice_index bytes 1 == 123) b-is in
    scalar_case _ bytes (eqb-true _ 117 h.0) (eqb-true _ 123 h.1) refl
escape_case false false true bytes l-is b-is d-is = inl (from_escape bytes _ (escape_digits bytes _ (chosen _ _ d-is)))
escape_case false false false bytes l-is b-is d-is = inr (no_escape bytes l-is b-is d-is)

part_case : (r s : Bool) (b : ℕ) (bs : List ℕ) → is_raw b ≡ r → (b == 92) ≡ s → PartAt (b ∷ bs) ⊎ NoPart (b ∷ bs)
part_case true s b bs r-is s-is = inl (record { part = raw b; rest = bs; valid = r-is; spelled = refl })
part_case false true b bs r-is s-is =
    subst (λ (x : ℕ). PartAt (x ∷ bs) ⊎ NoPart (x ∷ bs)) (sym (eqb-true b 92 s-is)) (escape_case _ _ _ bs refl refl refl)
part_case false false b bs r-is s-is = inr (no_part_before b bs r-is (differs b 92 s-is))

part_or_none : (text : List ℕ) → PartAt text ⊎ NoPart text
part_or_none [] = inr no_part_at_end
part_or_none (b ∷ bs) = part_case _ _ b bs refl refl

-- ---- all parts of a string

record AllParts (text : List ℕ) : Type 0 where
  parts : List Part
  rest : List ℕ
  read : StringParts parts text rest
  none : NoPart rest

some_part : (p : Part) → 1 ≤ length (part_spelling p)
some_part (raw b) = omega arith
some_part (letter c) = omega arith
some_part (two_digits h l) = omega arith
some_part (scalar ds) = omega arith

shorter : (text front rest : List ℕ) (fuel : ℕ) → text ≡ front ++ rest → 1 ≤ length front → length text ≤ suc fuel → length rest ≤ fuel
shorter text front rest fuel e some le = omega (arith, ap (λ (t : List ℕ). length t) e, length-append front rest)

one_more : (text : List ℕ) (p : PartAt text) → AllParts p.rest → AllParts text
one_more text p all =
    let valid = p.valid in
    record {
      parts = p.part ∷ all.parts;
      rest = all.rest;
      read = (rw (valid, all.read.0) refl, p.spelled ∙ ap (λ (t : List ℕ). part_spelling p.part ++ t) all.read.1 ∙ sym (append_assoc (part_spelling p.part) (flat_map part_spelling all.parts) all.rest));
      none = all.none;
    }

nothing_left : (text : List ℕ) → length text ≤ 0 → AllParts text
nothing_left [] le = record { parts = []; rest = []; read = (refl, refl); none = no_part_at_end }
nothing_left (b ∷ bs) le = absurd (omega arith)

all_parts : (fuel : ℕ) (text : List ℕ) → length text ≤ fuel → AllParts text
all_parts zero text le = nothing_left text le
all_parts (suc fuel) text le =
    elim (part_or_none text) [
      | inl p ↦ one_more text p (all_parts fuel p.rest (shorter text (part_spelling p.part) p.rest fuel p.spelled (some_part p.part) le))
      | inr none ↦ record { parts = []; rest = text; read = (refl, refl); none = none }
    ]

-- ---- a piece, or a fault

record PieceAt (n : ℕ) (text : List ℕ) : Type 0 where
  piece : Piece
  rest : List ℕ
  stands : Stands n piece text rest

record FaultAt (n : ℕ) (text : List ℕ) : Type 0 where
  kind : LexKind
  place : ℕ
  is : IsFaultAt n text kind place

control_or_raw : (c : ℕ) → (c == 34) ≡ false → (c == 92) ≡ false → is_control c ≡ false → is_raw c ≡ true
control_or_raw c q b k = grind (arith, nat_tests)

string_end : (u : Bool) (n : ℕ) (bs : List ℕ) (ps : List Part) (rest : List ℕ) → n ≤ 100 → StringParts ps bs (34 ∷ rest) → is_utf8 (flat_map part_value ps) ≡ u
    → PieceAt n (34 ∷ bs) ⊎ FaultAt n (34 ∷ bs)
string_end true n bs ps rest le read u-is = inl (record {
  piece = quoted ps;
  rest = rest;
  stands = record {
    piece = (read.0, IsUtf8-from_is_utf8 (flat_map part_value ps) u-is);
    spelled = ap (λ (t : List ℕ). 34 ∷ t) (read.1 ∙ sym (append_assoc (flat_map part_spelling ps) (34 ∷ []) rest));
    ended = tt;
    depth = le;
  };
})
string_end false n bs ps rest le read u-is =
    inr (record { kind = NotUtf8; place = 0; is = (refl, refl, ps, rest, read, λ u. absurd (let q : true ≡ false = sym (is_utf8-from_IsUtf8 (flat_map part_value ps) u) ∙ u-is in cc)) })

string_case : (q b k : Bool) (n : ℕ) (bs : List ℕ) (ps : List Part) (c : ℕ) (rest : List ℕ) → n ≤ 100 → StringParts ps bs (c ∷ rest) → NoPart (c ∷ rest)
    → (c == 34) ≡ q → (c == 92) ≡ b → is_control c ≡ k → PieceAt n (34 ∷ bs) ⊎ FaultAt n (34 ∷ bs)
string_case true b k n bs ps c rest le read none q-is b-is k-is =
    string_end _ n bs ps rest le (subst (λ (x : ℕ). StringParts ps bs (x ∷ rest)) (eqb-true c 34 q-is) read) refl
string_case false true k n bs ps c rest le read none q-is b-is k-is =
    let same = eqb-true c 92 b-is in
    inr (record {
      kind = BadEscape;
      place = parts_length ps;
      is = (refl, ps, rest, subst (λ (x : ℕ). StringParts ps bs (x ∷ rest)) same read, subst (λ (x : ℕ). NoPart (x ∷ rest)) same none, refl);
    })
string_case false false true n bs ps c rest le read none q-is b-is k-is =
    inr (record { kind = BadCharacter; place = parts_length ps; is = (refl, ps, c, rest, read, k-is, refl) })
string_case false false false n bs ps c rest le read none q-is b-is k-is = absurd (none (raw c) rest (control_or_raw c q-is b-is k-is) refl)

string_ends : (n : ℕ) (bs : List ℕ) (ps : List Part) (rest : List ℕ) → n ≤ 100 → StringParts ps bs rest → NoPart rest → PieceAt n (34 ∷ bs) ⊎ FaultAt n (34 ∷ bs)
string_ends n bs ps [] le read none = inr (record { kind = UnterminatedString; place = 0; is = (refl, refl, ps, read) })
string_ends n bs ps (c ∷ rest) le read none = string_case _ _ _ n bs ps c rest le read none refl refl refl

string_or_fault : (n : ℕ) (bs : List ℕ) → n ≤ 100 → PieceAt n (34 ∷ bs) ⊎ FaultAt n (34 ∷ bs)
string_or_fault n bs le = let all = all_parts (length bs) bs (omega arith) in string_ends n bs all.parts all.rest le all.read all.none

second_is : (bs : List ℕ) → begins (λ c. c == 59) bs ≡ true → get_or bs 0 0 ≡ 59
second_is [] e = absurd cc
second_is (c ∷ bs) e = eqb-true c 59 e

second_not : (bs : List ℕ) → begins (λ c. c == 59) bs ≡ false → get_or bs 0 0 ≢ 59
second_not [] e same = absurd cc
second_not (c ∷ bs) e same = differs c 59 e same

semicolon_case : (s : Bool) (n : ℕ) (bs : List ℕ) → n ≤ 100 → begins (λ c. c == 59) bs ≡ s → PieceAt n (59 ∷ bs) ⊎ FaultAt n (59 ∷ bs)
semicolon_case true n bs le s-is = inl (record { piece = _; rest = _; stands = stands_line n (59 ∷ bs) refl (second_is bs s-is) le })
semicolon_case false n bs le s-is = inr (record { kind = UnexpectedCharacter; place = 0; is = (refl, refl, λ e. s-is) })

comment_case : (o : Option ℕ) (n : ℕ) (bs : List ℕ) → n ≤ 100 → begins (λ c. c == 59) bs ≡ true → block_len 0 (drop 1 bs) ≡ o → PieceAt n (40 ∷ bs) ⊎ FaultAt n (40 ∷ bs)
comment_case None n bs le s-is o-is = inr (record { kind = UnterminatedComment; place = 0; is = (refl, refl, s-is, no_end (drop 1 bs) o-is) })
comment_case (Some len) n bs le s-is o-is =
    inl (record { piece = _; rest = _; stands = (found_block n (40 ∷ bs) (drop 1 bs) (drop 1 bs) (slice_range (drop 1 bs) 0 len) len refl (second_is bs s-is) le refl refl (sym o-is) refl).0 })

paren_case : (s : Bool) (n : ℕ) (bs : List ℕ) → n ≤ 100 → begins (λ c. c == 59) bs ≡ s → PieceAt n (40 ∷ bs) ⊎ FaultAt n (40 ∷ bs)
paren_case true n bs le s-is = comment_case _ n bs le s-is refl
paren_case false n bs le s-is =
    elim (cases_lt n 100) [
      | inl lt ↦ inl (record { piece = _; rest = _; stands = stands_opening n (40 ∷ bs) (omega arith) refl (second_not bs s-is) lt })
      | inr deep ↦ inr (record { kind = TooDeep; place = 0; is = (refl, refl, s-is, deep) })
    ]

-- a run that is a lone $ is followed by no name character
lone : (b : ℕ) (bs : List ℕ) → take (prefix_len is_name_character (b ∷ bs)) (b ∷ bs) ≡ 36 ∷ [] → (b ≡ 36) × (begins is_name_character bs ≡ false)
lone b bs e =
    let one : prefix_len is_name_character (b ∷ bs) ≡ 1 =
    sym (length-take-le (prefix_len is_name_character (b ∷ bs)) (b ∷ bs) (prefix_len-le-length is_name_character (b ∷ bs))) ∙ ap (λ (t : List ℕ). length t) e in (
      ap (λ (t : List ℕ). get_or t 0 0) (sym (ap (λ (k : ℕ). take k (b ∷ bs)) one) ∙ e),
      sym (ap (λ (k : ℕ). begins is_name_character (drop k (b ∷ bs))) one) ∙ run_stops is_name_character (b ∷ bs),
    )

not_true : (x : Bool) → not x ≡ true → x ≡ false
not_true true e = absurd cc
not_true false e = refl

not_lone : (b : ℕ) (x : Bool) → ((b == 36) && not x) ≡ false → b ≡ 36 → x ≡ false → ⊥
not_lone b true e same none = cc
not_lone b false e same none = absurd (grind (arith, nat_tests))

run_case : (e : Bool) (n b : ℕ) (bs : List ℕ) → n ≤ 100 → is_name_character b ≡ true → ((b == 36) && not (begins is_name_character bs)) ≡ e → PieceAt n (b ∷ bs) ⊎ FaultAt n (b ∷ bs)
run_case true n b bs le name e-is =
    let h = and_parts (b == 36) (not (begins is_name_character bs)) e-is in
    inr (record { kind = EmptyId; place = 0; is = (refl, eqb-true b 36 h.0, not_true (begins is_name_character bs) h.1) })
run_case false n b bs le name e-is =
    inl (record {
      piece = _;
      rest = _;
      stands = (found_run n (b ∷ bs) (b ∷ bs) (slice_range (b ∷ bs) 0 (prefix_len is_name_character (b ∷ bs))) (prefix_len is_name_character (b ∷ bs)) name le refl refl refl
          (λ e. let h = lone b bs (sym (between_from_start (b ∷ bs) (prefix_len is_name_character (b ∷ bs))) ∙ e) in not_lone b (begins is_name_character bs) e-is h.0 h.1)).0;
    })

abbrev unexpected : ℕ → Bool
unexpected b = not (is_blank b || is_name_character b || b == 40 || b == 41 || b == 34)

all_false : (b : ℕ) → is_blank b ≡ false → is_name_character b ≡ false → (b == 40) ≡ false → (b == 41) ≡ false → (b == 34) ≡ false → unexpected b ≡ true
all_false b bl nm o c q = rw (bl, nm, o, c, q) refl

byte_case : (bl sc o c q nm : Bool) (n b : ℕ) (bs : List ℕ) → n ≤ 100 → is_blank b ≡ bl → (b == 59) ≡ sc → (b == 40) ≡ o → (b == 41) ≡ c → (b == 34) ≡ q → is_name_character b ≡ nm
    → PieceAt n (b ∷ bs) ⊎ FaultAt n (b ∷ bs)
byte_case true sc o c q nm n b bs le bl-is sc-is o-is c-is q-is nm-is = inl (record { piece = _; rest = _; stands = stands_blank n (b ∷ bs) (omega arith) bl-is le })
byte_case false true o c q nm n b bs le bl-is sc-is o-is c-is q-is nm-is =
    subst (λ (x : ℕ). PieceAt n (x ∷ bs) ⊎ FaultAt n (x ∷ bs)) (sym (eqb-true b 59 sc-is)) (semicolon_case _ n bs le refl)
byte_case false false true c q nm n b bs le bl-is sc-is o-is c-is q-is nm-is =
    subst (λ (x : ℕ). PieceAt n (x ∷ bs) ⊎ FaultAt n (x ∷ bs)) (sym (eqb-true b 40 o-is)) (paren_case _ n bs le refl)
byte_case false false false true q nm n b bs le bl-is sc-is o-is c-is q-is nm-is =
    inl (record { piece = _; rest = _; stands = stands_closing n (b ∷ bs) (omega arith) (eqb-true b 41 c-is) le })
byte_case false false false false true nm n b bs le bl-is sc-is o-is c-is q-is nm-is =
    subst (λ (x : ℕ). PieceAt n (x ∷ bs) ⊎ FaultAt n (x ∷ bs)) (sym (eqb-true b 34 q-is)) (string_or_fault n bs le)
byte_case false false false false false true n b bs le bl-is sc-is o-is c-is q-is nm-is = run_case _ n b bs le nm-is refl
byte_case false false false false false false n b bs le bl-is sc-is o-is c-is q-is nm-is =
    inr (record { kind = UnexpectedCharacter; place = 0; is = (refl, all_false b bl-is nm-is o-is c-is q-is, λ e. absurd (differs b 59 sc-is e)) })

piece_or_fault : (n b : ℕ) (bs : List ℕ) → n ≤ 100 → PieceAt n (b ∷ bs) ⊎ FaultAt n (b ∷ bs)
piece_or_fault n b bs le = byte_case _ _ _ _ _ _ n b bs le refl refl refl refl refl refl

-- ---- the whole text

pub record PiecesOf (n : ℕ) (text : List ℕ) : Type 0 where
  pub pieces : List Piece
  pub stand : Stand n pieces text []

pub record FaultOf (n : ℕ) (text : List ℕ) : Type 0 where
  pub pieces : List Piece
  pub rest : List ℕ
  pub kind : LexKind
  pub place : ℕ
  pub stand : Stand n pieces text rest
  pub is : IsFaultAt (open_after_all n pieces) rest kind place

some_piece : (n : ℕ) (p : Piece) (text rest : List ℕ) → Stands n p text rest → 1 ≤ length (spelling p)
some_piece n (blank b) text rest h = omega arith
some_piece n (line t) text rest h = omega arith
some_piece n (block t) text rest h = omega arith
some_piece n opening text rest h = omega arith
some_piece n closing text rest h = omega arith
some_piece n (run []) text rest h = absurd (h.piece.0 refl)
some_piece n (run (b ∷ r)) text rest h = omega arith
some_piece n (quoted ps) text rest h = omega arith

go_on : (n : ℕ) (text : List ℕ) (p : PieceAt n text) → PiecesOf (open_after n p.piece) p.rest ⊎ FaultOf (open_after n p.piece) p.rest → PiecesOf n text ⊎ FaultOf n text
go_on n text p (inl all) = inl (record { pieces = p.piece ∷ all.pieces; stand = (p.rest, p.stands, all.stand) })
go_on n text p (inr f) = inr (record { pieces = p.piece ∷ f.pieces; rest = f.rest; kind = f.kind; place = f.place; stand = (p.rest, p.stands, f.stand); is = f.is })

pub pieces_or_fault : (fuel n : ℕ) (text : List ℕ) → n ≤ 100 → length text ≤ fuel → PiecesOf n text ⊎ FaultOf n text
pieces_or_fault fuel n [] le short = inl (record { pieces = []; stand = refl })
pieces_or_fault zero n (b ∷ bs) le short = absurd (omega arith)
pieces_or_fault (suc fuel) n (b ∷ bs) le short =
    elim (piece_or_fault n b bs le) [
      | inl p ↦ go_on n (b ∷ bs) p (pieces_or_fault fuel (open_after n p.piece) p.rest p.stands.depth
          (shorter (b ∷ bs) (spelling p.piece) p.rest fuel p.stands.spelled (some_piece n p.piece (b ∷ bs) p.rest p.stands) short))
      | inr f ↦ inr (record { pieces = []; rest = b ∷ bs; kind = f.kind; place = f.place; stand = refl; is = f.is })
    ]
