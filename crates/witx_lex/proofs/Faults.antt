-- A fault excludes pieces: where one is told no piece can stand, and a text has at most one.
use Rattle.std.proofs.Common.{◌≡◌, ◌≢◌, ℕ, ◌+◌, ◌≤◌, Bool, true, false, not, ◌||◌, ◌==◌, List, [], ◌∷◌, ◌++◌, length, drop, IsUtf8, refl, sym, ap, ◌∙◌, subst, arith, append_assoc, eqb-true}
use Rattle.std.proofs.lemmas.Bool.{and_parts}
use Rattle.std.proofs.lemmas.Bool.Decides.{nat_tests}
use Rattle.std.proofs.lemmas.List.{append_cancel_left, length-append}
use Rattle.std.specs.List.{list_all, flat_map}
use Rattle.std.specs.Prelude.{IsTrue, if◌then◌else◌}
use Rattle.witx_lex.specs.declared.error.LexKind.{LexKind}
use Rattle.witx_lex.specs.declared.error.LexKind.TheVariants.{UnexpectedCharacter, UnterminatedComment, UnterminatedString, BadEscape, BadCharacter, NotUtf8, EmptyId, TooDeep}
use Rattle.witx_lex.specs.Characters.{is_blank, is_name_character, is_raw, is_control, begins}
use Rattle.witx_lex.specs.Blocks.{HasNoEnd}
use Rattle.witx_lex.specs.Pieces.{Part, part_spelling, part_value, Piece, blank, line, block, opening, closing, run, quoted, spelling, open_after, open_after_all, Stands, Stand}
use Rattle.witx_lex.specs.Faults.{StringParts, NoPart, parts_length, IsFaultAt}
use Rattle.witx_lex.proofs.Texts.{differs}
use Rattle.witx_lex.proofs.Parts.{parts_stop, no_part_at_end, no_part_at_quote, no_part_before}
use Rattle.witx_lex.proofs.Unique.{piece_unique, some_spelling}

-- ---- strings

-- why the parts of a string stop, by what follows them
abbrev end_kind : List ℕ → LexKind
end_kind [] = UnterminatedString
end_kind (c ∷ rest) = if c == 92 then BadEscape else if c == 34 then NotUtf8 else BadCharacter

abbrev end_place : List ℕ → List Part → ℕ
end_place [] ps = 0
end_place (c ∷ rest) ps = if c == 34 then 0 else parts_length ps

record Stopped (bs : List ℕ) (kind : LexKind) (k : ℕ) : Type 0 where
  parts : List Part
  rest : List ℕ
  read : StringParts parts bs rest
  none : NoPart rest
  kind_is : kind ≡ end_kind rest
  place_is : k ≡ end_place rest parts
  utf8 : kind ≡ NotUtf8 → IsUtf8 (flat_map part_value parts) → ⊥

control_other : (c : ℕ) → is_control c ≡ true → ((c == 92) ≡ false) × ((c == 34) ≡ false) × (is_raw c ≡ false)
control_other c h = (grind (arith, nat_tests), grind (arith, nat_tests), grind (arith, nat_tests))

not_quote : (b : ℕ) → IsTrue (not (is_blank b || is_name_character b || b == 40 || b == 41 || b == 34)) → b ≢ 34
not_quote b h e = absurd (grind (arith, nat_tests))

stopped_at_control : (bs : List ℕ) (k : ℕ) (ps : List Part) (c : ℕ) (rest : List ℕ) → StringParts ps bs (c ∷ rest) → IsTrue (is_control c) → k ≡ parts_length ps → Stopped bs BadCharacter k
stopped_at_control bs k ps c rest read control place =
    let h = control_other c control in
    record {
      parts = ps;
      rest = c ∷ rest;
      read = read;
      none = no_part_before c rest h.2 (differs c 92 h.0);
      kind_is = rw (h.0, h.1) refl;
      place_is = place ∙ rw h.1 refl;
      utf8 = λ e. absurd cc;
    }

stopped_at_end : (bs : List ℕ) (k : ℕ) (ps : List Part) → StringParts ps bs [] → k ≡ 0 → Stopped bs UnterminatedString k
stopped_at_end bs k ps read place = record { parts = ps; rest = []; read = read; none = no_part_at_end; kind_is = refl; place_is = place; utf8 = λ e. absurd cc }

stopped_at_backslash : (bs : List ℕ) (k : ℕ) (ps : List Part) (rest : List ℕ) → StringParts ps bs (92 ∷ rest) → NoPart (92 ∷ rest) → k ≡ parts_length ps → Stopped bs BadEscape k
stopped_at_backslash bs k ps rest read none place = record { parts = ps; rest = 92 ∷ rest; read = read; none = none; kind_is = refl; place_is = place; utf8 = λ e. absurd cc }

stopped_at_quote : (bs : List ℕ) (k : ℕ) (ps : List Part) (rest : List ℕ) → StringParts ps bs (34 ∷ rest) → (IsUtf8 (flat_map part_value ps) → ⊥) → k ≡ 0 → Stopped bs NotUtf8 k
stopped_at_quote bs k ps rest read wrong place = record { parts = ps; rest = 34 ∷ rest; read = read; none = no_part_at_quote rest; kind_is = refl; place_is = place; utf8 = λ e. wrong }

other_byte : (b c : ℕ) → b ≡ 34 → b ≡ c → (34 == c) ≡ false → ⊥
other_byte b c e f h = differs 34 c h (sym e ∙ f)

string_fault : (n b k : ℕ) (bs : List ℕ) (kind : LexKind) → b ≡ 34 → IsFaultAt n (b ∷ bs) kind k → Stopped bs kind k
string_fault n b k bs UnexpectedCharacter q f = absurd (not_quote b f.1 q)
string_fault n b k bs EmptyId q f = absurd (other_byte b 36 q f.1 refl)
string_fault n b k bs TooDeep q f = absurd (other_byte b 40 q f.1 refl)
string_fault n b k bs UnterminatedComment q f = absurd (other_byte b 40 q f.1 refl)
string_fault n b k bs UnterminatedString q f = stopped_at_end bs k f.2 f.3 f.0
string_fault n b k bs BadEscape q f = stopped_at_backslash bs k f.1 f.2 f.3 f.4 f.5
string_fault n b k bs BadCharacter q f = stopped_at_control bs k f.1 f.2 f.3 f.4 f.5 f.6
string_fault n b k bs NotUtf8 q f = stopped_at_quote bs k f.2 f.3 f.4 f.5 f.0

-- ---- where a fault is told no piece can stand

-- a piece whose first byte is a quote is a string
record QuotedAt (p : Piece) (bs rest : List ℕ) : Type 0 where
  parts : List Part
  read : StringParts parts bs (34 ∷ rest)
  utf8 : IsUtf8 (flat_map part_value parts)

quote_no_blank : is_blank 34 ≡ true → ⊥
quote_no_blank e = cc

name_no_quote : (b : ℕ) → is_name_character b ≡ true → b ≢ 34
name_no_quote b h e = absurd (grind (arith, nat_tests))

first_is : (b c : ℕ) (bs cs : List ℕ) → b ∷ bs ≡ c ∷ cs → b ≡ c
first_is b c bs cs e = cc

rest_is : (b c : ℕ) (bs cs : List ℕ) → b ∷ bs ≡ c ∷ cs → bs ≡ cs
rest_is b c bs cs e = cc

quote_only : (b : ℕ) (p : Piece) (bs rest : List ℕ) → 34 ≡ b → (34 == b) ≡ false → QuotedAt p bs rest
quote_only b p bs rest e h = absurd (differs 34 b h e)

quoted_at : (n : ℕ) (p : Piece) (bs rest : List ℕ) → Stands n p (34 ∷ bs) rest → QuotedAt p bs rest
quoted_at n (blank b) bs rest h = absurd (quote_no_blank (ap is_blank (first_is 34 b bs rest h.spelled) ∙ h.piece))
quoted_at n (line t) bs rest h = quote_only 59 (line t) bs rest (first_is 34 59 bs _ h.spelled) refl
quoted_at n (block t) bs rest h = quote_only 40 (block t) bs rest (first_is 34 40 bs _ h.spelled) refl
quoted_at n opening bs rest h = quote_only 40 opening bs rest (first_is 34 40 bs rest h.spelled) refl
quoted_at n closing bs rest h = quote_only 41 closing bs rest (first_is 34 41 bs rest h.spelled) refl
quoted_at n (run []) bs rest h = absurd (h.piece.0 refl)
quoted_at n (run (b ∷ r)) bs rest h =
    absurd (name_no_quote b (and_parts (is_name_character b) (list_all is_name_character r) h.piece.1).0 (sym (first_is 34 b bs (r ++ rest) h.spelled)))
quoted_at n (quoted ps) bs rest h =
    record { parts = ps; read = (h.piece.0, ap (drop 1) h.spelled ∙ append_assoc (flat_map part_spelling ps) (34 ∷ []) rest); utf8 = h.piece.1 }

kind_at_quote : (kind : LexKind) (more rest : List ℕ) → kind ≡ end_kind more → more ≡ 34 ∷ rest → kind ≡ NotUtf8
kind_at_quote kind more rest e f = e ∙ ap end_kind f

no_string : (n k : ℕ) (kind : LexKind) (p : Piece) (bs rest : List ℕ) → Stopped bs kind k → Stands n p (34 ∷ bs) rest → ⊥
no_string n k kind p bs rest s h =
    let q = quoted_at n p bs rest h in
    let same = parts_stop s.parts q.parts bs s.rest (34 ∷ rest) s.read q.read s.none (no_part_at_quote rest) in
    s.utf8 (kind_at_quote kind s.rest rest s.kind_is same.1) (subst (λ (ps : List Part). IsUtf8 (flat_map part_value ps)) (sym same.0) q.utf8)

-- of the plain bytes

unexpected_blank : (b : ℕ) → IsTrue (not (is_blank b || is_name_character b || b == 40 || b == 41 || b == 34)) → is_blank b ≡ true → ⊥
unexpected_blank b h e = absurd (grind (arith, nat_tests))

unexpected_name : (b : ℕ) → IsTrue (not (is_blank b || is_name_character b || b == 40 || b == 41 || b == 34)) → is_name_character b ≡ true → ⊥
unexpected_name b h e = absurd (grind (arith, nat_tests))

unexpected_paren : (b : ℕ) → IsTrue (not (is_blank b || is_name_character b || b == 40 || b == 41 || b == 34)) → (b ≢ 40) × (b ≢ 41)
unexpected_paren b h = (λ e. absurd (grind (arith, nat_tests)), λ e. absurd (grind (arith, nat_tests)))

no_unexpected : (n b : ℕ) (p : Piece) (bs rest : List ℕ) → IsTrue (not (is_blank b || is_name_character b || b == 40 || b == 41 || b == 34))
    → (b ≡ 59 → begins (λ c. c == 59) bs ≡ false) → Stands n p (b ∷ bs) rest → ⊥
no_unexpected n b (blank c) bs rest none second h = unexpected_blank b none (ap is_blank (first_is b c bs rest h.spelled) ∙ h.piece)
no_unexpected n b (line t) bs rest none second h =
    let f = second (first_is b 59 bs (59 ∷ (t ++ rest)) h.spelled) in
    let g : true ≡ false = sym (ap (begins (λ c. c == 59)) (rest_is b 59 bs (59 ∷ (t ++ rest)) h.spelled)) ∙ f in
    cc
no_unexpected n b (block t) bs rest none second h = (unexpected_paren b none).0 (first_is b 40 bs _ h.spelled)
no_unexpected n b opening bs rest none second h = (unexpected_paren b none).0 (first_is b 40 bs rest h.spelled)
no_unexpected n b closing bs rest none second h = (unexpected_paren b none).1 (first_is b 41 bs rest h.spelled)
no_unexpected n b (run []) bs rest none second h = h.piece.0 refl
no_unexpected n b (run (c ∷ r)) bs rest none second h =
    unexpected_name b none (ap is_name_character (first_is b c bs (r ++ rest) h.spelled) ∙ (and_parts (is_name_character c) (list_all is_name_character r) h.piece.1).0)
no_unexpected n b (quoted ps) bs rest none second h = not_quote b none (first_is b 34 bs _ h.spelled)

-- of a lone $

no_empty_id : (n : ℕ) (p : Piece) (bs rest : List ℕ) → begins is_name_character bs ≡ false → Stands n p (36 ∷ bs) rest → ⊥
no_empty_id n (blank c) bs rest none h = let q : is_blank 36 ≡ true = ap is_blank (first_is 36 c bs rest h.spelled) ∙ h.piece in cc
no_empty_id n (line t) bs rest none h = differs 36 59 refl (first_is 36 59 bs _ h.spelled)
no_empty_id n (block t) bs rest none h = differs 36 40 refl (first_is 36 40 bs _ h.spelled)
no_empty_id n opening bs rest none h = differs 36 40 refl (first_is 36 40 bs rest h.spelled)
no_empty_id n closing bs rest none h = differs 36 41 refl (first_is 36 41 bs rest h.spelled)
no_empty_id n (run []) bs rest none h = h.piece.0 refl
no_empty_id n (run (c ∷ [])) bs rest none h = h.piece.2 (ap (λ (x : ℕ). x ∷ []) (sym (first_is 36 c bs rest h.spelled)))
no_empty_id n (run (c ∷ d ∷ r)) bs rest none h =
    let all = (and_parts (is_name_character c) (list_all is_name_character (d ∷ r)) h.piece.1).1 in
    let g : true ≡ false = sym (and_parts (is_name_character d) (list_all is_name_character r) all).0 ∙ ap (begins is_name_character) (sym (rest_is 36 c bs (d ∷ (r ++ rest)) h.spelled)) ∙ none in
    cc
no_empty_id n (quoted ps) bs rest none h = differs 36 34 refl (first_is 36 34 bs _ h.spelled)

-- of a ( that is one too many

paren_no_name : is_name_character 40 ≡ true → ⊥
paren_no_name e = cc

no_deeper : (n : ℕ) (p : Piece) (bs rest : List ℕ) → begins (λ c. c == 59) bs ≡ false → 100 ≤ n → Stands n p (40 ∷ bs) rest → ⊥
no_deeper n (blank c) bs rest none deep h = let q : is_blank 40 ≡ true = ap is_blank (first_is 40 c bs rest h.spelled) ∙ h.piece in cc
no_deeper n (line t) bs rest none deep h = differs 40 59 refl (first_is 40 59 bs _ h.spelled)
no_deeper n (block t) bs rest none deep h =
    let g : true ≡ false = sym (ap (begins (λ c. c == 59)) (rest_is 40 40 bs (59 ∷ ((t ++ 59 ∷ 41 ∷ []) ++ rest)) h.spelled)) ∙ none in
    cc
no_deeper n opening bs rest none deep h = absurd (let d = h.depth in omega arith)
no_deeper n closing bs rest none deep h = differs 40 41 refl (first_is 40 41 bs rest h.spelled)
no_deeper n (run []) bs rest none deep h = h.piece.0 refl
no_deeper n (run (c ∷ r)) bs rest none deep h = paren_no_name (ap is_name_character (first_is 40 c bs (r ++ rest) h.spelled) ∙ (and_parts (is_name_character c) (list_all is_name_character r) h.piece.1).0)
no_deeper n (quoted ps) bs rest none deep h = differs 40 34 refl (first_is 40 34 bs _ h.spelled)

-- of a comment without its end

no_comment : (n : ℕ) (p : Piece) (bs rest : List ℕ) → IsTrue (begins (λ c. c == 59) bs) → HasNoEnd (drop 1 bs) → Stands n p (40 ∷ bs) rest → ⊥
no_comment n (blank c) bs rest second none h = let q : is_blank 40 ≡ true = ap is_blank (first_is 40 c bs rest h.spelled) ∙ h.piece in cc
no_comment n (line t) bs rest second none h = differs 40 59 refl (first_is 40 59 bs _ h.spelled)
no_comment n (block t) bs rest second none h =
    let tail : drop 1 bs ≡ (t ++ 59 ∷ 41 ∷ []) ++ rest = ap (drop 1) (rest_is 40 40 bs (59 ∷ ((t ++ 59 ∷ 41 ∷ []) ++ rest)) h.spelled) in
    none t rest h.piece (tail ∙ append_assoc t (59 ∷ 41 ∷ []) rest)
no_comment n opening bs rest second none h =
    let g : true ≡ false = sym second ∙ ap (begins (λ c. c == 59)) (rest_is 40 40 bs rest h.spelled) ∙ h.ended in
    cc
no_comment n closing bs rest second none h = differs 40 41 refl (first_is 40 41 bs rest h.spelled)
no_comment n (run []) bs rest second none h = h.piece.0 refl
no_comment n (run (c ∷ r)) bs rest second none h = paren_no_name (ap is_name_character (first_is 40 c bs (r ++ rest) h.spelled) ∙ (and_parts (is_name_character c) (list_all is_name_character r) h.piece.1).0)
no_comment n (quoted ps) bs rest second none h = differs 40 34 refl (first_is 40 34 bs _ h.spelled)

-- the piece stands at a text that begins with this byte
at_byte : (n b c : ℕ) (p : Piece) (bs rest : List ℕ) → b ≡ c → Stands n p (b ∷ bs) rest → Stands n p (c ∷ bs) rest
at_byte n b c p bs rest e h = subst (λ (x : ℕ). Stands n p (x ∷ bs) rest) e h

pub no_piece : (n : ℕ) (text : List ℕ) (kind : LexKind) (k : ℕ) (p : Piece) (rest : List ℕ) → IsFaultAt n text kind k → Stands n p text rest → ⊥
no_piece n [] kind k p rest f h = f
no_piece n (b ∷ bs) UnexpectedCharacter k p rest f h = no_unexpected n b p bs rest f.1 f.2 h
no_piece n (b ∷ bs) EmptyId k p rest f h = no_empty_id n p bs rest f.2 (at_byte n b 36 p bs rest f.1 h)
no_piece n (b ∷ bs) TooDeep k p rest f h = no_deeper n p bs rest f.2 f.3 (at_byte n b 40 p bs rest f.1 h)
no_piece n (b ∷ bs) UnterminatedComment k p rest f h = no_comment n p bs rest f.2 f.3 (at_byte n b 40 p bs rest f.1 h)
no_piece n (b ∷ bs) UnterminatedString k p rest f h = no_string n k UnterminatedString p bs rest (string_fault n b k bs UnterminatedString f.1 f) (at_byte n b 34 p bs rest f.1 h)
no_piece n (b ∷ bs) BadEscape k p rest f h = no_string n k BadEscape p bs rest (string_fault n b k bs BadEscape f.0 f) (at_byte n b 34 p bs rest f.0 h)
no_piece n (b ∷ bs) BadCharacter k p rest f h = no_string n k BadCharacter p bs rest (string_fault n b k bs BadCharacter f.0 f) (at_byte n b 34 p bs rest f.0 h)
no_piece n (b ∷ bs) NotUtf8 k p rest f h = no_string n k NotUtf8 p bs rest (string_fault n b k bs NotUtf8 f.1 f) (at_byte n b 34 p bs rest f.1 h)

-- ---- one fault at a place

abbrev plain_kind : ℕ → List ℕ → LexKind
plain_kind b bs = if b == 36 then EmptyId else if b == 40 then (if begins (λ c. c == 59) bs then UnterminatedComment else TooDeep) else UnexpectedCharacter

unexpected_tests : (b : ℕ) → IsTrue (not (is_blank b || is_name_character b || b == 40 || b == 41 || b == 34)) → ((b == 36) ≡ false) × ((b == 40) ≡ false)
unexpected_tests b h = (grind (arith, nat_tests), grind (arith, nat_tests))

plain_fault : (n b k : ℕ) (bs : List ℕ) (kind : LexKind) → (b == 34) ≡ false → IsFaultAt n (b ∷ bs) kind k → (kind ≡ plain_kind b bs) × (k ≡ 0)
plain_fault n b k bs UnexpectedCharacter q f = let h = unexpected_tests b f.1 in (rw (h.0, h.1) refl, f.0)
plain_fault n b k bs EmptyId q f = (rw f.1 refl, f.0)
plain_fault n b k bs TooDeep q f = (rw (f.1, f.2) refl, f.0)
plain_fault n b k bs UnterminatedComment q f = let second : begins (λ c. c == 59) bs ≡ true = f.2 in (rw (f.1, second) refl, f.0)
plain_fault n b k bs UnterminatedString q f = absurd (differs b 34 q f.1)
plain_fault n b k bs BadEscape q f = absurd (differs b 34 q f.0)
plain_fault n b k bs BadCharacter q f = absurd (differs b 34 q f.0)
plain_fault n b k bs NotUtf8 q f = absurd (differs b 34 q f.1)

one_stop : (bs : List ℕ) (kind other : LexKind) (k j : ℕ) → Stopped bs kind k → Stopped bs other j → (kind ≡ other) × (k ≡ j)
one_stop bs kind other k j s t =
    let same = parts_stop s.parts t.parts bs s.rest t.rest s.read t.read s.none t.none in (
      s.kind_is ∙ ap end_kind same.1 ∙ sym t.kind_is,
      s.place_is ∙ ap (λ (r : List ℕ). end_place r s.parts) same.1 ∙ ap (end_place t.rest) same.0 ∙ sym t.place_is,
    )

one_fault_case : (t : Bool) (n b k j : ℕ) (bs : List ℕ) (kind other : LexKind) → (b == 34) ≡ t → IsFaultAt n (b ∷ bs) kind k → IsFaultAt n (b ∷ bs) other j → (kind ≡ other) × (k ≡ j)
one_fault_case true n b k j bs kind other e f g = one_stop bs kind other k j (string_fault n b k bs kind (eqb-true b 34 e) f) (string_fault n b j bs other (eqb-true b 34 e) g)
one_fault_case false n b k j bs kind other e f g =
    let p = plain_fault n b k bs kind e f in
    let q = plain_fault n b j bs other e g in
    (p.0 ∙ sym q.0, p.1 ∙ sym q.1)

pub one_fault : (n : ℕ) (text : List ℕ) (kind other : LexKind) (k j : ℕ) → IsFaultAt n text kind k → IsFaultAt n text other j → (kind ≡ other) × (k ≡ j)
one_fault n [] kind other k j f g = absurd f
one_fault n (b ∷ bs) kind other k j f g = one_fault_case (b == 34) n b k j bs kind other refl f g

-- ---- of a whole text

-- two lists of pieces that stand at one text go on alike
same_next : (n : ℕ) (p q : Piece) (text a b : List ℕ) → Stands n p text a → Stands n q text b → (p ≡ q) × (a ≡ b)
same_next n p q text a b h g =
    let same : p ≡ q = piece_unique n n p q text a b h g in
    (same, append_cancel_left (spelling q) a b (ap (λ (x : Piece). spelling x ++ a) (sym same) ∙ sym h.spelled ∙ g.spelled))

moved : (n : ℕ) (p q : Piece) (ps : List Piece) (a b end : List ℕ) → p ≡ q → a ≡ b → Stand (open_after n p) ps a end → Stand (open_after n q) ps b end
moved n p q ps a b end same next h =
    subst (λ (t : List ℕ). Stand (open_after n q) ps t end) next (subst (λ (x : Piece). Stand (open_after n x) ps a end) same h)

pub no_pieces : (ps qs : List Piece) (n : ℕ) (text rest : List ℕ) (kind : LexKind) (k : ℕ) → Stand n ps text [] → Stand n qs text rest
    → IsFaultAt (open_after_all n qs) rest kind k → ⊥
no_pieces [] [] n text rest kind k a b f = subst (λ (t : List ℕ). IsFaultAt n t kind k) (sym b ∙ a) f
no_pieces (p ∷ ps) [] n text rest kind k a b f = no_piece n rest kind k p a.0 f (subst (λ (t : List ℕ). Stands n p t a.0) b a.1)
no_pieces [] (q ∷ qs) n text rest kind k a b f = some_spelling q b.0 b.1.piece (sym a ∙ b.1.spelled)
no_pieces (p ∷ ps) (q ∷ qs) n text rest kind k a b f =
    let same = same_next n p q text a.0 b.0 a.1 b.1 in
    no_pieces ps qs (open_after n q) b.0 rest kind k (moved n p q ps a.0 b.0 [] same.0 same.1 a.2) b.2 f

pub one_place : (ps qs : List Piece) (n : ℕ) (text rest more : List ℕ) (kind other : LexKind) (k j : ℕ) → Stand n ps text rest → Stand n qs text more
    → IsFaultAt (open_after_all n ps) rest kind k → IsFaultAt (open_after_all n qs) more other j
    → (kind ≡ other) × (length (flat_map spelling ps) + k ≡ length (flat_map spelling qs) + j)
one_place [] [] n text rest more kind other k j a b f g =
    let h = one_fault n more kind other k j (subst (λ (t : List ℕ). IsFaultAt n t kind k) (sym a ∙ b) f) g in
    (h.0, ap (λ (x : ℕ). 0 + x) h.1)
one_place (p ∷ ps) [] n text rest more kind other k j a b f g = absurd (no_piece n more other j p a.0 g (subst (λ (t : List ℕ). Stands n p t a.0) b a.1))
one_place [] (q ∷ qs) n text rest more kind other k j a b f g = absurd (no_piece n rest kind k q b.0 f (subst (λ (t : List ℕ). Stands n q t b.0) a b.1))
one_place (p ∷ ps) (q ∷ qs) n text rest more kind other k j a b f g =
    let same = same_next n p q text a.0 b.0 a.1 b.1 in
    let h = one_place ps qs (open_after n q) b.0 rest more kind other k j (moved n p q ps a.0 b.0 rest same.0 same.1 a.2) b.2
    (subst (λ (x : Piece). IsFaultAt (open_after_all (open_after n x) ps) rest kind k) same.0 f) g in
    (h.0, omega (arith, h.1, length-append (spelling p) (flat_map spelling ps), length-append (spelling q) (flat_map spelling qs), ap (λ (x : Piece). length (spelling x)) same.0))
