-- A text has at most one list of pieces: `pieces_unique`, since at most one piece stands at its front.
use Rattle.std.proofs.Common.{◌≡◌, ℕ, Bool, true, false, cond, ◌==◌, List, [], ◌∷◌, ◌++◌, length, take, drop, Option, Some, None, refl, sym, ap, ◌∙◌, subst, inl, inr, arith, append_assoc, take_at}
use Rattle.std.proofs.lemmas.Bool.{and_parts}
use Rattle.std.proofs.lemmas.Bool.Decides.{nat_tests}
use Rattle.std.proofs.lemmas.List.{append_cancel_left, take_at}
use Rattle.std.specs.List.{prefix_len, list_all, flat_map}
use Rattle.std.specs.Prelude.{IsTrue, ◌⊎◌, slice_index}
use Rattle.std.specs.Option.{option_map}
use Rattle.witx_lex.specs.BlockScan.{block_len}
use Rattle.witx_lex.specs.Characters.{is_blank, is_name_character, is_line_byte, begins}
use Rattle.witx_lex.specs.Pieces.{Part, Piece, blank, line, block, opening, closing, run, quoted, spelling, part_spelling, IsPiece, IsEnded, open_after, Stands, Stand}
use Rattle.witx_lex.proofs.Texts.{take_run}
use Rattle.witx_lex.proofs.Parts.{parts_stop, no_part_at_quote}
use Rattle.witx_lex.proofs.Blocks.{text_scanned}

-- ---- pieces

abbrev piece_at : List ℕ → Option Piece
piece_at text =
    cond (is_blank (slice_index text 0)) (Some (blank (slice_index text 0)))
    (cond (slice_index text 0 == 59) (Some (line (take (prefix_len is_line_byte (drop 2 text)) (drop 2 text))))
    (cond (slice_index text 0 == 40) (cond (slice_index text 1 == 59) (option_map (λ k. block (take k (drop 2 text))) (block_len 0 (drop 2 text))) (Some opening))
    (cond (slice_index text 0 == 41) (Some closing)
    (cond (slice_index text 0 == 34) None
    (Some (run (take (prefix_len is_name_character text) text)))))))

abbrev IsQuoted : Piece → Type 0
IsQuoted p = (ps : List Part) × (p ≡ quoted ps)

line_stops : (t rest : List ℕ) → (rest ≡ []) ⊎ IsTrue (begins (λ b. b == 10) rest) → begins is_line_byte rest ≡ false
line_stops t [] h = refl
line_stops t (b ∷ rest) (inl e) = absurd cc
line_stops t (b ∷ rest) (inr h) = rw h refl

second_of : (rest : List ℕ) → begins (λ b. b == 59) rest ≡ false → (slice_index rest 0 == 59) ≡ false
second_of [] h = refl
second_of (b ∷ rest) h = h

name_only : (b : ℕ) → is_name_character b ≡ true → (is_blank b ≡ false) × ((b == 59) ≡ false) × ((b == 40) ≡ false) × ((b == 41) ≡ false) × ((b == 34) ≡ false)
name_only b h = (grind (arith, nat_tests), grind (arith, nat_tests), grind (arith, nat_tests), grind (arith, nat_tests), grind (arith, nat_tests))

blank_line : (t rest : List ℕ) → IsTrue (list_all is_line_byte t) → begins is_line_byte rest ≡ false → piece_at (59 ∷ 59 ∷ (t ++ rest)) ≡ Some (line t)
blank_line t rest all stop = ap (λ (u : List ℕ). Some (line u)) (take_run is_line_byte t rest all stop)

none_of : (a b c d e : Bool) (v w x y z u : Option Piece) → a ≡ false → b ≡ false → c ≡ false → d ≡ false → e ≡ false → cond a v (cond b w (cond c x (cond d y (cond e z u)))) ≡ u
none_of a b c d e v w x y z u ea eb ec ed ee = rw (ea, eb, ec, ed, ee) refl

run_at : (b : ℕ) (r rest : List ℕ) → IsTrue (list_all is_name_character (b ∷ r)) → begins is_name_character rest ≡ false → piece_at ((b ∷ r) ++ rest) ≡ Some (run (b ∷ r))
run_at b r rest all stop =
    let h = name_only b (and_parts (is_name_character b) (list_all is_name_character r) all).0 in
    let whole : take (prefix_len is_name_character ((b ∷ r) ++ rest)) ((b ∷ r) ++ rest) ≡ b ∷ r = take_run is_name_character (b ∷ r) rest all stop in
    none_of _ _ _ _ _ _ _ _ _ _ _ h.0 h.1 h.2 h.3 h.4 ∙ ap (λ (u : List ℕ). Some (run u)) whole

pub piece_complete : (p : Piece) (rest : List ℕ) → IsPiece p → IsEnded p rest → (piece_at (spelling p ++ rest) ≡ Some p) ⊎ (IsQuoted p × (piece_at (spelling p ++ rest) ≡ None))
piece_complete (blank b) rest h e = inl (rw h refl)
piece_complete (line t) rest h e = inl (blank_line t rest h (line_stops t rest e))
piece_complete (block t) rest h e =
    let k = length t in
    let u = t ++ 59 ∷ 41 ∷ [] in
    let whole : u ++ rest ≡ t ++ 59 ∷ 41 ∷ rest = append_assoc t (59 ∷ 41 ∷ []) rest in
    let found : block_len 0 (u ++ rest) ≡ Some k = ap (block_len 0) whole ∙ text_scanned t rest h in
    inl (ap (option_map (λ k. block (take k (u ++ rest)))) found ∙ ap (λ (x : List ℕ). Some (block (take k x))) whole ∙ ap (λ (x : List ℕ). Some (block x)) (take_at t (59 ∷ 41 ∷ rest) k refl))
piece_complete opening rest h e = inl (ap (λ (b : Bool). cond b (option_map (λ k. block (take k (drop 1 rest))) (block_len 0 (drop 1 rest))) (Some opening)) (second_of rest e))
piece_complete closing rest h e = inl refl
piece_complete (run []) rest h e = absurd (h.0 refl)
piece_complete (run (b ∷ r)) rest h e = inl (run_at b r rest h.1 e)
piece_complete (quoted ps) rest h e = inr ((ps, refl), refl)

some_piece : (p q : Piece) → Some p ≡ Some q → p ≡ q
some_piece p q e = cc

no_piece : (p : Piece) → None ≡ Some p → ⊥
no_piece p e = cc

quoted_unique : (ps qs : List Part) (text rest more : List ℕ) → IsPiece (quoted ps) → IsPiece (quoted qs) → text ≡ spelling (quoted ps) ++ rest → text ≡ spelling (quoted qs) ++ more → quoted ps ≡ quoted qs
quoted_unique ps qs text rest more hp hq e f =
    let one : drop 1 text ≡ flat_map part_spelling ps ++ 34 ∷ rest = ap (drop 1) e ∙ append_assoc (flat_map part_spelling ps) (34 ∷ []) rest in
    let two : drop 1 text ≡ flat_map part_spelling qs ++ 34 ∷ more = ap (drop 1) f ∙ append_assoc (flat_map part_spelling qs) (34 ∷ []) more in
    ap (λ (xs : List Part). quoted xs) (parts_stop ps qs (drop 1 text) (34 ∷ rest) (34 ∷ more) (hp.0, one) (hq.0, two) (no_part_at_quote rest) (no_part_at_quote more)).0

pub piece_unique : (n m : ℕ) (p q : Piece) (text rest more : List ℕ) → Stands n p text rest → Stands m q text more → p ≡ q
piece_unique n m p q text rest more a b =
    elim (piece_complete p rest a.piece a.ended) [
      | inl x ↦ elim (piece_complete q more b.piece b.ended) [
        | inl y ↦ some_piece p q (sym x ∙ ap piece_at (sym a.spelled ∙ b.spelled) ∙ y)
        | inr y ↦ absurd (no_piece p (sym y.1 ∙ ap piece_at (sym b.spelled ∙ a.spelled) ∙ x))
      ]
      | inr x ↦ elim (piece_complete q more b.piece b.ended) [
        | inl y ↦ absurd (no_piece q (sym x.1 ∙ ap piece_at (sym a.spelled ∙ b.spelled) ∙ y))
        | inr y ↦ x.0.1 ∙ quoted_unique x.0.0 y.0.0 text rest more (subst IsPiece x.0.1 a.piece) (subst IsPiece y.0.1 b.piece) (a.spelled ∙ ap (λ (z : Piece). spelling z ++ rest) x.0.1) (b.spelled ∙ ap (λ (z : Piece). spelling z ++ more) y.0.1) ∙ sym y.0.1
      ]
    ]

pub some_spelling : (p : Piece) (rest : List ℕ) → IsPiece p → [] ≡ spelling p ++ rest → ⊥
some_spelling (blank b) rest h e = cc
some_spelling (line t) rest h e = cc
some_spelling (block t) rest h e = cc
some_spelling opening rest h e = cc
some_spelling closing rest h e = cc
some_spelling (run []) rest h e = h.0 refl
some_spelling (run (b ∷ r)) rest h e = cc
some_spelling (quoted ps) rest h e = cc

-- a text has at most one list of pieces
pub pieces_unique : (ps qs : List Piece) (n : ℕ) (text : List ℕ) → Stand n ps text [] → Stand n qs text [] → ps ≡ qs
pieces_unique [] [] n text a b = refl
pieces_unique [] (q ∷ qs) n text a b = absurd (some_spelling q b.0 b.1.piece (sym a ∙ b.1.spelled))
pieces_unique (p ∷ ps) [] n text a b = absurd (some_spelling p a.0 a.1.piece (sym b ∙ a.1.spelled))
pieces_unique (p ∷ ps) (q ∷ qs) n text a b =
    let same : p ≡ q = piece_unique n n p q text a.0 b.0 a.1 b.1 in
    let next : a.0 ≡ b.0 = append_cancel_left (spelling q) a.0 b.0 (ap (λ (x : Piece). spelling x ++ a.0) (sym same) ∙ sym a.1.spelled ∙ b.1.spelled) in
    let more : Stand (open_after n q) ps b.0 [] = subst (λ (t : List ℕ). Stand (open_after n q) ps t []) next (subst (λ (x : Piece). Stand (open_after n x) ps a.0 []) same a.2) in
    ap (λ (x : Piece). x ∷ ps) same ∙ ap (λ (xs : List Piece). q ∷ xs) (pieces_unique ps qs (open_after n q) b.0 more b.2)
