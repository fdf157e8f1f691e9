-- `Sofar`: the pieces of a text up to an offset, which each piece that is read carries on up to the tokens or the fault.
use Rattle.std.proofs.Common.{◌≡◌, ◌≢◌, ℕ, suc, ◌+◌, ◌<◌, ◌≤◌, true, ◌==◌, List, [], ◌∷◌, ◌++◌, length, get_or, drop, IsUtf8, refl, sym, ap, ◌∙◌, subst, inl, inr, arith, append_assoc, eqb-true}
use Rattle.std.proofs.lemmas.Bool.{and_parts}
use Rattle.std.proofs.lemmas.Bool.Decides.{nat_tests}
use Rattle.std.proofs.lemmas.List.{append-nil, length-append, length-drop, get_or-drop, drop-drop, drop_all, get_or_at, get_or_append_left}
use Rattle.std.proofs.lemmas.Str.{IsUtf8-drop, IsCharBoundary-start, IsCharBoundary-end, IsCharBoundary-before_ascii, IsCharBoundary-after_ascii, IsCharBoundary-from_rest}
use Rattle.std.specs.List.{list_all, flat_map}
use Rattle.std.specs.Prelude.{IsTrue, ◌⊎◌}
use Rattle.std.specs.Str.{IsCharBoundary}
use Rattle.witx_lex.specs.Tokens.{Token, left, right, quoted as quoted_token, Lexed}
use Rattle.witx_lex.specs.Characters.{begins, is_blank, is_name_character}
use Rattle.witx_lex.specs.Pieces.{Piece, blank, line, block, opening, closing, run, quoted, spelling, part_spelling, open_after, open_after_all, Stands, Stand, ArePieces}
use Rattle.witx_lex.specs.Meaning.{nothing, comment, token, piece_seen, tokens_from, tokens_of}
use Rattle.witx_lex.proofs.Found.{stands_blank}

pub record Sofar (text : List ℕ) (at depth : ℕ) (comments : List (List ℕ)) (tokens : List Lexed) : Type 0 where
  pub boundary : IsCharBoundary text at
  pub fits : depth ≤ 100
  pub pieces : List Piece
  pub stand : Stand 0 pieces text (drop at text)
  pub at_is : at ≡ length (flat_map spelling pieces)
  pub depth_is : depth ≡ open_after_all 0 pieces
  pub meaning : (qs : List Piece) → tokens ++ tokens_from at comments qs ≡ tokens_of (pieces ++ qs)

-- ---- one piece more

Stand_more : (n : ℕ) (ps : List Piece) (p : Piece) (text rest next : List ℕ) → Stand n ps text rest → Stands (open_after_all n ps) p rest next → Stand n (ps ++ p ∷ []) text next
Stand_more n [] p text rest next e h = (next, subst (λ (t : List ℕ). Stands n p t next) (sym e) h, refl)
Stand_more n (q ∷ ps) p text rest next s h = (s.0, s.1, Stand_more (open_after n q) ps p s.0 rest next s.2 h)

open_after_more : (n : ℕ) (ps : List Piece) (p : Piece) → open_after_all n (ps ++ p ∷ []) ≡ open_after (open_after_all n ps) p
open_after_more n [] p = refl
open_after_more n (q ∷ ps) p = open_after_more (open_after n q) ps p

spelling_more : (ps : List Piece) (p : Piece) → flat_map spelling (ps ++ p ∷ []) ≡ flat_map spelling ps ++ spelling p
spelling_more [] p = append-nil (spelling p)
spelling_more (q ∷ ps) p = ap (λ (t : List ℕ). spelling q ++ t) (spelling_more ps p) ∙ sym (append_assoc (spelling q) (flat_map spelling ps) (spelling p))

-- ---- where a piece ends

last_name : (r : List ℕ) → IsTrue (list_all is_name_character r) → (r ≢ []) → (k : ℕ) × (length r ≡ k + 1) × (get_or r k 0 < 128)
last_name [] all some = absurd (some refl)
last_name (b ∷ []) all some = (0, refl, (let h = (and_parts (is_name_character b) true all).0 in grind (arith, nat_tests)))
last_name (b ∷ c ∷ r) all some =
    let more = last_name (c ∷ r) (and_parts (is_name_character b) (list_all is_name_character (c ∷ r)) all).1 (λ e. absurd cc) in
    (suc more.0, omega (arith, more.1), more.2)

after_last : (text front rest : List ℕ) (b : ℕ) → IsUtf8 text → text ≡ (front ++ b ∷ []) ++ rest → b < 128 → IsCharBoundary text (length (front ++ b ∷ []))
after_last text front rest b utf8 e lt =
    let e2 : text ≡ front ++ b ∷ rest = e ∙ append_assoc front (b ∷ []) rest in
    let len : length (front ++ b ∷ []) ≡ length front + 1 = length-append front (b ∷ []) in
    let there : get_or text (length front) 0 ≡ b = ap (λ (t : List ℕ). get_or t (length front) 0) e2 ∙ get_or_at front b rest 0 (length front) refl in
    let long : length text ≡ length front + (1 + length rest) = ap (λ (t : List ℕ). length t) e2 ∙ length-append front (b ∷ rest) ∙ omega arith in
    subst (IsCharBoundary text) (sym len) (IsCharBoundary-after_ascii text (length front) utf8 (omega arith) (omega arith))

line_boundary : (text front rest : List ℕ) → text ≡ front ++ rest → (rest ≡ []) ⊎ IsTrue (begins (λ b. b == 10) rest) → IsCharBoundary text (length front)
line_boundary text front [] e h =
    let whole : length text ≡ length front = ap (λ (t : List ℕ). length t) (e ∙ append-nil front) in
    subst (IsCharBoundary text) whole (IsCharBoundary-end text)
line_boundary text front (b ∷ rest) e (inl z) = absurd cc
line_boundary text front (b ∷ rest) e (inr h) =
    let there : get_or text (length front) 0 ≡ b = ap (λ (t : List ℕ). get_or t (length front) 0) e ∙ get_or_at front b rest 0 (length front) refl in
    let long : length text ≡ length front + (1 + length rest) = ap (λ (t : List ℕ). length t) e ∙ length-append front (b ∷ rest) ∙ omega arith in
    IsCharBoundary-before_ascii text (length front) (omega arith) (let q : b ≡ 10 = eqb-true b 10 h in omega arith)

pub piece_boundary : (n : ℕ) (p : Piece) (text rest : List ℕ) → IsUtf8 text → Stands n p text rest → IsCharBoundary text (length (spelling p))
piece_boundary n (blank b) text rest utf8 h = after_last text [] rest b utf8 h.spelled (let q = h.piece in grind (arith, nat_tests))
piece_boundary n (line t) text rest utf8 h = line_boundary text (59 ∷ 59 ∷ t) rest h.spelled h.ended
piece_boundary n (block t) text rest utf8 h =
    let one : spelling (block t) ≡ (40 ∷ 59 ∷ (t ++ 59 ∷ [])) ++ 41 ∷ [] = ap (λ (u : List ℕ). 40 ∷ 59 ∷ u) (sym (append_assoc t (59 ∷ []) (41 ∷ []))) in
    subst (λ (u : List ℕ). IsCharBoundary text (length u)) (sym one) (after_last text (40 ∷ 59 ∷ (t ++ 59 ∷ [])) rest 41 utf8 (h.spelled ∙ ap (λ (u : List ℕ). u ++ rest) one) (omega arith))
piece_boundary n opening text rest utf8 h = after_last text [] rest 40 utf8 h.spelled (omega arith)
piece_boundary n closing text rest utf8 h = after_last text [] rest 41 utf8 h.spelled (omega arith)
piece_boundary n (run r) text rest utf8 h =
    let last = last_name r h.piece.1 h.piece.0 in
    let k = last.0 in
    let there : get_or text k 0 ≡ get_or r k 0 = ap (λ (t : List ℕ). get_or t k 0) h.spelled ∙ get_or_append_left r rest 0 k (omega (arith, last.1)) in
    let long : length text ≡ length r + length rest = ap (λ (t : List ℕ). length t) h.spelled ∙ length-append r rest in
    subst (IsCharBoundary text) (sym last.1) (IsCharBoundary-after_ascii text k utf8 (omega (arith, last.1)) (omega (arith, last.2)))
piece_boundary n (quoted ps) text rest utf8 h = after_last text (34 ∷ flat_map part_spelling ps) rest 34 utf8 h.spelled (omega arith)

pub Sofar_more : (text : List ℕ) (at depth len new_at : ℕ) (comments new_comments : List (List ℕ)) (tokens new_tokens : List Lexed) (p : Piece) → IsUtf8 text
    → Sofar text at depth comments tokens → Stands depth p (drop at text) (drop len (drop at text)) → len ≡ length (spelling p) → new_at ≡ at + len
    → ((qs : List Piece) → new_tokens ++ tokens_from (at + length (spelling p)) new_comments qs ≡ tokens ++ tokens_from at comments (p ∷ qs))
    → Sofar text new_at (open_after depth p) new_comments new_tokens
Sofar_more text at depth len new_at comments new_comments tokens new_tokens p utf8 s h len-is new_at-is step =
    let rest : drop len (drop at text) ≡ drop new_at text = drop-drop len at text ∙ ap (λ (j : ℕ). drop j text) (sym new_at-is) in
    let stands : Stands depth p (drop at text) (drop new_at text) = subst (λ (t : List ℕ). Stands depth p (drop at text) t) rest h in
    let end : new_at ≡ at + length (spelling p) = new_at-is ∙ ap (λ (k : ℕ). at + k) len-is in
    record {
      boundary = subst (IsCharBoundary text) (sym end) (IsCharBoundary-from_rest text at (length (spelling p)) s.boundary.0 (piece_boundary depth p (drop at text) (drop new_at text) (IsUtf8-drop text at utf8 s.boundary) stands));
      fits = h.depth;
      pieces = s.pieces ++ p ∷ [];
      stand = Stand_more 0 s.pieces p text (drop at text) (drop new_at text) s.stand (subst (λ (d : ℕ). Stands d p (drop at text) (drop new_at text)) s.depth_is stands);
      at_is = end ∙ ap (λ (k : ℕ). k + length (spelling p)) s.at_is ∙ sym (ap (λ (t : List ℕ). length t) (spelling_more s.pieces p) ∙ length-append (flat_map spelling s.pieces) (spelling p));
      depth_is = ap (λ (d : ℕ). open_after d p) s.depth_is ∙ sym (open_after_more 0 s.pieces p);
      meaning = λ qs. ap (λ (k : ℕ). new_tokens ++ tokens_from k new_comments qs) end ∙ step qs ∙ s.meaning (p ∷ qs) ∙ ap tokens_of (sym (append_assoc s.pieces (p ∷ []) qs));
    }

pub Sofar_start : (text : List ℕ) → IsUtf8 text → Sofar text 0 0 [] []
Sofar_start text utf8 = record { boundary = IsCharBoundary-start text utf8; fits = omega arith; pieces = []; stand = refl; at_is = refl; depth_is = refl; meaning = λ qs. refl }

pub Sofar_done : (text : List ℕ) (at depth : ℕ) (comments : List (List ℕ)) (tokens : List Lexed) → length text ≤ at → Sofar text at depth comments tokens
    → (ps : List Piece) × ArePieces ps text × (tokens ≡ tokens_of ps)
Sofar_done text at depth comments tokens le s =
    (s.pieces, subst (λ (t : List ℕ). Stand 0 s.pieces text t) (drop_all at text le) s.stand, sym (append-nil tokens) ∙ s.meaning [] ∙ ap tokens_of (append-nil s.pieces))

-- ---- what was seen

-- only a parenthesis changes how many are open
open_same : (n : ℕ) (p : Piece) → piece_seen p ≢ token left → piece_seen p ≢ token right → open_after n p ≡ n
open_same n (blank b) f g = refl
open_same n (line t) f g = refl
open_same n (block t) f g = refl
open_same n opening f g = absurd (f refl)
open_same n closing f g = absurd (g refl)
open_same n (run r) f g = refl
open_same n (quoted ps) f g = refl

open_nothing : (n : ℕ) (p : Piece) → piece_seen p ≡ nothing → open_after n p ≡ n
open_nothing n p e = open_same n p (λ h. cc) (λ h. cc)

pub open_comment : (n : ℕ) (p : Piece) (t : List ℕ) → piece_seen p ≡ comment t → open_after n p ≡ n
open_comment n p t e = open_same n p (λ h. cc) (λ h. cc)

pub open_string : (n : ℕ) (p : Piece) (t : List ℕ) → piece_seen p ≡ token (quoted_token t) → open_after n p ≡ n
open_string n p t e = open_same n p (λ h. cc) (λ h. cc)

Sofar_nothing : (text : List ℕ) (at depth len new_at : ℕ) (comments : List (List ℕ)) (tokens : List Lexed) (p : Piece) → IsUtf8 text
    → Sofar text at depth comments tokens → Stands depth p (drop at text) (drop len (drop at text)) → len ≡ length (spelling p) → new_at ≡ at + len → piece_seen p ≡ nothing
    → Sofar text new_at depth comments tokens
Sofar_nothing text at depth len new_at comments tokens p utf8 s h len-is new_at-is e =
    subst (λ (d : ℕ). Sofar text new_at d comments tokens) (open_nothing depth p e)
    (Sofar_more text at depth len new_at comments comments tokens tokens p utf8 s h len-is new_at-is (λ qs. rw e refl))

pub Sofar_blank : (text : List ℕ) (at depth : ℕ) (comments : List (List ℕ)) (tokens : List Lexed) → IsUtf8 text → at < length text → IsTrue (is_blank (get_or text at 0))
    → Sofar text at depth comments tokens → Sofar text (at + 1) depth comments tokens
Sofar_blank text at depth comments tokens utf8 within h s =
    let first : get_or (drop at text) 0 0 ≡ get_or text at 0 = get_or-drop at text 0 0 ∙ ap (λ (k : ℕ). get_or text k 0) (omega arith) in
    let stands = stands_blank depth (drop at text) (omega (arith, length-drop at text)) (ap is_blank first ∙ h) s.fits in
    Sofar_nothing text at depth 1 (at + 1) comments tokens (blank (get_or (drop at text) 0 0)) utf8 s stands refl refl refl

pub Sofar_token : (text : List ℕ) (at depth len new_at : ℕ) (comments new_comments : List (List ℕ)) (tokens new_tokens : List Lexed) (p : Piece) (t : Token) → IsUtf8 text
    → Sofar text at depth comments tokens → Stands depth p (drop at text) (drop len (drop at text)) → len ≡ length (spelling p) → new_at ≡ at + len → piece_seen p ≡ token t
    → new_comments ≡ [] → new_tokens ≡ tokens ++ record { token = t; start = at; end = new_at; comments = comments } ∷ [] → Sofar text new_at (open_after depth p) new_comments new_tokens
Sofar_token text at depth len new_at comments new_comments tokens new_tokens p t utf8 s h len-is new_at-is e f g =
    let end : new_at ≡ at + length (spelling p) = new_at-is ∙ ap (λ (k : ℕ). at + k) len-is in
    Sofar_more text at depth len new_at comments new_comments tokens new_tokens p utf8 s h len-is new_at-is (λ qs. rw (e, f, g, end) (append_assoc tokens _ (tokens_from (at + length (spelling p)) [] qs)))
