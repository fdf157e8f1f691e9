-- The text of an expression has exactly the tokens of the expression.
use Rattle.std.proofs.Common.{◌≡◌, ◌≢◌, ℕ, zero, suc, ◌+◌, ◌-◌, ◌<◌, ◌≤◌, Bool, true, false, not, ◌&&◌, ◌||◌, ◌==◌, cond, List, [], ◌∷◌, ◌++◌, length, map, Option, Some, None, refl, sym, ap, ◌∙◌, subst, arith, eqb-true}
use Rattle.std.specs.Prelude.{IsTrue}
use Rattle.std.specs.List.{list_all, flat_map}
use Rattle.std.specs.Str.{IsUtf8}
use Rattle.std.proofs.lemmas.List.{append_assoc}
use Rattle.std.proofs.lemmas.Bool.{and_parts}
use Rattle.witx_lex.specs.Characters.{is_name_character, is_raw, begins, semicolon, dollar}
use Rattle.witx_lex.specs.Blocks.{InsideComment, empty, byte, inside_spelling, begins_mark, is_inside, IsBlockText}
use Rattle.witx_lex.specs.Pieces.{Part, raw, Piece, blank, block, opening, closing, run, quoted, part_spelling, part_value, spelling, is_part, IsPiece, IsEnded, open_after, Stands, Stand, most_open, ArePieces}
use Rattle.witx_lex.specs.Tokens.{Token, left, right, id, annot, quoted as quoted_token, Lexed}
use Rattle.witx_lex.specs.Meaning.{run_token, Seen, nothing, comment, token, piece_seen, with_seen, tokens_from, tokens_of, HasTokens}
use Rattle.witx_render.specs.Expressions.{SExpr, vec, word, ident, quote, annot as annotation, docs, SExprs, nil, cons, text_of, text_of_all, text_behind}
use Rattle.witx_render.specs.DocumentTexts.{expression_lines}
use Rattle.witx_read_back.specs.Plain.{no_marks}
use Rattle.witx_read_back.proofs.Readable.{IsRun}
use Rattle.witx_read_back.specs.PrintedTokens.{tokens}
use Rattle.witx_read_back.specs.PrintedTokens.{expr_tokens, exprs_tokens, all_tokens}

-- ---- what can be read: names of name characters, raw quotes, documentation without marks of comments; n parentheses are open before

abbrev mutual
  pub Lexable : ℕ → SExpr → Type 0
  Lexable n (vec es) = (n + 1 ≤ most_open) × AllLexable (n + 1) es
  Lexable n (word s) = IsRun s
  Lexable n (ident s) = IsRun (36 ∷ s)
  Lexable n (quote s) = IsTrue (list_all is_raw s) × IsUtf8 s
  Lexable n (annotation s) = IsRun (64 ∷ s) × (run_token (64 ∷ s) ≡ annot s)
  Lexable n (docs d e) = IsTrue (no_marks d) × Lexable n e

  pub AllLexable : ℕ → SExprs → Type 0
  AllLexable n nil = Unit {0}
  AllLexable n (cons e es) = Lexable n e × AllLexable n es

-- ---- the pieces of an expression

abbrev raws : List ℕ → List Part
raws s = map (λ b. raw b) s

abbrev inner : List ℕ → List ℕ
inner d = 59 ∷ 32 ∷ (d ++ 32 ∷ [])

abbrev mutual
  pub expr_pieces : SExpr → List Piece → List Piece
  expr_pieces (vec es) more = opening ∷ exprs_pieces es (closing ∷ more)
  expr_pieces (word s) more = run s ∷ more
  expr_pieces (ident s) more = run (36 ∷ s) ∷ more
  expr_pieces (quote s) more = quoted (raws s) ∷ more
  expr_pieces (annotation s) more = run (64 ∷ s) ∷ more
  expr_pieces (docs d e) more = block (inner d) ∷ blank 32 ∷ expr_pieces e more

  pub exprs_pieces : SExprs → List Piece → List Piece
  exprs_pieces nil more = more
  exprs_pieces (cons e es) more = expr_pieces e (pieces_behind es more)

  pub pieces_behind : SExprs → List Piece → List Piece
  pieces_behind nil more = more
  pieces_behind (cons e es) more = blank 32 ∷ expr_pieces e (pieces_behind es more)

-- ---- tokens of pieces

abbrev onto : Seen → List Token → List Token
onto nothing ts = ts
onto (comment t) ts = ts
onto (token t) ts = t ∷ ts

abbrev pub piece_tokens : List Piece → List Token
piece_tokens [] = []
piece_tokens (p ∷ ps) = onto (piece_seen p) (piece_tokens ps)

with_seen_tokens : (s : Seen) (at end : ℕ) (cs : List (List ℕ)) (more : List (List ℕ) → List Lexed) (xs : List Token) → ((ds : List (List ℕ)) → tokens (more ds) ≡ xs)
    → tokens (with_seen s at end cs more) ≡ onto s xs
with_seen_tokens nothing at end cs more xs h = h cs
with_seen_tokens (comment t) at end cs more xs h = h (cs ++ t ∷ [])
with_seen_tokens (token t) at end cs more xs h = ap (λ (l : List Token). t ∷ l) (h [])

pub tokens_from_pieces : (at : ℕ) (cs : List (List ℕ)) (ps : List Piece) → tokens (tokens_from at cs ps) ≡ piece_tokens ps
tokens_from_pieces at cs [] = refl
tokens_from_pieces at cs (p ∷ ps) = with_seen_tokens (piece_seen p) at (at + length (spelling p)) cs (λ ds. tokens_from (at + length (spelling p)) ds ps) (piece_tokens ps)
    (λ ds. tokens_from_pieces (at + length (spelling p)) ds ps)

raw_values : (s : List ℕ) → flat_map part_value (raws s) ≡ s
raw_values [] = refl
raw_values (b ∷ s) = ap (λ (l : List ℕ). b ∷ l) (raw_values s)

raw_spelling : (s : List ℕ) → flat_map part_spelling (raws s) ≡ s
raw_spelling [] = refl
raw_spelling (b ∷ s) = ap (λ (l : List ℕ). b ∷ l) (raw_spelling s)

raw_parts : (s : List ℕ) → list_all is_part (raws s) ≡ list_all is_raw s
raw_parts [] = refl
raw_parts (b ∷ s) = ap (λ (t : Bool). is_raw b && t) (raw_parts s)

mutual
  pub expr_piece_tokens : (n : ℕ) (e : SExpr) → Lexable n e → (more : List Piece) → piece_tokens (expr_pieces e more) ≡ expr_tokens e (piece_tokens more)
  expr_piece_tokens n (vec es) h more = ap (λ (l : List Token). left ∷ l) (exprs_piece_tokens (n + 1) es h.1 (closing ∷ more))
  expr_piece_tokens n (word s) h more = refl
  expr_piece_tokens n (ident s) h more = refl
  expr_piece_tokens n (quote s) h more = ap (λ (l : List ℕ). quoted_token l ∷ piece_tokens more) (raw_values s)
  expr_piece_tokens n (annotation s) h more = ap (λ (t : Token). t ∷ piece_tokens more) h.1
  expr_piece_tokens n (docs d e) h more = expr_piece_tokens n e h.1 more

  exprs_piece_tokens : (n : ℕ) (es : SExprs) → AllLexable n es → (more : List Piece) → piece_tokens (exprs_pieces es more) ≡ exprs_tokens es (piece_tokens more)
  exprs_piece_tokens n nil h more = refl
  exprs_piece_tokens n (cons e es) h more = expr_piece_tokens n e h.0 (pieces_behind es more) ∙ ap (λ (l : List Token). expr_tokens e l) (behind_tokens n es h.1 more)

  behind_tokens : (n : ℕ) (es : SExprs) → AllLexable n es → (more : List Piece) → piece_tokens (pieces_behind es more) ≡ exprs_tokens es (piece_tokens more)
  behind_tokens n nil h more = refl
  behind_tokens n (cons e es) h more = expr_piece_tokens n e h.0 (pieces_behind es more) ∙ ap (λ (l : List Token). expr_tokens e l) (behind_tokens n es h.1 more)

-- ---- comments

not_both : true ≡ false → ⊥
not_both e = cc

abbrev bytes : List ℕ → InsideComment
bytes [] = empty
bytes (b ∷ bs) = byte b (bytes bs)

bytes_spelled : (s : List ℕ) → inside_spelling (bytes s) ≡ s
bytes_spelled [] = refl
bytes_spelled (b ∷ s) = ap (λ (l : List ℕ). b ∷ l) (bytes_spelled s)

not_true : (b : Bool) → not b ≡ true → b ≡ false
not_true true e = absurd (not_both (sym e))
not_true false e = refl

neither : (a b : Bool) → (a && false) || (b && false) ≡ false
neither true true = refl
neither true false = refl
neither false true = refl
neither false false = refl

-- a blank behind makes no mark
mark_behind : (b : ℕ) (d rest : List ℕ) → begins_mark (b ∷ d) ≡ false → begins_mark (b ∷ (d ++ 32 ∷ rest)) ≡ false
mark_behind b [] rest h = neither (b == 40) (b == 59)
mark_behind b (c ∷ d) rest h = h

inside_step : (t u : Bool) → t ≡ false → u ≡ true → not t && u ≡ true
inside_step t u e f = rw (e, f) refl

text_inside : (d : List ℕ) → no_marks d ≡ true → is_inside (bytes (d ++ 32 ∷ [])) ≡ true
text_inside [] h = refl
text_inside (b ∷ d) h =
    let p = and_parts (not (begins_mark (b ∷ d))) (no_marks d) h in
    inside_step (begins_mark (b ∷ (inside_spelling (bytes (d ++ 32 ∷ [])) ++ 59 ∷ 41 ∷ []))) (is_inside (bytes (d ++ 32 ∷ [])))
    (ap (λ (l : List ℕ). begins_mark (b ∷ (l ++ 59 ∷ 41 ∷ []))) (bytes_spelled (d ++ 32 ∷ []))
    ∙ ap (λ (l : List ℕ). begins_mark (b ∷ l)) (append_assoc d (32 ∷ []) (59 ∷ 41 ∷ []))
    ∙ mark_behind b d (59 ∷ 41 ∷ []) (not_true (begins_mark (b ∷ d)) p.0))
    (text_inside d p.1)

block_text : (d : List ℕ) → no_marks d ≡ true → IsBlockText (inner d)
block_text d h = (bytes (inner d), text_inside d h, sym (bytes_spelled (inner d)))

-- ---- places

no_name : (b : ℕ) (t : Bool) → (b == 59) ≡ t → is_name_character b ≡ true → t ≡ false
no_name b true e h = absurd (not_both (sym (subst (λ (c : ℕ). is_name_character c ≡ true) (eqb-true b 59 e) h)))
no_name b false e h = refl

run_begins : (s after : List ℕ) → IsRun s → begins (λ b. b == semicolon) (s ++ after) ≡ false
run_begins [] after h = absurd (h.0 refl)
run_begins (b ∷ s) after h = no_name b (b == 59) refl (and_parts (is_name_character b) (list_all is_name_character s) h.1).0

expr_begins : (n : ℕ) (e : SExpr) (after : List ℕ) → Lexable n e → begins (λ b. b == semicolon) (text_of e ++ after) ≡ false
expr_begins n (vec es) after h = refl
expr_begins n (word s) after h = run_begins s after h
expr_begins n (ident s) after h = refl
expr_begins n (quote s) after h = refl
expr_begins n (annotation s) after h = refl
expr_begins n (docs d e) after h = refl

all_begin : (n : ℕ) (es : SExprs) (after : List ℕ) → AllLexable n es → begins (λ b. b == semicolon) (text_of_all es ++ 41 ∷ after) ≡ false
all_begin n nil after h = refl
all_begin n (cons e es) after h = subst (λ (l : List ℕ). begins (λ b. b == semicolon) l ≡ false) (sym (append_assoc (text_of e) (text_behind es) (41 ∷ after)))
    (expr_begins n e (text_behind es ++ 41 ∷ after) h.0)

no_name_behind : (es : SExprs) (after : List ℕ) → begins is_name_character after ≡ false → begins is_name_character (text_behind es ++ after) ≡ false
no_name_behind nil after b = b
no_name_behind (cons e es) after b = refl

docs_text : (d : List ℕ) (e : SExpr) (after : List ℕ) → text_of (docs d e) ++ after ≡ spelling (block (inner d)) ++ 32 ∷ (text_of e ++ after)
docs_text d e after = ap (λ (l : List ℕ). 40 ∷ 59 ∷ 59 ∷ 32 ∷ l)
    (append_assoc d (32 ∷ 59 ∷ 41 ∷ 32 ∷ text_of e) after ∙ sym (append_assoc (d ++ 32 ∷ []) (59 ∷ 41 ∷ []) (32 ∷ (text_of e ++ after)) ∙ append_assoc d (32 ∷ []) (59 ∷ 41 ∷ 32 ∷ (text_of e ++ after))))

quoted_piece : (s : List ℕ) → IsTrue (list_all is_raw s) × IsUtf8 s → IsPiece (quoted (raws s))
quoted_piece s h = (raw_parts s ∙ h.0, subst (λ (l : List ℕ). IsUtf8 l) (sym (raw_values s)) h.1)

back_again : (n : ℕ) → n + 1 - 1 ≡ n
back_again n = omega arith

mutual
  pub expr_stand : (n : ℕ) (e : SExpr) → Lexable n e → n ≤ most_open → (more : List Piece) (after rest : List ℕ) → begins is_name_character after ≡ false
      → Stand n more after rest → Stand n (expr_pieces e more) (text_of e ++ after) rest
  expr_stand n (vec es) h le more after rest b k = (
    text_of_all es ++ 41 ∷ after,
    record {
      piece = tt;
      spelled = ap (λ (l : List ℕ). 40 ∷ l) (append_assoc (text_of_all es) (41 ∷ []) after);
      ended = all_begin (n + 1) es after h.1;
      depth = h.0;
    },
    exprs_stand (n + 1) es h.1 h.0 (closing ∷ more) (41 ∷ after) rest refl (
      after,
      record {
        piece = tt;
        spelled = refl;
        ended = tt;
        depth = omega (arith, le);
      },
      subst (λ (m : ℕ). Stand m more after rest) (sym (back_again n)) k,
    ),
  )
  expr_stand n (word s) h le more after rest b k = (after, record { piece = h; spelled = refl; ended = b; depth = le }, k)
  expr_stand n (ident s) h le more after rest b k = (after, record { piece = h; spelled = refl; ended = b; depth = le }, k)
  expr_stand n (quote s) h le more after rest b k = (
    after,
    record {
      piece = quoted_piece s h;
      spelled = ap (λ (l : List ℕ). 34 ∷ ((l ++ 34 ∷ []) ++ after)) (sym (raw_spelling s));
      ended = tt;
      depth = le;
    },
    k,
  )
  expr_stand n (annotation s) h le more after rest b k = (after, record { piece = h.0; spelled = refl; ended = b; depth = le }, k)
  expr_stand n (docs d e) h le more after rest b k = (
    32 ∷ (text_of e ++ after),
    record {
      piece = block_text d h.0;
      spelled = docs_text d e after;
      ended = tt;
      depth = le;
    },
    (text_of e ++ after, record { piece = refl; spelled = refl; ended = tt; depth = le }, expr_stand n e h.1 le more after rest b k),
  )

  exprs_stand : (n : ℕ) (es : SExprs) → AllLexable n es → n ≤ most_open → (more : List Piece) (after rest : List ℕ) → begins is_name_character after ≡ false
      → Stand n more after rest → Stand n (exprs_pieces es more) (text_of_all es ++ after) rest
  exprs_stand n nil h le more after rest b k = k
  exprs_stand n (cons e es) h le more after rest b k =
      subst (λ (l : List ℕ). Stand n (expr_pieces e (pieces_behind es more)) l rest) (sym (append_assoc (text_of e) (text_behind es) after))
      (expr_stand n e h.0 le (pieces_behind es more) (text_behind es ++ after) rest (no_name_behind es after b) (behind_stand n es h.1 le more after rest b k))

  behind_stand : (n : ℕ) (es : SExprs) → AllLexable n es → n ≤ most_open → (more : List Piece) (after rest : List ℕ) → begins is_name_character after ≡ false
      → Stand n more after rest → Stand n (pieces_behind es more) (text_behind es ++ after) rest
  behind_stand n nil h le more after rest b k = k
  behind_stand n (cons e es) h le more after rest b k = (
    (text_of e ++ text_behind es) ++ after,
    record { piece = refl; spelled = refl; ended = tt; depth = le },
    subst (λ (l : List ℕ). Stand n (expr_pieces e (pieces_behind es more)) l rest) (sym (append_assoc (text_of e) (text_behind es) after))
        (expr_stand n e h.0 le (pieces_behind es more) (text_behind es ++ after) rest (no_name_behind es after b) (behind_stand n es h.1 le more after rest b k)),
  )

-- ---- lines

abbrev pub LinesLexable : List SExpr → Type 0
LinesLexable [] = Unit {0}
LinesLexable (e ∷ es) = Lexable 0 e × LinesLexable es

abbrev line_pieces : List SExpr → List Piece
line_pieces [] = []
line_pieces (e ∷ es) = expr_pieces e (blank 10 ∷ line_pieces es)

lines_stand : (es : List SExpr) → LinesLexable es → Stand 0 (line_pieces es) (expression_lines es) []
lines_stand [] h = refl
lines_stand (e ∷ es) h = expr_stand 0 e h.0 (omega arith) (blank 10 ∷ line_pieces es) (10 ∷ expression_lines es) [] refl
    (expression_lines es, record { piece = refl; spelled = refl; ended = tt; depth = omega arith }, lines_stand es h.1)

line_tokens : (es : List SExpr) → LinesLexable es → piece_tokens (line_pieces es) ≡ all_tokens es
line_tokens [] h = refl
line_tokens (e ∷ es) h = expr_piece_tokens 0 e h.0 (blank 10 ∷ line_pieces es) ∙ ap (λ (l : List Token). expr_tokens e l) (line_tokens es h.1)

-- the text of lines has exactly the tokens of their expressions
pub lines_have_tokens : (es : List SExpr) → LinesLexable es → (ts : List Lexed) × HasTokens (expression_lines es) ts × (tokens ts ≡ all_tokens es)
lines_have_tokens es h = (tokens_of (line_pieces es), (line_pieces es, lines_stand es h, refl), tokens_from_pieces 0 [] (line_pieces es) ∙ line_tokens es h)
