-- The text of a list of imports has exactly the tokens of its lines.
use Rattle.std.proofs.Common.{◌≡◌, ℕ, ◌+◌, ◌-◌, ◌≤◌, false, ◌==◌, List, [], ◌∷◌, ◌++◌, length, map, refl, sym, ap, ◌∙◌, subst, append_assoc, arith}
use Rattle.std.specs.Prelude.{codes}
use Rattle.std.specs.List.{flat_map}
use Rattle.std.specs.Str.{IsUtf8}
use Rattle.witx_adapt.specs.Names.{spaced, wasm_word}
use Rattle.witx_adapt.specs.Names.{in_quotes as quoted_name}
use Rattle.witx_import_list.proofs.Escapes.{name_parts, name-value, name-piece, name-spelled}
use Rattle.witx_import_list.specs.ListTexts.{quoted_names, group, wasm_import_line, list_text, AreNames}
use Rattle.witx_imports.specs.declared.import.WasmImport.{WasmImport}
use Rattle.witx_lex.specs.Characters.{is_name_character, begins, semicolon}
use Rattle.witx_lex.specs.Meaning.{run_token, Seen, nothing, comment, token, piece_seen, with_seen, tokens_from, tokens_of, HasTokens}
use Rattle.witx_lex.specs.Pieces.{Piece, blank, opening, closing, run, quoted, spelling, IsPiece, Stand, most_open}
use Rattle.witx_lex.specs.Tokens.{Token, left, right, word, quoted as quoted_token, Lexed}
use Rattle.witx_machine.specs.declared.surface.WasmType.{WasmType}
use Rattle.witx_machine.specs.declared.surface.WasmType.TheVariants as w

-- ---- pieces

abbrev word_pieces : List WasmType → List Piece → List Piece
word_pieces [] more = more
word_pieces (t ∷ ts) more = blank 32 ∷ run (wasm_word t) ∷ word_pieces ts more

abbrev group_pieces : List ℕ → List WasmType → List Piece → List Piece
group_pieces head [] more = more
group_pieces head (t ∷ ts) more = blank 32 ∷ opening ∷ run head ∷ word_pieces (t ∷ ts) (closing ∷ more)

abbrev groups_pieces : WasmImport → List Piece → List Piece
groups_pieces i more = group_pieces (codes "param") i.params (group_pieces (codes "result") i.results more)

abbrev line_pieces : WasmImport → List Piece → List Piece
line_pieces i more =
    opening ∷ run (codes "import") ∷ blank 32 ∷ quoted (name_parts i.module) ∷ blank 32 ∷ quoted (name_parts i.name) ∷ blank 32 ∷ opening ∷ run (codes "func")
    ∷ groups_pieces i (closing ∷ closing ∷ blank 10 ∷ more)

abbrev list_pieces : List WasmImport → List Piece
list_pieces [] = []
list_pieces (i ∷ is) = line_pieces i (list_pieces is)

-- ---- where they stand

-- a run that is a word
record IsWord (r : List ℕ) : Type 0 where
  piece : IsPiece (run r)
  begins : (after : List ℕ) → begins (λ b. b == semicolon) (r ++ after) ≡ false

word-piece : (t : WasmType) → IsPiece (run (wasm_word t))
word-piece w.I32 = (λ e. cc, refl, λ e. cc)
word-piece w.I64 = (λ e. cc, refl, λ e. cc)
word-piece w.F32 = (λ e. cc, refl, λ e. cc)
word-piece w.F64 = (λ e. cc, refl, λ e. cc)

param-word : IsWord (codes "param")
param-word = record { piece = (λ e. cc, refl, λ e. cc); begins = λ after. refl }

result-word : IsWord (codes "result")
result-word = record { piece = (λ e. cc, refl, λ e. cc); begins = λ after. refl }

-- behind words no name goes on
words-end : (ts : List WasmType) (after : List ℕ) → begins is_name_character after ≡ false → begins is_name_character (flat_map spaced ts ++ after) ≡ false
words-end [] after h = h
words-end (t ∷ ts) after h = refl

words-stand : (n : ℕ) → n ≤ most_open → (ts : List WasmType) (more : List Piece) (after rest : List ℕ) → begins is_name_character after ≡ false → Stand n more after rest
    → Stand n (word_pieces ts more) (flat_map spaced ts ++ after) rest
words-stand n le [] more after rest h k = k
words-stand n le (t ∷ ts) more after rest h k = (
  wasm_word t ++ (flat_map spaced ts ++ after),
  record { piece = refl; spelled = append_assoc (spaced t) (flat_map spaced ts) after; ended = tt; depth = le },
  (
    flat_map spaced ts ++ after,
    record { piece = word-piece t; spelled = refl; ended = words-end ts after h; depth = le },
    words-stand n le ts more after rest h k,
  ),
)

back-again : (n : ℕ) → n + 1 - 1 ≡ n
back-again n = omega arith

group-text : (head : List ℕ) (t : WasmType) (ts : List WasmType) (after : List ℕ) → group head (t ∷ ts) ++ after ≡ 32 ∷ 40 ∷ (head ++ (flat_map spaced (t ∷ ts) ++ 41 ∷ after))
group-text head t ts after =
    let words = flat_map spaced (t ∷ ts) in
    ap (λ (x : List ℕ). 32 ∷ 40 ∷ x) (append_assoc (head ++ words) (41 ∷ []) after ∙ append_assoc head words (41 ∷ after))

one-more : (n : ℕ) → n + 1 ≤ most_open → n ≤ most_open
one-more n le = omega (arith, le)

less-one : (n : ℕ) → n + 1 ≤ most_open → n + 1 - 1 ≤ most_open
less-one n le = omega (arith, le)

words-group : (n : ℕ) → n + 1 ≤ most_open → (t : WasmType) (ts : List WasmType) (more : List Piece) (after rest : List ℕ) → Stand n more after rest
    → Stand (n + 1) (word_pieces (t ∷ ts) (closing ∷ more)) (flat_map spaced (t ∷ ts) ++ 41 ∷ after) rest
words-group n le t ts more after rest k =
    words-stand (n + 1) le (t ∷ ts) (closing ∷ more) (41 ∷ after) rest refl
    (after, record { piece = tt; spelled = refl; ended = tt; depth = less-one n le }, subst (λ (m : ℕ). Stand m more after rest) (sym (back-again n)) k)

group-stand : (n : ℕ) → n + 1 ≤ most_open → (head : List ℕ) → IsWord head → (ts : List WasmType) (more : List Piece) (after rest : List ℕ) → begins is_name_character after ≡ false → Stand n more after rest
    → Stand n (group_pieces head ts more) (group head ts ++ after) rest
group-stand n le head is [] more after rest h k = k
group-stand n le head is (t ∷ ts) more after rest h k =
    let words = flat_map spaced (t ∷ ts) ++ 41 ∷ after in
    subst (λ (x : List ℕ). Stand n (group_pieces head (t ∷ ts) more) x rest) (sym (group-text head t ts after)) (
      40 ∷ (head ++ words),
      record { piece = refl; spelled = refl; ended = tt; depth = one-more n le },
      (
        head ++ words,
        record { piece = tt; spelled = refl; ended = is.begins words; depth = le },
        (words, record { piece = is.piece; spelled = refl; ended = refl; depth = le }, words-group n le t ts more after rest k),
      ),
    )

group-end : (head : List ℕ) (ts : List WasmType) (after : List ℕ) → begins is_name_character after ≡ false → begins is_name_character (group head ts ++ after) ≡ false
group-end head [] after h = h
group-end head (t ∷ ts) after h = refl

-- the groups of a line, and what follows them
abbrev behind_names : WasmImport → List ℕ → List ℕ
behind_names i after = codes " (func" ++ (group (codes "param") i.params ++ (group (codes "result") i.results ++ (41 ∷ 41 ∷ 10 ∷ after)))

line-text : (i : WasmImport) (after : List ℕ) → wasm_import_line i ++ after ≡ codes "(import " ++ (quoted_name i.module ++ 32 ∷ (quoted_name i.name ++ behind_names i after))
line-text i after =
    let m = quoted_name i.module in
    let f = quoted_name i.name in
    let ps = group (codes "param") i.params in
    let rs = group (codes "result") i.results in
    append_assoc (codes "(import " ++ quoted_names i.module i.name ++ codes " (func" ++ ps ++ rs) (codes "))\n") after
    ∙ append_assoc (codes "(import " ++ quoted_names i.module i.name ++ codes " (func" ++ ps) rs (41 ∷ 41 ∷ 10 ∷ after)
    ∙ append_assoc (codes "(import " ++ quoted_names i.module i.name ++ codes " (func") ps (rs ++ (41 ∷ 41 ∷ 10 ∷ after))
    ∙ append_assoc (codes "(import " ++ quoted_names i.module i.name) (codes " (func") (ps ++ (rs ++ (41 ∷ 41 ∷ 10 ∷ after)))
    ∙ append_assoc (codes "(import ") (quoted_names i.module i.name) (behind_names i after)
    ∙ ap (λ (x : List ℕ). codes "(import " ++ x) (append_assoc (m ++ codes " ") f (behind_names i after) ∙ append_assoc m (codes " ") (f ++ behind_names i after))

end-stand : (more : List Piece) (after rest : List ℕ) → Stand 0 more after rest → Stand 2 (closing ∷ closing ∷ blank 10 ∷ more) (41 ∷ 41 ∷ 10 ∷ after) rest
end-stand more after rest k = (
  41 ∷ 10 ∷ after,
  record { piece = tt; spelled = refl; ended = tt; depth = omega arith },
  (
    10 ∷ after,
    record { piece = tt; spelled = refl; ended = tt; depth = omega arith },
    (after, record { piece = refl; spelled = refl; ended = tt; depth = omega arith }, k),
  ),
)

groups-stand : (i : WasmImport) (more : List Piece) (after rest : List ℕ) → Stand 0 more after rest
    → Stand 2 (groups_pieces i (closing ∷ closing ∷ blank 10 ∷ more)) (group (codes "param") i.params ++ (group (codes "result") i.results ++ (41 ∷ 41 ∷ 10 ∷ after))) rest
groups-stand i more after rest k =
    let end = closing ∷ closing ∷ blank 10 ∷ more in
    let results = group-stand 2 (omega arith) (codes "result") result-word i.results end (41 ∷ 41 ∷ 10 ∷ after) rest refl (end-stand more after rest k) in
    group-stand 2 (omega arith) (codes "param") param-word i.params (group_pieces (codes "result") i.results end)
    (group (codes "result") i.results ++ (41 ∷ 41 ∷ 10 ∷ after)) rest (group-end (codes "result") i.results (41 ∷ 41 ∷ 10 ∷ after) refl) results

line-stand : (i : WasmImport) → IsUtf8 i.module → IsUtf8 i.name → (more : List Piece) (after rest : List ℕ) → Stand 0 more after rest → Stand 0 (line_pieces i more) (wasm_import_line i ++ after) rest
line-stand i um un more after rest k =
    let groups = group (codes "param") i.params ++ (group (codes "result") i.results ++ (41 ∷ 41 ∷ 10 ∷ after)) in
    let named = quoted_name i.name ++ behind_names i after in
    let names = quoted_name i.module ++ 32 ∷ named in
    subst (λ (x : List ℕ). Stand 0 (line_pieces i more) x rest) (sym (line-text i after)) (
      codes "import " ++ names,
      record { piece = tt; spelled = refl; ended = refl; depth = omega arith },
      (
        32 ∷ names,
        record { piece = (λ e. cc, refl, λ e. cc); spelled = refl; ended = refl; depth = omega arith },
        (
          names,
          record { piece = refl; spelled = refl; ended = tt; depth = omega arith },
          (
            32 ∷ named,
            record { piece = name-piece i.module um; spelled = name-spelled i.module (32 ∷ named); ended = tt; depth = omega arith },
            (
              named,
              record { piece = refl; spelled = refl; ended = tt; depth = omega arith },
              (
                behind_names i after,
                record { piece = name-piece i.name un; spelled = name-spelled i.name (behind_names i after); ended = tt; depth = omega arith },
                (
                  codes "(func" ++ groups,
                  record { piece = refl; spelled = refl; ended = tt; depth = omega arith },
                  (
                    codes "func" ++ groups,
                    record { piece = tt; spelled = refl; ended = refl; depth = omega arith },
                    (
                      groups,
                      record {
                        piece = (λ e. cc, refl, λ e. cc);
                        spelled = refl;
                        ended = group-end (codes "param") i.params (group (codes "result") i.results ++ (41 ∷ 41 ∷ 10 ∷ after)) (group-end (codes "result") i.results (41 ∷ 41 ∷ 10 ∷ after) refl);
                        depth = omega arith;
                      },
                      groups-stand i more after rest k,
                    ),
                  ),
                ),
              ),
            ),
          ),
        ),
      ),
    )

list-stand : (is : List WasmImport) → AreNames is → Stand 0 (list_pieces is) (list_text is) []
list-stand [] h = refl
list-stand (i ∷ is) h = line-stand i h.0.0 h.0.1 (list_pieces is) (list_text is) [] (list-stand is h.1)

-- ---- their tokens

abbrev pub tokens : List Lexed → List Token
tokens ls = map (λ l. l.token) ls

abbrev onto : Seen → List Token → List Token
onto nothing ts = ts
onto (comment t) ts = ts
onto (token t) ts = t ∷ ts

abbrev piece_tokens : List Piece → List Token
piece_tokens [] = []
piece_tokens (p ∷ ps) = onto (piece_seen p) (piece_tokens ps)

with-seen : (s : Seen) (at end : ℕ) (cs : List (List ℕ)) (more : List (List ℕ) → List Lexed) (xs : List Token) → ((ds : List (List ℕ)) → tokens (more ds) ≡ xs)
    → tokens (with_seen s at end cs more) ≡ onto s xs
with-seen nothing at end cs more xs h = h cs
with-seen (comment t) at end cs more xs h = h (cs ++ t ∷ [])
with-seen (token t) at end cs more xs h = ap (λ (l : List Token). t ∷ l) (h [])

from-pieces : (at : ℕ) (cs : List (List ℕ)) (ps : List Piece) → tokens (tokens_from at cs ps) ≡ piece_tokens ps
from-pieces at cs [] = refl
from-pieces at cs (p ∷ ps) = with-seen (piece_seen p) at (at + length (spelling p)) cs (λ ds. tokens_from (at + length (spelling p)) ds ps) (piece_tokens ps)
    (λ ds. from-pieces (at + length (spelling p)) ds ps)

-- the tokens of a line
abbrev pub type_tokens : List WasmType → List Token → List Token
type_tokens [] more = more
type_tokens (t ∷ ts) more = word (wasm_word t) ∷ type_tokens ts more

abbrev pub group_tokens : List ℕ → List WasmType → List Token → List Token
group_tokens head [] more = more
group_tokens head (t ∷ ts) more = left ∷ word head ∷ type_tokens (t ∷ ts) (right ∷ more)

abbrev pub line_tokens : WasmImport → List Token → List Token
line_tokens i more =
    left ∷ word (codes "import") ∷ quoted_token i.module ∷ quoted_token i.name ∷ left ∷ word (codes "func")
    ∷ group_tokens (codes "param") i.params (group_tokens (codes "result") i.results (right ∷ right ∷ more))

abbrev pub list_tokens : List WasmImport → List Token
list_tokens [] = []
list_tokens (i ∷ is) = line_tokens i (list_tokens is)

type-token : (t : WasmType) → run_token (wasm_word t) ≡ word (wasm_word t)
type-token w.I32 = refl
type-token w.I64 = refl
type-token w.F32 = refl
type-token w.F64 = refl

words-tokens : (ts : List WasmType) (ps : List Piece) (more : List Token) → piece_tokens ps ≡ more → piece_tokens (word_pieces ts ps) ≡ type_tokens ts more
words-tokens [] ps more h = h
words-tokens (t ∷ ts) ps more h = ap (λ (x : Token). x ∷ piece_tokens (word_pieces ts ps)) (type-token t) ∙ ap (λ (l : List Token). word (wasm_word t) ∷ l) (words-tokens ts ps more h)

group-tokens : (head : List ℕ) → run_token head ≡ word head → (ts : List WasmType) (ps : List Piece) (more : List Token) → piece_tokens ps ≡ more
    → piece_tokens (group_pieces head ts ps) ≡ group_tokens head ts more
group-tokens head is [] ps more h = h
group-tokens head is (t ∷ ts) ps more h =
    ap (λ (x : Token). left ∷ x ∷ piece_tokens (word_pieces (t ∷ ts) (closing ∷ ps))) is
    ∙ ap (λ (l : List Token). left ∷ word head ∷ l) (words-tokens (t ∷ ts) (closing ∷ ps) (right ∷ more) (ap (λ (l : List Token). right ∷ l) h))

line-tokens : (i : WasmImport) → IsUtf8 i.module → IsUtf8 i.name → (ps : List Piece) (more : List Token) → piece_tokens ps ≡ more → piece_tokens (line_pieces i ps) ≡ line_tokens i more
line-tokens i um un ps more h =
    let groups = group-tokens (codes "param") refl i.params (group_pieces (codes "result") i.results (closing ∷ closing ∷ blank 10 ∷ ps)) (group_tokens (codes "result") i.results (right ∷ right ∷ more))
    (group-tokens (codes "result") refl i.results (closing ∷ closing ∷ blank 10 ∷ ps) (right ∷ right ∷ more) (ap (λ (l : List Token). right ∷ right ∷ l) h)) in
    rw (name-value i.module um, name-value i.name un) (ap (λ (l : List Token). left ∷ word (codes "import") ∷ quoted_token i.module ∷ quoted_token i.name ∷ left ∷ word (codes "func") ∷ l) groups)

list-tokens : (is : List WasmImport) → AreNames is → piece_tokens (list_pieces is) ≡ list_tokens is
list-tokens [] h = refl
list-tokens (i ∷ is) h = line-tokens i h.0.0 h.0.1 (list_pieces is) (list_tokens is) (list-tokens is h.1)

-- the text of a list has exactly the tokens of its lines
pub list-has-tokens : (is : List WasmImport) → AreNames is → (ts : List Lexed) × HasTokens (list_text is) ts × (tokens ts ≡ list_tokens is)
list-has-tokens is h = (tokens_of (list_pieces is), (list_pieces is, list-stand is h, refl), from-pieces 0 [] (list_pieces is) ∙ list-tokens is h)
