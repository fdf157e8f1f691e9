-- Each token of a text is the slice of the text at its span.
use Rattle.std.proofs.Common.{◌≡◌, ℕ, ◌+◌, ◌-◌, ◌≤◌, Bool, true, false, cond, ◌&&◌, ◌==◌, List, [], ◌∷◌, ◌++◌, length, take, drop, refl, sym, ap, ◌∙◌, subst, arith, eqb-true}
use Rattle.std.proofs.lemmas.Bool.{and_parts}
use Rattle.std.proofs.lemmas.List.{length-append, length-drop, drop-drop, drop_at, take_at}
use Rattle.std.proofs.lemmas.List.Elements.{All-cons}
use Rattle.std.specs.List.{flat_map}
use Rattle.std.specs.Prelude.{All, slice_range, slice_index, nat_lt}
use Rattle.witx_lex.specs.Characters.{dollar, at_sign}
use Rattle.witx_lex.specs.Pieces.{Piece, blank, line, block, opening, closing, run, quoted, spelling, part_value, IsPiece, open_after, Stand}
use Rattle.witx_lex.specs.Tokens.{Token, left, right, id, word, annot, int, quoted as quoted_token, Lexed}
use Rattle.witx_lex.specs.Meaning.{Seen, nothing, comment, token, piece_seen, with_seen, tokens_from, run_token, is_int}
use Rattle.witx_lex.specs.Slices.{SpellsToken, StandsAt}

-- ---- what a piece spells

behind_first : (c b : ℕ) (r : List ℕ) → (slice_index (b ∷ r) 0 == c) ≡ true → b ∷ r ≡ c ∷ r
behind_first c b r e = ap (λ (x : ℕ). x ∷ r) (eqb-true b c e)

int_or_word : (t : Bool) (r : List ℕ) → SpellsToken r (cond t (int r) (word r))
int_or_word true r = refl
int_or_word false r = refl

annot_or_other : (t : Bool) (b : ℕ) (r : List ℕ) → (slice_index (b ∷ r) 0 == at_sign && nat_lt 1 (length (b ∷ r))) ≡ t
    → SpellsToken (b ∷ r) (cond t (annot r) (cond (is_int (b ∷ r)) (int (b ∷ r)) (word (b ∷ r))))
annot_or_other true b r e = behind_first at_sign b r (and_parts (slice_index (b ∷ r) 0 == at_sign) (nat_lt 1 (length (b ∷ r))) e).0
annot_or_other false b r e = int_or_word (is_int (b ∷ r)) (b ∷ r)

id_or_other : (t : Bool) (b : ℕ) (r : List ℕ) → (slice_index (b ∷ r) 0 == dollar) ≡ t
    → SpellsToken (b ∷ r) (cond t (id r) (cond (slice_index (b ∷ r) 0 == at_sign && nat_lt 1 (length (b ∷ r))) (annot r) (cond (is_int (b ∷ r)) (int (b ∷ r)) (word (b ∷ r)))))
id_or_other true b r e = behind_first dollar b r e
id_or_other false b r e = annot_or_other _ b r refl

run_spells : (r : List ℕ) → IsPiece (run r) → SpellsToken r (run_token r)
run_spells [] h = absurd (h.0 refl)
run_spells (b ∷ r) h = id_or_other _ b r refl

token_is : (x y : Token) → token x ≡ token y → x ≡ y
token_is x y e = cc

piece_spells : (p : Piece) (t : Token) → IsPiece p → piece_seen p ≡ token t → SpellsToken (spelling p) t
piece_spells (blank b) t h e = absurd cc
piece_spells (line l) t h e = absurd cc
piece_spells (block l) t h e = absurd cc
piece_spells opening t h e = subst (SpellsToken (40 ∷ [])) (token_is left t e) refl
piece_spells closing t h e = subst (SpellsToken (41 ∷ [])) (token_is right t e) refl
piece_spells (run r) t h e = subst (SpellsToken r) (token_is (run_token r) t e) (run_spells r h)
piece_spells (quoted ps) t h e = subst (SpellsToken (spelling (quoted ps))) (token_is (quoted_token (flat_map part_value ps)) t e) (ps, h, refl, refl)

-- ---- where it stands

slice_is : (text p next : List ℕ) (at end : ℕ) → drop at text ≡ p ++ next → end ≡ at + length p → slice_range text at end ≡ p
slice_is text p next at end e end-is =
    let long : end - at ≡ length p = omega arith in
    ap (λ (n : ℕ). take n (drop at text)) long ∙ ap (take (length p)) e ∙ take_at p next (length p) refl

rest_is : (text p next : List ℕ) (at end : ℕ) → drop at text ≡ p ++ next → end ≡ at + length p → drop end text ≡ next
rest_is text p next at end e end-is =
    let from : drop end text ≡ drop (length p) (drop at text) = ap (λ (n : ℕ). drop n text) (omega arith) ∙ sym (drop-drop (length p) at text) in
    from ∙ ap (drop (length p)) e ∙ drop_at p next (length p) refl

ends_inside : (text p next : List ℕ) (at end : ℕ) → drop at text ≡ p ++ next → at ≤ length text → end ≡ at + length p → end ≤ length text
ends_inside text p next at end e le end-is = omega (arith, length-drop at text, ap (λ (t : List ℕ). length t) e, length-append p next)

none_stand : (text : List ℕ) → All (StandsAt text) []
none_stand text k d lt = absurd (omega arith)

-- with what was seen in front, the tokens still stand where they say
seen_stands : (s : Seen) (text : List ℕ) (at end : ℕ) (comments : List (List ℕ)) (more : List (List ℕ) → List Lexed)
    → at ≤ end → end ≤ length text → ((t : Token) → s ≡ token t → SpellsToken (slice_range text at end) t)
    → ((cs : List (List ℕ)) → All (StandsAt text) (more cs)) → All (StandsAt text) (with_seen s at end comments more)
seen_stands nothing text at end comments more le inside spells others = others comments
seen_stands (comment c) text at end comments more le inside spells others = others (comments ++ c ∷ [])
seen_stands (token t) text at end comments more le inside spells others =
    All-cons (StandsAt text) (record { token = t; start = at; end = end; comments = comments }) (more [])
    (record { ordered = le; inside = inside; spelled = spells t refl }) (others [])

pub tokens_stand : (ps : List Piece) (n at : ℕ) (text : List ℕ) (comments : List (List ℕ)) → at ≤ length text → Stand n ps (drop at text) []
    → All (StandsAt text) (tokens_from at comments ps)
tokens_stand [] n at text comments le h = none_stand text
tokens_stand (p ∷ ps) n at text comments le h =
    let end = at + length (spelling p) in
    let spelled = h.1.spelled in
    let inside : end ≤ length text = ends_inside text (spelling p) h.0 at end spelled le refl in
    seen_stands (piece_seen p) text at end comments (λ cs. tokens_from end cs ps) (omega arith) inside
    (λ t e. subst (λ (s : List ℕ). SpellsToken s t) (sym (slice_is text (spelling p) h.0 at end spelled refl)) (piece_spells p t h.1.piece e))
    (λ cs. tokens_stand ps (open_after n p) end text cs inside
    (subst (λ (t : List ℕ). Stand (open_after n p) ps t []) (sym (rest_is text (spelling p) h.0 at end spelled refl)) h.2))
