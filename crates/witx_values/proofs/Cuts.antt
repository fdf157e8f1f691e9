-- Each token of a text starts and ends where a character does.
use Rattle.std.proofs.Common.{◌≡◌, ℕ, ◌+◌, List, [], ◌∷◌, ◌++◌, length, drop, IsUtf8, refl, sym, ap, ◌∙◌, subst, arith, drop_at}
use Rattle.std.proofs.lemmas.List.{drop-drop}
use Rattle.std.proofs.lemmas.List.Elements.{All-cons}
use Rattle.std.proofs.lemmas.Str.{IsUtf8-drop, IsCharBoundary-start, IsCharBoundary-from_rest}
use Rattle.std.specs.Prelude.{All}
use Rattle.std.specs.Str.{IsCharBoundary}
use Rattle.witx_lex.proofs.Progress.{piece_boundary}
use Rattle.witx_lex.proofs.SlicesOfTokens.{tokens_stand}
use Rattle.witx_lex.specs.Meaning.{Seen, nothing, comment, token, piece_seen, with_seen, tokens_from, HasTokens}
use Rattle.witx_lex.specs.Pieces.{Piece, spelling, open_after, Stand}
use Rattle.witx_lex.specs.Slices.{StandsAt}
use Rattle.witx_lex.specs.Tokens.{Lexed}

-- the token starts and ends where a character does
pub record IsCut (text : List ℕ) (l : Lexed) : Type 0 where
  pub starts : IsCharBoundary text l.start
  pub ends : IsCharBoundary text l.end

no_cuts : (text : List ℕ) → All (IsCut text) []
no_cuts text k d lt = absurd (omega arith)

seen_cut : (s : Seen) (text : List ℕ) (at end : ℕ) (comments : List (List ℕ)) (more : List (List ℕ) → List Lexed) → IsCharBoundary text at → IsCharBoundary text end
    → ((cs : List (List ℕ)) → All (IsCut text) (more cs)) → All (IsCut text) (with_seen s at end comments more)
seen_cut nothing text at end comments more starts ends others = others comments
seen_cut (comment c) text at end comments more starts ends others = others (comments ++ c ∷ [])
seen_cut (token t) text at end comments more starts ends others =
    All-cons (IsCut text) (record { token = t; start = at; end = end; comments = comments }) (more []) (record { starts = starts; ends = ends }) (others [])

rest_is : (text p next : List ℕ) (at : ℕ) → drop at text ≡ p ++ next → drop (at + length p) text ≡ next
rest_is text p next at e =
    let from : drop (at + length p) text ≡ drop (length p) (drop at text) = ap (λ (n : ℕ). drop n text) (omega arith) ∙ sym (drop-drop (length p) at text) in
    from ∙ ap (drop (length p)) e ∙ drop_at p next (length p) refl

tokens_cut : (ps : List Piece) (n at : ℕ) (text : List ℕ) (comments : List (List ℕ)) → IsUtf8 text → IsCharBoundary text at → Stand n ps (drop at text) []
    → All (IsCut text) (tokens_from at comments ps)
tokens_cut [] n at text comments utf8 starts h = no_cuts text
tokens_cut (p ∷ ps) n at text comments utf8 starts h =
    let end = at + length (spelling p) in
    let ends : IsCharBoundary text end =
    IsCharBoundary-from_rest text at (length (spelling p)) starts.0 (piece_boundary n p (drop at text) h.0 (IsUtf8-drop text at utf8 starts) h.1) in
    seen_cut (piece_seen p) text at end comments (λ cs. tokens_from end cs ps) starts ends
    (λ cs. tokens_cut ps (open_after n p) end text cs utf8 ends
    (subst (λ (t : List ℕ). Stand (open_after n p) ps t []) (sym (rest_is text (spelling p) h.0 at h.1.spelled)) h.2))

pub cuts : (text : List ℕ) (ls : List Lexed) → IsUtf8 text → HasTokens text ls → All (IsCut text) ls
cuts text ls utf8 h = subst (λ (ts : List Lexed). All (IsCut text) ts) (sym h.2) (tokens_cut h.0 0 0 text [] utf8 (IsCharBoundary-start text utf8) h.1)

-- and it stands there
pub stand : (text : List ℕ) (ls : List Lexed) → HasTokens text ls → All (StandsAt text) ls
stand text ls h = subst (λ (ts : List Lexed). All (StandsAt text) ts) (sym h.2) (tokens_stand h.0 0 0 text [] (omega arith) h.1)
