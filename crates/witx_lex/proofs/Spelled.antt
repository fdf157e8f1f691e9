-- What is read of a text that is the spelling of a string: that string, and no fault.
use Rattle.std.proofs.Common.{◌≡◌, ℕ, List, [], drop, sym, ap, ◌∙◌, arith}
use Rattle.std.proofs.lemmas.List.{append-nil}
use Rattle.std.specs.Prelude.{slice_index}
use Rattle.witx_lex.specs.declared.error.LexKind.{LexKind}
use Rattle.witx_lex.specs.declared.piece.Read.{Read}
use Rattle.witx_lex.specs.Faults.{IsFaultAt}
use Rattle.witx_lex.specs.Meaning.{token, piece_seen}
use Rattle.witx_lex.specs.Pieces.{quoted, spelling, Stands}
use Rattle.witx_lex.specs.Reads.{FoundPiece, seen_view}
use Rattle.witx_lex.specs.Slices.{SpellsToken}
use Rattle.witx_lex.specs.Tokens.{quoted as quoted_token}
use Rattle.witx_lex.proofs.Faults.{no_piece}
use Rattle.witx_lex.proofs.Unique.{piece_unique}

string_stands : (text t : List ℕ) (s : SpellsToken text (quoted_token t)) → Stands 0 (quoted s.0) text []
string_stands text t s = record { piece = s.1; spelled = s.2 ∙ sym (append-nil (spelling (quoted s.0))); ended = tt; depth = omega arith }

pub first_quote : (text t : List ℕ) → SpellsToken text (quoted_token t) → slice_index text 0 ≡ 34
first_quote text t s = ap (λ (u : List ℕ). slice_index u 0) s.2

pub seen_string : (text t : List ℕ) (r : Read) → SpellsToken text (quoted_token t) → FoundPiece 0 text r → seen_view r.seen ≡ token (quoted_token t)
seen_string text t r s h =
    let same = piece_unique 0 0 h.piece (quoted s.0) text (drop r.len text) [] h.stands (string_stands text t s) in
    h.sees ∙ ap piece_seen same ∙ ap (λ (u : List ℕ). token (quoted_token u)) (sym s.3)

pub no_fault : (text t : List ℕ) (kind : LexKind) (k : ℕ) → SpellsToken text (quoted_token t) → IsFaultAt 0 text kind k → ⊥
no_fault text t kind k s f = no_piece 0 text kind k (quoted s.0) [] f (string_stands text t s)
