-- Each identifier of a document that a text reads as is one run of name characters behind its $, each quoted text is UTF-8, and each record has a field.
use Rattle.std.proofs.Common.{◌≡◌, ℕ, zero, suc, ◌+◌, Bool, true, false, ◌==◌, ◌&&◌, List, [], ◌∷◌, ◌++◌, length, drop, refl, sym, ap, ◌∙◌, subst, eqb-true}
use Rattle.std.specs.Prelude.{slice_index, slice_index_or, if◌then◌else◌, nat_lt}
use Rattle.std.specs.List.{flat_map}
use Rattle.std.specs.Str.{IsUtf8}
use Rattle.witx_lex.specs.Characters.{dollar, at_sign}
use Rattle.witx_lex.specs.Pieces.{Part, part_value, Piece, blank, line, block, opening, closing, run, quoted as quoted_piece, spelling, IsPiece, Stand, Stands, open_after}
use Rattle.witx_lex.specs.Tokens.{Token, left, right, id, word, annot, int, quoted, Lexed}
use Rattle.witx_lex.specs.Meaning.{run_token, is_int, Seen, nothing, comment, token, piece_seen, with_seen, tokens_from, HasTokens}
use Rattle.witx_syntax_tree.specs.Trees.{Name, TypeTree, Maybe, absent, present, Types, no_types, one_type, Fields, no_fields, one_field, UnionFields, no_union_fields, one_union_field, Cases, no_cases, one_case, DeclTree, memory, function, NotedDecl, Document}
use Rattle.witx_syntax_tree.specs.Trees as forms
use Rattle.witx_syntax.specs.Names.{NamesOfType, NamesOfMaybe, NamesOfTypes, NamesOfFields, NamesOfUnionFields, NamesOfCases, NamesOfDecl, NamesOfDecls, NamesOfItem, AllNames, HasOne as GrammarHasOne}
use Rattle.witx_syntax.specs.Reads.{Reads}
use Rattle.witx_syntax.proofs.Sound.{NamesOfTokens, token_names, document_names}
use Rattle.witx_read_back.proofs.Readable.{IsRun, IsIdentifier}
use Rattle.witx_read_back.proofs.Given.{HasOne, Filled, FilledMaybe, FilledTypes, FilledFields, FilledUnion, FilledCases}
use Rattle.witx_read_back.proofs.ItemsGiven.{FilledDecl, FilledDecls}
use Rattle.witx_read_back.proofs.Declared.{FilledItem}

-- ---- tokens

abbrev TokenClaim : Token → Type 0
TokenClaim left = Unit {0}
TokenClaim right = Unit {0}
TokenClaim (id t) = IsIdentifier t
TokenClaim (word t) = Unit {0}
TokenClaim (annot t) = Unit {0}
TokenClaim (int t) = Unit {0}
TokenClaim (quoted t) = IsUtf8 t

abbrev Claims : List Lexed → Type 0
Claims [] = Unit {0}
Claims (l ∷ ls) = TokenClaim l.token × Claims ls

abbrev SeenClaim : Seen → Type 0
SeenClaim nothing = Unit {0}
SeenClaim (comment t) = Unit {0}
SeenClaim (token t) = TokenClaim t

choose_claim : (a b c : Bool) (r : List ℕ) (t : List ℕ) → (a ≡ true → IsIdentifier t) → TokenClaim (if a then id t else if b then annot t else if c then int r else word r)
choose_claim true b c r t h = h refl
choose_claim false true c r t h = tt
choose_claim false false true r t h = tt
choose_claim false false false r t h = tt

run_claim : (r : List ℕ) → IsRun r → TokenClaim (run_token r)
run_claim [] h = absurd (h.0 refl)
run_claim (b ∷ s) h = choose_claim (b == dollar) (b == at_sign && nat_lt 1 (length (b ∷ s))) (is_int (b ∷ s)) (b ∷ s) s
    (λ e. subst (λ (c : ℕ). IsRun (c ∷ s)) (eqb-true b dollar e) h)

piece_claim : (p : Piece) → IsPiece p → SeenClaim (piece_seen p)
piece_claim (blank b) h = tt
piece_claim (line t) h = tt
piece_claim (block t) h = tt
piece_claim opening h = tt
piece_claim closing h = tt
piece_claim (run r) h = run_claim r h
piece_claim (quoted_piece ps) h = h.1

with_claim : (s : Seen) (at end : ℕ) (cs : List (List ℕ)) (more : List (List ℕ) → List Lexed) → SeenClaim s → ((ds : List (List ℕ)) → Claims (more ds)) → Claims (with_seen s at end cs more)
with_claim nothing at end cs more h k = k cs
with_claim (comment t) at end cs more h k = k (cs ++ t ∷ [])
with_claim (token t) at end cs more h k = (h, k [])

pieces_claim : (n at : ℕ) (cs : List (List ℕ)) (ps : List Piece) (text rest : List ℕ) → Stand n ps text rest → Claims (tokens_from at cs ps)
pieces_claim n at cs [] text rest h = tt
pieces_claim n at cs (p ∷ ps) text rest h = with_claim (piece_seen p) at (at + length (spelling p)) cs (λ ds. tokens_from (at + length (spelling p)) ds ps) (piece_claim p h.1.piece)
    (λ ds. pieces_claim (open_after n p) (at + length (spelling p)) ds ps h.0 rest h.2)

abbrev pub named_well : Name → Type 0
named_well n = IsIdentifier n.name

token_claims : (ts : List Lexed) → Claims ts → NamesOfTokens named_well IsUtf8 ts
token_claims [] h = tt
token_claims (l ∷ ts) h = (
  token_names named_well IsUtf8 l.token l.start l.end (λ x e. subst (λ (t : Token). TokenClaim t) e h.0) (λ x e. subst (λ (t : Token). TokenClaim t) e h.0),
  token_claims ts h.1,
)

-- a text that reads as a document has identifiers for names, UTF-8 for quoted texts, and records with fields
pub read_names : (text : List ℕ) (d : Document) → Reads text d → AllNames named_well IsUtf8 d
read_names text d r =
    let claims : Claims r.tokens = subst (λ (ts : List Lexed). Claims ts) (sym r.lexed.2) (pieces_claim 0 0 [] r.lexed.0 text [] r.lexed.1) in
    document_names named_well IsUtf8 r.tokens r.parsed.steps d (token_claims r.tokens claims) r.parsed.derives r.parsed.meaning

-- ---- records have fields

module _ (P : Name → Type 0) (Q : List ℕ → Type 0) where
  has_one : (fs : Fields) → GrammarHasOne fs → HasOne fs
  has_one no_fields h = h
  has_one (one_field k m t fs) h = tt

  mutual
    filled : (t : TypeTree) → NamesOfType P Q t → Filled t
    filled (TypeTree.ident m) h = tt
    filled (TypeTree.builtin b) h = tt
    filled TypeTree.string h = tt
    filled TypeTree.boolean h = tt
    filled TypeTree.handle h = tt
    filled (TypeTree.list_of t) h = filled t h
    filled (TypeTree.pointer_to t) h = filled t h
    filled (TypeTree.const_pointer_to t) h = filled t h
    filled (TypeTree.tuple_of ts) h = filled_types ts h
    filled (TypeTree.enum_of r ns) h = tt
    filled (TypeTree.flags_of r ns) h = tt
    filled (TypeTree.record_of fs) h = (has_one fs h.0, filled_fields fs h.1)
    filled (TypeTree.union_of t fs) h = (filled_maybe t h.0, filled_union fs h.1)
    filled (TypeTree.variant_of t cs) h = (filled_maybe t h.0, filled_cases cs h.1)
    filled (TypeTree.expected t u) h = (filled_maybe t h.0, filled_maybe u h.1)

    filled_maybe : (t : Maybe) → NamesOfMaybe P Q t → FilledMaybe t
    filled_maybe absent h = tt
    filled_maybe (present t) h = filled t h

    filled_types : (ts : Types) → NamesOfTypes P Q ts → FilledTypes ts
    filled_types no_types h = tt
    filled_types (one_type t ts) h = (filled t h.0, filled_types ts h.1)

    filled_fields : (fs : Fields) → NamesOfFields P Q fs → FilledFields fs
    filled_fields no_fields h = tt
    filled_fields (one_field k m t fs) h = (filled t h.0.1, filled_fields fs h.1)

    filled_union : (fs : UnionFields) → NamesOfUnionFields P Q fs → FilledUnion fs
    filled_union no_union_fields h = tt
    filled_union (one_union_field k t fs) h = (filled t h.0, filled_union fs h.1)

    filled_cases : (cs : Cases) → NamesOfCases P Q cs → FilledCases cs
    filled_cases no_cases h = tt
    filled_cases (one_case k m t cs) h = (filled_maybe t h.0.1, filled_cases cs h.1)

  filled_decls : (ds : List NotedDecl) → NamesOfDecls P Q ds → FilledDecls ds
  filled_decls [] h = tt
  filled_decls (d ∷ ds) h = (filled_decl d.decl h.0, filled_decls ds h.1)
    where
      filled_decl : (d : DeclTree) → NamesOfDecl P Q d → FilledDecl d
      filled_decl (memory q) h = tt
      filled_decl (function q ps rs n s) h = (filled_fields ps h.1.0, filled_fields rs h.1.1)

  pub filled_item : (i : forms.FormTree) → NamesOfItem P Q i → FilledItem i
  filled_item (forms.uses t) h = tt
  filled_item (forms.typename m t) h = filled t h.1
  filled_item (forms.module_of m ds) h = filled_decls ds h.1
  filled_item (forms.constant cs t m v) h = tt
