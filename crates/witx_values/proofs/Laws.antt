-- What holds of every text in a language: it has one value or one fault, and never both.
use Rattle.std.proofs.Common.{◌≡◌, ℕ, List, [], ◌∷◌, refl, sym, ap, ◌∙◌, subst, inl, inr, length, ◌+◌, arith}
use Rattle.std.specs.Prelude.{◌⊎◌, slice_index_or}
use Rattle.std.specs.List.{flat_map}
use Rattle.witx_grammar.specs.Grammar.{In, Derives, Rewrite}
use Rattle.witx_grammar.specs.Faults.{IsTokenFault, IsSameFault, HasDerivation, HasTokenFault}
use Rattle.witx_grammar.specs.declared.table.Step.{Step}
use Rattle.witx_grammar.specs.declared.table.Symbol.TheVariants.{Nonterminal}
use Rattle.witx_grammar.proofs.Verdicts.{no_fault, one_fault}
use Rattle.witx_lex.specs.Meaning.{HasTokens, tokens_of}
use Rattle.witx_lex.specs.Pieces.{Piece, ArePieces, spelling}
use Rattle.witx_lex.specs.Tokens.{Lexed}
use Rattle.witx_lex.specs.declared.error.LexKind.{LexKind}
use Rattle.witx_lex.proofs.Unique.{pieces_unique}
use Rattle.witx_lex.proofs.Faults.{no_pieces, one_place}
use Rattle.witx_lex.proofs.Total.{pieces_or_fault}
use Rattle.witx_values.specs.Language.{Language, grammar_of, kinds_of, stands_for, IsLawful}
use Rattle.witx_values.specs.Readings.{IsValue}
use Rattle.witx_values.specs.Texts.{Telling, HasValue, IsLexical, IsSyntactic, IsTextFault, start_of}
use Rattle.witx_values.proofs.Fitting.{first_value, reads_as}

pub one_lexing : (text : List ℕ) (ts us : List Lexed) → HasTokens text ts → HasTokens text us → ts ≡ us
one_lexing text ts us a b = a.2 ∙ ap tokens_of (pieces_unique a.0 b.0 0 text a.1 b.1) ∙ sym b.2

module _ {T N P S V : Type 0} (a : Language T N P Lexed S V) (start : N) where
  -- tokens have one derivation
  abbrev OneDerivation : List (Rewrite T N P) → Type 0
  OneDerivation g = (ms ns : List (Step P)) (ts : List T) → Derives g ms (Nonterminal start ∷ []) ts → Derives g ns (Nonterminal start ∷ []) ts → ms ≡ ns

  -- so a text has at most one value
  pub one_value : (g : List (Rewrite T N P)) → g ≡ grammar_of a → OneDerivation g → (text : List ℕ) (v w : V) → HasValue a start text v → HasValue a start text w → v ≡ w
  one_value g rows all text v w x y =
      let one : OneDerivation (grammar_of a) = subst (λ (r : List (Rewrite T N P)). OneDerivation r) rows all in
      let same : IsValue a start x.tokens w = subst (λ (ts : List Lexed). IsValue a start ts w) (one_lexing text y.tokens x.tokens y.lexed x.lexed) y.parsed in
      let steps : x.parsed.steps ≡ same.steps = one x.parsed.steps same.steps (kinds_of a x.tokens) x.parsed.derives same.derives in
      first_value v w [] [] (sym x.parsed.meaning ∙ ap (λ (ms : List (Step P)). stands_for a x.tokens ms) steps ∙ same.meaning)

module _ {T N P S V F : Type 0} (a : Language T N P Lexed S V) (start : N) (telling : Telling T F) where
  -- a text that has a value has no fault
  pub no_fault_there : (text : List ℕ) (v : V) (f : F) → HasValue a start text v → IsTextFault a start telling text f → ⊥
  no_fault_there text v f x (inl l) = no_pieces x.lexed.0 l.has_fault.0 0 text l.has_fault.1 l.fault.kind l.has_fault.2 x.lexed.1 l.has_fault.3 l.has_fault.4
  no_fault_there text v f x (inr s) =
      no_fault (grammar_of a) start (kinds_of a x.tokens) x.parsed.steps s.at s.expected x.parsed.derives
      (subst (λ (ts : List Lexed). IsTokenFault (grammar_of a) start (kinds_of a ts) s.at s.expected) (one_lexing text s.tokens x.tokens s.lexed x.lexed) s.has_fault)

  -- where a value of the sort of the nonterminal holds something
  module _ (h : IsLawful a) (g : List (Rewrite T N P)) (rows : g ≡ grammar_of a) (either : (ts : List T) → HasDerivation g start ts ⊎ HasTokenFault g start ts)
      {D : Type 0} (holding : D → V) (held : (v : V) → a.sort_of v ≡ a.nonterminal_sort start → (d : D) × (holding d ≡ v)) where
    -- a text has a value or a fault
    abbrev Read : List ℕ → Type 0
    Read text = ((d : D) × HasValue a start text (holding d)) ⊎ ((f : F) × IsTextFault a start telling text f)

    parsed : (ts : List T) → HasDerivation (grammar_of a) start ts ⊎ HasTokenFault (grammar_of a) start ts
    parsed ts = subst (λ (r : List (Rewrite T N P)). HasDerivation r start ts ⊎ HasTokenFault r start ts) rows (either ts)

    of_pieces : (text : List ℕ) (ps : List Piece) → ArePieces ps text → HasDerivation (grammar_of a) start (kinds_of a (tokens_of ps)) ⊎ HasTokenFault (grammar_of a) start (kinds_of a (tokens_of ps)) → Read text
    of_pieces text ps k (inl d) =
        let one = reads_as a h start (tokens_of ps) d.0 d.1 in
        let holds = held one.0 one.2 in
        let meaning : stands_for a (tokens_of ps) d.0 ≡ holding holds.0 ∷ [] = one.1 ∙ ap (λ (v : V). v ∷ []) (sym holds.1) in
        inl (holds.0, record { tokens = tokens_of ps; lexed = (ps, k, refl); parsed = record { steps = d.0; derives = d.1; meaning = meaning } })
    of_pieces text ps k (inr f) =
        inr (
          telling.unexpected text f.1 (slice_index_or (kinds_of a (tokens_of ps)) f.0 a.end) (start_of text (tokens_of ps) f.0),
          inr (record { tokens = tokens_of ps; lexed = (ps, k, refl); at = f.0; expected = f.1; has_fault = f.2; told = refl }),
        )

    pub value_or_fault : (text : List ℕ) → Read text
    value_or_fault text =
        elim (pieces_or_fault (length text) 0 text (omega arith) (omega arith)) [
          | inl all ↦ of_pieces text all.pieces all.stand (parsed (kinds_of a (tokens_of all.pieces)))
          | inr f ↦
              let at : ℕ = length (flat_map spelling f.pieces) + f.place in
              inr (telling.lexical text f.kind at, inl (record { fault = record { kind = f.kind; at = at }; has_fault = (f.pieces, f.rest, f.place, f.stand, f.is, refl); told = refl }))
        ]

  one_lexical : (text : List ℕ) (f g : F) (x : IsLexical a start telling text f) (y : IsLexical a start telling text g) → x.fault.kind ≡ y.fault.kind → x.fault.at ≡ y.fault.at → f ≡ g
  one_lexical text f g x y kinds places =
      x.told ∙ ap (λ (k : LexKind). telling.lexical text k x.fault.at) kinds ∙ ap (λ (n : ℕ). telling.lexical text y.fault.kind n) places ∙ sym y.told

  -- how a fault is told depends on which kinds can stand, and not on their order
  module _ (same : (text : List ℕ) (ks js : List T) (k : T) (n : ℕ) → ((t : T) → In t ks → In t js) → ((t : T) → In t js → In t ks) → telling.unexpected text ks k n ≡ telling.unexpected text js k n) where
    one_syntactic : (text : List ℕ) (f g : F) (x : IsSyntactic a start telling text f) (y : IsSyntactic a start telling text g) → x.tokens ≡ y.tokens → IsSameFault x.at x.expected y.at y.expected → f ≡ g
    one_syntactic text f g x y tokens fault =
        let told : List Lexed → ℕ → List T → F = λ ts at ks. telling.unexpected text ks (slice_index_or (kinds_of a ts) at a.end) (start_of text ts at) in
        x.told
        ∙ ap (λ (ts : List Lexed). told ts x.at x.expected) tokens
        ∙ ap (λ (n : ℕ). told y.tokens n x.expected) fault.one_place
        ∙ same text x.expected y.expected (slice_index_or (kinds_of a y.tokens) y.at a.end) (start_of text y.tokens y.at) fault.first_kinds fault.second_kinds
        ∙ sym y.told

    -- a text has at most one fault
    pub one_text_fault : (text : List ℕ) (f g : F) → IsTextFault a start telling text f → IsTextFault a start telling text g → f ≡ g
    one_text_fault text f g (inl x) (inl y) =
        let p = x.has_fault in
        let q = y.has_fault in
        let o = one_place p.0 q.0 0 text p.1 q.1 x.fault.kind y.fault.kind p.2 q.2 p.3 q.3 p.4 q.4 in
        one_lexical text f g x y o.0 (p.5 ∙ o.1 ∙ sym q.5)
    one_text_fault text f g (inl x) (inr y) = absurd (no_pieces y.lexed.0 x.has_fault.0 0 text x.has_fault.1 x.fault.kind x.has_fault.2 y.lexed.1 x.has_fault.3 x.has_fault.4)
    one_text_fault text f g (inr x) (inl y) = absurd (no_pieces x.lexed.0 y.has_fault.0 0 text y.has_fault.1 y.fault.kind y.has_fault.2 x.lexed.1 y.has_fault.3 y.has_fault.4)
    one_text_fault text f g (inr x) (inr y) =
        let tokens : x.tokens ≡ y.tokens = one_lexing text x.tokens y.tokens x.lexed y.lexed in
        one_syntactic text f g x y tokens
        (one_fault (grammar_of a) start (kinds_of a y.tokens) x.at y.at x.expected y.expected
        (subst (λ (ts : List Lexed). IsTokenFault (grammar_of a) start (kinds_of a ts) x.at x.expected) tokens x.has_fault) y.has_fault)
