-- The words of a language: each is of one kind of tokens, tied to its spelling.
use Rattle.std.specs.Prelude.{ℕ, if◌then◌else◌, List, [], ◌∷◌, map, IsTrue}
use Rattle.witx_base.specs.Texts.{same_text}
use Rattle.witx_grammar.specs.Prediction.{are_distinct}
use Rattle.witx_values.specs.declared.words.Word as code

-- a kind of tokens, and how they are spelled
pub record Spelling (K : Type 0) : Type 0 where
  pub kind : K
  pub text : List ℕ

-- tokens of this kind are spelled so
abbrev pub spelled : {K : Type 0} → K → List ℕ → Spelling K
spelled k t = record { kind = k; text = t }

-- a word of the code
abbrev pub spelling_view : {K M : Type 0} → code.Word K M → Spelling K
spelling_view w = spelled w.kind w.text.now

-- the kind that is spelled so, or the other one where no word is
abbrev pub kind_spelled : {K : Type 0} → K → List (Spelling K) → List ℕ → K
kind_spelled other [] t = other
kind_spelled other (s ∷ ss) t = if same_text s.text t then s.kind else kind_spelled other ss t

-- the same of words of the code
abbrev pub kind_among : {K M : Type 0} → K → List (code.Word K M) → List ℕ → K
kind_among other ws t = kind_spelled other (map spelling_view ws) t

-- no two words are spelled alike
abbrev pub AreApart : {K : Type 0} → List (Spelling K) → Type 0
AreApart ss = IsTrue (are_distinct (λ s t. same_text s.text t.text) ss)
