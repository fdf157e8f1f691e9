-- What a token of a kind stands for, read off its spelling.
use Rattle.std.proofs.Common.{◌≡◌, ℕ, List, [], ◌∷◌, refl, sym, ap, ◌∙◌, subst}
use Rattle.witx_lex.specs.Slices.{SpellsToken}
use Rattle.witx_lex.specs.Tokens.{Token, left, right, id, word, annot, int, quoted, Lexed}
use Rattle.witx_values.proofs.Fitting.{no_value, none_left}
use Rattle.witx_values.proofs.Mute.{no_sorts_spelled}
use Rattle.witx_imports.specs.declared.symbols.TokenKind.{TokenKind}
use Rattle.witx_imports.specs.declared.symbols.TokenKind.TheVariants.{Quoted, Other}
use Rattle.witx_imports.specs.Actions.{import_language}
use Rattle.witx_imports.specs.Lawful.{lawful}
use Rattle.witx_imports.specs.Sorts.{import_terminal_sorts}
use Rattle.witx_imports.specs.TokenKinds.{import_words, import_token_kind}
use Rattle.witx_imports.specs.Values.{a_name, import_token_values, import_leaf}

a_string : (t : Token) → import_token_kind t ≡ Quoted → (x : List ℕ) × (t ≡ quoted x)
a_string left e = absurd cc
a_string right e = absurd cc
a_string (id x) e = absurd cc
a_string (word x) e = absurd (no_value _ (no_sorts_spelled import_terminal_sorts Other import_words x refl refl ∙ ap import_terminal_sorts e))
a_string (annot x) e = absurd cc
a_string (int x) e = absurd cc
a_string (quoted x) e = (x, refl)

pub text_spelled : (l : Lexed) (bytes : List ℕ) → import_token_kind l.token ≡ Quoted → SpellsToken bytes l.token → (x : List ℕ) × SpellsToken bytes (quoted x)
text_spelled l bytes k spelled = let h = a_string l.token k in (h.0, subst (λ (t : Token). SpellsToken bytes t) h.1 spelled)

pub text_stands : (l : Lexed) (bytes text : List ℕ) → import_token_kind l.token ≡ Quoted → SpellsToken bytes l.token
    → ((x : List ℕ) → SpellsToken bytes (quoted x) → text ≡ x) → a_name text ∷ [] ≡ import_leaf l
text_stands l bytes text k spelled only =
    let h = a_string l.token k in
    ap (λ (x : List ℕ). a_name x ∷ []) (only h.0 (subst (λ (t : Token). SpellsToken bytes t) h.1 spelled)) ∙ ap import_token_values (sym h.1)

no_sort : (k : TokenKind) → (k ≡ Quoted → ⊥) → import_terminal_sorts k ≡ []
no_sort Quoted q = absurd (q refl)
no_sort k q = refl

-- tokens of other kinds stand for nothing
pub nothing_stands : (l : Lexed) (k : TokenKind) → k ≡ import_token_kind l.token → (k ≡ Quoted → ⊥) → import_leaf l ≡ []
nothing_stands l k e q = none_left import_language lawful (import_leaf l) (lawful.tokens l ∙ ap import_terminal_sorts (sym e) ∙ no_sort k q)
