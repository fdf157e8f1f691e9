-- What a token of a kind stands for, read off its spelling.
use Rattle.std.proofs.Common.{◌≡◌, ℕ, Bool, true, false, cond, List, [], ◌∷◌, Some, None, refl, sym, ap, ◌∙◌, subst}
use Rattle.witx_lex.specs.Characters.{dollar}
use Rattle.witx_lex.specs.Slices.{SpellsToken}
use Rattle.witx_lex.specs.Tokens.{Token, left, right, id, word, annot, int, quoted, Lexed}
use Rattle.witx_lex.specs.declared.token.Span.{Span}
use Rattle.witx_values.specs.TextTokens.{span_of}
use Rattle.witx_values.proofs.Fitting.{no_value, none_left}
use Rattle.witx_values.proofs.Mute.{no_sorts_spelled}
use Rattle.witx_language.specs.declared.sort.Sort.{Sort}
use Rattle.witx_language.specs.declared.token_kind.TokenKind.{TokenKind}
use Rattle.witx_language.specs.declared.token_kind.TokenKind.TheVariants.{Id, Quoted, Integer, BigInteger, Other}
use Rattle.witx_language.specs.Actions.{the_language}
use Rattle.witx_language.specs.Integers.{is_small, int_value}
use Rattle.witx_language.specs.Sorts.{terminal_sorts}
use Rattle.witx_language.specs.TokenKinds.{the_words, the_annotations, token_kind}
use Rattle.witx_language.specs.Values.{a_name, a_text, an_integer, token_values, leaf}
use Rattle.witx_language.proofs.Lawful.{lawful}

-- ---- only one form of token is of each kind for which something stands

no_kind : (k j : TokenKind) (s : Sort) → [] ≡ terminal_sorts k → terminal_sorts j ≡ s ∷ [] → k ≡ j → ⊥
no_kind k j s none one e = no_value s (none ∙ ap terminal_sorts e ∙ one)

no_word : (t : List ℕ) (j : TokenKind) (s : Sort) → terminal_sorts j ≡ s ∷ [] → token_kind (word t) ≡ j → ⊥
no_word t j s one e = no_kind (token_kind (word t)) j s (no_sorts_spelled terminal_sorts Other the_words t refl refl) one e

no_annotation : (t : List ℕ) (j : TokenKind) (s : Sort) → terminal_sorts j ≡ s ∷ [] → token_kind (annot t) ≡ j → ⊥
no_annotation t j s one e = no_kind (token_kind (annot t)) j s (no_sorts_spelled terminal_sorts Other the_annotations t refl refl) one e

no_name : (b : Bool) → cond b Integer BigInteger ≡ Id → ⊥
no_name true e = absurd cc
no_name false e = absurd cc

no_text : (b : Bool) → cond b Integer BigInteger ≡ Quoted → ⊥
no_text true e = absurd cc
no_text false e = absurd cc

is_integer : (b : Bool) → cond b Integer BigInteger ≡ Integer → b ≡ true
is_integer true e = refl
is_integer false e = absurd cc

an_id : (t : Token) → token_kind t ≡ Id → (x : List ℕ) × (t ≡ id x)
an_id left e = absurd cc
an_id right e = absurd cc
an_id (id x) e = (x, refl)
an_id (word x) e = absurd (no_word x Id _ refl e)
an_id (annot x) e = absurd (no_annotation x Id _ refl e)
an_id (int x) e = absurd (no_name (is_small x) e)
an_id (quoted x) e = absurd cc

a_string : (t : Token) → token_kind t ≡ Quoted → (x : List ℕ) × (t ≡ quoted x)
a_string left e = absurd cc
a_string right e = absurd cc
a_string (id x) e = absurd cc
a_string (word x) e = absurd (no_word x Quoted _ refl e)
a_string (annot x) e = absurd (no_annotation x Quoted _ refl e)
a_string (int x) e = absurd (no_text (is_small x) e)
a_string (quoted x) e = (x, refl)

a_number : (t : Token) → token_kind t ≡ Integer → (x : List ℕ) × (t ≡ int x) × (is_small x ≡ true)
a_number left e = absurd cc
a_number right e = absurd cc
a_number (id x) e = absurd cc
a_number (word x) e = absurd (no_word x Integer _ refl e)
a_number (annot x) e = absurd (no_annotation x Integer _ refl e)
a_number (int x) e = (x, refl, is_integer (is_small x) e)
a_number (quoted x) e = absurd cc

-- ---- what is spelled so, and what stands for it

same_rest : (b : ℕ) (x y : List ℕ) → b ∷ x ≡ b ∷ y → x ≡ y
same_rest b x y e = cc

pub name_spelled : (l : Lexed) (bytes : List ℕ) → token_kind l.token ≡ Id → SpellsToken bytes l.token → (x : List ℕ) × (bytes ≡ dollar ∷ x)
name_spelled l bytes k spelled = let h = an_id l.token k in (h.0, subst (λ (t : Token). SpellsToken bytes t) h.1 spelled)

pub name_stands : (l : Lexed) (bytes name : List ℕ) (s : Span) → token_kind l.token ≡ Id → SpellsToken bytes l.token → bytes ≡ dollar ∷ name → s ≡ span_of l
    → a_name (record { name = name; start = s.start; end = s.end }) ∷ [] ≡ leaf l
name_stands l bytes name s k spelled e place =
    let h = an_id l.token k in
    let same : name ≡ h.0 = same_rest dollar name h.0 (sym e ∙ subst (λ (t : Token). SpellsToken bytes t) h.1 spelled) in
    ap (λ (x : List ℕ). a_name (record { name = x; start = s.start; end = s.end }) ∷ []) same
    ∙ ap (λ (z : Span). a_name (record { name = h.0; start = z.start; end = z.end }) ∷ []) place
    ∙ ap (λ (t : Token). token_values t l.start l.end) (sym h.1)

pub text_spelled : (l : Lexed) (bytes : List ℕ) → token_kind l.token ≡ Quoted → SpellsToken bytes l.token → (x : List ℕ) × SpellsToken bytes (quoted x)
text_spelled l bytes k spelled = let h = a_string l.token k in (h.0, subst (λ (t : Token). SpellsToken bytes t) h.1 spelled)

pub text_stands : (l : Lexed) (bytes text : List ℕ) (s : Span) → token_kind l.token ≡ Quoted → SpellsToken bytes l.token
    → ((x : List ℕ) → SpellsToken bytes (quoted x) → text ≡ x) → s ≡ span_of l → a_text (record { text = text; start = s.start; end = s.end }) ∷ [] ≡ leaf l
text_stands l bytes text s k spelled only place =
    let h = a_string l.token k in
    ap (λ (x : List ℕ). a_text (record { text = x; start = s.start; end = s.end }) ∷ []) (only h.0 (subst (λ (t : Token). SpellsToken bytes t) h.1 spelled))
    ∙ ap (λ (z : Span). a_text (record { text = h.0; start = z.start; end = z.end }) ∷ []) place
    ∙ ap (λ (t : Token). token_values t l.start l.end) (sym h.1)

some_number : (v n : ℕ) (b : Bool) → b ≡ true → Some v ≡ cond b (Some n) None → v ≡ n
some_number v n true t e = cc
some_number v n false t e = absurd cc

no_number : (n : ℕ) (b : Bool) → b ≡ true → None ≡ cond b (Some n) None → ⊥
no_number n true t e = absurd cc
no_number n false t e = absurd cc

number_of : (x : List ℕ) (b : Bool) → is_small x ≡ b → b ≡ true → an_integer (int_value x) ∷ [] ≡ cond b (an_integer (int_value x) ∷ []) []
number_of x true e t = refl
number_of x false e t = absurd cc

pub number_stands : (l : Lexed) (bytes : List ℕ) (v : ℕ) → token_kind l.token ≡ Integer → SpellsToken bytes l.token → Some v ≡ cond (is_small bytes) (Some (int_value bytes)) None
    → an_integer v ∷ [] ≡ leaf l
number_stands l bytes v k spelled e =
    let h = a_number l.token k in
    let same : bytes ≡ h.0 = subst (λ (t : Token). SpellsToken bytes t) h.1 spelled in
    let is : v ≡ int_value h.0 = some_number v (int_value h.0) (is_small h.0) h.2 (e ∙ ap (λ (x : List ℕ). cond (is_small x) (Some (int_value x)) None) same) in
    ap (λ (n : ℕ). an_integer n ∷ []) is
    ∙ number_of h.0 (is_small h.0) refl h.2
    ∙ ap (λ (t : Token). token_values t l.start l.end) (sym h.1)

-- an integer token has a number
pub number_there : (l : Lexed) (bytes : List ℕ) → token_kind l.token ≡ Integer → SpellsToken bytes l.token → None ≡ cond (is_small bytes) (Some (int_value bytes)) None → ⊥
number_there l bytes k spelled e =
    let h = a_number l.token k in
    let same : bytes ≡ h.0 = subst (λ (t : Token). SpellsToken bytes t) h.1 spelled in
    no_number (int_value h.0) (is_small h.0) h.2 (e ∙ ap (λ (x : List ℕ). cond (is_small x) (Some (int_value x)) None) same)

no_sort : (k : TokenKind) → (k ≡ Id → ⊥) → (k ≡ Quoted → ⊥) → (k ≡ Integer → ⊥) → terminal_sorts k ≡ []
no_sort Id i q n = absurd (i refl)
no_sort Quoted i q n = absurd (q refl)
no_sort Integer i q n = absurd (n refl)
no_sort k i q n = refl

-- tokens of other kinds stand for nothing
pub nothing_stands : (l : Lexed) (k : TokenKind) → k ≡ token_kind l.token → (k ≡ Id → ⊥) → (k ≡ Quoted → ⊥) → (k ≡ Integer → ⊥) → leaf l ≡ []
nothing_stands l k e i q n = none_left the_language lawful (leaf l) (lawful.tokens l ∙ ap terminal_sorts (sym e) ∙ no_sort k i q n)
