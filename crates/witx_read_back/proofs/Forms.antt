-- The grammar's productions over expected tokens: a term has the form of its production, and says what it stands for.
use Rattle.std.proofs.Common.{◌≡◌, ℕ, zero, suc, List, [], ◌∷◌, ◌++◌, map, Option, Some, None, refl, sym, ap, inl, inr}
use Rattle.std.specs.Prelude.{codes}
use Rattle.std.proofs.lemmas.List.{append-nil}
use Rattle.witx_base.specs.Texts.{same_text}
use Rattle.witx_grammar.specs.Grammar.{In, Wants as WantsOf}
use Rattle.witx_grammar.specs.declared.table.Symbol.TheVariants.{Terminal, Nonterminal}
use Rattle.witx_grammar.proofs.Makes as terms
use Rattle.witx_grammar.proofs.Makes.{Language, silent, telling, inner, outer, by, stop}
use Rattle.witx_lex.specs.Tokens.{Token, left, right, id, word, annot, quoted, Lexed}
use Rattle.witx_language.specs.declared.nonterminal.Nonterminal.{Nonterminal as FormName}
use Rattle.witx_language.specs.declared.production.ProductionName.{ProductionName}
use Rattle.witx_language.specs.declared.token_kind.TokenKind.{TokenKind}
use Rattle.witx_language.specs.declared.token_kind.TokenKind.TheVariants as kind
use Rattle.witx_language.specs.Actions.{act}
use Rattle.witx_language.specs.Grammar.{written, production, the_names, the_grammar}
use Rattle.witx_language.specs.TokenKinds.{token_kind}
use Rattle.witx_language.specs.Values.{Val, a_name, a_text, token_values, leaf}
use Rattle.witx_syntax_tree.specs.Trees.{Name, QuotedText}
use Rattle.witx_render.specs.Expressions.{SExpr, with_docs}
use Rattle.witx_read_back.specs.PrintedTokens.{expr_tokens}
use Rattle.witx_read_back.proofs.Tokens.{expr_more}

abbrev pub Wants : Type 0
Wants = WantsOf TokenKind FormName

abbrev pub the_language : Language TokenKind FormName ProductionName Lexed Token Val
the_language = record { grammar = the_grammar; token = (λ l. l.token); kind = token_kind; leaf = leaf; act = act }

abbrev pub Makes : List Token → Wants → (List Val → Type 0) → Type 0
Makes xs w C = terms.Makes the_language [] xs w C

abbrev pub Reads : List Token → FormName → (Y : Type 0) → (Y → Val) → (Y → Type 0) → Type 0
Reads xs f Y c Q = terms.Reads the_language [] xs f Y c Q

-- up to the end of the text
abbrev pub ReadsOut : List Token → FormName → (Y : Type 0) → (Y → Val) → (Y → Type 0) → Type 0
ReadsOut xs f Y c Q = terms.Reads the_language (kind.End ∷ []) xs f Y c Q

-- ---- productions by their place

abbrev pub at_place : {X : Type 0} → List X → ℕ → Option X
at_place [] n = None
at_place (x ∷ xs) zero = Some x
at_place (x ∷ xs) (suc n) = at_place xs n

same_some : {X : Type 0} (x y : X) → Some y ≡ Some x → x ≡ y
same_some x y e = cc

none_some : {X : Type 0} (x : X) → None ≡ Some x → ⊥
none_some x e = cc

in_place : {X Y : Type 0} (f : X → Y) (xs : List X) (n : ℕ) (x : X) → at_place xs n ≡ Some x → In (f x) (map f xs)
in_place f [] n x e = absurd (none_some x e)
in_place f (y ∷ xs) zero x e = inl (ap f (same_some x y e))
in_place f (y ∷ xs) (suc n) x e = inr (in_place f xs n x e)

-- a production: the number of its place among all, and a term for its symbols
pub row : {last : List TokenKind} {xs : List Token} {Y : Type 0} {c : Y → Val} {Q : Y → Type 0} (x : ProductionName) (n : ℕ) → at_place the_names n ≡ Some x
    → terms.Makes the_language last xs (written x).symbols (λ us. (ls : List Lexed) → (y : Y) × ((vs : List Val) → act x ls (us ++ vs) ≡ c y ∷ vs) × Q y)
    → terms.Reads the_language last xs (written x).nonterminal Y c Q
row x n e m = by (production x) (in_place production the_names n x e) m

-- ---- tokens

tells : (x : Token) (l : Lexed) → l.token ≡ x → leaf l ≡ token_values x l.start l.end
tells x l e = ap (λ (t : Token). token_values t l.start l.end) e

pub opening : {xs : List Token} {w : Wants} {C : List Val → Type 0} → Makes xs w C → Makes (left ∷ xs) (Terminal kind.Left ∷ w) C
opening h = silent left refl (tells left) h

pub closing : {xs : List Token} {w : Wants} {C : List Val → Type 0} → Makes xs w C → Makes (right ∷ xs) (Terminal kind.Right ∷ w) C
closing h = silent right refl (tells right) h

pub a_word : {xs : List Token} {w : Wants} {C : List Val → Type 0} (x : List ℕ) {t : TokenKind} → token_kind (word x) ≡ t → Makes xs w C → Makes (word x ∷ xs) (Terminal t ∷ w) C
a_word x e h = silent (word x) e (tells (word x)) h

pub at_witx : {xs : List Token} {w : Wants} {C : List Val → Type 0} → Makes xs w C → Makes (annot (codes "witx") ∷ xs) (Terminal kind.AtWitx ∷ w) C
unfolding same_text
at_witx h = silent (annot (codes "witx")) refl (tells (annot (codes "witx"))) h

pub at_interface : {xs : List Token} {w : Wants} {C : List Val → Type 0} → Makes xs w C → Makes (annot (codes "interface") ∷ xs) (Terminal kind.AtInterface ∷ w) C
unfolding same_text
at_interface h = silent (annot (codes "interface")) refl (tells (annot (codes "interface"))) h

pub name : {xs : List Token} {w : Wants} {C : List Val → Type 0} (n : List ℕ)
    → Makes xs w (λ us. (m : Name) → m.name ≡ n → C (a_name m ∷ us)) → Makes (id n ∷ xs) (Terminal kind.Id ∷ w) C
name n h = telling (id n) Name (λ m. a_name m) (λ m. m.name ≡ n) refl (λ l e. (record { name = n; start = l.start; end = l.end }, tells (id n) l e, refl)) h

pub text : {xs : List Token} {w : Wants} {C : List Val → Type 0} (n : List ℕ)
    → Makes xs w (λ us. (m : QuotedText) → m.text ≡ n → C (a_text m ∷ us)) → Makes (quoted n ∷ xs) (Terminal kind.Quoted ∷ w) C
text n h = telling (quoted n) QuotedText (λ m. a_text m) (λ m. m.text ≡ n) refl (λ l e. (record { text = n; start = l.start; end = l.end }, tells (quoted n) l e, refl)) h

-- ---- expressions

-- an expression that is a nonterminal, and what follows it
pub expr : {last : List TokenKind} {ys : List Token} {f : FormName} {w : Wants} {Y : Type 0} {c : Y → Val} {Q : Y → Type 0} {C : List Val → Type 0} (e : SExpr)
    → Reads (expr_tokens e []) f Y c Q → terms.Makes the_language last ys w (λ us. (v : Y) → Q v → C (c v ∷ us)) → terms.Makes the_language last (expr_tokens e ys) (Nonterminal f ∷ w) C
expr {ys = ys} e g h = inner (expr_tokens e []) (expr_more e [] ys) g h

-- the last nonterminal
pub last : {end : List TokenKind} {xs : List Token} {f : FormName} {Y : Type 0} {c : Y → Val} {Q : Y → Type 0} {C : List Val → Type 0}
    → terms.Reads the_language end xs f Y c Q → ((v : Y) → Q v → C (c v ∷ [])) → terms.Makes the_language end xs (Nonterminal f ∷ []) C
last g h = outer g h

pub under_docs : {f : FormName} {Y : Type 0} {c : Y → Val} {Q : Y → Type 0} (d : List ℕ) (e : SExpr) → Reads (expr_tokens e []) f Y c Q → Reads (expr_tokens (with_docs d e) []) f Y c Q
under_docs [] e h = h
under_docs (b ∷ bs) e h = h
