-- Words, lists and tuples of symbols.
use Rattle.std.proofs.Common.{◌≡◌, ◌≢◌, ℕ, suc, Bool, true, false, refl, sym, ap, ◌∙◌, List, [], ◌∷◌, length, Some, None, nat_eq}
use Rattle.std.proofs.lemmas.Bool.{eq-eqb, eqb-true, false≢true, true≢false}
use Rattle.witx_ast.specs.Plain.{Plain}
use Rattle.witx_machine.specs.Words.{when}
use Rattle.witx_symbols.specs.Symbols.{Source, Symbol, atom, tuple, made, bare_made, list_address, list_length, symbols_listed, symbol_from}
use Rattle.witx_symbols.specs.Symbolic.{symbol_list_words, symbol_parts}
use Rattle.witx_symbols.specs.SymbolViews.{symbols_read}
use Rattle.witx_symbols.specs.WordViews.{Shared, shared_of, shared_symbols}
use Rattle.witx_symbols.specs.Typing.{is_listed_type, is_list_symbol}
use Rattle.witx_symbols.proofs.EachType.{each-type}
use Rattle.witx_symbols.proofs.KindLemmas.{kind_rules}

pub words-list : (v : Symbol) → is_list_symbol v ≡ true → symbol_list_words v ≡ Some (list_address v, list_length v)
words-list (atom s (Plain.list_of t)) e = refl
words-list (atom s (Plain.builtin b)) e = absurd (false≢true e)
words-list (atom s Plain.handle) e = absurd (false≢true e)
words-list (atom s (Plain.pointer_to t)) e = absurd (false≢true e)
words-list (atom s (Plain.const_pointer_to t)) e = absurd (false≢true e)
words-list (atom s (Plain.record_of k ms)) e = absurd (false≢true e)
words-list (atom s (Plain.variant_of r cs)) e = absurd (false≢true e)
words-list (tuple vs) e = absurd (false≢true e)
words-list (made i v) e = absurd (false≢true e)
words-list (bare_made i) e = absurd (false≢true e)

pub words-none : (v : Symbol) → is_list_symbol v ≡ false → symbol_list_words v ≡ None
words-none (atom s (Plain.list_of t)) e = absurd (true≢false e)
words-none (atom s (Plain.builtin b)) e = refl
words-none (atom s Plain.handle) e = refl
words-none (atom s (Plain.pointer_to t)) e = refl
words-none (atom s (Plain.const_pointer_to t)) e = refl
words-none (atom s (Plain.record_of k ms)) e = refl
words-none (atom s (Plain.variant_of r cs)) e = refl
words-none (tuple vs) e = refl
words-none (made i v) e = refl
words-none (bare_made i) e = refl

pub from-list : (t : Plain) (s : Source) → is_list_symbol (symbol_from t s) ≡ is_listed_type t
from-list t s = each-type (λ t. is_list_symbol (symbol_from t s) ≡ is_listed_type t) (λ ms. refl) (λ r ms. refl) (λ ms. refl) (λ b. refl) refl (λ t. refl) (λ t. refl) (λ t. refl) (λ r cs. refl) t

pub listed-read : (vs : List Shared) → symbols_listed (symbols_read vs) ≡ shared_symbols vs
listed-read [] = refl
listed-read (v ∷ vs) = ap (λ l. shared_of v ∷ l) (listed-read vs)

pub shared-length : (vs : List Shared) → length (shared_symbols vs) ≡ length vs
shared-length [] = refl
shared-length (v ∷ vs) = ap suc (shared-length vs)

pub parts-all : (n : ℕ) (vs : List Shared) → length vs ≡ n → symbol_parts n (tuple (symbols_read vs)) ≡ Some (shared_symbols vs)
parts-all n vs e =
    ap (λ l. when (nat_eq n (length l)) (Some l)) (listed-read vs)
    ∙ ap (λ b. when b (Some (shared_symbols vs))) (eq-eqb n (length (shared_symbols vs)) (sym (shared-length vs ∙ e)))

pub parts-none : (n : ℕ) (vs : List Shared) → length vs ≢ n → symbol_parts n (tuple (symbols_read vs)) ≡ None
parts-none n vs ne = ap (λ l. when (nat_eq n (length l)) (Some l)) (listed-read vs) ∙ ap (λ k. when (nat_eq n k) (Some (shared_symbols vs))) (shared-length vs) ∙ go (nat_eq n (length vs)) refl
  where
    go : (b : Bool) → nat_eq n (length vs) ≡ b → when b (Some (shared_symbols vs)) ≡ None
    go false e = refl
    go true e = absurd (ne (sym (eqb-true n (length vs) e)))

pub ruleset word_rules = (kind_rules, words-list, words-none, from-list, parts-all, parts-none)
