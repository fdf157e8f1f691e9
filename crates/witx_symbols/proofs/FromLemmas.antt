-- The symbol of a type that comes from somewhere: a tuple is made part by part.
use Rattle.std.proofs.Common.{◌≡◌, ◌≢◌, ℕ, suc, ◌+◌, ◌<◌, ◌≤◌, Bool, true, false, refl, sym, ap, ◌∙◌, List, [], ◌∷◌, ◌++◌, append_assoc, drop, map, length, get_or, Some, None, nat_eq}
use Rattle.std.proofs.lemmas.Bool.{eqb-true}
use Rattle.std.proofs.lemmas.List.{drop_more, drop_all}
use Rattle.witx_ast.specs.declared.function.InterfaceFuncParam.{InterfaceFuncParam}
use Rattle.witx_ast.specs.declared.types.RecordMember.{RecordMember}
use Rattle.witx_ast.specs.Tree.{Tree}
use Rattle.witx_ast.specs.Plain.{Plain, Fields, plain}
use Rattle.witx_ast.specs.Views.{tree_of, members_plain}
use Rattle.witx_ast.proofs.Trees.{tree-RecordMember}
use Rattle.witx_symbols.specs.Symbols.{Source, argument, atom, tuple, part, Symbols, no_symbols, symbol, symbols_listed, symbols_of, symbol_from, parts_from}
use Rattle.witx_symbols.specs.Symbols as symbols
use Rattle.witx_symbols.specs.Verdicts.{arguments_from}
use Rattle.witx_symbols.specs.SymbolViews.{symbols_read}
use Rattle.witx_symbols.specs.WordViews.{Shared, shared_of, shared_symbols}
use Rattle.witx_machine.specs.Words.{when}
use Rattle.witx_symbols.specs.Symbolic.{symbol_parts}
use Rattle.witx_symbols.specs.Typing.{tuple_fields}
use Rattle.witx_symbols.proofs.TupleLemmas.{tuple-type, other-type}
use Rattle.witx_symbols.proofs.WordLemmas.{word_rules, listed-read, shared-length, parts-all}

pub from-tuple : (t : Plain) (ms : Fields) (s : Source) → Some ms ≡ tuple_fields t → symbol_from t s ≡ tuple (parts_from ms s 0)
from-tuple t ms s e = ap (λ t. symbol_from t s) (tuple-type t ms e)

pub from-other : (t : Plain) (s : Source) → None ≡ tuple_fields t → symbol_from t s ≡ atom s t
from-other t s e = other-type (λ t. symbol_from t s ≡ atom s t) (λ r ms. refl) (λ ms. refl) (λ b. refl) refl (λ t. refl) (λ t. refl) (λ t. refl) (λ r cs. refl) t e

-- the parts made so far, and those to come
abbrev pub parts_left : List Shared → List RecordMember → Source → ℕ → List symbols.Symbol
parts_left done ms s i = shared_symbols done ++ symbols_listed (parts_from (members_plain (drop i ms)) s i)

shared-append : (xs : List Shared) (x : Shared) → shared_symbols (xs ++ x ∷ []) ≡ shared_symbols xs ++ shared_of x ∷ []
shared-append [] x = refl
shared-append (y ∷ xs) x = ap (λ l. shared_of y ∷ l) (shared-append xs x)

append-none : {A : Type 0} (xs : List A) → xs ++ [] ≡ xs
append-none [] = refl
append-none (x ∷ xs) = ap (λ l. x ∷ l) (append-none xs)

symbols-again : (vs : Symbols) → symbols_of (symbols_listed vs) ≡ vs
symbols-again no_symbols = refl
symbols-again (symbol v vs) = ap (symbol v) (symbols-again vs)

pub part-made : (done : List Shared) (ms : List RecordMember) (s : Source) (i : ℕ) (m : RecordMember) (v : Shared) (all : List symbols.Symbol) → i < length ms → m ≡ get_or ms i m → shared_of v ≡ symbol_from (plain (tree_of m.tref)) (part s i) → parts_left done ms s i ≡ all → parts_left (done ++ v ∷ []) ms s (i + 1) ≡ all
part-made done ms s i m v all l e h k =
    ap (λ d. d ++ symbols_listed (parts_from (members_plain (drop (i + 1) ms)) s (i + 1))) (shared-append done v)
    ∙ append_assoc (shared_symbols done) (shared_of v ∷ []) (symbols_listed (parts_from (members_plain (drop (i + 1) ms)) s (i + 1)))
    ∙ ap (λ x. shared_symbols done ++ (x ∷ symbols_listed (parts_from (members_plain (drop (i + 1) ms)) s (i + 1)))) h
    ∙ ap (λ p. shared_symbols done ++ symbols_listed p) (sym step) ∙ k
  where
    step : parts_from (members_plain (drop i ms)) s i ≡ symbol (symbol_from (plain (tree_of m.tref)) (part s i)) (parts_from (members_plain (drop (i + 1) ms)) s (i + 1))
    step = rw (drop_more ms i m l, ← e, tree-RecordMember m) refl

from_first : {A : Type 0} (xs : List A) → drop 0 xs ≡ xs
from_first [] = refl
from_first (x ∷ xs) = refl

pub parts-done : (done : List Shared) (ms : List RecordMember) (s : Source) (i : ℕ) → length ms ≤ i → parts_left done ms s i ≡ parts_left [] ms s 0 → symbols_read done ≡ parts_from (members_plain ms) s 0
parts-done done ms s i l h = ap symbols_of (sym (append-none (shared_symbols done)) ∙ ends ∙ h ∙ ap (λ ms. symbols_listed (parts_from (members_plain ms) s 0)) (from_first ms)) ∙ symbols-again _
  where
    ends : shared_symbols done ++ [] ≡ parts_left done ms s i
    ends = rw (drop_all i ms l) refl

-- the parts of a tuple of such members, where they are so many
part-count : (ms : List RecordMember) (s : Source) (j : ℕ) → length (symbols_listed (parts_from (members_plain ms) s j)) ≡ length ms
part-count [] s j = refl
part-count (m ∷ ms) s j = ap suc (part-count ms s (j + 1))

made-count : (vs : List Shared) (ms : List RecordMember) (s : Source) → symbols_read vs ≡ parts_from (members_plain ms) s 0 → length vs ≡ length ms
made-count vs ms s e = sym (shared-length vs) ∙ ap length (sym (listed-read vs)) ∙ ap (λ p. length (symbols_listed p)) e ∙ part-count ms s 0

pub members-parts : (n : ℕ) (ms : List RecordMember) (s : Source) (vs : List Shared) → length ms ≡ n → symbols_read vs ≡ parts_from (members_plain ms) s 0 → Some (shared_symbols vs) ≡ symbol_parts n (tuple (parts_from (members_plain ms) s 0))
members-parts n ms s vs l e = sym (ap (λ p. symbol_parts n (tuple p)) (sym e) ∙ parts-all n vs (made-count vs ms s e ∙ l))

pub members-none : (n : ℕ) (ms : List RecordMember) (s : Source) → length ms ≢ n → symbol_parts n (tuple (parts_from (members_plain ms) s 0)) ≡ None
members-none n ms s ne = ap (λ k. when (nat_eq n k) (Some all)) (part-count ms s 0) ∙ go (nat_eq n (length ms)) refl
  where
    all : List symbols.Symbol
    all = symbols_listed (parts_from (members_plain ms) s 0)

    go : (b : Bool) → nat_eq n (length ms) ≡ b → when b (Some all) ≡ None
    go false e = refl
    go true e = absurd (ne (sym (eqb-true n (length ms) e)))

-- the arguments made so far, and those to come
abbrev pub types_of : List InterfaceFuncParam → List Tree
types_of ps = map (λ p. tree_of p.tref) ps

abbrev pub arguments_left : List Shared → List InterfaceFuncParam → ℕ → List symbols.Symbol
arguments_left done ps i = shared_symbols done ++ arguments_from i (types_of (drop i ps))

pub argument-made : (done : List Shared) (ps : List InterfaceFuncParam) (i : ℕ) (p : InterfaceFuncParam) (v : Shared) (all : List symbols.Symbol) → i < length ps → p ≡ get_or ps i p → shared_of v ≡ symbol_from (plain (tree_of p.tref)) (argument i) → arguments_left done ps i ≡ all → arguments_left (done ++ v ∷ []) ps (i + 1) ≡ all
argument-made done ps i p v all l e h k =
    ap (λ d. d ++ arguments_from (i + 1) (types_of (drop (i + 1) ps))) (shared-append done v)
    ∙ append_assoc (shared_symbols done) (shared_of v ∷ []) (arguments_from (i + 1) (types_of (drop (i + 1) ps)))
    ∙ ap (λ x. shared_symbols done ++ (x ∷ arguments_from (i + 1) (types_of (drop (i + 1) ps)))) h
    ∙ ap (λ rest. shared_symbols done ++ rest) (sym step) ∙ k
  where
    step : arguments_from i (types_of (drop i ps)) ≡ symbol_from (plain (tree_of p.tref)) (argument i) ∷ arguments_from (i + 1) (types_of (drop (i + 1) ps))
    step = rw (drop_more ps i p l, ← e) refl

pub arguments-done : (done : List Shared) (ps : List InterfaceFuncParam) (i : ℕ) → length ps ≤ i → arguments_left done ps i ≡ arguments_left [] ps 0 → shared_symbols done ≡ arguments_from 0 (types_of ps)
arguments-done done ps i l h = sym (append-none (shared_symbols done)) ∙ ends ∙ h ∙ ap (λ ps. arguments_from 0 (types_of ps)) (from_first ps)
  where
    ends : shared_symbols done ++ [] ≡ arguments_left done ps i
    ends = rw (drop_all i ps l) refl

pub ruleset from_rules = (word_rules, from-tuple, from-other, part-made, parts-done, members-parts, members-none, argument-made, arguments-done)
