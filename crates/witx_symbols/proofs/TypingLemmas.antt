-- When a symbol is of a type.
use Rattle.std.proofs.Common.{◌≡◌, ◌≢◌, ℕ, suc, ◌+◌, ◌<◌, ◌≤◌, Bool, true, false, ◌&&◌, List, [], ◌∷◌, drop, length, get_or, refl, sym, ap, ◌∙◌, arith, Some, None}
use Rattle.std.specs.declared.alloc.Global.{Global}
use Rattle.std.specs.declared.rc.Rc.{Rc}
use Rattle.std.proofs.lemmas.List.{drop_more, drop_all}
use Rattle.witx_ast.specs.declared.types.RecordMember.{RecordMember}
use Rattle.witx_ast.specs.Plain.{Plain, Fields, plain}
use Rattle.witx_ast.specs.Views.{tree_of, members_plain}
use Rattle.witx_ast.proofs.Trees.{tree-RecordMember}
use Rattle.witx_symbols.specs.Symbols.{Symbols, tuple, made, bare_made, is_of, are_of}
use Rattle.witx_symbols.specs.Symbols as specs
use Rattle.witx_symbols.specs.SymbolViews.{symbol_of, symbols_read}
use Rattle.witx_symbols.specs.declared.symbol.Symbol.{Symbol}
use Rattle.witx_symbols.specs.Typing.{tuple_fields}
use Rattle.witx_symbols.proofs.AlikeTypes.{plain-of-behind}
use Rattle.witx_symbols.proofs.EachType.{each-type}
use Rattle.witx_symbols.proofs.SymbolReads.{symbol_rules}
use Rattle.witx_symbols.proofs.TupleLemmas.{tuple_rules, tuple-type, other-type}
use Rattle.witx_symbols.proofs.WholeLaws.{whole-is}

pub tuple-of : (t : Plain) (ms : Fields) (vs : Symbols) → Some ms ≡ tuple_fields t → is_of t (tuple vs) ≡ are_of ms vs
tuple-of t ms vs e = ap (λ t. is_of t (tuple vs)) (tuple-type t ms e)

pub tuple-other : (t : Plain) (vs : Symbols) → None ≡ tuple_fields t → is_of t (tuple vs) ≡ false
tuple-other t vs e = other-type (λ t. is_of t (tuple vs) ≡ false) (λ r ms. refl) (λ ms. refl) (λ b. refl) refl (λ t. refl) (λ t. refl) (λ t. refl) (λ r cs. refl) t e

pub of-made : (t : Plain) (i : ℕ) (v : specs.Symbol) → is_of t (made i v) ≡ false
of-made t i v = each-type (λ t. is_of t (made i v) ≡ false) (λ ms. refl) (λ r ms. refl) (λ ms. refl) (λ b. refl) refl (λ t. refl) (λ t. refl) (λ t. refl) (λ r cs. refl) t

pub of-bare : (t : Plain) (i : ℕ) → is_of t (bare_made i) ≡ false
of-bare t i = each-type (λ t. is_of t (bare_made i) ≡ false) (λ ms. refl) (λ r ms. refl) (λ ms. refl) (λ b. refl) refl (λ t. refl) (λ t. refl) (λ t. refl) (λ r cs. refl) t

abbrev Shared : Type 0
Shared = Rc Symbol Global

abbrev pub left_of : List RecordMember → List Shared → ℕ → Bool
left_of ms vs i = are_of (members_plain (drop i ms)) (symbols_read (drop i vs))

abbrev pub one_of : RecordMember → Shared → Bool
one_of m v = is_of (plain (tree_of m.tref)) (symbol_of v.value)

of-step : (ms : List RecordMember) (vs : List Shared) (i : ℕ) (m : RecordMember) (v : Shared) → i < length ms → i < length vs → m ≡ get_or ms i m → v ≡ get_or vs i v → left_of ms vs i ≡ one_of m v && left_of ms vs (i + 1)
of-step ms vs i m v l k p q = rw (drop_more ms i m l, drop_more vs i v k, ← p, ← q, tree-RecordMember m) refl

pub of-left : (ms : List RecordMember) (vs : List Shared) (i : ℕ) (m : RecordMember) (v : Shared) (all : Bool) → i < length vs → length vs ≡ length ms → m ≡ get_or ms i m → v ≡ get_or vs i v → one_of m v ≡ true → left_of ms vs i ≡ all → left_of ms vs (i + 1) ≡ all
of-left ms vs i m v all l e p q s h = let k : i < length ms = omega arith in sym (ap (λ t. t && left_of ms vs (i + 1)) s) ∙ sym (of-step ms vs i m v k l p q) ∙ h

from_first : {A : Type 0} (xs : List A) → drop 0 xs ≡ xs
from_first [] = refl
from_first (x ∷ xs) = refl

pub of-refused : (ms : List RecordMember) (vs : List Shared) (i : ℕ) (m : RecordMember) (v : Shared) (t : Bool) → i < length vs → length vs ≡ length ms → m ≡ get_or ms i m → v ≡ get_or vs i v → t ≡ one_of m v → t ≡ false → left_of ms vs i ≡ left_of ms vs 0 → false ≡ are_of (members_plain ms) (symbols_read vs)
of-refused ms vs i m v t l e p q s n h =
    let k : i < length ms = omega arith in
    sym (ap (λ t. t && left_of ms vs (i + 1)) (sym s ∙ n)) ∙ sym (of-step ms vs i m v k l p q) ∙ h ∙ ap (λ xs. are_of (members_plain xs) (symbols_read (drop 0 vs))) (from_first ms) ∙ ap (λ xs. are_of (members_plain ms) (symbols_read xs)) (from_first vs)

pub of-done : (ms : List RecordMember) (vs : List Shared) (i : ℕ) (all : Bool) → length vs ≤ i → length vs ≡ length ms → left_of ms vs i ≡ all → true ≡ all
of-done ms vs i all l e h = let k : length ms ≤ i = omega arith in sym (rw (drop_all i ms k, drop_all i vs l) refl) ∙ h

pub of-longer : (ms : List RecordMember) (vs : List Shared) → length vs ≢ length ms → false ≡ are_of (members_plain ms) (symbols_read vs)
of-longer [] [] n = absurd (n refl)
of-longer [] (v ∷ vs) n = refl
of-longer (m ∷ ms) [] n = refl
of-longer (m ∷ ms) (v ∷ vs) n = rw (tree-RecordMember m) (both (one_of m v) (of-longer ms vs (λ e. n (ap suc e))))
  where
    both : (t : Bool) → {u : Bool} → false ≡ u → false ≡ t && u
    both true e = e
    both false e = refl

pub ruleset typing_rules = (tuple_rules, symbol_rules, plain-of-behind, whole-is, tuple-of, tuple-other, of-made, of-bare, of-left, of-done, of-longer)
