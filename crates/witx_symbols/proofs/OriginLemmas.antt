-- Where a symbol comes from as one of a type: a tuple's parts come from the members of one place.
use Rattle.std.proofs.Common.{◌≡◌, ◌≢◌, ℕ, suc, ◌+◌, ◌<◌, ◌≤◌, Bool, true, false, ◌&&◌, List, [], ◌∷◌, drop, length, get_or, refl, sym, ap, ◌∙◌, arith, nat_eq, Some, None}
use Rattle.std.proofs.lemmas.Bool.{eq-eqb, eqb-true}
use Rattle.std.proofs.lemmas.List.{drop_more, drop_all}
use Rattle.witx_ast.specs.declared.types.RecordMember.{RecordMember}
use Rattle.witx_ast.specs.Plain.{Plain, Fields, plain}
use Rattle.witx_ast.specs.Views.{tree_of, members_plain}
use Rattle.witx_ast.proofs.Trees.{tree-RecordMember}
use Rattle.witx_symbols.specs.Symbols.{Source, Symbols, part, tuple, symbol_from, parts_from, same_source, same_symbol, same_members}
use Rattle.witx_symbols.specs.SymbolViews.{symbol_of, symbols_read}
use Rattle.witx_symbols.specs.Typing.{tuple_fields}
use Rattle.witx_symbols.specs.Wholes.{comes_from}
use Rattle.witx_symbols.specs.declared.wholes.Origin.{Origin}
use Rattle.witx_symbols.proofs.SymbolReads.{Shared}
use Rattle.witx_symbols.proofs.TupleLemmas.{tuple-type, other-type}
use Rattle.witx_symbols.proofs.WholeLemmas.{whole_rules}
use Rattle.witx_symbols.proofs.WholeLaws.{whole-nowhere, whole-anywhere, whole-at, made-from, bare-from, two-same, two-differ}

pub tuple-from : (t : Plain) (ms : Fields) (vs : Symbols) (z : Source) → Some ms ≡ tuple_fields t → same_symbol (tuple vs) (symbol_from t z) ≡ same_members vs (parts_from ms z 0)
tuple-from t ms vs z e = ap (λ t. same_symbol (tuple vs) (symbol_from t z)) (tuple-type t ms e)

pub tuple-elsewhere : (t : Plain) (vs : Symbols) (z : Source) → None ≡ tuple_fields t → same_symbol (tuple vs) (symbol_from t z) ≡ false
tuple-elsewhere t vs z e = other-type (λ t. same_symbol (tuple vs) (symbol_from t z) ≡ false) (λ r ms. refl) (λ ms. refl) (λ b. refl) refl (λ t. refl) (λ t. refl) (λ t. refl) (λ r cs. refl) t e

-- a part's source is a member's at a place
and_true : (b : Bool) → b && true ≡ b
and_true true = refl
and_true false = refl

and_false : (b : Bool) → b && false ≡ false
and_false true = refl
and_false false = refl

pub behind-here : (w z : Source) (i j : ℕ) → i ≡ j → same_source w z ≡ same_source (part w i) (part z j)
behind-here w z i j e = sym (ap (λ b. same_source w z && b) (eq-eqb i j e) ∙ and_true (same_source w z))

pub behind-elsewhere : (w z : Source) (i j : ℕ) → i ≢ j → false ≡ same_source (part w i) (part z j)
behind-elsewhere w z i j n = sym (go (nat_eq i j) refl)
  where
    go : (b : Bool) → nat_eq i j ≡ b → same_source w z && nat_eq i j ≡ false
    go false e = ap (λ b. same_source w z && b) e ∙ and_false (same_source w z)
    go true e = absurd (n (eqb-true i j e))

-- the parts from one on
abbrev pub parts_same : List Shared → List RecordMember → Source → ℕ → Bool
parts_same vs ms z i = same_members (symbols_read (drop i vs)) (parts_from (members_plain (drop i ms)) z i)

parts-step : (vs : List Shared) (ms : List RecordMember) (z : Source) (i : ℕ) (v : Shared) (m : RecordMember) → i < length vs → i < length ms → v ≡ get_or vs i v → m ≡ get_or ms i m →
    parts_same vs ms z i ≡ same_symbol (symbol_of v.value) (symbol_from (plain (tree_of m.tref)) (part z i)) && parts_same vs ms z (i + 1)
parts-step vs ms z i v m l k p q = rw (drop_more vs i v l, drop_more ms i m k, ← p, ← q, tree-RecordMember m) refl

and_assoc : (a b c : Bool) → a && (b && c) ≡ (a && b) && c
and_assoc true b c = refl
and_assoc false b c = refl

pub parts-left : (vs : List Shared) (ms : List RecordMember) (i : ℕ) (v : Shared) (m : RecordMember) (common found whole more : Origin) →
    i < length vs → length vs ≡ length ms → v ≡ get_or vs i v → m ≡ get_or ms i m →
    ((z : Source) → same_symbol (symbol_of v.value) (symbol_from (plain (tree_of m.tref)) z) ≡ comes_from found z) →
    ((z : Source) → comes_from whole z ≡ comes_from found (part z i)) →
    ((z : Source) → comes_from more z ≡ comes_from common z && comes_from whole z) →
    ((z : Source) → parts_same vs ms z 0 ≡ comes_from common z && parts_same vs ms z i) →
    (z : Source) → parts_same vs ms z 0 ≡ comes_from more z && parts_same vs ms z (i + 1)
parts-left vs ms i v m common found whole more l e p q f w b h z =
    h z ∙ ap (λ t. comes_from common z && t) (parts-step vs ms z i v m l (omega arith) p q)
    ∙ ap (λ t. comes_from common z && (t && parts_same vs ms z (i + 1))) (f (part z i) ∙ sym (w z))
    ∙ and_assoc (comes_from common z) (comes_from whole z) (parts_same vs ms z (i + 1))
    ∙ ap (λ t. t && parts_same vs ms z (i + 1)) (sym (b z))

from_first : {A : Type 0} (xs : List A) → drop 0 xs ≡ xs
from_first [] = refl
from_first (x ∷ xs) = refl

pub parts-whole : (vs : List Shared) (ms : List RecordMember) (z : Source) → parts_same vs ms z 0 ≡ same_members (symbols_read vs) (parts_from (members_plain ms) z 0)
parts-whole vs ms z = ap (λ xs. same_members (symbols_read xs) (parts_from (members_plain (drop 0 ms)) z 0)) (from_first vs) ∙ ap (λ xs. same_members (symbols_read vs) (parts_from (members_plain xs) z 0)) (from_first ms)

pub parts-done : (vs : List Shared) (ms : List RecordMember) (i : ℕ) (common : Origin) → length vs ≤ i → length vs ≡ length ms →
    ((z : Source) → parts_same vs ms z 0 ≡ comes_from common z && parts_same vs ms z i) →
    (z : Source) → same_members (symbols_read vs) (parts_from (members_plain ms) z 0) ≡ comes_from common z
parts-done vs ms i common l e h z = sym (parts-whole vs ms z) ∙ h z ∙ ap (λ t. comes_from common z && t) ends ∙ and_true (comes_from common z)
  where
    ends : parts_same vs ms z i ≡ true
    ends = let k : length ms ≤ i = omega arith in rw (drop_all i vs l, drop_all i ms k) refl

pub parts-longer : (vs : List Shared) (ms : List RecordMember) (z : Source) (j : ℕ) → length vs ≢ length ms → same_members (symbols_read vs) (parts_from (members_plain ms) z j) ≡ false
parts-longer [] [] z j n = absurd (n refl)
parts-longer [] (m ∷ ms) z j n = refl
parts-longer (v ∷ vs) [] z j n = refl
parts-longer (v ∷ vs) (m ∷ ms) z j n =
    rw (tree-RecordMember m) (both (same_symbol (symbol_of v.value) (symbol_from (plain (tree_of m.tref)) (part z j))) (parts-longer vs ms z (j + 1) (λ e. n (ap suc e))))
  where
    both : (t : Bool) → {u : Bool} → u ≡ false → t && u ≡ false
    both true e = e
    both false e = refl

pub ruleset origin_rules = (whole_rules, whole-nowhere, whole-anywhere, whole-at, made-from, bare-from, two-same, two-differ, tuple-from, tuple-elsewhere, behind-here, behind-elsewhere, parts-longer)
