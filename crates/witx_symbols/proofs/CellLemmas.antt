-- What stands at the addresses given.
use Rattle.std.proofs.Common.{◌≡◌, ℕ, zero, suc, ◌<◌, Bool, true, refl, sym, ap, ◌∙◌, arith, List, [], ◌∷◌, ◌++◌, map, length, get_or, Option, Some, None, option_map, slice_get}
use Rattle.std.specs.Prelude.{set}
use Rattle.witx_ast.specs.Tree.{Tree}
use Rattle.witx_machine.specs.Words.{when}
use Rattle.witx_symbols.specs.Symbolic.{SymbolMemory, replaced, put_in}
use Rattle.witx_symbols.specs.WordViews.{Shared, shared_of, cell_of, takes_symbol}
use Rattle.witx_symbols.specs.declared.cells.Cell as declared_cell
use Rattle.witx_symbols.proofs.WordLemmas.{word_rules}

pub cells-append : (xs : List declared_cell.Cell) (x : declared_cell.Cell) → map cell_of (xs ++ x ∷ []) ≡ map cell_of xs ++ cell_of x ∷ []
cells-append [] x = refl
cells-append (y ∷ xs) x = ap (λ l. cell_of y ∷ l) (cells-append xs x)

pub cells-length : (xs : List declared_cell.Cell) → length (map cell_of xs) ≡ length xs
cells-length [] = refl
cells-length (y ∷ xs) = ap suc (cells-length xs)

pub cells-get : (xs : List declared_cell.Cell) (k : ℕ) → slice_get (map cell_of xs) k ≡ option_map cell_of (slice_get xs k)
cells-get [] k = refl
cells-get (x ∷ xs) zero = refl
cells-get (x ∷ xs) (suc k) = cells-get xs k

pub cells-set : (xs : List declared_cell.Cell) (k : ℕ) (x : declared_cell.Cell) → map cell_of (set xs k x) ≡ replaced k (cell_of x) (map cell_of xs)
cells-set [] k x = refl
cells-set (y ∷ xs) zero x = refl
cells-set (y ∷ xs) (suc k) x = ap (λ l. cell_of y ∷ l) (cells-set xs k x)

pub got-at : {A : Type 0} (xs : List A) (k : ℕ) (x : A) → k < length xs → x ≡ get_or xs k x → slice_get xs k ≡ Some x
got-at [] k x l e = absurd (omega arith)
got-at (y ∷ xs) zero x l e = ap Some (sym e)
got-at (y ∷ xs) (suc k) x l e = got-at xs k x (omega arith) e

abbrev Made : Type 0
Made = List declared_cell.Cell

abbrev pub stored_at : Made → ℕ → ℕ → Tree → Shared → Option SymbolMemory
stored_at xs left k t v = put_in t (shared_of v) k (record { made = map cell_of xs; left = left }) (slice_get (map cell_of xs) k)

stored-in : (xs : Made) (left k : ℕ) (t : Tree) (v : Shared) (x : declared_cell.Cell) → k < length xs → x ≡ get_or xs k x → (b : Bool) → takes_symbol t (shared_of v) (cell_of x) ≡ b →
    stored_at xs left k t v ≡ when b (Some (record { made = replaced k ((cell_of x).0, Some (shared_of v)) (map cell_of xs); left = left }))
stored-in xs left k t v x l e b h =
    ap (put_in t (shared_of v) k _) (cells-get xs k ∙ ap (option_map cell_of) (got-at xs k x l e))
    ∙ ap (λ b. when b (Some (record { made = replaced k ((cell_of x).0, Some (shared_of v)) (map cell_of xs); left = left }))) h

pub set-cell : (xs : Made) (left k : ℕ) (t : Tree) (v : Shared) (x y : declared_cell.Cell) → k < length xs → x ≡ get_or xs k x → y ≡ get_or xs k y → takes_symbol t (shared_of v) (cell_of x) ≡ true →
    Some (record { made = map cell_of (set xs k (record { made_for = y.made_for; content = Some v })); left = left }) ≡ stored_at xs left k t v
set-cell xs left k t v x y l e g h =
    ap (λ cs. Some (record { made = cs; left = left })) (cells-set xs k (record { made_for = y.made_for; content = Some v }))
    ∙ ap (λ n. Some (record { made = replaced k (n, Some (shared_of v)) (map cell_of xs); left = left })) (ap (λ c. (cell_of c).0) (same_cell xs k x y l e g))
    ∙ sym (stored-in xs left k t v x l e true h)
  where
    same_cell : (xs : Made) (k : ℕ) (x y : declared_cell.Cell) → k < length xs → x ≡ get_or xs k x → y ≡ get_or xs k y → y ≡ x
    same_cell [] k x y l e g = absurd (omega arith)
    same_cell (z ∷ xs) zero x y l e g = g ∙ sym e
    same_cell (z ∷ xs) (suc k) x y l e g = same_cell xs k x y (omega arith) e g

pub ruleset cell_rules = (word_rules, cells-append, cells-length, cells-get, cells-set)
