-- Ranges that are given one behind the other.
use Rattle.std.proofs.Common.{◌≡◌, ℕ, ◌+◌, ◌^◌, ◌<◌, ◌≤◌, Bool, true, false, ◌&&◌, refl, sym, ap, ◌∙◌, arith, List, [], ◌∷◌, ◌++◌, Some, None, nat_le}
use Rattle.std.proofs.lemmas.List.{map-append}
use Rattle.witx_ast.specs.Tree.{Tree}
use Rattle.witx_ast.specs.Plain.{plain}
use Rattle.witx_ast.proofs.Decided.{decides-le}
use Rattle.witx_ast.proofs.Trees.{tree_rules}
use Rattle.witx_layout.specs.Numbers.{align_to}
use Rattle.witx_machine.specs.Cells.{Taken}
use Rattle.witx_machine.specs.Words.{when, i32}
use Rattle.witx_bytes.specs.Bytes.{Bytes, none_held, with_zeros}
use Rattle.witx_bytes.specs.ByteMachine.{range_size}
use Rattle.witx_call.specs.Ranges.{range_end}
use Rattle.witx_call.specs.Room.{Room, next_range, room_given, next_address, range_placed}
use Rattle.witx_call.specs.RangeViews.{range_of, taken_of}
use Rattle.witx_call.specs.Zeroing.{Zeroed}
use Rattle.witx_call.specs.declared.range.Range.{Range}

behind-more : (at : ℕ) (xs : Taken) (x : ℕ × Tree) → next_range at (xs ++ x ∷ []) ≡ align_to (range_end x) 8
behind-more at [] x = refl
behind-more at (y ∷ xs) x = behind-more (align_to (range_end y) 8) xs x

pub taken-more : (xs : List Range) (x : Range) → taken_of (xs ++ x ∷ []) ≡ taken_of xs ++ range_of x ∷ []
taken-more xs x = map-append range_of xs (x ∷ [])

-- the next range begins behind the one that is given
pub next-behind : (xs new : List Range) (x : Range) (len end : ℕ) → new ≡ xs ++ x ∷ [] → len ≡ range_size (plain (range_of x).1) → end ≡ x.at + len → align_to end 8 ≡ next_address (taken_of new)
next-behind xs new x len end one e f =
    ap (λ n. align_to n 8) (f ∙ ap (λ n. x.at + n) e) ∙ sym (behind-more 16 (taken_of xs) (range_of x)) ∙ sym (ap (next_range 16) (taken-more xs x)) ∙ sym (ap (λ l. next_address (taken_of l)) one)

le-true : (n k : ℕ) → n ≤ k → nat_le n k ≡ true
le-true n k l = (decides-le n k).1 l

le-false : (n k : ℕ) → k < n → nat_le n k ≡ false
le-false n k l = by (nat_le n k) refl
  where
    by : (b : Bool) → nat_le n k ≡ b → nat_le n k ≡ false
    by false h = h
    by true h = let le = (decides-le n k).0 h in absurd (omega (arith, le, l))

module _ (m : Room) (t : Tree) (at len : ℕ) (e : at ≡ next_address m.taken) (f : len ≡ range_size (plain t)) where
  given-at : range_placed t at len m ≡ room_given t m
  given-at = ap (λ a. range_placed t a len m) e ∙ ap (λ n. range_placed t (next_address m.taken) n m) f

  pub range-given : (k : Bytes) (new : Taken) → at + len ≤ 2 ^ 20 → Zeroed at len m.bytes k true → new ≡ m.taken ++ (at, t) ∷ [] → Some (i32 at, record { bytes = k; taken = new }) ≡ room_given t m
  range-given k new l z one =
      ap (λ new. Some (i32 at, record { bytes = k; taken = new })) one
      ∙ ap (λ (b : Bytes). Some (i32 at, record { bytes = b; taken = m.taken ++ (at, t) ∷ [] })) (λ i x. z.1 x i)
      ∙ sym (ap (λ b. when (b && none_held at len m.bytes) (Some (i32 at, record { bytes = with_zeros at len m.bytes; taken = m.taken ++ (at, t) ∷ [] }))) (le-true (at + len) (2 ^ 20) l)
      ∙ ap (λ b. when b (Some (i32 at, record { bytes = with_zeros at len m.bytes; taken = m.taken ++ (at, t) ∷ [] }))) z.0)
      ∙ given-at

  pub too-far : 2 ^ 20 < at + len → None ≡ room_given t m
  too-far l = sym (ap (λ b. when (b && none_held at len m.bytes) (Some (i32 at, record { bytes = with_zeros at len m.bytes; taken = m.taken ++ (at, t) ∷ [] }))) (le-false (at + len) (2 ^ 20) l)) ∙ given-at

  pub not-free : at + len ≤ 2 ^ 20 → none_held at len m.bytes ≡ false → None ≡ room_given t m
  not-free l h =
      sym (ap (λ b. when (b && none_held at len m.bytes) (Some (i32 at, record { bytes = with_zeros at len m.bytes; taken = m.taken ++ (at, t) ∷ [] }))) (le-true (at + len) (2 ^ 20) l)
      ∙ ap (λ b. when b (Some (i32 at, record { bytes = with_zeros at len m.bytes; taken = m.taken ++ (at, t) ∷ [] }))) h)
      ∙ given-at

-- a type that is larger than all the room
pub too-large : (m : Room) (t : Tree) → 2 ^ 20 < range_size (plain t) → None ≡ room_given t m
too-large m t l = too-far m t (next_address m.taken) (range_size (plain t)) refl refl (omega (arith, l))

pub ruleset placement_rules = (tree_rules, too-large)
