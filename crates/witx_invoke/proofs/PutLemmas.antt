-- A value that is put at the next range.
use Rattle.std.proofs.Common.{◌≡◌, ℕ, ◌+◌, ◌^◌, ◌<◌, ◌≤◌, Bool, true, false, ◌&&◌, refl, sym, ap, ◌∙◌, arith, [], ◌∷◌, ◌++◌, Some, None, nat_le}
use Rattle.std.specs.Prelude.{option_map}
use Rattle.witx_ast.specs.Plain.{plain}
use Rattle.witx_ast.specs.Tree.{Tree}
use Rattle.witx_ast.specs.Values as plain_value
use Rattle.witx_ast.specs.Views.{tree_of, named_tree}
use Rattle.witx_ast.specs.declared.types.NamedType.{NamedType}
use Rattle.witx_base.specs.SameBytes.{both}
use Rattle.witx_ast.proofs.Decided.{decides-le, decides-lt}
use Rattle.witx_ast.proofs.Trees.{tree-NamedType}
use Rattle.witx_layout.specs.Numbers.{align_to}
use Rattle.witx_machine.specs.Cells.{Taken}
use Rattle.witx_machine.specs.Functions.{by_address}
use Rattle.witx_machine.specs.Words.{Word, i32, when}
use Rattle.witx_bytes.specs.Bytes.{Bytes, is_free, none_held, with_zeros, image_written}
use Rattle.witx_bytes.specs.Images.{image}
use Rattle.witx_bytes.specs.ByteMachine.{has_room, range_size}
use Rattle.witx_bytes.proofs.RangeLaws.{held-own, room-of}
use Rattle.witx_call.specs.Ranges.{range_end}
use Rattle.witx_call.specs.Room.{Room, next_range, room_given, is_range_place, next_address}
use Rattle.witx_invoke.specs.Placing.{is_writable, placing, value_put}

above : (at : ℕ) (xs : Taken) → 0 < at → 0 < next_range at xs
above at [] l = l
above at (x ∷ xs) l = above (align_to (range_end x) 8) xs (omega arith)

none_some : {A : Type 0} {x : A} → None ≡ Some x → ⊥
none_some e = cc

some-same : {A : Type 0} {x y : A} → Some x ≡ Some y → x ≡ y
some-same e = cc

-- a place within 2^20 is free
free-place : (a n : ℕ) (m : Bytes) → 0 < a → is_range_place a n m ≡ true → is_free a n m ≡ true
free-place a n m l h =
    let p = both (nat_le (a + n) (2 ^ 20)) (none_held a n m) h in
    let within = (decides-le (a + n) (2 ^ 20)).0 p.0 in
    let low : a + n ≤ 2 ^ 32 = omega (arith, within) in
    ap (λ b. (b && nat_le (a + n) (2 ^ 32)) && none_held a n m) ((decides-lt 0 a).1 l)
    ∙ ap (λ b. b && none_held a n m) ((decides-le (a + n) (2 ^ 32)).1 low) ∙ p.1

abbrev pair : Word → Room → Word × Room
pair w m = (w, m)

abbrev zeros_at : Tree → Room → ℕ → Room
zeros_at t m at = record { bytes = with_zeros at (range_size (plain t)) m.bytes; taken = m.taken ++ (at, t) ∷ [] }

-- where a range was given there is room for a value of its type
pub room-given : (t : Tree) (m : Room) (a : ℕ) (k : Room) → Some (i32 a, k) ≡ room_given t m → has_room (plain t) a k.bytes ≡ true
room-given t m a k e = by (is_range_place (next_address m.taken) (range_size (plain t)) m.bytes) refl e
  where
    by : (b : Bool) → is_range_place (next_address m.taken) (range_size (plain t)) m.bytes ≡ b →
        Some (pair (i32 a) k) ≡ when b (Some (pair (i32 (next_address m.taken)) (zeros_at t m (next_address m.taken)))) → has_room (plain t) a k.bytes ≡ true
    by false h e = absurd (none_some (sym e))
    by true h e =
        let same : pair (i32 a) k ≡ pair (i32 (next_address m.taken)) (zeros_at t m (next_address m.taken)) = some-same e in
        ap (λ (p : Word × Room). has_room (plain t) p.0.bits p.1.bytes) same
        ∙ room-of (plain t) (next_address m.taken) (with_zeros (next_address m.taken) (range_size (plain t)) m.bytes)
        (held-own (next_address m.taken) (range_size (plain t)) m.bytes (free-place (next_address m.taken) (range_size (plain t)) m.bytes (above 16 m.taken (omega arith)) h))

module _ (n : NamedType) (v : plain_value.Value) (m : Room) where
  whole : placing.put (named_tree n) v m ≡ when (by_address (plain (tree_of n.tref)) && is_writable (plain (tree_of n.tref)) v) (option_map (λ r. (r.0, value_put (plain (tree_of n.tref)) v r.0.bits r.1)) (room_given (named_tree n) m))
  whole = ap (λ t. when (by_address (plain t) && is_writable (plain t) v) (option_map (λ (r : Word × Room). (r.0, value_put (plain t) v r.0.bits r.1)) (room_given (named_tree n) m))) (tree-NamedType n)

  tests : (b f : Bool) → by_address (plain (tree_of n.tref)) ≡ b → is_writable (plain (tree_of n.tref)) v ≡ f → placing.put (named_tree n) v m ≡ when (b && f) (option_map (λ r. (r.0, value_put (plain (tree_of n.tref)) v r.0.bits r.1)) (room_given (named_tree n) m))
  tests b f h k =
      whole
      ∙ ap (λ b. when (b && is_writable (plain (tree_of n.tref)) v) (option_map (λ (r : Word × Room). (r.0, value_put (plain (tree_of n.tref)) v r.0.bits r.1)) (room_given (named_tree n) m))) h
      ∙ ap (λ f. when (b && f) (option_map (λ (r : Word × Room). (r.0, value_put (plain (tree_of n.tref)) v r.0.bits r.1)) (room_given (named_tree n) m))) k

  pub not-passed : by_address (plain (tree_of n.tref)) ≡ false → None ≡ placing.put (named_tree n) v m
  not-passed h = sym (tests false (is_writable (plain (tree_of n.tref)) v) h refl)

  module _ (h : by_address (plain (tree_of n.tref)) ≡ true) where
    pub not-fit : is_writable (plain (tree_of n.tref)) v ≡ false → None ≡ placing.put (named_tree n) v m
    not-fit k = sym (tests true false h k)

    module _ (k : is_writable (plain (tree_of n.tref)) v ≡ true) where
      pub no-place : None ≡ room_given (named_tree n) m → None ≡ placing.put (named_tree n) v m
      no-place e = ap (option_map (λ (r : Word × Room). (r.0, value_put (plain (tree_of n.tref)) v r.0.bits r.1))) e ∙ sym (tests true true h k)

      pub put-there : (a : ℕ) (given_one : Room) (bytes : Bytes) → Some (i32 a, given_one) ≡ room_given (named_tree n) m → ((x : ℕ) → bytes x ≡ image_written a (image (plain (tree_of n.tref)) v) given_one.bytes x) →
          Some (i32 a, record { bytes = bytes; taken = given_one.taken }) ≡ placing.put (named_tree n) v m
      put-there a given_one bytes e z =
          ap (λ (b : Bytes). Some (i32 a, record { bytes = b; taken = given_one.taken })) (λ i x. z x i)
          ∙ ap (option_map (λ (r : Word × Room). (r.0, value_put (plain (tree_of n.tref)) v r.0.bits r.1))) e ∙ sym (tests true true h k)

pub room-named : (n : NamedType) (m : Room) (a : ℕ) (k : Room) → Some (i32 a, k) ≡ room_given (named_tree n) m → has_room (plain (tree_of n.tref)) a k.bytes ≡ true
room-named n m a k e = ap (λ t. has_room (plain t) a k.bytes) (sym (tree-NamedType n)) ∙ room-given (named_tree n) m a k e
