-- Values that are stored at an address.
use Rattle.std.proofs.Common.{◌≡◌, ℕ, ◌+◌, ◌^◌, ◌≤◌, Bool, true, false, ◌&&◌, ◌||◌, refl, sym, ap, ◌∙◌, arith, Some, None, nat_eq, nat_le, nat_lt}
use Rattle.witx_ast.specs.Plain.{Plain, plain}
use Rattle.witx_ast.specs.Tags.{fits}
use Rattle.witx_ast.specs.ValueTests.{is_value}
use Rattle.witx_ast.specs.Values as plain_value
use Rattle.witx_ast.specs.Views.{tree_of, named_tree}
use Rattle.witx_ast.specs.declared.types.NamedType.{NamedType}
use Rattle.witx_ast.proofs.Decided.{decides-le}
use Rattle.witx_ast.proofs.Trees.{tree-NamedType}
use Rattle.std.proofs.lemmas.Bool.{eqb-true}
use Rattle.witx_layout.specs.Numbers.{size_of}
use Rattle.witx_machine.specs.Words.{Word, when}
use Rattle.witx_bytes.specs.Bytes.{Bytes, all_held, image_written}
use Rattle.witx_bytes.specs.Images.{image}
use Rattle.witx_bytes.specs.ByteMachine.{has_room}
use Rattle.witx_call.specs.Room.{Room}
use Rattle.witx_invoke.specs.Placing.{is_address, is_writable, placing, value_put}
use Rattle.witx_call.specs.WordViews.{u32_in}

none_some : {A : Type 0} {x : A} → None ≡ Some x → ⊥
none_some e = cc

some-same : {A : Type 0} {x y : A} → Some x ≡ Some y → x ≡ y
some-same e = cc

-- the word is an address, and this is its number
pub is-number : (w : Word) (n : ℕ) → Some n ≡ u32_in w → (is_address w ≡ true) × (n ≡ w.bits)
is-number w n e = by (is_address w) refl e
  where
    by : (b : Bool) → is_address w ≡ b → Some n ≡ when b (Some w.bits) → (is_address w ≡ true) × (n ≡ w.bits)
    by true h e = (h, some-same e)
    by false h e = absurd (none_some (sym e))

pub no-number : (w : Word) → None ≡ u32_in w → is_address w ≡ false
no-number w e = by (is_address w) refl e
  where
    by : (b : Bool) → is_address w ≡ b → None ≡ when b (Some w.bits) → is_address w ≡ false
    by true h e = absurd (none_some e)
    by false h e = h

-- a type of 2^64 bytes or more has no room
pub no-room : (t : Plain) (at : ℕ) (m : Bytes) → 2 ^ 64 ≤ size_of t → false ≡ has_room t at m
no-room t at m l = by (nat_eq (size_of t) 0) refl (nat_le (at + size_of t) (2 ^ 32)) refl
  where
    by : (z : Bool) → nat_eq (size_of t) 0 ≡ z → (b : Bool) → nat_le (at + size_of t) (2 ^ 32) ≡ b → false ≡ has_room t at m
    by true e b f = let none = eqb-true (size_of t) 0 e in absurd (omega (arith, none, l))
    by false e true f = let le = (decides-le (at + size_of t) (2 ^ 32)).0 f in absurd (omega (arith, le, l))
    by false e false f = sym (ap (λ z. z || ((nat_lt 0 at && nat_le (at + size_of t) (2 ^ 32)) && all_held at (size_of t) m)) e ∙ ap (λ b. (nat_lt 0 at && b) && all_held at (size_of t) m) f ∙ closed (nat_lt 0 at))
      where
        closed : (b : Bool) → (b && false) && all_held at (size_of t) m ≡ false
        closed true = refl
        closed false = refl

module _ (n : NamedType) (w : Word) (v : plain_value.Value) (m : Room) where
  whole : placing.set (named_tree n) w v m ≡ when (is_address w && (has_room (plain (tree_of n.tref)) w.bits m.bytes && is_writable (plain (tree_of n.tref)) v)) (Some (value_put (plain (tree_of n.tref)) v w.bits m))
  whole = ap (λ t. when (is_address w && (has_room (plain t) w.bits m.bytes && is_writable (plain t) v)) (Some (value_put (plain t) v w.bits m))) (tree-NamedType n)

  pub no-address : None ≡ u32_in w → None ≡ placing.set (named_tree n) w v m
  no-address e = sym (whole ∙ ap (λ b. when (b && (has_room (plain (tree_of n.tref)) w.bits m.bytes && is_writable (plain (tree_of n.tref)) v)) (Some (value_put (plain (tree_of n.tref)) v w.bits m))) (no-number w e))

  module _ (at : ℕ) (e : Some at ≡ u32_in w) where
    tests : (r f : Bool) → has_room (plain (tree_of n.tref)) at m.bytes ≡ r → is_writable (plain (tree_of n.tref)) v ≡ f → placing.set (named_tree n) w v m ≡ when (r && f) (Some (value_put (plain (tree_of n.tref)) v at m))
    tests r f h k =
        whole
        ∙ ap (λ b. when (b && (has_room (plain (tree_of n.tref)) w.bits m.bytes && is_writable (plain (tree_of n.tref)) v)) (Some (value_put (plain (tree_of n.tref)) v w.bits m))) (is-number w at e).0
        ∙ ap (λ a. when (has_room (plain (tree_of n.tref)) a m.bytes && is_writable (plain (tree_of n.tref)) v) (Some (value_put (plain (tree_of n.tref)) v a m))) (sym (is-number w at e).1)
        ∙ ap (λ r. when (r && is_writable (plain (tree_of n.tref)) v) (Some (value_put (plain (tree_of n.tref)) v at m))) h
        ∙ ap (λ f. when (r && f) (Some (value_put (plain (tree_of n.tref)) v at m))) k

    pub not-stored : has_room (plain (tree_of n.tref)) at m.bytes ≡ false → None ≡ placing.set (named_tree n) w v m
    not-stored h = sym (tests false (is_writable (plain (tree_of n.tref)) v) h refl)

    pub unfit : has_room (plain (tree_of n.tref)) at m.bytes ≡ true → is_writable (plain (tree_of n.tref)) v ≡ false → None ≡ placing.set (named_tree n) w v m
    unfit h k = sym (tests true false h k)

    pub stored : (k : Bytes) → has_room (plain (tree_of n.tref)) at m.bytes ≡ true → is_writable (plain (tree_of n.tref)) v ≡ true → ((x : ℕ) → k x ≡ image_written at (image (plain (tree_of n.tref)) v) m.bytes x) → Some (record { bytes = k; taken = m.taken }) ≡ placing.set (named_tree n) w v m
    stored k h f z = ap (λ (b : Bytes). Some (record { bytes = b; taken = m.taken })) (λ i x. z x i) ∙ sym (tests true true h f)

pub is-fit : (t : Plain) (v : plain_value.Value) → is_writable t v ≡ true → fits t ≡ true
is-fit t v e = right (is_value t v) (fits t) e
  where
    right : (a b : Bool) → a && b ≡ true → b ≡ true
    right true b e = e
    right false b e = absurd (clash e)
      where
        clash : false ≡ true → ⊥
        clash e = cc

pub is-one : (t : Plain) (v : plain_value.Value) → is_writable t v ≡ true → is_value t v ≡ true
is-one t v e = left (is_value t v) (fits t) e
  where
    left : (a b : Bool) → a && b ≡ true → a ≡ true
    left true b e = refl
    left false b e = e

pub ruleset store_rules = (no-room)

pub ruleset storing_rules = (no-address)
