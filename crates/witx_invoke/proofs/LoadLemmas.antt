-- Values that are loaded from an address.
use Rattle.std.proofs.Common.{◌≡◌, ℕ, ◌^◌, ◌<◌, ◌≤◌, Bool, true, false, ◌&&◌, refl, sym, ap, ◌∙◌, arith, Some, None, nat_lt}
use Rattle.witx_ast.specs.Plain.{Plain, plain}
use Rattle.witx_ast.specs.Tags.{fits}
use Rattle.witx_ast.specs.Views.{tree_of, named_tree}
use Rattle.witx_ast.specs.declared.types.NamedType.{NamedType}
use Rattle.witx_base.specs.SameBytes.{both}
use Rattle.witx_ast.proofs.Decided.{decides-lt}
use Rattle.witx_ast.proofs.Trees.{tree-NamedType}
use Rattle.witx_layout.specs.Numbers.{size_of}
use Rattle.witx_machine.specs.Words.{Word, when}
use Rattle.witx_bytes.specs.Reading.{value_at}
use Rattle.witx_call.specs.Room.{Room}
use Rattle.witx_invoke.specs.Placing.{is_address, is_readable, placing}
use Rattle.witx_call.specs.WordViews.{u32_in}
use Rattle.witx_invoke.proofs.StoreLemmas.{is-number, no-number}

and-true : (a b : Bool) → b ≡ true → a ≡ a && b
and-true true b e = sym e
and-true false b e = refl

and-false : (a b : Bool) → b ≡ false → false ≡ a && b
and-false true b e = sym e
and-false false b e = refl

pub too-large : (t : Plain) → 2 ^ 64 ≤ size_of t → false ≡ is_readable t
too-large t l = by (nat_lt (size_of t) (2 ^ 64)) refl
  where
    by : (b : Bool) → nat_lt (size_of t) (2 ^ 64) ≡ b → false ≡ is_readable t
    by false e = and-false (fits t) (nat_lt (size_of t) (2 ^ 64)) e
    by true e = let lt = (decides-lt (size_of t) (2 ^ 64)).0 e in absurd (omega (arith, lt, l))

pub not-large : (t : Plain) (size : ℕ) → size < 2 ^ 64 → size ≡ size_of t → fits t ≡ is_readable t
not-large t size l e = and-true (fits t) (nat_lt (size_of t) (2 ^ 64)) ((decides-lt (size_of t) (2 ^ 64)).1 (omega (arith, l, e)))

pub readable-fits : (t : Plain) → is_readable t ≡ true → fits t ≡ true
readable-fits t e = (both (fits t) (nat_lt (size_of t) (2 ^ 64)) e).0

pub readable-small : (t : Plain) → is_readable t ≡ true → size_of t < 2 ^ 64
readable-small t e = (decides-lt (size_of t) (2 ^ 64)).0 (both (fits t) (nat_lt (size_of t) (2 ^ 64)) e).1

module _ (n : NamedType) (w : Word) (m : Room) where
  whole : placing.get (named_tree n) w m ≡ when (is_address w && is_readable (plain (tree_of n.tref))) (value_at (plain (tree_of n.tref)) m.bytes w.bits)
  whole = ap (λ t. when (is_address w && is_readable (plain t)) (value_at (plain t) m.bytes w.bits)) (tree-NamedType n)

  pub loads-nowhere : None ≡ u32_in w → None ≡ placing.get (named_tree n) w m
  loads-nowhere e = sym (whole ∙ ap (λ b. when (b && is_readable (plain (tree_of n.tref))) (value_at (plain (tree_of n.tref)) m.bytes w.bits)) (no-number w e))

  module _ (at : ℕ) (e : Some at ≡ u32_in w) where
    there : (r : Bool) → is_readable (plain (tree_of n.tref)) ≡ r → when r (value_at (plain (tree_of n.tref)) m.bytes at) ≡ placing.get (named_tree n) w m
    there r f =
        sym (whole
        ∙ ap (λ b. when (b && is_readable (plain (tree_of n.tref))) (value_at (plain (tree_of n.tref)) m.bytes w.bits)) (is-number w at e).0
        ∙ ap (λ a. when (is_readable (plain (tree_of n.tref))) (value_at (plain (tree_of n.tref)) m.bytes a)) (sym (is-number w at e).1)
        ∙ ap (λ r. when r (value_at (plain (tree_of n.tref)) m.bytes at)) f)

    pub loads-unfit : is_readable (plain (tree_of n.tref)) ≡ false → None ≡ placing.get (named_tree n) w m
    loads-unfit f = there false f

    pub loads : is_readable (plain (tree_of n.tref)) ≡ true → value_at (plain (tree_of n.tref)) m.bytes at ≡ placing.get (named_tree n) w m
    loads f = there true f

pub ruleset load_rules = (too-large, not-large, readable-fits, readable-small, loads-nowhere)
