-- The test holds exactly of equal trees. These are proofs, and stand here because the laws of `==` and of hashes, which are part of the contracts, cite them.
use Rattle.std.specs.Prelude.{◌≡◌, ℕ, List, Bool, true, false, ◌&&◌, refl, IsTrue}
use Rattle.std.proofs.Common.{rules, ap, sym, ◌∙◌}
use Rattle.std.specs.Cmp.{IsEquivalence}
use Rattle.witx_ast.specs.declared.types.BuiltinType.{BuiltinType}
use Rattle.witx_ast.specs.declared.types.IntRepr.{IntRepr}
use Rattle.witx_ast.specs.declared.types.RecordKind.{RecordKind}
use Rattle.witx_ast.specs.Tree.{Tree, Fields, Arms}
use Rattle.witx_base.specs.SameBytes.{bool-iff, both, bytes-self, bytes-to, false-true}
use Rattle.witx_ast.specs.Same.{same_tree, same_fields, same_arms}
use Rattle.witx_ast.specs.contracts.types.BuiltinTypePartialEq.TheImpl as builtins
use Rattle.witx_ast.specs.contracts.types.IntReprPartialEq.TheImpl as reprs
use Rattle.witx_ast.specs.contracts.types.RecordKindPartialEq.TheImpl as kinds

pub builtin-to : (b c : BuiltinType) → builtins.ghosts.eq b c ≡ true → b ≡ c
builtin-to b c h = search rules

pub repr-to : (b c : IntRepr) → reprs.ghosts.eq b c ≡ true → b ≡ c
repr-to b c h = search rules

pub kind-to : (b c : RecordKind) → kinds.ghosts.eq b c ≡ true → b ≡ c
kind-to b c h = search rules

pub builtin-self : (b : BuiltinType) → builtins.ghosts.eq b b ≡ true
builtin-self b = search rules

pub kind-self : (b : RecordKind) → kinds.ghosts.eq b b ≡ true
kind-self b = search rules

mutual
  pub same-to : (x y : Tree) → same_tree x y ≡ true → x ≡ y
  same-to (Tree.named n t d) (Tree.named m u e) h =
      let p = both _ _ h in let q = both _ _ p.1 in
      let a = bytes-to n m p.0 in let b = same-to t u q.0 in let c = bytes-to d e q.1 in cc
  same-to (Tree.builtin b) (Tree.builtin c) h = ap Tree.builtin (builtin-to b c h)
  same-to Tree.handle Tree.handle h = refl
  same-to (Tree.list_of t) (Tree.list_of u) h = ap Tree.list_of (same-to t u h)
  same-to (Tree.pointer_to t) (Tree.pointer_to u) h = ap Tree.pointer_to (same-to t u h)
  same-to (Tree.const_pointer_to t) (Tree.const_pointer_to u) h = ap Tree.const_pointer_to (same-to t u h)
  same-to (Tree.record_of k ms) (Tree.record_of l ns) h =
      let p = both _ _ h in let a = kind-to k l p.0 in let b = fields-to ms ns p.1 in cc
  same-to (Tree.variant_of r cs) (Tree.variant_of q ds) h =
      let p = both _ _ h in let a = repr-to r q p.0 in let b = arms-to cs ds p.1 in cc
  same-to _ _ h = absurd (false-true h)

  pub fields-to : (x y : Fields) → same_fields x y ≡ true → x ≡ y
  fields-to Fields.no_fields Fields.no_fields h = refl
  fields-to (Fields.field n t d ms) (Fields.field m u e ns) h =
      let o = both _ _ h in let p = both _ _ o.0 in let q = both _ _ p.1 in
      let a = bytes-to n m p.0 in let b = same-to t u q.0 in let c = bytes-to d e q.1 in let g = fields-to ms ns o.1 in cc
  fields-to _ _ h = absurd (false-true h)

  pub arms-to : (x y : Arms) → same_arms x y ≡ true → x ≡ y
  arms-to Arms.no_arms Arms.no_arms h = refl
  arms-to (Arms.bare n d cs) (Arms.bare m e ds) h =
      let o = both _ _ h in let p = both _ _ o.0 in
      let a = bytes-to n m p.0 in let b = bytes-to d e p.1 in let g = arms-to cs ds o.1 in cc
  arms-to (Arms.carries n t d cs) (Arms.carries m u e ds) h =
      let o = both _ _ h in let p = both _ _ o.0 in let q = both _ _ p.1 in
      let a = bytes-to n m p.0 in let b = same-to t u q.0 in let c = bytes-to d e q.1 in let g = arms-to cs ds o.1 in cc
  arms-to _ _ h = absurd (false-true h)

pub repr-self : (b : IntRepr) → reprs.ghosts.eq b b ≡ true
repr-self b = search rules

mutual
  pub same-self : (x : Tree) → same_tree x x ≡ true
  same-self (Tree.named n t d) = rw (bytes-self n, same-self t, bytes-self d) refl
  same-self (Tree.builtin b) = builtin-self b
  same-self Tree.handle = refl
  same-self (Tree.list_of t) = same-self t
  same-self (Tree.pointer_to t) = same-self t
  same-self (Tree.const_pointer_to t) = same-self t
  same-self (Tree.record_of k ms) = rw (kind-self k, fields-self ms) refl
  same-self (Tree.variant_of r cs) = rw (repr-self r, arms-self cs) refl

  pub fields-self : (x : Fields) → same_fields x x ≡ true
  fields-self Fields.no_fields = refl
  fields-self (Fields.field n t d ms) = rw (bytes-self n, same-self t, bytes-self d, fields-self ms) refl

  pub arms-self : (x : Arms) → same_arms x x ≡ true
  arms-self Arms.no_arms = refl
  arms-self (Arms.bare n d cs) = rw (bytes-self n, bytes-self d, arms-self cs) refl
  arms-self (Arms.carries n t d cs) = rw (bytes-self n, same-self t, bytes-self d, arms-self cs) refl

pub same-from : (x y : Tree) → x ≡ y → same_tree x y ≡ true
same-from x y e = rw (← e) (same-self x)

pub tree_equivalence : IsEquivalence same_tree
tree_equivalence = record {
  refl = same-self;
  symm = λ x y. bool-iff (same_tree x y) (same_tree y x) (λ h. same-from y x (sym (same-to x y h))) (λ h. same-from x y (sym (same-to y x h)));
  congr = λ x y z h. let e = same-to x y h in rw e refl;
}

pub same-decides : (b : Bool) (x y : Tree) → b ≡ same_tree x y → (IsTrue b → x ≡ y) × (x ≡ y → IsTrue b)
same-decides b x y e = (λ h. same-to x y (sym e ∙ h), λ h. e ∙ same-from x y h)
