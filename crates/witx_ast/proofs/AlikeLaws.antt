-- The test of alike types holds exactly of equal plain trees.
use Rattle.std.specs.Prelude.{◌≡◌, true, refl}
use Rattle.std.proofs.Common.{ap}
use Rattle.std.specs.Bool.{Decides}
use Rattle.witx_ast.specs.declared.types.BuiltinType.{BuiltinType}
use Rattle.witx_ast.specs.Plain.{Plain, Fields, Arms}
use Rattle.witx_ast.specs.Alike.{same_builtin, same_plain, same_plain_fields, same_plain_arms}
use Rattle.witx_base.specs.SameBytes.{false-true, both, bytes-to, bytes-self}
use Rattle.witx_ast.specs.SameLaws.{builtin-to, builtin-self, kind-to, kind-self, repr-to, repr-self}

mutual
  alike-to : (x y : Plain) → same_plain x y ≡ true → x ≡ y
  alike-to (Plain.builtin b) (Plain.builtin c) h = ap Plain.builtin (builtin-to b c h)
  alike-to Plain.handle Plain.handle h = refl
  alike-to (Plain.list_of t) (Plain.list_of u) h = ap Plain.list_of (alike-to t u h)
  alike-to (Plain.pointer_to t) (Plain.pointer_to u) h = ap Plain.pointer_to (alike-to t u h)
  alike-to (Plain.const_pointer_to t) (Plain.const_pointer_to u) h = ap Plain.const_pointer_to (alike-to t u h)
  alike-to (Plain.record_of k ms) (Plain.record_of l ns) h =
      let p = both _ _ h in let a = kind-to k l p.0 in let b = fields-alike-to ms ns p.1 in cc
  alike-to (Plain.variant_of r cs) (Plain.variant_of q ds) h =
      let p = both _ _ h in let a = repr-to r q p.0 in let b = arms-alike-to cs ds p.1 in cc
  alike-to _ _ h = absurd (false-true h)

  fields-alike-to : (x y : Fields) → same_plain_fields x y ≡ true → x ≡ y
  fields-alike-to Fields.no_fields Fields.no_fields h = refl
  fields-alike-to (Fields.field n t ms) (Fields.field m u ns) h =
      let p = both _ _ h in let q = both _ _ p.0 in
      let a = bytes-to n m q.0 in let b = alike-to t u q.1 in let c = fields-alike-to ms ns p.1 in cc
  fields-alike-to _ _ h = absurd (false-true h)

  arms-alike-to : (x y : Arms) → same_plain_arms x y ≡ true → x ≡ y
  arms-alike-to Arms.no_arms Arms.no_arms h = refl
  arms-alike-to (Arms.bare n cs) (Arms.bare m ds) h =
      let p = both _ _ h in let a = bytes-to n m p.0 in let b = arms-alike-to cs ds p.1 in cc
  arms-alike-to (Arms.carries n t cs) (Arms.carries m u ds) h =
      let p = both _ _ h in let q = both _ _ p.0 in
      let a = bytes-to n m q.0 in let b = alike-to t u q.1 in let c = arms-alike-to cs ds p.1 in cc
  arms-alike-to _ _ h = absurd (false-true h)

mutual
  pub alike-self : (x : Plain) → same_plain x x ≡ true
  alike-self (Plain.builtin b) = builtin-self b
  alike-self Plain.handle = refl
  alike-self (Plain.list_of t) = alike-self t
  alike-self (Plain.pointer_to t) = alike-self t
  alike-self (Plain.const_pointer_to t) = alike-self t
  alike-self (Plain.record_of k ms) = rw (kind-self k, fields-alike-self ms) refl
  alike-self (Plain.variant_of r cs) = rw (repr-self r, arms-alike-self cs) refl

  fields-alike-self : (x : Fields) → same_plain_fields x x ≡ true
  fields-alike-self Fields.no_fields = refl
  fields-alike-self (Fields.field n t ms) = rw (bytes-self n, alike-self t, fields-alike-self ms) refl

  arms-alike-self : (x : Arms) → same_plain_arms x x ≡ true
  arms-alike-self Arms.no_arms = refl
  arms-alike-self (Arms.bare n cs) = rw (bytes-self n, arms-alike-self cs) refl
  arms-alike-self (Arms.carries n t cs) = rw (bytes-self n, alike-self t, arms-alike-self cs) refl

pub alike-decides : (x y : Plain) → Decides (same_plain x y) (x ≡ y)
alike-decides x y = (alike-to x y, λ e. rw (← e) (alike-self x))

pub builtins-decide : (x y : BuiltinType) → Decides (same_builtin x y) (x ≡ y)
builtins-decide x y = (builtin-to x y, λ e. rw (← e) (builtin-self x))
