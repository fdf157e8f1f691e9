-- The test holds exactly of trees that are equal without their places.
use Rattle.std.specs.Prelude.{◌≡◌, ℕ, List, [], ◌∷◌, Bool, true, false, ◌&&◌, map, Option, refl}
use Rattle.std.proofs.Common.{rules, ap, sym, ◌∙◌}
use Rattle.std.specs.Option.{option_eq}
use Rattle.std.specs.Cmp.{IsEquivalence}
use Rattle.std.specs.Cmp.Lexicographic.{pointwise}
use Rattle.witx_syntax_tree.specs.declared.tree.BuiltinSyntax.{BuiltinSyntax}
use Rattle.witx_comments.specs.Comments.{Comments}
use Rattle.witx_syntax_tree.specs.Trees.{Name, Member, TypeTree, Maybe, Types, Fields, UnionFields, Cases}
use Rattle.witx_base.specs.SameBytes.{bool-iff, both, bytes-self, bytes-to, false-true}
use Rattle.witx_syntax_tree.specs.Same.{same_comments, same_name, same_member, same_type, same_maybe, same_types, same_fields, same_union_fields, same_cases}
use Rattle.witx_syntax_tree.specs.Unplaced.{unplaced_name, unplaced_member, unplaced, unplaced_maybe, unplaced_types, unplaced_fields, unplaced_union_fields, unplaced_cases}
use Rattle.witx_syntax_tree.specs.contracts.tree.BuiltinSyntaxPartialEq.TheImpl as builtins

pub comments-to : (xs ys : Comments) → same_comments xs ys ≡ true → xs ≡ ys
comments-to [] [] h = refl
comments-to (x ∷ xs) (y ∷ ys) h = let p = both _ _ h in let a = bytes-to x y p.0 in let b = comments-to xs ys p.1 in cc
comments-to _ _ h = absurd (false-true h)

pub comments-self : (xs : Comments) → same_comments xs xs ≡ true
comments-self [] = refl
comments-self (x ∷ xs) = rw (bytes-self x, comments-self xs) refl

pub syntax-builtin-to : (b c : BuiltinSyntax) → builtins.ghosts.eq b c ≡ true → b ≡ c
syntax-builtin-to b c h = search rules

pub syntax-builtin-self : (b : BuiltinSyntax) → builtins.ghosts.eq b b ≡ true
syntax-builtin-self b = search rules

pub syntax-repr-to : (r q : Option BuiltinSyntax) → option_eq builtins.ghosts.eq r q ≡ true → r ≡ q
syntax-repr-to r q h = search rules

pub syntax-repr-self : (r : Option BuiltinSyntax) → option_eq builtins.ghosts.eq r r ≡ true
syntax-repr-self r = search rules

pub name-to : (n m : Name) → same_name n m ≡ true → unplaced_name n ≡ unplaced_name m
name-to n m h = let a = bytes-to n.name m.name h in cc

pub members-to : (xs ys : List Member) → pointwise same_member xs ys ≡ true → map unplaced_member xs ≡ map unplaced_member ys
members-to [] [] h = refl
members-to (x ∷ xs) (y ∷ ys) h =
    let o = both _ _ h in let p = both _ _ o.0 in
    let a = comments-to x.comments y.comments p.0 in let b = name-to x.name y.name p.1 in let g = members-to xs ys o.1 in cc
members-to _ _ h = absurd (false-true h)

pub members-self : (xs : List Member) → pointwise same_member xs xs ≡ true
members-self [] = refl
members-self (x ∷ xs) = rw (comments-self x.comments, bytes-self x.name.name, members-self xs) refl

pub members-unplaced : (xs ys : List Member) → pointwise same_member xs ys ≡ pointwise same_member (map unplaced_member xs) (map unplaced_member ys)
members-unplaced [] [] = refl
members-unplaced (x ∷ xs) (y ∷ ys) = rw (members-unplaced xs ys) refl
members-unplaced _ _ = refl

mutual
  pub type-to : (x y : TypeTree) → same_type x y ≡ true → unplaced x ≡ unplaced y
  type-to (TypeTree.ident n) (TypeTree.ident m) h = ap TypeTree.ident (name-to n m h)
  type-to (TypeTree.builtin b) (TypeTree.builtin c) h = ap TypeTree.builtin (syntax-builtin-to b c h)
  type-to TypeTree.string TypeTree.string h = refl
  type-to TypeTree.boolean TypeTree.boolean h = refl
  type-to TypeTree.handle TypeTree.handle h = refl
  type-to (TypeTree.list_of t) (TypeTree.list_of u) h = ap TypeTree.list_of (type-to t u h)
  type-to (TypeTree.pointer_to t) (TypeTree.pointer_to u) h = ap TypeTree.pointer_to (type-to t u h)
  type-to (TypeTree.const_pointer_to t) (TypeTree.const_pointer_to u) h = ap TypeTree.const_pointer_to (type-to t u h)
  type-to (TypeTree.tuple_of ts) (TypeTree.tuple_of us) h = ap TypeTree.tuple_of (types-to ts us h)
  type-to (TypeTree.enum_of r ms) (TypeTree.enum_of q ns) h =
      let p = both _ _ h in let a = syntax-repr-to r q p.0 in let b = members-to ms ns p.1 in cc
  type-to (TypeTree.flags_of r ms) (TypeTree.flags_of q ns) h =
      let p = both _ _ h in let a = syntax-repr-to r q p.0 in let b = members-to ms ns p.1 in cc
  type-to (TypeTree.record_of fs) (TypeTree.record_of gs) h = ap TypeTree.record_of (fields-to fs gs h)
  type-to (TypeTree.union_of t fs) (TypeTree.union_of u gs) h =
      let p = both _ _ h in let a = maybe-to t u p.0 in let b = union-fields-to fs gs p.1 in cc
  type-to (TypeTree.variant_of t cs) (TypeTree.variant_of u ds) h =
      let p = both _ _ h in let a = maybe-to t u p.0 in let b = cases-to cs ds p.1 in cc
  type-to (TypeTree.expected t e) (TypeTree.expected u f) h =
      let p = both _ _ h in let a = maybe-to t u p.0 in let b = maybe-to e f p.1 in cc
  type-to _ _ h = absurd (false-true h)

  pub maybe-to : (x y : Maybe) → same_maybe x y ≡ true → unplaced_maybe x ≡ unplaced_maybe y
  maybe-to Maybe.absent Maybe.absent h = refl
  maybe-to (Maybe.present t) (Maybe.present u) h = ap Maybe.present (type-to t u h)
  maybe-to _ _ h = absurd (false-true h)

  pub types-to : (x y : Types) → same_types x y ≡ true → unplaced_types x ≡ unplaced_types y
  types-to Types.no_types Types.no_types h = refl
  types-to (Types.one_type t ts) (Types.one_type u us) h =
      let p = both _ _ h in let a = type-to t u p.0 in let b = types-to ts us p.1 in cc
  types-to _ _ h = absurd (false-true h)

  pub fields-to : (x y : Fields) → same_fields x y ≡ true → unplaced_fields x ≡ unplaced_fields y
  fields-to Fields.no_fields Fields.no_fields h = refl
  fields-to (Fields.one_field c n t fs) (Fields.one_field d m u gs) h =
      let o = both _ _ h in let p = both _ _ o.0 in let q = both _ _ p.1 in
      let a = comments-to c d p.0 in let b = name-to n m q.0 in let e = type-to t u q.1 in let g = fields-to fs gs o.1 in cc
  fields-to _ _ h = absurd (false-true h)

  pub union-fields-to : (x y : UnionFields) → same_union_fields x y ≡ true → unplaced_union_fields x ≡ unplaced_union_fields y
  union-fields-to UnionFields.no_union_fields UnionFields.no_union_fields h = refl
  union-fields-to (UnionFields.one_union_field c t fs) (UnionFields.one_union_field d u gs) h =
      let o = both _ _ h in let p = both _ _ o.0 in
      let a = comments-to c d p.0 in let e = type-to t u p.1 in let g = union-fields-to fs gs o.1 in cc
  union-fields-to _ _ h = absurd (false-true h)

  pub cases-to : (x y : Cases) → same_cases x y ≡ true → unplaced_cases x ≡ unplaced_cases y
  cases-to Cases.no_cases Cases.no_cases h = refl
  cases-to (Cases.one_case c n t cs) (Cases.one_case d m u ds) h =
      let o = both _ _ h in let p = both _ _ o.0 in let q = both _ _ p.1 in
      let a = comments-to c d p.0 in let b = name-to n m q.0 in let e = maybe-to t u q.1 in let g = cases-to cs ds o.1 in cc
  cases-to _ _ h = absurd (false-true h)

mutual
  pub type-self : (x : TypeTree) → same_type x x ≡ true
  type-self (TypeTree.ident n) = bytes-self n.name
  type-self (TypeTree.builtin b) = syntax-builtin-self b
  type-self TypeTree.string = refl
  type-self TypeTree.boolean = refl
  type-self TypeTree.handle = refl
  type-self (TypeTree.list_of t) = type-self t
  type-self (TypeTree.pointer_to t) = type-self t
  type-self (TypeTree.const_pointer_to t) = type-self t
  type-self (TypeTree.tuple_of ts) = types-self ts
  type-self (TypeTree.enum_of r ms) = rw (syntax-repr-self r, members-self ms) refl
  type-self (TypeTree.flags_of r ms) = rw (syntax-repr-self r, members-self ms) refl
  type-self (TypeTree.record_of fs) = fields-self fs
  type-self (TypeTree.union_of t fs) = rw (maybe-self t, union-fields-self fs) refl
  type-self (TypeTree.variant_of t cs) = rw (maybe-self t, cases-self cs) refl
  type-self (TypeTree.expected t e) = rw (maybe-self t, maybe-self e) refl

  pub maybe-self : (x : Maybe) → same_maybe x x ≡ true
  maybe-self Maybe.absent = refl
  maybe-self (Maybe.present t) = type-self t

  pub types-self : (x : Types) → same_types x x ≡ true
  types-self Types.no_types = refl
  types-self (Types.one_type t ts) = rw (type-self t, types-self ts) refl

  pub fields-self : (x : Fields) → same_fields x x ≡ true
  fields-self Fields.no_fields = refl
  fields-self (Fields.one_field c n t fs) = rw (comments-self c, bytes-self n.name, type-self t, fields-self fs) refl

  pub union-fields-self : (x : UnionFields) → same_union_fields x x ≡ true
  union-fields-self UnionFields.no_union_fields = refl
  union-fields-self (UnionFields.one_union_field c t fs) = rw (comments-self c, type-self t, union-fields-self fs) refl

  pub cases-self : (x : Cases) → same_cases x x ≡ true
  cases-self Cases.no_cases = refl
  cases-self (Cases.one_case c n t cs) = rw (comments-self c, bytes-self n.name, maybe-self t, cases-self cs) refl

mutual
  pub type-unplaced : (x y : TypeTree) → same_type x y ≡ same_type (unplaced x) (unplaced y)
  type-unplaced (TypeTree.ident n) (TypeTree.ident m) = refl
  type-unplaced (TypeTree.builtin b) (TypeTree.builtin c) = refl
  type-unplaced TypeTree.string TypeTree.string = refl
  type-unplaced TypeTree.boolean TypeTree.boolean = refl
  type-unplaced TypeTree.handle TypeTree.handle = refl
  type-unplaced (TypeTree.list_of t) (TypeTree.list_of u) = type-unplaced t u
  type-unplaced (TypeTree.pointer_to t) (TypeTree.pointer_to u) = type-unplaced t u
  type-unplaced (TypeTree.const_pointer_to t) (TypeTree.const_pointer_to u) = type-unplaced t u
  type-unplaced (TypeTree.tuple_of ts) (TypeTree.tuple_of us) = types-unplaced ts us
  type-unplaced (TypeTree.enum_of r ms) (TypeTree.enum_of q ns) = rw (members-unplaced ms ns) refl
  type-unplaced (TypeTree.flags_of r ms) (TypeTree.flags_of q ns) = rw (members-unplaced ms ns) refl
  type-unplaced (TypeTree.record_of fs) (TypeTree.record_of gs) = fields-unplaced fs gs
  type-unplaced (TypeTree.union_of t fs) (TypeTree.union_of u gs) = rw (maybe-unplaced t u, union-fields-unplaced fs gs) refl
  type-unplaced (TypeTree.variant_of t cs) (TypeTree.variant_of u ds) = rw (maybe-unplaced t u, cases-unplaced cs ds) refl
  type-unplaced (TypeTree.expected t e) (TypeTree.expected u f) = rw (maybe-unplaced t u, maybe-unplaced e f) refl
  type-unplaced _ _ = refl

  pub maybe-unplaced : (x y : Maybe) → same_maybe x y ≡ same_maybe (unplaced_maybe x) (unplaced_maybe y)
  maybe-unplaced (Maybe.present t) (Maybe.present u) = type-unplaced t u
  maybe-unplaced Maybe.absent Maybe.absent = refl
  maybe-unplaced _ _ = refl

  pub types-unplaced : (x y : Types) → same_types x y ≡ same_types (unplaced_types x) (unplaced_types y)
  types-unplaced (Types.one_type t ts) (Types.one_type u us) = rw (type-unplaced t u, types-unplaced ts us) refl
  types-unplaced Types.no_types Types.no_types = refl
  types-unplaced _ _ = refl

  pub fields-unplaced : (x y : Fields) → same_fields x y ≡ same_fields (unplaced_fields x) (unplaced_fields y)
  fields-unplaced (Fields.one_field c n t fs) (Fields.one_field d m u gs) = rw (type-unplaced t u, fields-unplaced fs gs) refl
  fields-unplaced Fields.no_fields Fields.no_fields = refl
  fields-unplaced _ _ = refl

  pub union-fields-unplaced : (x y : UnionFields) → same_union_fields x y ≡ same_union_fields (unplaced_union_fields x) (unplaced_union_fields y)
  union-fields-unplaced (UnionFields.one_union_field c t fs) (UnionFields.one_union_field d u gs) = rw (type-unplaced t u, union-fields-unplaced fs gs) refl
  union-fields-unplaced UnionFields.no_union_fields UnionFields.no_union_fields = refl
  union-fields-unplaced _ _ = refl

  pub cases-unplaced : (x y : Cases) → same_cases x y ≡ same_cases (unplaced_cases x) (unplaced_cases y)
  cases-unplaced (Cases.one_case c n t cs) (Cases.one_case d m u ds) = rw (maybe-unplaced t u, cases-unplaced cs ds) refl
  cases-unplaced Cases.no_cases Cases.no_cases = refl
  cases-unplaced _ _ = refl

pub type-from : (x y : TypeTree) → unplaced x ≡ unplaced y → same_type x y ≡ true
type-from x y e = type-unplaced x y ∙ (rw e (type-self (unplaced y)))

pub type_equivalence : IsEquivalence same_type
type_equivalence = record {
  refl = type-self;
  symm = λ x y. bool-iff (same_type x y) (same_type y x) (λ h. type-from y x (sym (type-to x y h))) (λ h. type-from x y (sym (type-to y x h)));
  congr = λ x y z h. bool-iff (same_type x z) (same_type y z)
      (λ k. type-from y z (sym (type-to x y h) ∙ type-to x z k))
      (λ k. type-from x z (type-to x y h ∙ type-to y z k));
}
