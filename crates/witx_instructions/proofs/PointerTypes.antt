-- The return pointers of an ok type: the named types of a tuple's members, or the one named type.
use Rattle.std.proofs.Common.{◌≡◌, ◌<◌, ◌≤◌, ◌+◌, ℕ, zero, suc, List, [], ◌∷◌, ◌++◌, append_assoc, append-nil, Bool, true, false, ◌&&◌, ◌||◌, Some, None, is_some, map, length, drop, get_or, refl, sym, ap, ◌∙◌, subst, arith}
use Rattle.std.specs.Borrow.{Bor}
use Rattle.std.specs.declared.alloc.Global.{Global}
use Rattle.std.specs.declared.rc.Rc.{Rc}
use Rattle.std.proofs.lemmas.List.{drop_more, drop_all}
use Rattle.witx_ast.specs.Tree.{Tree}
use Rattle.witx_ast.specs.Words.{is_named}
use Rattle.witx_ast.specs.Views.{tree_of, named_tree}
use Rattle.witx_ast.specs.declared.types.NamedType.{NamedType}
use Rattle.witx_ast.specs.declared.types.RecordMember.{RecordMember}
use Rattle.witx_machine.specs.Functions.{tuple_types, is_tuple}
use Rattle.witx_machine.specs.Signature.{or_alone, ok_pointers}
use Rattle.witx_machine.specs.Lowerable.{can_be_ok, all_names, none_or_names, members_are_named}
use Rattle.witx_instructions.specs.Views.{pointer_types}

pub pointer-more : (ps : List (Bor (Rc NamedType Global))) (p : Bor (Rc NamedType Global)) → pointer_types (ps ++ p ∷ []) ≡ pointer_types ps ++ named_tree p.now.value ∷ []
pointer-more [] p = refl
pointer-more (q ∷ ps) p = ap (λ ts. named_tree q.now.value ∷ ts) (pointer-more ps p)

-- the pointers of an ok type that is a tuple, and of another
pub ok-tuple : (t : Tree) (ts : List Tree) → tuple_types t ≡ Some ts → ok_pointers (Some t) ≡ ts
ok-tuple t ts e = ap (or_alone t) e

pub ok-single : (t : Tree) → tuple_types t ≡ None → ok_pointers (Some t) ≡ t ∷ []
ok-single t e = ap (or_alone t) e

names-tuple : (t : Tree) (ts : List Tree) → tuple_types t ≡ Some ts → members_are_named t ≡ all_names ts
names-tuple t ts e = ap none_or_names e

not-tuple : (t : Tree) → tuple_types t ≡ None → is_tuple t ≡ false
not-tuple t e = ap is_some e

and-right : (a b : Bool) → a && b ≡ true → b ≡ true
and-right true b h = h
and-right false b h = absurd (clash h)
  where
    clash : false ≡ true → ⊥
    clash h = cc

and-left : (a b : Bool) → a && b ≡ true → a ≡ true
and-left true b h = refl
and-left false b h = h

-- what an ok type that can be lowered has named
pub ok-members : (t : Tree) (ts : List Tree) → tuple_types t ≡ Some ts → can_be_ok (Some t) ≡ true → all_names ts ≡ true
ok-members t ts e h = sym (names-tuple t ts e) ∙ and-right (is_named t || is_tuple t) (members_are_named t) h

pub ok-named : (t : Tree) → tuple_types t ≡ None → can_be_ok (Some t) ≡ true → is_named t ≡ true
ok-named t e h = or-false (is_named t) (is_tuple t) (not-tuple t e) (and-left (is_named t || is_tuple t) (members_are_named t) h)
  where
    or-false : (a b : Bool) → b ≡ false → a || b ≡ true → a ≡ true
    or-false true b e h = refl
    or-false false b e h = sym e ∙ h

pub member-named : (xs : List RecordMember) (i : ℕ) (m : RecordMember) → i < length xs → m ≡ get_or xs i m → all_names (map (λ m. tree_of m.tref) xs) ≡ true → is_named (tree_of m.tref) ≡ true
member-named [] i m l p h = absurd (omega arith)
member-named (x ∷ xs) zero m l p h = subst (λ y. is_named (tree_of y.tref) ≡ true) (sym p) (and-left (is_named (tree_of x.tref)) (all_names (map (λ m. tree_of m.tref) xs)) h)
member-named (x ∷ xs) (suc i) m l p h = member-named xs i m (omega arith) p (and-right (is_named (tree_of x.tref)) (all_names (map (λ m. tree_of m.tref) xs)) h)

pub members-step : (ts : List Tree) (xs : List RecordMember) (i : ℕ) (m : RecordMember) → i < length xs → m ≡ get_or xs i m
    → ts ++ map (λ m. tree_of m.tref) (drop i xs) ≡ (ts ++ tree_of m.tref ∷ []) ++ map (λ m. tree_of m.tref) (drop (i + 1) xs)
members-step ts xs i m l p = rw (drop_more xs i m l, ← p) (sym (append_assoc ts (tree_of m.tref ∷ []) (map (λ m. tree_of m.tref) (drop (i + 1) xs))))

pub members-last : (ts : List Tree) (xs : List RecordMember) (i : ℕ) → length xs ≤ i → ts ++ map (λ m. tree_of m.tref) (drop i xs) ≡ ts
members-last ts xs i l = rw (drop_all i xs l) (append-nil ts)

pub ruleset pointer_rules = (pointer-more, ok-tuple, ok-single, ok-members, ok-named, member-named, members-step, members-last)
