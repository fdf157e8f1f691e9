-- What a table has at a name whose type it knows, and what is entered in it.
use Rattle.std.specs.Prelude.{◌≡◌, ℕ, List, true, Option, Some, None, Result, Ok, Err, OnOk, cond, if◌then◌else◌}
use Rattle.std.specs.Ordering.{is_eq, nat_cmp}
use Rattle.std.specs.Cmp.Lexicographic.{slice_cmp}
use Rattle.std.proofs.Common.{refl, ap, ◌∙◌, subst, inl}
use Rattle.witx_base.specs.Found.{found}
use Rattle.witx_ast.specs.Tree.{Tree, behind}
use Rattle.witx_ast.specs.Plain.{Plain, plain}
use Rattle.witx_ast.specs.Views.{tree_of, datatype_tree, named_tree}
use Rattle.witx_ast.specs.Definitions.{typename_of}
use Rattle.witx_ast.specs.declared.types.Datatype.{Datatype}
use Rattle.witx_ast.specs.declared.types.NamedType.{NamedType}
use Rattle.witx_ast.proofs.TreeKinds.{plain-behind}
use Rattle.witx_ast.proofs.Trees.{tree-NamedType, tree_rules}
use Rattle.witx_ast.proofs.Parts.{record-plain}
use Rattle.witx_layout.specs.declared.layout.SizeAlign.{SizeAlign}
use Rattle.witx_layout.specs.Numbers.{size_of, align_of}
use Rattle.witx_layout.specs.Layouts.{plain_layout, layout_of}
use Rattle.witx_layout.specs.Known.{is_flat, Tells, Knows, IsEntered}

layout-is : (v : SizeAlign) (t : Plain) → v.size ≡ size_of t → v.align ≡ align_of t → v ≡ plain_layout t
layout-is v t s a = rw (← s, ← a) refl

-- a layout is entered under its name
pub is-entered : {T E : Type 0} (r : Result T E) (table new : List (List ℕ × SizeAlign)) (key n : List ℕ) (t : Tree) (docs : List ℕ) (l : SizeAlign)
    → key ≡ n → l.size ≡ size_of (plain t) → l.align ≡ align_of (plain t)
    → ((q : List ℕ) → OnOk r (found new q ≡ cond (is_eq (slice_cmp nat_cmp key q)) (Some l) (found table q)))
    → OnOk r (IsEntered table (typename_of n t docs) new)
is-entered (Ok x) table new key n t docs l e s a h =
    inl (λ q. h q ∙ ap (λ k. cond (is_eq (slice_cmp nat_cmp k q)) (Some l) (found table q)) e
    ∙ ap (λ v. cond (is_eq (slice_cmp nat_cmp n q)) (Some v) (found table q)) (layout-is l (plain t) s a))
is-entered (Err x) table new key n t docs l e s a h = tt

-- what stands behind a name for a flat type
pub flat-behind : (n : NamedType) (d u : Datatype) (o : Option SizeAlign) → d ≡ u → datatype_tree u ≡ behind (named_tree n)
    → is_flat (plain (named_tree n)) ≡ true
    → o ≡ (if is_flat (plain (datatype_tree d)) then Some (layout_of (datatype_tree d)) else None) → o ≡ Some (layout_of (named_tree n))
flat-behind n d u o s b f h =
    let same : plain (datatype_tree d) ≡ plain (named_tree n) = ap (λ x. plain (datatype_tree x)) s ∙ ap plain b ∙ plain-behind (named_tree n) in
    h ∙ ap (λ p. if is_flat p then Some (plain_layout p) else None) same ∙ ap (λ b. if b then Some (layout_of (named_tree n)) else None) f

pub one-layout : (o : Option SizeAlign) (l m : SizeAlign) → o ≡ Some l → o ≡ Some m → l ≡ m
one-layout o l m p q = cc

-- what a table has at a name whose type it knows
pub entry-told : (table : List (List ℕ × SizeAlign)) (n : NamedType) (l : SizeAlign) → Knows table (named_tree n) → found table n.name ≡ Some l
    → l ≡ layout_of (named_tree n)
entry-told table n l h e =
    let told : Tells (found table n.name) (plain (tree_of n.tref)) = rw (tree-NamedType n) at h in
    rw (tree-NamedType n) (subst (λ o. Tells o (plain (tree_of n.tref))) e told)

pub none-told : (table : List (List ℕ × SizeAlign)) (n : NamedType) → Knows table (named_tree n) → found table n.name ≡ None → is_flat (plain (named_tree n)) ≡ true
none-told table n h e =
    let told : Tells (found table n.name) (plain (tree_of n.tref)) = rw (tree-NamedType n) at h in
    rw (tree-NamedType n) (subst (λ o. Tells o (plain (tree_of n.tref))) e told)

pub ruleset flat_rules = (tree_rules, record-plain)
