-- The derived comparisons say whether the trees are the same up to places.
use Rattle.std.specs.Prelude.{◌≡◌, List, [], ◌∷◌, Bool, ◌&&◌, map, Option, Some, None, refl}
use Rattle.std.specs.Option.{option_eq}
use Rattle.std.specs.Cmp.Lexicographic.{pointwise}
use Rattle.std.specs.declared.boxed.Box.{Box}
use Rattle.std.specs.declared.alloc.Global.{Global}
use Rattle.std.specs.Borrow.{Bor}
use Rattle.std.specs.contracts.prelude.RefStrPartialEq.TheImpl as texts
use Rattle.std.specs.Prelude.{ℕ}
use Rattle.witx_syntax_tree.specs.Same.{same_comments, same_member, same_type, same_maybe, same_types, same_fields, same_union_fields, same_cases}
use Rattle.witx_syntax_tree.specs.Views.{type_view, types_view, fields_view, union_fields_view, cases_view, boxed_view, optional_view, member_view}
use Rattle.witx_comments.specs.declared.comment.Documented.{Documented}
use Rattle.witx_syntax_tree.specs.declared.tree.IdSyntax.{IdSyntax}
use Rattle.witx_syntax_tree.specs.declared.tree.TypedefSyntax.{TypedefSyntax}
use Rattle.witx_syntax_tree.specs.declared.tree.FieldSyntax.{FieldSyntax}
use Rattle.witx_syntax_tree.specs.declared.tree.CaseSyntax.{CaseSyntax}
use Rattle.witx_comments.specs.contracts.comment.CommentSyntaxPartialEq.TheImpl as comments
use Rattle.witx_syntax_tree.specs.contracts.tree.IdSyntaxPartialEq.TheImpl as ids
use Rattle.witx_syntax_tree.specs.contracts.tree.TypedefSyntaxPartialEq.TheImpl as typedefs
use Rattle.witx_syntax_tree.specs.contracts.tree.FieldSyntaxPartialEq.TheImpl as fields
use Rattle.witx_syntax_tree.specs.contracts.tree.CaseSyntaxPartialEq.TheImpl as cases
use Rattle.witx_syntax_tree.specs.contracts.tree.EnumSyntaxPartialEq.TheImpl as enums
use Rattle.witx_syntax_tree.specs.declared.tree.EnumSyntax.{EnumSyntax}
use Rattle.witx_syntax_tree.specs.contracts.tree.FlagsSyntaxPartialEq.TheImpl as flagss
use Rattle.witx_syntax_tree.specs.declared.tree.FlagsSyntax.{FlagsSyntax}
use Rattle.witx_syntax_tree.specs.contracts.tree.RecordSyntaxPartialEq.TheImpl as records
use Rattle.witx_syntax_tree.specs.declared.tree.RecordSyntax.{RecordSyntax, out-RecordSyntax}
use Rattle.witx_syntax_tree.specs.contracts.tree.UnionSyntaxPartialEq.TheImpl as unions
use Rattle.witx_syntax_tree.specs.declared.tree.UnionSyntax.{UnionSyntax, out-UnionSyntax}
use Rattle.witx_syntax_tree.specs.contracts.tree.VariantSyntaxPartialEq.TheImpl as variants
use Rattle.witx_syntax_tree.specs.declared.tree.VariantSyntax.{VariantSyntax, out-VariantSyntax}
use Rattle.witx_syntax_tree.specs.declared.tree.TypedefSyntax.TheVariants as typedef
use Rattle.witx_syntax_tree.proofs.Unlike.{other_rules}
use Rattle.witx_syntax_tree.proofs.TypeViews.{view_rules, view-Enum, view-Flags, view-Record, view-Union, view-Variant, view-Field, view-Case}

-- how documented items are compared whose items are compared by `same`
abbrev pub documented_eq : {T : Type 0} → (T → T → Bool) → Documented T → Documented T → Bool
documented_eq same x y = comments.ghosts.eq x.comments y.comments && same x.item y.item

pub texts-same : (xs ys : List (Bor (List ℕ))) → pointwise texts.ghosts.eq xs ys ≡ same_comments (map (λ t. t.now) xs) (map (λ t. t.now) ys)
texts-same [] [] = refl
texts-same (x ∷ xs) (y ∷ ys) = rw (← texts-same xs ys) refl
texts-same _ _ = refl

pub members-same : (xs ys : List (Documented IdSyntax)) → pointwise (documented_eq ids.ghosts.eq) xs ys ≡ pointwise same_member (map member_view xs) (map member_view ys)
members-same [] [] = refl
members-same (x ∷ xs) (y ∷ ys) = rw (← texts-same x.comments.comments y.comments.comments, ← members-same xs ys) refl
members-same _ _ = refl

pub types-same : (xs ys : List TypedefSyntax) → pointwise typedefs.ghosts.eq xs ys ≡ same_types (types_view xs) (types_view ys)
types-same [] [] = refl
types-same (x ∷ xs) (y ∷ ys) = rw (types-same xs ys) refl
types-same _ _ = refl

pub fields-same : (xs ys : List (Documented FieldSyntax)) → pointwise (documented_eq fields.ghosts.eq) xs ys ≡ same_fields (fields_view xs) (fields_view ys)
fields-same [] [] = refl
fields-same (x ∷ xs) (y ∷ ys) = rw (view-Field x.item, view-Field y.item, ← texts-same x.comments.comments y.comments.comments, ← fields-same xs ys) refl
fields-same _ _ = refl

pub union-fields-same : (xs ys : List (Documented TypedefSyntax)) → pointwise (documented_eq typedefs.ghosts.eq) xs ys ≡ same_union_fields (union_fields_view xs) (union_fields_view ys)
union-fields-same [] [] = refl
union-fields-same (x ∷ xs) (y ∷ ys) = rw (← texts-same x.comments.comments y.comments.comments, ← union-fields-same xs ys) refl
union-fields-same _ _ = refl

pub optional-same : (t u : Option TypedefSyntax) → option_eq typedefs.ghosts.eq t u ≡ same_maybe (optional_view t) (optional_view u)
optional-same None None = refl
optional-same (Some t) (Some u) = refl
optional-same _ _ = refl

pub cases-same : (xs ys : List (Documented CaseSyntax)) → pointwise (documented_eq cases.ghosts.eq) xs ys ≡ same_cases (cases_view xs) (cases_view ys)
cases-same [] [] = refl
cases-same (x ∷ xs) (y ∷ ys) = rw (view-Case x.item, view-Case y.item, ← texts-same x.comments.comments y.comments.comments, ← optional-same x.item.ty y.item.ty, ← cases-same xs ys) refl
cases-same _ _ = refl

pub boxed-same : (t u : Option (Box TypedefSyntax Global)) → option_eq (λ a b. typedefs.ghosts.eq a.value b.value) t u ≡ same_maybe (boxed_view t) (boxed_view u)
boxed-same None None = refl
boxed-same (Some t) (Some u) = refl
boxed-same _ _ = refl

pub same-Enum : (r : Bool) (x y : TypedefSyntax) (a b : EnumSyntax) → x ≡ typedef.Enum a → y ≡ typedef.Enum b → r ≡ enums.ghosts.eq a b → r ≡ same_type (type_view x) (type_view y)
same-Enum r x y a b p q e = rw (p, q, view-Enum a, view-Enum b, ← members-same a.members b.members) e

pub same-Flags : (r : Bool) (x y : TypedefSyntax) (a b : FlagsSyntax) → x ≡ typedef.Flags a → y ≡ typedef.Flags b → r ≡ flagss.ghosts.eq a b → r ≡ same_type (type_view x) (type_view y)
same-Flags r x y a b p q e = rw (p, q, view-Flags a, view-Flags b, ← members-same a.flags b.flags) e

pub same-Record : (r : Bool) (x y : TypedefSyntax) (a b : RecordSyntax) → x ≡ typedef.Record a → y ≡ typedef.Record b → r ≡ records.ghosts.eq a b → r ≡ same_type (type_view x) (type_view y)
same-Record r x y a b p q e = rw (p, q, view-Record a, view-Record b, ← fields-same (out-RecordSyntax a).fields (out-RecordSyntax b).fields) e

pub same-Union : (r : Bool) (x y : TypedefSyntax) (a b : UnionSyntax) → x ≡ typedef.Union a → y ≡ typedef.Union b → r ≡ unions.ghosts.eq a b → r ≡ same_type (type_view x) (type_view y)
same-Union r x y a b p q e = rw (p, q, view-Union a, view-Union b, ← boxed-same (out-UnionSyntax a).tag (out-UnionSyntax b).tag, ← union-fields-same (out-UnionSyntax a).fields (out-UnionSyntax b).fields) e

pub same-Variant : (r : Bool) (x y : TypedefSyntax) (a b : VariantSyntax) → x ≡ typedef.Variant a → y ≡ typedef.Variant b → r ≡ variants.ghosts.eq a b → r ≡ same_type (type_view x) (type_view y)
same-Variant r x y a b p q e = rw (p, q, view-Variant a, view-Variant b, ← boxed-same (out-VariantSyntax a).tag (out-VariantSyntax b).tag, ← cases-same (out-VariantSyntax a).cases (out-VariantSyntax b).cases) e

pub ruleset same_rules = (view_rules, other_rules, members-same, types-same, fields-same, union-fields-same, cases-same, boxed-same, same-Enum, same-Flags, same-Record, same-Union, same-Variant)
