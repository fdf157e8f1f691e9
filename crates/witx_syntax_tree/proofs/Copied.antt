-- A list copied item by item has the same readings.
use Rattle.std.specs.Prelude.{◌≡◌, ℕ, List, [], ◌∷◌, map}
use Rattle.std.proofs.Common.{refl}
use Rattle.std.specs.List.{AllZip}
use Rattle.std.specs.Borrow.{Bor}
use Rattle.witx_syntax_tree.specs.Views.{boxed_view, member_view, noted_decl, noted_item, field_view, type_view, case_view, decl_view, item_view, types_view, fields_view, union_fields_view, cases_view}
use Rattle.witx_comments.specs.Copies.{IsCopyOfDocumented}
use Rattle.witx_syntax_tree.specs.Copies.{ReadsAs}
use Rattle.witx_comments.specs.declared.comment.Documented.{Documented}
use Rattle.witx_syntax_tree.specs.declared.tree.IdSyntax.{IdSyntax}
use Rattle.witx_syntax_tree.specs.declared.tree.TypedefSyntax.{TypedefSyntax}
use Rattle.witx_syntax_tree.specs.declared.tree.FieldSyntax.{FieldSyntax}
use Rattle.witx_syntax_tree.specs.declared.tree.CaseSyntax.{CaseSyntax}
use Rattle.witx_syntax_tree.specs.declared.tree.ModuleDeclSyntax.{ModuleDeclSyntax}
use Rattle.witx_syntax_tree.specs.declared.tree.TopLevelSyntax.{TopLevelSyntax}
use Rattle.std.specs.Prelude.{Option}
use Rattle.std.specs.declared.boxed.Box.{Box}
use Rattle.std.specs.declared.alloc.Global.{Global}
use Rattle.witx_syntax_tree.specs.declared.tree.TypedefSyntax.TheVariants as typedef
use Rattle.witx_syntax_tree.specs.declared.tree.TupleSyntax.{TupleSyntax, out-TupleSyntax, roll-TupleSyntax}
use Rattle.witx_syntax_tree.specs.declared.tree.ExpectedSyntax.{ExpectedSyntax, out-ExpectedSyntax, roll-ExpectedSyntax}
use Rattle.witx_syntax_tree.specs.declared.tree.UnionSyntax.{UnionSyntax, out-UnionSyntax, roll-UnionSyntax}
use Rattle.witx_comments.proofs.Copied.{copied_texts}
use Rattle.witx_syntax_tree.proofs.TypeViews.{view_rules, view-Tuple, view-Expected, view-Union}

pub copied-members : (xs ys : List (Documented IdSyntax)) → AllZip (IsCopyOfDocumented (λ id made. made ≡ id)) xs ys → map member_view ys ≡ map member_view xs
copied-members [] [] h = refl
copied-members [] (y ∷ ys) h = absurd h
copied-members (x ∷ xs) [] h = absurd h
copied-members (x ∷ xs) (y ∷ ys) h = rw (h.0.0, h.0.1, copied-members xs ys h.1) refl

pub copied-types : (xs ys : List TypedefSyntax) → AllZip (ReadsAs type_view) xs ys → types_view ys ≡ types_view xs
copied-types [] [] h = refl
copied-types [] (y ∷ ys) h = absurd h
copied-types (x ∷ xs) [] h = absurd h
copied-types (x ∷ xs) (y ∷ ys) h = rw (h.0, copied-types xs ys h.1) refl

pub copied-fields : (xs ys : List (Documented FieldSyntax)) → AllZip (IsCopyOfDocumented (ReadsAs field_view)) xs ys → fields_view ys ≡ fields_view xs
copied-fields [] [] h = refl
copied-fields [] (y ∷ ys) h = absurd h
copied-fields (x ∷ xs) [] h = absurd h
copied-fields (x ∷ xs) (y ∷ ys) h = rw (h.0.0, h.0.1, copied-fields xs ys h.1) refl

pub copied-union-fields : (xs ys : List (Documented TypedefSyntax)) → AllZip (IsCopyOfDocumented (ReadsAs type_view)) xs ys → union_fields_view ys ≡ union_fields_view xs
copied-union-fields [] [] h = refl
copied-union-fields [] (y ∷ ys) h = absurd h
copied-union-fields (x ∷ xs) [] h = absurd h
copied-union-fields (x ∷ xs) (y ∷ ys) h = rw (h.0.0, h.0.1, copied-union-fields xs ys h.1) refl

pub copied-cases : (xs ys : List (Documented CaseSyntax)) → AllZip (IsCopyOfDocumented (ReadsAs case_view)) xs ys → cases_view ys ≡ cases_view xs
copied-cases [] [] h = refl
copied-cases [] (y ∷ ys) h = absurd h
copied-cases (x ∷ xs) [] h = absurd h
copied-cases (x ∷ xs) (y ∷ ys) h = rw (h.0.0, h.0.1, copied-cases xs ys h.1) refl

pub copied-decls : (xs ys : List (Documented ModuleDeclSyntax)) → AllZip (IsCopyOfDocumented (ReadsAs decl_view)) xs ys → map noted_decl ys ≡ map noted_decl xs
copied-decls [] [] h = refl
copied-decls [] (y ∷ ys) h = absurd h
copied-decls (x ∷ xs) [] h = absurd h
copied-decls (x ∷ xs) (y ∷ ys) h = rw (h.0.0, h.0.1, copied-decls xs ys h.1) refl

pub copied-items : (xs ys : List (Documented TopLevelSyntax)) → AllZip (IsCopyOfDocumented (ReadsAs item_view)) xs ys → map noted_item ys ≡ map noted_item xs
copied-items [] [] h = refl
copied-items [] (y ∷ ys) h = absurd h
copied-items (x ∷ xs) [] h = absurd h
copied-items (x ∷ xs) (y ∷ ys) h = rw (h.0.0, h.0.1, copied-items xs ys h.1) refl

pub made-tuple : (t : TupleSyntax) (types copies : List TypedefSyntax) → types ≡ (out-TupleSyntax t).types → AllZip (ReadsAs type_view) types copies
    → type_view (typedef.Tuple (roll-TupleSyntax (record { types = copies }))) ≡ type_view (typedef.Tuple t)
made-tuple t types copies e h = rw (view-Tuple (roll-TupleSyntax (record { types = copies })), view-Tuple t, copied-types types copies h, e) refl

pub made-expected : (e : ExpectedSyntax) (ok err : Option (Box TypedefSyntax Global)) → boxed_view ok ≡ boxed_view (out-ExpectedSyntax e).ok → boxed_view err ≡ boxed_view (out-ExpectedSyntax e).err
    → type_view (typedef.Expected (roll-ExpectedSyntax (record { ok = ok; err = err }))) ≡ type_view (typedef.Expected e)
made-expected e ok err p q = rw (view-Expected (roll-ExpectedSyntax (record { ok = ok; err = err })), view-Expected e, p, q) refl

pub made-union : (u : UnionSyntax) (tag : Option (Box TypedefSyntax Global)) (fields copies : List (Documented TypedefSyntax)) → boxed_view tag ≡ boxed_view (out-UnionSyntax u).tag
    → fields ≡ (out-UnionSyntax u).fields → AllZip (IsCopyOfDocumented (ReadsAs type_view)) fields copies
    → type_view (typedef.Union (roll-UnionSyntax (record { tag = tag; fields = copies }))) ≡ type_view (typedef.Union u)
made-union u tag fields copies p e h = rw (view-Union (roll-UnionSyntax (record { tag = tag; fields = copies })), view-Union u, p, copied-union-fields fields copies h, e) refl

pub ruleset copy_rules = (view_rules, copied_texts, copied-members, copied-types, copied-fields, copied-union-fields, copied-cases, copied-decls, copied-items)
