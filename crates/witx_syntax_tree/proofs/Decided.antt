-- The derived comparisons decide whether the readings are equal once places are left out.
use Rattle.std.specs.Prelude.{◌≡◌, ℕ, List, [], ◌∷◌, Bool, true, false, ◌&&◌, ◌==◌, map, refl, IsTrue}
use Rattle.std.proofs.Common.{rules, ap, sym, ◌∙◌}
use Rattle.std.specs.Bool.{Decides}
use Rattle.std.specs.Cmp.Lexicographic.{pointwise}
use mathlib.Core.Bool.{beq}
use Rattle.witx_syntax_tree.specs.Trees.{QuotedText, Fields, DeclTree, FormTree}
use Rattle.witx_base.specs.SameBytes.{same_bytes, both, false-true, bytes-to, bytes-self}
use Rattle.witx_syntax_tree.specs.SameLaws.{comments-to, comments-self, type-to, type-from, fields-to, fields-self, fields-unplaced}
use Rattle.witx_syntax_tree.specs.Unplaced.{unplaced, unplaced_name, unplaced_fields, unplaced_decl, unplaced_noted_decl, unplaced_item, unplaced_noted_item, unplaced_document}
use Rattle.witx_comments.specs.Comments.{comments_view}
use Rattle.witx_syntax_tree.specs.Views.{name_view, type_view, fields_view, decl_view, noted_decl, declaration_view, item_view, noted_item, document_view}
use Rattle.witx_comments.specs.declared.comment.CommentSyntax.{CommentSyntax}
use Rattle.witx_comments.specs.declared.comment.Documented.{Documented}
use Rattle.witx_syntax_tree.specs.declared.tree.IdSyntax.{IdSyntax}
use Rattle.witx_syntax_tree.specs.declared.tree.TypedefSyntax.{TypedefSyntax}
use Rattle.witx_syntax_tree.specs.declared.tree.FieldSyntax.{FieldSyntax}
use Rattle.witx_syntax_tree.specs.declared.tree.ImportTypeSyntax.{ImportTypeSyntax}
use Rattle.witx_syntax_tree.specs.declared.tree.ImportTypeSyntax.TheVariants.{Memory}
use Rattle.witx_syntax_tree.specs.declared.tree.ModuleImportSyntax.{ModuleImportSyntax}
use Rattle.witx_syntax_tree.specs.declared.tree.InterfaceFuncSyntax.{InterfaceFuncSyntax}
use Rattle.witx_syntax_tree.specs.declared.tree.ModuleDeclSyntax.{ModuleDeclSyntax}
use Rattle.witx_syntax_tree.specs.declared.tree.ModuleDeclSyntax.TheVariants as decl
use Rattle.witx_syntax_tree.specs.declared.tree.ModuleSyntax.{ModuleSyntax}
use Rattle.witx_syntax_tree.specs.declared.tree.TypenameSyntax.{TypenameSyntax}
use Rattle.witx_syntax_tree.specs.declared.tree.ConstSyntax.{ConstSyntax}
use Rattle.witx_syntax_tree.specs.declared.tree.DeclSyntax.{DeclSyntax}
use Rattle.witx_syntax_tree.specs.declared.tree.DeclSyntax.TheVariants as declaration
use Rattle.witx_syntax_tree.specs.declared.tree.TopLevelSyntax.{TopLevelSyntax}
use Rattle.witx_syntax_tree.specs.declared.tree.TopLevelSyntax.TheVariants as top
use Rattle.witx_syntax_tree.specs.declared.tree.TopLevelDocument.{TopLevelDocument}
use Rattle.witx_comments.specs.contracts.comment.CommentSyntaxPartialEq.TheImpl as comments
use Rattle.witx_syntax_tree.specs.contracts.tree.IdSyntaxPartialEq.TheImpl as ids
use Rattle.witx_syntax_tree.specs.contracts.tree.TypedefSyntaxPartialEq.TheImpl as typedefs
use Rattle.witx_syntax_tree.specs.contracts.tree.FieldSyntaxPartialEq.TheImpl as fields
use Rattle.witx_syntax_tree.specs.contracts.tree.ImportTypeSyntaxPartialEq.TheImpl as import_types
use Rattle.witx_syntax_tree.specs.contracts.tree.ModuleImportSyntaxPartialEq.TheImpl as imports
use Rattle.witx_syntax_tree.specs.contracts.tree.InterfaceFuncSyntaxPartialEq.TheImpl as funcs
use Rattle.witx_syntax_tree.specs.contracts.tree.ModuleDeclSyntaxPartialEq.TheImpl as decls
use Rattle.witx_syntax_tree.specs.contracts.tree.ModuleSyntaxPartialEq.TheImpl as modules
use Rattle.witx_syntax_tree.specs.contracts.tree.TypenameSyntaxPartialEq.TheImpl as typenames
use Rattle.witx_syntax_tree.specs.contracts.tree.ConstSyntaxPartialEq.TheImpl as constants
use Rattle.witx_syntax_tree.specs.contracts.tree.DeclSyntaxPartialEq.TheImpl as declarations
use Rattle.witx_syntax_tree.specs.contracts.tree.TopLevelSyntaxPartialEq.TheImpl as tops
use Rattle.witx_syntax_tree.specs.contracts.tree.TopLevelDocumentPartialEq.TheImpl as documents
use Rattle.witx_syntax_tree.proofs.Equal.{documented_eq, texts-same, fields-same}

pub both-decide : (a b : Bool) (P Q : Type 0) → Decides a P → Decides b Q → Decides (a && b) (P × Q)
both-decide a b P Q p q = (λ h. let r = both a b h in (p.0 r.0, q.0 r.1), λ r. rw (p.1 r.0) (q.1 r.1))

pub decide-as : (a : Bool) (P Q : Type 0) → Decides a P → (P → Q) → (Q → P) → Decides a Q
decide-as a P Q d f g = (λ h. f (d.0 h), λ q. d.1 (g q))

-- lists compared item by item, read in two steps
pub lists-decide : {A B C : Type 0} (eq : A → A → Bool) (g : A → B) (f : B → C) → ((x y : A) → Decides (eq x y) (f (g x) ≡ f (g y)))
    → (xs ys : List A) → Decides (pointwise eq xs ys) (map f (map g xs) ≡ map f (map g ys))
lists-decide eq g f d [] [] = (λ h. refl, λ e. refl)
lists-decide eq g f d [] (y ∷ ys) = (λ h. absurd (false-true h), λ e. cc)
lists-decide eq g f d (x ∷ xs) [] = (λ h. absurd (false-true h), λ e. cc)
lists-decide eq g f d (x ∷ xs) (y ∷ ys) =
    decide-as _ _ _ (both-decide _ _ _ _ (d x y) (lists-decide eq g f d xs ys))
    (λ p. let a = p.0 in let b = p.1 in cc)
    (λ e. (cc, cc))

pub text-decides : (x y : List ℕ) → Decides (same_bytes x y) (x ≡ y)
text-decides x y = (bytes-to x y, λ e. rw e (bytes-self y))

pub bool-decides : (a b : Bool) → Decides (beq a b) (a ≡ b)
bool-decides true true = (λ h. refl, λ e. refl)
bool-decides true false = (λ h. absurd (false-true h), λ e. cc)
bool-decides false true = (λ h. absurd (false-true h), λ e. cc)
bool-decides false false = (λ h. refl, λ e. refl)

pub number-decides : (m n : ℕ) → Decides (m == n) (m ≡ n)
number-decides m n = search rules

pub comments-decide : (x y : CommentSyntax) → Decides (comments.ghosts.eq x y) (comments_view x ≡ comments_view y)
comments-decide x y = (
  λ h. comments-to (comments_view x) (comments_view y) (sym (texts-same x.comments y.comments) ∙ h),
  λ e. texts-same x.comments y.comments ∙ (rw e (comments-self (comments_view y))),
)

pub id-decides : (x y : IdSyntax) → Decides (ids.ghosts.eq x y) (unplaced_name (name_view x) ≡ unplaced_name (name_view y))
id-decides x y = decide-as _ _ _ (text-decides x.name.now y.name.now) (λ e. cc) (λ e. ap (λ n. n.name) e)

pub type-decides : (x y : TypedefSyntax) → Decides (typedefs.ghosts.eq x y) (unplaced (type_view x) ≡ unplaced (type_view y))
type-decides x y = (type-to (type_view x) (type_view y), type-from (type_view x) (type_view y))

pub fields-decide : (xs ys : List (Documented FieldSyntax)) → Decides (pointwise (documented_eq fields.ghosts.eq) xs ys) (unplaced_fields (fields_view xs) ≡ unplaced_fields (fields_view ys))
fields-decide xs ys = (
  λ h. fields-to (fields_view xs) (fields_view ys) (sym (fields-same xs ys) ∙ h),
  λ e. fields-same xs ys ∙ (fields-unplaced (fields_view xs) (fields_view ys) ∙ (rw e (fields-self (unplaced_fields (fields_view ys))))),
)

pub import-types-decide : (a b : ImportTypeSyntax) → Decides (import_types.ghosts.eq a b) (a ≡ b)
import-types-decide Memory Memory = (λ h. refl, λ e. refl)

pub one-import-type : (a b : ImportTypeSyntax) → a ≡ b
one-import-type Memory Memory = refl

pub memory-text : (a b : QuotedText) → DeclTree.memory a ≡ DeclTree.memory b → a.text ≡ b.text
memory-text a b e = let k : a ≡ b = cc in ap (λ q. q.text) k

pub function-parts : (a b : QuotedText) (p q r s : Fields) (n m i j : Bool) → DeclTree.function a p r n i ≡ DeclTree.function b q s m j
    → (a.text ≡ b.text) × ((p ≡ q) × ((r ≡ s) × ((n ≡ m) × (i ≡ j))))
function-parts a b p q r s n m i j e = let k : a ≡ b = cc in (ap (λ q. q.text) k, (cc, (cc, (cc, cc))))

pub import-decides : (x y : ModuleImportSyntax) → Decides (imports.ghosts.eq x y) (unplaced_decl (decl_view (decl.Import x)) ≡ unplaced_decl (decl_view (decl.Import y)))
import-decides x y =
    decide-as _ _ _ (both-decide _ _ _ _ (text-decides x.name y.name) (import-types-decide x.type_ y.type_))
    (λ p. let a = p.0 in cc)
    (λ e. (memory-text _ _ e, one-import-type x.type_ y.type_))

pub func-decides : (x y : InterfaceFuncSyntax) → Decides (funcs.ghosts.eq x y) (unplaced_decl (decl_view (decl.Func x)) ≡ unplaced_decl (decl_view (decl.Func y)))
func-decides x y =
    decide-as _ _ _
    (both-decide _ _ _ _ (text-decides x.export y.export)
    (both-decide _ _ _ _ (fields-decide x.params y.params)
    (both-decide _ _ _ _ (fields-decide x.results y.results)
    (both-decide _ _ _ _ (bool-decides x.noreturn y.noreturn) (bool-decides x.stored y.stored)))))
    (λ p. let a = p.0 in let b = p.1.0 in let c = p.1.1.0 in let d = p.1.1.1.0 in let f = p.1.1.1.1 in cc)
    (λ e. function-parts _ _ _ _ _ _ _ _ _ _ e)

pub decl-decides : (x y : ModuleDeclSyntax) → Decides (decls.ghosts.eq x y) (unplaced_decl (decl_view x) ≡ unplaced_decl (decl_view y))
decl-decides (decl.Import i) (decl.Import j) = import-decides i j
decl-decides (decl.Import i) (decl.Func g) = (λ h. absurd (false-true h), λ e. cc)
decl-decides (decl.Func f) (decl.Import j) = (λ h. absurd (false-true h), λ e. cc)
decl-decides (decl.Func f) (decl.Func g) = func-decides f g

pub noted-decl-decides : (x y : Documented ModuleDeclSyntax) → Decides (documented_eq decls.ghosts.eq x y) (unplaced_noted_decl (noted_decl x) ≡ unplaced_noted_decl (noted_decl y))
noted-decl-decides x y =
    decide-as _ _ _ (both-decide _ _ _ _ (comments-decide x.comments y.comments) (decl-decides x.item y.item))
    (λ p. let a = p.0 in let b = p.1 in cc)
    (λ e. (ap (λ d. d.comments) e, ap (λ d. d.decl) e))

pub typename-decides : (x y : TypenameSyntax) → Decides (typenames.ghosts.eq x y) (unplaced_item (declaration_view (declaration.Typename x)) ≡ unplaced_item (declaration_view (declaration.Typename y)))
typename-decides x y =
    decide-as _ _ _ (both-decide _ _ _ _ (id-decides x.ident y.ident) (type-decides x.def y.def))
    (λ p. let a = p.0 in let b = p.1 in cc)
    (λ e. (cc, cc))

pub module-decides : (x y : ModuleSyntax) → Decides (modules.ghosts.eq x y) (unplaced_item (declaration_view (declaration.Module x)) ≡ unplaced_item (declaration_view (declaration.Module y)))
module-decides x y =
    decide-as _ _ _
    (both-decide _ _ _ _ (id-decides x.name y.name) (lists-decide (documented_eq decls.ghosts.eq) noted_decl unplaced_noted_decl noted-decl-decides x.decls y.decls))
    (λ p. let a = p.0 in let b = p.1 in cc)
    (λ e. (cc, cc))

pub constant-decides : (x y : Documented ConstSyntax) → Decides (documented_eq constants.ghosts.eq x y) (unplaced_item (declaration_view (declaration.Const x)) ≡ unplaced_item (declaration_view (declaration.Const y)))
constant-decides x y =
    decide-as _ _ _
    (both-decide _ _ _ _ (comments-decide x.comments y.comments)
    (both-decide _ _ _ _ (id-decides x.item.ty y.item.ty)
    (both-decide _ _ _ _ (id-decides x.item.name y.item.name) (number-decides x.item.value y.item.value))))
    (λ p. let a = p.0 in let b = p.1.0 in let c = p.1.1.0 in let d = p.1.1.1 in cc)
    (λ e. (cc, (cc, (cc, cc))))

pub declaration-decides : (x y : DeclSyntax) → Decides (declarations.ghosts.eq x y) (unplaced_item (declaration_view x) ≡ unplaced_item (declaration_view y))
declaration-decides (declaration.Typename t) (declaration.Typename u) = typename-decides t u
declaration-decides (declaration.Module m) (declaration.Module n) = module-decides m n
declaration-decides (declaration.Const c) (declaration.Const d) = constant-decides c d
declaration-decides _ _ = (λ h. absurd (false-true h), λ e. cc)

pub item-decides : (x y : TopLevelSyntax) → Decides (tops.ghosts.eq x y) (unplaced_item (item_view x) ≡ unplaced_item (item_view y))
item-decides (top.Decl d) (top.Decl e) = declaration-decides d e
item-decides (top.Use t) (top.Use u) = decide-as _ _ _ (text-decides t u) (λ e. ap FormTree.uses e) (λ e. cc)
item-decides (top.Use t) (top.Decl (declaration.Typename u)) = (λ h. absurd (false-true h), λ e. cc)
item-decides (top.Use t) (top.Decl (declaration.Module n)) = (λ h. absurd (false-true h), λ e. cc)
item-decides (top.Use t) (top.Decl (declaration.Const d)) = (λ h. absurd (false-true h), λ e. cc)
item-decides (top.Decl (declaration.Typename u)) (top.Use t) = (λ h. absurd (false-true h), λ e. cc)
item-decides (top.Decl (declaration.Module n)) (top.Use t) = (λ h. absurd (false-true h), λ e. cc)
item-decides (top.Decl (declaration.Const d)) (top.Use t) = (λ h. absurd (false-true h), λ e. cc)

pub noted-item-decides : (x y : Documented TopLevelSyntax) → Decides (documented_eq tops.ghosts.eq x y) (unplaced_noted_item (noted_item x) ≡ unplaced_noted_item (noted_item y))
noted-item-decides x y =
    decide-as _ _ _ (both-decide _ _ _ _ (comments-decide x.comments y.comments) (item-decides x.item y.item))
    (λ p. let a = p.0 in let b = p.1 in cc)
    (λ e. (ap (λ d. d.comments) e, ap (λ d. d.item) e))

pub document-decides : (x y : TopLevelDocument) → Decides (documents.ghosts.eq x y) (unplaced_document (document_view x) ≡ unplaced_document (document_view y))
document-decides x y = lists-decide (documented_eq tops.ghosts.eq) noted_item unplaced_noted_item noted-item-decides x.items y.items

-- the same of an answer that is the comparison
pub told : (b a : Bool) (P : Type 0) → Decides a P → b ≡ a → (IsTrue b → P) × (P → IsTrue b)
told b a P d e = (λ h. d.0 (sym e ∙ h), λ p. e ∙ d.1 p)
