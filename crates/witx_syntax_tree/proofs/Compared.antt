-- Each comparison decides whether the readings without places are the same, and a copy has the reading of its original.
use Rattle.std.specs.Prelude.{◌≡◌, ℕ, List, [], ◌∷◌, Bool, true, ◌&&◌, map, Option, Some, None, refl}
use Rattle.std.proofs.Common.{rules, ap, sym, ◌∙◌}
use Rattle.std.specs.Bool.{Decides}
use Rattle.std.specs.List.{AllZip}
use Rattle.std.specs.Option.{option_eq}
use Rattle.std.specs.Cmp.Lexicographic.{pointwise}
use Rattle.witx_comments.specs.Comments.{Comments, comments_view}
use Rattle.witx_comments.specs.Copies.{IsCopyOfDocumented}
use Rattle.witx_comments.specs.contracts.comment.CommentSyntaxPartialEq.TheImpl as comments
use Rattle.witx_syntax_tree.specs.Trees.{Maybe, Name}
use Rattle.witx_syntax_tree.specs.Same.{same_type}
use Rattle.witx_base.specs.SameBytes.{false-true}
use Rattle.witx_syntax_tree.specs.SameLaws.{syntax-builtin-to, syntax-builtin-self, type-to, type-from}
use Rattle.witx_syntax_tree.specs.Unplaced.{unplaced, unplaced_maybe, unplaced_name, unplaced_decl, unplaced_item, unplaced_document}
use Rattle.witx_syntax_tree.specs.Views.{CaseView, FieldView, type_view, optional_view, field_view, case_view, decl_view, declaration_view, item_view, document_view}
use Rattle.witx_syntax_tree.specs.Compared.{Compares, documented_reading, field_reading, case_reading, constant_reading}
use Rattle.witx_syntax_tree.specs.declared.tree.BuiltinSyntax.{BuiltinSyntax}
use Rattle.witx_syntax_tree.specs.declared.tree.HandleSyntax.{HandleSyntax}
use Rattle.witx_syntax_tree.specs.declared.tree.IdSyntax.{IdSyntax}
use Rattle.witx_syntax_tree.specs.declared.tree.ModuleImportSyntax.{ModuleImportSyntax}
use Rattle.witx_syntax_tree.specs.declared.tree.TypedefSyntax.{TypedefSyntax}
use Rattle.witx_syntax_tree.specs.declared.tree.TypedefSyntax.TheVariants as typedef
use Rattle.witx_syntax_tree.specs.declared.tree.TupleSyntax.{TupleSyntax, out-TupleSyntax}
use Rattle.witx_syntax_tree.specs.declared.tree.ExpectedSyntax.{ExpectedSyntax, out-ExpectedSyntax}
use Rattle.witx_syntax_tree.specs.declared.tree.ModuleDeclSyntax.TheVariants as decl
use Rattle.witx_syntax_tree.specs.declared.tree.DeclSyntax.TheVariants as declaration
use Rattle.witx_syntax_tree.specs.contracts.tree.BuiltinSyntaxPartialEq.TheImpl as builtins
use Rattle.witx_syntax_tree.specs.contracts.tree.HandleSyntaxPartialEq.TheImpl as handles
use Rattle.witx_syntax_tree.specs.contracts.tree.IdSyntaxPartialEq.TheImpl as ids
use Rattle.witx_syntax_tree.specs.contracts.tree.TypedefSyntaxPartialEq.TheImpl as typedefs
use Rattle.witx_syntax_tree.specs.contracts.tree.EnumSyntaxPartialEq.TheImpl as enums
use Rattle.witx_syntax_tree.specs.contracts.tree.FlagsSyntaxPartialEq.TheImpl as flagss
use Rattle.witx_syntax_tree.specs.contracts.tree.TupleSyntaxPartialEq.TheImpl as tuples
use Rattle.witx_syntax_tree.specs.contracts.tree.ExpectedSyntaxPartialEq.TheImpl as expecteds
use Rattle.witx_syntax_tree.specs.contracts.tree.RecordSyntaxPartialEq.TheImpl as records
use Rattle.witx_syntax_tree.specs.contracts.tree.UnionSyntaxPartialEq.TheImpl as unions
use Rattle.witx_syntax_tree.specs.contracts.tree.VariantSyntaxPartialEq.TheImpl as variants
use Rattle.witx_syntax_tree.specs.contracts.tree.FieldSyntaxPartialEq.TheImpl as fields
use Rattle.witx_syntax_tree.specs.contracts.tree.CaseSyntaxPartialEq.TheImpl as cases
use Rattle.witx_syntax_tree.specs.contracts.tree.ConstSyntaxPartialEq.TheImpl as constants
use Rattle.witx_syntax_tree.specs.contracts.tree.ModuleImportSyntaxPartialEq.TheImpl as imports
use Rattle.witx_syntax_tree.specs.contracts.tree.InterfaceFuncSyntaxPartialEq.TheImpl as funcs
use Rattle.witx_syntax_tree.specs.contracts.tree.ModuleDeclSyntaxPartialEq.TheImpl as decls
use Rattle.witx_syntax_tree.specs.contracts.tree.ModuleSyntaxPartialEq.TheImpl as modules
use Rattle.witx_syntax_tree.specs.contracts.tree.TypenameSyntaxPartialEq.TheImpl as typenames
use Rattle.witx_syntax_tree.specs.contracts.tree.DeclSyntaxPartialEq.TheImpl as declarations
use Rattle.witx_syntax_tree.specs.contracts.tree.TopLevelSyntaxPartialEq.TheImpl as tops
use Rattle.witx_syntax_tree.specs.contracts.tree.TopLevelDocumentPartialEq.TheImpl as documents
use Rattle.witx_syntax_tree.proofs.TypeViews.{view-Tuple, view-Expected, view-Field, view-Case}
use Rattle.witx_syntax_tree.proofs.Equal.{documented_eq, types-same, boxed-same, same-Enum, same-Flags, same-Record, same-Union, same-Variant}
use Rattle.witx_syntax_tree.proofs.Decided.{both-decide, decide-as, text-decides, number-decides, comments-decide, id-decides, type-decides, import-decides, func-decides, decl-decides, typename-decides, module-decides, declaration-decides, item-decides, document-decides}

-- a copy that reads as its original
compares : {T V : Type 0} (eq : T → T → Bool) (is_copy : T → T → Type 0) (reading : T → V) → ((a b : T) → Decides (eq a b) (reading a ≡ reading b))
    → ((original made : T) → is_copy original made → reading made ≡ reading original) → Compares eq is_copy reading
compares eq is_copy reading d read = record { equal = d; copied = λ original made h. (d made original).1 (read original made h) }

-- ---- any documented item, and any list

and-true : (a b : Bool) → a ≡ true → b ≡ true → a && b ≡ true
and-true a b p q = rw p q

module _ {T V : Type 0} (eq : T → T → Bool) (is_copy : T → T → Type 0) (reading : T → V) (c : Compares eq is_copy reading) where
  pub documented-compare : Compares (documented_eq eq) (IsCopyOfDocumented is_copy) (documented_reading reading)
  documented-compare = record {
    equal = λ x y. decide-as _ _ _ (both-decide _ _ _ _ (comments-decide x.comments y.comments) (c.equal x.item y.item))
        (λ p. let a = p.0 in let b = p.1 in cc)
        (λ e. (ap (λ (v : Comments × V). v.0) e, ap (λ (v : Comments × V). v.1) e));
    copied = λ original made h. and-true _ _ ((comments-decide made.comments original.comments).1 h.0) (c.copied original.item made.item h.1);
  }

  lists-decide : (xs ys : List T) → Decides (pointwise eq xs ys) (map reading xs ≡ map reading ys)
  lists-decide [] [] = (λ h. refl, λ e. refl)
  lists-decide [] (y ∷ ys) = (λ h. absurd (false-true h), λ e. cc)
  lists-decide (x ∷ xs) [] = (λ h. absurd (false-true h), λ e. cc)
  lists-decide (x ∷ xs) (y ∷ ys) =
      decide-as _ _ _ (both-decide _ _ _ _ (c.equal x y) (lists-decide xs ys))
      (λ p. let a = p.0 in let b = p.1 in cc)
      (λ e. (cc, cc))

  lists-copied : (originals made : List T) → AllZip is_copy originals made → pointwise eq made originals ≡ true
  lists-copied [] [] h = refl
  lists-copied [] (y ∷ ys) h = absurd h
  lists-copied (x ∷ xs) [] h = absurd h
  lists-copied (x ∷ xs) (y ∷ ys) h = and-true _ _ (c.copied x y h.0) (lists-copied xs ys h.1)

  pub lists-compare : Compares (pointwise eq) (AllZip is_copy) (map reading)
  lists-compare = record { equal = lists-decide; copied = lists-copied }

-- ---- what a type is made of

-- a part that reads as the type of which it is the only part
by-type : {T : Type 0} (eq : T → T → Bool) (whole : T → TypedefSyntax) → ((a b : T) → eq a b ≡ same_type (type_view (whole a)) (type_view (whole b)))
    → Compares eq (λ original made. type_view (whole made) ≡ type_view (whole original)) (λ x. unplaced (type_view (whole x)))
by-type eq whole same =
    compares eq _ (λ x. unplaced (type_view (whole x)))
    (λ a b. (λ h. type-to (type_view (whole a)) (type_view (whole b)) (sym (same a b) ∙ h), λ e. same a b ∙ type-from (type_view (whole a)) (type_view (whole b)) e))
    (λ original made h. ap unplaced h)

pub enums-compare : Compares enums.ghosts.eq (λ original made. type_view (typedef.Enum made) ≡ type_view (typedef.Enum original)) (λ x. unplaced (type_view (typedef.Enum x)))
enums-compare = by-type enums.ghosts.eq typedef.Enum (λ a b. same-Enum (enums.ghosts.eq a b) (typedef.Enum a) (typedef.Enum b) a b refl refl refl)

pub flags-compare : Compares flagss.ghosts.eq (λ original made. type_view (typedef.Flags made) ≡ type_view (typedef.Flags original)) (λ x. unplaced (type_view (typedef.Flags x)))
flags-compare = by-type flagss.ghosts.eq typedef.Flags (λ a b. same-Flags (flagss.ghosts.eq a b) (typedef.Flags a) (typedef.Flags b) a b refl refl refl)

pub records-compare : Compares records.ghosts.eq (λ original made. type_view (typedef.Record made) ≡ type_view (typedef.Record original)) (λ x. unplaced (type_view (typedef.Record x)))
records-compare = by-type records.ghosts.eq typedef.Record (λ a b. same-Record (records.ghosts.eq a b) (typedef.Record a) (typedef.Record b) a b refl refl refl)

pub unions-compare : Compares unions.ghosts.eq (λ original made. type_view (typedef.Union made) ≡ type_view (typedef.Union original)) (λ x. unplaced (type_view (typedef.Union x)))
unions-compare = by-type unions.ghosts.eq typedef.Union (λ a b. same-Union (unions.ghosts.eq a b) (typedef.Union a) (typedef.Union b) a b refl refl refl)

pub variants-compare : Compares variants.ghosts.eq (λ original made. type_view (typedef.Variant made) ≡ type_view (typedef.Variant original)) (λ x. unplaced (type_view (typedef.Variant x)))
variants-compare = by-type variants.ghosts.eq typedef.Variant (λ a b. same-Variant (variants.ghosts.eq a b) (typedef.Variant a) (typedef.Variant b) a b refl refl refl)

same-Tuple : (a b : TupleSyntax) → tuples.ghosts.eq a b ≡ same_type (type_view (typedef.Tuple a)) (type_view (typedef.Tuple b))
same-Tuple a b = rw (view-Tuple a, view-Tuple b, ← types-same (out-TupleSyntax a).types (out-TupleSyntax b).types) refl

pub tuples-compare : Compares tuples.ghosts.eq (λ original made. type_view (typedef.Tuple made) ≡ type_view (typedef.Tuple original)) (λ x. unplaced (type_view (typedef.Tuple x)))
tuples-compare = by-type tuples.ghosts.eq typedef.Tuple same-Tuple

same-Expected : (a b : ExpectedSyntax) → expecteds.ghosts.eq a b ≡ same_type (type_view (typedef.Expected a)) (type_view (typedef.Expected b))
same-Expected a b =
    rw (view-Expected a, view-Expected b, ← boxed-same (out-ExpectedSyntax a).ok (out-ExpectedSyntax b).ok, ← boxed-same (out-ExpectedSyntax a).err (out-ExpectedSyntax b).err) refl

pub expecteds-compare : Compares expecteds.ghosts.eq (λ original made. type_view (typedef.Expected made) ≡ type_view (typedef.Expected original)) (λ x. unplaced (type_view (typedef.Expected x)))
expecteds-compare = by-type expecteds.ghosts.eq typedef.Expected same-Expected

pub types-compare : Compares typedefs.ghosts.eq (λ original made. type_view made ≡ type_view original) (λ x. unplaced (type_view x))
types-compare = compares _ _ _ type-decides (λ original made h. ap unplaced h)

pub fields-compare : Compares fields.ghosts.eq (λ original made. field_view made ≡ field_view original) field_reading
fields-compare =
    compares _ _ _
    (λ x y. decide-as _ _ _ (both-decide _ _ _ _ (id-decides x.name y.name) (type-decides x.type_ y.type_))
    (λ p. let a = p.0 in let b = p.1 in cc)
    (λ e. (ap (λ (v : FieldView). v.name) e, ap (λ (v : FieldView). v.type_) e)))
    (λ original made h. ap (λ (v : FieldView). record { name = unplaced_name v.name; type_ = unplaced v.type_ }) (sym (view-Field made) ∙ (h ∙ view-Field original)))

optional-decides : (t u : Option TypedefSyntax) → Decides (option_eq typedefs.ghosts.eq t u) (unplaced_maybe (optional_view t) ≡ unplaced_maybe (optional_view u))
optional-decides None None = (λ h. refl, λ e. refl)
optional-decides (Some t) (Some u) = decide-as _ _ _ (type-decides t u) (λ e. ap Maybe.present e) (λ e. cc)
optional-decides None (Some u) = (λ h. absurd (false-true h), λ e. cc)
optional-decides (Some t) None = (λ h. absurd (false-true h), λ e. cc)

pub cases-compare : Compares cases.ghosts.eq (λ original made. case_view made ≡ case_view original) case_reading
cases-compare =
    compares _ _ _
    (λ x y. decide-as _ _ _ (both-decide _ _ _ _ (id-decides x.name y.name) (optional-decides x.ty y.ty))
    (λ p. let a = p.0 in let b = p.1 in cc)
    (λ e. (ap (λ (v : CaseView). v.name) e, ap (λ (v : CaseView). v.ty) e)))
    (λ original made h. ap (λ (v : CaseView). record { name = unplaced_name v.name; ty = unplaced_maybe v.ty }) (sym (view-Case made) ∙ (h ∙ view-Case original)))

-- ---- names, comments, words

pub ids-compare : Compares ids.ghosts.eq (λ original made. made ≡ original) (λ (x : IdSyntax). x.name.now)
ids-compare = compares _ _ _ (λ x y. text-decides x.name.now y.name.now) (λ original made h. ap (λ (x : IdSyntax). x.name.now) h)

pub comments-compare : Compares comments.ghosts.eq (λ original made. comments_view made ≡ comments_view original) comments_view
comments-compare = compares _ _ _ comments-decide (λ original made h. h)

pub builtins-decide : (a b : BuiltinSyntax) → Decides (builtins.ghosts.eq a b) (a ≡ b)
builtins-decide a b = (syntax-builtin-to a b, λ e. rw e (syntax-builtin-self b))

pub handles-decide : (a b : HandleSyntax) → Decides (handles.ghosts.eq a b) (a ≡ b)
handles-decide a b = search rules

-- ---- declarations

pub constants-compare : Compares constants.ghosts.eq (λ original made. made ≡ original) constant_reading
constants-compare =
    compares _ _ _
    (λ x y. decide-as _ _ _ (both-decide _ _ _ _ (id-decides x.ty y.ty) (both-decide _ _ _ _ (id-decides x.name y.name) (number-decides x.value y.value)))
    (λ p. let a = p.0 in let b = p.1.0 in let d = p.1.1 in cc)
    (λ e. (ap (λ (v : Name × (Name × ℕ)). v.0) e, (ap (λ (v : Name × (Name × ℕ)). v.1.0) e, ap (λ (v : Name × (Name × ℕ)). v.1.1) e))))
    (λ original made h. ap constant_reading h)

pub imports-compare : Compares imports.ghosts.eq (λ original made. made ≡ original) (λ x. unplaced_decl (decl_view (decl.Import x)))
imports-compare = compares _ _ _ import-decides (λ original made h. ap (λ (x : ModuleImportSyntax). unplaced_decl (decl_view (decl.Import x))) h)

pub funcs-compare : Compares funcs.ghosts.eq (λ original made. decl_view (decl.Func made) ≡ decl_view (decl.Func original)) (λ x. unplaced_decl (decl_view (decl.Func x)))
funcs-compare = compares _ _ _ func-decides (λ original made h. ap unplaced_decl h)

pub decls-compare : Compares decls.ghosts.eq (λ original made. decl_view made ≡ decl_view original) (λ x. unplaced_decl (decl_view x))
decls-compare = compares _ _ _ decl-decides (λ original made h. ap unplaced_decl h)

pub typenames-compare : Compares typenames.ghosts.eq (λ original made. declaration_view (declaration.Typename made) ≡ declaration_view (declaration.Typename original))
    (λ x. unplaced_item (declaration_view (declaration.Typename x)))
typenames-compare = compares _ _ _ typename-decides (λ original made h. ap unplaced_item h)

pub modules-compare : Compares modules.ghosts.eq (λ original made. declaration_view (declaration.Module made) ≡ declaration_view (declaration.Module original))
    (λ x. unplaced_item (declaration_view (declaration.Module x)))
modules-compare = compares _ _ _ module-decides (λ original made h. ap unplaced_item h)

pub declarations-compare : Compares declarations.ghosts.eq (λ original made. declaration_view made ≡ declaration_view original) (λ x. unplaced_item (declaration_view x))
declarations-compare = compares _ _ _ declaration-decides (λ original made h. ap unplaced_item h)

pub items-compare : Compares tops.ghosts.eq (λ original made. item_view made ≡ item_view original) (λ x. unplaced_item (item_view x))
items-compare = compares _ _ _ item-decides (λ original made h. ap unplaced_item h)

pub documents-compare : Compares documents.ghosts.eq (λ original made. document_view made ≡ document_view original) (λ x. unplaced_document (document_view x))
documents-compare = compares _ _ _ document-decides (λ original made h. ap unplaced_document h)
