use Rattle.std.proofs.Common.{◌≡◌, ◌∷◌, ◌++◌, [], ◌∙◌, ℕ, List, map, sym, ap, subst}
use Rattle.witx_base.specs.Paths.{Path}
use Rattle.witx_ast.proofs.EntryLaws.{fits-empty}
use Rattle.witx_ast.specs.Definitions.{DefinitionTree, DefinitionsFit, definition_tree, entry_tree, introduced}
use Rattle.witx_comments.specs.Comments.{comments_view}
use Rattle.witx_scope.specs.DeclarationForms.{decl_form_of}
use Rattle.witx_scope.specs.Declarations.{decl_tree, nothing_before}
use Rattle.witx_scope.specs.Places.{location_in}
use Rattle.witx_scope.specs.Kept.{Keeps}
use Rattle.witx_check.specs.Validators.{kept_by, nothing_kept}
use Rattle.witx_check.specs.declared.validator.DocValidation.{DocValidation}
use Rattle.witx_tests_reading.proofs.tests.check.document_of_one.Goals as goal

pub into_document-requires : goal.into_document-requires
into_document-requires c =
    let kept-is : kept_by c.scope-scope.result.doc.now ≡ nothing_kept = ap kept_by c.scope-scope.ensures.doc ∙ c.in_ok-validation.ensures in
    let keeps : Keeps (kept_by c.scope-scope.result.doc.now) nothing_before = subst (λ k. Keeps k nothing_before) (sym kept-is) c.nothing_by_position.ensures in
    let empty : DefinitionsFit c.new-definitions.result (kept_by c.scope-scope.result.doc.now).entries =
    subst (λ k. DefinitionsFit c.new-definitions.result k.entries) (sym kept-is) (subst (λ ds. DefinitionsFit ds []) (sym c.new-definitions.ensures) (fits-empty introduced entry_tree)) in
    let fits = c.validate_decl.ensures.validates.fits nothing_before keeps empty in
    let same : c.validation-3-1.given.0 ≡ c.validate_decl.new.self.doc.now = c.validation-3-1.given.1 (cc) ∙ c.drop-scope-2.ensures in
    subst (λ (v : DocValidation). DefinitionsFit c.validate_decl.new.definitions (kept_by v).entries) (sym same) fits

pub returns : goal.returns
returns c =
    let kept-is : kept_by c.scope-scope.result.doc.now ≡ nothing_kept = ap kept_by c.scope-scope.ensures.doc ∙ c.in_ok-validation.ensures in
    let keeps : Keeps (kept_by c.scope-scope.result.doc.now) nothing_before = subst (λ k. Keeps k nothing_before) (sym kept-is) c.nothing_by_position.ensures in
    let tree : List ℕ → Path → DefinitionTree = λ text path. decl_tree nothing_before (location_in text path) (comments_view c.args.comments.now) (decl_form_of c.args.decl.now) in
    ap (map definition_tree) c.into_document.ensures.definitions
    ∙ c.in_ok-validate_decl.ensures.validates.appended nothing_before keeps
    ∙ ap (λ ds. map definition_tree ds ++ tree c.scope-scope.result.text.now c.scope-scope.result.path.now ∷ []) c.new-definitions.ensures
    ∙ ap (λ text. tree text c.scope-scope.result.path.now ∷ []) c.scope-scope.ensures.text
    ∙ ap (λ path. tree c.args.text.now path ∷ []) c.scope-scope.ensures.path
