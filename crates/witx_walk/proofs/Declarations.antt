-- What one more declaration adds to what declarations leave.
use Rattle.std.proofs.Common.{◌≡◌, ℕ, List, [], ◌∷◌, ◌++◌, refl, sym, ap, ◌∙◌, subst, map, append_assoc, append-nil, Some, None, Ok}
use Rattle.witx_base.specs.Paths.{Path}
use Rattle.witx_comments.specs.Comments.{Comments}
use Rattle.witx_syntax_tree.specs.Views.{declaration_view}
use Rattle.witx_syntax_tree.specs.declared.tree.DeclSyntax.{DeclSyntax}
use Rattle.witx_syntax_tree.specs.declared.tree.DeclSyntax.TheVariants as decl
use Rattle.witx_ast.specs.Definitions.{definition_tree, DefinitionsFit}
use Rattle.witx_ast.specs.Ordered.{IsOrdered}
use Rattle.witx_ast.specs.Closed.{IsClosed}
use Rattle.witx_scope.specs.Faults.{first_fault}
use Rattle.witx_scope.specs.Places.{location_in}
use Rattle.witx_scope.specs.DeclarationForms.{decl_form_of}
use Rattle.witx_scope.specs.Declarations.{Past, nothing_before, decl_checks, decl_tree, accepted}
use Rattle.witx_scope.specs.Kept.{Keeps}
use Rattle.witx_check.specs.Validators.{kept_by}
use Rattle.witx_order.specs.Items.{Declared}
use Rattle.witx_order.specs.Walks.{declared_in}
use Rattle.witx_walk.specs.Meaning.{form_of, form_fault, form_definitions, form_accepted, past_with, definitions_with, past_from, definitions_from, past_of, definitions_of, fault_behind}
use Rattle.witx_walk.specs.Steps.{Holding, IsDeclared}
use Rattle.witx_walk.specs.declared.walking.Walking.{Walking}

pub past-more : (past : Past) (ds : List Declared) (δ : Declared) → past_from past (ds ++ δ ∷ []) ≡ past_with (past_from past ds) δ
past-more past [] δ = refl
past-more past (d ∷ ds) δ = past-more (past_with past d) ds δ

pub definitions-more : (past : Past) (ds : List Declared) (δ : Declared)
    → definitions_from past (ds ++ δ ∷ []) ≡ definitions_from past ds ++ definitions_with (past_from past ds) δ
definitions-more past [] δ = append-nil (definitions_with past δ)
definitions-more past (d ∷ ds) δ =
    ap (λ xs. definitions_with past d ++ xs) (definitions-more (past_with past d) ds δ)
    ∙ sym (append_assoc (definitions_with past d) (definitions_from (past_with past d) ds) (definitions_with (past_from past (d ∷ ds)) δ))

pub form-is : (d : DeclSyntax) → form_of (declaration_view d) ≡ Some (decl_form_of d)
form-is (decl.Typename t) = refl
form-is (decl.Module m) = refl
form-is (decl.Const c) = refl

module _ (path : Path) (text : List ℕ) (comments : Comments) (d : DeclSyntax) where
  abbrev δ : Declared
  δ = declared_in path text (record { comments = comments; item = declaration_view d })

  pub fault-is : (ds : List Declared) → fault_behind ds δ ≡ first_fault (decl_checks (past_of ds) (location_in text path) (decl_form_of d))
  fault-is ds = ap (λ o. form_fault (past_of ds) (location_in text path) o) (form-is d)

  past-is : (ds : List Declared) → past_of (ds ++ δ ∷ []) ≡ accepted (past_of ds) (location_in text path) comments (decl_form_of d)
  past-is ds = past-more nothing_before ds δ ∙ ap (λ o. form_accepted (past_of ds) (location_in text path) comments o) (form-is d)

  definitions-are : (ds : List Declared) → definitions_of (ds ++ δ ∷ []) ≡ definitions_of ds ++ decl_tree (past_of ds) (location_in text path) comments (decl_form_of d) ∷ []
  definitions-are ds = definitions-more nothing_before ds δ
      ∙ ap (λ o. definitions_of ds ++ form_definitions (past_of ds) (location_in text path) comments o) (form-is d)

  pub holding-more : (walk walk' : Walking) (ds : List Declared) → Holding walk ds
      → Keeps (kept_by walk'.validation) (accepted (past_of ds) (location_in text path) comments (decl_form_of d))
      → map definition_tree walk'.definitions ≡ map definition_tree walk.definitions ++ decl_tree (past_of ds) (location_in text path) comments (decl_form_of d) ∷ []
      → DefinitionsFit walk'.definitions (kept_by walk'.validation).entries
      → IsOrdered (map definition_tree walk'.definitions)
      → IsClosed (map definition_tree walk'.definitions)
      → Holding walk' (ds ++ δ ∷ [])
  holding-more walk walk' ds h keeps definitions fits ordered closed = record {
    keeps = (let P : Past → Type 0 = λ past. Keeps (kept_by walk'.validation) past in subst P (sym (past-is ds)) keeps);
    definitions = definitions ∙ (ap (λ xs. xs ++ decl_tree (past_of ds) (location_in text path) comments (decl_form_of d) ∷ []) h.definitions ∙ sym (definitions-are ds));
    fits = fits;
    ordered = ordered;
    closed = closed;
  }

  -- the answer Ok of the checker
  pub accepted-is : {U : Type 0} (walk walk' : Walking) (u : U)
      → ((past : Past) → Keeps (kept_by walk.validation) past → first_fault (decl_checks past (location_in text path) (decl_form_of d)) ≡ None)
      → ((past : Past) → Keeps (kept_by walk.validation) past → map definition_tree walk'.definitions ≡ map definition_tree walk.definitions ++ decl_tree past (location_in text path) comments (decl_form_of d) ∷ [])
      → ((past : Past) → Keeps (kept_by walk.validation) past → Keeps (kept_by walk'.validation) (accepted past (location_in text path) comments (decl_form_of d)))
      → ((past : Past) → Keeps (kept_by walk.validation) past → DefinitionsFit walk.definitions (kept_by walk.validation).entries → DefinitionsFit walk'.definitions (kept_by walk'.validation).entries)
      → (DefinitionsFit walk.definitions (kept_by walk.validation).entries → IsOrdered (map definition_tree walk.definitions) → IsOrdered (map definition_tree walk'.definitions))
      → (DefinitionsFit walk.definitions (kept_by walk.validation).entries → IsClosed (map definition_tree walk.definitions) → IsClosed (map definition_tree walk'.definitions))
      → (ds : List Declared) → Holding walk ds → IsDeclared {U = U} (fault_behind ds δ) ds δ walk' (Ok u)
  accepted-is walk walk' u ok appended accepted_so fits ordered closed ds h = (
    fault-is ds ∙ ok (past_of ds) h.keeps,
    holding-more walk walk' ds h (accepted_so (past_of ds) h.keeps) (appended (past_of ds) h.keeps) (fits (past_of ds) h.keeps h.fits) (ordered h.fits h.ordered) (closed h.fits h.closed),
  )
