-- What taking a declaration in promises: its answer, the definitions, and what the validator keeps.
use Rattle.std.specs.Prelude.{◌≡◌, ◌⊎◌, ◌++◌, ◌∷◌, ℕ, List, [], None, map, Result, IfErr, OnOk, OnErr}
use Rattle.witx_base.specs.Paths.{Path}
use Rattle.witx_files.specs.declared.location.Location.{Location}
use Rattle.witx_comments.specs.Comments.{comments_view}
use Rattle.witx_comments.specs.declared.comment.CommentSyntax.{CommentSyntax}
use Rattle.witx_syntax_tree.specs.declared.tree.DeclSyntax.{DeclSyntax}
use Rattle.witx_ast.specs.Closed.{IsClosed}
use Rattle.witx_ast.specs.Ordered.{IsOrdered}
use Rattle.witx_ast.specs.Definitions.{DefinitionTree, definition_tree, DefinitionsFit}
use Rattle.witx_ast.specs.declared.definition.Definition.{Definition}
use Rattle.witx_scope.specs.declared.error.CheckError.{CheckError}
use Rattle.witx_scope.specs.Answers.{IsCheckFault}
use Rattle.witx_scope.specs.Blame.{Blames}
use Rattle.witx_scope.specs.DeclarationForms.{DeclForm, decl_form_of}
use Rattle.witx_scope.specs.Declarations as declarations
use Rattle.witx_scope.specs.Declarations.{Past, nothing_before, decl_checks, decl_tree}
use Rattle.witx_scope.specs.Faults.{first_fault}
use Rattle.witx_scope.specs.Kept.{Kept, Keeps}
use Rattle.witx_scope.specs.Places.{location_in}

-- a declaration where it stands: the places of its file, the comments before it, and what it says
pub record Site : Type 0 where
  pub place : ℕ → Location
  pub comments : List (List ℕ)
  pub form : DeclForm

abbrev pub site : List ℕ → Path → CommentSyntax → DeclSyntax → Site
site text path comments d = record { place = location_in text path; comments = comments_view comments; form = decl_form_of d }

-- the definition of a declaration that no other stands before
abbrev pub definition_alone : Site → DefinitionTree
definition_alone at = decl_tree nothing_before at.place at.comments at.form

-- one definition more, with this tree
abbrev pub Adds : List Definition → List Definition → DefinitionTree → Type 0
Adds old new tree = map definition_tree new ≡ map definition_tree old ++ tree ∷ []

-- The validator goes from `before` to `after`, and the definitions from `old` to `new`. Each answer is for every `past` that
-- the validator keeps.
pub record Validates (before after : Kept) (old new : List Definition) (at : Site) (r : Result (Unit {0}) CheckError) : Type 0 where
  -- accepted: the declaration has no fault, its definition stands last, and the next one finds it
  pub ok : (past : Past) → OnOk r (Keeps before past → first_fault (decl_checks past at.place at.form) ≡ None)
  pub appended : (past : Past) → OnOk r (Keeps before past → Adds old new (decl_tree past at.place at.comments at.form))
  pub accepted : (past : Past) → OnOk r (Keeps before past → Keeps after (declarations.accepted past at.place at.comments at.form))
  -- refused: the fault is the first one, and the next one finds what a refused one leaves
  pub fault : (past : Past) → IfErr r (λ e. Keeps before past → Blames e (first_fault (decl_checks past at.place at.form)))
  pub rejected : (past : Past) → IfErr r (λ e. IsCheckFault e → Keeps before past → Keeps after (declarations.rejected past at.place at.form))
  -- refused, or out of memory: the definitions are unchanged, and at most the name is kept
  pub unchanged : OnErr r (new ≡ old)
  pub out_of_memory : (past : Past) → OnErr r (Keeps before past → Keeps after past ⊎ Keeps after (declarations.rejected past at.place at.form))
  -- in any case: what was true of the definitions still is
  pub fits : (past : Past) → Keeps before past → DefinitionsFit old before.entries → DefinitionsFit new after.entries
  pub ordered : DefinitionsFit old before.entries → IsOrdered (map definition_tree old) → IsOrdered (map definition_tree new)
  pub closed : DefinitionsFit old before.entries → IsClosed (map definition_tree old) → IsClosed (map definition_tree new)
