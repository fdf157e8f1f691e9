-- A validator at one file, as what it keeps, and a declaration there.
use Rattle.std.specs.Prelude.{List, Result}
use Rattle.witx_ast.specs.declared.definition.Definition.{Definition}
use Rattle.witx_scope.specs.declared.error.CheckError.{CheckError}
use Rattle.witx_check.specs.declared.validator.DocValidation.{DocValidation}
use Rattle.witx_comments.specs.declared.comment.CommentSyntax.{CommentSyntax}
use Rattle.witx_syntax_tree.specs.declared.tree.DeclSyntax.{DeclSyntax}
use Rattle.witx_lex.specs.declared.line_cursor.LineCursor.{LineCursor}
use Rattle.witx_scope.specs.declared.place.SharedPath.{SharedPath}
use Rattle.witx_check.specs.declared.validation_scope.DocValidationScope.{DocValidationScope}
use Rattle.witx_scope.specs.Kept.{Kept}
use Rattle.witx_scope.specs.Validates.{Site, Validates, site}
use Rattle.witx_check.specs.Validators.{kept_by}

abbrev pub kept_at : DocValidationScope → Kept
kept_at s = kept_by s.doc.now

-- a validator takes a declaration in
abbrev pub TakesIn : DocValidation → DocValidation → List Definition → List Definition → Site → Result (Unit {0}) CheckError → Type 0
TakesIn before after old new at r = Validates (kept_by before) (kept_by after) old new at r

-- a declaration of the file with these lines and this path
abbrev pub site_of : LineCursor → SharedPath → CommentSyntax → DeclSyntax → Site
site_of lines path comments d = site lines.text.now path.path.now comments d

abbrev pub site_in : DocValidationScope → CommentSyntax → DeclSyntax → Site
site_in s comments d = site s.text.now s.path.now comments d
