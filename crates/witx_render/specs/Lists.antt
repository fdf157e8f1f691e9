-- The items of printed lists as plain lists, as the program builds them.
use Rattle.std.specs.Prelude.{ℕ, Bool, true, false, List, [], ◌∷◌, ◌++◌, map, filter, Option, None, Some, codes}
use Rattle.witx_ast.specs.declared.types.IntRepr.{IntRepr}
use Rattle.witx_ast.specs.declared.types.RecordKind.{RecordKind}
use Rattle.witx_ast.specs.Tree.{Tree, Field, Arm}
use Rattle.witx_ast.specs.Definitions.{DefinitionTree}
use Rattle.witx_render.specs.Expressions.{SExpr, word, ident, annot, SExprs, nil, ◌▹◌, with_docs, text_of}
use Rattle.witx_render.specs.TypeExpressions.{type_expr, width_expr, member_expr, case_expr}
use Rattle.witx_render.specs.ModuleExpressions.{export_expr}
use Rattle.witx_render.specs.DocumentTexts.{definition_expr, expression_lines}

-- what stands before the members of a record
abbrev pub record_words : RecordKind → List SExpr
record_words RecordKind.Tuple = word (codes "tuple") ∷ []
record_words (RecordKind.Bitflags r) = word (codes "flags") ∷ width_expr (codes "repr") r ∷ []
record_words RecordKind.Other = word (codes "record") ∷ []

-- one member, with its documentation
abbrev pub member_item : RecordKind → Field → SExpr
member_item kind m = with_docs m.comment (member_expr kind m.called (type_expr m.tree))

-- what stands before the cases of a variant, or of an enum
abbrev pub variant_words : Bool → IntRepr → List SExpr
variant_words true r = word (codes "enum") ∷ width_expr (codes "tag") r ∷ []
variant_words false r = word (codes "variant") ∷ width_expr (codes "tag") r ∷ []

abbrev pub payload_exprs : Option Tree → SExprs
payload_exprs None = nil
payload_exprs (Some t) = type_expr t ▹ nil

-- one case, with its documentation
abbrev pub case_item : Bool → Arm → SExpr
case_item bare c = with_docs c.comment (case_expr bare c.called (payload_exprs c.payload))

-- what stands before the parameters of a function, and before the items of a module
abbrev pub func_words : List ℕ → List SExpr
func_words name = annot (codes "interface") ∷ word (codes "func") ∷ export_expr name ∷ []

abbrev pub module_words : List ℕ → List SExpr
module_words name = word (codes "module") ∷ ident name ∷ []

-- the lines of the definitions that are picked
abbrev pub lines_where : (DefinitionTree → Bool) → List DefinitionTree → List ℕ
lines_where picked ds = expression_lines (map definition_expr (filter picked ds))
