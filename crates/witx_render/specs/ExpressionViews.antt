-- The expression that one of the program is: each level read once, texts as their bytes.
use Rattle.std.specs.Prelude.{◌≡◌, List, [], ◌∷◌, map}
use Rattle.std.specs.Global.{Box}
use Rattle.witx_render.specs.declared.expression.SExpr as code
use Rattle.witx_render.specs.declared.expression.SExpr.{fold-SExpr}
use Rattle.witx_render.specs.declared.expression.SExpr.TheOpen.{SExpr-F}
use Rattle.witx_render.specs.Expressions.{SExpr, vec, word, ident, quote, annot, docs, SExprs, exprs_of}

abbrev pub expr_step : SExpr-F SExpr → SExpr
expr_step (SExpr-F.Vec es) = vec (exprs_of es)
expr_step (SExpr-F.Word t) = word t
expr_step (SExpr-F.Ident t) = ident t
expr_step (SExpr-F.Quote t) = quote t
expr_step (SExpr-F.Annot t) = annot t
expr_step (SExpr-F.Docs d e) = docs d e.value

unfoldable pub expr_view : code.SExpr → SExpr
expr_view = fold-SExpr SExpr expr_step

abbrev pub exprs_view : List code.SExpr → SExprs
exprs_view es = exprs_of (map expr_view es)
