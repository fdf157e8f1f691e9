-- A document is plain, and so its printed text reads back, where all of this holds.
-- Variants without payloads stand only as a typename's own type, with at least one case and distinct names; but bool-like ones
-- with the tag u32 may stand anywhere, and those with another tag nowhere. Names in quotes have only characters from U+0020 on,
-- without U+007F, `"` and `\`. No documentation has `(;` or `;)`. In the printed text at most 100 parentheses are open.
use Rattle.std.specs.Prelude.{◌≡◌, ℕ, ◌+◌, ◌≤◌, Bool, true, false, not, ◌&&◌, IsTrue, List, [], ◌∷◌}
use Rattle.std.specs.List.{list_all}
use Rattle.witx_lex.specs.Blocks.{begins_mark}
use Rattle.witx_lex.specs.Characters.{is_raw}
use Rattle.witx_lex.specs.Pieces.{most_open}
use Rattle.witx_ast.specs.declared.types.IntRepr.{IntRepr}
use Rattle.witx_ast.specs.Tree.{Tree, Fields, Arms, Field, arm_list}
use Rattle.witx_ast.specs.Words.{is_bool_arms}
use Rattle.witx_ast.specs.Items.{ItemTree, import_of, func_of}
use Rattle.witx_ast.specs.Definitions.{DefinitionTree, typename_of, module_of, constant_of}
use Rattle.witx_scope.specs.Tags.{arm_names}
use Rattle.witx_render.specs.Expressions.{SExpr, vec, word, ident, quote, annot, docs, SExprs, nil, cons}
use Rattle.witx_render.specs.TypeExpressions.{have_no_payload}
use Rattle.witx_render.specs.DocumentTexts.{document_exprs}
use Rattle.witx_read_back.specs.Distinct.{AllNew}
use Rattle.witx_read_back.specs.DocumentTexts.{Claims, DocumentTexts}

-- ---- variants

abbrev pub HasArm : Arms → Type 0
HasArm Arms.no_arms = ⊥
HasArm (Arms.bare n d cs) = Unit {0}
HasArm (Arms.carries n t d cs) = Unit {0}

-- whether it is bool-like, whether no case has a payload, and whether it is a typename's own type
abbrev pub PlainVariant : Bool → Bool → Bool → IntRepr → Arms → Type 0
PlainVariant true bare named r cs = r ≡ IntRepr.U32
PlainVariant false true named r cs = (named ≡ true) × HasArm cs × AllNew [] (arm_names cs)
PlainVariant false false named r cs = Unit {0}

-- `named` where it is a typename's own type; what a name stands for isn't entered
abbrev mutual
  pub PlainType : Bool → Tree → Type 0
  PlainType named (Tree.named n t d) = Unit {0}
  PlainType named (Tree.builtin b) = Unit {0}
  PlainType named Tree.handle = Unit {0}
  PlainType named (Tree.list_of t) = PlainType false t
  PlainType named (Tree.pointer_to t) = PlainType false t
  PlainType named (Tree.const_pointer_to t) = PlainType false t
  PlainType named (Tree.record_of kind ms) = PlainFields ms
  PlainType named (Tree.variant_of r cs) = PlainVariant (is_bool_arms (arm_list cs)) (have_no_payload cs) named r cs × PlainArms cs

  pub PlainFields : Fields → Type 0
  PlainFields Fields.no_fields = Unit {0}
  PlainFields (Fields.field n t d ms) = PlainType false t × PlainFields ms

  pub PlainArms : Arms → Type 0
  PlainArms Arms.no_arms = Unit {0}
  PlainArms (Arms.bare n d cs) = PlainArms cs
  PlainArms (Arms.carries n t d cs) = PlainType false t × PlainArms cs

abbrev pub PlainParams : List Field → Type 0
PlainParams [] = Unit {0}
PlainParams (p ∷ ps) = PlainType false p.tree × PlainParams ps

abbrev pub PlainItem : ItemTree → Type 0
PlainItem (import_of i) = Unit {0}
PlainItem (func_of f) = PlainParams f.params × PlainParams f.results

abbrev pub PlainItems : List ItemTree → Type 0
PlainItems [] = Unit {0}
PlainItems (i ∷ is) = PlainItem i × PlainItems is

abbrev pub PlainDefinition : DefinitionTree → Type 0
PlainDefinition (typename_of n t d) = PlainType true t
PlainDefinition (module_of m) = PlainItems m.items
PlainDefinition (constant_of c) = Unit {0}

abbrev pub PlainDefinitions : List DefinitionTree → Type 0
PlainDefinitions [] = Unit {0}
PlainDefinitions (d ∷ ds) = PlainDefinition d × PlainDefinitions ds

-- ---- texts

-- at no byte begins the mark of a comment
abbrev pub no_marks : List ℕ → Bool
no_marks [] = true
no_marks (b ∷ bs) = not (begins_mark (b ∷ bs)) && no_marks bs

abbrev pub plain_texts : Claims
plain_texts = record { name = (λ n. Unit {0}); quoted = (λ s. IsTrue (list_all is_raw s)); docs = (λ d. IsTrue (no_marks d)) }

-- ---- parentheses

-- with n of them open before it
abbrev mutual
  pub Nests : ℕ → SExpr → Type 0
  Nests n (vec es) = (n + 1 ≤ most_open) × AllNest (n + 1) es
  Nests n (word s) = Unit {0}
  Nests n (ident s) = Unit {0}
  Nests n (quote s) = Unit {0}
  Nests n (annot s) = Unit {0}
  Nests n (docs d e) = Nests n e

  pub AllNest : ℕ → SExprs → Type 0
  AllNest n nil = Unit {0}
  AllNest n (cons e es) = Nests n e × AllNest n es

abbrev pub LinesNest : List SExpr → Type 0
LinesNest [] = Unit {0}
LinesNest (e ∷ es) = Nests 0 e × LinesNest es

-- ---- documents

pub record IsPlain (ds : List DefinitionTree) : Type 0 where
  pub types : PlainDefinitions ds
  pub texts : DocumentTexts plain_texts ds
  pub nests : LinesNest (document_exprs ds)
