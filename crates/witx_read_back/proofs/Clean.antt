-- The printed expressions of clean documents can be read, where they open few parentheses.
use Rattle.std.proofs.Common.{◌≡◌, ◌≢◌, ℕ, ◌+◌, ◌≤◌, Bool, true, false, not, cond, List, [], ◌∷◌, ◌++◌, map, filter, refl, subst}
use Rattle.std.specs.Prelude.{codes, IsTrue}
use Rattle.std.specs.List.{list_all}
use Rattle.witx_lex.specs.Characters.{is_name_character, dollar}
use Rattle.witx_lex.specs.Tokens.{annot as annot_token}
use Rattle.witx_lex.specs.Meaning.{run_token}
use Rattle.witx_ast.specs.declared.function.Abi.{Abi}
use Rattle.witx_ast.specs.declared.types.BuiltinType.{BuiltinType}
use Rattle.witx_ast.specs.declared.types.IntRepr.{IntRepr}
use Rattle.witx_ast.specs.declared.types.RecordKind.{RecordKind}
use Rattle.witx_ast.specs.Tree as ast
use Rattle.witx_ast.specs.Tree.{Tree, Field, arm_list}
use Rattle.witx_ast.specs.Words.{is_bool_arms}
use Rattle.witx_ast.specs.Functions.{FunctionTree}
use Rattle.witx_ast.specs.Items.{ItemTree, import_of, func_of}
use Rattle.witx_ast.specs.Definitions.{DefinitionTree, ModuleTree, typename_of, module_of, constant_of}
use Rattle.witx_render.specs.Expressions.{SExpr, vec, word, ident, quote, annot, docs, SExprs, nil, cons, ◌▹◌, exprs_of, with_docs}
use Rattle.witx_render.specs.TypeExpressions.{builtin_expr, repr_expr, width_expr, have_no_payload, variant_expr, record_expr, type_expr, member_exprs, case_exprs}
use Rattle.witx_render.specs.ModuleExpressions.{param_exprs, noreturn_mark, stored_expressions, marks, func_parts, item_expr, item_exprs, is_import, is_func, items_in_order}
use Rattle.witx_render.specs.DocumentTexts.{typename_expr, definition_expr, is_typename, is_module, typenames_first, document_exprs}
use Rattle.witx_read_back.specs.DocumentTexts.{FlagTexts, RecordTexts, TypeTexts, TupleTexts, FieldTexts, CaseTexts, ParamTexts, ItemTexts, ItemsTexts, DefinitionTexts, DocumentTexts}
use Rattle.witx_read_back.proofs.Readable.{IsRun, IsIdentifier, IsQuotable, IsComment, readable}
use Rattle.witx_read_back.specs.Plain.{Nests, AllNest, LinesNest}
use Rattle.witx_read_back.proofs.Lexes.{Lexable, AllLexable, LinesLexable}

-- ---- expressions, whatever their depth

abbrev mutual
  Tidy : SExpr → Type 0
  Tidy (vec es) = AllTidy es
  Tidy (word s) = IsRun s
  Tidy (ident s) = IsIdentifier s
  Tidy (quote s) = IsQuotable s
  Tidy (annot s) = IsRun (64 ∷ s) × (run_token (64 ∷ s) ≡ annot_token s)
  Tidy (docs d e) = IsComment d × Tidy e

  AllTidy : SExprs → Type 0
  AllTidy nil = Unit {0}
  AllTidy (cons e es) = Tidy e × AllTidy es

mutual
  lexable : (n : ℕ) (e : SExpr) → Nests n e → Tidy e → Lexable n e
  lexable n (vec es) d h = (d.0, all_lexable (n + 1) es d.1 h)
  lexable n (word s) d h = h
  lexable n (ident s) d h = h
  lexable n (quote s) d h = h
  lexable n (annot s) d h = h
  lexable n (docs c e) d h = (h.0, lexable n e d h.1)

  all_lexable : (n : ℕ) (es : SExprs) → AllNest n es → AllTidy es → AllLexable n es
  all_lexable n nil d h = tt
  all_lexable n (cons e es) d h = (lexable n e d.0 h.0, all_lexable n es d.1 h.1)

two_or_more : (b c : ℕ) (s : List ℕ) → b ∷ c ∷ s ≡ [] → ⊥
two_or_more b c s e = cc

not_one : (b c d : ℕ) (s : List ℕ) → b ∷ c ∷ s ≡ d ∷ [] → ⊥
not_one b c d s e = cc

-- each word of the print is a run
run_of : (b c : ℕ) (s : List ℕ) → list_all is_name_character (b ∷ c ∷ s) ≡ true → IsRun (b ∷ c ∷ s)
run_of b c s e = (two_or_more b c s, e, not_one b c dollar s)

at_witx : Tidy (annot (codes "witx"))
at_witx = (run_of _ _ _ refl, refl)

under_docs : (d : List ℕ) (e : SExpr) → IsComment d → Tidy e → Tidy (with_docs d e)
under_docs [] e c h = h
under_docs (b ∷ bs) e c h = (c, h)

-- ---- types

repr_tidy : (r : IntRepr) → Tidy (repr_expr r)
repr_tidy IntRepr.U8 = run_of _ _ _ refl
repr_tidy IntRepr.U16 = run_of _ _ _ refl
repr_tidy IntRepr.U32 = run_of _ _ _ refl
repr_tidy IntRepr.U64 = run_of _ _ _ refl

builtin_tidy : (b : BuiltinType) → Tidy (builtin_expr b)
builtin_tidy BuiltinType.Char = run_of _ _ _ refl
builtin_tidy (BuiltinType.U8 true) = (at_witx, (run_of _ _ _ refl, tt))
builtin_tidy (BuiltinType.U8 false) = run_of _ _ _ refl
builtin_tidy BuiltinType.U16 = run_of _ _ _ refl
builtin_tidy (BuiltinType.U32 true) = (at_witx, (run_of _ _ _ refl, tt))
builtin_tidy (BuiltinType.U32 false) = run_of _ _ _ refl
builtin_tidy BuiltinType.U64 = run_of _ _ _ refl
builtin_tidy BuiltinType.S8 = run_of _ _ _ refl
builtin_tidy BuiltinType.S16 = run_of _ _ _ refl
builtin_tidy BuiltinType.S32 = run_of _ _ _ refl
builtin_tidy BuiltinType.S64 = run_of _ _ _ refl
builtin_tidy BuiltinType.F32 = run_of _ _ _ refl
builtin_tidy BuiltinType.F64 = run_of _ _ _ refl

names_tidy : (r : IntRepr) (ms : ast.Fields) → FlagTexts readable ms → AllTidy (member_exprs (RecordKind.Bitflags r) ms)
names_tidy r ast.no_fields w = tt
names_tidy r (ast.field n t d ms) w = (under_docs d (ident n) w.1 w.0, names_tidy r ms w.2)

arm_names_tidy : (cs : ast.Arms) → CaseTexts readable cs → AllTidy (case_exprs true cs)
arm_names_tidy ast.no_arms w = tt
arm_names_tidy (ast.bare n d cs) w = (under_docs d (ident n) w.1 w.0, arm_names_tidy cs w.2)
arm_names_tidy (ast.carries n t d cs) w = (under_docs d (ident n) w.1 w.0, arm_names_tidy cs w.3)

tag_tidy : (r : IntRepr) → Tidy (width_expr (codes "tag") r)
tag_tidy r = (run_of _ _ _ refl, (run_of _ _ _ refl, (repr_tidy r, tt)))

variant_tidy : (is_bool bare : Bool) (r : IntRepr) (cs : ast.Arms) → CaseTexts readable cs → AllTidy (case_exprs false cs) → Tidy (variant_expr is_bool bare r (case_exprs bare cs))
variant_tidy true bare r cs w h = run_of _ _ _ refl
variant_tidy false true r cs w h = (run_of _ _ _ refl, (tag_tidy r, arm_names_tidy cs w))
variant_tidy false false r cs w h = (run_of _ _ _ refl, (tag_tidy r, h))

record_tidy : (kind : RecordKind) (ms : ast.Fields) (S T : Type 0) → RecordTexts readable kind ms S T → (S → AllTidy (member_exprs RecordKind.Tuple ms)) → (T → AllTidy (member_exprs RecordKind.Other ms)) → Tidy (record_expr kind (member_exprs kind ms))
record_tidy RecordKind.Tuple ms S T w f g = (run_of _ _ _ refl, f w)
record_tidy (RecordKind.Bitflags r) ms S T w f g = (run_of _ _ _ refl, ((run_of _ _ _ refl, (run_of _ _ _ refl, (repr_tidy r, tt))), names_tidy r ms w))
record_tidy RecordKind.Other ms S T w f g = (run_of _ _ _ refl, g w)

mutual
  type_tidy : (t : Tree) → TypeTexts readable t → Tidy (type_expr t)
  type_tidy (Tree.named n t d) w = w
  type_tidy (Tree.builtin b) w = builtin_tidy b
  type_tidy Tree.handle w = (run_of _ _ _ refl, tt)
  type_tidy (Tree.list_of t) w = (run_of _ _ _ refl, (type_tidy t w, tt))
  type_tidy (Tree.pointer_to t) w = (at_witx, (run_of _ _ _ refl, (type_tidy t w, tt)))
  type_tidy (Tree.const_pointer_to t) w = (at_witx, (run_of _ _ _ refl, (type_tidy t w, tt)))
  type_tidy (Tree.record_of kind ms) w = record_tidy kind ms (TupleTexts readable ms) (FieldTexts readable ms) w (λ x. types_tidy ms x) (λ x. fields_tidy ms x)
  type_tidy (Tree.variant_of r cs) w = variant_tidy (is_bool_arms (arm_list cs)) (have_no_payload cs) r cs w (cases_tidy cs w)

  types_tidy : (ms : ast.Fields) → TupleTexts readable ms → AllTidy (member_exprs RecordKind.Tuple ms)
  types_tidy ast.no_fields w = tt
  types_tidy (ast.field n t d ms) w = (under_docs d (type_expr t) w.0 (type_tidy t w.1), types_tidy ms w.2)

  fields_tidy : (ms : ast.Fields) → FieldTexts readable ms → AllTidy (member_exprs RecordKind.Other ms)
  fields_tidy ast.no_fields w = tt
  fields_tidy (ast.field n t d ms) w = (under_docs d (vec (word (codes "field") ▹ ident n ▹ type_expr t ▹ nil)) w.1 (run_of _ _ _ refl, (w.0, (type_tidy t w.2, tt))), fields_tidy ms w.3)

  cases_tidy : (cs : ast.Arms) → CaseTexts readable cs → AllTidy (case_exprs false cs)
  cases_tidy ast.no_arms w = tt
  cases_tidy (ast.bare n d cs) w = (under_docs d (vec (word (codes "case") ▹ ident n ▹ nil)) w.1 (run_of _ _ _ refl, (w.0, tt)), cases_tidy cs w.2)
  cases_tidy (ast.carries n t d cs) w = (under_docs d (vec (word (codes "case") ▹ ident n ▹ type_expr t ▹ nil)) w.1 (run_of _ _ _ refl, (w.0, (type_tidy t w.2, tt))), cases_tidy cs w.3)

-- ---- functions, modules, documents

params_tidy : (b c : ℕ) (s : List ℕ) (ps : List Field) (more : SExprs) → list_all is_name_character (b ∷ c ∷ s) ≡ true → ParamTexts readable ps → AllTidy more → AllTidy (param_exprs (b ∷ c ∷ s) ps more)
params_tidy b c s [] more e w h = h
params_tidy b c s (p ∷ ps) more e w h =
    (under_docs p.comment (vec (word (b ∷ c ∷ s) ▹ ident p.called ▹ type_expr p.tree ▹ nil)) w.1 (run_of b c s e, (w.0, (type_tidy p.tree w.2, tt))), params_tidy b c s ps more e w.3 h)

stored_tidy : (abi : Abi) → AllTidy (exprs_of (stored_expressions abi))
stored_tidy Abi.Preview1 = tt
stored_tidy Abi.Stored = ((at_witx, (run_of _ _ _ refl, tt)), tt)

marks_tidy : (b : Bool) (abi : Abi) → AllTidy (exprs_of (noreturn_mark b ++ stored_expressions abi))
marks_tidy true abi = ((at_witx, (run_of _ _ _ refl, tt)), stored_tidy abi)
marks_tidy false abi = stored_tidy abi

item_tidy : (i : ItemTree) → ItemTexts readable i → Tidy (item_expr i)
item_tidy (import_of i) w = under_docs i.docs (vec (word (codes "import") ▹ quote i.name ▹ vec (word (codes "memory") ▹ nil) ▹ nil)) w.1 (run_of _ _ _ refl, (w.0, ((run_of _ _ _ refl, tt), tt)))
item_tidy (func_of f) w =
    under_docs f.comment (vec (func_parts f)) w.1 (
      (run_of _ _ _ refl, refl),
      (
        run_of _ _ _ refl,
        (
          (run_of _ _ _ refl, (w.0, tt)),
          params_tidy _ _ _ f.params (param_exprs (codes "result") f.results (marks f)) refl w.2 (params_tidy _ _ _ f.results (marks f) refl w.3 (marks_tidy f.noreturn f.abi)),
        ),
      ),
    )

items_tidy : (is : List ItemTree) → ItemsTexts readable is → AllTidy (item_exprs is)
items_tidy [] w = tt
items_tidy (i ∷ is) w = (item_tidy i w.0, items_tidy is w.1)

items_filter : (p : ItemTree → Bool) (is : List ItemTree) → ItemsTexts readable is → ItemsTexts readable (filter p is)
items_filter p [] w = tt
items_filter p (i ∷ is) w = kept (p i) (items_filter p is w.1)
  where
    kept : (b : Bool) → ItemsTexts readable (filter p is) → ItemsTexts readable (cond b (i ∷ filter p is) (filter p is))
    kept true x = (w.0, x)
    kept false x = x

items_both : (xs ys : List ItemTree) → ItemsTexts readable xs → ItemsTexts readable ys → ItemsTexts readable (xs ++ ys)
items_both [] ys a b = b
items_both (x ∷ xs) ys a b = (a.0, items_both xs ys a.1 b)

definition_tidy : (d : DefinitionTree) → DefinitionTexts readable d → Tidy (definition_expr d)
definition_tidy (typename_of n t d) w = under_docs d (vec (word (codes "typename") ▹ ident n ▹ type_expr t ▹ nil)) w.1 (run_of _ _ _ refl, (w.0, (type_tidy t w.2, tt)))
definition_tidy (module_of m) w =
    under_docs m.comment (vec (word (codes "module") ▹ ident m.name ▹ item_exprs (items_in_order m.items))) w.1 (
      run_of _ _ _ refl,
      (
        w.0,
        items_tidy (items_in_order m.items)
            (items_both (filter is_import m.items) (filter is_func m.items) (items_filter is_import m.items w.2) (items_filter is_func m.items w.2)),
      ),
    )
definition_tidy (constant_of c) w = tt

clean_filter : (p : DefinitionTree → Bool) (ds : List DefinitionTree) → DocumentTexts readable ds → DocumentTexts readable (filter p ds)
clean_filter p [] w = tt
clean_filter p (d ∷ ds) w = kept (p d) (clean_filter p ds w.1)
  where
    kept : (b : Bool) → DocumentTexts readable (filter p ds) → DocumentTexts readable (cond b (d ∷ filter p ds) (filter p ds))
    kept true x = (w.0, x)
    kept false x = x

clean_both : (xs ys : List DefinitionTree) → DocumentTexts readable xs → DocumentTexts readable ys → DocumentTexts readable (xs ++ ys)
clean_both [] ys a b = b
clean_both (x ∷ xs) ys a b = (a.0, clean_both xs ys a.1 b)

lines_lexable : (ds : List DefinitionTree) → DocumentTexts readable ds → LinesNest (map definition_expr ds) → LinesLexable (map definition_expr ds)
lines_lexable [] w d = tt
lines_lexable (x ∷ ds) w d = (lexable 0 (definition_expr x) d.0 (definition_tidy x w.0), lines_lexable ds w.1 d.1)

-- a clean document whose expressions open few parentheses can be read
pub clean_lexable : (ds : List DefinitionTree) → DocumentTexts readable ds → LinesNest (document_exprs ds) → LinesLexable (document_exprs ds)
clean_lexable ds w d = lines_lexable (typenames_first ds) (clean_both (filter is_typename ds) (filter is_module ds) (clean_filter is_typename ds w) (clean_filter is_module ds w)) d
