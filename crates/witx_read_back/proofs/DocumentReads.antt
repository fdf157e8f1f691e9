-- The tokens of printed functions, modules and documents derive, and the derivation stands for a syntax tree that says them.
use Rattle.std.proofs.Common.{◌≡◌, ℕ, Bool, true, false, List, [], ◌∷◌, ◌++◌, map, refl, sym, ap, ◌∙◌, subst}
use Rattle.std.specs.Prelude.{codes}
use Rattle.witx_base.specs.Texts.{same_text}
use Rattle.witx_grammar.specs.declared.table.Symbol.TheVariants.{Terminal, Nonterminal}
use Rattle.witx_grammar.proofs.Derive.{Written, written_derives}
use Rattle.witx_grammar.proofs.Makes.{stop, the_end, inner, outer}
use Rattle.witx_lex.specs.Tokens.{Token as LexToken, left, right, id, word, annot, quoted, Lexed}
use Rattle.witx_ast.specs.declared.function.Abi.{Abi}
use Rattle.witx_ast.specs.declared.module.ModuleImport.{ModuleImport}
use Rattle.witx_ast.specs.Tree as ast
use Rattle.witx_ast.specs.Tree.{Tree}
use Rattle.witx_ast.specs.Functions.{FunctionTree}
use Rattle.witx_ast.specs.Items.{ItemTree, import_of, func_of}
use Rattle.witx_ast.specs.Definitions.{DefinitionTree, typename_of, module_of, constant_of}
use Rattle.witx_syntax_tree.specs.Trees as forms
use Rattle.witx_comments.specs.Comments.{Comments}
use Rattle.witx_syntax_tree.specs.Trees.{Name, QuotedText, TypeTree, Fields, no_fields, one_field, DeclTree, memory, function, NotedDecl, NotedItem}
use Rattle.witx_language.specs.declared.nonterminal.Nonterminal.TheVariants as form
use Rattle.witx_language.specs.declared.production.ProductionName.TheVariants as prod
use Rattle.witx_language.specs.declared.token_kind.TokenKind.{TokenKind}
use Rattle.witx_language.specs.declared.token_kind.TokenKind.TheVariants as kind
use Rattle.witx_language.specs.Actions.{act}
use Rattle.witx_language.specs.Grammar.{the_grammar}
use Rattle.witx_syntax.specs.Reads.{IsDocument}
use Rattle.witx_language.specs.TokenKinds.{token_kind, token_kinds}
use Rattle.witx_language.specs.Values.{Val, leaf, param, result_of, noreturn, stored, an_entry, some_entries, a_decl, some_decls, an_item, some_items}
use Rattle.witx_render.specs.Expressions.{SExpr, vec, word as bare_word, ident, quote, SExprs, nil, ◌▹◌, exprs_of, with_docs}
use Rattle.witx_render.specs.TypeExpressions.{type_expr, named_expr, witx_expr}
use Rattle.witx_render.specs.ModuleExpressions.{param_expr, param_exprs, noreturn_mark, stored_expressions, func_parts, item_expr, item_exprs, items_in_order}
use Rattle.witx_render.specs.DocumentTexts.{definition_expr}
use Rattle.witx_read_back.specs.PrintedTokens.{expr_tokens, exprs_tokens, all_tokens}
use Rattle.witx_read_back.proofs.Tokens.{expr_more}
use Rattle.witx_read_back.proofs.Forms.{Reads, ReadsOut, row, opening, closing, a_word, at_witx, at_interface, name, text, expr, last, under_docs}
use Rattle.witx_read_back.specs.Says.{Says, SaysParams, SaysItem, SaysItems, SaysDefinition, SaysDocument, is_stored}
use Rattle.witx_read_back.proofs.Writable.{IsWritable, ParamsWritable, ItemWritable, ItemsWritable, DefinitionWritable, DocumentWritable, OneField, IsField, OneEntries, IsEntries}
use Rattle.witx_read_back.proofs.TypeReads.{type_reads, w_typename, w_module, w_import, w_memory, w_func, w_export, w_param, w_result, w_noreturn, w_stored}

pub kinds_of : (ts : List Lexed) (xs : List LexToken) → map (λ l. l.token) ts ≡ xs → map token_kind xs ++ kind.End ∷ [] ≡ token_kinds ts
kinds_of ts xs e = ap (λ (k : List TokenKind). k ++ kind.End ∷ []) (ap (λ (x : List LexToken). map token_kind x) (sym e) ∙ map_map ts)
  where
    map_map : (ls : List Lexed) → map token_kind (map (λ l. l.token) ls) ≡ map (λ l. token_kind l.token) ls
    map_map [] = refl
    map_map (l ∷ ls) = ap (λ (k : List TokenKind). token_kind l.token ∷ k) (map_map ls)

-- ---- entries of a function

pub param_reads : (n : List ℕ) (t : Tree) → IsWritable t
    → Reads (expr_tokens (vec (bare_word (codes "param") ▹ ident n ▹ type_expr t ▹ nil)) []) form.Entry OneField (λ f. an_entry (param f.comments f.called f.type_)) (IsField n t)
param_reads n t w = row prod.Param 63 refl (opening (a_word (codes "param") w_param (name n (expr (type_expr t) (type_reads t w) (closing (stop
    (λ s q m e ls. (record { comments = _; called = m; type_ = s }, (λ vs. refl), (e, q)))))))))

result_reads : (n : List ℕ) (t : Tree) → IsWritable t
    → Reads (expr_tokens (vec (bare_word (codes "result") ▹ ident n ▹ type_expr t ▹ nil)) []) form.Entry OneField (λ f. an_entry (result_of f.comments f.called f.type_)) (IsField n t)
result_reads n t w = row prod.Result 64 refl (opening (a_word (codes "result") w_result (name n (expr (type_expr t) (type_reads t w) (closing (stop
    (λ s q m e ls. (record { comments = _; called = m; type_ = s }, (λ vs. refl), (e, q)))))))))

abbrev EntriesRead : SExprs → List ast.Field → List ast.Field → Bool → Bool → Type 0
EntriesRead es ps rs b s = Reads (exprs_tokens es (right ∷ [])) form.Entries OneEntries (λ e. some_entries e.params e.results e.noreturn e.stored) (IsEntries ps rs b s)

no_more : EntriesRead nil [] [] false false
no_more = row prod.NoEntries 67 refl (closing (stop (λ ls. (
  record { params = no_fields; results = no_fields; noreturn = false; stored = false },
  (λ vs. refl),
  record { params = refl; results = refl; noreturn = refl; stored = refl },
))))

noreturn_reads : Reads (expr_tokens (witx_expr (codes "noreturn")) []) form.Entry (Unit {0}) (λ u. an_entry noreturn) (λ u. Unit {0})
noreturn_reads = row prod.Noreturn 65 refl (opening (at_witx (a_word (codes "noreturn") w_noreturn (closing (stop (λ ls. (tt, (λ vs. refl), tt)))))))

stored_reads : Reads (expr_tokens (witx_expr (codes "stored")) []) form.Entry (Unit {0}) (λ u. an_entry stored) (λ u. Unit {0})
stored_reads = row prod.Stored 66 refl (opening (at_witx (a_word (codes "stored") w_stored (closing (stop (λ ls. (tt, (λ vs. refl), tt)))))))

stored_mark_reads : (abi : Abi) → EntriesRead (exprs_of (stored_expressions abi)) [] [] false (is_stored abi)
stored_mark_reads Abi.Preview1 = no_more
stored_mark_reads Abi.Stored = row prod.MoreEntries 68 refl (expr (witx_expr (codes "stored")) stored_reads (last no_more
    (λ es q u h ls. (
      record { params = es.params; results = es.results; noreturn = es.noreturn; stored = true },
      (λ vs. refl),
      record { params = q.params; results = q.results; noreturn = q.noreturn; stored = refl },
    ))))

marks_read : (b : Bool) (abi : Abi) → EntriesRead (exprs_of (noreturn_mark b ++ stored_expressions abi)) [] [] b (is_stored abi)
marks_read false abi = stored_mark_reads abi
marks_read true abi = row prod.MoreEntries 68 refl (expr (witx_expr (codes "noreturn")) noreturn_reads (last (stored_mark_reads abi)
    (λ es q u h ls. (
      record { params = es.params; results = es.results; noreturn = true; stored = es.stored },
      (λ vs. refl),
      record { params = q.params; results = q.results; noreturn = refl; stored = q.stored },
    ))))

results_read : (rs : List ast.Field) (b : Bool) (abi : Abi) → ParamsWritable rs
    → EntriesRead (param_exprs (codes "result") rs (exprs_of (noreturn_mark b ++ stored_expressions abi))) [] rs b (is_stored abi)
results_read [] b abi w = marks_read b abi
results_read (r ∷ rs) b abi w = row prod.MoreEntries 68 refl (expr (param_expr (codes "result") r)
    (under_docs r.comment (named_expr (codes "result") r.called (type_expr r.tree)) (result_reads r.called r.tree w.0)) (last (results_read rs b abi w.1)
    (λ es q f e ls. (
      record { params = es.params; results = one_field f.comments f.called f.type_ es.results; noreturn = es.noreturn; stored = es.stored },
      (λ vs. refl),
      record { params = q.params; results = (f.comments, f.called, f.type_, es.results, refl, e.0, e.1, q.results); noreturn = q.noreturn; stored = q.stored },
    ))))

params_read : (ps rs : List ast.Field) (b : Bool) (abi : Abi) → ParamsWritable ps → ParamsWritable rs
    → EntriesRead (param_exprs (codes "param") ps (param_exprs (codes "result") rs (exprs_of (noreturn_mark b ++ stored_expressions abi)))) ps rs b (is_stored abi)
params_read [] rs b abi w v = results_read rs b abi v
params_read (r ∷ ps) rs b abi w v = row prod.MoreEntries 68 refl (expr (param_expr (codes "param") r)
    (under_docs r.comment (named_expr (codes "param") r.called (type_expr r.tree)) (param_reads r.called r.tree w.0)) (last (params_read ps rs b abi w.1 v)
    (λ es q f e ls. (
      record { params = one_field f.comments f.called f.type_ es.params; results = es.results; noreturn = es.noreturn; stored = es.stored },
      (λ vs. refl),
      record { params = (f.comments, f.called, f.type_, es.params, refl, e.0, e.1, q.params); results = q.results; noreturn = q.noreturn; stored = q.stored },
    ))))

-- ---- declarations of a module

import_reads : (i : ModuleImport) → Reads (expr_tokens (vec (bare_word (codes "import") ▹ quote i.name ▹ vec (bare_word (codes "memory") ▹ nil) ▹ nil)) []) form.Decl NotedDecl (λ d. a_decl d) (λ d. SaysItem (import_of i) d.decl)
import_reads i = row prod.Import 59 refl (opening (a_word (codes "import") w_import (text i.name (opening (a_word (codes "memory") w_memory (closing (closing (stop
    (λ m e ls. (record { comments = _; decl = memory m }, (λ vs. refl), (m, refl, e)))))))))))

func_reads : (f : FunctionTree) → ItemWritable (func_of f) → Reads (expr_tokens (vec (func_parts f)) []) form.Decl NotedDecl (λ d. a_decl d) (λ d. SaysItem (func_of f) d.decl)
func_reads f w = row prod.Func 60 refl (opening (at_interface (a_word (codes "func") w_func (opening (a_word (codes "export") w_export (text f.name (closing
    (last (params_read f.params f.results f.noreturn f.abi w.0 w.1)
    (λ es q m e ls. (
      record { comments = _; decl = function m es.params es.results es.noreturn es.stored },
      (λ vs. refl),
      (
        m,
        es.params,
        es.results,
        ap (λ (b : Bool). function m es.params es.results b es.stored) q.noreturn ∙ ap (λ (b : Bool). function m es.params es.results f.noreturn b) q.stored,
        e,
        q.params,
        q.results,
      ),
    ))))))))))

item_reads : (i : ItemTree) → ItemWritable i → Reads (expr_tokens (item_expr i) []) form.Decl NotedDecl (λ d. a_decl d) (λ d. SaysItem i d.decl)
item_reads (import_of i) w = under_docs i.docs (vec (bare_word (codes "import") ▹ quote i.name ▹ vec (bare_word (codes "memory") ▹ nil) ▹ nil)) (import_reads i)
item_reads (func_of f) w = under_docs f.comment (vec (func_parts f)) (func_reads f w)

items_read : (is : List ItemTree) → ItemsWritable is → Reads (exprs_tokens (item_exprs is) (right ∷ [])) form.Decls (List NotedDecl) (λ ds. some_decls ds) (SaysItems is)
items_read [] w = row prod.NoDecls 61 refl (closing (stop (λ ls. ([], (λ vs. refl), refl))))
items_read (i ∷ is) w = row prod.MoreDecls 62 refl (expr (item_expr i) (item_reads i w.0) (last (items_read is w.1)
    (λ ds q d e ls. (d ∷ ds, (λ vs. refl), (d, ds, refl, e, q)))))

-- ---- definitions

pub definition_reads : (d : DefinitionTree) → DefinitionWritable d → Reads (expr_tokens (definition_expr d) []) form.Item forms.FormTree (λ i. an_item i) (SaysDefinition d)
definition_reads (typename_of n t d) w = under_docs d (vec (bare_word (codes "typename") ▹ ident n ▹ type_expr t ▹ nil))
    (row prod.Typename 3 refl (opening (a_word (codes "typename") w_typename (name n (expr (type_expr t) (type_reads t w) (closing (stop
    (λ s q m e ls. (forms.typename m s, (λ vs. refl), (m, s, refl, e, q))))))))))
definition_reads (module_of o) w = under_docs o.comment (vec (bare_word (codes "module") ▹ ident o.name ▹ item_exprs (items_in_order o.items)))
    (row prod.Module 4 refl (opening (a_word (codes "module") w_module (name o.name (last (items_read (items_in_order o.items) w)
    (λ ds q m e ls. (forms.module_of m ds, (λ vs. refl), (m, ds, refl, e, q))))))))
definition_reads (constant_of c) w = absurd w

text_reads : (ds : List DefinitionTree) → DocumentWritable ds → ReadsOut (all_tokens (map definition_expr ds)) form.Text (List NotedItem) (λ is. some_items is) (SaysDocument ds)
text_reads [] w = row prod.NoItems 0 refl (the_end (λ ls. ([], (λ vs. refl), refl)))
text_reads (d ∷ ds) w = row prod.MoreItems 1 refl (inner (expr_tokens (definition_expr d) []) (expr_more (definition_expr d) [] (all_tokens (map definition_expr ds)))
    (definition_reads d w.0) (outer (text_reads ds w.1)
    (λ is q i e ls. (record { comments = _; item = i } ∷ is, (λ vs. refl), (record { comments = _; item = i }, is, refl, e, q)))))

-- the tokens of a printed document are a document that says it
pub document_reads : (ts : List Lexed) (ds : List DefinitionTree) → DocumentWritable ds → map (λ l. l.token) ts ≡ all_tokens (map definition_expr ds)
    → (is : List NotedItem) × IsDocument ts is × SaysDocument ds is
document_reads ts ds w e =
    let q = (text_reads ds w).run ts [] e refl in
    let x = q.1.0 in
    let r = written_derives the_grammar leaf act form.Text (token_kinds ts) ts (some_items x ∷ [])
    (subst (λ (us : List Val). Written the_grammar leaf act (token_kinds ts) ts [] (Nonterminal form.Text ∷ []) us) q.1.1
    (subst (λ (ks : List TokenKind). Written the_grammar leaf act ks ts [] (Nonterminal form.Text ∷ []) q.0) (kinds_of ts (all_tokens (map definition_expr ds)) e) q.2)) in
    (x, record { steps = r.0; derives = r.1; meaning = r.2 }, q.1.2)
