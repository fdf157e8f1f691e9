-- The tokens of a sample's file derive, and the derivation stands for a syntax tree that says the sample.
use Rattle.std.proofs.Common.{◌≡◌, ℕ, zero, suc, ◌+◌, ◌^◌, ◌≤◌, false, List, [], ◌∷◌, ◌++◌, map, append-nil, refl, sym, ap, subst, codes}
use Rattle.witx_base.specs.Texts.{same_text}
use Rattle.witx_grammar.specs.declared.table.Symbol.TheVariants.{Nonterminal}
use Rattle.witx_grammar.proofs.Derive.{Written, written_derives}
use Rattle.witx_grammar.proofs.Makes.{stop, the_end, inner, outer}
use Rattle.witx_lex.specs.Tokens.{Token as LexToken, right, word, Lexed}
use Rattle.witx_syntax_tree.specs.Trees as forms
use Rattle.witx_syntax_tree.specs.Trees.{Name, QuotedText, TypeTree, string, expected, Maybe, present, Fields, no_fields, one_field, DeclTree, function, NotedDecl, NotedItem}
use Rattle.witx_language.specs.declared.nonterminal.Nonterminal.TheVariants as form
use Rattle.witx_language.specs.declared.production.ProductionName.TheVariants as prod
use Rattle.witx_language.specs.declared.token_kind.TokenKind.{TokenKind}
use Rattle.witx_language.specs.declared.token_kind.TokenKind.TheVariants as kind
use Rattle.witx_language.specs.Actions.{act}
use Rattle.witx_language.specs.Grammar.{the_grammar}
use Rattle.witx_language.specs.TokenKinds.{token_kind, token_kinds}
use Rattle.witx_language.specs.Values.{Val, leaf, a_type, an_error, param, result_of, an_entry, some_entries, a_decl, some_decls, an_item, some_items}
use Rattle.witx_syntax.specs.Reads.{Reads as ReadsAs, IsDocument}
use Rattle.witx_render.specs.Expressions.{SExpr, vec, word as bare_word, ident, nil, ◌▹◌}
use Rattle.witx_render.specs.TypeExpressions.{type_expr}
use Rattle.witx_render.specs.DocumentTexts.{definition_expr}
use Rattle.witx_read_back.specs.PrintedTokens.{expr_tokens}
use Rattle.witx_read_back.specs.Says.{Says, SaysDefinition}
use Rattle.witx_read_back.proofs.Tokens.{expr_more}
use Rattle.witx_read_back.proofs.Forms.{Reads, ReadsOut, row, opening, closing, a_word, at_interface, name, text, expr, last}
use Rattle.witx_read_back.proofs.Writable.{DefinitionWritable, OneField, IsField, OneEntries}
use Rattle.witx_read_back.proofs.TypeReads.{type_reads, w_module, w_func, w_export, w_param, w_result}
use Rattle.witx_read_back.proofs.DocumentReads.{kinds_of, param_reads, definition_reads}
use Rattle.witx_sample_laws.proofs.Documents.{enum_name, module_name, variant_name, function_name, named_enum, named_variant, the_tuple, enum_definition, record_definition, variant_definition}
use Rattle.witx_sample_laws.proofs.SampleFiles.{body}
use Rattle.witx_sample_laws.proofs.Lines.{enum_expr, record_expr, variant_expr, result_expr, func_expr, types_tokens, funcs_tokens, module_tokens, sample_tokens, body_tokens}

-- ---- the types of a function that aren't as printed

w_string : token_kind (word (codes "string")) ≡ kind.StringWord
unfolding same_text
w_string = refl

w_expected : token_kind (word (codes "expected")) ≡ kind.ExpectedWord
unfolding same_text
w_expected = refl

w_error : token_kind (word (codes "error")) ≡ kind.ErrorWord
unfolding same_text
w_error = refl

is_plain : {xs : List LexToken} {Q : TypeTree → Type 0} → Reads xs form.Plain TypeTree (λ s. a_type s) Q → Reads xs form.Type TypeTree (λ s. a_type s) Q
is_plain g = row prod.PlainType 21 refl (last g (λ s q ls. (s, (λ vs. refl), q)))

string_reads : Reads (expr_tokens (bare_word (codes "string")) []) form.Type TypeTree (λ s. a_type s) (λ s. s ≡ string)
string_reads = is_plain (row prod.String 23 refl (a_word (codes "string") w_string (stop (λ ls. (string, (λ vs. refl), refl)))))

abbrev SaysError : Maybe → Type 0
SaysError e = (u : TypeTree) × (e ≡ present u) × Says named_enum u

error_reads : Reads (expr_tokens (ident enum_name) (right ∷ [])) form.ErrorRest Maybe (λ e. an_error e) SaysError
error_reads = row prod.Error 54 refl (expr (ident enum_name) (type_reads named_enum tt) (closing (stop (λ s q ls. (present s, (λ vs. refl), (s, refl, q))))))

-- the tuple of a record and the enumeration, or the enumeration
pub record SaysResult (i : ℕ) (s : TypeTree) : Type 0 where
  pub ok : TypeTree
  pub err : TypeTree
  pub is : s ≡ expected (present ok) (present err)
  pub ok_says : Says (the_tuple i) ok
  pub err_says : Says named_enum err

expected_reads : (i : ℕ) → Reads (expr_tokens (result_expr i) []) form.Type TypeTree (λ s. a_type s) (SaysResult i)
expected_reads i = is_plain (row prod.ExpectedType 34 refl (opening (a_word (codes "expected") w_expected
    (expr (type_expr (the_tuple i)) (type_reads (the_tuple i) (tt, (tt, (tt, tt)))) (opening (a_word (codes "error") w_error
    (inner (expr_tokens (ident enum_name) (right ∷ [])) refl error_reads (closing (stop (λ e q t p ls. (
      expected (present t) e,
      (λ vs. refl),
      record { ok = t; err = q.0; is = ap (λ (x : Maybe). expected (present t) x) q.1; ok_says = p; err_says = q.2 },
    )))))))))))

-- ---- functions

abbrev pub IsString : OneField → Type 0
IsString f = (f.called.name ≡ codes "q") × (f.type_ ≡ string)

abbrev pub IsResult : ℕ → OneField → Type 0
IsResult i f = (f.called.name ≡ codes "s") × SaysResult i f.type_

string_param_reads : Reads (expr_tokens (vec (bare_word (codes "param") ▹ ident (codes "q") ▹ bare_word (codes "string") ▹ nil)) []) form.Entry OneField (λ f. an_entry (param f.comments f.called f.type_)) IsString
string_param_reads = row prod.Param 63 refl (opening (a_word (codes "param") w_param (name (codes "q") (expr (bare_word (codes "string")) string_reads (closing (stop
    (λ s q m e ls. (record { comments = _; called = m; type_ = s }, (λ vs. refl), (e, q)))))))))

result_reads : (i : ℕ) → Reads (expr_tokens (vec (bare_word (codes "result") ▹ ident (codes "s") ▹ result_expr i ▹ nil)) []) form.Entry OneField (λ f. an_entry (result_of f.comments f.called f.type_)) (IsResult i)
result_reads i = row prod.Result 64 refl (opening (a_word (codes "result") w_result (name (codes "s") (expr (result_expr i) (expected_reads i) (closing (stop
    (λ s q m e ls. (record { comments = _; called = m; type_ = s }, (λ vs. refl), (e, q)))))))))

abbrev one : OneField → Fields → Fields
one f fs = one_field f.comments f.called f.type_ fs

abbrev entries : Fields → Fields → OneEntries
entries ps rs = record { params = ps; results = rs; noreturn = false; stored = false }

abbrev EntriesRead : List LexToken → (OneEntries → Type 0) → Type 0
EntriesRead xs Q = Reads xs form.Entries OneEntries (λ e. some_entries e.params e.results e.noreturn e.stored) Q

no_more : EntriesRead (right ∷ []) (λ e. e ≡ entries no_fields no_fields)
no_more = row prod.NoEntries 67 refl (closing (stop (λ ls. (entries no_fields no_fields, (λ vs. refl), refl))))

with_result : (i : ℕ) → EntriesRead (expr_tokens (vec (bare_word (codes "result") ▹ ident (codes "s") ▹ result_expr i ▹ nil)) (right ∷ [])) (λ e. (f : OneField) × (e ≡ entries no_fields (one f no_fields)) × IsResult i f)
with_result i = row prod.MoreEntries 68 refl (expr (vec (bare_word (codes "result") ▹ ident (codes "s") ▹ result_expr i ▹ nil)) (result_reads i) (last no_more (λ es q f h ls. (
  record { params = es.params; results = one f es.results; noreturn = es.noreturn; stored = es.stored },
  (λ vs. refl),
  (f, ap (λ (x : OneEntries). record { params = x.params; results = one f x.results; noreturn = x.noreturn; stored = x.stored }) q, h),
))))

abbrev result_tokens : ℕ → List LexToken
result_tokens i = expr_tokens (vec (bare_word (codes "result") ▹ ident (codes "s") ▹ result_expr i ▹ nil)) (right ∷ [])

with_string : (i : ℕ) → EntriesRead (expr_tokens (vec (bare_word (codes "param") ▹ ident (codes "q") ▹ bare_word (codes "string") ▹ nil)) (result_tokens i))
    (λ e. (g : OneField) × (f : OneField) × (e ≡ entries (one g no_fields) (one f no_fields)) × IsString g × IsResult i f)
with_string i = row prod.MoreEntries 68 refl (expr (vec (bare_word (codes "param") ▹ ident (codes "q") ▹ bare_word (codes "string") ▹ nil)) string_param_reads (last (with_result i) (λ es q g h ls. (
  record { params = one g es.params; results = es.results; noreturn = es.noreturn; stored = es.stored },
  (λ vs. refl),
  (g, q.0, ap (λ (x : OneEntries). record { params = one g x.params; results = x.results; noreturn = x.noreturn; stored = x.stored }) q.1, h, q.2),
))))

abbrev string_tokens : ℕ → List LexToken
string_tokens i = expr_tokens (vec (bare_word (codes "param") ▹ ident (codes "q") ▹ bare_word (codes "string") ▹ nil)) (result_tokens i)

abbrev EntriesSay : ℕ → OneEntries → Type 0
EntriesSay i e = (h : OneField) × (g : OneField) × (f : OneField) × (e ≡ entries (one h (one g no_fields)) (one f no_fields)) × IsField (codes "p") (named_variant i) h × IsString g × IsResult i f

with_variant : (i : ℕ) → EntriesRead (expr_tokens (vec (bare_word (codes "param") ▹ ident (codes "p") ▹ ident (variant_name i) ▹ nil)) (string_tokens i)) (EntriesSay i)
with_variant i = row prod.MoreEntries 68 refl (expr (vec (bare_word (codes "param") ▹ ident (codes "p") ▹ ident (variant_name i) ▹ nil)) (param_reads (codes "p") (named_variant i) tt) (last (with_string i) (λ es q h p ls. (
  record { params = one h es.params; results = es.results; noreturn = es.noreturn; stored = es.stored },
  (λ vs. refl),
  (h, q.0, q.1, ap (λ (x : OneEntries). record { params = one h x.params; results = x.results; noreturn = x.noreturn; stored = x.stored }) q.2, p, q.3, q.4),
))))

-- the function of a number
pub record SaysFunc (i : ℕ) (d : DeclTree) : Type 0 where
  pub name : QuotedText
  pub p : OneField
  pub q : OneField
  pub s : OneField
  pub is : d ≡ function name (one_field p.comments p.called p.type_ (one_field q.comments q.called q.type_ no_fields)) (one_field s.comments s.called s.type_ no_fields) false false
  pub called : name.text ≡ function_name i
  pub p_says : IsField (codes "p") (named_variant i) p
  pub q_says : IsString q
  pub s_says : IsResult i s

func_reads : (i : ℕ) → Reads (expr_tokens (func_expr i) []) form.Decl NotedDecl (λ d. a_decl d) (λ d. SaysFunc i d.decl)
func_reads i = row prod.Func 60 refl (opening (at_interface (a_word (codes "func") w_func (opening (a_word (codes "export") w_export (text (function_name i) (closing
    (last (with_variant i) (λ es q m e ls. (
      record { comments = _; decl = function m es.params es.results es.noreturn es.stored },
      (λ vs. refl),
      record {
        name = m;
        p = q.0;
        q = q.1;
        s = q.2;
        is = ap (λ (x : OneEntries). function m x.params x.results x.noreturn x.stored) q.3;
        called = e;
        p_says = q.4;
        q_says = q.5;
        s_says = q.6;
      },
    ))))))))))

abbrev pub SaysFuncs : ℕ → ℕ → List NotedDecl → Type 0
SaysFuncs i zero ds = ds ≡ []
SaysFuncs i (suc k) ds = (d : NotedDecl) × (more : List NotedDecl) × (ds ≡ d ∷ more) × SaysFunc i d.decl × SaysFuncs (i + 1) k more

funcs_read : (i k : ℕ) → Reads (funcs_tokens i k (right ∷ [])) form.Decls (List NotedDecl) (λ ds. some_decls ds) (SaysFuncs i k)
funcs_read i zero = row prod.NoDecls 61 refl (closing (stop (λ ls. ([], (λ vs. refl), refl))))
funcs_read i (suc k) = row prod.MoreDecls 62 refl (expr (func_expr i) (func_reads i) (last (funcs_read (i + 1) k) (λ ds q d e ls. (d ∷ ds, (λ vs. refl), (d, ds, refl, e, q)))))

-- ---- the whole file

-- an item of which the one claim holds, and behind it items of which the other does
abbrev pub Front : (forms.FormTree → Type 0) → (List NotedItem → Type 0) → List NotedItem → Type 0
Front P Q is = (i : NotedItem) × (js : List NotedItem) × (is ≡ i ∷ js) × P i.item × Q js

abbrev TextReads : List LexToken → (List NotedItem → Type 0) → Type 0
TextReads xs Q = ReadsOut xs form.Text (List NotedItem) (λ is. some_items is) Q

item_reads : (P : forms.FormTree → Type 0) (Q : List NotedItem → Type 0) (xs ys zs : List LexToken) → zs ≡ xs ++ ys → Reads xs form.Item forms.FormTree (λ i. an_item i) P → TextReads ys Q → TextReads zs (Front P Q)
item_reads P Q xs ys zs s g m = row prod.MoreItems 1 refl (inner xs s g (outer m
    (λ is q i e ls. (record { comments = _; item = i } ∷ is, (λ vs. refl), (record { comments = _; item = i }, is, refl, e, q)))))

-- the records and variants of k numbers from i on, in front of what the claim holds of
abbrev pub SaysTypes : ℕ → ℕ → (List NotedItem → Type 0) → List NotedItem → Type 0
SaysTypes i zero Q = Q
SaysTypes i (suc k) Q = Front (SaysDefinition (record_definition i)) (Front (SaysDefinition (variant_definition i)) (SaysTypes (i + 1) k Q))

types_read : (i k : ℕ) (ts : List LexToken) (Q : List NotedItem → Type 0) → TextReads ts Q → TextReads (types_tokens i k ts) (SaysTypes i k Q)
types_read i zero ts Q h = h
types_read i (suc k) ts Q h =
    let more = types_read (i + 1) k ts Q h in
    let variant = item_reads (SaysDefinition (variant_definition i)) (SaysTypes (i + 1) k Q) (expr_tokens (variant_expr i) []) (types_tokens (i + 1) k ts) (expr_tokens (variant_expr i) (types_tokens (i + 1) k ts))
    (expr_more (variant_expr i) [] (types_tokens (i + 1) k ts)) (definition_reads (variant_definition i) (tt, (tt, (tt, tt)))) more in
    item_reads (SaysDefinition (record_definition i)) (Front (SaysDefinition (variant_definition i)) (SaysTypes (i + 1) k Q)) (expr_tokens (record_expr i) []) (expr_tokens (variant_expr i) (types_tokens (i + 1) k ts))
    (types_tokens i (suc k) ts) (expr_more (record_expr i) [] (expr_tokens (variant_expr i) (types_tokens (i + 1) k ts))) (definition_reads (record_definition i) (tt, (tt, (tt, (tt, tt))))) variant

abbrev pub SaysModule : ℕ → forms.FormTree → Type 0
SaysModule n i = (m : Name) × (ds : List NotedDecl) × (i ≡ forms.module_of m ds) × (m.name ≡ module_name) × SaysFuncs 0 n ds

module_reads : (n : ℕ) → Reads (module_tokens n []) form.Item forms.FormTree (λ i. an_item i) (SaysModule n)
module_reads n = row prod.Module 4 refl (opening (a_word (codes "module") w_module (name module_name (last (funcs_read 0 n)
    (λ ds q m e ls. (forms.module_of m ds, (λ vs. refl), (m, ds, refl, e, q)))))))

enum_is : definition_expr enum_definition ≡ enum_expr
unfolding same_text
enum_is = refl

enum_writable : DefinitionWritable enum_definition
unfolding same_text
enum_writable = (tt, tt)

enum_reads : Reads (expr_tokens enum_expr []) form.Item forms.FormTree (λ i. an_item i) (SaysDefinition enum_definition)
enum_reads = subst (λ (e : SExpr). Reads (expr_tokens e []) form.Item forms.FormTree (λ i. an_item i) (SaysDefinition enum_definition)) enum_is (definition_reads enum_definition enum_writable)

abbrev pub IsLast : List NotedItem → Type 0
IsLast is = is ≡ []

-- an enumeration, a record and a variant for each number below n, and a module of n functions
abbrev pub SaysSample : ℕ → List NotedItem → Type 0
SaysSample n = Front (SaysDefinition enum_definition) (SaysTypes 0 n (Front (SaysModule n) IsLast))

sample_text_reads : (n : ℕ) → TextReads (sample_tokens n) (SaysSample n)
sample_text_reads n =
    let end : TextReads [] IsLast = row prod.NoItems 0 refl (the_end (λ ls. ([], (λ vs. refl), refl))) in
    let module_ = item_reads (SaysModule n) IsLast (module_tokens n []) [] (module_tokens n []) (sym (append-nil (module_tokens n []))) (module_reads n) end in
    item_reads (SaysDefinition enum_definition) (SaysTypes 0 n (Front (SaysModule n) IsLast)) (expr_tokens enum_expr []) (types_tokens 0 n (module_tokens n [])) (sample_tokens n)
    (expr_more enum_expr [] (types_tokens 0 n (module_tokens n []))) enum_reads (types_read 0 n (module_tokens n []) (Front (SaysModule n) IsLast) module_)

sample_document : (n : ℕ) (ts : List Lexed) → map (λ l. l.token) ts ≡ sample_tokens n → (is : List NotedItem) × IsDocument ts is × SaysSample n is
sample_document n ts e =
    let q = (sample_text_reads n).run ts [] e refl in
    let x = q.1.0 in
    let r = written_derives the_grammar leaf act form.Text (token_kinds ts) ts (some_items x ∷ [])
    (subst (λ (us : List Val). Written the_grammar leaf act (token_kinds ts) ts [] (Nonterminal form.Text ∷ []) us) q.1.1
    (subst (λ (ks : List TokenKind). Written the_grammar leaf act ks ts [] (Nonterminal form.Text ∷ []) q.0) (kinds_of ts (sample_tokens n) e) q.2)) in
    (x, record { steps = r.0; derives = r.1; meaning = r.2 }, q.1.2)

-- the file of a sample reads as a syntax tree that says the sample
pub sample_reads : (n : ℕ) → n ≤ 2 ^ 64 → (is : List NotedItem) × ReadsAs (body n) is × SaysSample n is
sample_reads n l =
    let lexed = body_tokens n l in
    let read = sample_document n lexed.0 lexed.2 in
    (read.0, record { tokens = lexed.0; lexed = lexed.1; parsed = read.1 }, read.2)
