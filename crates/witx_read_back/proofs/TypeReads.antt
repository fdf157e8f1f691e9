-- The tokens of a printed type derive from the form of a type, and the derivation stands for a syntax tree that says it.
use Rattle.std.proofs.Common.{◌≡◌, ℕ, Bool, true, false, List, [], ◌∷◌, ◌++◌, Some, refl, sym, ap, ◌∙◌}
use Rattle.std.specs.Prelude.{codes}
use Rattle.witx_base.specs.Texts.{same_text}
use Rattle.witx_grammar.specs.declared.table.Symbol.TheVariants.{Terminal, Nonterminal}
use Rattle.witx_grammar.proofs.Makes.{stop}
use Rattle.witx_lex.specs.Tokens.{Token as LexToken, left, right, id, word, annot, quoted, Lexed}
use Rattle.witx_ast.specs.declared.types.BuiltinType.{BuiltinType}
use Rattle.witx_ast.specs.declared.types.IntRepr.{IntRepr}
use Rattle.witx_ast.specs.declared.types.RecordKind.{RecordKind}
use Rattle.witx_ast.specs.Tree as ast
use Rattle.witx_ast.specs.Tree.{Tree, arm_list}
use Rattle.witx_ast.specs.Words.{is_bool_arms}
use Rattle.witx_syntax_tree.specs.declared.tree.BuiltinSyntax.{BuiltinSyntax}
use Rattle.witx_comments.specs.Comments.{Comments}
use Rattle.witx_syntax_tree.specs.Trees.{Name, Member, TypeTree, Maybe, Types, Fields, Cases, absent, present, no_types, one_type, no_fields, one_field, no_cases, one_case}
use Rattle.witx_language.specs.declared.nonterminal.Nonterminal.TheVariants as form
use Rattle.witx_language.specs.declared.production.ProductionName.TheVariants as prod
use Rattle.witx_language.specs.declared.token_kind.TokenKind.TheVariants as kind
use Rattle.witx_language.specs.TokenKinds.{token_kind}
use Rattle.witx_language.specs.Values.{Val, a_name, a_builtin, a_type, some_types, a_member, some_members, a_field, some_fields, a_case, some_cases}
use Rattle.witx_scope.specs.Tags.{builtin_type, repr_of}
use Rattle.witx_render.specs.Expressions.{SExpr, vec, word as bare_word, ident, annot as annotation, SExprs, nil, cons, ◌▹◌, with_docs}
use Rattle.witx_render.specs.TypeExpressions.{builtin_expr, repr_expr, width_expr, have_no_payload, variant_expr, type_expr, member_exprs, case_exprs}
use Rattle.witx_read_back.specs.PrintedTokens.{expr_tokens, exprs_tokens}
use Rattle.witx_read_back.proofs.Tokens.{expr_more, exprs_more}
use Rattle.witx_read_back.proofs.Forms.{Wants, Makes, Reads, row, opening, closing, a_word, at_witx, name, expr, last, under_docs}
use Rattle.witx_read_back.specs.Says.{IsRepr, Says, SaysTypes, SaysFields, SaysCases, SaysFlags, SaysNames, SaysRecord, SaysVariant}
use Rattle.witx_read_back.proofs.Writable.{OneField, IsField, OneCase, IsBareCase, IsCase, HasField, HasName, IsWritable, FieldsWritable, ArmsWritable}

-- ---- builtins

u8 : token_kind (word (codes "u8")) ≡ kind.U8Word
unfolding same_text
u8 = refl

u16 : token_kind (word (codes "u16")) ≡ kind.U16Word
unfolding same_text
u16 = refl

u32 : token_kind (word (codes "u32")) ≡ kind.U32Word
unfolding same_text
u32 = refl

u64 : token_kind (word (codes "u64")) ≡ kind.U64Word
unfolding same_text
u64 = refl

pub w_typename : token_kind (word (codes "typename")) ≡ kind.TypenameWord
unfolding same_text
w_typename = refl

pub w_module : token_kind (word (codes "module")) ≡ kind.ModuleWord
unfolding same_text
w_module = refl

w_char : token_kind (word (codes "char")) ≡ kind.CharWord
unfolding same_text
w_char = refl

w_s8 : token_kind (word (codes "s8")) ≡ kind.S8Word
unfolding same_text
w_s8 = refl

w_s16 : token_kind (word (codes "s16")) ≡ kind.S16Word
unfolding same_text
w_s16 = refl

w_s32 : token_kind (word (codes "s32")) ≡ kind.S32Word
unfolding same_text
w_s32 = refl

w_s64 : token_kind (word (codes "s64")) ≡ kind.S64Word
unfolding same_text
w_s64 = refl

w_f32 : token_kind (word (codes "f32")) ≡ kind.F32Word
unfolding same_text
w_f32 = refl

w_f64 : token_kind (word (codes "f64")) ≡ kind.F64Word
unfolding same_text
w_f64 = refl

w_bool : token_kind (word (codes "bool")) ≡ kind.BoolWord
unfolding same_text
w_bool = refl

w_enum : token_kind (word (codes "enum")) ≡ kind.EnumWord
unfolding same_text
w_enum = refl

w_flags : token_kind (word (codes "flags")) ≡ kind.FlagsWord
unfolding same_text
w_flags = refl

w_record : token_kind (word (codes "record")) ≡ kind.RecordWord
unfolding same_text
w_record = refl

w_field : token_kind (word (codes "field")) ≡ kind.FieldWord
unfolding same_text
w_field = refl

w_tuple : token_kind (word (codes "tuple")) ≡ kind.TupleWord
unfolding same_text
w_tuple = refl

w_list : token_kind (word (codes "list")) ≡ kind.ListWord
unfolding same_text
w_list = refl

w_handle : token_kind (word (codes "handle")) ≡ kind.HandleWord
unfolding same_text
w_handle = refl

w_variant : token_kind (word (codes "variant")) ≡ kind.VariantWord
unfolding same_text
w_variant = refl

w_case : token_kind (word (codes "case")) ≡ kind.CaseWord
unfolding same_text
w_case = refl

w_tag : token_kind (word (codes "tag")) ≡ kind.TagWord
unfolding same_text
w_tag = refl

w_repr : token_kind (word (codes "repr")) ≡ kind.ReprWord
unfolding same_text
w_repr = refl

w_pointer : token_kind (word (codes "pointer")) ≡ kind.PointerWord
unfolding same_text
w_pointer = refl

w_const_pointer : token_kind (word (codes "const_pointer")) ≡ kind.ConstPointerWord
unfolding same_text
w_const_pointer = refl

w_usize : token_kind (word (codes "usize")) ≡ kind.UsizeWord
unfolding same_text
w_usize = refl

w_char8 : token_kind (word (codes "char8")) ≡ kind.Char8Word
unfolding same_text
w_char8 = refl

pub w_import : token_kind (word (codes "import")) ≡ kind.ImportWord
unfolding same_text
w_import = refl

pub w_memory : token_kind (word (codes "memory")) ≡ kind.MemoryWord
unfolding same_text
w_memory = refl

pub w_func : token_kind (word (codes "func")) ≡ kind.FuncWord
unfolding same_text
w_func = refl

pub w_export : token_kind (word (codes "export")) ≡ kind.ExportWord
unfolding same_text
w_export = refl

pub w_param : token_kind (word (codes "param")) ≡ kind.ParamWord
unfolding same_text
w_param = refl

pub w_result : token_kind (word (codes "result")) ≡ kind.ResultWord
unfolding same_text
w_result = refl

pub w_stored : token_kind (word (codes "stored")) ≡ kind.StoredWord
unfolding same_text
w_stored = refl

pub w_noreturn : token_kind (word (codes "noreturn")) ≡ kind.NoreturnWord
unfolding same_text
w_noreturn = refl

pub repr_reads : (r : IntRepr) → Reads (expr_tokens (repr_expr r) []) form.Builtin BuiltinSyntax (λ b. a_builtin b) (IsRepr r)
repr_reads IntRepr.U8 = row prod.U8 7 refl (a_word (codes "u8") u8 (stop (λ ls. (BuiltinSyntax.U8 false, (λ vs. refl), refl))))
repr_reads IntRepr.U16 = row prod.U16 8 refl (a_word (codes "u16") u16 (stop (λ ls. (BuiltinSyntax.U16, (λ vs. refl), refl))))
repr_reads IntRepr.U32 = row prod.U32 9 refl (a_word (codes "u32") u32 (stop (λ ls. (BuiltinSyntax.U32 false, (λ vs. refl), refl))))
repr_reads IntRepr.U64 = row prod.U64 10 refl (a_word (codes "u64") u64 (stop (λ ls. (BuiltinSyntax.U64, (λ vs. refl), refl))))

-- ---- types that begin with a word, or an identifier

is_plain : {xs : List LexToken} {Q : TypeTree → Type 0} → Reads xs form.Plain TypeTree (λ s. a_type s) Q → Reads xs form.Type TypeTree (λ s. a_type s) Q
is_plain g = row prod.PlainType 21 refl (last g (λ s q ls. (s, (λ vs. refl), q)))

is_builtin : {xs : List LexToken} {Q : BuiltinSyntax → Type 0} (b : BuiltinType) → ((c : BuiltinSyntax) → Q c → builtin_type c ≡ b)
    → Reads xs form.Builtin BuiltinSyntax (λ c. a_builtin c) Q → Reads xs form.Type TypeTree (λ s. a_type s) (Says (Tree.builtin b))
is_builtin b i g = is_plain (row prod.BuiltinType 40 refl (last g (λ c q ls. (TypeTree.builtin c, (λ vs. refl), (c, refl, i c q)))))

builtin_reads : (b : BuiltinType) → Reads (expr_tokens (builtin_expr b) []) form.Type TypeTree (λ s. a_type s) (Says (Tree.builtin b))
builtin_reads BuiltinType.Char = is_builtin BuiltinType.Char (λ c q. q) (row prod.Char 6 refl (a_word (codes "char") w_char (stop (λ ls. (BuiltinSyntax.Char, (λ vs. refl), refl)))))
builtin_reads (BuiltinType.U8 false) = is_builtin (BuiltinType.U8 false) (λ c q. q) (row prod.U8 7 refl (a_word (codes "u8") u8 (stop (λ ls. (BuiltinSyntax.U8 false, (λ vs. refl), refl)))))
builtin_reads BuiltinType.U16 = is_builtin BuiltinType.U16 (λ c q. q) (row prod.U16 8 refl (a_word (codes "u16") u16 (stop (λ ls. (BuiltinSyntax.U16, (λ vs. refl), refl)))))
builtin_reads (BuiltinType.U32 false) = is_builtin (BuiltinType.U32 false) (λ c q. q) (row prod.U32 9 refl (a_word (codes "u32") u32 (stop (λ ls. (BuiltinSyntax.U32 false, (λ vs. refl), refl)))))
builtin_reads BuiltinType.U64 = is_builtin BuiltinType.U64 (λ c q. q) (row prod.U64 10 refl (a_word (codes "u64") u64 (stop (λ ls. (BuiltinSyntax.U64, (λ vs. refl), refl)))))
builtin_reads BuiltinType.S8 = is_builtin BuiltinType.S8 (λ c q. q) (row prod.S8 11 refl (a_word (codes "s8") w_s8 (stop (λ ls. (BuiltinSyntax.S8, (λ vs. refl), refl)))))
builtin_reads BuiltinType.S16 = is_builtin BuiltinType.S16 (λ c q. q) (row prod.S16 12 refl (a_word (codes "s16") w_s16 (stop (λ ls. (BuiltinSyntax.S16, (λ vs. refl), refl)))))
builtin_reads BuiltinType.S32 = is_builtin BuiltinType.S32 (λ c q. q) (row prod.S32 13 refl (a_word (codes "s32") w_s32 (stop (λ ls. (BuiltinSyntax.S32, (λ vs. refl), refl)))))
builtin_reads BuiltinType.S64 = is_builtin BuiltinType.S64 (λ c q. q) (row prod.S64 14 refl (a_word (codes "s64") w_s64 (stop (λ ls. (BuiltinSyntax.S64, (λ vs. refl), refl)))))
builtin_reads BuiltinType.F32 = is_builtin BuiltinType.F32 (λ c q. q) (row prod.F32 15 refl (a_word (codes "f32") w_f32 (stop (λ ls. (BuiltinSyntax.F32, (λ vs. refl), refl)))))
builtin_reads BuiltinType.F64 = is_builtin BuiltinType.F64 (λ c q. q) (row prod.F64 16 refl (a_word (codes "f64") w_f64 (stop (λ ls. (BuiltinSyntax.F64, (λ vs. refl), refl)))))
builtin_reads (BuiltinType.U8 true) = row prod.Char8 20 refl (opening (at_witx (a_word (codes "char8") w_char8 (closing (stop (λ ls. (TypeTree.builtin (BuiltinSyntax.U8 true), (λ vs. refl), (BuiltinSyntax.U8 true, refl, refl))))))))
builtin_reads (BuiltinType.U32 true) = row prod.Usize 19 refl (opening (at_witx (a_word (codes "usize") w_usize (closing (stop (λ ls. (TypeTree.builtin (BuiltinSyntax.U32 true), (λ vs. refl), (BuiltinSyntax.U32 true, refl, refl))))))))

-- ---- names of an enum or of flags

abbrev IsMember : List ℕ → Member → Type 0
IsMember n m = m.name.name ≡ n

name_reads : (n : List ℕ) → Reads (expr_tokens (ident n) []) form.Name Member (λ m. a_member m) (IsMember n)
name_reads n = row prod.Name 41 refl (name n (stop (λ m e ls. (record { comments = _; name = m }, (λ vs. refl), e))))

flags_read : (r : IntRepr) (ms : ast.Fields) → Reads (exprs_tokens (member_exprs (RecordKind.Bitflags r) ms) (right ∷ [])) form.Names (List Member) (λ ns. some_members ns) (SaysFlags ms)
flags_read r ast.no_fields = row prod.NoNames 42 refl (closing (stop (λ ls. ([], (λ vs. refl), refl))))
flags_read r (ast.field n t d ms) = row prod.MoreNames 43 refl (expr (with_docs d (ident n)) (under_docs d (ident n) (name_reads n)) (last (flags_read r ms)
    (λ ns q m e ls. (m ∷ ns, (λ vs. refl), (m, ns, refl, e, q)))))

names_read : (cs : ast.Arms) → Reads (exprs_tokens (case_exprs true cs) (right ∷ [])) form.Names (List Member) (λ ns. some_members ns) (SaysNames cs)
names_read ast.no_arms = row prod.NoNames 42 refl (closing (stop (λ ls. ([], (λ vs. refl), refl))))
names_read (ast.bare n d cs) = row prod.MoreNames 43 refl (expr (with_docs d (ident n)) (under_docs d (ident n) (name_reads n)) (last (names_read cs)
    (λ ns q m e ls. (m ∷ ns, (λ vs. refl), (m, ns, refl, e, q)))))
names_read (ast.carries n t d cs) = row prod.MoreNames 43 refl (expr (with_docs d (ident n)) (under_docs d (ident n) (name_reads n)) (last (names_read cs)
    (λ ns q m e ls. (m ∷ ns, (λ vs. refl), (m, ns, refl, e, q)))))

-- ---- types

tag_head : {xs : List LexToken} {w : Wants} {P : List Val → Type 0} (r : IntRepr)
    → Makes xs w (λ us. (b : BuiltinSyntax) → IsRepr r b → P (a_builtin b ∷ us))
    → Makes (expr_tokens (width_expr (codes "tag") r) xs) (Terminal kind.Left ∷ Terminal kind.AtWitx ∷ Terminal kind.TagWord ∷ Nonterminal form.Builtin ∷ Terminal kind.Right ∷ w) P
tag_head r h = opening (at_witx (a_word (codes "tag") w_tag (expr (repr_expr r) (repr_reads r) (closing h))))

-- the tag of a variant is a type
tag_type : (r : IntRepr) → Reads (expr_tokens (repr_expr r) []) form.Type BuiltinSyntax (λ b. a_type (TypeTree.builtin b)) (IsRepr r)
tag_type r = row prod.PlainType 21 refl (last (row prod.BuiltinType 40 refl (last (repr_reads r) (λ b q ls. (b, (λ vs. refl), q)))) (λ b q ls. (b, (λ vs. refl), q)))

field_reads : (n : List ℕ) (t : Tree) → Reads (expr_tokens (type_expr t) []) form.Type TypeTree (λ s. a_type s) (Says t)
    → Reads (expr_tokens (vec (bare_word (codes "field") ▹ ident n ▹ type_expr t ▹ nil)) []) form.Field OneField (λ f. a_field f.comments f.called f.type_) (IsField n t)
field_reads n t h = row prod.Field 50 refl (opening (a_word (codes "field") w_field (name n (expr (type_expr t) h (closing (stop
    (λ s q m e ls. (record { comments = _; called = m; type_ = s }, (λ vs. refl), (e, q)))))))))

bare_case_reads : (n : List ℕ) → Reads (expr_tokens (vec (bare_word (codes "case") ▹ ident n ▹ nil)) []) form.Case OneCase (λ c. a_case c.comments c.called c.payload) (IsBareCase n)
bare_case_reads n = row prod.BareCase 55 refl (opening (a_word (codes "case") w_case (name n (closing (stop
    (λ m e ls. (record { comments = _; called = m; payload = absent }, (λ vs. refl), (e, refl))))))))

case_reads : (n : List ℕ) (t : Tree) → Reads (expr_tokens (type_expr t) []) form.Type TypeTree (λ s. a_type s) (Says t)
    → Reads (expr_tokens (vec (bare_word (codes "case") ▹ ident n ▹ type_expr t ▹ nil)) []) form.Case OneCase (λ c. a_case c.comments c.called c.payload) (IsCase n t)
case_reads n t h = row prod.Case 56 refl (opening (a_word (codes "case") w_case (name n (expr (type_expr t) h (closing (stop
    (λ s q m e ls. (record { comments = _; called = m; payload = present s }, (λ vs. refl), (e, (s, refl, q))))))))))

variant_reads : (is_bool bare : Bool) (r : IntRepr) (cs : ast.Arms) → HasName is_bool bare cs
    → Reads (exprs_tokens (case_exprs false cs) (right ∷ [])) form.Cases Cases (λ ds. some_cases ds) (SaysCases cs)
    → Reads (expr_tokens (variant_expr is_bool bare r (case_exprs bare cs)) []) form.Plain TypeTree (λ s. a_type s) (SaysVariant is_bool bare r cs (SaysCases cs))
variant_reads true bare r cs h cases = row prod.Bool 24 refl (a_word (codes "bool") w_bool (stop (λ ls. (TypeTree.boolean, (λ vs. refl), refl))))
variant_reads false true r ast.no_arms h cases = absurd h
variant_reads false true r (ast.bare n d cs) h cases = row prod.TaggedEnum 25 refl (opening (a_word (codes "enum") w_enum (tag_head r
    (expr (with_docs d (ident n)) (under_docs d (ident n) (name_reads n)) (last (names_read cs)
    (λ ns q m e b f ls. (TypeTree.enum_of (Some b) (m ∷ ns), (λ vs. refl), (b, m ∷ ns, refl, f, (m, ns, refl, e, q)))))))))
variant_reads false true r (ast.carries n t d cs) h cases = row prod.TaggedEnum 25 refl (opening (a_word (codes "enum") w_enum (tag_head r
    (expr (with_docs d (ident n)) (under_docs d (ident n) (name_reads n)) (last (names_read cs)
    (λ ns q m e b f ls. (TypeTree.enum_of (Some b) (m ∷ ns), (λ vs. refl), (b, m ∷ ns, refl, f, (m, ns, refl, e, q)))))))))
variant_reads false false r cs h cases = row prod.TaggedVariant 38 refl (opening (a_word (codes "variant") w_variant (opening (at_witx (a_word (codes "tag") w_tag
    (expr (repr_expr r) (tag_type r) (closing (last cases
    (λ ds q b e ls. (TypeTree.variant_of (present (TypeTree.builtin b)) ds, (λ vs. refl), (b, ds, refl, e, q)))))))))))

mutual
  pub type_reads : (t : Tree) → IsWritable t → Reads (expr_tokens (type_expr t) []) form.Type TypeTree (λ s. a_type s) (Says t)
  type_reads (Tree.named n t d) w = is_plain (row prod.Ident 22 refl (name n (stop (λ m e ls. (TypeTree.ident m, (λ vs. refl), (m, refl, e))))))
  type_reads (Tree.builtin b) w = builtin_reads b
  type_reads Tree.handle w = is_plain (row prod.Handle 32 refl (opening (a_word (codes "handle") w_handle (closing (stop (λ ls. (TypeTree.handle, (λ vs. refl), refl)))))))
  type_reads (Tree.list_of t) w = is_plain (row prod.List 31 refl (opening (a_word (codes "list") w_list (expr (type_expr t) (type_reads t w) (closing (stop
      (λ s q ls. (TypeTree.list_of s, (λ vs. refl), (s, refl, q)))))))))
  type_reads (Tree.pointer_to t) w = row prod.Pointer 17 refl (opening (at_witx (a_word (codes "pointer") w_pointer (expr (type_expr t) (type_reads t w) (closing (stop
      (λ s q ls. (TypeTree.pointer_to s, (λ vs. refl), (s, refl, q)))))))))
  type_reads (Tree.const_pointer_to t) w = row prod.ConstPointer 18 refl (opening (at_witx (a_word (codes "const_pointer") w_const_pointer (expr (type_expr t) (type_reads t w) (closing (stop
      (λ s q ls. (TypeTree.const_pointer_to s, (λ vs. refl), (s, refl, q)))))))))
  type_reads (Tree.record_of RecordKind.Tuple ms) w = is_plain (row prod.Tuple 30 refl (opening (a_word (codes "tuple") w_tuple (last (types_read ms w.1)
      (λ us q ls. (TypeTree.tuple_of us, (λ vs. refl), (us, refl, q)))))))
  type_reads (Tree.record_of (RecordKind.Bitflags r) ms) w = is_plain (row prod.TaggedFlags 27 refl (opening (a_word (codes "flags") w_flags (opening (at_witx (a_word (codes "repr") w_repr
      (expr (repr_expr r) (repr_reads r) (closing (last (flags_read r ms)
      (λ ns q b e ls. (TypeTree.flags_of (Some b) ns, (λ vs. refl), (b, ns, refl, e, q))))))))))))
  type_reads (Tree.record_of RecordKind.Other ast.no_fields) w = absurd w.0
  type_reads (Tree.record_of RecordKind.Other (ast.field n t d ms)) w = is_plain (row prod.Record 29 refl (opening (a_word (codes "record") w_record
      (expr (with_docs d (vec (bare_word (codes "field") ▹ ident n ▹ type_expr t ▹ nil)))
      (under_docs d (vec (bare_word (codes "field") ▹ ident n ▹ type_expr t ▹ nil)) (field_reads n t (type_reads t w.1.0))) (last (fields_read ms w.1.1)
      (λ fs q f e ls. (
        TypeTree.record_of (one_field f.comments f.called f.type_ fs),
        (λ vs. refl),
        (one_field f.comments f.called f.type_ fs, refl, (f.comments, f.called, f.type_, fs, refl, e.0, e.1, q)),
      )))))))
  type_reads (Tree.variant_of r cs) w = is_plain (variant_reads (is_bool_arms (arm_list cs)) (have_no_payload cs) r cs w.0 (cases_read cs w.1))

  types_read : (ms : ast.Fields) → FieldsWritable ms → Reads (exprs_tokens (member_exprs RecordKind.Tuple ms) (right ∷ [])) form.Types Types (λ us. some_types us) (SaysTypes ms)
  types_read ast.no_fields w = row prod.NoTypes 44 refl (closing (stop (λ ls. (no_types, (λ vs. refl), refl))))
  types_read (ast.field n t d ms) w = row prod.MoreTypes 45 refl (expr (with_docs d (type_expr t)) (under_docs d (type_expr t) (type_reads t w.0)) (last (types_read ms w.1)
      (λ us q s h ls. (one_type s us, (λ vs. refl), (s, us, refl, h, q)))))

  fields_read : (ms : ast.Fields) → FieldsWritable ms → Reads (exprs_tokens (member_exprs RecordKind.Other ms) (right ∷ [])) form.Fields Fields (λ fs. some_fields fs) (SaysFields ms)
  fields_read ast.no_fields w = row prod.NoFields 51 refl (closing (stop (λ ls. (no_fields, (λ vs. refl), refl))))
  fields_read (ast.field n t d ms) w = row prod.MoreFields 52 refl (expr (with_docs d (vec (bare_word (codes "field") ▹ ident n ▹ type_expr t ▹ nil)))
      (under_docs d (vec (bare_word (codes "field") ▹ ident n ▹ type_expr t ▹ nil)) (field_reads n t (type_reads t w.0))) (last (fields_read ms w.1)
      (λ fs q f e ls. (one_field f.comments f.called f.type_ fs, (λ vs. refl), (f.comments, f.called, f.type_, fs, refl, e.0, e.1, q)))))

  cases_read : (cs : ast.Arms) → ArmsWritable cs → Reads (exprs_tokens (case_exprs false cs) (right ∷ [])) form.Cases Cases (λ ds. some_cases ds) (SaysCases cs)
  cases_read ast.no_arms w = row prod.NoCases 57 refl (closing (stop (λ ls. (no_cases, (λ vs. refl), refl))))
  cases_read (ast.bare n d cs) w = row prod.MoreCases 58 refl (expr (with_docs d (vec (bare_word (codes "case") ▹ ident n ▹ nil)))
      (under_docs d (vec (bare_word (codes "case") ▹ ident n ▹ nil)) (bare_case_reads n)) (last (cases_read cs w)
      (λ ds q c e ls. (
        one_case c.comments c.called c.payload ds,
        (λ vs. refl),
        (c.comments, c.called, ds, ap (λ (p : Maybe). one_case c.comments c.called p ds) e.1, e.0, q),
      ))))
  cases_read (ast.carries n t d cs) w = row prod.MoreCases 58 refl (expr (with_docs d (vec (bare_word (codes "case") ▹ ident n ▹ type_expr t ▹ nil)))
      (under_docs d (vec (bare_word (codes "case") ▹ ident n ▹ type_expr t ▹ nil)) (case_reads n t (type_reads t w.0))) (last (cases_read cs w.1)
      (λ ds q c e ls. (
        one_case c.comments c.called c.payload ds,
        (λ vs. refl),
        (c.comments, c.called, e.1.0, ds, ap (λ (p : Maybe). one_case c.comments c.called p ds) e.1.1, e.0, e.1.2, q),
      ))))
