-- What a derivation stands for: each production makes one value of those of what it is written by.
use Rattle.std.specs.Prelude.{Bool, true, false, List, [], ◌∷◌, Some, None}
use Rattle.witx_lex.specs.Tokens.{Lexed}
use Rattle.witx_values.specs.Language.{Language}
use Rattle.witx_values.specs.Parts.{Meaning, in_place}
use Rattle.witx_language.specs.declared.nonterminal.Nonterminal.{Nonterminal}
use Rattle.witx_language.specs.declared.production.ProductionName.{ProductionName}
use Rattle.witx_language.specs.declared.production.ProductionName.TheVariants as p
use Rattle.witx_language.specs.declared.sort.Sort.{Sort}
use Rattle.witx_language.specs.declared.sort.Sort.TheVariants as k
use Rattle.witx_language.specs.declared.token_kind.TokenKind.{TokenKind}
use Rattle.witx_language.specs.declared.token_kind.TokenKind.TheVariants.{End}
use Rattle.witx_language.specs.Grammar.{the_names, written}
use Rattle.witx_language.specs.Sorts.{sorting, sort_of, wrap, terminal_sorts, nonterminal_sort}
use Rattle.witx_language.specs.TokenKinds.{token_kind}
use Rattle.witx_language.specs.Values.{EntryTree, param, result_of, noreturn, stored, FieldTree, UnionFieldTree, CaseTree, EntriesTree, Val, leaf, comments_of, second_comments}
use Rattle.witx_syntax_tree.specs.declared.tree.BuiltinSyntax.TheVariants as b
use Rattle.witx_syntax_tree.specs.Trees.{ident, builtin, string, boolean, handle, list_of, pointer_to, const_pointer_to, tuple_of, enum_of, flags_of, record_of, union_of, variant_of, expected, absent, present, no_types, one_type, Fields, no_fields, one_field, UnionFields, no_union_fields, one_union_field, Cases, no_cases, one_case, memory, function, uses, typename, module_of, constant}

-- the field in front of the others
abbrev pub more_fields : FieldTree → Fields → Fields
more_fields f fs = one_field f.comments f.name f.type_ fs

-- so with a type of a union
abbrev pub more_union_fields : UnionFieldTree → UnionFields → UnionFields
more_union_fields f fs = one_union_field f.comments f.type_ fs

-- and with a case
abbrev pub more_cases : CaseTree → Cases → Cases
more_cases c cs = one_case c.comments c.name c.ty cs

-- the entry in front of the others of its function
abbrev pub more_entries : EntryTree → EntriesTree → EntriesTree
more_entries (param cs n t) es = record { params = one_field cs n t es.params; results = es.results; noreturn = es.noreturn; stored = es.stored }
more_entries (result_of cs n t) es = record { params = es.params; results = one_field cs n t es.results; noreturn = es.noreturn; stored = es.stored }
more_entries noreturn es = record { params = es.params; results = es.results; noreturn = true; stored = es.stored }
more_entries stored es = record { params = es.params; results = es.results; noreturn = es.noreturn; stored = true }

-- the entry in front of the others of its function
abbrev pub with_entry : EntryTree → Fields → Fields → Bool → Bool → Val
with_entry e ps rs b s = wrap k.Entries (more_entries e (record { params = ps; results = rs; noreturn = b; stored = s }))

-- ---- production by production, of the values of its parts in their order, where the tokens from its first one on are ts

-- what a production makes
abbrev pub meaning : (x : ProductionName) → List Lexed → Meaning sorting (written x)
meaning p.NoItems ts = []
meaning p.MoreItems ts = λ i is. record { comments = comments_of ts; item = i } ∷ is
meaning p.Use ts = λ q. uses q.text
meaning p.Typename ts = λ n t. typename n t
meaning p.Module ts = λ n ds. module_of n ds
meaning p.Const ts = λ t n i. constant (second_comments ts) t n i
meaning p.Char ts = b.Char
meaning p.U8 ts = b.U8 false
meaning p.U16 ts = b.U16
meaning p.U32 ts = b.U32 false
meaning p.U64 ts = b.U64
meaning p.S8 ts = b.S8
meaning p.S16 ts = b.S16
meaning p.S32 ts = b.S32
meaning p.S64 ts = b.S64
meaning p.F32 ts = b.F32
meaning p.F64 ts = b.F64
meaning p.Pointer ts = λ t. pointer_to t
meaning p.ConstPointer ts = λ t. const_pointer_to t
meaning p.Usize ts = builtin (b.U32 true)
meaning p.Char8 ts = builtin (b.U8 true)
meaning p.PlainType ts = λ t. t
meaning p.Ident ts = λ n. ident n
meaning p.String ts = string
meaning p.Bool ts = boolean
meaning p.TaggedEnum ts = λ tag m ms. enum_of (Some tag) (m ∷ ms)
meaning p.Enum ts = λ m ms. enum_of None (m ∷ ms)
meaning p.TaggedFlags ts = λ tag ms. flags_of (Some tag) ms
meaning p.Flags ts = λ ms. flags_of None ms
meaning p.Record ts = λ f fs. record_of (more_fields f fs)
meaning p.Tuple ts = λ us. tuple_of us
meaning p.List ts = λ t. list_of t
meaning p.Handle ts = handle
meaning p.Expected ts = λ e. expected absent e
meaning p.ExpectedType ts = λ t e. expected (present t) e
meaning p.TaggedUnion ts = λ t fs. union_of (present t) fs
meaning p.EmptyUnion ts = union_of absent no_union_fields
meaning p.Union ts = λ f fs. union_of absent (more_union_fields f fs)
meaning p.TaggedVariant ts = λ t cs. variant_of (present t) cs
meaning p.Variant ts = λ cs. variant_of absent cs
meaning p.BuiltinType ts = λ w. builtin w
meaning p.Name ts = λ n. record { comments = comments_of ts; name = n }
meaning p.NoNames ts = []
meaning p.MoreNames ts = λ m ms. m ∷ ms
meaning p.NoTypes ts = no_types
meaning p.MoreTypes ts = λ t us. one_type t us
meaning p.UnionField ts = λ t. record { comments = comments_of ts; type_ = t }
meaning p.FirstUnionField ts = λ t. record { comments = comments_of ts; type_ = t }
meaning p.NoUnionFields ts = no_union_fields
meaning p.MoreUnionFields ts = λ f fs. more_union_fields f fs
meaning p.Field ts = λ n t. record { comments = comments_of ts; name = n; type_ = t }
meaning p.NoFields ts = no_fields
meaning p.MoreFields ts = λ f fs. more_fields f fs
meaning p.BareError ts = absent
meaning p.Error ts = λ t. present t
meaning p.BareCase ts = λ n. record { comments = comments_of ts; name = n; ty = absent }
meaning p.Case ts = λ n t. record { comments = comments_of ts; name = n; ty = present t }
meaning p.NoCases ts = no_cases
meaning p.MoreCases ts = λ c cs. more_cases c cs
meaning p.Import ts = λ q. record { comments = comments_of ts; decl = memory q }
meaning p.Func ts = λ q es. record { comments = comments_of ts; decl = function q es.params es.results es.noreturn es.stored }
meaning p.NoDecls ts = []
meaning p.MoreDecls ts = λ d ds. d ∷ ds
meaning p.Param ts = λ n t. param (comments_of ts) n t
meaning p.Result ts = λ n t. result_of (comments_of ts) n t
meaning p.Noreturn ts = noreturn
meaning p.Stored ts = stored
meaning p.NoEntries ts = record { params = no_fields; results = no_fields; noreturn = false; stored = false }
meaning p.MoreEntries ts = λ e es. more_entries e es

-- in place of the values of its parts, which stand first
abbrev pub act : ProductionName → List Lexed → List Val → List Val
act p ts vs = in_place sorting (written p) (meaning p ts) vs

-- the interface language
abbrev pub the_language : Language TokenKind Nonterminal ProductionName Lexed Sort Val
the_language = record {
  names = the_names;
  written = written;
  kind = (λ l. token_kind l.token);
  end = End;
  leaf = leaf;
  act = act;
  sort_of = sort_of;
  terminal_sorts = terminal_sorts;
  nonterminal_sort = nonterminal_sort;
}
