-- Sorts of values: what tokens and nonterminals stand for, and so what a production is made of.
use Rattle.std.specs.Prelude.{ℕ, List, [], ◌∷◌, Option, Some, None}
use Rattle.witx_values.specs.Parts.{Sorting}
use Rattle.witx_syntax_tree.specs.declared.tree.BuiltinSyntax.{BuiltinSyntax}
use Rattle.witx_syntax_tree.specs.Trees.{Name, QuotedText, Member, TypeTree, Maybe, Types, Fields, UnionFields, Cases, NotedDecl, FormTree, NotedItem}
use Rattle.witx_language.specs.declared.nonterminal.Nonterminal.{Nonterminal as FormName}
use Rattle.witx_language.specs.declared.nonterminal.Nonterminal.TheVariants as n
use Rattle.witx_language.specs.declared.sort.Sort.{Sort}
use Rattle.witx_language.specs.declared.sort.Sort.TheVariants as s
use Rattle.witx_language.specs.declared.token_kind.TokenKind.{TokenKind}
use Rattle.witx_language.specs.declared.token_kind.TokenKind.TheVariants.{Id, Quoted, Integer}
use Rattle.witx_language.specs.Values.{EntryTree, FieldTree, UnionFieldTree, CaseTree, EntriesTree, Val, a_name, a_text, an_integer, a_builtin, a_type, some_types, an_error, a_member, some_members, a_field, some_fields, a_union_field, some_union_fields, a_case, some_cases, an_entry, some_entries, a_decl, some_decls, an_item, some_items}

-- what the values of a sort are
abbrev pub Of : Sort → Type 0
Of s.Name = Name
Of s.Quoted = QuotedText
Of s.Integer = ℕ
Of s.Builtin = BuiltinSyntax
Of s.Type = TypeTree
Of s.Types = Types
Of s.Error = Maybe
Of s.Member = Member
Of s.Members = List Member
Of s.Field = FieldTree
Of s.Fields = Fields
Of s.UnionField = UnionFieldTree
Of s.UnionFields = UnionFields
Of s.Case = CaseTree
Of s.Cases = Cases
Of s.Entry = EntryTree
Of s.Entries = EntriesTree
Of s.Decl = NotedDecl
Of s.Decls = List NotedDecl
Of s.Item = FormTree
Of s.Items = List NotedItem

-- the sort of a value
abbrev pub sort_of : Val → Sort
sort_of (a_name x) = s.Name
sort_of (a_text x) = s.Quoted
sort_of (an_integer x) = s.Integer
sort_of (a_builtin x) = s.Builtin
sort_of (a_type x) = s.Type
sort_of (some_types x) = s.Types
sort_of (an_error x) = s.Error
sort_of (a_member x) = s.Member
sort_of (some_members x) = s.Members
sort_of (a_field cs n t) = s.Field
sort_of (some_fields x) = s.Fields
sort_of (a_union_field cs t) = s.UnionField
sort_of (some_union_fields x) = s.UnionFields
sort_of (a_case cs n t) = s.Case
sort_of (some_cases x) = s.Cases
sort_of (an_entry x) = s.Entry
sort_of (some_entries ps rs n b) = s.Entries
sort_of (a_decl x) = s.Decl
sort_of (some_decls x) = s.Decls
sort_of (an_item x) = s.Item
sort_of (some_items x) = s.Items

-- a value of a sort as a value of any
abbrev pub wrap : (k : Sort) → Of k → Val
wrap s.Name x = a_name x
wrap s.Quoted x = a_text x
wrap s.Integer x = an_integer x
wrap s.Builtin x = a_builtin x
wrap s.Type x = a_type x
wrap s.Types x = some_types x
wrap s.Error x = an_error x
wrap s.Member x = a_member x
wrap s.Members x = some_members x
wrap s.Field x = a_field x.comments x.name x.type_
wrap s.Fields x = some_fields x
wrap s.UnionField x = a_union_field x.comments x.type_
wrap s.UnionFields x = some_union_fields x
wrap s.Case x = a_case x.comments x.name x.ty
wrap s.Cases x = some_cases x
wrap s.Entry x = an_entry x
wrap s.Entries x = some_entries x.params x.results x.noreturn x.stored
wrap s.Decl x = a_decl x
wrap s.Decls x = some_decls x
wrap s.Item x = an_item x
wrap s.Items x = some_items x

-- what a value holds, if it is of the sort
abbrev pub unwrap : (k : Sort) → Val → Option (Of k)
unwrap s.Name (a_name x) = Some x
unwrap s.Quoted (a_text x) = Some x
unwrap s.Integer (an_integer x) = Some x
unwrap s.Builtin (a_builtin x) = Some x
unwrap s.Type (a_type x) = Some x
unwrap s.Types (some_types x) = Some x
unwrap s.Error (an_error x) = Some x
unwrap s.Member (a_member x) = Some x
unwrap s.Members (some_members x) = Some x
unwrap s.Field (a_field cs n t) = Some (record { comments = cs; name = n; type_ = t })
unwrap s.Fields (some_fields x) = Some x
unwrap s.UnionField (a_union_field cs t) = Some (record { comments = cs; type_ = t })
unwrap s.UnionFields (some_union_fields x) = Some x
unwrap s.Case (a_case cs n t) = Some (record { comments = cs; name = n; ty = t })
unwrap s.Cases (some_cases x) = Some x
unwrap s.Entry (an_entry x) = Some x
unwrap s.Entries (some_entries ps rs n b) = Some (record { params = ps; results = rs; noreturn = n; stored = b })
unwrap s.Decl (a_decl x) = Some x
unwrap s.Decls (some_decls x) = Some x
unwrap s.Item (an_item x) = Some x
unwrap s.Items (some_items x) = Some x
unwrap k v = None

-- the sorts of what a token of the kind stands for
abbrev pub terminal_sorts : TokenKind → List Sort
terminal_sorts Id = s.Name ∷ []
terminal_sorts Quoted = s.Quoted ∷ []
terminal_sorts Integer = s.Integer ∷ []
terminal_sorts k = []

-- the sort of what a nonterminal stands for
abbrev pub nonterminal_sort : FormName → Sort
nonterminal_sort n.Text = s.Items
nonterminal_sort n.Item = s.Item
nonterminal_sort n.Builtin = s.Builtin
nonterminal_sort n.Type = s.Type
nonterminal_sort n.Plain = s.Type
nonterminal_sort n.Name = s.Member
nonterminal_sort n.Names = s.Members
nonterminal_sort n.Types = s.Types
nonterminal_sort n.UnionField = s.UnionField
nonterminal_sort n.FirstUnionField = s.UnionField
nonterminal_sort n.UnionFields = s.UnionFields
nonterminal_sort n.Field = s.Field
nonterminal_sort n.Fields = s.Fields
nonterminal_sort n.ErrorRest = s.Error
nonterminal_sort n.Case = s.Case
nonterminal_sort n.Cases = s.Cases
nonterminal_sort n.Decl = s.Decl
nonterminal_sort n.Decls = s.Decls
nonterminal_sort n.Entry = s.Entry
nonterminal_sort n.Entries = s.Entries

-- the sorts of the language
abbrev pub sorting : Sorting TokenKind FormName Sort Val
sorting = record {
  Of = Of;
  wrap = wrap;
  unwrap = unwrap;
  sort_of = sort_of;
  terminal_sorts = terminal_sorts;
  nonterminal_sort = nonterminal_sort;
}
