-- What tokens and nonterminals stand for while a text is read.
use Rattle.std.specs.Prelude.{ℕ, Bool, List, [], ◌∷◌, if◌then◌else◌}
use Rattle.witx_lex.specs.Tokens.{Token, id, int, quoted, Lexed}
use Rattle.witx_syntax_tree.specs.declared.tree.BuiltinSyntax.{BuiltinSyntax}
use Rattle.witx_language.specs.Integers.{is_small, int_value}
use Rattle.witx_comments.specs.Comments.{Comments}
use Rattle.witx_syntax_tree.specs.Trees.{Name, QuotedText, Member, TypeTree, Maybe, Types, Fields, UnionFields, Cases, NotedDecl, FormTree, NotedItem}

-- an entry of a function: a parameter, a result, that it doesn't return, or that its result is stored
pub data EntryTree : Type 0 where
  param : Comments → Name → TypeTree → EntryTree
  result_of : Comments → Name → TypeTree → EntryTree
  noreturn : EntryTree
  stored : EntryTree

-- a field with its comments
pub record FieldTree : Type 0 where
  pub comments : Comments
  pub name : Name
  pub type_ : TypeTree

-- a type of a union with its comments
pub record UnionFieldTree : Type 0 where
  pub comments : Comments
  pub type_ : TypeTree

-- a case with its comments
pub record CaseTree : Type 0 where
  pub comments : Comments
  pub name : Name
  pub ty : Maybe

-- the entries of a function, by kind
pub record EntriesTree : Type 0 where
  pub params : Fields
  pub results : Fields
  pub noreturn : Bool
  pub stored : Bool

-- what a token or a nonterminal stands for
pub data Val : Type 0 where
  a_name : Name → Val
  a_text : QuotedText → Val
  an_integer : ℕ → Val
  a_builtin : BuiltinSyntax → Val
  a_type : TypeTree → Val
  some_types : Types → Val
  an_error : Maybe → Val
  a_member : Member → Val
  some_members : List Member → Val
  a_field : Comments → Name → TypeTree → Val
  some_fields : Fields → Val
  a_union_field : Comments → TypeTree → Val
  some_union_fields : UnionFields → Val
  a_case : Comments → Name → Maybe → Val
  some_cases : Cases → Val
  an_entry : EntryTree → Val
  some_entries : Fields → Fields → Bool → Bool → Val
  a_decl : NotedDecl → Val
  some_decls : List NotedDecl → Val
  an_item : FormTree → Val
  some_items : List NotedItem → Val

-- the comments before the first of the tokens
abbrev pub comments_of : List Lexed → Comments
comments_of [] = []
comments_of (t ∷ ts) = t.comments

-- the comments before the second of them
abbrev pub second_comments : List Lexed → Comments
second_comments [] = []
second_comments (t ∷ ts) = comments_of ts

-- An identifier stands for itself with its place, a string for its text with its place, an integer for its number; other tokens for nothing.
abbrev pub token_values : Token → ℕ → ℕ → List Val
token_values (id t) start end = a_name (record { name = t; start = start; end = end }) ∷ []
token_values (quoted t) start end = a_text (record { text = t; start = start; end = end }) ∷ []
token_values (int t) start end = if is_small t then an_integer (int_value t) ∷ [] else []
token_values t start end = []

-- what a token of the text stands for
abbrev pub leaf : Lexed → List Val
leaf l = token_values l.token l.start l.end
