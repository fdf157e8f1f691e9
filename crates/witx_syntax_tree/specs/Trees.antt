-- Syntax trees as contracts see them: what stands in a text, with names, places and comments, without where these lie in memory.
use Rattle.std.specs.Prelude.{ℕ, Bool, List, Option}
use Rattle.witx_comments.specs.Comments.{Comments}
use Rattle.witx_syntax_tree.specs.declared.tree.BuiltinSyntax.{BuiltinSyntax}

-- an identifier without its $, and where it stands with it
pub record Name : Type 0 where
  pub name : List ℕ
  pub start : ℕ
  pub end : ℕ

-- a quoted text, and where it stands
pub record QuotedText : Type 0 where
  pub text : List ℕ
  pub start : ℕ
  pub end : ℕ

-- a name of an enum or of flags
pub record Member : Type 0 where
  pub comments : Comments
  pub name : Name

mutual
  pub data TypeTree : Type 0 where
    ident : Name → TypeTree
    builtin : BuiltinSyntax → TypeTree
    string : TypeTree
    boolean : TypeTree
    handle : TypeTree
    list_of : TypeTree → TypeTree
    pointer_to : TypeTree → TypeTree
    const_pointer_to : TypeTree → TypeTree
    tuple_of : Types → TypeTree
    enum_of : Option BuiltinSyntax → List Member → TypeTree
    flags_of : Option BuiltinSyntax → List Member → TypeTree
    record_of : Fields → TypeTree
    union_of : Maybe → UnionFields → TypeTree
    variant_of : Maybe → Cases → TypeTree
    expected : Maybe → Maybe → TypeTree

  -- a type that may be left out
  pub data Maybe : Type 0 where
    absent : Maybe
    present : TypeTree → Maybe

  pub data Types : Type 0 where
    no_types : Types
    one_type : TypeTree → Types → Types

  -- the fields of a record, or the parameters or results of a function
  pub data Fields : Type 0 where
    no_fields : Fields
    one_field : Comments → Name → TypeTree → Fields → Fields

  pub data UnionFields : Type 0 where
    no_union_fields : UnionFields
    one_union_field : Comments → TypeTree → UnionFields → UnionFields

  pub data Cases : Type 0 where
    no_cases : Cases
    one_case : Comments → Name → Maybe → Cases → Cases

-- a declaration of a module: a memory, or a function with its parameters, its results, whether it doesn't return, and whether its result is stored
pub data DeclTree : Type 0 where
  memory : QuotedText → DeclTree
  function : QuotedText → Fields → Fields → Bool → Bool → DeclTree

pub record NotedDecl : Type 0 where
  pub comments : Comments
  pub decl : DeclTree

-- a top-level form; a constant has comments of its own
pub data FormTree : Type 0 where
  uses : List ℕ → FormTree
  typename : Name → TypeTree → FormTree
  module_of : Name → List NotedDecl → FormTree
  constant : Comments → Name → Name → ℕ → FormTree

pub record NotedItem : Type 0 where
  pub comments : Comments
  pub item : FormTree

-- a text: its top-level forms in order
abbrev pub Document : Type 0
Document = List NotedItem
