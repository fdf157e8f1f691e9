-- What a text consists of where files are read in order: declarations, and uses of other files.
-- A declaration of the reading order keeps the path and the text in which it stands, since its locations depend on them.
use Rattle.std.specs.Prelude.{ℕ, List, map}
use Rattle.witx_base.specs.Paths.{Path}
use Rattle.witx_syntax_tree.specs.Trees.{Document, NotedItem, FormTree, uses, typename, module_of, constant}

-- a top-level form: a declaration with its comments, or the path of a file that is used
pub data TextItem : Type 0 where
  declaration : NotedItem → TextItem
  use_of : List ℕ → TextItem

abbrev pub item_at : NotedItem → FormTree → TextItem
item_at noted (uses path) = use_of path
item_at noted (typename name type_) = declaration noted
item_at noted (module_of name items) = declaration noted
item_at noted (constant comments type_name name value) = declaration noted

abbrev pub item_of : NotedItem → TextItem
item_of noted = item_at noted noted.item

abbrev pub items_of : Document → List TextItem
items_of document = map item_of document

-- a declaration, with the path and the text of its file
pub record Declared : Type 0 where
  pub path : Path
  pub text : List ℕ
  pub item : NotedItem

-- why a text is no document, and where, line and column counted from 1
pub record SyntaxFault : Type 0 where
  pub message : List ℕ
  pub line : ℕ
  pub column : ℕ
