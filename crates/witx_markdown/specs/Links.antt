-- The links of documentation: what stands between two backquotes, in pairs from the first one on.
-- Where a node of the page has the id that is meant it becomes a link to that node, else it stays, and is missing. A
-- backquote that none closes stays, and so does what follows it.
use Rattle.std.specs.Prelude.{ℕ, List, [], ◌∷◌, ◌++◌, Bool, true, false, ◌&&◌, ◌==◌, Option, Some, None, codes, if◌then◌else◌}
use Rattle.std.specs.List.{slice_split, list_any, filter_map}
use Rattle.witx_base.specs.Texts.{same_text}
use Rattle.witx_markdown.specs.declared.content.MdContent.{MdContent}
use Rattle.witx_markdown.specs.Contents.{content_id, content_docs, content_with_docs}

-- a text's pieces before, between and behind its backquotes
abbrev pub pieces : List ℕ → List (List ℕ)
pieces text = slice_split (λ b. b == 96) text

-- `::` becomes `.`, from the left
abbrev pub dotted : List ℕ → List ℕ
dotted [] = []
dotted (a ∷ []) = a ∷ []
dotted (a ∷ b ∷ rest) = elim (a == 58 && b == 58) [ true ↦ 46 ∷ dotted rest | false ↦ a ∷ dotted (b ∷ rest) ]

-- the ids of a page's nodes
abbrev pub ids : List MdContent → List (List ℕ)
ids = filter_map content_id

-- some node has the id that is meant
abbrev pub is_there : List (List ℕ) → List ℕ → Bool
is_there known x = list_any (same_text (dotted x)) known

abbrev pub quoted_link : List ℕ → List ℕ
quoted_link x = codes "`" ++ x ++ codes "`"

-- a link to an id
abbrev pub link_to : List ℕ → List ℕ → List ℕ
link_to x id = codes "[`" ++ x ++ codes "`](#" ++ id ++ codes ")"

abbrev pub link : List (List ℕ) → List ℕ → List ℕ
link known x = (if is_there known x then link_to x (dotted x) else quoted_link x)

-- the pieces of a text again, each second one, where one follows it, as a link
abbrev pub linked_pieces : List (List ℕ) → List (List ℕ) → List ℕ
linked_pieces known [] = []
linked_pieces known (p ∷ []) = p
linked_pieces known (p ∷ x ∷ []) = p ++ (codes "`" ++ x)
linked_pieces known (p ∷ x ∷ q ∷ rest) = p ++ (link known x ++ linked_pieces known (q ∷ rest))

-- those that have no target, in order
abbrev pub missing_if : List (List ℕ) → List ℕ → List (List ℕ)
missing_if known x = (if is_there known x then [] else x ∷ [])

abbrev pub missing_pieces : List (List ℕ) → List (List ℕ) → List (List ℕ)
missing_pieces known [] = []
missing_pieces known (p ∷ []) = []
missing_pieces known (p ∷ x ∷ []) = []
missing_pieces known (p ∷ x ∷ q ∷ rest) = missing_if known x ++ missing_pieces known (q ∷ rest)

abbrev pub linked : List (List ℕ) → List ℕ → List ℕ
linked known docs = linked_pieces known (pieces docs)

abbrev pub missing : List (List ℕ) → List ℕ → List (List ℕ)
missing known docs = missing_pieces known (pieces docs)

-- a content with the links of its documentation, and those that are missing
abbrev pub docs_linked : List (List ℕ) → MdContent → Option (List ℕ) → MdContent
docs_linked known c None = c
docs_linked known c (Some docs) = content_with_docs c (linked known docs)

abbrev pub with_links : List (List ℕ) → MdContent → MdContent
with_links known c = docs_linked known c (content_docs c)

abbrev pub missing_in_docs : List (List ℕ) → Option (List ℕ) → List (List ℕ)
missing_in_docs known None = []
missing_in_docs known (Some docs) = missing known docs

abbrev pub missing_in : List (List ℕ) → MdContent → List (List ℕ)
missing_in known c = missing_in_docs known (content_docs c)
