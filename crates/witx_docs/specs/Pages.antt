-- The page of a document: the text of the tree that generation makes of it below a root, with the links of each node's
-- documentation; and the links that lead nowhere, in the order of the text.
use Rattle.std.specs.Prelude.{◌≡◌, ℕ, List, ◌++◌, map, Option, Some, None, Result, Ok, Err, codes}
use Rattle.std.specs.List.{flat_map}
use Rattle.witx_ast.specs.declared.definition.Definition.{Definition}
use Rattle.witx_ast.specs.Definitions.{DefinitionTree, definition_tree}
use Rattle.witx_markdown.specs.declared.content.MdContent.{MdContent}
use Rattle.witx_markdown.specs.declared.content.MdContent.TheVariants as content
use Rattle.witx_docs.specs.declared.error.DocsError.{DocsError}
use Rattle.witx_markdown.specs.Contents.{header_marks, content_text}
use Rattle.witx_markdown.specs.Forests.{contents_of}
use Rattle.witx_markdown.specs.Trees.{PageTree, root_alone, heading_below, generated, told_of, tree_text}
use Rattle.witx_docs.specs.Parts.{document_parts}
use Rattle.witx_docs.specs.LaidOut.{document_refusal}
use Rattle.witx_markdown.specs.Links.{ids, with_links, missing_in}

-- what generation makes of a document at a root alone
unfoldable pub page_tree : List DefinitionTree → PageTree
page_tree ds = generated root_alone 0 content.Root (document_parts (heading_below root_alone 0) ds)

-- a tree with links to its nodes in each node's documentation
abbrev pub with_all_links : PageTree → PageTree
with_all_links t = record t { contents = map (with_links (ids t.contents)) t.contents }

abbrev pub page_text : List DefinitionTree → List ℕ
page_text ds = tree_text (with_all_links (page_tree ds))

-- the links that no node of a tree has as its id
abbrev pub all_missing : PageTree → List (List ℕ)
all_missing t = told_of (missing_in (ids t.contents)) t

abbrev pub missing_links : List DefinitionTree → List (List ℕ)
missing_links ds = all_missing (page_tree ds)

-- a text, and links that are missing, are those of a document's page
abbrev pub HasPageText : List Definition → List ℕ × List (List ℕ) → Type 0
HasPageText definitions page = page.0 ≡ page_text (map definition_tree definitions)

abbrev pub HasPageLinks : List Definition → List ℕ × List (List ℕ) → Type 0
HasPageLinks definitions page = page.1 ≡ missing_links (map definition_tree definitions)

-- the same by the contents alone, which stand in the order of the text before there are links
abbrev pub page_contents : List DefinitionTree → List MdContent
page_contents ds = contents_of (document_parts (header_marks 1) ds)

abbrev pub text_with : List (List ℕ) → List MdContent → List ℕ
text_with known = flat_map (λ c. content_text (with_links known c))

abbrev pub missing_with : List (List ℕ) → List MdContent → List (List ℕ)
missing_with known = flat_map (missing_in known)

abbrev pub text_of_contents : List MdContent → List ℕ
text_of_contents cs = text_with (ids cs) cs

abbrev pub missing_of_contents : List MdContent → List (List ℕ)
missing_of_contents cs = missing_with (ids cs) cs

-- an answer where nothing refuses it
abbrev pub unless_refused : {A : Type 0} → Option DocsError → A → Result A DocsError
unless_refused None answer = Ok answer
unless_refused (Some refused) answer = Err refused

-- the text, or why there is none
abbrev pub page_answer : List DefinitionTree → Result (List ℕ) DocsError
page_answer ds = unless_refused (document_refusal ds) (page_text ds)

-- what is told of missing links: a line for each, in order
abbrev pub missing_line : List ℕ → List ℕ
missing_line name = codes "witx: link `" ++ name ++ codes "` not found\n"

abbrev pub missing_lines : List (List ℕ) → List ℕ
missing_lines = flat_map missing_line
