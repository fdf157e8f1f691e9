-- What a node of a page holds, and its text.
-- A section, a named type and a function each stand behind a heading. What has an id has an anchor of that id, to
-- which links lead.
use Rattle.std.specs.Prelude.{ℕ, ◌+◌, min, List, [], ◌∷◌, ◌++◌, map, Option, Some, None, codes}
use Rattle.std.specs.List.{repeat}
use Rattle.witx_ast.specs.TypeNames.{comma_joined}
use Rattle.witx_markdown.specs.declared.heading.MdHeading.{MdHeading}
use Rattle.witx_markdown.specs.declared.heading.MdHeading.TheVariants.{Header, Bullet}
use Rattle.witx_markdown.specs.declared.content.MdSection.{MdSection}
use Rattle.witx_markdown.specs.declared.content.MdNamedType.{MdNamedType}
use Rattle.witx_markdown.specs.declared.content.MdFunc.{MdFunc}
use Rattle.witx_markdown.specs.declared.content.MdContent.{MdContent}
use Rattle.witx_markdown.specs.declared.content.MdContent.TheVariants as content

-- a header's level as it is drawn
abbrev pub drawn : ℕ → ℕ
drawn level = min level 65535

abbrev pub header_marks : ℕ → MdHeading
header_marks level = Header (drawn level)

-- one level deeper; a bullet stays one
abbrev pub level_down : MdHeading → MdHeading
level_down (Header level) = header_marks (level + 1)
level_down Bullet = Bullet

abbrev pub heading_text : MdHeading → List ℕ
heading_text (Header level) = repeat (drawn level) (codes "#")
heading_text Bullet = codes "-"

-- where links to an id lead
abbrev pub anchor : List ℕ → List ℕ
anchor id = codes "<a href=\"#" ++ id ++ codes "\" name=\"" ++ id ++ codes "\"></a>"

abbrev pub anchor_if : Option (List ℕ) → List ℕ
anchor_if None = []
anchor_if (Some id) = anchor id ++ codes " "

abbrev pub section_text : MdSection → List ℕ
section_text s = heading_text s.heading ++ codes " " ++ anchor_if s.id ++ s.title ++ codes "\n"

abbrev pub type_if : Option (List ℕ) → List ℕ
type_if None = []
type_if (Some ty) = codes ": " ++ ty

abbrev pub name_text : List ℕ → List ℕ
name_text name = codes " `" ++ name ++ codes "`"

-- on lines of its own
abbrev pub docs_text : List ℕ → List ℕ
docs_text docs = codes "\n" ++ docs ++ codes "\n"

abbrev pub named_line : MdNamedType → List ℕ
named_line n = heading_text n.heading ++ codes " " ++ anchor n.id ++ name_text n.name ++ type_if n.ty

abbrev pub named_text : MdNamedType → List ℕ
named_text n = named_line n ++ docs_text n.docs

-- a parameter: its name and its type
abbrev pub input_text : (List ℕ × List ℕ) → List ℕ
input_text input = input.0 ++ codes ": " ++ input.1

abbrev pub tuple_outputs : List (List ℕ) → List ℕ
tuple_outputs ts = codes " -> (" ++ comma_joined ts ++ codes ")"

-- nothing, the one result, or all in parentheses
abbrev pub outputs_text : List (List ℕ) → List ℕ
outputs_text [] = []
outputs_text (t ∷ []) = codes " -> " ++ t
outputs_text (t ∷ u ∷ ts) = tuple_outputs (t ∷ u ∷ ts)

abbrev pub signature_text : MdFunc → List ℕ
signature_text f = f.name ++ codes "(" ++ comma_joined (map input_text f.inputs) ++ codes ")" ++ outputs_text f.outputs

-- below a ruler
abbrev pub func_line : MdFunc → List ℕ
func_line f = codes "\n---\n\n" ++ heading_text f.heading ++ codes " " ++ anchor f.id ++ codes " `" ++ signature_text f ++ codes "`"

abbrev pub func_text : MdFunc → List ℕ
func_text f = func_line f ++ docs_text f.docs

abbrev pub content_text : MdContent → List ℕ
content_text content.Root = []
content_text (content.Section s) = section_text s
content_text (content.Named n) = named_text n
content_text (content.Func f) = func_text f

-- what a content has of an id and of documentation
abbrev pub content_id : MdContent → Option (List ℕ)
content_id content.Root = None
content_id (content.Section s) = s.id
content_id (content.Named n) = Some n.id
content_id (content.Func f) = Some f.id

abbrev pub content_docs : MdContent → Option (List ℕ)
content_docs content.Root = None
content_docs (content.Section s) = None
content_docs (content.Named n) = Some n.docs
content_docs (content.Func f) = Some f.docs

-- the content with other documentation; a root and a section have none
abbrev pub content_with_docs : MdContent → List ℕ → MdContent
content_with_docs content.Root docs = content.Root
content_with_docs (content.Section s) docs = content.Section s
content_with_docs (content.Named n) docs = content.Named (record n { docs = docs })
content_with_docs (content.Func f) docs = content.Func (record f { docs = docs })

-- the content with another type, title, or inputs and outputs, where it has such a thing
abbrev pub with_type : MdContent → List ℕ → MdContent
with_type content.Root ty = content.Root
with_type (content.Section s) ty = content.Section s
with_type (content.Named n) ty = content.Named (record n { ty = Some ty })
with_type (content.Func f) ty = content.Func f

abbrev pub with_title : MdContent → List ℕ → MdContent
with_title content.Root title = content.Root
with_title (content.Section s) title = content.Section (record s { title = title })
with_title (content.Named n) title = content.Named n
with_title (content.Func f) title = content.Func f

abbrev pub with_signature : MdContent → List (List ℕ × List ℕ) → List (List ℕ) → MdContent
with_signature content.Root inputs outputs = content.Root
with_signature (content.Section s) inputs outputs = content.Section s
with_signature (content.Named n) inputs outputs = content.Named n
with_signature (content.Func f) inputs outputs = content.Func (record f { inputs = inputs; outputs = outputs })
