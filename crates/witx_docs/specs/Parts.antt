-- What a type, a function, a module and a document add below a node of a page.
-- `h` is the header of what stands right below the node: its level is one more than the node has ancestors. Ids are joined
-- by dots.
use Rattle.std.specs.Prelude.{ℕ, ◌/◌, List, [], ◌∷◌, ◌++◌, map, filter, Option, Some, None, if◌then◌else◌, codes}
use Rattle.std.specs.Fmt.{decimal}
use Rattle.witx_base.specs.Texts.{same_text}
use Rattle.witx_ast.specs.declared.types.RecordKind.{RecordKind}
use Rattle.witx_ast.specs.declared.types.IntRepr.{IntRepr}
use Rattle.witx_ast.specs.declared.definition.Constant.{Constant}
use Rattle.witx_ast.specs.Tree.{Tree, Fields, Arms, Field, Arm, arm_list, fields_of}
use Rattle.witx_ast.specs.Views.{member_field}
use Rattle.witx_ast.specs.Plain.{Plain, plain, plain_fields, plain_arms}
use Rattle.witx_ast.specs.Words.{is_bool_arms, all_arms_bare}
use Rattle.witx_ast.specs.TypeNames.{type_text}
use Rattle.witx_ast.specs.Functions.{FunctionTree}
use Rattle.witx_ast.specs.Items.{ItemTree, import_of, func_of}
use Rattle.witx_ast.specs.Definitions.{DefinitionTree, ModuleTree, typename_of, module_of, constant_of}
use Rattle.witx_layout.specs.declared.members.RecordMemberLayout.{RecordMemberLayout}
use Rattle.witx_layout.specs.Numbers.{size_of, align_of, offsets, repr_size}
use Rattle.witx_markdown.specs.declared.heading.MdHeading.{MdHeading}
use Rattle.witx_markdown.specs.declared.heading.MdHeading.TheVariants.{Bullet}
use Rattle.witx_markdown.specs.declared.content.MdContent.{MdContent}
use Rattle.witx_markdown.specs.declared.content.MdContent.TheVariants as content
use Rattle.witx_markdown.specs.Constants.{constants_in}
use Rattle.witx_markdown.specs.Contents.{header_marks, level_down}
use Rattle.witx_markdown.specs.Forests.{Forest, no_nodes, node, lone_node, followed_by, each}

abbrev pub section : MdHeading → List ℕ → MdContent
section h title = content.Section (record { heading = h; id = None; title = title })

-- a bullet with an id, a name, documentation and perhaps a type
abbrev pub item : List ℕ → List ℕ → List ℕ → Option (List ℕ) → MdContent
item id name docs ty = content.Named (record { heading = Bullet; id = id; name = name; docs = docs; ty = ty })

-- the id of a part of what has this id; where that has none the name stands alone
abbrev pub inner_id : Option (List ℕ) → List ℕ → List ℕ
inner_id None name = name
inner_id (Some id) name = id ++ codes "." ++ name

-- a type as it is shown: a name leads to its typename
abbrev pub type_shown : Tree → List ℕ
type_shown (Tree.named name t docs) = codes "[`" ++ name ++ codes "`](#" ++ name ++ codes ")"
type_shown t = codes "`" ++ type_text t ++ codes "`"

-- where a member stands; a flag is a bit, and each bit of the plain record takes four bytes
abbrev pub place_text : RecordKind → ℕ → List ℕ
place_text (RecordKind.Bitflags r) offset = codes "Bit: " ++ decimal (offset / 4)
place_text RecordKind.Tuple offset = codes "Offset: " ++ decimal offset
place_text RecordKind.Other offset = codes "Offset: " ++ decimal offset

abbrev pub member_docs : RecordKind → List ℕ → ℕ → List ℕ
member_docs kind docs offset = docs ++ (codes "\n" ++ place_text kind offset ++ codes "\n")

-- a member with the first of the offsets, where there is one
abbrev pub placed_member : Option (List ℕ) → RecordKind → List ℕ → List ℕ → List ℕ → Forest → (List ℕ → Forest) → List ℕ → Forest
placed_member id kind name ty docs below more [] = no_nodes
placed_member id kind name ty docs below more (offset ∷ begins) =
    node (item (inner_id id name) name (member_docs kind docs offset) (Some ty)) below (more begins)

-- a bullet that shows a number
abbrev pub number_section : List ℕ → ℕ → MdContent
number_section word n = section Bullet (word ++ codes ": " ++ decimal n)

abbrev pub layout_nodes : MdHeading → (size align tag : ℕ) → Forest
layout_nodes h size align tag = node (section h (codes "Variant Layout")) no_nodes
    (node (number_section (codes "size") size) no_nodes (node (number_section (codes "align") align) no_nodes
    (lone_node (number_section (codes "tag_size") tag))))

-- the layout of a variant, where some case has a payload
abbrev pub variant_layout : MdHeading → IntRepr → Arms → Forest
variant_layout h r cs = (if all_arms_bare (arm_list cs) then no_nodes else
    layout_nodes h (size_of (Plain.variant_of r (plain_arms cs))) (align_of (Plain.variant_of r (plain_arms cs))) (repr_size r))

-- a bool-like variant adds nothing
abbrev pub variant_nodes : MdHeading → IntRepr → Arms → Forest → Forest
variant_nodes h r cs cases = (if is_bool_arms (arm_list cs) then no_nodes else
    followed_by (variant_layout h r cs) (node (section h (codes "Variant cases")) no_nodes cases))

-- the parts of a type, below a node that has perhaps an id; a name has none, and targets aren't entered
abbrev mutual
  pub type_parts : MdHeading → Option (List ℕ) → Tree → Forest
  type_parts h id (Tree.named name t docs) = no_nodes
  type_parts h id (Tree.builtin b) = no_nodes
  type_parts h id Tree.handle = lone_node (section h (codes "Supertypes"))
  type_parts h id (Tree.list_of t) = no_nodes
  type_parts h id (Tree.pointer_to t) = no_nodes
  type_parts h id (Tree.const_pointer_to t) = no_nodes
  type_parts h id (Tree.record_of kind ms) =
      node (section h (codes "Record members")) no_nodes (member_nodes h id kind ms (offsets 0 (plain_fields ms)))
  type_parts h id (Tree.variant_of r cs) = variant_nodes h r cs (case_nodes h id cs)

  -- the members, each with its offset
  pub member_nodes : MdHeading → Option (List ℕ) → RecordKind → Fields → List ℕ → Forest
  member_nodes h id kind Fields.no_fields = λ begins. no_nodes
  member_nodes h id kind (Fields.field name t docs ms) =
      placed_member id kind name (type_shown t) docs (type_parts (level_down h) (Some (inner_id id name)) t) (member_nodes h id kind ms)

  pub case_nodes : MdHeading → Option (List ℕ) → Arms → Forest
  case_nodes h id Arms.no_arms = no_nodes
  case_nodes h id (Arms.bare name docs cs) = node (item (inner_id id name) name docs None) no_nodes (case_nodes h id cs)
  case_nodes h id (Arms.carries name t docs cs) =
      node (item (inner_id id name) name docs (Some (type_shown t))) (type_parts (level_down h) (Some (inner_id id name)) t) (case_nodes h id cs)

-- one named thing with a type, and the parts of that type below it
abbrev pub typed_node : MdHeading → Option (List ℕ) → List ℕ → List ℕ → Tree → Forest
typed_node h id name docs t =
    node (item (inner_id id name) name docs (Some (type_shown t))) (type_parts (level_down h) (Some (inner_id id name)) t) no_nodes

-- one member with its offset, and one case
abbrev pub member_node : MdHeading → Option (List ℕ) → RecordKind → Field → ℕ → Forest
member_node h id kind m offset = typed_node h id m.called (member_docs kind m.comment offset) m.tree

abbrev pub payload_node : MdHeading → Option (List ℕ) → List ℕ → List ℕ → Option Tree → Forest
payload_node h id name docs None = lone_node (item (inner_id id name) name docs None)
payload_node h id name docs (Some t) = typed_node h id name docs t

abbrev pub case_node : MdHeading → Option (List ℕ) → Arm → Forest
case_node h id c = payload_node h id c.called c.comment c.payload

-- members that are placed already
abbrev pub placed_fields : List RecordMemberLayout → Fields
placed_fields layouts = fields_of (map member_field (map (λ m. m.member.now) layouts))

abbrev pub placed_nodes : MdHeading → Option (List ℕ) → RecordKind → List RecordMemberLayout → Forest
placed_nodes h id kind layouts = member_nodes h id kind (placed_fields layouts) (map (λ m. m.offset) layouts)

-- parameters, or results, of a function that has this id
abbrev pub param_node : MdHeading → Option (List ℕ) → Field → Forest
param_node h id p = typed_node h id p.called p.comment p.tree

abbrev pub param_nodes : MdHeading → Option (List ℕ) → List Field → Forest
param_nodes h id params = each (param_node h id) params

abbrev pub function_parts : MdHeading → Option (List ℕ) → FunctionTree → Forest
function_parts h id f = node (section h (codes "Params")) no_nodes (followed_by (param_nodes h id f.params)
    (node (section h (codes "Results")) no_nodes (param_nodes h id f.results)))

-- parameters and results as a function's line shows them
abbrev pub inputs_of : List Field → List (List ℕ × List ℕ)
inputs_of params = map (λ p. (p.called, type_text p.tree)) params

abbrev pub outputs_of : List Field → List (List ℕ)
outputs_of results = map (λ p. type_text p.tree) results

abbrev pub function_content : MdHeading → FunctionTree → MdContent
function_content h f = content.Func (record {
  heading = h;
  id = f.name;
  name = f.name;
  inputs = inputs_of f.params;
  outputs = outputs_of f.results;
  docs = f.comment;
})

-- imports and functions among what a module defines
abbrev pub import_node : MdHeading → ItemTree → Forest
import_node h (import_of i) = lone_node (section h (codes "Memory"))
import_node h (func_of f) = no_nodes

abbrev pub import_nodes : MdHeading → List ItemTree → Forest
import_nodes h items = each (import_node h) items

abbrev pub func_node : MdHeading → ItemTree → Forest
func_node h (import_of i) = no_nodes
func_node h (func_of f) = node (function_content h f) (function_parts (level_down h) (Some f.name) f) no_nodes

abbrev pub func_nodes : MdHeading → List ItemTree → Forest
func_nodes h items = each (func_node h) items

abbrev pub module_parts : MdHeading → ModuleTree → Forest
module_parts h m = node (section h (codes "Imports")) (import_nodes (level_down h) m.items)
    (node (section h (codes "Functions")) (func_nodes (level_down h) m.items) no_nodes)

-- the constants of the typename of this name
abbrev pub constants_of : List ℕ → List Constant → List Constant
constants_of name cs = filter (λ c. same_text name c.ty) cs

abbrev pub constant_node : Constant → Forest
constant_node c = lone_node (item (c.ty ++ codes "." ++ c.name) c.name c.docs None)

-- the section of constants, where there are some
abbrev pub constants_part : MdHeading → List Constant → Forest
constants_part h [] = no_nodes
constants_part h (c ∷ cs) = node (section h (codes "Constants")) no_nodes (each constant_node (c ∷ cs))

-- a line of its own that shows a number, below an empty one
abbrev pub number_line : List ℕ → ℕ → List ℕ
number_line word n = codes "\n" ++ word ++ codes ": " ++ decimal n ++ codes "\n"

abbrev pub layout_lines : (size align : ℕ) → List ℕ
layout_lines size align = number_line (codes "Size") size ++ number_line (codes "Alignment") align

abbrev pub typename_docs : List ℕ → (size align : ℕ) → List ℕ
typename_docs docs size align = docs ++ layout_lines size align

abbrev pub typename_shown : List ℕ → Tree → List ℕ → (size align : ℕ) → MdContent
typename_shown name t docs size align =
    content.Named (record { heading = header_marks 2; id = name; name = name; docs = typename_docs docs size align; ty = Some (type_shown t) })

abbrev pub typename_content : List ℕ → Tree → List ℕ → MdContent
typename_content name t docs = typename_shown name t docs (size_of (plain t)) (align_of (plain t))

-- a typename with its own constants and its parts
abbrev pub typename_with : MdHeading → List Constant → List ℕ → Tree → List ℕ → Forest
typename_with h own name t docs = node (typename_content name t docs)
    (followed_by (constants_part (level_down h) own) (type_parts (level_down h) (Some name) t)) no_nodes

-- its constants are among all constants
abbrev pub typename_part : MdHeading → List Constant → List ℕ → Tree → List ℕ → Forest
typename_part h cs name t docs = typename_with h (constants_of name cs) name t docs

abbrev pub typename_node : MdHeading → List Constant → DefinitionTree → Forest
typename_node h cs (typename_of name t docs) = typename_part h cs name t docs
typename_node h cs (module_of m) = no_nodes
typename_node h cs (constant_of c) = no_nodes

abbrev pub typename_nodes : MdHeading → List Constant → List DefinitionTree → Forest
typename_nodes h cs ds = each (typename_node h cs) ds

abbrev pub module_content : List ℕ → MdContent
module_content name = content.Section (record { heading = header_marks 2; id = Some name; title = name })

abbrev pub module_node : MdHeading → DefinitionTree → Forest
module_node h (typename_of name t docs) = no_nodes
module_node h (module_of m) = node (module_content m.name) (module_parts (level_down h) m) no_nodes
module_node h (constant_of c) = no_nodes

abbrev pub module_nodes : MdHeading → List DefinitionTree → Forest
module_nodes h ds = each (module_node h) ds

-- the types and the modules of a document
abbrev pub document_parts : MdHeading → List DefinitionTree → Forest
document_parts h ds = node (section (header_marks 1) (codes "Types")) (typename_nodes (level_down h) (constants_in ds) ds)
    (node (section (header_marks 1) (codes "Modules")) (module_nodes (level_down h) ds) no_nodes)
