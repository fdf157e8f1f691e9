-- The numbers that a page needs of types: each has to fit a `usize`, or there is no page.
-- Of a typename its size. Of each type whose parts are shown: the size of a record that isn't flags and of a variant with
-- a payload, and of flags the offsets of their members as a plain record.
use Rattle.std.specs.Prelude.{◌≡◌, ◌⊎◌, ℕ, ◌^◌, List, [], ◌∷◌, ◌++◌, map, Bool, true, false, nat_le, Option, Some, None, Result, Ok, Err, if◌then◌else◌}
use Rattle.std.specs.List.{flat_map, list_any}
use Rattle.witx_ast.specs.declared.types.RecordKind.{RecordKind}
use Rattle.witx_ast.specs.declared.types.IntRepr.{IntRepr}
use Rattle.witx_ast.specs.Tree.{Tree, Fields, Arms, Field, Arm, arm_list}
use Rattle.witx_ast.specs.Plain.{Plain, plain, plain_fields, plain_arms}
use Rattle.witx_ast.specs.Words.{is_bool_arms, all_arms_bare}
use Rattle.witx_ast.specs.declared.function.InterfaceFunc.{InterfaceFunc}
use Rattle.witx_ast.specs.Functions.{FunctionTree, func_tree}
use Rattle.witx_ast.specs.Items.{ItemTree, import_of, func_of}
use Rattle.witx_ast.specs.declared.definition.Definition.{Definition}
use Rattle.witx_ast.specs.Definitions.{DefinitionTree, definition_tree, typename_of, module_of, constant_of}
use Rattle.witx_layout.specs.Numbers.{size_of, offsets}
use Rattle.witx_layout.specs.declared.members.LayoutError.{LayoutError}
use Rattle.witx_layout.specs.declared.members.LayoutError.TheVariants as layout_error
use Rattle.witx_docs.specs.declared.error.DocsError.{DocsError}
use Rattle.witx_docs.specs.declared.error.DocsError.TheVariants as docs_error
use Rattle.witx_markdown.specs.Constants.{unknown_type}

abbrev pub record_numbers : RecordKind → Fields → List ℕ
record_numbers (RecordKind.Bitflags r) ms = offsets 0 (plain_fields ms)
record_numbers RecordKind.Tuple ms = size_of (Plain.record_of RecordKind.Tuple (plain_fields ms)) ∷ []
record_numbers RecordKind.Other ms = size_of (Plain.record_of RecordKind.Other (plain_fields ms)) ∷ []

abbrev pub payload_numbers : IntRepr → Arms → List ℕ
payload_numbers r cs = (if all_arms_bare (arm_list cs) then [] else size_of (Plain.variant_of r (plain_arms cs)) ∷ [])

abbrev pub variant_numbers : IntRepr → Arms → List ℕ → List ℕ
variant_numbers r cs cases = (if is_bool_arms (arm_list cs) then [] else payload_numbers r cs ++ cases)

abbrev mutual
  pub laid_out : Tree → List ℕ
  laid_out (Tree.named name t docs) = []
  laid_out (Tree.builtin b) = []
  laid_out Tree.handle = []
  laid_out (Tree.list_of t) = []
  laid_out (Tree.pointer_to t) = []
  laid_out (Tree.const_pointer_to t) = []
  laid_out (Tree.record_of kind ms) = record_numbers kind ms ++ members_laid_out ms
  laid_out (Tree.variant_of r cs) = variant_numbers r cs (cases_laid_out cs)

  pub members_laid_out : Fields → List ℕ
  members_laid_out Fields.no_fields = []
  members_laid_out (Fields.field name t docs ms) = laid_out t ++ members_laid_out ms

  pub cases_laid_out : Arms → List ℕ
  cases_laid_out Arms.no_arms = []
  cases_laid_out (Arms.bare name docs cs) = cases_laid_out cs
  cases_laid_out (Arms.carries name t docs cs) = laid_out t ++ cases_laid_out cs

-- of one case
abbrev pub payload_laid_out : Option Tree → List ℕ
payload_laid_out None = []
payload_laid_out (Some t) = laid_out t

abbrev pub case_laid_out : Arm → List ℕ
case_laid_out c = payload_laid_out c.payload

abbrev pub params_laid_out : List Field → List ℕ
params_laid_out = flat_map (λ p. laid_out p.tree)

abbrev pub function_laid_out : FunctionTree → List ℕ
function_laid_out f = params_laid_out f.params ++ params_laid_out f.results

abbrev pub item_laid_out : ItemTree → List ℕ
item_laid_out (import_of i) = []
item_laid_out (func_of f) = function_laid_out f

abbrev pub items_laid_out : List ItemTree → List ℕ
items_laid_out = flat_map item_laid_out

abbrev pub typename_laid_out : DefinitionTree → List ℕ
typename_laid_out (typename_of name t docs) = size_of (plain t) ∷ laid_out t
typename_laid_out (module_of m) = []
typename_laid_out (constant_of c) = []

abbrev pub module_laid_out : DefinitionTree → List ℕ
module_laid_out (typename_of name t docs) = []
module_laid_out (module_of m) = items_laid_out m.items
module_laid_out (constant_of c) = []

abbrev pub typenames_laid_out : List DefinitionTree → List ℕ
typenames_laid_out = flat_map typename_laid_out

abbrev pub modules_laid_out : List DefinitionTree → List ℕ
modules_laid_out = flat_map module_laid_out

abbrev pub document_laid_out : List DefinitionTree → List ℕ
document_laid_out ds = typenames_laid_out ds ++ modules_laid_out ds

-- some number doesn't fit
unfoldable pub too_large : List ℕ → Bool
too_large numbers = list_any (nat_le (2 ^ 64)) numbers

-- a refusal comes as too large exactly where some number doesn't fit
abbrev pub refusal_fits : Bool → LayoutError → Type 0
refusal_fits large layout_error.TooLarge = large ≡ true
refusal_fits large layout_error.OutOfMemory = Unit {0}

abbrev pub Judged : {A : Type 0} → Bool → Result A LayoutError → Type 0
Judged large (Ok answer) = large ≡ false
Judged large (Err refused) = refusal_fits large refused

-- the same by the numbers that a function needs, and by those of all that is defined
abbrev pub JudgedByFunction : {A : Type 0} → InterfaceFunc → Result A LayoutError → Type 0
JudgedByFunction func result = Judged (too_large (function_laid_out (func_tree func))) result

abbrev pub JudgedByDefinitions : {A : Type 0} → List Definition → Result A LayoutError → Type 0
JudgedByDefinitions definitions result = Judged (too_large (document_laid_out (map definition_tree definitions))) result

abbrev pub layout_refusal : LayoutError → DocsError
layout_refusal layout_error.TooLarge = docs_error.TooLarge
layout_refusal layout_error.OutOfMemory = docs_error.OutOfMemory

-- numbers that don't all fit are a refusal
abbrev pub number_refusal : List ℕ → Option DocsError
number_refusal numbers = (if too_large numbers then Some docs_error.TooLarge else None)

abbrev pub unknown_or : Option DocsError → Option (List ℕ) → Option DocsError
unknown_or otherwise None = otherwise
unknown_or otherwise (Some name) = Some (docs_error.UnknownConstantType name)

-- why a document has no page: a constant of an unknown type before a number that is too large
abbrev pub document_refusal : List DefinitionTree → Option DocsError
document_refusal ds = unknown_or (number_refusal (document_laid_out ds)) (unknown_type ds)

-- nothing refuses a document of these definitions
abbrev pub NothingRefuses : List Definition → Type 0
NothingRefuses definitions = document_refusal (map definition_tree definitions) ≡ None

-- a refusal is for want of memory, or the one that these definitions have
abbrev pub RefusedFor : List Definition → DocsError → Type 0
RefusedFor definitions refused =
    (refused ≡ DocsError.OutOfMemory) ⊎ (document_refusal (map definition_tree definitions) ≡ Some refused)
