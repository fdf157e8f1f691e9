-- Cases and their payloads, as the program has them.
use Rattle.std.specs.Prelude.{ℕ, [], Bool, true, false, Option, Some, None, option_map, is_none}
use Rattle.witx_ast.specs.Plain.{plain, Arms}
use Rattle.witx_ast.specs.Views.{tree_of}
use Rattle.witx_ast.specs.Tags.{fits}
use Rattle.witx_ast.specs.Values.{Value}
use Rattle.witx_ast.specs.ValueTests.{is_value, is_bare_case, is_case_with}
use Rattle.witx_ast.specs.declared.types.TypeRef.{TypeRef}
use Rattle.witx_ast.specs.declared.types.Case.{Case}
use Rattle.witx_layout.specs.Numbers.{size_of}
use Rattle.witx_bytes.specs.Bytes.{Bytes, Image}
use Rattle.witx_bytes.specs.Images.{image, payload_image}
use Rattle.witx_bytes.specs.Reading.{value_at}

abbrev pub payload_type_fits : Option TypeRef → Bool
payload_type_fits None = true
payload_type_fits (Some t) = fits (plain (tree_of t))

-- the payload fits its tags, if there is one
abbrev pub payload_fits : Case → Bool
payload_fits c = payload_type_fits c.tref

-- a payload of a case with this type, or with none
abbrev pub is_payload_of : Option TypeRef → Option Value → Bool
is_payload_of None o = is_none o
is_payload_of (Some t) None = false
is_payload_of (Some t) (Some v) = is_value (plain (tree_of t)) v

-- case i has no payload, or this one
abbrev pub is_case : Arms → ℕ → Option Value → Bool
is_case cs i None = is_bare_case cs i
is_case cs i (Some v) = is_case_with cs i v

abbrev pub case_size : Option TypeRef → ℕ
case_size None = 0
case_size (Some t) = size_of (plain (tree_of t))

-- the image of a payload, by the case's type, and by its number
abbrev pub type_image : Option TypeRef → Value → Image
type_image None v = []
type_image (Some t) v = image (plain (tree_of t)) v

abbrev pub case_image : Arms → ℕ → Option Value → Image
case_image cs i None = []
case_image cs i (Some v) = payload_image cs i v

-- the payload that stands there, by the case's type
abbrev pub payload_at : Option TypeRef → Bytes → ℕ → Option (Option Value)
payload_at None m at = Some None
payload_at (Some t) m at = option_map Some (value_at (plain (tree_of t)) m at)
