-- What a write asks for and gives.
use Rattle.std.specs.Prelude.{◌≡◌, ℕ, ◌+◌, ◌^◌, ◌≤◌, true, Option}
use Rattle.witx_ast.specs.Plain.{Plain, plain, Fields, Arms}
use Rattle.witx_ast.specs.Values.{Value, Values}
use Rattle.witx_ast.specs.ValueTests.{is_value, are_values}
use Rattle.witx_ast.specs.Tags.{fits, fields_fit, arms_fit}
use Rattle.witx_ast.specs.Views.{datatype_tree}
use Rattle.witx_ast.specs.declared.types.Datatype.{Datatype}
use Rattle.witx_layout.specs.Numbers.{size_of}
use Rattle.witx_bytes.specs.Bytes.{Blocks, Bytes, Image, AreHeld, held, image_written}
use Rattle.witx_bytes.specs.Images.{image}
use Rattle.witx_bytes.specs.Payloads.{is_case}
use Rattle.witx_bytes.specs.Seen.{seen}
use Rattle.witx_bytes.specs.declared.value.Value as value

-- a value of the type, which fits its tags
pub record CanWrite (t : Plain) (v : Value) : Type 0 where
  pub value : is_value t v ≡ true
  pub fit : fits t ≡ true

-- the same of a value of the program
abbrev pub CanWriteValue : Plain → value.Value → Type 0
CanWriteValue t v = CanWrite t (seen v)

-- the same of members
pub record CanWriteAll (ms : Fields) (vs : Values) : Type 0 where
  pub values : are_values ms vs ≡ true
  pub fit : fields_fit ms ≡ true

-- the same of a payload
pub record CanWritePayload (cs : Arms) (i : ℕ) (o : Option Value) : Type 0 where
  pub value : is_case cs i o ≡ true
  pub fit : arms_fit cs ≡ true

-- a type that has no parts
abbrev pub HasNoParts : Plain → Type 0
HasNoParts (Plain.record_of kind ms) = ⊥
HasNoParts (Plain.variant_of repr cs) = ⊥
HasNoParts t = Unit {0}

-- the range ends within 2^32, and its bytes are held
pub record HasRange (at size : ℕ) (m : Bytes) : Type 0 where
  pub within : at + size ≤ 2 ^ 32
  pub held : AreHeld at (at + size) m

-- exactly the bytes of the image are set
abbrev pub Writes : ℕ → Image → Bytes → Bytes → Type 0
Writes at xs m k = (x : ℕ) → k x ≡ image_written at xs m x

-- the range that a value of a type has from an address on, in a memory of these blocks
abbrev pub HasRoom : ℕ → Plain → Blocks → Type 0
HasRoom at t blocks = HasRange at (size_of t) (held blocks)

-- exactly the bytes of the image of a value of the program are set, where these blocks become those
abbrev pub WritesValue : ℕ → Plain → value.Value → (old new : Blocks) → Type 0
WritesValue at t v old new = Writes at (image t (seen v)) (held old) (held new)

abbrev pub WritesDatatype : ℕ → Datatype → value.Value → (old new : Blocks) → Type 0
WritesDatatype at d = WritesValue at (plain (datatype_tree d))
