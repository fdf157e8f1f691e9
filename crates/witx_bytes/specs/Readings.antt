-- What a read asks for, and what it gives.
use Rattle.std.specs.Prelude.{◌≡◌, ℕ, ◌+◌, ◌^◌, ◌<◌, true, Option, Some, None, option_and_then, Result, Ok, Err, nat_lt}
use Rattle.witx_ast.specs.Plain.{Plain, plain, Fields}
use Rattle.witx_ast.specs.Tags.{fits, fields_fit}
use Rattle.witx_ast.specs.Views.{tree_of}
use Rattle.witx_ast.specs.declared.types.TypeRef.{TypeRef}
use Rattle.witx_layout.specs.Numbers.{size_of, members_end}
use Rattle.witx_machine.specs.Words.{when}
use Rattle.witx_bytes.specs.Bytes.{Blocks, held}
use Rattle.witx_bytes.specs.Reading.{value_at}
use Rattle.witx_bytes.specs.Seen.{seen}
use Rattle.witx_bytes.specs.declared.read_error.ReadError.{ReadError}
use Rattle.witx_bytes.specs.declared.value.Value.{Value}

-- the type fits its tags, its size is a machine's number, and so is each place in it
pub record CanRead (at : ℕ) (t : Plain) : Type 0 where
  pub fit : fits t ≡ true
  pub size : size_of t < 2 ^ 64
  pub end : at + size_of t < 2 ^ 65

-- the same of members
pub record CanReadAll (at : ℕ) (ms : Fields) : Type 0 where
  pub fit : fields_fit ms ≡ true
  pub size : members_end 0 ms < 2 ^ 64
  pub end : at + members_end 0 ms < 2 ^ 65

-- the same of a payload, if there is one
abbrev pub CanReadCase : ℕ → Option TypeRef → Type 0
CanReadCase at None = Unit {0}
CanReadCase at (Some t) = CanRead at (plain (tree_of t))

-- what stands there, if something does; want of memory is free. f: what the answer is
abbrev pub ReadAs : {A B : Type 0} → (A → B) → Option B → Result A ReadError → Type 0
ReadAs f o (Ok x) = o ≡ Some (f x)
ReadAs f o (Err ReadError.NoValue) = o ≡ None
ReadAs f o (Err ReadError.OutOfMemory) = Unit {0}

-- the value of a type that stands at an address of a memory of these blocks, if one does; want of memory is free
abbrev pub ReadsValue : Plain → Blocks → ℕ → Result Value ReadError → Type 0
ReadsValue t blocks at result = ReadAs seen (value_at t (held blocks) at) result

-- a tag, if it is below the number of cases
abbrev pub case_number : ℕ → Option ℕ → Option ℕ
case_number count tag = option_and_then (λ i. when (nat_lt i count) (Some i)) tag
