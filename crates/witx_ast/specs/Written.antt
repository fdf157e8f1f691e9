-- What a hasher is fed of a type: the type as it is written, part by part, and of a name its text alone, so that what stands behind it isn't gone through.
use Rattle.std.specs.Prelude.{◌≡◌, ℕ, List, ◌++◌, Option, Some, None, true}
use Rattle.std.proofs.Common.{ap}
use Rattle.std.specs.Hash as fed
use Rattle.std.specs.Hash.{HashWrites}
use Rattle.witx_ast.specs.Tree.{Tree, Fields, Arms}
use Rattle.witx_ast.specs.Same.{same_tree}
use Rattle.witx_ast.specs.SameLaws.{same-to}
use Rattle.witx_ast.specs.contracts.types.BuiltinTypeHash.TheImpl as builtins
use Rattle.witx_ast.specs.contracts.types.IntReprHash.TheImpl as reprs
use Rattle.witx_ast.specs.contracts.types.RecordKindHash.TheImpl as kinds

-- a member, whose type is fed so
abbrev pub member_writes : List ℕ → HashWrites → List ℕ → HashWrites
member_writes name type docs = fed.u8 1 ++ (fed.str name ++ (type ++ fed.str docs))

-- a payload that is fed so, or none
abbrev pub payload_writes : Option HashWrites → HashWrites
payload_writes None = fed.u8 1
payload_writes (Some type) = fed.u8 2 ++ type

abbrev pub case_writes : List ℕ → Option HashWrites → List ℕ → HashWrites
case_writes name payload docs = payload_writes payload ++ (fed.str name ++ fed.str docs)

abbrev mutual
  pub type_writes : Tree → HashWrites
  type_writes (Tree.named name t docs) = fed.u8 0 ++ fed.str name
  type_writes (Tree.builtin b) = fed.u8 1 ++ builtins.ghosts.hash_input b
  type_writes Tree.handle = fed.u8 2
  type_writes (Tree.list_of t) = fed.u8 3 ++ type_writes t
  type_writes (Tree.pointer_to t) = fed.u8 4 ++ type_writes t
  type_writes (Tree.const_pointer_to t) = fed.u8 5 ++ type_writes t
  type_writes (Tree.record_of kind ms) = fed.u8 6 ++ (kinds.ghosts.hash_input kind ++ members_writes ms)
  type_writes (Tree.variant_of tag cs) = fed.u8 7 ++ (reprs.ghosts.hash_input tag ++ cases_writes cs)

  pub members_writes : Fields → HashWrites
  members_writes Fields.no_fields = fed.u8 0
  members_writes (Fields.field name t docs ms) = member_writes name (type_writes t) docs ++ members_writes ms

  pub cases_writes : Arms → HashWrites
  cases_writes Arms.no_arms = fed.u8 0
  cases_writes (Arms.bare name docs cs) = case_writes name None docs ++ cases_writes cs
  cases_writes (Arms.carries name t docs cs) = case_writes name (Some (type_writes t)) docs ++ cases_writes cs

-- the same types are fed alike: a proof, which stands here because the law of the hash cites it
pub written-alike : (x y : Tree) → same_tree x y ≡ true → type_writes x ≡ type_writes y
written-alike x y h = ap type_writes (same-to x y h)
