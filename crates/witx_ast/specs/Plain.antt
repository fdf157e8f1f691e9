-- The plain tree of a type: names looked through, documentation dropped.
-- Two types are alike where their plain trees are equal.
use Rattle.std.specs.Prelude.{ℕ, ◌+◌, List, Bool, true, false}
use Rattle.witx_ast.specs.declared.types.BuiltinType.{BuiltinType}
use Rattle.witx_ast.specs.declared.types.IntRepr.{IntRepr}
use Rattle.witx_ast.specs.declared.types.RecordKind.{RecordKind}
use Rattle.witx_ast.specs.Tree as tree
use Rattle.witx_ast.specs.Tree.{Tree}

mutual
  pub data Plain : Type 0 where
    builtin : BuiltinType → Plain
    handle : Plain
    list_of : Plain → Plain
    pointer_to : Plain → Plain
    const_pointer_to : Plain → Plain
    record_of : RecordKind → Fields → Plain
    variant_of : IntRepr → Arms → Plain

  -- the members of a record: name and type
  pub data Fields : Type 0 where
    no_fields : Fields
    field : List ℕ → Plain → Fields → Fields

  -- the cases of a variant: name, and payload if there is one
  pub data Arms : Type 0 where
    no_arms : Arms
    bare : List ℕ → Arms → Arms
    carries : List ℕ → Plain → Arms → Arms

abbrev mutual
  pub plain : Tree → Plain
  plain (Tree.named name t docs) = plain t
  plain (Tree.builtin b) = builtin b
  plain Tree.handle = handle
  plain (Tree.list_of t) = list_of (plain t)
  plain (Tree.pointer_to t) = pointer_to (plain t)
  plain (Tree.const_pointer_to t) = const_pointer_to (plain t)
  plain (Tree.record_of kind ms) = record_of kind (plain_fields ms)
  plain (Tree.variant_of repr cs) = variant_of repr (plain_arms cs)

  pub plain_fields : tree.Fields → Fields
  plain_fields tree.no_fields = no_fields
  plain_fields (tree.field name t docs ms) = field name (plain t) (plain_fields ms)

  pub plain_arms : tree.Arms → Arms
  plain_arms tree.no_arms = no_arms
  plain_arms (tree.bare name docs cs) = bare name (plain_arms cs)
  plain_arms (tree.carries name t docs cs) = carries name (plain t) (plain_arms cs)

abbrev pub field_count : Fields → ℕ
field_count no_fields = 0
field_count (field name t ms) = field_count ms + 1

abbrev pub arm_count : Arms → ℕ
arm_count no_arms = 0
arm_count (bare name cs) = arm_count cs + 1
arm_count (carries name t cs) = arm_count cs + 1

-- no case has a payload
abbrev pub all_bare : Arms → Bool
all_bare no_arms = true
all_bare (bare name cs) = all_bare cs
all_bare (carries name t cs) = false
