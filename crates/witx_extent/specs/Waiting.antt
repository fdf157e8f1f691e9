-- What there is to types that are still to be gone through.
use Rattle.std.specs.Prelude.{ℕ, ◌+◌, List, [], ◌∷◌, map, length}
use Rattle.witx_ast.specs.Tree.{Tree, Fields, Arms, fields_of, arms_of}
use Rattle.witx_ast.specs.Views.{tree_of, member_field, case_arm}
use Rattle.witx_ast.specs.declared.types.Case.{Case}
use Rattle.witx_ast.specs.declared.types.RecordMember.{RecordMember}
use Rattle.witx_extent.specs.declared.parts.Waiting.{Waiting}
use Rattle.witx_extent.specs.Extents.{extent, fields_extent, arms_extent}

-- what there is to all types that wait, each with its parts
abbrev pub waiting_extent : List Waiting → ℕ
waiting_extent [] = 0
waiting_extent (o ∷ os) = extent (tree_of o.tref.now) + waiting_extent os

-- how many cases there are
abbrev pub waiting_arm_count : Arms → ℕ
waiting_arm_count Arms.no_arms = 0
waiting_arm_count (Arms.bare name docs cs) = 1 + waiting_arm_count cs
waiting_arm_count (Arms.carries name t docs cs) = 1 + waiting_arm_count cs

-- what there is to a type beside its parts: one, and one for each case
abbrev pub own_extent : Tree → ℕ
own_extent (Tree.named name t docs) = 1
own_extent (Tree.builtin b) = 1
own_extent Tree.handle = 1
own_extent (Tree.list_of t) = 1
own_extent (Tree.pointer_to t) = 1
own_extent (Tree.const_pointer_to t) = 1
own_extent (Tree.record_of kind ms) = 1
own_extent (Tree.variant_of repr cs) = 1 + waiting_arm_count cs

-- what there is to the types of members
abbrev pub members_extent : List RecordMember → ℕ
members_extent ms = fields_extent (fields_of (map member_field ms))

-- what there is to the payloads of cases, where they have one
abbrev pub payload_extent : Arms → ℕ
payload_extent Arms.no_arms = 0
payload_extent (Arms.bare name docs cs) = payload_extent cs
payload_extent (Arms.carries name t docs cs) = extent t + payload_extent cs

-- what there is to the payload of a case, if it has one
abbrev pub case_extent : Case → ℕ
case_extent c = payload_extent (arms_of (case_arm c ∷ []))

-- what there is to the payloads of all cases
abbrev pub payloads_extent : List Case → ℕ
payloads_extent cs = payload_extent (arms_of (map case_arm cs))
