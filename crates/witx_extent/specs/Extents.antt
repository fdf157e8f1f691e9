-- How much there is to a type where each of its names is looked through wherever it is mentioned.
use Rattle.std.specs.Prelude.{◌≡◌, ℕ, ◌+◌, List, [], ◌∷◌, Result, OnOk}
use Rattle.witx_ast.specs.Tree.{Tree, Fields, Arms}
use Rattle.witx_ast.specs.Views.{tree_of}
use Rattle.witx_ast.specs.declared.function.InterfaceFuncParam.{InterfaceFuncParam}
use Rattle.witx_extent.specs.declared.allowance.Allowance.{Allowance}

abbrev mutual
  -- one for each name and for each type that is written out, at each of its mentions, and one for each case
  pub extent : Tree → ℕ
  extent (Tree.named name t docs) = 1 + extent t
  extent (Tree.builtin b) = 1
  extent Tree.handle = 1
  extent (Tree.list_of t) = 1 + extent t
  extent (Tree.pointer_to t) = 1 + extent t
  extent (Tree.const_pointer_to t) = 1 + extent t
  extent (Tree.record_of kind ms) = 1 + fields_extent ms
  extent (Tree.variant_of repr cs) = 1 + arms_extent cs

  -- what there is to the types of members
  pub fields_extent : Fields → ℕ
  fields_extent Fields.no_fields = 0
  fields_extent (Fields.field name t docs ms) = extent t + fields_extent ms

  -- one for each case, and what there is to its payload
  pub arms_extent : Arms → ℕ
  arms_extent Arms.no_arms = 0
  arms_extent (Arms.bare name docs cs) = 1 + arms_extent cs
  arms_extent (Arms.carries name t docs cs) = 1 + (extent t + arms_extent cs)

-- what there is to the types of parameters, or of results
abbrev pub params_extent : List InterfaceFuncParam → ℕ
params_extent [] = 0
params_extent (p ∷ ps) = extent (tree_of p.tref) + params_extent ps

-- what is done takes so much off what was left
abbrev pub TakesOff : {R E : Type 0} → Result R E → (before now : Allowance) → ℕ → Type 0
TakesOff r before now number = OnOk r (now.left + number ≡ before.left)
