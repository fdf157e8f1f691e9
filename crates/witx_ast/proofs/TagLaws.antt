-- The tests of tags hold exactly of what fits its tags.
use Rattle.std.specs.Prelude.{ℕ, ◌^◌, List, [], ◌∷◌}
use Rattle.std.specs.Bool.{Decides}
use Rattle.witx_ast.specs.declared.types.RecordKind.{RecordKind}
use Rattle.witx_ast.specs.Tree.{Field}
use Rattle.witx_ast.specs.Plain.{Plain, plain, Fields, Arms, field_count, arm_count}
use Rattle.witx_ast.specs.Functions.{FunctionTree}
use Rattle.witx_ast.specs.Tags.{repr_bits, FlagsFit, flags_fit, NodeFits, node_fits, AllFit, fits, AllFieldsFit, fields_fit, AllArmsFit, arms_fit, AllTypesFit, types_fit, FunctionFits, function_fits}
use Rattle.witx_ast.proofs.Decided.{always, decides-and, decides-le}

pub flags-decide : (kind : RecordKind) (n : ℕ) → Decides (flags_fit kind n) (FlagsFit kind n)
flags-decide (RecordKind.Bitflags repr) n = decides-le n (repr_bits repr)
flags-decide RecordKind.Tuple n = always
flags-decide RecordKind.Other n = always

pub node-decides : (t : Plain) → Decides (node_fits t) (NodeFits t)
node-decides (Plain.record_of kind ms) = flags-decide kind (field_count ms)
node-decides (Plain.variant_of repr cs) = decides-and _ _ (decides-le (arm_count cs) (2 ^ repr_bits repr)) (decides-le (arm_count cs) (2 ^ 32))
node-decides _ = always

mutual
  pub fits-decides : (t : Plain) → Decides (fits t) (AllFit t)
  fits-decides (Plain.record_of kind ms) = decides-and _ _ (node-decides (Plain.record_of kind ms)) (fields-decide ms)
  fits-decides (Plain.variant_of repr cs) = decides-and _ _ (node-decides (Plain.variant_of repr cs)) (arms-decide cs)
  fits-decides _ = always

  pub fields-decide : (ms : Fields) → Decides (fields_fit ms) (AllFieldsFit ms)
  fields-decide Fields.no_fields = always
  fields-decide (Fields.field name t ms) = decides-and _ _ (fits-decides t) (fields-decide ms)

  pub arms-decide : (cs : Arms) → Decides (arms_fit cs) (AllArmsFit cs)
  arms-decide Arms.no_arms = always
  arms-decide (Arms.bare name cs) = arms-decide cs
  arms-decide (Arms.carries name t cs) = decides-and _ _ (fits-decides t) (arms-decide cs)

pub types-decide : (ps : List Field) → Decides (types_fit ps) (AllTypesFit ps)
types-decide [] = always
types-decide (p ∷ ps) = decides-and _ _ (fits-decides (plain p.tree)) (types-decide ps)

pub function-decides : (f : FunctionTree) → Decides (function_fits f) (FunctionFits f)
function-decides f = decides-and _ _ (types-decide f.params) (types-decide f.results)
