use Rattle.std.proofs.Common.{◌≡◌, map, drop}
use Rattle.witx_ast.specs.Views.{case_arm}
use Rattle.witx_ast.specs.Words.{all_arms_bare}
use Rattle.witx_ast.specs.declared.types.Variant.{out-Variant}
use Rattle.witx_ast.proofs.types.Variant.is_enum.Given as goal

abbrev pub invariant-loop-case : goal.invariant-loop-case
invariant-loop-case l = all_arms_bare (map case_arm (out-Variant l.self).cases) ≡ all_arms_bare (map case_arm (drop l.case-index (out-Variant l.self).cases))
