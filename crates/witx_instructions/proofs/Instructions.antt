-- The instruction that lowers or lifts a type, read off what stands behind its names.
use Rattle.std.proofs.Common.{◌≡◌, Bool, true, false, not, cond, map, refl, sym, ap, ◌∙◌}
use Rattle.witx_ast.specs.Tree.{Tree, behind}
use Rattle.witx_ast.specs.Plain.{plain_arms}
use Rattle.witx_ast.specs.Words.{all_arms_bare}
use Rattle.witx_ast.specs.Views.{tree_of, datatype_tree, named_tree, variant_tree, case_arm}
use Rattle.witx_ast.proofs.Trees.{tree-NamedType, tree-VariantDatatype}
use Rattle.witx_ast.specs.declared.types.Datatype.{Datatype}
use Rattle.witx_ast.specs.declared.types.NamedType.{NamedType}
use Rattle.witx_ast.specs.declared.types.Variant.{Variant, out-Variant}
use Rattle.witx_machine.specs.Events.{Step}
use Rattle.witx_machine.specs.Functions.{has_payload}
use Rattle.witx_machine.specs.Traces.{lower_at, lower_step, lift_at, lift_step}
use Rattle.witx_instructions.specs.Views.{variant_arms}
use Rattle.witx_instructions.proofs.Types.{bare-arms, seen-behind}

lower-behind : (whole t : Tree) → lower_at whole t ≡ lower_at whole (behind t)
lower-behind whole t = seen-behind (lower_at whole) (λ n t d. refl) t

lift-behind : (whole t : Tree) → lift_at whole t ≡ lift_at whole (behind t)
lift-behind whole t = seen-behind (lift_at whole) (λ n t d. refl) t

-- a named type, by the datatype behind its names
pub lower-named : (n : NamedType) (d : Datatype) → datatype_tree d ≡ behind (tree_of n.tref) → lower_step (named_tree n) ≡ lower_at (named_tree n) (datatype_tree d)
lower-named n d e = ap (λ t. lower_at (named_tree n) t) (tree-NamedType n) ∙ lower-behind (named_tree n) (tree_of n.tref) ∙ ap (lower_at (named_tree n)) (sym e)

pub lift-named : (n : NamedType) (d : Datatype) → datatype_tree d ≡ behind (tree_of n.tref) → lift_step (named_tree n) ≡ lift_at (named_tree n) (datatype_tree d)
lift-named n d e = ap (λ t. lift_at (named_tree n) t) (tree-NamedType n) ∙ lift-behind (named_tree n) (tree_of n.tref) ∙ ap (lift_at (named_tree n)) (sym e)

payload-is : (v : Variant) (b : Bool) → all_arms_bare (map case_arm (out-Variant v).cases) ≡ b → has_payload (plain_arms (variant_arms v)) ≡ not b
payload-is v b e = ap not (bare-arms (map case_arm (out-Variant v).cases) ∙ e)

pub lower-enum : (whole : Tree) (v : Variant) → all_arms_bare (map case_arm (out-Variant v).cases) ≡ true → lower_at whole (variant_tree v) ≡ Step.EnumLower whole
lower-enum whole v e = ap (lower_at whole) (tree-VariantDatatype v) ∙ ap (λ b. cond b Step.AddrOf (Step.EnumLower whole)) (payload-is v true e)

pub lower-cases : (whole : Tree) (v : Variant) → all_arms_bare (map case_arm (out-Variant v).cases) ≡ false → lower_at whole (variant_tree v) ≡ Step.AddrOf
lower-cases whole v e = ap (lower_at whole) (tree-VariantDatatype v) ∙ ap (λ b. cond b Step.AddrOf (Step.EnumLower whole)) (payload-is v false e)

pub lift-enum : (whole : Tree) (v : Variant) → all_arms_bare (map case_arm (out-Variant v).cases) ≡ true → lift_at whole (variant_tree v) ≡ Step.EnumLift whole
lift-enum whole v e = ap (lift_at whole) (tree-VariantDatatype v) ∙ ap (λ b. cond b (Step.Load whole) (Step.EnumLift whole)) (payload-is v true e)

pub lift-cases : (whole : Tree) (v : Variant) → all_arms_bare (map case_arm (out-Variant v).cases) ≡ false → lift_at whole (variant_tree v) ≡ Step.Load whole
lift-cases whole v e = ap (lift_at whole) (tree-VariantDatatype v) ∙ ap (λ b. cond b (Step.Load whole) (Step.EnumLift whole)) (payload-is v false e)

pub ruleset step_rules = (lower-named, lift-named, lower-enum, lower-cases, lift-enum, lift-cases)
