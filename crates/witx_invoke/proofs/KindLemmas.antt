-- Which types are passed by address, as the program has them.
use Rattle.std.proofs.Common.{◌≡◌, ℕ, Bool, not, ◌&&◌, refl, ap, List, [], ◌∷◌, map, Option, Some, None}
use Rattle.witx_ast.specs.declared.types.Variant.{Variant, out-Variant}
use Rattle.witx_ast.specs.Tree.{Tree, Arm, Arms, arm, arms_of, behind}
use Rattle.witx_ast.specs.Plain.{plain, plain_arms, all_bare}
use Rattle.witx_ast.specs.Words.{all_arms_bare, is_bare}
use Rattle.witx_ast.specs.Views.{case_arm, variant_tree}
use Rattle.witx_ast.proofs.TreeKinds.{kind_rules as tree_kind_rules, plain-behind}
use Rattle.witx_ast.proofs.Trees.{tree-VariantDatatype}
use Rattle.witx_ast.proofs.Parts.{record-plain, variant-plain, count-members}
use Rattle.witx_machine.specs.Functions.{by_address}

pub plain-of-behind : (x t : Tree) → x ≡ behind t → plain x ≡ plain t
plain-of-behind x t e = rw (e) (plain-behind t)

bare-arm : (n d : List ℕ) (o : Option Tree) (cs : Arms) (b : Bool) → all_bare (plain_arms cs) ≡ b → all_bare (plain_arms (arm n o d cs)) ≡ is_bare o && b
bare-arm n d None cs b e = e
bare-arm n d (Some t) cs b e = refl

bare-arms : (cs : List Arm) → all_bare (plain_arms (arms_of cs)) ≡ all_arms_bare cs
bare-arms [] = refl
bare-arms (c ∷ cs) = bare-arm c.called c.comment c.payload (arms_of cs) (all_arms_bare cs) (bare-arms cs)

pub variant-address : (v : Variant) → by_address (plain (variant_tree v)) ≡ not (all_arms_bare (map case_arm (out-Variant v).cases))
variant-address v = rw (tree-VariantDatatype v) (ap not (bare-arms (map case_arm (out-Variant v).cases)))

pub ruleset kind_rules = (tree_kind_rules, plain-of-behind, variant-address)

pub ruleset kept_rules = (tree_kind_rules, plain-of-behind, record-plain, variant-plain, count-members)
