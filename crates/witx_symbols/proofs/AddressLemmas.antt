-- Which variants are passed by address.
use Rattle.std.proofs.Common.{◌≡◌, not, refl, ap, ◌∙◌, map}
use Rattle.witx_ast.specs.declared.types.Variant.{Variant, out-Variant}
use Rattle.witx_ast.specs.Plain.{plain}
use Rattle.witx_ast.specs.Words.{all_arms_bare}
use Rattle.witx_ast.specs.Views.{case_arm, variant_tree}
use Rattle.witx_ast.proofs.Trees.{tree-VariantDatatype}
use Rattle.witx_machine.specs.Functions.{by_address}
use Rattle.witx_symbols.specs.Typing.{is_enum_type}
use Rattle.witx_symbols.proofs.KindLemmas.{kind_rules, variant-enum}

address-enum : (v : Variant) → by_address (plain (variant_tree v)) ≡ not (is_enum_type (plain (variant_tree v)))
address-enum v = rw (tree-VariantDatatype v) refl

pub variant-address : (v : Variant) → by_address (plain (variant_tree v)) ≡ not (all_arms_bare (map case_arm (out-Variant v).cases))
variant-address v = address-enum v ∙ ap not (variant-enum v)

pub ruleset address_rules = (kind_rules, variant-address)
