use Rattle.std.proofs.Common.{◌≡◌, ◌∙◌, refl, rules, sym, subst, map, Bool, true, false, [], ◌∷◌}
use Rattle.witx_ast.specs.Plain.{plain}
use Rattle.witx_ast.specs.Tree.{arms_of}
use Rattle.witx_layout.specs.Numbers.{size_of}
use Rattle.witx_docs.specs.LaidOut.{too_large, payload_numbers, refusal_fits}
use Rattle.witx_ast.specs.Views.{case_arm, variant_tree}
use Rattle.witx_ast.specs.Words.{all_arms_bare}
use Rattle.witx_ast.specs.declared.types.Variant.{out-Variant}
use Rattle.witx_ast.proofs.Parts.{variant-plain}
use Rattle.witx_docs.proofs.Grown.{sprouted-none}
use Rattle.witx_docs.proofs.Judging.{large-none}
use Rattle.witx_docs.proofs.PartSteps.{bare-layout, shown-layout, bare-numbers, shown-numbers}
use Rattle.witx_docs.proofs.parts.put_layout_if.Goals as goal

pub returns-then-is_enum-clause-nodes : goal.returns-then-is_enum-clause-nodes
returns-then-is_enum-clause-nodes c =
    let bare : all_arms_bare (map case_arm (out-Variant c.args.variant.now).cases) ≡ true = sym c.is_enum.ensures ∙ c.if-is_enum.true in
    rw (bare-layout c.args.at.now.heading (out-Variant c.args.variant.now).tag_repr (map case_arm (out-Variant c.args.variant.now).cases) bare)
    (sym (sprouted-none c.args.branch.now c.args.at.now.node))

pub returns-then-is_enum-clause-refusal : goal.returns-then-is_enum-clause-refusal
returns-then-is_enum-clause-refusal c =
    let bare : all_arms_bare (map case_arm (out-Variant c.args.variant.now).cases) ≡ true = sym c.is_enum.ensures ∙ c.if-is_enum.true in
    rw (bare-numbers (out-Variant c.args.variant.now).tag_repr (map case_arm (out-Variant c.args.variant.now).cases) bare) large-none

pub returns-in_err-whole-clause-refusal : goal.returns-in_err-whole-clause-refusal
returns-in_err-whole-clause-refusal c =
    let shown : all_arms_bare (map case_arm (out-Variant c.args.variant.now).cases) ≡ false = sym c.is_enum.ensures ∙ c.if-is_enum.false in
    let same : too_large (size_of (plain (variant_tree c.args.variant.now)) ∷ [])
    ≡ too_large (payload_numbers (out-Variant c.args.variant.now).tag_repr (arms_of (map case_arm (out-Variant c.args.variant.now).cases))) =
    rw (variant-plain c.args.variant.now, shown-numbers (out-Variant c.args.variant.now).tag_repr (map case_arm (out-Variant c.args.variant.now).cases) shown) refl in
    let refused : refusal_fits (too_large (payload_numbers (out-Variant c.args.variant.now).tag_repr (arms_of (map case_arm (out-Variant c.args.variant.now).cases)))) c.in_err-whole.field-0.0 =
    subst (λ (large : Bool). refusal_fits large c.in_err-whole.field-0.0) same c.in_err-whole.ensures.refusal in
    search (rules, refused)

pub returns-clause-nodes : goal.returns-clause-nodes
returns-clause-nodes c =
    let shown : all_arms_bare (map case_arm (out-Variant c.args.variant.now).cases) ≡ false = sym c.is_enum.ensures ∙ c.if-is_enum.false in
    let exact = rw (variant-plain c.args.variant.now) at c.in_ok-whole.ensures.exact in
    rw (
      c.in_ok-put_layout.ensures,
      exact.0,
      exact.1,
      c.mem_align.ensures,
      shown-layout c.args.at.now.heading (out-Variant c.args.variant.now).tag_repr (map case_arm (out-Variant c.args.variant.now).cases) shown,
    ) refl

pub returns-clause-refusal : goal.returns-clause-refusal
returns-clause-refusal c =
    let shown : all_arms_bare (map case_arm (out-Variant c.args.variant.now).cases) ≡ false = sym c.is_enum.ensures ∙ c.if-is_enum.false in
    rw (shown-numbers (out-Variant c.args.variant.now).tag_repr (map case_arm (out-Variant c.args.variant.now).cases) shown)
    (rw (variant-plain c.args.variant.now) at c.in_ok-whole.ensures.refusal)
