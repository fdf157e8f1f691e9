use Rattle.std.proofs.Common.{◌+◌, ap, ◌∙◌}
use Rattle.witx_extent.specs.Waiting.{waiting_extent, payloads_extent}
use Rattle.witx_extent.proofs.Counting.{variant-parts}
use Rattle.witx_extent.proofs.parts.put_datatype.Goals as goal

pub returns-in_ok-put_payloads-in-Variant : goal.returns-in_ok-put_payloads-in-Variant
returns-in_ok-put_payloads-in-Variant c =
    variant-parts _ _ c.args.datatype.now c.in-Variant.variant c.in-Variant.is
    (c.in_ok-put_payloads-in-Variant.ensures ∙ ap (λ cs. waiting_extent c.args.waiting.now.items + payloads_extent cs) c.as_slice-in-Variant.ensures)
