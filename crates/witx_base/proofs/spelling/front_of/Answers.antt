use Rattle.std.proofs.Common.{ap, arith, ◌∙◌}
use Rattle.witx_base.specs.Fronts.{front_of}
use Rattle.witx_base.proofs.FrontOrder.{spelt}
use Rattle.witx_base.proofs.spelling.front_of.Goals as goal

pub returns : goal.returns
returns c =
    omega (
      arith,
      c.from_be_bytes.ensures,
      spelt c.as_bytes-bytes.result.now,
      c.byte_at.ensures,
      c.byte_at-2.ensures,
      c.byte_at-3.ensures,
      c.byte_at-4.ensures,
      c.byte_at-5.ensures,
      c.byte_at-6.ensures,
      c.byte_at-7.ensures,
      c.byte_at-8.ensures,
    )
    ∙ ap front_of c.as_bytes-bytes.ensures.value
