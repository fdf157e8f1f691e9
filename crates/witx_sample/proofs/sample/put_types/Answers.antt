use Rattle.witx_sample.specs.Samples.{enum_line, header_line, sample_types_text}
use Rattle.witx_sample.proofs.Numbered.{appended}
use Rattle.witx_sample.proofs.sample.put_types.Goals as goal

pub returns : goal.returns
unfolding sample_types_text
returns c =
    appended c.put_numbered_types.result _ header_line enum_line _ _ _ _ c.in_ok-push_str.ensures.bytes c.in_ok-push_str-2.ensures.bytes
    c.put_numbered_types.ensures
