use Rattle.witx_sample.specs.Samples.{variant_line}
use Rattle.witx_sample.proofs.Numbered.{appended}
use Rattle.witx_sample.proofs.sample.put_variant.Goals as goal

pub returns : goal.returns
unfolding variant_line
returns c = appended c.put_list_case.result _ _ _ _ _ _ _ c.in_ok-put_variant_head.ensures c.in_ok-put_record_case.ensures c.put_list_case.ensures
