use Rattle.witx_sample.specs.Samples.{sample_module_text}
use Rattle.witx_sample.proofs.Numbered.{pushed}
use Rattle.witx_sample.proofs.sample.put_module.Goals as goal

pub returns : goal.returns
unfolding sample_module_text
returns c = pushed c.push_str-2.result _ _ _ _ _ _ _ c.in_ok-push_str.ensures.bytes c.in_ok-put_functions.ensures c.push_str-2.ensures.bytes
