use Rattle.witx_sample.specs.Samples.{sample_func_line}
use Rattle.witx_sample.proofs.Numbered.{appended}
use Rattle.witx_sample.proofs.sample.put_function.Goals as goal

pub returns : goal.returns
unfolding sample_func_line
returns c = appended c.put_func_result.result _ _ _ _ _ _ _ c.in_ok-put_func_head.ensures c.in_ok-put_func_params.ensures c.put_func_result.ensures
