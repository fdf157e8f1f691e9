use Rattle.witx_compat.specs.Views.{function_view}
use Rattle.witx_tools.proofs.Shims.{refused-line}
use Rattle.witx_tools.proofs.shim_texts.put_passing.Goals as goal

pub returns-in-Err : goal.returns-in-Err
returns-in-Err c = refused-line _ (function_view c.args.poly.now) _ _ _ (c.put_refusal.ensures _ c.in-Err.ensures.refused)
