use Rattle.std.proofs.Common.{rules}
use Rattle.witx_tools.proofs.Telling.{all-callable}
use Rattle.witx_tools.proofs.invoke_texts.call_of_files.Goals as goal

pub named_call-requires : goal.named_call-requires
named_call-requires c =
    all-callable c.one_reading.ensures c.traces_take_writable.ensures _ _ c.in_ok-opened.opened.adapted c.as_slice.result.now (search rules)
    c.in_ok-opened.ensures.document c.in_ok-opened.ensures.parts
