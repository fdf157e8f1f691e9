use Rattle.std.proofs.Common.{string_bytes}
use Rattle.witx_compat.specs.Views.{function_view}
use Rattle.witx_docs.proofs.FunctionParts.{told-in-parts}
use Rattle.witx_docs.proofs.function_lines.FuncPolyfillWritten.put.Goals as goal

pub returns : goal.returns
returns c =
    told-in-parts (function_view c.args.self.now) _ _ (string_bytes c.args.out.now) _ _ _ _ _ _ c.is_full.ensures c.if-is_full.false
    c.in_ok-compatible.ensures.compatible c.new-parts.ensures.bytes c.in_ok-compatible.ensures.lines c.as_str-2.ensures.value
    c.in_ok-push_str.ensures.bytes (rw (c.deref-2.ensures, c.deref-3.ensures) at c.in_ok-put_renamed.ensures) c.in_ok-put_behind_colon.ensures
