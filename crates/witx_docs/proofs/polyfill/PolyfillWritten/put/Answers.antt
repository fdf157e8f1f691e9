use Rattle.std.proofs.Common.{string_bytes}
use Rattle.witx_docs.proofs.Viewed.{told-polyfill}
use Rattle.witx_docs.proofs.polyfill.PolyfillWritten.put.Goals as goal

pub returns : goal.returns
returns c =
    told-polyfill c.args.self.now.modules (string_bytes c.args.out.now) _ _ _ _ _ c.in_ok-push_str.ensures.bytes (rw c.as_slice.ensures at c.in_ok-put_lines.ensures)
    c.in_ok-push_str-2.ensures.bytes c.in_ok-put_true_conversions.ensures c.in_ok-push_str-3.ensures.bytes
