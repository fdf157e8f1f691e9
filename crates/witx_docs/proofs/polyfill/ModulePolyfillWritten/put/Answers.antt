use Rattle.std.proofs.Common.{string_bytes}
use Rattle.witx_docs.proofs.Viewed.{told-module}
use Rattle.witx_docs.proofs.polyfill.ModulePolyfillWritten.put.Goals as goal

pub returns : goal.returns
returns c =
    told-module c.args.self.now (string_bytes c.args.out.now) _ _
    (rw (c.as_str.ensures, c.as_str-2.ensures, c.deref.ensures, c.deref-2.ensures) at c.in_ok-put_heading.ensures)
    (rw c.as_slice.ensures at c.in_ok-put_lines.ensures)
