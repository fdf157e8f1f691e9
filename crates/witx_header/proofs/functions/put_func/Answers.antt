use Rattle.witx_header.proofs.Appending.{three}
use Rattle.witx_header.proofs.functions.put_func.Goals as goal

pub returns : goal.returns
returns c =
    three _ _ _ _ _ _ _ (rw c.as_str.ensures at c.in_ok-put_comment.ensures) (rw c.as_str-2.ensures at c.in_ok-put_import.ensures) c.in_ok-put_body.ensures
