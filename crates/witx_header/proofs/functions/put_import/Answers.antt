use Rattle.witx_header.proofs.Declaring.{imported}
use Rattle.witx_header.proofs.functions.put_import.Goals as goal

pub returns : goal.returns
returns c =
    let words = rw (c.as_str.ensures, c.as_slice.ensures, c.as_slice-2.ensures, c.in_ok-params.ensures, c.in_ok-results.ensures) at c.in_ok-put_prototype.ensures in
    imported c.args.func.now _ _ _ (c.functions_are_read_as_their_trees.ensures c.args.func.now) words
