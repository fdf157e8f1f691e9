use Rattle.std.proofs.Common.{string_bytes}
use Rattle.std.specs.Prelude.{codes}
use Rattle.witx_ast.specs.Views.{tree_of}
use Rattle.witx_docs.specs.PolyfillTexts.{conversion_mark, owned_type}
use Rattle.witx_docs.proofs.Lines.{five-behind}
use Rattle.witx_docs.proofs.conversion_lines.put_directed.Goals as goal

pub returns : goal.returns
returns c =
    five-behind (string_bytes c.args.out.now) (codes "* ") (owned_type c.args.giver.now (tree_of c.args.from.now)) (codes " => ")
    (owned_type c.args.receiver.now (tree_of c.args.to.now)) (conversion_mark c.args.answer) _ _ _ _ _
    c.in_ok-push_str.ensures.bytes c.in_ok-put_owned_type.ensures c.in_ok-push_str-2.ensures.bytes c.in_ok-put_owned_type-2.ensures c.in_ok-put_mark.ensures
