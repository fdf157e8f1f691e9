use Rattle.std.proofs.Common.{◌++◌, string_bytes}
use Rattle.std.specs.Prelude.{codes}
use Rattle.witx_docs.specs.PolyfillTexts.{nothing_found}
use Rattle.witx_docs.proofs.Lines.{behind}
use Rattle.witx_docs.proofs.function_lines.put_lacking.Goals as goal

pub returns : goal.returns
returns c =
    behind (string_bytes c.args.out.now) (c.args.owner.now ++ codes " " ++ c.args.word.now) (nothing_found c.args.name.now) _ _
    c.in_ok-put_two_words.ensures c.in_ok-put_nothing_found.ensures
