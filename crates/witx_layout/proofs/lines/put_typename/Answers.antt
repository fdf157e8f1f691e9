use Rattle.std.proofs.Common.{◌≡◌, ◌++◌, string_bytes}
use Rattle.witx_ast.specs.Plain.{plain}
use Rattle.witx_ast.specs.Tree.{behind}
use Rattle.witx_ast.specs.Views.{tree_of, named_tree, datatype_tree}
use Rattle.witx_layout.specs.LayoutsText.{part_lines, typename_lines}
use Rattle.witx_layout.proofs.Written.{named-behind, lines-behind}
use Rattle.witx_layout.proofs.lines.put_typename.Goals as goal

pub returns-clause-lines : goal.returns-clause-lines
returns-clause-lines c =
    let stands_behind : datatype_tree c.deref.result.now ≡ behind (tree_of c.args.named.now.tref) = rw c.deref.ensures c.type_.ensures in
    let numbers = c.in_ok-numbers.ensures.exact in
    let whole : string_bytes c.put_numbers.new.out ++ part_lines (plain (datatype_tree c.deref.result.now))
    ≡ string_bytes c.args.out.now ++ typename_lines c.args.named.now.name (plain (named_tree c.args.named.now)) =
    rw (c.in_ok-put_numbers.ensures, c.as_str.ensures, numbers.0, numbers.1) (lines-behind (string_bytes c.args.out.now) _ c.args.named.now c.deref.result.now stands_behind) in
    rw whole at c.put_parts.ensures.lines

pub returns-clause-too_large : goal.returns-clause-too_large
returns-clause-too_large c e =
    let stands_behind : datatype_tree c.deref.result.now ≡ behind (tree_of c.args.named.now.tref) = rw c.deref.ensures c.type_.ensures in
    rw (← named-behind c.args.named.now c.deref.result.now stands_behind) (c.put_parts.ensures.too_large e)
