use Rattle.witx_ast.specs.Views.{tree_of}
use Rattle.witx_layout.proofs.FlatLayouts.{is-entered}
use Rattle.witx_layout.proofs.table.enter_layout.Goals as goal

pub returns-clause-entered : goal.returns-clause-entered
returns-clause-entered c =
    let named = c.args.named.now in
    is-entered c.insert.result c.args.table.now c.insert.new.self _ named.name (tree_of named.tref) named.docs c.args.layout c.in_ok-copy.ensures c.requires.size c.requires.align c.insert.ensures.found
