use Rattle.witx_ast.specs.Items.{item_tree}
use Rattle.witx_check.proofs.ModuleItems.{item-entries-named}
use Rattle.witx_check.proofs.modules.add_item.Goals as goal

pub returns-clause-entries : goal.returns-clause-entries
returns-clause-entries c = item-entries-named c.args.contents.now.entries c.insert.new.self c.in_ok-entry.entry c.in_ok-name.name (item_tree c.args.item) c.in_ok-entry.ensures c.in_ok-name.ensures c.in_ok-insert.ensures.found
