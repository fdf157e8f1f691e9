use Rattle.witx_layout.proofs.FlatLayouts.{flat-behind, one-layout}
use Rattle.witx_layout.proofs.table.layout_behind.Goals as goal

pub unreachable-requires : goal.unreachable-requires
unreachable-requires c =
    c.in_default.not-Some _ (flat-behind c.args.named.now c.deref.result.now _ c.flat_layout.result c.deref.ensures c.type_.ensures c.requires c.flat_layout.ensures)

pub returns : goal.returns
returns c =
    one-layout c.flat_layout.result _ _ c.in-Some.is
    (flat-behind c.args.named.now c.deref.result.now _ c.flat_layout.result c.deref.ensures c.type_.ensures c.requires c.flat_layout.ensures)
