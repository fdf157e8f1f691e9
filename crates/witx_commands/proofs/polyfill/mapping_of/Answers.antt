use Rattle.witx_commands.proofs.Mapping.{mapping-begins, mapping-more}
use Rattle.witx_commands.proofs.polyfill.mapping_of.Goals as goal

pub loop-rest-init : goal.loop-rest-init
loop-rest-init c = mapping-begins c.args.names.now c.new-mapping.result c.new-mapping.ensures

pub loop-rest-preserved : goal.loop-rest-preserved
loop-rest-preserved c =
    mapping-more c.loop-rest.rest.now _ _ c.loop-rest.mapping _ _ c.in-len2-up.len_at_least c.new-item.is c.old-item.is c.in_ok-put_pair.ensures c.loop-rest.invariant
