use Rattle.witx_scope.proofs.ConstantKeys.{key-repeated}
use Rattle.witx_scope.proofs.constants.new_constant.Goals as goal

pub returns-in-Some-clause-fault : goal.returns-in-Some-clause-fault
returns-in-Some-clause-fault c =
    key-repeated c.known.result c.args.places.now.entries (record { ty = c.in_ok-new.field-0; name = c.in_ok-new-2.field-0 })
    c.args.decl.now.item.ty.name.now c.args.decl.now.item.name.name.now _ _ c.in_ok-new.ensures c.in_ok-new-2.ensures c.in-Some.ensures.value c.known.ensures
