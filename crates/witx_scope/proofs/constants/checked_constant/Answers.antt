use Rattle.std.proofs.Common.{refl}
use Rattle.std.proofs.lemmas.Result.{err_from_is_err_and}
use Rattle.witx_scope.specs.Sites.{kept_in}
use Rattle.witx_scope.proofs.ConstantChecks.{type-wrong, name-wrong, value-wrong, all-pass}
use Rattle.witx_scope.proofs.constants.checked_constant.Goals as goal

pub returns-in_err-largest-clause-fault : goal.returns-in_err-largest-clause-fault
returns-in_err-largest-clause-fault c =
    let p = err_from_is_err_and c.from_residual.result c.from_residual.ensures.1 in
    rw (p.1, p.2) (type-wrong _ (kept_in c.args.tables.now) c.args.site.now c.args.decl.now.item (record { names = refl; entries = refl; text = refl; path = refl }) c.in_err-largest.field-0.0 c.in_err-largest.ensures.fault)

pub returns-in_err-constant-clause-fault : goal.returns-in_err-constant-clause-fault
returns-in_err-constant-clause-fault c =
    let p = err_from_is_err_and c.from_residual-in_err-constant.result c.from_residual-in_err-constant.ensures.1 in
    rw (p.1, p.2) (name-wrong _ (kept_in c.args.tables.now) c.args.site.now c.args.decl.now.item (record { names = refl; entries = refl; text = refl; path = refl }) c.in_err-constant.field-0.0 c.args.site.now.place c.in_ok-largest.ensures.ok c.requires c.in_err-constant.ensures.fault)

pub returns-in_err-checked_value-clause-fault : goal.returns-in_err-checked_value-clause-fault
returns-in_err-checked_value-clause-fault c =
    let p = err_from_is_err_and c.from_residual-in_err-checked_value.result c.from_residual-in_err-checked_value.ensures.1 in
    rw (p.1, p.2) (value-wrong _ (kept_in c.args.tables.now) c.args.site.now c.args.decl.now.item (record { names = refl; entries = refl; text = refl; path = refl }) c.in_err-checked_value.field-0.0 c.args.site.now.place c.in_ok-largest.largest c.in_ok-largest.ensures.ok c.requires c.in_ok-constant.ensures.ok c.in_ok-largest.ensures.greatest c.in_err-checked_value.ensures.fault)

pub returns-clause-ok : goal.returns-clause-ok
returns-clause-ok c = all-pass _ (kept_in c.args.tables.now) c.args.site.now c.args.decl.now.item (record { names = refl; entries = refl; text = refl; path = refl }) c.args.site.now.place c.in_ok-largest.largest c.in_ok-largest.ensures.ok c.requires c.in_ok-constant.ensures.ok c.in_ok-largest.ensures.greatest c.in_ok-checked_value.ensures.ok
