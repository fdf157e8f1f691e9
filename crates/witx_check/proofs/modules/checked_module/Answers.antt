use Rattle.std.proofs.lemmas.Result.{err_from_is_err_and}
use Rattle.witx_syntax_tree.specs.Views.{name_view}
use Rattle.witx_scope.specs.DeclarationForms.{items_in}
use Rattle.witx_check.proofs.Within.{module-bad}
use Rattle.witx_check.proofs.modules.checked_module.Goals as goal

pub returns-in_err-name-clause-fault : goal.returns-in_err-name-clause-fault
returns-in_err-name-clause-fault c =
    let p = err_from_is_err_and c.from_residual.result c.from_residual.ensures.1 in
    rw (p.1, p.2) (module-bad c.in_err-name.field-0.0 c.args.names.now c.args.entries.now c.args.site.text.now c.args.site.path.now (name_view c.args.decl.now.name) (items_in c.args.decl.now.decls) c.args.site.place c.requires.place c.in_err-name.ensures.fault)
