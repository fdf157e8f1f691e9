use Rattle.std.proofs.lemmas.Result.{err_from_is_err_and}
use Rattle.witx_comments.specs.Comments.{comments_view}
use Rattle.witx_syntax_tree.specs.Views.{name_view}
use Rattle.witx_scope.specs.DeclarationForms.{items_in}
use Rattle.witx_check.proofs.Within.{introduced-finished}
use Rattle.witx_check.proofs.Validating.{module-refused, module-late, module-made}
use Rattle.witx_check.proofs.validate.validate_module.Goals as goal

pub returns-in-Err : goal.returns-in-Err
returns-in-Err c =
    let e = c.in-Err.ensures in
    module-refused _ _ _ c.args.tables.now.entries _ _ _ c.args.definitions.now (name_view c.args.decl.now.name) (comments_view c.args.site.comments.now) (items_in c.args.decl.now.decls) c.in-Err.error e.fault e.refused e.left

pub returns-in_err-keep_module-in-Ok : goal.returns-in_err-keep_module-in-Ok
returns-in_err-keep_module-in-Ok c =
    let p = err_from_is_err_and c.from_residual.result c.from_residual.ensures.1 in
    let e = c.in-Ok.ensures in
    let k = c.in_err-keep_module-in-Ok.ensures in
    rw (p.1, p.2) (module-late _ _ _ _ _ _ _ _ (name_view c.args.decl.now.name) (comments_view c.args.site.comments.now) (items_in c.args.decl.now.decls) e.ok e.kept k.unchanged k.entries_unchanged)

pub returns-in_ok-keep_module-in-Ok : goal.returns-in_ok-keep_module-in-Ok
returns-in_ok-keep_module-in-Ok c =
    let e = c.in-Ok.ensures in
    let k = c.in_ok-keep_module-in-Ok.ensures in
    module-made _ _ _ _ _ _ _ _ (name_view c.args.decl.now.name) (comments_view c.args.site.comments.now) (items_in c.args.decl.now.decls) c.in-Ok.made e.ok e.tree e.name e.kept k.appended k.senses k.trees

pub invariant_of-tables-in-Ok : goal.invariant_of-tables-in-Ok
invariant_of-tables-in-Ok c =
    let e = c.in-Ok.ensures in
    let k = c.in_ok-keep_module-in-Ok.ensures in
    record { introduced = introduced-finished c.checked_module.new.names c.checked_module.new.unfinished c.finish.new.self c.args.tables.now.entries c.keep_module.new.entries c.args.decl.now.name.name.now c.in-Ok.made.name _ e.name e.introduced_after e.current c.finish.ensures.current c.finish.ensures.refused k.trees }
