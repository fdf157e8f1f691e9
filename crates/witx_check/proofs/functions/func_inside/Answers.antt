use Rattle.std.specs.Prelude.{◌≡◌, None, map}
use Rattle.std.proofs.Common.{sym, ap, ◌∙◌}
use Rattle.std.proofs.lemmas.Result.{err_from_is_err_and}
use Rattle.witx_scope.specs.Senses.{here_of}
use Rattle.witx_scope.specs.Functions.{abi_of}
use Rattle.witx_scope.specs.Trees.{fields_meant}
use Rattle.witx_syntax_tree.specs.Views.{fields_view}
use Rattle.witx_ast.specs.declared.function.Abi.{Abi}
use Rattle.witx_ast.specs.Functions.{param_field}
use Rattle.witx_ast.specs.Results.{results_reason}
use Rattle.witx_check.proofs.Funcs.{inside-results, inside-ok}
use Rattle.witx_check.proofs.functions.func_inside.Goals as goal

pub returns-in_err-results-clause-fault : goal.returns-in_err-results-clause-fault
returns-in_err-results-clause-fault c =
    let p = err_from_is_err_and c.from_residual-in_err-results.result c.from_residual-in_err-results.ensures.1 in
    rw (p.1, p.2) (inside-results c.in_err-results.field-0.0 (here_of c.args.scope.now) (abi_of c.args.func.now.stored) c.func_params.new.own (fields_view c.args.func.now.params) (fields_view c.args.func.now.results) ((here_of c.args.scope.now).place c.args.func.now.export_loc.start) c.in_ok-params.ensures.ok c.in_ok-params.ensures.kept c.in_err-results.ensures.fault)

pub returns-in-Ok-clause-ok : goal.returns-in-Ok-clause-ok
returns-in-Ok-clause-ok c =
    let permitted : results_reason (abi_of c.args.func.now.stored) (fields_meant (here_of c.args.scope.now) (fields_view c.args.func.now.results)) ≡ None =
    ap (results_reason (abi_of c.args.func.now.stored)) (sym c.in_ok-results.ensures.tree)
    ∙ (ap (λ (a : Abi). results_reason a (map param_field c.in_ok-results.results)) (sym c.abi_of.ensures) ∙ c.in-Ok.ensures) in
    inside-ok (here_of c.args.scope.now) (abi_of c.args.func.now.stored) c.func_params.new.own (fields_view c.args.func.now.params) (fields_view c.args.func.now.results) ((here_of c.args.scope.now).place c.args.func.now.export_loc.start) c.in_ok-params.ensures.ok c.in_ok-params.ensures.kept c.in_ok-results.ensures.ok permitted
