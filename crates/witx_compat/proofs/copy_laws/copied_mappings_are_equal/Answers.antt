use Rattle.std.proofs.Common.{◌≡◌}
use Rattle.witx_ast.proofs.HeldCopies.{list-equal}
use Rattle.witx_compat.specs.Views.{conversion_view, mapped_view, unknown_view, function_view}
use Rattle.witx_compat.specs.contracts.conversion.TypePolyfillPartialEq.TheImpl as conversions
use Rattle.witx_compat.specs.contracts.conversion.ParamPolyfillPartialEq.TheImpl as params
use Rattle.witx_compat.specs.contracts.conversion.ParamUnknownPartialEq.TheImpl as unknowns
use Rattle.witx_compat.specs.contracts.functions.FuncPolyfillPartialEq.TheImpl as functions
use Rattle.witx_compat.proofs.PolyfillCopies.{conversion-copied, mapped-copied, unknown-copied, functions-copied, modules-copied}
use Rattle.witx_compat.proofs.copy_laws.copied_mappings_are_equal.Goals as goal

pub returns-clause-conversions : goal.returns-clause-conversions
returns-clause-conversions c original copy h =
    list-equal conversions.ghosts.eq (λ p q. conversion_view q ≡ conversion_view p) conversion-copied original copy h

pub returns-clause-params : goal.returns-clause-params
returns-clause-params c original copy h = list-equal params.ghosts.eq (λ p q. mapped_view q ≡ mapped_view p) mapped-copied original copy h

pub returns-clause-unknown_params : goal.returns-clause-unknown_params
returns-clause-unknown_params c original copy h =
    list-equal unknowns.ghosts.eq (λ p q. unknown_view q ≡ unknown_view p) unknown-copied original copy h

pub returns-clause-functions : goal.returns-clause-functions
returns-clause-functions c original copy h =
    list-equal functions.ghosts.eq (λ p q. function_view q ≡ function_view p) functions-copied original copy h

pub returns-clause-modules : goal.returns-clause-modules
returns-clause-modules c original copy h = modules-copied original copy h
