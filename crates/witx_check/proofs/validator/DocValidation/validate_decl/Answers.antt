use Rattle.std.proofs.Common.{ap}
use Rattle.witx_scope.specs.DeclarationForms.{decl_form_of}
use Rattle.witx_check.proofs.Validating.{of-form}
use Rattle.witx_check.proofs.validator.DocValidation.validate_decl.Goals as goal

pub returns-in_ok-place-in-Typename-clause-validates : goal.returns-in_ok-place-in-Typename-clause-validates
returns-in_ok-place-in-Typename-clause-validates c = of-form (ap decl_form_of c.in-Typename.is) c.validate_typename.ensures

pub returns-in_ok-place-in-Module-clause-validates : goal.returns-in_ok-place-in-Module-clause-validates
returns-in_ok-place-in-Module-clause-validates c = of-form (ap decl_form_of c.in-Module.is) c.validate_module.ensures

pub returns-in_ok-place-in-Const-clause-validates : goal.returns-in_ok-place-in-Const-clause-validates
returns-in_ok-place-in-Const-clause-validates c = of-form (ap decl_form_of c.in-Const.is) c.validate_constant.ensures
