use Rattle.witx_check.proofs.validation_scope.DocValidationScope.validate_decl.Goals as goal

pub returns-clause-validates : goal.returns-clause-validates
returns-clause-validates c = rw (← c.args.self.now.same_text, ← c.with_shared-path.ensures) c.validate_decl.ensures.validates
