use Rattle.std.proofs.Common.{◌≡◌, List, drop, IfOk, refl, subst}
use Rattle.witx_lex.specs.Tokens.{Lexed}
use Rattle.witx_values.specs.Language.{stack_of}
use Rattle.witx_imports.specs.declared.symbols.ProductionName.{ProductionName}
use Rattle.witx_imports.specs.declared.symbols.ProductionName.TheVariants as p
use Rattle.witx_imports.specs.Actions.{import_act}
use Rattle.witx_imports.specs.Stack.{import_performed, import_value_view}
use Rattle.witx_imports.specs.Values.{ImportVal}
use Rattle.witx_imports.proofs.builder.BuildingActions.perform.Goals as goal

performed_is : (x : ProductionName) (ts : List Lexed) (vs : List ImportVal) → import_performed x vs ≡ import_act x ts vs
performed_is p.NoImports ts vs = refl
performed_is x ts vs = refl

pub returns : goal.returns
returns c ls held =
    subst (λ (vs : List ImportVal). IfOk c.perform.result (λ _. stack_of import_value_view c.perform.new.stack.items ≡ vs))
    (performed_is c.args.production (drop c.args._at ls) (stack_of import_value_view c.args.stack.now.items)) c.perform.ensures
