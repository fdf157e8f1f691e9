use Rattle.std.proofs.Common.{◌≡◌}
use Rattle.witx_ast.specs.Copies.{HoldSameItem}
use Rattle.witx_ast.specs.SameLaws.{same-from}
use Rattle.witx_ast.specs.Views.{tree_of, member_field, case_arm}
use Rattle.witx_ast.specs.Functions.{param_field}
use Rattle.witx_ast.specs.contracts.types.RecordMemberPartialEq.TheImpl as members
use Rattle.witx_ast.specs.contracts.types.CasePartialEq.TheImpl as cases
use Rattle.witx_ast.specs.contracts.function.InterfaceFuncParamPartialEq.TheImpl as params
use Rattle.witx_ast.specs.contracts.types.TypeRefPartialEq.TheImpl as trefs
use Rattle.witx_ast.specs.contracts.module.ModuleDefinitionPartialEq.TheImpl as items
use Rattle.witx_ast.proofs.HeldCopies.{list-equal, item-equal, item-entries-equal}
use Rattle.witx_ast.proofs.PartCopies.{member-copied, case-copied, param-copied}
use Rattle.witx_ast.proofs.copy_laws.copied_parts_are_equal.Goals as goal

pub returns-clause-members : goal.returns-clause-members
returns-clause-members c original copy h = list-equal members.ghosts.eq (λ m n. member_field n ≡ member_field m) member-copied original copy h

pub returns-clause-cases : goal.returns-clause-cases
returns-clause-cases c original copy h = list-equal cases.ghosts.eq (λ a b. case_arm b ≡ case_arm a) case-copied original copy h

pub returns-clause-params : goal.returns-clause-params
returns-clause-params c original copy h = list-equal params.ghosts.eq (λ p q. param_field q ≡ param_field p) param-copied original copy h

pub returns-clause-types : goal.returns-clause-types
returns-clause-types c original copy h =
    list-equal trefs.ghosts.eq (λ t u. tree_of u ≡ tree_of t) (λ t u e. same-from (tree_of u) (tree_of t) e) original copy h

pub returns-clause-items : goal.returns-clause-items
returns-clause-items c original copy h = list-equal items.ghosts.eq HoldSameItem item-equal original copy h

pub returns-clause-entries : goal.returns-clause-entries
returns-clause-entries c original copy h = item-entries-equal original copy h
