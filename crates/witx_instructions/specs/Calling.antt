-- The step that calls a function as the interface has it.
use Rattle.std.specs.Prelude.{ℕ, List}
use Rattle.witx_ast.specs.declared.function.InterfaceFunc.{InterfaceFunc}
use Rattle.witx_machine.specs.Events.{Step}
use Rattle.witx_instructions.specs.Views.{param_types}

-- the call of a function that the interface has in the module of this name
abbrev pub call_of_interface : List ℕ → InterfaceFunc → Step
call_of_interface module_name f = Step.CallInterface module_name f.name (param_types f.params) (param_types f.results)
