-- What an adapted document has for each function of each module, in document order: its signature, and the events of its
-- caller and its callee.
use Rattle.std.specs.Prelude.{◌≡◌, List, [], ◌∷◌, ◌++◌, map, Result, OnOk}
use Rattle.std.specs.List.{flat_map}
use Rattle.witx_ast.specs.Functions.{FunctionTree, func_tree}
use Rattle.witx_ast.specs.Items.{ItemTree, import_of, func_of}
use Rattle.witx_ast.specs.Definitions.{DefinitionTree, typename_of, module_of, constant_of, ModuleTree, module_tree}
use Rattle.witx_machine.specs.declared.surface.WasmType.{WasmType}
use Rattle.witx_machine.specs.Events.{Event}
use Rattle.witx_machine.specs.Functions.{function_of}
use Rattle.witx_machine.specs.Signature.{signature_params, signature_results}
use Rattle.witx_machine.specs.Traces.{caller_events, callee_events}
use Rattle.witx_machine.specs.Faithful.{Faithful}
use Rattle.witx_instructions.specs.Views.{event_of, called}
use Rattle.witx_adapt.specs.declared.adapted.AdaptedFunc.{AdaptedFunc}

-- a function's signature and the events of its caller and its callee
pub record Lowered : Type 0 where
  pub params : List WasmType
  pub results : List WasmType
  pub caller : List Event
  pub callee : List Event

-- a function of a module
pub record Owned : Type 0 where
  pub owner : ModuleTree
  pub func : FunctionTree

pub record Entry : Type 0 where
  pub owned : Owned
  pub lowered : Lowered

-- what an entry of the program says
abbrev pub lowered : AdaptedFunc → Lowered
lowered f = record { params = f.params; results = f.results; caller = map event_of f.caller.events; callee = map event_of f.callee.events }

abbrev pub entry_of : AdaptedFunc → Entry
entry_of f = record { owned = record { owner = module_tree f.module.value; func = func_tree f.func.value }; lowered = lowered f }

-- the entry that a function of a module has
abbrev pub entry_for : Owned → Entry
entry_for p = record {
  owned = p;
  lowered = record {
    params = signature_params (function_of p.func);
    results = signature_results (function_of p.func);
    caller = caller_events p.owner.name (function_of p.func);
    callee = callee_events p.owner.name (function_of p.func);
  };
}

-- the functions of a module, and of definitions, in order
abbrev pub owned_item : ModuleTree → ItemTree → List Owned
owned_item m (import_of i) = []
owned_item m (func_of f) = record { owner = m; func = f } ∷ []

abbrev pub module_functions : ModuleTree → List Owned
module_functions m = flat_map (owned_item m) m.items

abbrev pub owned_functions : DefinitionTree → List Owned
owned_functions (typename_of name t docs) = []
owned_functions (module_of m) = module_functions m
owned_functions (constant_of c) = []

abbrev pub all_functions : List DefinitionTree → List Owned
all_functions = flat_map owned_functions

-- what is done puts the entries of these functions behind the earlier ones
abbrev pub AdaptsMore : {R E : Type 0} → Result R E → (before now : List AdaptedFunc) → List Owned → Type 0
AdaptsMore r before now fs = OnOk r (map entry_of now ≡ map entry_of before ++ map entry_for fs)

-- the two traces of an entry are faithful to its function
abbrev pub IsFaithful : AdaptedFunc → Type 0
IsFaithful f = Faithful f.module.value.name (called f.func.value) (map event_of f.caller.events) (map event_of f.callee.events)
