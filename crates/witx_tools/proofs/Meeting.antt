-- What an adapted document, values that lines give, and a mapped module meet of the conditions of further calls.
use Rattle.std.specs.Prelude.{◌≡◌, ◌≤◌, ℕ, List, [], ◌∷◌, ◌++◌, All, Ok, Option, None, length, map, option_map, true}
use Rattle.std.proofs.Common.{subst, arith}
use Rattle.std.specs.Borrow.{Bor}
use Rattle.std.proofs.lemmas.List.Elements.{All-cons}
use Rattle.witx_ast.specs.Closed.{AllNamesStand, ClosedAfter, IsClosed}
use Rattle.witx_ast.specs.Definitions.{DefinitionTree, constant_of, module_of, module_tree, typename_of}
use Rattle.witx_ast.specs.Functions.{func_tree}
use Rattle.witx_ast.specs.Ordered.{DefinitionStands, IsOrdered, OrderedAfter}
use Rattle.witx_ast.specs.Tags.{function_fits}
use Rattle.witx_ast.specs.declared.module.Module.{Module}
use Rattle.witx_machine.specs.Functions.{function_of}
use Rattle.witx_machine.specs.Lowerable.{unlowerable}
use Rattle.witx_instructions.specs.Views.{called, event_of}
use Rattle.witx_adapt.proofs.Fitting.{called-same, functions-fit, lowered-none, none-here, none-later}
use Rattle.witx_adapt.specs.Adaptable.{IsAdaptable, first_unlowered, unlowered}
use Rattle.witx_adapt.specs.Entries.{Entry, IsFaithful, Owned, all_functions, entry_for, entry_of}
use Rattle.witx_adapt.specs.declared.adapted.Adapted.{Adapted}
use Rattle.witx_adapt.specs.declared.adapted.AdaptedFunc.{AdaptedFunc}
use Rattle.witx_bytes.specs.Follow.{TakesAreWritable}
use Rattle.witx_bytes.specs.Seen.{seen}
use Rattle.witx_bytes.specs.declared.value.Value as program
use Rattle.witx_call.specs.Lines.{Gives}
use Rattle.witx_commands.specs.Adapting.{defined}
use Rattle.witx_compat.specs.Polyfills.{module_answer}
use Rattle.witx_compat.specs.Views.{module_view}
use Rattle.witx_compat.specs.declared.modules.ModulePolyfill.{ModulePolyfill}
use Rattle.witx_invoke.specs.Invoking.{CanRun}
use Rattle.witx_invoke.specs.declared.given.GivenValues.{GivenValues}
use Rattle.witx_run.specs.Views.{reply_of}
use Rattle.witx_tools.specs.Callable.{IsCallable, handed_of}
use Rattle.witx_tools.specs.MappedBy.{AreMapped}
use Rattle.witx_tools.proofs.Calling.{can-run, entries-callable, reply-same, values-for}
use Rattle.witx_tools.proofs.Shims.{mapped-module}

-- ---- a closed document is ordered

definition-ordered : (before : List DefinitionTree) (d : DefinitionTree) → AllNamesStand before d → DefinitionStands before d
definition-ordered before (typename_of n t docs) s = s
definition-ordered before (module_of m) s = tt
definition-ordered before (constant_of c) s = tt

ordered-after : (before rest : List DefinitionTree) → ClosedAfter before rest → OrderedAfter before rest
ordered-after before [] s = tt
ordered-after before (d ∷ ds) s = (definition-ordered before d s.0, ordered-after (before ++ d ∷ []) ds s.1)

pub closed-ordered : (ds : List DefinitionTree) → IsClosed ds → IsOrdered ds
closed-ordered ds s = ordered-after [] ds s

-- ---- its entries

abbrev IsLowered : AdaptedFunc → Type 0
IsLowered f = unlowerable (called f.func.value) ≡ None

-- so of an entry
abbrev IsLoweredEntry : Entry → Type 0
IsLoweredEntry e = unlowerable (function_of e.owned.func) ≡ None

as-lowered : (f : AdaptedFunc) → IsLoweredEntry (entry_of f) → IsLowered f
as-lowered f k = subst (λ g. unlowerable g ≡ None) (called-same f.func.value) k

none-lowered : All IsLowered []
none-lowered k d l = absurd (omega (arith, l))

pub entries-lowered : (fs : List AdaptedFunc) (ps : List Owned) → map entry_of fs ≡ map entry_for ps → first_unlowered ps ≡ None → All IsLowered fs
entries-lowered [] ps e u = none-lowered
entries-lowered (f ∷ fs) [] e u = cc
entries-lowered (f ∷ fs) (p ∷ ps) e u =
    let same : entry_for p ≡ entry_of f = cc in
    let rest : map entry_of fs ≡ map entry_for ps = cc in
    All-cons IsLowered f fs (as-lowered f (subst IsLoweredEntry same (lowered-none p (none-here (unlowered p) (first_unlowered ps) u))))
    (entries-lowered fs ps rest (none-later (unlowered p) (first_unlowered ps) u))

pub all-callable : TakesAreWritable → (a : Adapted) → IsClosed (defined a) → map entry_of a.functions ≡ map entry_for (all_functions (defined a)) → All IsFaithful a.functions
    → IsAdaptable (defined a) → All IsCallable a.functions
all-callable law a c e f k = entries-callable law a.functions (all_functions (defined a)) e (functions-fit (defined a) c k.fits) k.lowerable f

pub all-single : (fs : List AdaptedFunc) → All IsCallable fs → All (λ f. length f.func.value.results ≤ 1) fs
all-single fs h k d l = (h k d l).single

pub all-fit : (fs : List AdaptedFunc) → All IsCallable fs → All (λ f. function_fits (func_tree f.func.value) ≡ true) fs
all-fit fs h k d l = (h k d l).fits

-- ---- values

pub given-run : (f : AdaptedFunc) (lines : List ℕ) (g : GivenValues) → IsCallable f
    → Gives (function_of (func_tree f.func.value)) lines (map seen g.args) (option_map seen g.reply)
    → (reply : Option (Bor program.Value)) → option_map (λ v. v.now) reply ≡ g.reply
    → CanRun f.module.value.name (called f.func.value) (map event_of f.caller.events) (map event_of f.callee.events) (map seen g.args) (reply_of seen reply)
given-run f lines g k h reply e =
    can-run f (handed_of g) (reply_of seen reply) (reply-same reply g.reply e) k (values-for f lines (handed_of g) h)

-- ---- a mapped module

pub module-met : (new old : Module) (made : ModulePolyfill) → module_answer (module_tree new) (module_tree old) ≡ Ok (module_view made) → AreMapped made
module-met new old made e = mapped-module (module_tree new) (module_tree old) made e
