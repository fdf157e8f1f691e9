-- Computed examples of what `verify` tells: the line of each verdict, the lines of functions with traces of their own making, and
-- what is told of a line that can't stand. And of what `invoke` tells: the text of a call, and its reports.
use Rattle.std.specs.Prelude.{◌≡◌, refl, ℕ, ◌-◌, List, [], ◌∷◌, false, codes, pos, Some, None, slice_index_or}
use Rattle.std.specs.Fmt.{digits}
use Rattle.std.specs.Str.{chars}
use native.Mathlib.Decide.{ℕ_discrete}
use Rattle.witx_base.specs.Texts.{same_text}
use Rattle.witx_ast.specs.Functions.{FunctionTree}
use Rattle.witx_ast.specs.Definitions.{ModuleTree}
use Rattle.witx_ast.specs.Tree.{Field, Tree}
use Rattle.witx_ast.specs.declared.function.Abi.{Abi}
use Rattle.witx_ast.specs.declared.types.BuiltinType.{BuiltinType}
use Rattle.witx_ast.specs.Values.{Value}
use Rattle.witx_machine.specs.Events.{Step, emit}
use Rattle.witx_machine.specs.Functions.{function_of}
use Rattle.witx_machine.specs.Traces.{callee_events, caller_events}
use Rattle.witx_machine.specs.Words.{i32}
use Rattle.witx_machine.specs.declared.surface.Place.{Place}
use Rattle.witx_machine.specs.declared.surface.WasmType.{WasmType}
use Rattle.witx_adapt.specs.Entries.{Owned}
use Rattle.witx_bytes.specs.Bytes.{Bytes}
use Rattle.witx_call.specs.CallSeen.{CallSeen}
use Rattle.witx_traces.specs.Traces.{Sides}
use Rattle.witx_symbols.specs.declared.surface.Doubt.{Doubt}
use Rattle.witx_symbols.specs.declared.surface.Verdict.{Verdict}
use Rattle.witx_tools.specs.Calls.{absent_report, line_report}
use Rattle.witx_tools.specs.InvokeTexts.{call_text}
use Rattle.witx_tools.specs.VerdictTexts.{unfit_report, verdict_line, verdicts_text}

-- ---- the line of each verdict

said_yes : verdict_line (codes "add") Verdict.Yes ≡ codes "func \"add\" yes\n"
unfolding chars lib.Utf8.encode
said_yes = refl

said_quoted : verdict_line (codes "q\"") (Verdict.No (Doubt.Function (Place.Param 3))) ≡ codes "func \"q\\\"\" no function\n"
unfolding chars lib.Utf8.encode
said_quoted = refl

said_sides : (verdict_line (codes "f") (Verdict.No (Doubt.Caller 12)) ≡ codes "func \"f\" no caller 12\n")
    × (verdict_line (codes "add") (Verdict.No (Doubt.Callee 3)) ≡ codes "func \"add\" no callee 3\n")
unfolding chars digits lib.Utf8.encode
said_sides = (refl, refl)

said_plain : (verdict_line (codes "f") (Verdict.No Doubt.Passes) ≡ codes "func \"f\" no passes\n")
    × (verdict_line (codes "f") (Verdict.No Doubt.Returns) ≡ codes "func \"f\" no returns\n")
    × (verdict_line (codes "f") (Verdict.No Doubt.Notes) ≡ codes "func \"f\" no notes\n")
    × (verdict_line (codes "f") (Verdict.No Doubt.Reply) ≡ codes "func \"f\" no reply\n")
unfolding chars lib.Utf8.encode
said_plain = (refl, refl, refl, refl)

said_unfit : unfit_report 4 ≡ codes "listing: unexpected line 4"
unfolding digits
said_unfit = refl

-- ---- functions with traces

abbrev number_type : Tree
number_type = Tree.builtin (BuiltinType.U32 false)

abbrev field : List ℕ → Tree → Field
field name t = record { called = name; tree = t; comment = [] }

-- two functions of a module: one of two numbers, and one without words
abbrev takes_two : FunctionTree
takes_two = record { abi = Abi.Preview1; name = codes "f"; params = field (codes "x") number_type ∷ field (codes "y") number_type ∷ []; results = []; noreturn = false; comment = [] }

abbrev takes_none : FunctionTree
takes_none = record { abi = Abi.Preview1; name = codes "g"; params = []; results = []; noreturn = false; comment = [] }

abbrev m : ModuleTree
m = record { name = codes "m"; comment = []; items = [] }

abbrev of_m : FunctionTree → Owned
of_m f = record { owner = m; func = f }

-- the traces that a function is adapted with
abbrev own : FunctionTree → Sides
own f = record { caller = caller_events m.name (function_of f); callee = callee_events m.name (function_of f) }

abbrev without_call : Sides
without_call = record { caller = caller_events m.name (function_of takes_none); callee = emit (Step.Return 0) ∷ [] }

-- a line for each function, in order
two_lines : verdicts_text (of_m takes_two ∷ of_m takes_none ∷ []) (own takes_two ∷ without_call ∷ []) ≡ codes "func \"f\" yes\nfunc \"g\" no callee 0\n"
unfolding verdicts_text digits chars lib.Utf8.encode ℕ_discrete same_text
two_lines = refl

-- another module's name than that of the call
abbrev of_other : FunctionTree → Owned
of_other f = record { owner = record { name = codes "k"; comment = []; items = [] }; func = f }

other_module : verdicts_text (of_other takes_none ∷ []) (own takes_none ∷ []) ≡ codes "func \"g\" no caller 0\n"
unfolding verdicts_text digits chars lib.Utf8.encode ℕ_discrete same_text
other_module = refl

-- ---- calls

abbrev number : ℕ → Value
number n = Value.number (BuiltinType.U32 false) (pos n)

-- 171 and 7 at 16 and 17, and nothing else
abbrev two_bytes : Bytes
two_bytes at = slice_index_or (Some 171 ∷ Some 7 ∷ []) (at - 16) None

abbrev made_call : CallSeen
made_call = record {
  pass = i32 1000 ∷ record { type = WasmType.I64; bits = 5 } ∷ [];
  notes = Value.list_at 1000 5 ∷ number 12 ∷ [];
  back = i32 0 ∷ [];
  returned = Some (Value.case_with 0 (number 7));
  taken = (16, 2) ∷ [];
  bytes = two_bytes;
}

told_call : call_text made_call ≡ codes "pass i32:1000 i64:5\nnote @1000+5\nnote 12\nback i32:0\nreturn (#0 7)\nbytes 16 ab 07\n"
unfolding call_text digits chars lib.Utf8.encode
told_call = refl

-- nothing passes, and nothing comes back
empty_call : call_text (record { pass = []; notes = []; back = []; returned = None; taken = []; bytes = two_bytes }) ≡ codes "pass\nback\n"
unfolding call_text chars lib.Utf8.encode
empty_call = refl

told_absent : absent_report (record { owner = codes "m"; function = codes "f" }) ≡ codes "no function `f` in module `m`"
unfolding chars lib.Utf8.encode
told_absent = refl

told_line : line_report 4 ≡ codes "values: unexpected line 4"
unfolding digits
told_line = refl
