-- The machine over cells: an address holds one value, whatever its size.
-- A cell is made for a named type, and a load or a store has a rule only under a type alike to it.
use Rattle.std.specs.Prelude.{ℕ, zero, suc, List, [], ◌∷◌, ◌++◌, length, Bool, true, false, ◌&&◌, cond, Option, Some, None, option_map, nat_eq}
use Rattle.witx_ast.specs.Tree.{Tree}
use Rattle.witx_ast.specs.Plain.{plain}
use Rattle.witx_ast.specs.Alike.{same_plain}
use Rattle.witx_ast.specs.Values.{Value, Values}
use Rattle.witx_ast.specs.ValueTests.{is_value}
use Rattle.witx_machine.specs.declared.surface.WasmType.{WasmType}
use Rattle.witx_machine.specs.Words.{Word, i32, same_type, word_of, value_of, when, is_u32}
use Rattle.witx_machine.specs.Events.{Event}
use Rattle.witx_machine.specs.Functions.{Function, name_of, by_address}
use Rattle.witx_machine.specs.Machine.{Domain, Tried, went, no_rule, stuck_at}
use Rattle.witx_machine.specs.Run.{Outcome, Receiver, itself, run_to}

abbrev pub list_of_values : Values → List Value
list_of_values Values.no_values = []
list_of_values (Values.value_then v vs) = v ∷ list_of_values vs

abbrev pub values_of : List Value → Values
values_of [] = Values.no_values
values_of (v ∷ vs) = Values.value_then v (values_of vs)

-- a cell has the named type for which it was made, and a value or none
pub record Cell : Type 0 where
  pub made_for : Tree
  pub content : Option Value

-- a finite map as its entries, the newest first
abbrev pub Cells : Type 0
Cells = List (ℕ × Cell)

abbrev pub get : Cells → ℕ → Option Cell
get [] a = None
get (e ∷ cells) a = cond (nat_eq a e.0) (Some e.1) (get cells a)

abbrev pub insert : Cells → ℕ → Cell → Cells
insert cells a c = (a, c) ∷ cells

abbrev pub Taken : Type 0
Taken = List (ℕ × Tree)

-- cells, the addresses still to give, and those given, with their types
pub record Memory : Type 0 where
  pub cells : Cells
  pub fresh : List ℕ
  pub taken : Taken

abbrev pub is_i32 : Word → Bool
is_i32 w = same_type w.type WasmType.I32

-- the next address, with a cell made for t
abbrev pub cell_given : Tree → Option Value → Cells → List ℕ → Taken → Option (Word × Memory)
cell_given t v cells [] taken = None
cell_given t v cells (a ∷ more) taken =
    Some (i32 a, record { cells = insert cells a (record { made_for = t; content = v }); fresh = more; taken = taken ++ (a, t) ∷ [] })

-- what is in a cell that was made for a type alike to t
abbrev pub loaded : Tree → Option Cell → Option Value
loaded t None = None
loaded t (Some c) = when (same_plain (plain c.made_for) (plain t)) c.content

abbrev pub stored : Tree → Value → Option Cell → Option Cell
stored t v None = None
stored t v (Some c) = when (same_plain (plain c.made_for) (plain t) && is_value (plain t) v) (Some (record c { content = Some v }))

abbrev pub list_words : Value → Option (Word × Word)
list_words (Value.list_at a l) = when (is_u32 a && is_u32 l) (Some (i32 a, i32 l))
list_words _ = None

abbrev pub list_at : ℕ → ℕ → Option Value
list_at a l = when (is_u32 a && is_u32 l) (Some (Value.list_at a l))

abbrev pub tuple_parts : ℕ → Value → Option (List Value)
tuple_parts n (Value.tuple_values vs) = when (nat_eq n (length (list_of_values vs))) (Some (list_of_values vs))
tuple_parts n _ = None

-- the payload, as the type of its case has it: absent where that case has no type
abbrev pub payload_of : Option Tree → Option Value → Option (Option (Value × Option Tree))
payload_of None None = Some None
payload_of (Some t) (Some p) = when (is_value (plain t) p) (Some (Some (p, name_of t)))
payload_of None (Some p) = None
payload_of (Some t) None = None

abbrev pub picked : Bool → Option Tree → Option Value → Option (Bool × Option (Value × Option Tree))
picked e t p = option_map (λ x. (e, x)) (payload_of t p)

abbrev pub case_picked : Option Tree → Option Tree → Value → Option (Bool × Option (Value × Option Tree))
case_picked ok err (Value.case_with zero p) = picked false ok (Some p)
case_picked ok err (Value.case_with (suc zero) p) = picked true err (Some p)
case_picked ok err (Value.bare_case zero) = picked false ok None
case_picked ok err (Value.bare_case (suc zero)) = picked true err None
case_picked ok err _ = None

abbrev pub result_value : Bool → Option Value → Value
result_value e (Some p) = Value.case_with (cond e 1 0) p
result_value e None = Value.bare_case (cond e 1 0)

abbrev pub cells : Domain Value Word Memory
cells = record {
  lower = word_of;
  lift = value_of;
  list_words = list_words;
  list_value = λ a l. when (is_i32 a && is_i32 l) (list_at a.bits l.bits);
  tuple = λ vs. Value.tuple_values (values_of vs);
  parts = tuple_parts;
  give = λ t m. cell_given t None m.cells m.fresh m.taken;
  put = λ t v m. when (by_address (plain t)) (cell_given t (Some v) m.cells m.fresh m.taken);
  get = λ t w m. when (is_i32 w) (loaded t (get m.cells w.bits));
  set = λ t w v m. when (is_i32 w)
      (option_map (λ c. record { cells = insert m.cells w.bits c; fresh = m.fresh; taken = m.taken }) (stored t v (get m.cells w.bits)));
  picks = case_picked;
  case_word = λ e. i32 (cond e 1 0);
  chooses = λ w. when (is_i32 w) (Some (cond (nat_eq w.bits 0) false true));
  result = result_value;
  has_type = λ t w. same_type w.type t;
}

abbrev pub outcome : {P A : Type 0} → Tried P A → Option A
outcome (went x) = Some x
outcome no_rule = None
outcome (stuck_at p) = None

abbrev pub run_cells_to : List ℕ → Function → Receiver → (caller callee : List Event) → List Value → Option Value → Cells → List ℕ
    → Option (Outcome Value Word Memory)
run_cells_to m f to caller callee arguments reply memory addresses =
    outcome (run_to {P = Unit {0}} (λ e. e) (λ e. tt) cells m f to tt tt caller callee arguments reply
    (record { cells = memory; fresh = addresses; taken = [] }))

abbrev pub run_cells : List ℕ → Function → (caller callee : List Event) → List Value → Option Value → Cells → List ℕ → Option (Outcome Value Word Memory)
run_cells m f = run_cells_to m f (itself m f)
