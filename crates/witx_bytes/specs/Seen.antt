-- The value that a value of the program is.
use Rattle.std.specs.Prelude.{List, map, Some, None}
use Rattle.std.specs.declared.alloc.Global.{Global}
use Rattle.std.specs.declared.boxed.Box.{Box}
use Rattle.witx_ast.specs.Values as plain
use Rattle.witx_machine.specs.Cells.{values_of}
use Rattle.witx_bytes.specs.declared.value.Value.{Value, fold-Value}
use Rattle.witx_bytes.specs.declared.value.Value.TheOpen.{Value-F}

-- one level, with each part already seen
abbrev pub value_step : Value-F plain.Value → plain.Value
value_step (Value-F.Num b n) = plain.number b n
value_step (Value-F.Handle n) = plain.handle_number n
value_step (Value-F.Pointer n) = plain.address n
value_step (Value-F.ConstPointer n) = plain.const_address n
value_step (Value-F.List a l) = plain.list_at a l
value_step (Value-F.Flags bits) = plain.flag_bits bits
value_step (Value-F.Tuple vs) = plain.tuple_values (values_of vs)
value_step (Value-F.Rec vs) = plain.record_values (values_of vs)
value_step (Value-F.Enum i) = plain.enum_index i
value_step (Value-F.Case i None) = plain.bare_case i
value_step (Value-F.Case i (Some v)) = plain.case_with i v.value

unfoldable pub seen : Value → plain.Value
seen = fold-Value plain.Value value_step

abbrev pub seen_in : Box Value Global → plain.Value
seen_in b = seen b.value

abbrev pub values_seen : List Value → plain.Values
values_seen vs = values_of (map seen vs)
