-- The equations of what a value of the program is.
use Rattle.std.specs.Prelude.{◌≡◌, ℕ, ℤ, List, Bool, map, Some, None}
use Rattle.std.proofs.Common.{rules}
use Rattle.std.specs.declared.alloc.Global.{Global}
use Rattle.std.specs.declared.boxed.Box.{Box}
use Rattle.witx_ast.specs.declared.types.BuiltinType.{BuiltinType}
use Rattle.witx_ast.specs.Values as plain
use Rattle.witx_machine.specs.Cells.{values_of}
use Rattle.witx_bytes.specs.Seen.{seen}
use Rattle.witx_bytes.specs.declared.value.Value.{Value, the_lemmas}
use Rattle.witx_bytes.specs.declared.value.Value.TheVariants as value

pub seen-Num : (b : BuiltinType) (n : ℤ) → seen (value.Num b n) ≡ plain.number b n
unfolding seen
seen-Num b n = search (rules, the_lemmas)

pub seen-Handle : (n : ℕ) → seen (value.Handle n) ≡ plain.handle_number n
unfolding seen
seen-Handle n = search (rules, the_lemmas)

pub seen-Pointer : (n : ℕ) → seen (value.Pointer n) ≡ plain.address n
unfolding seen
seen-Pointer n = search (rules, the_lemmas)

pub seen-ConstPointer : (n : ℕ) → seen (value.ConstPointer n) ≡ plain.const_address n
unfolding seen
seen-ConstPointer n = search (rules, the_lemmas)

pub seen-List : (a l : ℕ) → seen (value.List a l) ≡ plain.list_at a l
unfolding seen
seen-List a l = search (rules, the_lemmas)

pub seen-Flags : (bits : List Bool) → seen (value.Flags bits) ≡ plain.flag_bits bits
unfolding seen
seen-Flags bits = search (rules, the_lemmas)

pub seen-Tuple : (vs : List Value) → seen (value.Tuple vs) ≡ plain.tuple_values (values_of (map seen vs))
unfolding seen
seen-Tuple vs = search (rules, the_lemmas)

pub seen-Rec : (vs : List Value) → seen (value.Rec vs) ≡ plain.record_values (values_of (map seen vs))
unfolding seen
seen-Rec vs = search (rules, the_lemmas)

pub seen-Enum : (i : ℕ) → seen (value.Enum i) ≡ plain.enum_index i
unfolding seen
seen-Enum i = search (rules, the_lemmas)

pub seen-Bare : (i : ℕ) → seen (value.Case i None) ≡ plain.bare_case i
unfolding seen
seen-Bare i = search (rules, the_lemmas)

pub seen-With : (i : ℕ) (v : Box Value Global) → seen (value.Case i (Some v)) ≡ plain.case_with i (seen v.value)
unfolding seen
seen-With i v = search (rules, the_lemmas)

pub ruleset seen_rules = (seen-Num, seen-Handle, seen-Pointer, seen-ConstPointer, seen-List, seen-Flags, seen-Tuple, seen-Rec, seen-Enum, seen-Bare, seen-With)
