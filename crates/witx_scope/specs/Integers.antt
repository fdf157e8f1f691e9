-- The integer types with their greatest numbers, and the checks of a constant: its type, its name and its value.
use Rattle.std.specs.Prelude.{ℕ, List, [], ◌∷◌, ◌++◌, Option, Some, None, option_map, is_some, nat_le, codes, if◌then◌else◌}
use Rattle.witx_files.specs.declared.location.Location.{Location}
use Rattle.witx_syntax_tree.specs.Trees.{Name}
use Rattle.witx_ast.specs.declared.types.BuiltinType.{BuiltinType}
use Rattle.witx_ast.specs.declared.types.BuiltinType.TheVariants as kind
use Rattle.witx_ast.specs.Tree.{Tree, behind}
use Rattle.witx_ast.specs.Words.{kind_word}
use Rattle.witx_scope.specs.Faults.{Check, wrong_kind_name, name_already_exists, constant_too_large}
use Rattle.witx_scope.specs.Names.{Sense, use_check, sense_tree}

-- the greatest number of a builtin that is an integer; `char8` is a `u8`, and `usize` a `u32`
abbrev pub greatest_number : BuiltinType → Option ℕ
greatest_number (kind.U8 is_char8) = Some 255
greatest_number kind.U16 = Some 65535
greatest_number (kind.U32 is_usize) = Some 4294967295
greatest_number kind.U64 = Some 18446744073709551615
greatest_number kind.S8 = Some 127
greatest_number kind.S16 = Some 32767
greatest_number kind.S32 = Some 2147483647
greatest_number kind.S64 = Some 9223372036854775807
greatest_number kind.Char = None
greatest_number kind.F32 = None
greatest_number kind.F64 = None

abbrev pub greatest_in : Tree → Option ℕ
greatest_in (Tree.builtin b) = greatest_number b
greatest_in _ = None

-- the type that the name n stands for is an integer
abbrev pub integer_check : List ℕ → Location → Tree → Check
integer_check n at t = if is_some (greatest_in t) then None else Some (wrong_kind_name n (codes "integer") (kind_word t) at)

-- the value of the constant n is at most the greatest number of its type
abbrev pub value_check : List ℕ → ℕ → Location → Option ℕ → Check
value_check n value at None = None
value_check n value at (Some largest) = if nat_le value largest then None else Some (constant_too_large n value largest at)

-- the type of a constant: a name that denotes a type, and this type, names looked through, is an integer
abbrev pub constant_type_checks : List ℕ → Location → Sense → List Check
constant_type_checks n at sense = use_check n at sense ∷ integer_check n at (behind (sense_tree sense)) ∷ []

-- all checks of a constant, where its type's name denotes this, and where a constant of this type name has the name already
abbrev pub constant_checks : Sense → Option Location → (ℕ → Location) → Name → Name → ℕ → List Check
constant_checks sense earlier place ty n value =
    constant_type_checks ty.name (place ty.start) sense
    ++ (option_map (λ l. name_already_exists n.name (place n.start) l) earlier
    ∷ value_check n.name value (place n.start) (greatest_in (behind (sense_tree sense)))
    ∷ [])
