-- The message of a fault, byte for byte, and the place at which it is told.
use Rattle.std.specs.Prelude.{ℕ, List, ◌++◌, codes}
use Rattle.std.specs.Fmt.{decimal}
use Rattle.witx_files.specs.declared.location.Location.{Location}
use Rattle.witx_ast.specs.declared.types.BuiltinType.{BuiltinType}
use Rattle.witx_ast.specs.declared.types.BuiltinType.TheVariants as kind
use Rattle.witx_scope.specs.Faults.{Fault}
use Rattle.witx_scope.specs.Faults as fault

-- the name of a builtin's kind
abbrev pub repr_word : BuiltinType → List ℕ
repr_word kind.Char = codes "Char"
repr_word (kind.U8 c) = codes "U8"
repr_word kind.U16 = codes "U16"
repr_word (kind.U32 p) = codes "U32"
repr_word kind.U64 = codes "U64"
repr_word kind.S8 = codes "S8"
repr_word kind.S16 = codes "S16"
repr_word kind.S32 = codes "S32"
repr_word kind.S64 = codes "S64"
repr_word kind.F32 = codes "F32"
repr_word kind.F64 = codes "F64"

-- words, and a name behind them
abbrev pub quoted : List ℕ → List ℕ → List ℕ
quoted words n = words ++ (codes " `" ++ (n ++ codes "`"))

abbrev pub message : Fault → List ℕ
message (fault.unknown_name n at) = quoted (codes "Unknown name") n
message (fault.recursive n at) = quoted (codes "Recursive definition of name") n
message (fault.name_already_exists n at earlier) = quoted (codes "Redefinition of name") n
message (fault.wrong_kind_name n expected got at) = codes "Wrong kind of name `" ++ (n ++ (codes "`: expected " ++ (expected ++ (codes ", got " ++ got))))
message (fault.invalid_repr r at) = quoted (codes "Invalid representation") (repr_word r)
message (fault.abi reason at) = codes "ABI error: " ++ reason
message (fault.invalid_union_tag reason at) = codes "Invalid union tag: " ++ reason
message (fault.anonymous_record at) = codes "Anonymous structured types (struct, union, enum, flags, handle) are not permitted"
message (fault.union_size_mismatch expected found at) = codes "Union expected " ++ (decimal expected ++ (codes " variants, found " ++ decimal found))
message (fault.invalid_union_field n reason at) = codes "Invalid union field `" ++ (n ++ (codes "`: " ++ reason))
message (fault.constant_too_large n value largest at) =
    codes "Constant `" ++ (n ++ (codes "` is " ++ (decimal value ++ (codes ", at most " ++ decimal largest))))

abbrev pub fault_location : Fault → Location
fault_location (fault.unknown_name n at) = at
fault_location (fault.recursive n at) = at
fault_location (fault.name_already_exists n at earlier) = at
fault_location (fault.wrong_kind_name n expected got at) = at
fault_location (fault.invalid_repr r at) = at
fault_location (fault.abi reason at) = at
fault_location (fault.invalid_union_tag reason at) = at
fault_location (fault.anonymous_record at) = at
fault_location (fault.union_size_mismatch expected found at) = at
fault_location (fault.invalid_union_field n reason at) = at
fault_location (fault.constant_too_large n value largest at) = at
