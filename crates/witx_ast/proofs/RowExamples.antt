-- The tables of type names, results and misfits, computed row by row.
use Rattle.std.specs.Prelude.{◌≡◌, ℕ, zero, suc, List, [], ◌∷◌, true, false, Some, None, codes}
use Rattle.std.proofs.Common.{refl}
use Rattle.witx_ast.specs.declared.function.Abi.{Abi}
use Rattle.witx_ast.specs.declared.types.BuiltinType.{BuiltinType}
use Rattle.witx_ast.specs.declared.types.IntRepr.{IntRepr}
use Rattle.witx_ast.specs.declared.types.RecordKind.{RecordKind}
use Rattle.witx_ast.specs.Tree.{Tree, Fields, Arms, Field}
use Rattle.witx_base.specs.Texts.{same_text}
use Rattle.witx_ast.specs.TypeNames.{type_text}
use Rattle.witx_ast.specs.Results.{results_reason, more_than_one, invalid_return, only_named}
use Rattle.witx_ast.specs.Definitions.{typename_of}
use Rattle.witx_ast.specs.Misfits.{first_misfit}
use Rattle.witx_ast.specs.ErrorTypes.{each_type_once}

abbrev u8 : Tree
u8 = Tree.builtin (BuiltinType.U8 false)

abbrev letter : Tree
letter = Tree.builtin BuiltinType.Char

abbrev errno : Tree
errno = Tree.named (codes "errno") (Tree.variant_of IntRepr.U16 (Arms.bare (codes "success") [] Arms.no_arms)) []

abbrev size : Tree
size = Tree.named (codes "size") (Tree.builtin (BuiltinType.U32 true)) []

abbrev a_char : Tree
a_char = Tree.named (codes "a_char") letter []

abbrev two : Tree → Tree → Fields
two t u = Fields.field (codes "0") t [] (Fields.field (codes "1") u [] Fields.no_fields)

-- `ok` and `err`, each with a payload
abbrev expected : Tree → Tree → Tree
expected ok err = Tree.variant_of IntRepr.U32 (Arms.carries (codes "ok") ok [] (Arms.carries (codes "err") err [] Arms.no_arms))

-- the same cases in the other order
abbrev turned : Tree
turned = Tree.variant_of IntRepr.U32 (Arms.carries (codes "err") errno [] (Arms.carries (codes "ok") size [] Arms.no_arms))

abbrev empty_result : Tree
empty_result = Tree.variant_of IntRepr.U32 (Arms.bare (codes "ok") [] (Arms.carries (codes "err") errno [] Arms.no_arms))

abbrev bool : Tree
bool = Tree.variant_of IntRepr.U32 (Arms.bare (codes "false") [] (Arms.bare (codes "true") [] Arms.no_arms))

abbrev no_cases : Tree
no_cases = Tree.variant_of IntRepr.U32 Arms.no_arms

abbrev no_members : Tree
no_members = Tree.record_of RecordKind.Tuple Fields.no_fields

name-of-name : type_text size ≡ codes "size"
name-of-name = refl

name-of-string : type_text (Tree.list_of letter) ≡ codes "string"
name-of-string = refl

-- the name of a list's type is looked through
name-of-named-string : type_text (Tree.list_of a_char) ≡ codes "string"
name-of-named-string = refl

name-of-list : type_text (Tree.list_of (Tree.list_of u8)) ≡ codes "List<List<u8>>"
name-of-list = refl

name-of-pointer : type_text (Tree.pointer_to size) ≡ codes "Pointer<size>"
name-of-pointer = refl

name-of-const-pointer : type_text (Tree.const_pointer_to u8) ≡ codes "ConstPointer<u8>"
name-of-const-pointer = refl

name-of-char8 : type_text (Tree.builtin (BuiltinType.U8 true)) ≡ codes "u8"
name-of-char8 = refl

name-of-usize : type_text (Tree.builtin (BuiltinType.U32 true)) ≡ codes "usize"
name-of-usize = refl

name-of-u32 : type_text (Tree.builtin (BuiltinType.U32 false)) ≡ codes "u32"
name-of-u32 = refl

name-of-tuple : type_text (Tree.record_of RecordKind.Tuple (two u8 size)) ≡ codes "(u8, size)"
name-of-tuple = refl

name-of-empty-tuple : type_text no_members ≡ codes "()"
name-of-empty-tuple = refl

name-of-record : type_text (Tree.record_of RecordKind.Other (two u8 size)) ≡ codes "Record"
name-of-record = refl

name-of-flags : type_text (Tree.record_of (RecordKind.Bitflags IntRepr.U8) (two bool bool)) ≡ codes "Record"
unfolding same_text
name-of-flags = refl

name-of-handle : type_text Tree.handle ≡ codes "Handle"
name-of-handle = refl

name-of-result : type_text (expected size errno) ≡ codes "Result<size, errno>"
unfolding same_text
name-of-result = refl

name-of-empty-result : type_text empty_result ≡ codes "Result<(), errno>"
unfolding same_text
name-of-empty-result = refl

name-of-turned : type_text turned ≡ codes "Variant"
unfolding same_text
name-of-turned = refl

name-of-bool : type_text bool ≡ codes "bool"
unfolding same_text
name-of-bool = refl

name-of-no-cases : type_text no_cases ≡ codes "Variant"
unfolding same_text
name-of-no-cases = refl

abbrev result : Tree → List Field
result t = record { called = codes "r"; tree = t; comment = [] } ∷ []

no-result : results_reason Abi.Preview1 [] ≡ None
unfolding same_text
no-result = refl

two-results : results_reason Abi.Preview1 (record { called = codes "a"; tree = u8; comment = [] } ∷ result u8) ≡ Some more_than_one
unfolding same_text
two-results = refl

builtin-result : results_reason Abi.Preview1 (result u8) ≡ None
unfolding same_text
builtin-result = refl

handle-result : results_reason Abi.Preview1 (result (Tree.named (codes "fd") Tree.handle [])) ≡ None
unfolding same_text
handle-result = refl

pointer-result : results_reason Abi.Preview1 (result (Tree.pointer_to u8)) ≡ None
unfolding same_text
pointer-result = refl

flags-result : results_reason Abi.Preview1 (result (Tree.record_of (RecordKind.Bitflags IntRepr.U64) (two bool bool))) ≡ None
unfolding same_text
flags-result = refl

record-result : results_reason Abi.Preview1 (result (Tree.record_of RecordKind.Other (two u8 size))) ≡ Some invalid_return
unfolding same_text
record-result = refl

tuple-result : results_reason Abi.Preview1 (result no_members) ≡ Some invalid_return
unfolding same_text
tuple-result = refl

list-result : results_reason Abi.Preview1 (result (Tree.list_of letter)) ≡ Some invalid_return
unfolding same_text
list-result = refl

turned-result : results_reason Abi.Preview1 (result turned) ≡ Some invalid_return
unfolding same_text
turned-result = refl

no-cases-result : results_reason Abi.Preview1 (result no_cases) ≡ Some invalid_return
unfolding same_text
no-cases-result = refl

named-result : results_reason Abi.Preview1 (result (expected size errno)) ≡ None
unfolding same_text
named-result = refl

unnamed-ok : results_reason Abi.Preview1 (result (expected u8 errno)) ≡ Some only_named
unfolding same_text
unnamed-ok = refl

unnamed-error : results_reason Abi.Preview1 (result (expected size u8)) ≡ Some only_named
unfolding same_text
unnamed-error = refl

-- a tuple of names needs no name of its own, and one without members has none that lacks a name
named-tuple : results_reason Abi.Preview1 (result (expected (Tree.record_of RecordKind.Tuple (two size size)) errno)) ≡ None
unfolding same_text
named-tuple = refl

unnamed-member : results_reason Abi.Preview1 (result (expected (Tree.record_of RecordKind.Tuple (two size u8)) errno)) ≡ Some only_named
unfolding same_text
unnamed-member = refl

empty-tuple : results_reason Abi.Preview1 (result (expected no_members errno)) ≡ None
unfolding same_text
empty-tuple = refl

-- also a named tuple's members must be named
named-tuple-of-unnamed : results_reason Abi.Preview1 (result (expected (Tree.named (codes "t") (Tree.record_of RecordKind.Tuple (two size u8)) []) errno)) ≡ Some only_named
unfolding same_text
named-tuple-of-unnamed = refl

-- stored whole, a result is a name of whatever type
stored-none : results_reason Abi.Stored [] ≡ None
stored-none = refl

stored-name : results_reason Abi.Stored (result (Tree.named (codes "s") (Tree.list_of letter) [])) ≡ None
stored-name = refl

stored-unnamed : results_reason Abi.Stored (result (Tree.list_of letter)) ≡ Some only_named
stored-unnamed = refl

stored-two : results_reason Abi.Stored (record { called = codes "a"; tree = size; comment = [] } ∷ result size) ≡ Some more_than_one
stored-two = refl

abbrev flags_of : ℕ → Fields
flags_of zero = Fields.no_fields
flags_of (suc n) = Fields.field (codes "f") bool [] (flags_of n)

abbrev nine_flags : Tree
nine_flags = Tree.record_of (RecordKind.Bitflags IntRepr.U8) (flags_of 9)

-- the target of a pointer is entered, a name isn't
first-narrow : first_misfit (typename_of (codes "a") u8 [] ∷ typename_of (codes "b") (Tree.pointer_to nine_flags) [] ∷ []) ≡ Some (record { definition = 1; excess = record { count = 9; most = 8 } })
first-narrow = refl

name-not-entered : first_misfit (typename_of (codes "b") (Tree.pointer_to (Tree.named (codes "n") nine_flags [])) [] ∷ []) ≡ None
name-not-entered = refl

each-error-once : each_type_once (errno ∷ size ∷ errno ∷ []) ≡ errno ∷ size ∷ []
each-error-once = refl
