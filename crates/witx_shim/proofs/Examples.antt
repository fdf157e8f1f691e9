-- The definitions on small functions: the words of an old caller, and the refusals in their order.
use Rattle.std.specs.Prelude.{◌≡◌, ℕ, List, [], ◌∷◌, Some, None, codes, false, refl}
use Rattle.witx_base.specs.Texts.{same_text}
use Rattle.witx_ast.specs.Tree.{Tree, Fields, Arms, Field}
use Rattle.witx_ast.specs.Functions.{FunctionTree}
use Rattle.witx_ast.specs.declared.function.Abi.{Abi}
use Rattle.witx_ast.specs.declared.types.BuiltinType.{BuiltinType}
use Rattle.witx_ast.specs.declared.types.IntRepr.{IntRepr}
use Rattle.witx_ast.specs.declared.types.RecordKind.{RecordKind}
use Rattle.witx_machine.specs.declared.surface.Place.{Place}
use Rattle.witx_compat.specs.Polyfills.{function_mapped}
use Rattle.witx_shim.specs.Refusals.{repeated, not_compatible, other_abi, old_unlowerable, new_unlowerable, refusal_of}
use Rattle.witx_shim.specs.Arrivals.{words_passed}

abbrev field : List ℕ → Tree → Field
field name t = record { called = name; tree = t; comment = [] }

abbrev function : Abi → List Field → List Field → FunctionTree
function abi params results = record { abi = abi; name = codes "f"; params = params; results = results; noreturn = false; comment = [] }

abbrev byte : Tree
byte = Tree.builtin (BuiltinType.U8 false)

abbrev short : Tree
short = Tree.builtin BuiltinType.U16

abbrev text : Tree
text = Tree.list_of (Tree.builtin BuiltinType.Char)

-- a result with a number, or an error
abbrev number : Tree
number = Tree.named (codes "n") (Tree.builtin (BuiltinType.U32 false)) []

abbrev error : Tree
error = Tree.named (codes "e") (Tree.variant_of IntRepr.U8 (Arms.bare (codes "a") [] (Arms.bare (codes "b") [] Arms.no_arms))) []

abbrev answer : Tree
answer = Tree.variant_of IntRepr.U32 (Arms.carries (codes "ok") number [] (Arms.carries (codes "err") error [] Arms.no_arms))

abbrev old_params : List Field
old_params = field (codes "s") text ∷ field (codes "x") byte ∷ []

abbrev new_params : List Field
new_params = field (codes "x") byte ∷ field (codes "s") text ∷ []

abbrev results : List Field
results = field (codes "r") answer ∷ []

-- words in the new order; the return pointer comes last
words_by_name : words_passed (function Abi.Preview1 old_params []) (function Abi.Preview1 new_params []) ≡ Some (2 ∷ 0 ∷ 1 ∷ [])
words_by_name = refl

words_with_pointer : words_passed (function Abi.Preview1 old_params results) (function Abi.Preview1 new_params results) ≡ Some (2 ∷ 0 ∷ 1 ∷ 3 ∷ [])
words_with_pointer = refl

nothing_refused : refusal_of (function_mapped (function Abi.Preview1 new_params results) (function Abi.Preview1 old_params results)) ≡ None
unfolding same_text
nothing_refused = refl

-- a wider parameter
wider_refused : refusal_of (function_mapped (function Abi.Preview1 (field (codes "x") short ∷ field (codes "s") text ∷ []) []) (function Abi.Preview1 old_params [])) ≡ Some not_compatible
wider_refused = refl

-- a repeated name comes first: of the old function, then of the new one
old_repeats : refusal_of (function_mapped (function Abi.Stored (field (codes "y") byte ∷ field (codes "y") byte ∷ []) []) (function Abi.Preview1 (field (codes "x") byte ∷ field (codes "x") byte ∷ []) []))
    ≡ Some (repeated (codes "x"))
old_repeats = refl

new_repeats : refusal_of (function_mapped (function Abi.Stored (field (codes "y") byte ∷ field (codes "y") byte ∷ []) []) (function Abi.Preview1 (field (codes "x") byte ∷ []) []))
    ≡ Some (repeated (codes "y"))
new_repeats = refl

-- the one whose name an earlier one has, not the first that a later one repeats
second_repeats : refusal_of (function_mapped (function Abi.Preview1 [] []) (function Abi.Preview1 (field (codes "a") byte ∷ field (codes "b") byte ∷ field (codes "b") byte ∷ field (codes "a") byte ∷ []) []))
    ≡ Some (repeated (codes "b"))
second_repeats = refl

-- other ways of calling, and parts that can't be lowered
other_ways : refusal_of (function_mapped (function Abi.Stored new_params []) (function Abi.Preview1 old_params [])) ≡ Some other_abi
other_ways = refl

abbrev couple : Tree
couple = Tree.record_of RecordKind.Tuple (Fields.field (codes "0") byte [] Fields.no_fields)

abbrev named_couple : Tree
named_couple = Tree.named (codes "c") couple []

old_lowers_not : refusal_of (function_mapped (function Abi.Preview1 (field (codes "c") couple ∷ []) []) (function Abi.Preview1 (field (codes "c") couple ∷ []) [])) ≡ Some (old_unlowerable (Place.Param 0))
old_lowers_not = refl

new_lowers_not : refusal_of (function_mapped (function Abi.Preview1 (field (codes "c") couple ∷ []) []) (function Abi.Preview1 (field (codes "c") named_couple ∷ []) [])) ≡ Some (new_unlowerable (Place.Param 0))
new_lowers_not = refl
