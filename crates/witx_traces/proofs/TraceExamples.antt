-- Computed examples of the traces that a text gives: which type a text stands for, which event a line says, a listing with
-- other events, and first lines that can't stand.
use Rattle.std.proofs.Common.{◌≡◌, ℕ, List, [], ◌∷◌, ◌++◌, true, false, refl, sym, ap, ◌∙◌, subst, Some, None, append_assoc, append-nil, arith, lit<}
use Rattle.std.specs.Prelude.{codes, drop}
use Rattle.std.specs.List.{AllByRecursion}
use Rattle.std.specs.Fmt.{digits}
use Rattle.std.specs.Str.{chars}
use Rattle.witx_base.specs.Texts.{same_text}
use Rattle.witx_ast.specs.Tree.{Tree, Arms}
use Rattle.witx_ast.specs.declared.types.BuiltinType.{BuiltinType}
use Rattle.witx_ast.specs.declared.types.IntRepr.{IntRepr}
use Rattle.witx_ast.specs.declared.function.Abi.{Abi}
use Rattle.witx_ast.specs.Functions.{FunctionTree}
use Rattle.witx_ast.specs.Definitions.{typename_of, module_of}
use Rattle.witx_ast.specs.Items.{func_of}
use Rattle.witx_machine.specs.Events.{Step, Event, emit, space, push, finish}
use Rattle.witx_machine.specs.Functions.{Function}
use Rattle.witx_adapt.specs.Lines.{event_text, event_line, event_lines}
use Rattle.witx_traces.specs.Traces.{held_types, known_of, shown, shown_payload, Types, Says, Sides, Listed, GivesTraces, IsUnfit, listing_with, IsSayable, ended}
use Rattle.witx_traces.specs.LineParts.{parts, line_word, tail_of, word_spelling, word_spelled, the_line_words}
use Rattle.witx_traces.proofs.LineWords.{word-unbroken, spells}
use Rattle.witx_traces.proofs.OneEvent.{first-of, said-parts, tails-same}
use Rattle.witx_traces.proofs.UnfitLines.{line-cut}

-- ---- which type a text stands for

-- a byte, a list of them, a name for that list, an error, and a result of the list and the error
abbrev byte : Tree
byte = Tree.builtin (BuiltinType.U8 false)

abbrev letter : Tree
letter = Tree.builtin (BuiltinType.U8 true)

abbrev bytes : Tree
bytes = Tree.list_of byte

abbrev buffer : Tree
buffer = Tree.named (codes "buffer") bytes []

abbrev problem : Tree
problem = Tree.named (codes "problem") (Tree.variant_of IntRepr.U16 (Arms.bare (codes "bad") [] Arms.no_arms)) []

abbrev outcome : Tree → Tree → Tree
outcome ok err = Tree.variant_of IntRepr.U32 (Arms.carries (codes "ok") ok [] (Arms.carries (codes "err") err [] Arms.no_arms))

abbrev takes : List Tree → List Tree → Function
takes params results = record { abi = Abi.Preview1; name = codes "f"; params = params; results = results }

-- names are looked through once for what a list or a pointer is of, and not for the list in it
looked_through : held_types (takes (buffer ∷ Tree.pointer_to bytes ∷ byte ∷ []) (outcome buffer problem ∷ [])) ≡ byte ∷ bytes ∷ buffer ∷ problem ∷ []
looked_through = refl

-- an err type that is a pointer has its target behind those of the parameters
err_target : held_types (takes [] (outcome buffer (Tree.named (codes "p") (Tree.pointer_to letter) []) ∷ [])) ≡ letter ∷ buffer ∷ Tree.named (codes "p") (Tree.pointer_to letter) [] ∷ []
err_target = refl

-- of two types with one text the first one: `u8` is the pointer's target, and not that of the list behind it
abbrev two_bytes : Types
two_bytes = known_of [] (takes (Tree.pointer_to letter ∷ bytes ∷ []) [])

first_of_two : shown two_bytes (codes "u8") ≡ Some letter
unfolding same_text
first_of_two = refl

-- a typename comes before all others
abbrev named_so : Types
named_so = known_of (typename_of (codes "u8") buffer [] ∷ []) (takes (bytes ∷ []) [])

typename_first : shown named_so (codes "u8") ≡ Some (Tree.named (codes "u8") buffer [])
typename_first = refl

-- where a result is lowered its ok type comes before its err type, and both before the typenames
abbrev alike_payloads : Types
alike_payloads = known_of (typename_of (codes "e") byte [] ∷ []) (takes [] (outcome (Tree.named (codes "e") bytes []) (Tree.named (codes "e") letter []) ∷ []))

ok_first : shown_payload alike_payloads (codes "e") ≡ Some (Tree.named (codes "e") bytes [])
unfolding same_text
ok_first = refl

elsewhere : shown alike_payloads (codes "e") ≡ Some (Tree.named (codes "e") byte [])
elsewhere = refl

unknown : shown two_bytes (codes "u9") ≡ None
unfolding same_text
unknown = refl

-- ---- which event a line says

says_number : Says two_bytes (codes "get_arg 10") (emit (Step.GetArg 10))
unfolding digits
says_number = (refl, lit< tt)

says_room : Says named_so (codes "space 0 u8") (space 0 (Tree.named (codes "u8") buffer []))
unfolding digits
says_room = (refl, (lit< tt, refl))

says_list : Says two_bytes (codes "list_from_pointer_length u8") (emit (Step.ListFromPointerLength letter))
unfolding same_text
says_list = (refl, refl)

-- not of the second type with this text
not_the_second : Says two_bytes (codes "list_from_pointer_length u8") (emit (Step.ListFromPointerLength byte)) → ⊥
unfolding same_text
not_the_second s = let wrong : Some letter ≡ Some byte = s.1 in absurd (cc)

-- ---- a listing with other events

abbrev function_tree : FunctionTree
function_tree = record { abi = Abi.Preview1; name = codes "f"; params = []; results = []; noreturn = false; comment = [] }

abbrev one_function : Listed
one_function = record {
  definitions = module_of (record { name = codes "m"; comment = []; items = func_of function_tree ∷ [] }) ∷ [];
  functions = record { function = takes [] []; lowered = record { params = []; results = []; caller = push ∷ []; callee = [] } } ∷ [];
  layouts = [];
}

-- the events of the lowered function have no part in it
gives : GivesTraces one_function (codes "module m\nfunc \"f\" () -> ()\ncaller\n  return 0\ncallee\n  push_block\n  finish_block none\n") (record { caller = emit (Step.Return 0) ∷ []; callee = push ∷ finish false ∷ [] } ∷ [])
unfolding digits chars lib.Utf8.encode
gives = (refl, ((((lit< tt, refl), tt), ((tt, refl), ((tt, refl), tt))), tt))

-- ---- first lines that can't stand

abbrev nothing : Listed
nothing = record { definitions = []; functions = []; layouts = [] }

nothing_gives : GivesTraces nothing [] []
nothing_gives = (refl, tt)

-- more than no lines is too much: the first line can't stand
too_many : (sides : List Sides) → listing_with nothing sides ≡ []
too_many sides = refl

some-line : (line more : List ℕ) → (line ++ (10 ∷ [])) ++ more ≡ [] → ⊥
some-line [] more e = absurd (cc)
some-line (b ∷ line) more e = absurd (cc)

first-unfit : (b : ℕ) (rest : List ℕ) → IsUnfit nothing (b ∷ rest) 1
first-unfit b rest = record {
  before = [];
  rest = b ∷ rest;
  lines = tt;
  whole = refl;
  counted = refl;
  begins = ([], [], (refl, tt));
  stops = λ line more one e begins. some-line line begins.0 begins.2.0;
  missing = λ none sides gives. absurd (cc);
}

a_line_is_unfit : IsUnfit nothing (codes "x\n") 1
a_line_is_unfit = first-unfit 120 (10 ∷ [])

-- a text without its last line feed is refused at that line
unended : IsUnfit nothing (codes "x") 1
unended = first-unfit 120 []

-- lines are missing: the number is that of the line behind the last
abbrev only_module : Listed
only_module = record { definitions = module_of (record { name = codes "m"; comment = []; items = [] }) ∷ []; functions = []; layouts = [] }

missing_line : IsUnfit only_module [] 1
missing_line = record {
  before = [];
  rest = [];
  lines = tt;
  whole = refl;
  counted = refl;
  begins = (codes "module m\n", [], (refl, tt));
  stops = λ line more one e begins. some-line line more (sym e);
  missing = λ none sides gives. let wrong : [] ≡ codes "module m\n" = gives.0 in absurd (cc);
}

-- an unknown step is refused at its line, the fourth

no_word : word_spelled the_line_words (codes "jump") ≡ None
unfolding same_text
no_word = refl

jump_says_nothing : (types : Types) (e : Event) → Says types (codes "jump") e → ⊥
jump_says_nothing types e s =
    let p = said-parts types (codes "jump") e s in
    let halves = tails-same (word_spelling (line_word (parts e))) (codes "jump") (tail_of (parts e)) None (word-unbroken (line_word (parts e))) refl p.0 in
    let wrong : Some (line_word (parts e)) ≡ None = sym (spells (line_word (parts e))) ∙ (ap (word_spelled the_line_words) halves.0 ∙ no_word) in
    absurd (cc)

-- no side begins with that line
no_jump : (types : Types) (es : List Event) (more behind : List ℕ) → AllByRecursion (IsSayable types) es → codes "  jump\n" ++ more ≡ event_lines es ++ (codes "callee\n" ++ behind) → ⊥
no_jump types [] more behind f e = let wrong : 32 ≡ 99 = first-of 32 99 _ _ e in omega (arith, wrong)
no_jump types (d ∷ es) more behind f e =
    let flat : ended (codes "jump") ++ more ≡ ended (event_text d) ++ (event_lines es ++ (codes "callee\n" ++ behind))
    = ap (drop 2) (e ∙ append_assoc (event_line d) (event_lines es) (codes "callee\n" ++ behind)) in
    let same = line-cut (codes "jump") (event_text d) more (event_lines es ++ (codes "callee\n" ++ behind)) refl f.0.1 flat in
    jump_says_nothing types d (sym same.0, f.0.0)

no_front : (more : List ℕ) (sides : List Sides) → GivesTraces one_function (codes "module m\nfunc \"f\" () -> ()\ncaller\n  jump\n" ++ more) sides → ⊥
unfolding chars lib.Utf8.encode
no_front more [] gives = absurd gives.1
no_front more (s ∷ t ∷ ss) gives = absurd gives.1.1
no_front more (s ∷ []) gives =
    let sides : codes "  jump\n" ++ more ≡ ((event_lines s.caller ++ (codes "callee\n" ++ event_lines s.callee)) ++ []) ++ [] = ap (drop 34) gives.0 in
    no_jump (known_of one_function.definitions (takes [] [])) s.caller more (event_lines s.callee) gives.1.0.0 (sides ∙ (append-nil _ ∙ append-nil _))

jump_is_unfit : IsUnfit one_function (codes "module m\nfunc \"f\" () -> ()\ncaller\n  jump\n  return 0\ncallee\n") 4
unfolding chars lib.Utf8.encode
jump_is_unfit = record {
  before = codes "module m" ∷ codes "func \"f\" () -> ()" ∷ codes "caller" ∷ [];
  rest = codes "  jump\n  return 0\ncallee\n";
  lines = (refl, (refl, (refl, tt)));
  whole = refl;
  counted = refl;
  begins = (codes "callee\n", record { caller = []; callee = [] } ∷ [], (refl, ((tt, tt), tt)));
  stops = λ line more one e begins. no_front begins.0 begins.1 (subst
      (λ x. GivesTraces one_function ((codes "module m\nfunc \"f\" () -> ()\ncaller\n" ++ ended x) ++ begins.0) begins.1)
      (sym (line-cut (codes "  jump") line (codes "  return 0\ncallee\n") more refl one e).0) begins.2);
  missing = λ none sides gives. absurd (cc);
}
