-- The symbolic machine: the machine's operations on symbols, in one world.
-- A world says which case the reply is, where that is known, and what it carries.
use Rattle.std.specs.Prelude.{ℕ, zero, suc, List, [], ◌∷◌, ◌++◌, length, Bool, true, false, ◌&&◌, cond, Option, Some, None, option_map, slice_get, nat_eq, nat_le}
use Rattle.witx_ast.specs.declared.function.Abi.{Abi}
use Rattle.witx_ast.specs.Tree.{Tree, Arms, arm_list}
use Rattle.witx_ast.specs.Plain.{Plain, plain}
use Rattle.witx_ast.specs.Alike.{same_plain}
use Rattle.witx_machine.specs.declared.surface.WasmType.{WasmType}
use Rattle.witx_machine.specs.Words.{same_type, Scalar, pointer, const_pointer, word_type, type_for, is_for, when}
use Rattle.witx_machine.specs.Functions.{Function, by_address, name_of, ok_of, err_of, result_cases}
use Rattle.witx_machine.specs.Machine.{Domain}
use Rattle.witx_symbols.specs.Symbols.{payload, reply, Symbol, SymbolWord, atom, tuple, made, bare_made, word_of_symbol, list_address, list_length, given, zero_word, one_word, symbols_listed, symbols_of, same_symbol, same_option, symbol_from, is_of}

-- a type has the conversion: it is the builtin, a pointer, or alike to the named type, which is of the kind
abbrev pub has_kind : Scalar → Plain → Bool
has_kind pointer (Plain.pointer_to t) = true
has_kind pointer _ = false
has_kind const_pointer (Plain.const_pointer_to t) = true
has_kind const_pointer _ = false
has_kind x t = is_for x (type_for x) && same_plain t (type_for x)

abbrev pub converts : Scalar → Symbol → Bool
converts x (atom s t) = has_kind x t
converts x _ = false

-- a symbol's word is lifted by a conversion that the symbol's type has, and gives the symbol back
abbrev pub lower_symbol : Scalar → Symbol → Option SymbolWord
lower_symbol x v = when (converts x v) (Some (word_of_symbol v (word_type x)))

abbrev pub lift_word : Scalar → SymbolWord → Option Symbol
lift_word x (word_of_symbol v w) = when (same_type w (word_type x) && converts x v) (Some v)
lift_word x _ = None

abbrev pub symbol_list_words : Symbol → Option (SymbolWord × SymbolWord)
symbol_list_words (atom s (Plain.list_of t)) = Some (list_address (atom s (Plain.list_of t)), list_length (atom s (Plain.list_of t)))
symbol_list_words _ = None

abbrev pub list_of_words : SymbolWord → SymbolWord → Option Symbol
list_of_words (list_address v) (list_length u) = when (same_symbol v u) (Some v)
list_of_words _ _ = None

abbrev pub symbol_parts : ℕ → Symbol → Option (List Symbol)
symbol_parts n (tuple vs) = when (nat_eq n (length (symbols_listed vs))) (Some (symbols_listed vs))
symbol_parts n _ = None

-- an address that was given: the named type for which it was made, and a symbol or none
abbrev pub SymbolCell : Type 0
SymbolCell = Tree × Option Symbol

-- what stands at the addresses given so far, in order, and how many are left to give
pub record SymbolMemory : Type 0 where
  pub made : List SymbolCell
  pub left : ℕ

abbrev pub give_symbol : Tree → Option Symbol → List SymbolCell → ℕ → Option (SymbolWord × SymbolMemory)
give_symbol t v cells zero = None
give_symbol t v cells (suc n) = Some (given (length cells), record { made = cells ++ (t, v) ∷ []; left = n })

abbrev pub symbol_at : Tree → Option SymbolCell → Option Symbol
symbol_at t None = None
symbol_at t (Some c) = when (same_plain (plain c.0) (plain t)) c.1

abbrev pub replaced : {A : Type 0} → ℕ → A → List A → List A
replaced k a [] = []
replaced zero a (x ∷ xs) = a ∷ xs
replaced (suc k) a (x ∷ xs) = x ∷ replaced k a xs

abbrev pub get_symbol : Tree → SymbolWord → SymbolMemory → Option Symbol
get_symbol t (given k) m = symbol_at t (slice_get m.made k)
get_symbol t _ m = None

abbrev pub put_in : Tree → Symbol → ℕ → SymbolMemory → Option SymbolCell → Option SymbolMemory
put_in t v k m None = None
put_in t v k m (Some c) = when (same_plain (plain c.0) (plain t) && is_of (plain t) v) (Some (record { made = replaced k (c.0, Some v) m.made; left = m.left }))

abbrev pub set_symbol : Tree → SymbolWord → Symbol → SymbolMemory → Option SymbolMemory
set_symbol t (given k) v m = put_in t v k m (slice_get m.made k)
set_symbol t _ v m = None

-- A WORLD: the ABI; the reply; which case it is, true for the second, if it is known to be one of the first two; and its payload
pub record SymbolWorld : Type 0 where
  pub abi : Abi
  pub whole : Option Symbol
  pub error : Option Bool
  pub load : Option Symbol

abbrev pub payload_is : Option Tree → Option Symbol → Option (Option (Symbol × Option Tree))
payload_is None None = Some None
payload_is (Some t) (Some p) = when (is_of (plain t) p) (Some (Some (p, name_of t)))
payload_is None (Some p) = None
payload_is (Some t) None = None

-- only the reply has a case, and only where the world knows it
abbrev pub picks_in : Option Bool → SymbolWorld → Option Tree → Option Tree → Symbol → Option (Bool × Option (Symbol × Option Tree))
picks_in None w ok err v = None
picks_in (Some e) w ok err v = when (same_option w.whole (Some v)) (option_map (λ p. (e, p)) (payload_is (cond e err ok) w.load))

-- under Preview1 alone does an error come back as its payload's word
abbrev pub payload_tells : Abi → Bool
payload_tells Abi.Preview1 = true
payload_tells Abi.Stored = false

-- where the reply is the first case the word 0 stands for it; where it is the second the word 1, an address, or the payload's word
abbrev pub chooses_in : Option Bool → SymbolWorld → SymbolWord → Option Bool
chooses_in (Some false) w zero_word = Some false
chooses_in (Some true) w one_word = Some true
chooses_in (Some true) w (given k) = Some true
chooses_in (Some true) w (word_of_symbol v t) = when (payload_tells w.abi && (same_type t WasmType.I32 && same_option w.load (Some v))) (Some true)
chooses_in _ w _ = None

abbrev pub made_of : ℕ → Option Symbol → Symbol
made_of i (Some p) = made i p
made_of i None = bare_made i

-- it is the reply where the case is the world's, and the payload the reply's
abbrev pub same_case : Bool → Bool → Bool
same_case true true = true
same_case false false = true
same_case _ _ = false

abbrev pub result_in : SymbolWorld → Bool → Option Symbol → Option Symbol → Option Bool → Symbol
result_in w e p (Some r) (Some known) = cond (same_case e known && same_option w.load p) r (made_of (cond e 1 0) p)
result_in w e p _ _ = made_of (cond e 1 0) p

abbrev pub word_has_type : WasmType → SymbolWord → Bool
word_has_type t (word_of_symbol v w) = same_type w t
word_has_type t _ = same_type WasmType.I32 t

-- THE SYMBOLIC MACHINE is the machine with these operations
abbrev pub symbols : SymbolWorld → Domain Symbol SymbolWord SymbolMemory
symbols w = record {
  lower = lower_symbol;
  lift = lift_word;
  list_words = symbol_list_words;
  list_value = list_of_words;
  tuple = λ vs. tuple (symbols_of vs);
  parts = symbol_parts;
  give = λ t m. give_symbol t None m.made m.left;
  put = λ t v m. when (by_address (plain t)) (give_symbol t (Some v) m.made m.left);
  get = get_symbol;
  set = set_symbol;
  picks = λ ok err v. picks_in w.error w ok err v;
  case_word = λ e. cond e one_word zero_word;
  chooses = λ x. chooses_in w.error w x;
  result = λ e p. result_in w e p w.whole w.error;
  has_type = word_has_type;
}

-- THE WORLDS of a function whose result has a payload: the reply is its first case; its second, if there is one;
-- or a later one, if there is one, of which nothing more is known. Every other function has one world
abbrev pub reply_from : List Tree → Option Symbol
reply_from [] = None
reply_from (t ∷ ts) = Some (symbol_from (plain t) reply)

abbrev pub payload_from : Option Tree → Option Symbol
payload_from t = option_map (λ t. symbol_from (plain t) payload) t

abbrev pub unknown_world : Abi → Option Symbol → SymbolWorld
unknown_world abi whole = record { abi = abi; whole = whole; error = None; load = None }

abbrev pub known_world : Abi → Option Symbol → Arms → Bool → SymbolWorld
known_world abi whole cs e = record { abi = abi; whole = whole; error = Some e; load = payload_from (cond e (err_of cs) (ok_of cs)) }

abbrev pub world_if : Bool → SymbolWorld → List SymbolWorld
world_if true w = w ∷ []
world_if false w = []

abbrev pub worlds_by : Abi → Option Symbol → Option Arms → List SymbolWorld
worlds_by abi whole None = unknown_world abi whole ∷ []
worlds_by abi whole (Some cs) =
    known_world abi whole cs false
    ∷ (world_if (nat_le 2 (length (arm_list cs))) (known_world abi whole cs true) ++ world_if (nat_le 3 (length (arm_list cs))) (unknown_world abi whole))

abbrev pub worlds_of : Abi → List Tree → List SymbolWorld
worlds_of abi [] = worlds_by abi None None
worlds_of abi (t ∷ ts) = worlds_by abi (reply_from (t ∷ ts)) (result_cases t)

abbrev pub worlds : Function → List SymbolWorld
worlds f = worlds_of f.abi f.results
