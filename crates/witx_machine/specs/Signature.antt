-- The signature of a function: the types of the words that go in, and of those that come back.
-- Under Preview1 a result comes back as one word; what the first case of a variant carries is stored at
-- return pointers, which are further words in: one for each member of a tuple, else one.
-- Under Stored no word comes back: the whole result is stored at one return pointer.
use Rattle.std.specs.Prelude.{ℕ, List, [], ◌∷◌, ◌++◌, map, take, Option, Some, None, position, is_none, option_map}
use Rattle.witx_ast.specs.declared.function.Abi.{Abi}
use Rattle.witx_ast.specs.declared.types.RecordKind.{RecordKind}
use Rattle.witx_ast.specs.Tree.{Tree, Arms}
use Rattle.witx_ast.specs.Plain.{Plain, plain}
use Rattle.witx_machine.specs.declared.surface.WasmType.{WasmType}
use Rattle.witx_machine.specs.declared.surface.Place.{Place}
use Rattle.witx_machine.specs.Words.{builtin_word_type, repr_word_type}
use Rattle.witx_machine.specs.Functions.{Function, tuple_types, ok_of, result_cases}

-- the words of a parameter
abbrev pub param_words : Plain → List WasmType
param_words (Plain.builtin b) = builtin_word_type b ∷ []
param_words (Plain.list_of t) = WasmType.I32 ∷ WasmType.I32 ∷ []
param_words (Plain.record_of (RecordKind.Bitflags r) ms) = repr_word_type r ∷ []
param_words _ = WasmType.I32 ∷ []

abbrev pub words_of_params : List Tree → List WasmType
words_of_params [] = []
words_of_params (t ∷ ts) = param_words (plain t) ++ words_of_params ts

-- the word of a result that comes back as one; a list and a record that isn't flags have none
abbrev pub result_word : Plain → Option WasmType
result_word (Plain.builtin b) = Some (builtin_word_type b)
result_word Plain.handle = Some WasmType.I32
result_word (Plain.pointer_to t) = Some WasmType.I32
result_word (Plain.const_pointer_to t) = Some WasmType.I32
result_word (Plain.record_of (RecordKind.Bitflags r) ms) = Some (repr_word_type r)
result_word (Plain.variant_of r cs) = Some (repr_word_type r)
result_word _ = None

abbrev pub before_rest : {A : Type 0} → Option A → List A → List A
before_rest None xs = xs
before_rest (Some x) xs = x ∷ xs

abbrev pub words_of_results : List Tree → List WasmType
words_of_results [] = []
words_of_results (t ∷ ts) = before_rest (result_word (plain t)) (words_of_results ts)

abbrev pub words_back : Abi → List Tree → List WasmType
words_back Abi.Preview1 results = words_of_results results
words_back Abi.Stored results = []

abbrev pub or_alone : Tree → Option (List Tree) → List Tree
or_alone t None = t ∷ []
or_alone t (Some ts) = ts

-- the return pointers of an ok type: one for each member of a tuple, else the one of the type itself
abbrev pub pointers_at : Tree → List Tree
pointers_at t = or_alone t (tuple_types t)

abbrev pub ok_pointers : Option Tree → List Tree
ok_pointers None = []
ok_pointers (Some t) = pointers_at t

abbrev pub pointers_by : Option Arms → List Tree
pointers_by None = []
pointers_by (Some cs) = ok_pointers (ok_of cs)

abbrev pub pointers_of : List Tree → List Tree
pointers_of [] = []
pointers_of (t ∷ ts) = pointers_by (result_cases t) ++ pointers_of ts

abbrev pub pointers_under : Abi → List Tree → List Tree
pointers_under Abi.Preview1 results = pointers_of results
pointers_under Abi.Stored results = take 1 results

-- the types of a function's return pointers
abbrev pub return_pointers : Function → List Tree
return_pointers f = pointers_under f.abi f.results

-- THE SIGNATURE
abbrev pub signature_params : Function → List WasmType
signature_params f = words_of_params f.params ++ map (λ t. WasmType.I32) (return_pointers f)

abbrev pub signature_results : Function → List WasmType
signature_results f = words_back f.abi f.results

-- the first result that would have to come back as a word, and has none
abbrev pub first_wordless : Abi → List Tree → Option ℕ
first_wordless Abi.Preview1 results = position (λ t. is_none (result_word (plain t))) results
first_wordless Abi.Stored results = None

abbrev pub without_signature : Function → Option Place
without_signature f = option_map Place.Result (first_wordless f.abi f.results)
