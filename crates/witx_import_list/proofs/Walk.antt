-- What a loop has gathered, and what is left, make up the whole.
use Rattle.std.proofs.Common.{◌≡◌, ℕ, ◌+◌, ◌-◌, ◌<◌, ◌≤◌, cond, List, [], ◌∷◌, ◌++◌, length, get_or, drop, Option, Some, None, Ok, Err, refl, sym, ap, ◌∙◌, append_assoc, append-nil, arith}
use Rattle.std.specs.Prelude.{nat_lt}
use Rattle.std.proofs.lemmas.Bool.{lt-ltb, le-ltb}
use Rattle.std.proofs.lemmas.List.{drop_more, drop_all}
use Rattle.witx_import_list.specs.Functions.{wasm_type_of, wasm_types_of, if_both, ListAnswer, function_at, in_front, going_on, functions, RefusesList}
use Rattle.witx_import_list.specs.declared.functions.ListError.{ListError}
use Rattle.witx_import_list.specs.declared.functions.ListError.TheVariants as errors
use Rattle.witx_imports.specs.declared.import.WasmImport.{WasmImport}
use Rattle.witx_machine.specs.declared.surface.WasmType.{WasmType}
use Rattle.witx_wasm.specs.declared.module.FunctionType.{FunctionType}
use Rattle.witx_wasm.specs.declared.module.Import.{Import}
use Rattle.witx_wasm.specs.declared.module.ValueType.{ValueType}

-- the first of what is left
first-left : {A : Type 0} (xs : List A) (n : ℕ) (x : A) → (n < length xs) × (x ≡ get_or xs n x) → drop n xs ≡ x ∷ drop (n + 1) xs
first-left xs n x h = drop_more xs n x h.0 ∙ ap (λ y. y ∷ drop (n + 1) xs) (sym h.1)

-- ---- words

-- words in front of those that are there
abbrev pub with_words_done : List WasmType → Option (List WasmType) → Option (List WasmType)
with_words_done front None = None
with_words_done front (Some xs) = Some (front ++ xs)

one-word : (front : List WasmType) (word : WasmType) (o : Option (List WasmType)) → with_words_done front (if_both (λ x xs. x ∷ xs) (Some word) o) ≡ with_words_done (front ++ word ∷ []) o
one-word front word None = refl
one-word front word (Some xs) = ap (λ ys. Some ys) (sym (append_assoc front (word ∷ []) xs))

pub word-more : (values : List ValueType) (n : ℕ) (value : ValueType) (front : List WasmType) (word : WasmType) (total : Option (List WasmType)) → (n < length values) × (value ≡ get_or values n value)
    → wasm_type_of value ≡ Some word → with_words_done front (wasm_types_of (drop n values)) ≡ total → with_words_done (front ++ word ∷ []) (wasm_types_of (drop (n + 1) values)) ≡ total
word-more values n value front word total h is so_far =
    sym (one-word front word (wasm_types_of (drop (n + 1) values)))
    ∙ ap (λ o. with_words_done front (if_both (λ x xs. x ∷ xs) o (wasm_types_of (drop (n + 1) values)))) (sym is)
    ∙ ap (λ vs. with_words_done front (wasm_types_of vs)) (sym (first-left values n value h)) ∙ so_far

pub word-none : (values : List ValueType) (n : ℕ) (value : ValueType) (front : List WasmType) (total : Option (List WasmType)) → (n < length values) × (value ≡ get_or values n value)
    → wasm_type_of value ≡ None → with_words_done front (wasm_types_of (drop n values)) ≡ total → None ≡ total
word-none values n value front total h is so_far =
    ap (λ o. with_words_done front (if_both (λ x xs. x ∷ xs) o (wasm_types_of (drop (n + 1) values)))) (sym is)
    ∙ ap (λ vs. with_words_done front (wasm_types_of vs)) (sym (first-left values n value h)) ∙ so_far

pub words-end : (values : List ValueType) (n : ℕ) (front : List WasmType) (total : Option (List WasmType)) → length values ≤ n → with_words_done front (wasm_types_of (drop n values)) ≡ total → Some front ≡ total
words-end values n front total le so_far =
    ap (λ ys. Some ys) (sym (append-nil front)) ∙ ap (λ vs. with_words_done front (wasm_types_of vs)) (sym (drop_all n values le)) ∙ so_far

-- ---- room

pub no-room-first : (room a b : ℕ) (o : Option ℕ) → room < a → None ≡ cond (nat_lt room (a + b)) None o
no-room-first room a b o lt = rw (lt-ltb room (a + b) (omega (arith, lt))) refl

pub no-room-second : (room a b : ℕ) (o : Option ℕ) → a ≤ room → room - a < b → None ≡ cond (nat_lt room (a + b)) None o
no-room-second room a b o le lt = rw (lt-ltb room (a + b) (omega (arith, le, lt))) refl

pub some-room : (room a b : ℕ) → a ≤ room → b ≤ room - a → Some (room - a - b) ≡ cond (nat_lt room (a + b)) None (Some (room - (a + b)))
some-room room a b le more =
    let left : room - a - b ≡ room - (a + b) = omega arith in
    rw (le-ltb room (a + b) (omega (arith, le, more)), left) refl

pub ruleset room_rules = (no-room-first, no-room-second, some-room)

-- ---- functions

-- imports in front of an answer
abbrev pub with_done : List WasmImport → ListAnswer (List WasmImport) → ListAnswer (List WasmImport)
with_done front (Ok more) = Ok (front ++ more)
with_done front (Err e) = Err e

one-done : (front : List WasmImport) (asked : WasmImport) (r : ListAnswer (List WasmImport)) → with_done front (in_front (Some asked) r) ≡ with_done (front ++ asked ∷ []) r
one-done front asked (Ok more) = ap (λ xs. Ok xs) (sym (append_assoc front (asked ∷ []) more))
one-done front asked (Err e) = refl

none-done : (front : List WasmImport) (r : ListAnswer (List WasmImport)) → with_done front (in_front None r) ≡ with_done front r
none-done front (Ok more) = refl
none-done front (Err e) = refl

module _ (types : List FunctionType) (imports : List Import) (n room : ℕ) (i : Import) (front : List WasmImport) (total : ListAnswer (List WasmImport))
    (here : (n < length imports) × (i ≡ get_or imports n i)) (so_far : with_done front (functions types n room (drop n imports)) ≡ total) where
  abbrev rest-from : ℕ → ListAnswer (List WasmImport)
  rest-from left = functions types (n + 1) left (drop (n + 1) imports)

  whole : with_done front (going_on rest-from (function_at types i n room)) ≡ total
  whole = ap (λ is. with_done front (functions types n room is)) (sym (first-left imports n i here)) ∙ so_far

  pub function-more : (asked : WasmImport) (left : ℕ) → function_at types i n room ≡ Ok (Some asked, left) → with_done (front ++ asked ∷ []) (functions types (n + 1) left (drop (n + 1) imports)) ≡ total
  function-more asked left is = sym (one-done front asked (rest-from left)) ∙ ap (λ r. with_done front (going_on rest-from r)) (sym is) ∙ whole

  pub other-more : (left : ℕ) → function_at types i n room ≡ Ok (None, left) → with_done front (functions types (n + 1) left (drop (n + 1) imports)) ≡ total
  other-more left is = sym (none-done front (rest-from left)) ∙ ap (λ r. with_done front (going_on rest-from r)) (sym is) ∙ whole

  pub function-refused : (e : ListError) → RefusesList e (function_at types i n room) → RefusesList e total
  function-refused errors.OutOfMemory is = tt
  function-refused (errors.NoWords k) is = sym whole ∙ ap (λ r. with_done front (going_on rest-from r)) is
  function-refused errors.TooManyWords is = sym whole ∙ ap (λ r. with_done front (going_on rest-from r)) is

pub functions-end : (types : List FunctionType) (imports : List Import) (n room : ℕ) (front : List WasmImport) (total : ListAnswer (List WasmImport)) → length imports ≤ n
    → with_done front (functions types n room (drop n imports)) ≡ total → total ≡ Ok front
functions-end types imports n room front total le so_far =
    sym so_far ∙ ap (λ is. with_done front (functions types n room is)) (drop_all n imports le) ∙ ap (λ xs. Ok xs) (append-nil front)
