-- The signature of a function, as its loops make it.
use Rattle.std.proofs.Common.{◌≡◌, ◌<◌, ◌≤◌, ◌+◌, ◌-◌, ℕ, suc, List, [], ◌∷◌, ◌++◌, append_assoc, append-nil, Option, Some, None, is_none, option_map, map, length, drop, take, slice_get, get_or, refl, sym, ap, ◌∙◌, arith}
use Rattle.std.specs.List.{position}
use Rattle.std.specs.Prelude.{replicate}
use Rattle.std.proofs.lemmas.List.{drop_more, drop_all}
use Rattle.witx_ast.specs.Tree.{Tree, behind}
use Rattle.witx_ast.specs.Plain.{plain}
use Rattle.witx_ast.specs.Views.{tree_of, datatype_tree, record_tree}
use Rattle.witx_ast.proofs.Trees.{tree-RecordDatatype}
use Rattle.witx_ast.specs.declared.function.Abi.{Abi}
use Rattle.witx_ast.specs.declared.types.RecordKind.{RecordKind}
use Rattle.witx_ast.specs.declared.types.Datatype.{Datatype}
use Rattle.witx_ast.specs.declared.types.RecordDatatype.{RecordDatatype, out-RecordDatatype}
use Rattle.witx_ast.specs.declared.function.InterfaceFuncParam.{InterfaceFuncParam}
use Rattle.witx_machine.specs.declared.surface.WasmType.{WasmType}
use Rattle.witx_machine.specs.declared.surface.Place.{Place}
use Rattle.witx_machine.specs.Functions.{tuple_types, result_cases}
use Rattle.witx_machine.specs.Signature.{first_wordless, param_words, words_of_params, result_word, before_rest, words_of_results, or_alone, pointers_by, ok_pointers, pointers_of}
use Rattle.witx_instructions.specs.Views.{param_types, pointer_number}
use Rattle.witx_instructions.proofs.Types.{members-are, tuples-at}
use Rattle.witx_instructions.proofs.Results.{length-map, prefix-map}

-- parameters, or results, from the i-th on: that one, and the others
pub types-drop : (ps : List InterfaceFuncParam) (i : ℕ) (p : InterfaceFuncParam) → i < length ps → p ≡ get_or ps i p → param_types (drop i ps) ≡ tree_of p.tref ∷ param_types (drop (i + 1) ps)
types-drop ps i p l e = rw (drop_more ps i p l, ← e) refl

pub types-end : (ps : List InterfaceFuncParam) (i : ℕ) → length ps ≤ i → param_types (drop i ps) ≡ []
types-end ps i l = rw (drop_all i ps l) refl

pub params-step : (ws : List WasmType) (ps : List InterfaceFuncParam) (i : ℕ) (p : InterfaceFuncParam) → i < length ps → p ≡ get_or ps i p
    → ws ++ words_of_params (param_types (drop i ps)) ≡ (ws ++ param_words (plain (tree_of p.tref))) ++ words_of_params (param_types (drop (i + 1) ps))
params-step ws ps i p l e = ap (λ ts. ws ++ words_of_params ts) (types-drop ps i p l e) ∙ sym (append_assoc ws (param_words (plain (tree_of p.tref))) _)

pub params-last : (ws : List WasmType) (ps : List InterfaceFuncParam) (i : ℕ) → length ps ≤ i → ws ++ words_of_params (param_types (drop i ps)) ≡ ws
params-last ws ps i l = ap (λ ts. ws ++ words_of_params ts) (types-end ps i l) ∙ append-nil ws

pub results-step : (ws : List WasmType) (ps : List InterfaceFuncParam) (i : ℕ) (p : InterfaceFuncParam) (w : WasmType) → i < length ps → p ≡ get_or ps i p → result_word (plain (tree_of p.tref)) ≡ Some w
    → ws ++ words_of_results (param_types (drop i ps)) ≡ (ws ++ w ∷ []) ++ words_of_results (param_types (drop (i + 1) ps))
results-step ws ps i p w l e r = ap (λ ts. ws ++ words_of_results ts) (types-drop ps i p l e) ∙ ap (λ o. ws ++ before_rest o (words_of_results (param_types (drop (i + 1) ps)))) r ∙ sym (append_assoc ws (w ∷ []) _)

pub results-skip : (ws : List WasmType) (ps : List InterfaceFuncParam) (i : ℕ) (p : InterfaceFuncParam) → i < length ps → p ≡ get_or ps i p → result_word (plain (tree_of p.tref)) ≡ None
    → ws ++ words_of_results (param_types (drop i ps)) ≡ ws ++ words_of_results (param_types (drop (i + 1) ps))
results-skip ws ps i p l e r = ap (λ ts. ws ++ words_of_results ts) (types-drop ps i p l e) ∙ ap (λ o. ws ++ before_rest o (words_of_results (param_types (drop (i + 1) ps)))) r

pub results-last : (ws : List WasmType) (ps : List InterfaceFuncParam) (i : ℕ) → length ps ≤ i → ws ++ words_of_results (param_types (drop i ps)) ≡ ws
results-last ws ps i l = ap (λ ts. ws ++ words_of_results ts) (types-end ps i l) ∙ append-nil ws

map-append : {A B : Type 0} (f : A → B) (xs ys : List A) → map f (xs ++ ys) ≡ map f xs ++ map f ys
map-append f [] ys = refl
map-append f (x ∷ xs) ys = ap (λ zs. f x ∷ zs) (map-append f xs ys)

all-i32 : (ts : List Tree) → map (λ t. WasmType.I32) ts ≡ replicate (length ts) WasmType.I32
all-i32 [] = refl
all-i32 (t ∷ ts) = ap (λ ws. WasmType.I32 ∷ ws) (all-i32 ts)

pub pointers-step : (ws : List WasmType) (ps : List InterfaceFuncParam) (i : ℕ) (p : InterfaceFuncParam) (n : ℕ) → i < length ps → p ≡ get_or ps i p → n ≡ length (pointers_by (result_cases (tree_of p.tref)))
    → ws ++ map (λ t. WasmType.I32) (pointers_of (param_types (drop i ps))) ≡ (ws ++ replicate n WasmType.I32) ++ map (λ t. WasmType.I32) (pointers_of (param_types (drop (i + 1) ps)))
pointers-step ws ps i p n l e c =
    let more = pointers_of (param_types (drop (i + 1) ps)) in
    let own = pointers_by (result_cases (tree_of p.tref)) in
    ap (λ ts. ws ++ map (λ t. WasmType.I32) (pointers_of ts)) (types-drop ps i p l e)
    ∙ ap (λ ts. ws ++ ts) (map-append (λ t. WasmType.I32) own more)
    ∙ ap (λ us. ws ++ (us ++ map (λ t. WasmType.I32) more)) (all-i32 own ∙ ap (λ n. replicate n WasmType.I32) (sym c))
    ∙ sym (append_assoc ws (replicate n WasmType.I32) (map (λ t. WasmType.I32) more))

pub pointers-last : (ws : List WasmType) (ps : List InterfaceFuncParam) (i : ℕ) → length ps ≤ i → ws ++ map (λ t. WasmType.I32) (pointers_of (param_types (drop i ps))) ≡ ws
pointers-last ws ps i l = ap (λ ts. ws ++ map (λ t. WasmType.I32) (pointers_of ts)) (types-end ps i l) ∙ append-nil ws

pub i32s-step : (ws : List WasmType) (n k : ℕ) → k < n → ws ++ replicate (n - k) WasmType.I32 ≡ (ws ++ WasmType.I32 ∷ []) ++ replicate (n - (k + 1)) WasmType.I32
i32s-step ws n k l =
    let e : n - k ≡ suc (n - (k + 1)) = omega arith in
    ap (λ m. ws ++ replicate m WasmType.I32) e ∙ sym (append_assoc ws (WasmType.I32 ∷ []) (replicate (n - (k + 1)) WasmType.I32))

pub i32s-last : (ws : List WasmType) (n : ℕ) → ws ++ replicate (n - n) WasmType.I32 ≡ ws
i32s-last ws n =
    let e : n - n ≡ 0 = omega arith in
    ap (λ m. ws ++ replicate m WasmType.I32) e ∙ append-nil ws

-- the number of pointers doesn't depend on the name under which they are made
count-alone : (t u : Tree) (o : Option (List Tree)) → length (or_alone t o) ≡ length (or_alone u o)
count-alone t u None = refl
count-alone t u (Some ts) = refl

pub number-behind : (t : Tree) (d : Datatype) → datatype_tree d ≡ behind t → pointer_number (datatype_tree d) ≡ length (ok_pointers (Some t))
number-behind t d e = count-alone (datatype_tree d) t (tuple_types (datatype_tree d)) ∙ ap (λ o. length (or_alone t o)) (sym (tuples-at t d e))

pub tuple-number : (r : RecordDatatype) → (out-RecordDatatype r).kind ≡ RecordKind.Tuple → pointer_number (record_tree r) ≡ length (out-RecordDatatype r).members
tuple-number r e = rw (tree-RecordDatatype r, e, members-are (out-RecordDatatype r).members, length-map (λ m. tree_of m.tref) (out-RecordDatatype r).members) refl

-- the first result without a word is found by its type
pub word-position : (ps : List InterfaceFuncParam) → position (λ t. is_none (result_word (plain t))) (param_types ps) ≡ position (λ r. is_none (result_word (plain (tree_of r.tref)))) ps
word-position ps = rw (prefix-map (λ t. Rattle.std.proofs.Common.not (is_none (result_word (plain t)))) (λ p. tree_of p.tref) ps, length-map (λ p. tree_of p.tref) ps) refl

pub word-found : (ps : List InterfaceFuncParam) (i : ℕ) → position (λ r. is_none (result_word (plain (tree_of r.tref)))) ps ≡ Some i → option_map Place.Result (position (λ t. is_none (result_word (plain t))) (param_types ps)) ≡ Some (Place.Result i)
word-found ps i e = rw (word-position ps, e) refl

pub word-missing : (ps : List InterfaceFuncParam) → position (λ r. is_none (result_word (plain (tree_of r.tref)))) ps ≡ None → option_map Place.Result (position (λ t. is_none (result_word (plain t))) (param_types ps)) ≡ None
word-missing ps e = rw (word-position ps, e) refl

-- stored whole, a result has one pointer
pub one-pointer : (ws : List WasmType) (ps : List InterfaceFuncParam) (p : InterfaceFuncParam) → slice_get ps 0 ≡ Some p → ws ++ map (λ t. WasmType.I32) (take 1 (param_types ps)) ≡ ws ++ WasmType.I32 ∷ []
one-pointer ws [] p e = absurd (none e)
  where
    none : None ≡ Some p → ⊥
    none e = cc
one-pointer ws (q ∷ ps) p e = refl

pub none-pointer : (ws : List WasmType) (ps : List InterfaceFuncParam) → slice_get ps 0 ≡ None → ws ++ map (λ t. WasmType.I32) (take 1 (param_types ps)) ≡ ws
none-pointer ws [] e = append-nil ws
none-pointer ws (q ∷ ps) e = absurd (some e)
  where
    some : Some q ≡ None → ⊥
    some e = cc

pub wordless-found : (ps : List InterfaceFuncParam) → position (λ r. is_none (result_word (plain (tree_of r.tref)))) ps ≡ first_wordless Abi.Preview1 (param_types ps)
wordless-found ps = sym (word-position ps)

pub ruleset signature_rules = (one-pointer, none-pointer, wordless-found, i32s-step, i32s-last, params-step, params-last, results-step, results-skip, results-last, pointers-step, pointers-last, number-behind, tuple-number, word-found, word-missing)
