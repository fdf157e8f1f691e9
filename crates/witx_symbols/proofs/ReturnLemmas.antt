-- The words that come back, and what stands at the return pointers.
use Rattle.std.proofs.Common.{◌≡◌, ◌≢◌, ℕ, zero, suc, ◌+◌, ◌-◌, ◌<◌, ◌≤◌, Bool, true, false, not, ◌&&◌, refl, sym, ap, ◌∙◌, arith, List, [], ◌∷◌, map, length, get_or, take, drop, Option, Some, None}
use Rattle.std.specs.Prelude.{nat_eq}
use Rattle.std.proofs.Math.Dec.{eqb-suc-zero}
use Rattle.std.proofs.lemmas.List.{length-drop, length-map}
use Rattle.std.specs.Cmp.Lexicographic.{pointwise}
use Rattle.witx_ast.specs.declared.function.Abi.{Abi}
use Rattle.witx_ast.specs.declared.function.InterfaceFuncParam.{InterfaceFuncParam}
use Rattle.witx_ast.specs.declared.types.RecordMember.{RecordMember}
use Rattle.witx_ast.specs.Tree.{Tree}
use Rattle.witx_ast.specs.Views.{tree_of}
use Rattle.witx_machine.specs.Functions.{tuple_types}
use Rattle.witx_machine.specs.Machine.{is_nil}
use Rattle.witx_machine.specs.Passage.{last_words}
use Rattle.witx_machine.specs.Signature.{ok_pointers, or_alone}
use Rattle.witx_machine.specs.declared.surface.WasmType.{WasmType}
use Rattle.witx_run.proofs.PairLemmas.{pair-more, pair-fails, pairs-end, pairs-uneven}
use Rattle.witx_symbols.specs.Symbols.{Symbol, SymbolWord, word_of_symbol, list_address, list_length, given, zero_word, one_word}
use Rattle.witx_symbols.specs.Symbolic.{SymbolMemory, SymbolWorld}
use Rattle.witx_symbols.specs.Verdicts.{gives_back, returns_case, hold_all, holds_symbol, is_case_word}
use Rattle.witx_symbols.specs.PassageParts.{nothing_returns, ok_returns, err_returns}
use Rattle.witx_symbols.specs.WordViews.{Shared, shared_of, shared_symbols, word_seen}
use Rattle.witx_symbols.specs.OutcomeViews.{SymbolOutcome, words_of}
use Rattle.witx_symbols.specs.declared.words.Word as declared_word
use Rattle.witx_symbols.proofs.FromLemmas.{types_of}
use Rattle.witx_symbols.proofs.WordLemmas.{word_rules}
use Rattle.witx_symbols.proofs.PassLemmas.{pass_rules, words-dropped}

abbrev Words : Type 0
Words = List declared_word.Word

-- no word at all
pub nil-words : (ws : Words) → is_nil (words_of ws) ≡ nat_eq (length ws) 0
nil-words [] = refl
nil-words (w ∷ ws) = sym (eqb-suc-zero (length ws))

pub nil-types : (ps : List InterfaceFuncParam) → is_nil (types_of ps) ≡ nat_eq (length ps) 0
nil-types [] = refl
nil-types (p ∷ ps) = sym (eqb-suc-zero (length ps))

-- no result, and one
pub gives-none : (abi : Abi) (w : SymbolWorld) (ts : List Tree) (o : SymbolOutcome) → gives_back abi w ts None o ≡ nothing_returns ts o
gives-none abi w [] o = refl
gives-none abi w (t ∷ []) o = refl
gives-none abi w (t ∷ u ∷ ts) o = refl

pub one-result : (ps : List InterfaceFuncParam) (p : InterfaceFuncParam) → length ps ≡ 1 → p ≡ get_or ps 0 p → types_of ps ≡ tree_of p.tref ∷ []
one-result [] p l e = absurd (omega arith)
one-result (q ∷ []) p l e = ap (λ x. tree_of x.tref ∷ []) (sym e)
one-result (q ∷ r ∷ ps) p l e = absurd (omega arith)

pub gives-other : (abi : Abi) (w : SymbolWorld) (ps : List InterfaceFuncParam) (v : Symbol) (o : SymbolOutcome) → length ps ≢ 1 → gives_back abi w (types_of ps) (Some v) o ≡ false
gives-other abi w [] v o n = refl
gives-other abi w (p ∷ []) v o n = absurd (n refl)
gives-other abi w (p ∷ q ∷ ps) v o n = refl

-- the last words
all-taken : {A : Type 0} (n : ℕ) (xs : List A) → length xs ≤ n → take n xs ≡ xs
all-taken zero [] l = refl
all-taken (suc n) [] l = refl
all-taken zero (x ∷ xs) l = absurd (omega arith)
all-taken (suc n) (x ∷ xs) l = ap (λ l. x ∷ l) (all-taken n xs (omega arith))

pub last-read : (n k : ℕ) (ws : Words) → k ≡ length ws - n → words_of (take (length ws - k) (drop k ws)) ≡ last_words n (words_of ws)
last-read n k ws e =
    ap words_of (all-taken (length ws - k) (drop k ws) (omega (arith, length-drop k ws)))
    ∙ words-dropped k ws ∙ ap (λ k. drop k (words_of ws)) (e ∙ ap (λ l. l - n) (sym (length-map ws word_seen)))

-- the word of a case
pub case-zero : (e : Bool) → is_case_word e (zero_word ∷ []) ≡ not e
case-zero true = refl
case-zero false = refl

pub case-one : (e : Bool) → is_case_word e (one_word ∷ []) ≡ e
case-one true = refl
case-one false = refl

pub case-of : (e : Bool) (v : Symbol) (t : WasmType) → is_case_word e (word_of_symbol v t ∷ []) ≡ false
case-of true v t = refl
case-of false v t = refl

pub case-address : (e : Bool) (v : Symbol) → is_case_word e (list_address v ∷ []) ≡ false
case-address true v = refl
case-address false v = refl

pub case-length : (e : Bool) (v : Symbol) → is_case_word e (list_length v ∷ []) ≡ false
case-length true v = refl
case-length false v = refl

pub case-given : (e : Bool) (k : ℕ) → is_case_word e (given k ∷ []) ≡ false
case-given true k = refl
case-given false k = refl

each-word : (P : SymbolWord → Type 0) → ((v : Symbol) (t : WasmType) → P (word_of_symbol v t)) → ((v : Symbol) → P (list_address v)) → ((v : Symbol) → P (list_length v)) →
    ((k : ℕ) → P (given k)) → P zero_word → P one_word → (w : SymbolWord) → P w
each-word P a b c d e f (word_of_symbol v t) = a v t
each-word P a b c d e f (list_address v) = b v
each-word P a b c d e f (list_length v) = c v
each-word P a b c d e f (given k) = d k
each-word P a b c d e f zero_word = e
each-word P a b c d e f one_word = f

case-longer : (e : Bool) (w x : SymbolWord) (ws : List SymbolWord) → is_case_word e (w ∷ x ∷ ws) ≡ false
case-longer true w x ws = each-word (λ w. is_case_word true (w ∷ x ∷ ws) ≡ false) (λ v t. refl) (λ v. refl) (λ v. refl) (λ k. refl) refl refl w
case-longer false w x ws = each-word (λ w. is_case_word false (w ∷ x ∷ ws) ≡ false) (λ v t. refl) (λ v. refl) (λ v. refl) (λ k. refl) refl refl w

pub case-other : (e : Bool) (ws : List SymbolWord) → length ws ≢ 1 → is_case_word e ws ≡ false
case-other true [] n = refl
case-other false [] n = refl
case-other e (w ∷ []) n = absurd (n refl)
case-other e (w ∷ x ∷ ws) n = case-longer e w x ws

-- a reply with a payload
pub case-ok : (ok err : Option Tree) (pointers : List SymbolWord) (p : Symbol × Option Tree) (m : SymbolMemory) (ws : List SymbolWord) →
    returns_case ok err pointers false (Some p) m ws ≡ ok_returns ok pointers p.0 m ws
case-ok None err pointers p m ws = refl
case-ok (Some t) err pointers p m ws = refl

pub case-err : (ok err : Option Tree) (pointers : List SymbolWord) (p : Symbol × Option Tree) (m : SymbolMemory) (ws : List SymbolWord) →
    returns_case ok err pointers true (Some p) m ws ≡ err_returns err p.0 m ws
case-err None None pointers p m ws = refl
case-err None (Some t) pointers p m ws = refl
case-err (Some u) None pointers p m ws = refl
case-err (Some u) (Some t) pointers p m ws = refl

-- the pointers of what an ok carries
pub members-count : (ms : List RecordMember) (t : Tree) → Some (map (λ m. tree_of m.tref) ms) ≡ tuple_types t → length ms ≡ length (ok_pointers (Some t))
members-count ms t e = sym (length-map ms (λ m. tree_of m.tref)) ∙ ap (λ o. length (or_alone t o)) e

pub alone-count : (t : Tree) → None ≡ tuple_types t → length (ok_pointers (Some t)) ≡ 1
alone-count t e = sym (ap (λ o. length (or_alone t o)) e)

-- addresses and what has to stand there
abbrev pub one_held : SymbolMemory → declared_word.Word → Shared → Bool
one_held m w v = holds_symbol m (word_seen w) (shared_of v)

pub held-pairs : (m : SymbolMemory) (ws : Words) (vs : List Shared) → hold_all m (words_of ws) (shared_symbols vs) ≡ pointwise (one_held m) ws vs
held-pairs m [] [] = refl
held-pairs m [] (v ∷ vs) = refl
held-pairs m (w ∷ ws) [] = refl
held-pairs m (w ∷ ws) (v ∷ vs) = ap (λ t. one_held m w v && t) (held-pairs m ws vs)

pub ruleset return_rules = (word_rules, pass_rules, nil-words, nil-types, gives-none, one-result, gives-other, last-read, case-zero, case-one, case-of, case-address, case-length, case-given, case-other, case-ok, case-err, members-count, alone-count, held-pairs, pair-more, pair-fails, pairs-end, pairs-uneven)
