-- The words of a call going in: what is left of them behind each parameter.
use Rattle.std.proofs.Common.{◌≡◌, ◌≢◌, ℕ, zero, suc, ◌+◌, ◌<◌, ◌≤◌, Bool, true, false, cond, ◌&&◌, refl, sym, ap, ◌∙◌, arith, List, [], ◌∷◌, map, length, get_or, take, drop, Some, None}
use Rattle.std.proofs.lemmas.Bool.{false≢true, true≢false}
use Rattle.std.specs.declared.alloc.Global.{Global}
use Rattle.std.specs.declared.rc.Rc.{Rc}
use Rattle.std.specs.Borrow.{Bor}
use Rattle.std.proofs.lemmas.List.{drop_more, drop_all, take-map, drop-map, length-map}
use Rattle.witx_ast.specs.declared.function.InterfaceFuncParam.{InterfaceFuncParam}
use Rattle.witx_ast.specs.declared.types.NamedType.{NamedType}
use Rattle.witx_ast.specs.declared.types.RecordKind.{RecordKind}
use Rattle.witx_ast.specs.Tree.{Tree}
use Rattle.witx_ast.specs.Plain.{Plain, plain}
use Rattle.witx_ast.specs.Views.{tree_of, named_tree}
use Rattle.witx_machine.specs.declared.surface.WasmType.{WasmType}
use Rattle.witx_machine.specs.Functions.{by_address}
use Rattle.witx_machine.specs.Signature.{param_words}
use Rattle.witx_machine.specs.Words.{when}
use Rattle.witx_symbols.specs.Symbols.{Symbol, SymbolWord, word_of_symbol, list_address, list_length, given, zero_word, one_word}
use Rattle.witx_symbols.specs.Symbolic.{SymbolMemory}
use Rattle.witx_symbols.specs.Verdicts.{passes, pointers_are, param_are, direct_are, hold_all, holds_symbol, is_made_for, is_word_of}
use Rattle.witx_symbols.specs.PassageParts.{list_are, one_is, words_behind}
use Rattle.witx_symbols.specs.Typing.{is_listed_type}
use Rattle.witx_symbols.specs.WordViews.{Shared, shared_of, shared_symbols, word_seen}
use Rattle.witx_symbols.specs.OutcomeViews.{words_of}
use Rattle.witx_symbols.specs.declared.words.Word as declared_word
use Rattle.witx_symbols.proofs.FromLemmas.{types_of}
use Rattle.witx_symbols.proofs.CellLemmas.{cell_rules}

abbrev Words : Type 0
Words = List declared_word.Word

pub words-length : (ws : Words) → length (words_of ws) ≡ length ws
words-length ws = length-map ws word_seen

pub words-taken : (n : ℕ) (ws : Words) → words_of (take n ws) ≡ take n (words_of ws)
words-taken n ws = sym (take-map word_seen n ws)

pub words-dropped : (n : ℕ) (ws : Words) → words_of (drop n ws) ≡ drop n (words_of ws)
words-dropped n ws = sym (drop-map word_seen n ws)

-- one word, and two
pub one-long : (ws : Words) (x : declared_word.Word) → length ws ≡ 1 → x ≡ get_or ws 0 x → words_of ws ≡ word_seen x ∷ []
one-long [] x l e = absurd (omega arith)
one-long (y ∷ []) x l e = ap (λ w. word_seen w ∷ []) (sym e)
one-long (y ∷ z ∷ ws) x l e = absurd (omega arith)

pub two-long : (ws : Words) (x y : declared_word.Word) → length ws ≡ 2 → x ≡ get_or ws 0 x → y ≡ get_or ws 1 y → words_of ws ≡ word_seen x ∷ word_seen y ∷ []
two-long [] x y l e f = absurd (omega arith)
two-long (a ∷ []) x y l e f = absurd (omega arith)
two-long (a ∷ b ∷ []) x y l e f = ap (λ w. word_seen w ∷ word_seen b ∷ []) (sym e) ∙ ap (λ w. word_seen x ∷ word_seen w ∷ []) (sym f)
two-long (a ∷ b ∷ c ∷ ws) x y l e f = absurd (omega arith)

-- other numbers of words
pub hold-other : (m : SymbolMemory) (ws : List SymbolWord) (v : Symbol) → length ws ≢ 1 → hold_all m ws (v ∷ []) ≡ false
hold-other m [] v n = refl
hold-other m (w ∷ []) v n = absurd (n refl)
hold-other m (w ∷ x ∷ ws) v n = none (holds_symbol m w v)
  where
    none : (b : Bool) → b && false ≡ false
    none true = refl
    none false = refl

pub list-other : (v : Symbol) (ws : List SymbolWord) → length ws ≢ 2 → list_are v ws ≡ false
list-other v [] n = refl
list-other v (w ∷ []) n = go w
  where
    go : (w : SymbolWord) → list_are v (w ∷ []) ≡ false
    go (word_of_symbol u t) = refl
    go (list_address u) = refl
    go (list_length u) = refl
    go (given k) = refl
    go zero_word = refl
    go one_word = refl
list-other v (w ∷ x ∷ []) n = absurd (n refl)
list-other v (w ∷ x ∷ y ∷ ws) n = go w x
  where
    go : (w x : SymbolWord) → list_are v (w ∷ x ∷ y ∷ ws) ≡ false
    go (list_address u) (list_length z) = refl
    go (list_address u) (word_of_symbol z t) = refl
    go (list_address u) (list_address z) = refl
    go (list_address u) (given k) = refl
    go (list_address u) zero_word = refl
    go (list_address u) one_word = refl
    go (word_of_symbol u t) x = refl
    go (list_length u) x = refl
    go (given k) x = refl
    go zero_word x = refl
    go one_word x = refl

pub one-other : (ts : List WasmType) (v : Symbol) (ws : List SymbolWord) → length ws ≢ 1 → one_is ts v ws ≡ false
one-other ts v [] n = refl
one-other ts v (w ∷ []) n = absurd (n refl)
one-other ts v (w ∷ x ∷ ws) n = refl

-- the words of a value that isn't passed by address: a list's two, or one
list-direct : (t : Plain) (v : Symbol) (ws : List SymbolWord) → direct_are (Plain.list_of t) v ws ≡ list_are v ws
list-direct t v [] = refl
list-direct t v (list_address a ∷ []) = refl
list-direct t v (list_address a ∷ list_length l ∷ []) = refl
list-direct t v (list_address a ∷ list_length l ∷ x ∷ ws) = refl
list-direct t v (list_address a ∷ list_address l ∷ ws) = refl
list-direct t v (list_address a ∷ word_of_symbol u y ∷ ws) = refl
list-direct t v (list_address a ∷ given k ∷ ws) = refl
list-direct t v (list_address a ∷ zero_word ∷ ws) = refl
list-direct t v (list_address a ∷ one_word ∷ ws) = refl
list-direct t v (word_of_symbol u y ∷ ws) = refl
list-direct t v (list_length u ∷ ws) = refl
list-direct t v (given k ∷ ws) = refl
list-direct t v (zero_word ∷ ws) = refl
list-direct t v (one_word ∷ ws) = refl

pub direct-list : (t : Plain) (v : Symbol) (ws : List SymbolWord) → is_listed_type t ≡ true → direct_are t v ws ≡ list_are v ws
direct-list (Plain.list_of t) v ws e = list-direct t v ws
direct-list (Plain.builtin b) v ws e = absurd (false≢true e)
direct-list Plain.handle v ws e = absurd (false≢true e)
direct-list (Plain.pointer_to t) v ws e = absurd (false≢true e)
direct-list (Plain.const_pointer_to t) v ws e = absurd (false≢true e)
direct-list (Plain.record_of k ms) v ws e = absurd (false≢true e)
direct-list (Plain.variant_of r cs) v ws e = absurd (false≢true e)

no-more : (t : Plain) (v : Symbol) (w x : SymbolWord) (ws : List SymbolWord) → is_listed_type t ≡ false → direct_are t v (w ∷ x ∷ ws) ≡ false
no-more (Plain.list_of t) v w x ws e = absurd (true≢false e)
no-more (Plain.builtin b) v w x ws e = refl
no-more Plain.handle v w x ws e = refl
no-more (Plain.pointer_to t) v w x ws e = refl
no-more (Plain.const_pointer_to t) v w x ws e = refl
no-more (Plain.record_of k ms) v w x ws e = refl
no-more (Plain.variant_of r cs) v w x ws e = refl

no-word : (t : Plain) (v : Symbol) → direct_are t v [] ≡ false
no-word (Plain.list_of t) v = refl
no-word (Plain.builtin b) v = refl
no-word Plain.handle v = refl
no-word (Plain.pointer_to t) v = refl
no-word (Plain.const_pointer_to t) v = refl
no-word (Plain.record_of k ms) v = refl
no-word (Plain.variant_of r cs) v = refl

one-direct : (t : Plain) (v : Symbol) (w : SymbolWord) → is_listed_type t ≡ false → direct_are t v (w ∷ []) ≡ is_word_of (param_words t) v w
one-direct (Plain.list_of t) v w e = absurd (true≢false e)
one-direct (Plain.builtin b) v w e = refl
one-direct Plain.handle v w e = refl
one-direct (Plain.pointer_to t) v w e = refl
one-direct (Plain.const_pointer_to t) v w e = refl
one-direct (Plain.record_of k ms) v w e = refl
one-direct (Plain.variant_of r cs) v w e = refl

pub direct-one : (t : Plain) (v : Symbol) (ws : List SymbolWord) → is_listed_type t ≡ false → direct_are t v ws ≡ one_is (param_words t) v ws
direct-one t v [] e = no-word t v
direct-one t v (w ∷ []) e = one-direct t v w e
direct-one t v (w ∷ x ∷ ws) e = no-more t v w x ws e

-- how many words a type has
pub words-of-list : (t : Plain) → is_listed_type t ≡ true → length (param_words t) ≡ 2
words-of-list (Plain.list_of t) e = refl
words-of-list (Plain.builtin b) e = absurd (false≢true e)
words-of-list Plain.handle e = absurd (false≢true e)
words-of-list (Plain.pointer_to t) e = absurd (false≢true e)
words-of-list (Plain.const_pointer_to t) e = absurd (false≢true e)
words-of-list (Plain.record_of k ms) e = absurd (false≢true e)
words-of-list (Plain.variant_of r cs) e = absurd (false≢true e)

pub words-of-other : (t : Plain) → is_listed_type t ≡ false → length (param_words t) ≡ 1
words-of-other (Plain.list_of t) e = absurd (true≢false e)
words-of-other (Plain.builtin b) e = refl
words-of-other Plain.handle e = refl
words-of-other (Plain.pointer_to t) e = refl
words-of-other (Plain.const_pointer_to t) e = refl
words-of-other (Plain.record_of RecordKind.Tuple ms) e = refl
words-of-other (Plain.record_of RecordKind.Other ms) e = refl
words-of-other (Plain.record_of (RecordKind.Bitflags r) ms) e = refl
words-of-other (Plain.variant_of r cs) e = refl

-- too few words aren't those of a parameter
few-of-list : (m : SymbolMemory) (t : Plain) (v : Symbol) (ws : List SymbolWord) → length ws < 2 → param_are m (Plain.list_of t) v (take 2 ws) ≡ false
few-of-list m t v [] l = refl
few-of-list m t v (w ∷ []) l = list-direct t v (w ∷ []) ∙ list-other v (w ∷ []) (λ e. absurd (omega (arith, e)))
few-of-list m t v (w ∷ x ∷ ws) l = absurd (omega arith)

no-param : (m : SymbolMemory) (t : Plain) (v : Symbol) → param_are m t v [] ≡ false
no-param m t v = go (by_address t) refl
  where
    go : (b : Bool) → by_address t ≡ b → cond b false (direct_are t v []) ≡ false
    go true e = refl
    go false e = no-word t v

few-of-other : (m : SymbolMemory) (t : Plain) (v : Symbol) (n : ℕ) (ws : List SymbolWord) → length ws < 1 → param_are m t v (take n ws) ≡ false
few-of-other m t v n [] l = ap (param_are m t v) (none-taken n) ∙ no-param m t v
  where
    none-taken : (n : ℕ) → take {A = SymbolWord} n [] ≡ []
    none-taken zero = refl
    none-taken (suc n) = refl
few-of-other m t v n (w ∷ ws) l = absurd (omega arith)

pub too-few : (m : SymbolMemory) (t : Plain) (v : Symbol) (ws : List SymbolWord) → length ws < length (param_words t) → param_are m t v (take (length (param_words t)) ws) ≡ false
too-few m (Plain.list_of t) v ws l = few-of-list m t v ws l
too-few m (Plain.builtin b) v ws l = few-of-other m (Plain.builtin b) v 1 ws l
too-few m Plain.handle v ws l = few-of-other m Plain.handle v 1 ws l
too-few m (Plain.pointer_to t) v ws l = few-of-other m (Plain.pointer_to t) v 1 ws l
too-few m (Plain.const_pointer_to t) v ws l = few-of-other m (Plain.const_pointer_to t) v 1 ws l
too-few m (Plain.record_of RecordKind.Tuple ms) v ws l = few-of-other m (Plain.record_of RecordKind.Tuple ms) v 1 ws l
too-few m (Plain.record_of RecordKind.Other ms) v ws l = few-of-other m (Plain.record_of RecordKind.Other ms) v 1 ws l
too-few m (Plain.record_of (RecordKind.Bitflags r) ms) v ws l = few-of-other m (Plain.record_of (RecordKind.Bitflags r) ms) v 1 ws l
too-few m (Plain.variant_of r cs) v ws l = few-of-other m (Plain.variant_of r cs) v 1 ws l

-- the parameters that are left, and the words
abbrev Pointers : Type 0
Pointers = List (Bor (Rc NamedType Global))

abbrev pub pointer_trees : Pointers → List Tree
pointer_trees ps = map (λ p. named_tree p.now.value) ps

abbrev pub left_passes : SymbolMemory → List Tree → List InterfaceFuncParam → List Shared → ℕ → List SymbolWord → Bool
left_passes m pointers params arguments i ws = passes m pointers (types_of (drop i params)) (shared_symbols (drop i arguments)) ws

pass-step : (m : SymbolMemory) (pointers : List Tree) (ps : List InterfaceFuncParam) (vs : List Shared) (i : ℕ) (p : InterfaceFuncParam) (v : Shared) (ws : List SymbolWord) →
    i < length ps → i < length vs → p ≡ get_or ps i p → v ≡ get_or vs i v →
    left_passes m pointers ps vs i ws ≡ param_are m (plain (tree_of p.tref)) (shared_of v) (take (length (param_words (plain (tree_of p.tref)))) ws) && left_passes m pointers ps vs (i + 1) (drop (length (param_words (plain (tree_of p.tref)))) ws)
pass-step m pointers ps vs i p v ws l k e f = rw (drop_more ps i p l, drop_more vs i v k, ← e, ← f) refl

none-behind : (b : Bool) (ws : List SymbolWord) → None ≡ when b (Some ws) → b ≡ false
none-behind true ws h = absurd (clash h)
  where
    clash : None ≡ Some ws → ⊥
    clash e = cc
none-behind false ws h = refl

some-behind : (b : Bool) (ws more : List SymbolWord) → Some more ≡ when b (Some ws) → (b ≡ true) × (ws ≡ more)
some-behind true ws more h = (refl, same h)
  where
    same : Some more ≡ Some ws → ws ≡ more
    same e = cc
some-behind false ws more h = absurd (clash h)
  where
    clash : Some more ≡ None → ⊥
    clash e = cc

pub pass-more : (m : SymbolMemory) (pointers : List Tree) (ps : List InterfaceFuncParam) (vs : List Shared) (i : ℕ) (p : InterfaceFuncParam) (v : Shared) (ws more : List SymbolWord) (all : Bool) →
    i < length ps → length ps ≡ length vs → p ≡ get_or ps i p → v ≡ get_or vs i v →
    Some more ≡ words_behind m (plain (tree_of p.tref)) (shared_of v) ws → left_passes m pointers ps vs i ws ≡ all → left_passes m pointers ps vs (i + 1) more ≡ all
pass-more m pointers ps vs i p v ws more all l n e f h k =
    let o = some-behind _ _ more h in
    ap (left_passes m pointers ps vs (i + 1)) (sym o.1)
    ∙ sym (ap (λ b. b && left_passes m pointers ps vs (i + 1) (drop (length (param_words (plain (tree_of p.tref)))) ws)) o.0)
    ∙ sym (pass-step m pointers ps vs i p v ws l (omega arith) e f) ∙ k

pub pass-refused : (m : SymbolMemory) (pointers : List Tree) (ps : List InterfaceFuncParam) (vs : List Shared) (i : ℕ) (p : InterfaceFuncParam) (v : Shared) (ws : List SymbolWord) (all : Bool) →
    i < length ps → length ps ≡ length vs → p ≡ get_or ps i p → v ≡ get_or vs i v →
    None ≡ words_behind m (plain (tree_of p.tref)) (shared_of v) ws → left_passes m pointers ps vs i ws ≡ all → false ≡ all
pass-refused m pointers ps vs i p v ws all l n e f h k =
    sym (ap (λ b. b && left_passes m pointers ps vs (i + 1) (drop (length (param_words (plain (tree_of p.tref)))) ws)) (none-behind _ _ h))
    ∙ sym (pass-step m pointers ps vs i p v ws l (omega arith) e f) ∙ k

pub pass-ends : (m : SymbolMemory) (pointers : List Tree) (ps : List InterfaceFuncParam) (vs : List Shared) (i : ℕ) (ws : List SymbolWord) (all : Bool) →
    length ps ≤ i → length ps ≡ length vs → left_passes m pointers ps vs i ws ≡ all → pointers_are m pointers ws ≡ all
pass-ends m pointers ps vs i ws all l n k = sym (rw (drop_all i ps l, drop_all i vs (omega arith)) refl) ∙ k

pub pass-longer : (m : SymbolMemory) (pointers : List Tree) (ps : List InterfaceFuncParam) (vs : List Shared) (ws : List SymbolWord) → length ps ≢ length vs → passes m pointers (types_of ps) (shared_symbols vs) ws ≡ false
pass-longer m pointers [] [] ws n = absurd (n refl)
pass-longer m pointers [] (v ∷ vs) ws n = refl
pass-longer m pointers (p ∷ ps) [] ws n = refl
pass-longer m pointers (p ∷ ps) (v ∷ vs) ws n =
    both (param_are m (plain (tree_of p.tref)) (shared_of v) (take (length (param_words (plain (tree_of p.tref)))) ws))
    (pass-longer m pointers ps vs (drop (length (param_words (plain (tree_of p.tref)))) ws) (λ e. n (ap suc e)))
  where
    both : (t : Bool) → {u : Bool} → u ≡ false → t && u ≡ false
    both true e = e
    both false e = refl

-- the pointers that are left
abbrev pub left_pointers : SymbolMemory → Pointers → Words → ℕ → Bool
left_pointers m ps ws i = pointers_are m (pointer_trees (drop i ps)) (words_of (drop i ws))

pointer-step : (m : SymbolMemory) (ps : Pointers) (ws : Words) (i : ℕ) (p : Bor (Rc NamedType Global)) (w : declared_word.Word) → i < length ps → i < length ws → p ≡ get_or ps i p → w ≡ get_or ws i w →
    left_pointers m ps ws i ≡ is_made_for m (word_seen w) (named_tree p.now.value) && left_pointers m ps ws (i + 1)
pointer-step m ps ws i p w l k e f = rw (drop_more ps i p l, drop_more ws i w k, ← e, ← f) refl

pub pointer-more : (m : SymbolMemory) (ps : Pointers) (ws : Words) (i : ℕ) (p : Bor (Rc NamedType Global)) (w : declared_word.Word) (all : Bool) → i < length ps → length ps ≡ length ws → p ≡ get_or ps i p → w ≡ get_or ws i w →
    is_made_for m (word_seen w) (named_tree p.now.value) ≡ true → left_pointers m ps ws i ≡ all → left_pointers m ps ws (i + 1) ≡ all
pointer-more m ps ws i p w all l n e f h k = sym (ap (λ b. b && left_pointers m ps ws (i + 1)) h) ∙ sym (pointer-step m ps ws i p w l (omega arith) e f) ∙ k

pub pointers-done : (m : SymbolMemory) (ps : Pointers) (ws : Words) (i : ℕ) (all : Bool) → length ps ≤ i → length ps ≡ length ws → left_pointers m ps ws i ≡ all → true ≡ all
pointers-done m ps ws i all l n k = sym (rw (drop_all i ps l, drop_all i ws (omega arith)) refl) ∙ k

pub pointers-longer : (m : SymbolMemory) (ps : Pointers) (ws : Words) → length ps ≢ length ws → pointers_are m (pointer_trees ps) (words_of ws) ≡ false
pointers-longer m [] [] n = absurd (n refl)
pointers-longer m [] (w ∷ ws) n = refl
pointers-longer m (p ∷ ps) [] n = refl
pointers-longer m (p ∷ ps) (w ∷ ws) n = both (is_made_for m (word_seen w) (named_tree p.now.value)) (pointers-longer m ps ws (λ e. n (ap suc e)))
  where
    both : (t : Bool) → {u : Bool} → u ≡ false → t && u ≡ false
    both true e = e
    both false e = refl

pub ruleset pass_rules = (cell_rules, words-length, words-taken, words-dropped, one-long, two-long, hold-other, list-other, one-other, direct-list, direct-one, words-of-list, words-of-other, too-few, pass-more, pass-ends, pass-longer, pointer-more, pointers-done, pointers-longer)
