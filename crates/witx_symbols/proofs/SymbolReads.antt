-- What each kind of symbol is read as, and how lists of them are compared.
use Rattle.std.proofs.Common.{◌≡◌, ℕ, Bool, true, ◌&&◌, List, [], ◌∷◌, map, refl, sym, ap, ◌∙◌, rules}
use Rattle.std.specs.Prelude.{nat_eq}
use Rattle.std.proofs.lemmas.Bool.{eq-eqb}
use Rattle.std.specs.declared.alloc.Global.{Global}
use Rattle.std.specs.declared.rc.Rc.{Rc}
use Rattle.std.specs.Cmp.Lexicographic.{pointwise}
use Rattle.witx_ast.specs.declared.types.TypeRef.{TypeRef}
use Rattle.witx_ast.specs.Plain.{plain}
use Rattle.witx_ast.specs.Views.{tree_of}
use Rattle.witx_run.proofs.PairLemmas.{pair-more, pair-fails, pairs-end, pairs-uneven}
use Rattle.witx_symbols.specs.Symbols as symbols
use Rattle.witx_symbols.specs.SymbolViews.{source_of, symbol_of, symbols_read}
use Rattle.witx_symbols.specs.Symbols.{same_symbol, same_members}
use Rattle.witx_symbols.specs.declared.symbol.Source.{Source}
use Rattle.witx_symbols.specs.declared.symbol.Source as declared_source
use Rattle.witx_symbols.specs.declared.symbol.Source.TheVariants as source
use Rattle.witx_symbols.specs.declared.symbol.Symbol.{Symbol}
use Rattle.witx_symbols.specs.declared.symbol.Symbol as declared_symbol
use Rattle.witx_symbols.specs.declared.symbol.Symbol.TheVariants as symbol

pub read-argument : (i : ℕ) → source_of (source.Argument i) ≡ symbols.argument i
unfolding source_of
read-argument i = search (rules, declared_source.the_lemmas)

pub read-payload : source_of source.Payload ≡ symbols.payload
unfolding source_of
read-payload = search (rules, declared_source.the_lemmas)

pub read-reply : source_of source.Reply ≡ symbols.reply
unfolding source_of
read-reply = search (rules, declared_source.the_lemmas)

pub read-part : (s : Rc Source Global) (j : ℕ) → source_of (source.Part s j) ≡ symbols.part (source_of s.value) j
unfolding source_of
read-part s j = search (rules, declared_source.the_lemmas)

pub read-atom : (s : Rc Source Global) (t : TypeRef) → symbol_of (symbol.Atom s t) ≡ symbols.symbol_from (plain (tree_of t)) (source_of s.value)
unfolding symbol_of
read-atom s t = search (rules, declared_symbol.the_lemmas)

map-twice : {A B C : Type 0} (f : B → C) (g : A → B) (xs : List A) → map f (map g xs) ≡ map (λ x. f (g x)) xs
map-twice f g [] = refl
map-twice f g (x ∷ xs) = ap (λ l. f (g x) ∷ l) (map-twice f g xs)

pub read-tuple : (vs : List (Rc Symbol Global)) → symbol_of (symbol.Tuple vs) ≡ symbols.tuple (symbols_read vs)
unfolding symbol_of
read-tuple vs = search (rules, declared_symbol.the_lemmas, map-twice)

pub read-made : (i : ℕ) (v : Rc Symbol Global) → symbol_of (symbol.Made i v) ≡ symbols.made i (symbol_of v.value)
unfolding symbol_of
read-made i v = search (rules, declared_symbol.the_lemmas)

pub read-bare : (i : ℕ) → symbol_of (symbol.BareMade i) ≡ symbols.bare_made i
unfolding symbol_of
read-bare i = search (rules, declared_symbol.the_lemmas)

number-same : (i j : ℕ) → i ≡ j → true ≡ nat_eq i j
number-same i j e = sym (eq-eqb i j e)

pub made-same : (i j : ℕ) (v u : Rc Symbol Global) (t : Bool) → i ≡ j → t ≡ same_symbol (symbol_of v.value) (symbol_of u.value) → t ≡ same_symbol (symbol_of (symbol.Made i v)) (symbol_of (symbol.Made j u))
made-same i j v u t e h = rw (read-made i v, read-made j u) (h ∙ ap (λ b. b && same_symbol (symbol_of v.value) (symbol_of u.value)) (number-same i j e))

-- lists of symbols
abbrev pub Shared : Type 0
Shared = Rc Symbol Global

abbrev pub one_same : Shared → Shared → Bool
one_same x y = same_symbol (symbol_of x.value) (symbol_of y.value)

pub members-pairs : (a b : List Shared) → same_members (symbols_read a) (symbols_read b) ≡ pointwise one_same a b
members-pairs [] [] = refl
members-pairs [] (y ∷ b) = refl
members-pairs (x ∷ a) [] = refl
members-pairs (x ∷ a) (y ∷ b) = ap (λ t. one_same x y && t) (members-pairs a b)

pub ruleset symbol_rules = (read-argument, read-payload, read-reply, read-part, read-atom, read-tuple, read-made, read-bare, members-pairs, pair-more, pair-fails, pairs-end, pairs-uneven)
