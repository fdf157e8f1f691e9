-- The symbols of two types from two places: when one is of the other's type, and when they are the same.
use Rattle.std.proofs.Common.{◌≡◌, ℕ, ◌+◌, Bool, true, false, not, cond, ◌&&◌, refl, sym, ap, ◌∙◌}
use Rattle.std.proofs.lemmas.Bool.{eq-eqb}
use Rattle.witx_ast.specs.declared.types.RecordKind.{RecordKind}
use Rattle.witx_ast.specs.Plain.{Plain, Fields}
use Rattle.witx_ast.specs.Alike.{same_plain}
use Rattle.witx_machine.proofs.Scalars.{truth, true_of}
use Rattle.witx_symbols.specs.Symbols.{Source, Symbol, part, atom, made, bare_made, is_of, are_of, symbol_from, parts_from, same_source, same_symbol, same_members}
use Rattle.witx_symbols.specs.Typing.{is_tuple_type}
use Rattle.witx_symbols.specs.Wholes.{same_whole, same_wholes, has_no_atom, have_no_atom}
use Rattle.witx_symbols.proofs.EachType.{each-type}
use Rattle.witx_symbols.proofs.SymbolLaws.{source_same, source_refl, symbol_same, symbol_refl}

pub atom-is : (t u : Plain) (s : Source) → is_of u (atom s t) ≡ not (is_tuple_type u) && same_plain t u
atom-is t u s = each-type (λ u. is_of u (atom s t) ≡ not (is_tuple_type u) && same_plain t u) (λ ms. refl) (λ r ms. refl) (λ ms. refl) (λ b. refl) refl (λ t. refl) (λ t. refl) (λ t. refl) (λ r cs. refl) u

-- the symbol of one type is of another
abbrev mutual
  pub whole-is : (t u : Plain) (s : Source) → is_of u (symbol_from t s) ≡ same_whole t u
  whole-is (Plain.record_of RecordKind.Tuple ms) (Plain.record_of RecordKind.Tuple ns) s = wholes-are ms ns s 0
  whole-is (Plain.record_of RecordKind.Tuple ms) (Plain.record_of (RecordKind.Bitflags r) ns) s = refl
  whole-is (Plain.record_of RecordKind.Tuple ms) (Plain.record_of RecordKind.Other ns) s = refl
  whole-is (Plain.record_of RecordKind.Tuple ms) (Plain.builtin b) s = refl
  whole-is (Plain.record_of RecordKind.Tuple ms) Plain.handle s = refl
  whole-is (Plain.record_of RecordKind.Tuple ms) (Plain.pointer_to u) s = refl
  whole-is (Plain.record_of RecordKind.Tuple ms) (Plain.const_pointer_to u) s = refl
  whole-is (Plain.record_of RecordKind.Tuple ms) (Plain.list_of u) s = refl
  whole-is (Plain.record_of RecordKind.Tuple ms) (Plain.variant_of r cs) s = refl
  whole-is (Plain.record_of (RecordKind.Bitflags r) ms) u s = atom-is (Plain.record_of (RecordKind.Bitflags r) ms) u s
  whole-is (Plain.record_of RecordKind.Other ms) u s = atom-is (Plain.record_of RecordKind.Other ms) u s
  whole-is (Plain.builtin b) u s = atom-is (Plain.builtin b) u s
  whole-is Plain.handle u s = atom-is Plain.handle u s
  whole-is (Plain.pointer_to t) u s = atom-is (Plain.pointer_to t) u s
  whole-is (Plain.const_pointer_to t) u s = atom-is (Plain.const_pointer_to t) u s
  whole-is (Plain.list_of t) u s = atom-is (Plain.list_of t) u s
  whole-is (Plain.variant_of r cs) u s = atom-is (Plain.variant_of r cs) u s

  pub wholes-are : (ms ns : Fields) (s : Source) (j : ℕ) → are_of ns (parts_from ms s j) ≡ same_wholes ms ns
  wholes-are Fields.no_fields Fields.no_fields s j = refl
  wholes-are Fields.no_fields (Fields.field m u ns) s j = refl
  wholes-are (Fields.field n t ms) Fields.no_fields s j = refl
  wholes-are (Fields.field n t ms) (Fields.field m u ns) s j =
      let a = whole-is t u (part s j) in
      let b = wholes-are ms ns s (j + 1) in
      λ k. a k && b k

flip : (a b : Bool) → a && b ≡ b && a
flip true true = refl
flip true false = refl
flip false true = refl
flip false false = refl

pub and_true : (b : Bool) → b && true ≡ b
and_true true = refl
and_true false = refl

pub atom-from : (t u : Plain) (s z : Source) → same_symbol (atom s t) (symbol_from u z) ≡ (not (is_tuple_type u) && same_plain t u) && same_source s z
atom-from t u s z = each-type (λ u. same_symbol (atom s t) (symbol_from u z) ≡ (not (is_tuple_type u) && same_plain t u) && same_source s z)
    (λ ms. refl) (λ r ms. turn _) (λ ms. turn _) (λ b. turn _) (turn _) (λ t. turn _) (λ t. turn _) (λ t. turn _) (λ r cs. turn _) u
  where
    turn : (b : Bool) → same_source s z && b ≡ b && same_source s z
    turn b = flip (same_source s z) b

pub mix : (a b c d q : Bool) → (a && cond b true q) && (c && cond d true q) ≡ (a && c) && cond (b && d) true q
mix false b c d q = refl
mix true true c d q = refl
mix true false c true true = refl
mix true false c false true = refl
mix true false true d false = refl
mix true false false d false = refl

-- the symbols of two types from two places are the same
abbrev mutual
  pub from-from : (t u : Plain) (s z : Source) → same_symbol (symbol_from t s) (symbol_from u z) ≡ same_whole t u && cond (has_no_atom t) true (same_source s z)
  from-from (Plain.record_of RecordKind.Tuple ms) (Plain.record_of RecordKind.Tuple ns) s z = parts-parts ms ns s z 0
  from-from (Plain.record_of RecordKind.Tuple ms) (Plain.record_of (RecordKind.Bitflags r) ns) s z = refl
  from-from (Plain.record_of RecordKind.Tuple ms) (Plain.record_of RecordKind.Other ns) s z = refl
  from-from (Plain.record_of RecordKind.Tuple ms) (Plain.builtin b) s z = refl
  from-from (Plain.record_of RecordKind.Tuple ms) Plain.handle s z = refl
  from-from (Plain.record_of RecordKind.Tuple ms) (Plain.pointer_to u) s z = refl
  from-from (Plain.record_of RecordKind.Tuple ms) (Plain.const_pointer_to u) s z = refl
  from-from (Plain.record_of RecordKind.Tuple ms) (Plain.list_of u) s z = refl
  from-from (Plain.record_of RecordKind.Tuple ms) (Plain.variant_of r cs) s z = refl
  from-from (Plain.record_of (RecordKind.Bitflags r) ms) u s z = atom-from (Plain.record_of (RecordKind.Bitflags r) ms) u s z
  from-from (Plain.record_of RecordKind.Other ms) u s z = atom-from (Plain.record_of RecordKind.Other ms) u s z
  from-from (Plain.builtin b) u s z = atom-from (Plain.builtin b) u s z
  from-from Plain.handle u s z = atom-from Plain.handle u s z
  from-from (Plain.pointer_to t) u s z = atom-from (Plain.pointer_to t) u s z
  from-from (Plain.const_pointer_to t) u s z = atom-from (Plain.const_pointer_to t) u s z
  from-from (Plain.list_of t) u s z = atom-from (Plain.list_of t) u s z
  from-from (Plain.variant_of r cs) u s z = atom-from (Plain.variant_of r cs) u s z

  pub parts-parts : (ms ns : Fields) (s z : Source) (j : ℕ) →
      same_members (parts_from ms s j) (parts_from ns z j) ≡ same_wholes ms ns && cond (have_no_atom ms) true (same_source s z)
  parts-parts Fields.no_fields Fields.no_fields s z j = refl
  parts-parts Fields.no_fields (Fields.field m u ns) s z j = refl
  parts-parts (Fields.field n t ms) Fields.no_fields s z j = refl
  parts-parts (Fields.field n t ms) (Fields.field m u ns) s z j =
      let place = ap (λ b. same_source s z && b) (eq-eqb j j refl) ∙ and_true (same_source s z) in
      let a = from-from t u (part s j) (part z j) ∙ ap (λ b. same_whole t u && cond (has_no_atom t) true b) place in
      let b = parts-parts ms ns s z (j + 1) in
      (λ k. a k && b k) ∙ mix (same_whole t u) (has_no_atom t) (same_wholes ms ns) (have_no_atom ms) (same_source s z)

-- as is told by what was found
pub whole-nowhere : (t u : Plain) (s z : Source) → same_whole t u ≡ false → same_symbol (symbol_from t s) (symbol_from u z) ≡ false
whole-nowhere t u s z e = from-from t u s z ∙ ap (λ b. b && cond (has_no_atom t) true (same_source s z)) e

pub whole-anywhere : (t u : Plain) (s z : Source) → same_whole t u ≡ true → has_no_atom t ≡ true → same_symbol (symbol_from t s) (symbol_from u z) ≡ true
whole-anywhere t u s z e h = from-from t u s z ∙ ap (λ b. b && cond (has_no_atom t) true (same_source s z)) e ∙ ap (λ b. cond b true (same_source s z)) h

pub whole-at : (t u : Plain) (s z : Source) → same_whole t u ≡ true → has_no_atom t ≡ false → same_symbol (symbol_from t s) (symbol_from u z) ≡ same_source s z
whole-at t u s z e h = from-from t u s z ∙ ap (λ b. b && cond (has_no_atom t) true (same_source s z)) e ∙ ap (λ b. cond b true (same_source s z)) h

pub made-from : (t : Plain) (s : Source) (i : ℕ) (v : Symbol) → same_symbol (made i v) (symbol_from t s) ≡ false
made-from t s i v = each-type (λ t. same_symbol (made i v) (symbol_from t s) ≡ false) (λ ms. refl) (λ r ms. refl) (λ ms. refl) (λ b. refl) refl (λ t. refl) (λ t. refl) (λ t. refl) (λ r cs. refl) t

pub bare-from : (t : Plain) (s : Source) (i : ℕ) → same_symbol (bare_made i) (symbol_from t s) ≡ false
bare-from t s i = each-type (λ t. same_symbol (bare_made i) (symbol_from t s) ≡ false) (λ ms. refl) (λ r ms. refl) (λ ms. refl) (λ b. refl) refl (λ t. refl) (λ t. refl) (λ t. refl) (λ r cs. refl) t

-- a test that finds nothing but equals finds the same either way round
pub turned : (v u : Symbol) → same_symbol v u ≡ same_symbol u v
turned v u = go (same_symbol v u) refl (same_symbol u v) refl
  where
    clash : false ≡ true → ⊥
    clash e = cc

    one : (v u : Symbol) → same_symbol v u ≡ true → same_symbol u v ≡ true
    one v u e = ap (λ x. same_symbol u x) (symbol_same v u (truth e)) ∙ true_of _ (symbol_refl u)

    go : (a : Bool) → same_symbol v u ≡ a → (b : Bool) → same_symbol u v ≡ b → same_symbol v u ≡ same_symbol u v
    go true e true h = e ∙ sym h
    go false e false h = e ∙ sym h
    go true e false h = absurd (clash (sym h ∙ one v u e))
    go false e true h = absurd (clash (sym e ∙ one u v h))

pub made-turned : (t : Plain) (s : Source) (i : ℕ) (v : Symbol) → same_symbol (symbol_from t s) (made i v) ≡ false
made-turned t s i v = turned (symbol_from t s) (made i v) ∙ made-from t s i v

pub bare-turned : (t : Plain) (s : Source) (i : ℕ) → same_symbol (symbol_from t s) (bare_made i) ≡ false
bare-turned t s i = turned (symbol_from t s) (bare_made i) ∙ bare-from t s i

-- two sources and a third
pub two-same : (s t z : Source) → same_source s t ≡ true → same_source s z ≡ same_source s z && same_source t z
two-same s t z e = sym (ap (λ x. same_source s z && same_source x z) (sym (source_same s t (truth e))) ∙ self (same_source s z))
  where
    self : (b : Bool) → b && b ≡ b
    self true = refl
    self false = refl

pub two-differ : (s t z : Source) → same_source s t ≡ false → false ≡ same_source s z && same_source t z
two-differ s t z e = go (same_source s z) refl (same_source t z) refl
  where
    clash : false ≡ true → ⊥
    clash e = cc

    go : (a : Bool) → same_source s z ≡ a → (b : Bool) → same_source t z ≡ b → false ≡ same_source s z && same_source t z
    go false f b h = sym (ap (λ a. a && same_source t z) f)
    go true f false h = sym (ap (λ a. a && same_source t z) f ∙ h)
    go true f true h = absurd (clash (sym e ∙ ap (λ x. same_source x t) (source_same s z (truth f)) ∙ ap (λ x. same_source z x) (source_same t z (truth h)) ∙ true_of _ (source_refl z)))
