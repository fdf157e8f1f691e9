-- A signature, type by type: what the reader takes from the text of a signature is the signature.
use Rattle.std.proofs.Common.{◌≡◌, ℕ, ◌<◌, List, [], ◌∷◌, ◌++◌, length, drop, true, false, refl, sym, ap, ◌∙◌, subst, Some, None, arith, append_assoc, append-nil, length-append, if◌then◌else◌}
use Rattle.std.specs.Prelude.{codes}
use Rattle.std.specs.List.{flat_map}
use Rattle.std.proofs.lemmas.Bool.{ne_eqb}
use Rattle.witx_base.specs.Texts.{same_text}
use Rattle.witx_base.proofs.Names.{same-equal}
use Rattle.witx_machine.specs.declared.surface.WasmType.{WasmType}
use Rattle.witx_adapt.specs.Names.{signature, spaced, wasm_word, wasm_words}
use Rattle.witx_traces.specs.LineReading.{IsBehind, IsFirstType, SignatureAt, TypesAt, behind_space}
use Rattle.witx_traces.proofs.OneEvent.{opened, word-same, word-begins}

-- ---- the first type

pub no-first : (text : List ℕ) → IsBehind (codes "i32") text None → IsBehind (codes "i64") text None → IsBehind (codes "f32") text None → IsBehind (codes "f64") text None → IsFirstType text None
no-first text a b c d = record { none = λ p. by p.0 p.1 }
  where
    by : (t : WasmType) (rest : List ℕ) → text ≡ wasm_word t ++ rest → ⊥
    by WasmType.I32 rest e = a.none rest e
    by WasmType.I64 rest e = b.none rest e
    by WasmType.F32 rest e = c.none rest e
    by WasmType.F64 rest e = d.none rest e

pub shorter-behind : (front text rest : List ℕ) → text ≡ front ++ rest → 0 < length front → length rest < length text
shorter-behind front text rest e l = let all = ap length e in omega (arith, all, length-append front rest, l)

pub space-there : (text rest : List ℕ) → text ≡ 32 ∷ rest → rest ≡ behind_space text
space-there text rest e = sym (ap behind_space e)

no-space-by : (b : ℕ) (s : List ℕ) → (b ≡ 32 → ⊥) → b ∷ s ≡ behind_space (b ∷ s)
no-space-by b s f = sym (ap (λ t. if t then s else b ∷ s) (ne_eqb b 32 f))

pub no-space : (text : List ℕ) → IsBehind (codes " ") text None → text ≡ behind_space text
no-space [] h = refl
no-space (b ∷ s) h = no-space-by b s (λ e. h.none s (ap (λ z. z ∷ s) e))

pub ruleset type_rules = (no-first, shorter-behind, space-there, no-space)

-- ---- the loop over types

-- whatever types stand behind, with the types so far they stand in the whole
abbrev pub TypesOn : List ℕ → List WasmType → List ℕ → Type 0
TypesOn text done rest = (ts : List WasmType) (end : List ℕ) → TypesAt rest ts end → TypesAt text (done ++ ts) end

pub one-type-on : (text rest more behind : List ℕ) (done now : List WasmType) (t : WasmType) → TypesOn text done rest → rest ≡ wasm_word t ++ more → behind ≡ behind_space more → now ≡ done ++ t ∷ [] → TypesOn text now behind
one-type-on text rest more behind done now t f e b p = λ ts end s.
    subst (λ z. TypesAt text z end) (sym (append_assoc done (t ∷ []) ts) ∙ ap (λ z. z ++ ts) (sym p))
    (f (t ∷ ts) end (more, e, subst (λ z. TypesAt z ts end) b s))

pub no-type-on : (text rest : List ℕ) (done : List WasmType) → TypesOn text done rest → IsFirstType rest None → TypesAt text done rest
no-type-on text rest done f h = subst (λ z. TypesAt text z rest) (append-nil done) (f [] rest (h, refl))

pub ruleset loop_rules = (one-type-on, no-type-on)

-- ---- the text of a signature

-- these types stand there, up to a parenthesis
record Closed (ps : List WasmType) (rest : List ℕ) (ts : List WasmType) (end : List ℕ) : Type 0 where
  types : ts ≡ ps
  behind : end ≡ 41 ∷ rest

none-here : (rest end : List ℕ) (ts : List WasmType) → TypesAt (41 ∷ rest) ts end → Closed [] rest ts end
none-here rest end [] h = record { types = refl; behind = h.1 }
none-here rest end (t ∷ us) (more, e, s) = absurd (word-begins t rest more e)

-- what stands behind a type
abbrev behind_type : List WasmType → List ℕ → List ℕ
behind_type ps rest = flat_map spaced ps ++ (41 ∷ rest)

space-behind : (p : WasmType) (ps : List WasmType) (rest : List ℕ) → behind_space (behind_type (p ∷ ps) rest) ≡ wasm_word p ++ behind_type ps rest
space-behind p ps rest = append_assoc (wasm_word p) (flat_map spaced ps) (41 ∷ rest)

types-here : (p : WasmType) (ps : List WasmType) (rest end : List ℕ) (ts : List WasmType) → TypesAt (wasm_word p ++ behind_type ps rest) ts end → Closed (p ∷ ps) rest ts end
types-here p ps rest end [] h = absurd (h.0.none (p, behind_type ps rest) refl)
types-here p [] rest end (t ∷ us) (more, e, s) =
    let same = word-same t p more (41 ∷ rest) (sym e) in
    let none = none-here rest end us (subst (λ z. TypesAt z us end) (ap behind_space same.1) s) in
    record { types = ap (λ z. z ∷ us) same.0 ∙ ap (λ z. p ∷ z) none.types; behind = none.behind }
types-here p (q ∷ ps) rest end (t ∷ us) (more, e, s) =
    let same = word-same t p more (behind_type (q ∷ ps) rest) (sym e) in
    let here = types-here q ps rest end us (subst (λ z. TypesAt z us end) (ap behind_space same.1 ∙ space-behind q ps rest) s) in
    record { types = ap (λ z. z ∷ us) same.0 ∙ ap (λ z. p ∷ z) here.types; behind = here.behind }

group-here : (ps : List WasmType) (rest end : List ℕ) (ts : List WasmType) → TypesAt (wasm_words ps ++ (41 ∷ rest)) ts end → Closed ps rest ts end
group-here [] rest end ts s = none-here rest end ts s
group-here (p ∷ ps) rest end ts s = types-here p ps rest end ts (subst (λ z. TypesAt z ts end) (append_assoc (wasm_word p) (flat_map spaced ps) (41 ∷ rest)) s)

-- what stands behind the parameters of a signature
abbrev results_text : List WasmType → List ℕ
results_text rs = wasm_words rs ++ (41 ∷ [])

record Begun (text inside : List ℕ) (ts : List WasmType) (rest : List ℕ) : Type 0 where
  params : (ps rs : List WasmType) → text ≡ signature ps rs → ts ≡ ps
  behind : (ps rs : List WasmType) → text ≡ signature ps rs → rest ≡ codes ") -> (" ++ results_text rs

cons-same : (a : ℕ) (xs ys : List ℕ) → a ∷ xs ≡ a ∷ ys → xs ≡ ys
cons-same a xs ys e = cc

begun : (text inside : List ℕ) (ts : List WasmType) (rest : List ℕ) → text ≡ 40 ∷ inside → TypesAt inside ts rest → Begun text inside ts rest
begun text inside ts rest e s =
    let at : (ps rs : List WasmType) → text ≡ signature ps rs → Closed ps (codes " -> (" ++ results_text rs) ts rest =
    λ ps rs is. group-here ps (codes " -> (" ++ results_text rs) rest ts (subst (λ z. TypesAt z ts rest) (cons-same 40 inside _ (sym e ∙ (is ∙ opened ps rs))) s) in
    record { params = λ ps rs is. (at ps rs is).types; behind = λ ps rs is. (at ps rs is).behind }

pub no-open : (text : List ℕ) → IsBehind (codes "(") text None → SignatureAt text None
no-open text h = record { none = λ p is. h.none _ (is.same ∙ opened p.0 p.1) }

pub no-arrow : (text inside rest : List ℕ) (ts : List WasmType) → text ≡ 40 ∷ inside → TypesAt inside ts rest → IsBehind (codes ") -> (") rest None → SignatureAt text None
no-arrow text inside rest ts e s h = record { none = λ p is. h.none (results_text p.1) ((begun text inside ts rest e s).behind p.0 p.1 is.same) }

pub other-signature : (text inside rest inner end : List ℕ) (ts us : List WasmType) → text ≡ 40 ∷ inside → TypesAt inside ts rest → rest ≡ codes ") -> (" ++ inner → TypesAt inner us end
    → same_text (signature ts us) text ≡ false → SignatureAt text None
other-signature text inside rest inner end ts us e s r t other = record { none = λ p is. differs p.0 p.1 is.same }
  where
    differs : (ps rs : List WasmType) → text ≡ signature ps rs → ⊥
    differs ps rs is =
        let b = begun text inside ts rest e s in
        let same : inner ≡ results_text rs = ap (drop 6) (sym r ∙ b.behind ps rs is) in
        let results = (group-here rs [] end us (subst (λ z. TypesAt z us end) same t)).types in
        let whole : signature ts us ≡ text = ap (λ z. signature z us) (b.params ps rs is) ∙ (ap (signature ps) results ∙ sym is) in
        let yes = (same-equal (signature ts us) text).1 whole in
        let wrong : false ≡ true = sym other ∙ yes in
        absurd (cc)

pub own-signature : (text : List ℕ) (ts us : List WasmType) → same_text (signature ts us) text ≡ true → SignatureAt text (Some (ts, us))
own-signature text ts us e = record { same = sym ((same-equal (signature ts us) text).0 e) }

pub ruleset signature_rules = (no-open, no-arrow, other-signature, own-signature)
