-- Readings of types and imports are exact for their forms.
use Rattle.std.proofs.Common.{◌≡◌, ℕ, ◌<◌, ◌≤◌, Bool, true, false, cond, ltb, eqb, List, [], ◌∷◌, ◌++◌, Option, Some, None, Result, Ok, Err, ◌⊎◌, inl, inr, refl, ap, subst, ◌∙◌, arith}
use Rattle.std.proofs.lemmas.Bool.{eqb-true, eqb-false, ltb-true, ltb-false, lt-ltb}
use Rattle.witx_wasm.proofs.Exact.{Takes, IsExact, takes-before, bind_ok, guard_ok, hold_ok, ok_is, again-before, pair-exact, byte-exact, u32-exact, vector-exact, name-exact}
use Rattle.witx_wasm.specs.Binary.{IsValueType, IsFunctionType, AreLimits, IsLimits, IsTableType, IsGlobalType, IsDescription}
use Rattle.witx_wasm.specs.Codes.{reference_code, value_code, mutability_code}
use Rattle.witx_wasm.specs.Forms.{byte, ◌before◌, IsU32, IsVector, IsName}
use Rattle.witx_wasm.specs.Modules.{HasType}
use Rattle.witx_wasm.specs.Readers.{Reading, ◌>>=◌, stop, byte_at, u32_at, vector_at, name_at}
use Rattle.witx_wasm.specs.Reading.{reference_of, value_of_reference, value_type_of, reference_fault, value_fault, type_form_fault, decoded, reference_at, value_at, function_type_at, limits_fault, limits_at, table_at, mutability_at, global_at, type_number_at, described, kind_fault, description_at, import_at}
use Rattle.witx_wasm.specs.declared.fault.FaultKind.{FaultKind}
use Rattle.witx_wasm.specs.declared.fault.FaultKind.TheVariants as kinds
use Rattle.witx_wasm.specs.declared.module.FunctionType.{FunctionType}
use Rattle.witx_wasm.specs.declared.module.Import.{Import}
use Rattle.witx_wasm.specs.declared.module.ImportDescription.{ImportDescription}
use Rattle.witx_wasm.specs.declared.module.ImportDescription.TheVariants.{Function, Table, Memory, Global}
use Rattle.witx_wasm.specs.declared.module.Limits.{Limits}
use Rattle.witx_wasm.specs.declared.module.ReferenceType.{ReferenceType}
use Rattle.witx_wasm.specs.declared.module.ReferenceType.TheVariants.{Func, Extern}
use Rattle.witx_wasm.specs.declared.module.ValueType.{ValueType}
use Rattle.witx_wasm.specs.declared.module.ValueType.TheVariants.{I32, I64, F32, F64, Reference}

-- ---- bytes that stand for types

abbrev some : {A : Type 0} → A → Option A
some x = Some x

chosen : {A : Type 0} (t : Bool) (x : A) (o : Option A) (y : A) → cond t (Some x) o ≡ Some y → ((t ≡ true) × (x ≡ y)) ⊎ ((t ≡ false) × (o ≡ Some y))
chosen true x o y e = inl (refl, cc)
chosen false x o y e = inr (refl, e)

reference-is : (b : ℕ) (r : ReferenceType) → reference_of b ≡ Some r → b ≡ reference_code r
reference-is b r e =
    elim (chosen (eqb b 0x70) Func (cond (eqb b 0x6F) (Some Extern) None) r e) [
      | inl h ↦ eqb-true b 0x70 h.0 ∙ ap reference_code h.1
      | inr h ↦ elim (chosen (eqb b 0x6F) Extern None r h.1) [
        | inl k ↦ eqb-true b 0x6F k.0 ∙ ap reference_code k.1
        | inr k ↦ absurd cc
      ]
    ]

reference-code : (r : ReferenceType) → reference_of (reference_code r) ≡ Some r
reference-code Func = refl
reference-code Extern = refl

value-of-reference : (b : ℕ) (o : Option ReferenceType) (t : ValueType) → reference_of b ≡ o → value_of_reference o ≡ Some t → b ≡ value_code t
value-of-reference b None t is e = absurd cc
value-of-reference b (Some r) t is e =
    let same : Reference r ≡ t = cc in
    reference-is b r is ∙ ap value_code same

value-is : (b : ℕ) (t : ValueType) → value_type_of b ≡ Some t → b ≡ value_code t
value-is b t e =
    let last = value_of_reference (reference_of b) in
    elim (chosen (eqb b 0x7F) I32 (cond (eqb b 0x7E) (Some I64) (cond (eqb b 0x7D) (Some F32) (cond (eqb b 0x7C) (Some F64) last))) t e) [
      | inl h ↦ eqb-true b 0x7F h.0 ∙ ap value_code h.1
      | inr h ↦ elim (chosen (eqb b 0x7E) I64 (cond (eqb b 0x7D) (Some F32) (cond (eqb b 0x7C) (Some F64) last)) t h.1) [
        | inl k ↦ eqb-true b 0x7E k.0 ∙ ap value_code k.1
        | inr k ↦ elim (chosen (eqb b 0x7D) F32 (cond (eqb b 0x7C) (Some F64) last) t k.1) [
          | inl l ↦ eqb-true b 0x7D l.0 ∙ ap value_code l.1
          | inr l ↦ elim (chosen (eqb b 0x7C) F64 last t l.1) [
            | inl m ↦ eqb-true b 0x7C m.0 ∙ ap value_code m.1
            | inr m ↦ value-of-reference b (reference_of b) t refl m.1
          ]
        ]
      ]
    ]

value-code : (t : ValueType) → value_type_of (value_code t) ≡ Some t
value-code I32 = refl
value-code I64 = refl
value-code F32 = refl
value-code F64 = refl
value-code (Reference Func) = refl
value-code (Reference Extern) = refl

decoded-ok : {A : Type 0} (kind : FaultKind) (bytes behind : List ℕ) (o : Option A) (x : A) (rest : List ℕ) → decoded kind bytes behind o ≡ Ok (x, rest)
    → (o ≡ Some x) × (behind ≡ rest)
decoded-ok kind bytes behind None x rest e = absurd cc
decoded-ok kind bytes behind (Some y) x rest e =
    let p = ok_is (y, behind) (x, rest) e in
    (ap (λ q. some q.0) p, ap (λ q. q.1) p)

module _ {A : Type 0} (of_byte : ℕ → Option A) (code : A → ℕ) (fault : ℕ → FaultKind)
    (is : (b : ℕ) (x : A) → of_byte b ≡ Some x → b ≡ code x) (back : (x : A) → of_byte (code x) ≡ Some x) where
  abbrev pub coded : List ℕ → Reading A
  coded bytes = byte_at bytes >>= λ b. decoded (fault b.0) bytes b.1 (of_byte b.0)

  coded-sound : (bytes : List ℕ) (x : A) (rest : List ℕ) → coded bytes ≡ Ok (x, rest) → Takes (byte (code x)) bytes rest
  coded-sound bytes x rest e =
      let a = bind_ok (byte_at bytes) (λ b. decoded (fault b.0) bytes b.1 (of_byte b.0)) (x, rest) e in
      let d = decoded-ok (fault a.0.0) bytes a.0.1 (of_byte a.0.0) x rest a.2 in
      let t = byte-exact.sound bytes a.0.0 a.0.1 a.1 in
      (t.0, t.1 ∙ ap (λ (r : List ℕ). t.0 ++ r) d.1, t.2 ∙ ap (λ (k : ℕ). k ∷ []) (is a.0.0 x d.0))

  coded-again : (x : A) (front rest : List ℕ) → byte (code x) front → coded (front ++ rest) ≡ Ok (x, rest)
  coded-again x front rest h =
      ap (λ (r : Reading ℕ). r >>= λ b. decoded (fault b.0) (front ++ rest) b.1 (of_byte b.0)) (byte-exact.again (code x) front rest h)
      ∙ ap (decoded (fault (code x)) (front ++ rest) rest) (back x)

  pub coded-exact : IsExact coded (λ x. byte (code x))
  coded-exact = record { sound = coded-sound; again = coded-again }

pub reference-exact : IsExact reference_at (λ r. byte (reference_code r))
unfolding reference_at
reference-exact = coded-exact reference_of reference_code (reference_fault kinds.ReferenceType) reference-is reference-code

pub value-exact : IsExact value_at IsValueType
unfolding value_at
value-exact = coded-exact value_type_of value_code value_fault value-is value-code

-- ---- functions

abbrev a_function : FunctionType → List ℕ → FunctionType × List ℕ
a_function t rest = (t, rest)

function-made : (bytes : List ℕ) (t : FunctionType) (rest : List ℕ) (ps rs : List ValueType) (behind : List ℕ) → a_function (record { params = ps; results = rs }) behind ≡ a_function t rest
    → Takes (byte 0x60 before IsVector IsValueType ps before IsVector IsValueType rs) bytes behind → Takes (IsFunctionType t) bytes rest
function-made bytes t rest ps rs behind same h = subst (λ (p : FunctionType × List ℕ). Takes (IsFunctionType p.0) bytes p.1) same h

-- what function_type_at is behind the form, and behind the parameters
abbrev with_results : List ValueType → List ValueType × List ℕ → Reading FunctionType
with_results params results = Ok (record { params = params; results = results.0 }, results.1)

abbrev with_params : List ValueType × List ℕ → Reading FunctionType
with_params params = vector_at value_at params.1 >>= with_results params.0

function-sound : (bytes : List ℕ) (t : FunctionType) (rest : List ℕ) → function_type_at bytes ≡ Ok (t, rest) → Takes (IsFunctionType t) bytes rest
unfolding function_type_at
function-sound bytes t rest e =
    let a = bind_ok (byte_at bytes) (λ form. cond (eqb form.0 0x60) (vector_at value_at form.1 >>= with_params) (Err (stop (type_form_fault form.0) bytes))) (t, rest) e in
    let h = hold_ok (eqb a.0.0 0x60) (stop (type_form_fault a.0.0) bytes) (vector_at value_at a.0.1 >>= with_params) (t, rest) a.2 in
    let b = bind_ok (vector_at value_at a.0.1) with_params (t, rest) h.1 in
    let c = bind_ok (vector_at value_at b.0.1) (with_results b.0.0) (t, rest) b.2 in
    let vectors = vector-exact value_at IsValueType value-exact in
    let form : Takes (byte 0x60) bytes a.0.1 = subst (λ (k : ℕ). Takes (byte k) bytes a.0.1) (eqb-true _ _ h.0) (byte-exact.sound bytes a.0.0 a.0.1 a.1) in
    function-made bytes t rest b.0.0 c.0.0 c.0.1 (ok_is (record { params = b.0.0; results = c.0.0 }, c.0.1) (t, rest) c.2)
    (takes-before (byte 0x60) (IsVector IsValueType b.0.0 before IsVector IsValueType c.0.0) bytes a.0.1 c.0.1 form
    (takes-before (IsVector IsValueType b.0.0) (IsVector IsValueType c.0.0) a.0.1 b.0.1 c.0.1 (vectors.sound a.0.1 b.0.0 b.0.1 b.1) (vectors.sound b.0.1 c.0.0 c.0.1 c.1)))

function-again : (t : FunctionType) (front rest : List ℕ) → IsFunctionType t front → function_type_at (front ++ rest) ≡ Ok (t, rest)
unfolding function_type_at
function-again t front rest h =
    let vectors = vector-exact value_at IsValueType value-exact in
    again-before byte_at byte byte-exact _ 0x60 (IsVector IsValueType t.params before IsVector IsValueType t.results) front rest (t, rest) h (λ b p.
    again-before (vector_at value_at) (IsVector IsValueType) vectors _ t.params (IsVector IsValueType t.results) b rest (t, rest) p (λ c q.
    rw (vectors.again t.results c rest q) refl))

pub function-exact : IsExact function_type_at IsFunctionType
function-exact = record { sound = function-sound; again = function-again }

-- ---- limits, tables, globals

zero-or-one : (n : ℕ) → n ≤ 1 → eqb n 0 ≡ false → n ≡ 1
zero-or-one n le h = let ne = eqb-false n 0 h in omega (arith, ne, le)

-- what limits_at is behind the flag
abbrev with_most : ℕ → ℕ × List ℕ → Reading Limits
with_most least most = Ok (record { least = least; most = Some most.0 }, most.1)

abbrev with_least : Bool → ℕ × List ℕ → Reading Limits
with_least t least = cond t (Ok (record { least = least.0; most = None }, least.1)) (u32_at least.1 >>= with_most least.0)

limits-rest : (bytes behind : List ℕ) (flag : ℕ) (l : Limits) (rest : List ℕ) (t : Bool) → Takes (byte flag) bytes behind → flag ≤ 1 → eqb flag 0 ≡ t
    → (u32_at behind >>= with_least t) ≡ Ok (l, rest) → Takes (IsLimits l) bytes rest
limits-rest bytes behind flag l rest true taken small is e =
    let a = bind_ok (u32_at behind) (with_least true) (l, rest) e in
    let first = subst (λ (k : ℕ). Takes (byte k) bytes behind) (eqb-true flag 0 is) taken in
    let made : Limits × List ℕ = (record { least = a.0.0; most = None }, a.0.1) in
    subst (λ (p : Limits × List ℕ). Takes (IsLimits p.0) bytes p.1) (ok_is made (l, rest) a.2)
    (takes-before (byte 0) (IsU32 a.0.0) bytes behind a.0.1 first (u32-exact.sound behind a.0.0 a.0.1 a.1))
limits-rest bytes behind flag l rest false taken small is e =
    let a = bind_ok (u32_at behind) (with_least false) (l, rest) e in
    let b = bind_ok (u32_at a.0.1) (with_most a.0.0) (l, rest) a.2 in
    let first = subst (λ (k : ℕ). Takes (byte k) bytes behind) (zero-or-one flag small is) taken in
    let made : Limits × List ℕ = (record { least = a.0.0; most = Some b.0.0 }, b.0.1) in
    subst (λ (p : Limits × List ℕ). Takes (IsLimits p.0) bytes p.1) (ok_is made (l, rest) b.2)
    (takes-before (byte 1) (IsU32 a.0.0 before IsU32 b.0.0) bytes behind b.0.1 first
    (takes-before (IsU32 a.0.0) (IsU32 b.0.0) behind a.0.1 b.0.1 (u32-exact.sound behind a.0.0 a.0.1 a.1) (u32-exact.sound a.0.1 b.0.0 b.0.1 b.1)))

limits-sound : (bytes : List ℕ) (l : Limits) (rest : List ℕ) → limits_at bytes ≡ Ok (l, rest) → Takes (IsLimits l) bytes rest
unfolding limits_at
limits-sound bytes l rest e =
    let a = bind_ok (byte_at bytes) (λ flag. cond (ltb 1 flag.0) (Err (stop (limits_fault flag.0) bytes)) (u32_at flag.1 >>= with_least (eqb flag.0 0))) (l, rest) e in
    let g = guard_ok (ltb 1 a.0.0) (stop (limits_fault a.0.0) bytes) (u32_at a.0.1 >>= with_least (eqb a.0.0 0)) (l, rest) a.2 in
    limits-rest bytes a.0.1 a.0.0 l rest (eqb a.0.0 0) (byte-exact.sound bytes a.0.0 a.0.1 a.1) (ltb-false _ _ g.0) refl g.1

limits-again : (least : ℕ) (most : Option ℕ) (front rest : List ℕ) → AreLimits least most front → limits_at (front ++ rest) ≡ Ok (record { least = least; most = most }, rest)
unfolding limits_at
limits-again least None front rest h =
    again-before byte_at byte byte-exact _ 0 (IsU32 least) front rest (record { least = least; most = None }, rest) h (λ b p. rw (u32-exact.again least b rest p) refl)
limits-again least (Some most) front rest h =
    again-before byte_at byte byte-exact _ 1 (IsU32 least before IsU32 most) front rest (record { least = least; most = Some most }, rest) h (λ b p.
    again-before u32_at IsU32 u32-exact _ least (IsU32 most) b rest (record { least = least; most = Some most }, rest) p (λ c q. rw (u32-exact.again most c rest q) refl))

pub limits-exact : IsExact limits_at IsLimits
limits-exact = record { sound = limits-sound; again = λ l front rest. limits-again l.least l.most front rest }

pub table-exact : IsExact table_at IsTableType
unfolding table_at
table-exact =
    pair-exact reference_at (λ r. byte (reference_code r)) limits_at IsLimits reference-exact limits-exact (λ element limits. record { element = element; limits = limits }) (λ t. t.element) (λ t. t.limits)
    (λ t. refl) (λ element limits. (refl, refl))

mutable-is : (n : ℕ) (t : Bool) → n ≤ 1 → eqb n 1 ≡ t → n ≡ mutability_code t
mutable-is n true le h = eqb-true n 1 h
mutable-is n false le h = let ne = eqb-false n 1 h in omega (arith, ne, le)

mutability-sound : (bytes : List ℕ) (m : Bool) (rest : List ℕ) → mutability_at bytes ≡ Ok (m, rest) → Takes (byte (mutability_code m)) bytes rest
unfolding mutability_at
mutability-sound bytes m rest e =
    let a = bind_ok (byte_at bytes) (λ b. cond (ltb 1 b.0) (Err (stop kinds.Mutability bytes)) (Ok (eqb b.0 1, b.1))) (m, rest) e in
    let made : Bool × List ℕ = (eqb a.0.0 1, a.0.1) in
    let g = guard_ok (ltb 1 a.0.0) (stop kinds.Mutability bytes) (Ok made) (m, rest) a.2 in
    let t = byte-exact.sound bytes a.0.0 a.0.1 a.1 in
    subst (λ (p : Bool × List ℕ). Takes (byte (mutability_code p.0)) bytes p.1) (ok_is made (m, rest) g.1)
    (subst (λ (k : ℕ). Takes (byte k) bytes a.0.1) (mutable-is a.0.0 (eqb a.0.0 1) (ltb-false _ _ g.0) refl) t)

mutability-again : (m : Bool) (front rest : List ℕ) → byte (mutability_code m) front → mutability_at (front ++ rest) ≡ Ok (m, rest)
unfolding mutability_at
mutability-again true front rest h = rw (byte-exact.again 1 front rest h) refl
mutability-again false front rest h = rw (byte-exact.again 0 front rest h) refl

mutability-exact : IsExact mutability_at (λ m. byte (mutability_code m))
mutability-exact = record { sound = mutability-sound; again = mutability-again }

pub global-exact : IsExact global_at IsGlobalType
unfolding global_at
global-exact =
    pair-exact value_at IsValueType mutability_at (λ m. byte (mutability_code m)) value-exact mutability-exact (λ value mutable. record { value = value; mutable = mutable }) (λ g. g.value) (λ g. g.mutable)
    (λ g. refl) (λ value mutable. (refl, refl))

-- ---- imports, in a module of so many types

-- which of two readings was picked
pub picked : {A E : Type 0} (t : Bool) (r s : Result A E) (y : A) → cond t r s ≡ Ok y → ((t ≡ true) × (r ≡ Ok y)) ⊎ ((t ≡ false) × (s ≡ Ok y))
picked true r s y e = inl (refl, e)
picked false r s y e = inr (refl, e)

module _ (count : ℕ) where
  -- the form of what is wanted, where the module has the type
  abbrev pub IsKnown : ImportDescription → List ℕ → Type 0
  IsKnown d bytes = IsDescription d bytes × HasType count d

  number-sound : (bytes : List ℕ) (n : ℕ) (rest : List ℕ) → type_number_at count bytes ≡ Ok (n, rest) → Takes (IsU32 n) bytes rest × (n < count)
  unfolding type_number_at
  number-sound bytes n rest e =
      let a = bind_ok (u32_at bytes) (λ number. cond (ltb number.0 count) (Ok number) (Err (stop kinds.UnknownType bytes))) (n, rest) e in
      let found : Reading ℕ = Ok a.0 in
      let h = hold_ok (ltb a.0.0 count) (stop kinds.UnknownType bytes) found (n, rest) a.2 in
      subst (λ (p : ℕ × List ℕ). Takes (IsU32 p.0) bytes p.1 × (p.0 < count)) (ok_is a.0 (n, rest) h.1) (u32-exact.sound bytes a.0.0 a.0.1 a.1, ltb-true _ _ h.0)

  number-again : (n : ℕ) (front rest : List ℕ) → n < count → IsU32 n front → type_number_at count (front ++ rest) ≡ Ok (n, rest)
  unfolding type_number_at
  number-again n front rest lt h = rw (u32-exact.again n front rest h, lt-ltb n count lt) refl

  -- bytes of the form of what is wanted stand there
  abbrev Given : ImportDescription × List ℕ → List ℕ → Type 0
  Given p bytes = Takes (IsKnown p.0) bytes p.1

  given-behind : (kind : ℕ) (bytes behind : List ℕ) (d : ImportDescription) (rest : List ℕ) (P : List ℕ → Type 0) → Takes (byte kind) bytes behind → Takes P behind rest
      → ((front : List ℕ) → (byte kind before P) front → IsDescription d front) → HasType count d → Given (d, rest) bytes
  given-behind kind bytes behind d rest P first second is known =
      let both = takes-before (byte kind) P bytes behind rest first second in
      (both.0, both.1, (is both.0 both.2, known))

  described-sound : {A : Type 0} (kind : ℕ) (f : A → ImportDescription) (read : List ℕ → Reading A) (R : A → List ℕ → Type 0) → ((bytes : List ℕ) (x : A) (rest : List ℕ) → read bytes ≡ Ok (x, rest) → Takes (R x) bytes rest × HasType count (f x))
      → ((x : A) (front : List ℕ) → (byte kind before R x) front → IsDescription (f x) front)
      → (bytes behind : List ℕ) (d : ImportDescription) (rest : List ℕ) → Takes (byte kind) bytes behind → described f (read behind) ≡ Ok (d, rest) → Given (d, rest) bytes
  described-sound kind f read R sound is bytes behind d rest first e =
      let a = bind_ok (read behind) (λ x. Ok (f x.0, x.1)) (d, rest) e in
      let s = sound behind a.0.0 a.0.1 a.1 in
      let made : ImportDescription × List ℕ = (f a.0.0, a.0.1) in
      subst (λ (p : ImportDescription × List ℕ). Given p bytes) (ok_is made (d, rest) a.2)
      (given-behind kind bytes behind (f a.0.0) a.0.1 (R a.0.0) first s.0 (is a.0.0) s.1)

  description-sound : (bytes : List ℕ) (d : ImportDescription) (rest : List ℕ) → description_at count bytes ≡ Ok (d, rest) → Given (d, rest) bytes
  unfolding description_at
  description-sound bytes d rest e =
      let globals : ℕ × List ℕ → Reading ImportDescription = λ kind. cond (eqb kind.0 3) (described Global (global_at kind.1)) (Err (stop (kind_fault kind.0) bytes)) in
      let memories : ℕ × List ℕ → Reading ImportDescription = λ kind. cond (eqb kind.0 2) (described Memory (limits_at kind.1)) (globals kind) in
      let tables : ℕ × List ℕ → Reading ImportDescription = λ kind. cond (eqb kind.0 1) (described Table (table_at kind.1)) (memories kind) in
      let functions : ℕ × List ℕ → Reading ImportDescription = λ kind. cond (eqb kind.0 0) (described Function (type_number_at count kind.1)) (tables kind) in
      let a = bind_ok (byte_at bytes) functions (d, rest) e in
      let first : (k : ℕ) → eqb a.0.0 k ≡ true → Takes (byte k) bytes a.0.1 = λ k is. subst (λ (n : ℕ). Takes (byte n) bytes a.0.1) (eqb-true _ k is) (byte-exact.sound bytes a.0.0 a.0.1 a.1) in
      elim (picked (eqb a.0.0 0) (described Function (type_number_at count a.0.1)) (tables a.0) (d, rest) a.2) [
        | inl h ↦ described-sound 0 Function (type_number_at count) IsU32 number-sound (λ x front p. p) bytes a.0.1 d rest (first 0 h.0) h.1
        | inr h ↦ elim (picked (eqb a.0.0 1) (described Table (table_at a.0.1)) (memories a.0) (d, rest) h.1) [
          | inl k ↦ described-sound 1 Table table_at IsTableType (λ b x r q. (table-exact.sound b x r q, tt)) (λ x front p. p) bytes a.0.1 d rest (first 1 k.0) k.1
          | inr k ↦ elim (picked (eqb a.0.0 2) (described Memory (limits_at a.0.1)) (globals a.0) (d, rest) k.1) [
            | inl l ↦ described-sound 2 Memory limits_at IsLimits (λ b x r q. (limits-exact.sound b x r q, tt)) (λ x front p. p) bytes a.0.1 d rest (first 2 l.0) l.1
            | inr l ↦
                let m = hold_ok (eqb a.0.0 3) (stop (kind_fault a.0.0) bytes) (described Global (global_at a.0.1)) (d, rest) l.1 in
                described-sound 3 Global global_at IsGlobalType (λ b x r q. (global-exact.sound b x r q, tt)) (λ x front p. p) bytes a.0.1 d rest (first 3 m.0) m.1
          ]
        ]
      ]

  description-again : (d : ImportDescription) (front rest : List ℕ) → IsKnown d front → description_at count (front ++ rest) ≡ Ok (d, rest)
  unfolding description_at
  description-again (Function x) front rest h =
      again-before byte_at byte byte-exact _ 0 (IsU32 x) front rest (Function x, rest) h.0 (λ b p. rw (number-again x b rest h.1 p) refl)
  description-again (Table t) front rest h =
      again-before byte_at byte byte-exact _ 1 (IsTableType t) front rest (Table t, rest) h.0 (λ b p. rw (table-exact.again t b rest p) refl)
  description-again (Memory l) front rest h =
      again-before byte_at byte byte-exact _ 2 (IsLimits l) front rest (Memory l, rest) h.0 (λ b p. rw (limits-exact.again l b rest p) refl)
  description-again (Global g) front rest h =
      again-before byte_at byte byte-exact _ 3 (IsGlobalType g) front rest (Global g, rest) h.0 (λ b p. rw (global-exact.again g b rest p) refl)

  pub description-exact : IsExact (description_at count) IsKnown
  description-exact = record { sound = description-sound; again = description-again }

  -- the form of an import whose type the module has
  abbrev pub IsKnownImport : Import → List ℕ → Type 0
  IsKnownImport i = IsName i.module before IsName i.name before IsKnown i.description

  import-sound : (bytes : List ℕ) (i : Import) (rest : List ℕ) → import_at count bytes ≡ Ok (i, rest) → Takes (IsKnownImport i) bytes rest
  unfolding import_at
  import-sound bytes i rest e =
      let a = bind_ok (name_at bytes) (λ asked. name_at asked.1 >>= λ name. description_at count name.1 >>= λ d. Ok (record { «module» = asked.0; name = name.0; description = d.0 }, d.1)) (i, rest) e in
      let b = bind_ok (name_at a.0.1) (λ name. description_at count name.1 >>= λ d. Ok (record { «module» = a.0.0; name = name.0; description = d.0 }, d.1)) (i, rest) a.2 in
      let c = bind_ok (description_at count b.0.1) (λ d. Ok (record { «module» = a.0.0; name = b.0.0; description = d.0 }, d.1)) (i, rest) b.2 in
      let made : Import × List ℕ = (record { «module» = a.0.0; name = b.0.0; description = c.0.0 }, c.0.1) in
      subst (λ (p : Import × List ℕ). Takes (IsKnownImport p.0) bytes p.1) (ok_is made (i, rest) c.2)
      (takes-before (IsName a.0.0) (IsName b.0.0 before IsKnown c.0.0) bytes a.0.1 c.0.1 (name-exact.sound bytes a.0.0 a.0.1 a.1)
      (takes-before (IsName b.0.0) (IsKnown c.0.0) a.0.1 b.0.1 c.0.1 (name-exact.sound a.0.1 b.0.0 b.0.1 b.1) (description-exact.sound b.0.1 c.0.0 c.0.1 c.1)))

  import-again : (i : Import) (front rest : List ℕ) → IsKnownImport i front → import_at count (front ++ rest) ≡ Ok (i, rest)
  unfolding import_at
  import-again i front rest h =
      again-before name_at IsName name-exact _ i.module (IsName i.name before IsKnown i.description) front rest (i, rest) h (λ b p.
      again-before name_at IsName name-exact _ i.name (IsKnown i.description) b rest (i, rest) p (λ c q. rw (description-exact.again i.description c rest q) refl))

  pub import-exact : IsExact (import_at count) IsKnownImport
  import-exact = record { sound = import-sound; again = import-again }
