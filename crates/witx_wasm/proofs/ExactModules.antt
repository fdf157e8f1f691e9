-- What the sections of a module are read as is what they are by their forms.
use Rattle.std.proofs.Common.{◌≡◌, ℕ, zero, suc, ◌+◌, ◌-◌, ◌<◌, ◌≤◌, Bool, true, false, cond, ltb, eqb, List, [], ◌∷◌, ◌++◌, length, Result, Ok, Err, ◌⊎◌, inl, inr, refl, sym, ap, subst, ◌∙◌, append_assoc, arith}
use Rattle.std.proofs.lemmas.Bool.{eqb-true, eqb-false, ltb-true, ltb-false, lt-ltb, le-ltb, ne_eqb}
use Rattle.std.proofs.lemmas.List.{append-nil, length-append}
use Rattle.std.specs.List.{flat_map, AllByRecursion}
use Rattle.witx_wasm.proofs.Exact.{Takes, takes-before, bind_ok, guard_ok, hold_ok, ok_is, byte-exact, sized-exact, vector-exact, name-exact, all-sound, all-again, literal-sound, literal-again}
use Rattle.witx_wasm.proofs.ExactTypes.{picked, IsKnownImport, function-exact, import-exact}
use Rattle.witx_wasm.specs.Binary.{IsFunctionType, IsImport}
use Rattle.witx_wasm.specs.Forms.{byte, ◌before◌, AreMany, IsVector, IsSized, IsName}
use Rattle.witx_wasm.specs.Modules.{magic, version, Section, custom, typing, importing, other, IsFramed, anything, IsSection, section_place, AreInOrder, types_in, imports_in, HasType, IsModule}
use Rattle.witx_wasm.specs.Readers.{Reading, ◌>>=◌, stop, byte_at, sized_at, name_at, vector_at, all_of, literal_at}
use Rattle.witx_wasm.specs.Reading.{function_type_at, import_at, section_number_at, frame_at, with_types, with_imports, with_other, contents_at, placed, section_at, Sections, no_more, faulty, more, preamble_at, nothing_known, HasFaultBehind, HasByteFault}
use Rattle.witx_wasm.specs.declared.fault.Fault.{Fault}
use Rattle.witx_wasm.specs.declared.fault.FaultKind.TheVariants as kinds
use Rattle.witx_wasm.specs.declared.fault.Stop.{Stop}
use Rattle.witx_wasm.specs.declared.module.FunctionType.{FunctionType}
use Rattle.witx_wasm.specs.declared.module.Import.{Import}
use Rattle.witx_wasm.specs.declared.module.ImportDescription.{ImportDescription}
use Rattle.witx_wasm.specs.declared.module.ImportDescription.TheVariants.{Function, Table, Memory, Global}
use Rattle.witx_wasm.specs.declared.module.WasmModule.{WasmModule}
use Rattle.witx_wasm.specs.declared.sections.Progress.{Progress}

-- ---- imports whose types the module has

abbrev KnownIn : ℕ → List Import → Type 0
KnownIn count is = AllByRecursion (λ i. HasType count i.description) is

known-import : (count : ℕ) (i : Import) (bytes : List ℕ) → IsKnownImport count i bytes → IsImport i bytes × HasType count i.description
known-import count i bytes h = ((h.0, h.1, h.2, h.3, (h.4.0, h.4.1, h.4.2, h.4.3, h.4.4.0)), h.4.4.1)

import-known : (count : ℕ) (i : Import) (bytes : List ℕ) → IsImport i bytes → HasType count i.description → IsKnownImport count i bytes
import-known count i bytes h k = (h.0, h.1, h.2, h.3, (h.4.0, h.4.1, h.4.2, h.4.3, (h.4.4, k)))

known-many : (count : ℕ) (is : List Import) (bytes : List ℕ) → AreMany (IsKnownImport count) is bytes → AreMany IsImport is bytes × KnownIn count is
known-many count [] bytes h = (h, tt)
known-many count (i ∷ is) bytes h =
    let one = known-import count i h.0 h.3 in
    let others = known-many count is h.1 h.4 in
    ((h.0, h.1, h.2, one.0, others.0), (one.1, others.1))

many-known : (count : ℕ) (is : List Import) (bytes : List ℕ) → AreMany IsImport is bytes → KnownIn count is → AreMany (IsKnownImport count) is bytes
many-known count [] bytes h k = h
many-known count (i ∷ is) bytes h k = (h.0, h.1, h.2, import-known count i h.0 h.3 k.0, many-known count is h.1 h.4 k.1)

known-vector : (count : ℕ) (is : List Import) (bytes : List ℕ) → IsVector (IsKnownImport count) is bytes → IsVector IsImport is bytes × KnownIn count is
known-vector count is bytes h = let m = known-many count is h.1 h.4 in ((h.0, h.1, h.2, h.3, m.0), m.1)

vector-known : (count : ℕ) (is : List Import) (bytes : List ℕ) → IsVector IsImport is bytes → KnownIn count is → IsVector (IsKnownImport count) is bytes
vector-known count is bytes h k = (h.0, h.1, h.2, h.3, many-known count is h.1 h.4 k)

larger : (a b : ℕ) → a ≤ b → (d : ImportDescription) → HasType a d → HasType b d
larger a b le (Function x) h = omega (arith, le, h)
larger a b le (Table t) h = tt
larger a b le (Memory l) h = tt
larger a b le (Global g) h = tt

all-larger : (a b : ℕ) → a ≤ b → (is : List Import) → KnownIn a is → KnownIn b is
all-larger a b le [] h = tt
all-larger a b le (i ∷ is) h = (larger a b le i.description h.0, all-larger a b le is h.1)

both-known : (count : ℕ) (is js : List Import) → KnownIn count is → KnownIn count js → KnownIn count (is ++ js)
both-known count [] js h k = k
both-known count (i ∷ is) js h k = (h.0, both-known count is js h.1 k)

split-known : (count : ℕ) (is js : List Import) → KnownIn count (is ++ js) → KnownIn count is × KnownIn count js
split-known count [] js h = (tt, h)
split-known count (i ∷ is) js h = let r = split-known count is js h.1 in ((h.0, r.0), r.1)

-- ---- the number and the contents of a section

-- a section with this number may stand behind one with the place `last`
abbrev pub MayStand : ℕ → ℕ → Type 0
MayStand last number = (number ≡ 0) ⊎ ((0 < number) × (number < 13) × (last < section_place number))

from-13 : (n : ℕ) → eqb n 13 ≡ false → n ≤ 13 → n < 13
from-13 n ne le = let h = eqb-false n 13 ne in omega (arith, h, le)

positive : (n : ℕ) → eqb n 0 ≡ false → 0 < n
positive n ne = let h = eqb-false n 0 ne in omega (arith, h)

number-stands : (last : ℕ) (bytes : List ℕ) (n : ℕ × List ℕ) (number : ℕ) (rest : List ℕ)
    → cond (eqb n.0 0) (Ok n) (cond (eqb n.0 13) (Err (stop kinds.Tag bytes)) (cond (ltb 13 n.0) (Err (stop kinds.SectionId bytes)) (cond (ltb last (section_place n.0)) (Ok n) (Err (stop kinds.SectionOrder bytes))))) ≡ Ok (number, rest)
    → (n ≡ (number, rest)) × MayStand last number
number-stands last bytes n number rest e =
    let found : Reading ℕ = Ok n in
    let ordered = cond (ltb last (section_place n.0)) found (Err (stop kinds.SectionOrder bytes)) in
    let known = cond (ltb 13 n.0) (Err (stop kinds.SectionId bytes)) ordered in
    let untagged = cond (eqb n.0 13) (Err (stop kinds.Tag bytes)) known in
    elim (picked (eqb n.0 0) found untagged (number, rest) e) [
      | inl h ↦ let same = ok_is n (number, rest) h.1 in (same, inl (ap (λ (p : ℕ × List ℕ). p.0) (sym same) ∙ eqb-true n.0 0 h.0))
      | inr h ↦
          let a = guard_ok (eqb n.0 13) (stop kinds.Tag bytes) known (number, rest) h.1 in
          let b = guard_ok (ltb 13 n.0) (stop kinds.SectionId bytes) ordered (number, rest) a.1 in
          let c = hold_ok (ltb last (section_place n.0)) (stop kinds.SectionOrder bytes) found (number, rest) b.1 in
          let same = ok_is n (number, rest) c.1 in (
            same,
            subst (λ (p : ℕ × List ℕ). MayStand last p.0) same
                (inr (positive n.0 h.0, from-13 n.0 a.0 (ltb-false _ _ b.0), ltb-true _ _ c.0)),
          )
    ]

number-sound : (last : ℕ) (bytes : List ℕ) (number : ℕ) (rest : List ℕ) → section_number_at last bytes ≡ Ok (number, rest) → Takes (byte number) bytes rest × MayStand last number
unfolding section_number_at
number-sound last bytes number rest e =
    let a = bind_ok (byte_at bytes) (λ n. cond (eqb n.0 0) (Ok n) (cond (eqb n.0 13) (Err (stop kinds.Tag bytes)) (cond (ltb 13 n.0) (Err (stop kinds.SectionId bytes)) (cond (ltb last (section_place n.0)) (Ok n) (Err (stop kinds.SectionOrder bytes)))))) (number, rest) e in
    let s = number-stands last bytes a.0 number rest a.2 in
    (subst (λ (p : ℕ × List ℕ). Takes (byte p.0) bytes p.1) s.0 (byte-exact.sound bytes a.0.0 a.0.1 a.1), s.1)

number-again : (last number : ℕ) (front rest : List ℕ) → MayStand last number → byte number front → section_number_at last (front ++ rest) ≡ Ok (number, rest)
unfolding section_number_at
number-again last number front rest (inl h) b = rw (byte-exact.again number front rest b, h) refl
number-again last number front rest (inr h) b =
    let not-zero : eqb number 0 ≡ false = ne_eqb number 0 (λ is. omega (arith, is, h.0)) in
    let not-tag : eqb number 13 ≡ false = ne_eqb number 13 (λ is. omega (arith, is, h.1)) in
    let small : ltb 13 number ≡ false = le-ltb 13 number (omega (arith, h.1)) in
    rw (byte-exact.again number front rest b, not-zero, not-tag, small, lt-ltb last (section_place number) h.2) refl

frame-sound : (last : ℕ) (bytes : List ℕ) (number : ℕ) (contents rest : List ℕ) → frame_at last bytes ≡ Ok ((number, contents), rest)
    → Takes (IsFramed number contents) bytes rest × MayStand last number
unfolding frame_at
frame-sound last bytes number contents rest e =
    let made : ℕ × List ℕ → List ℕ × List ℕ → (ℕ × List ℕ) × List ℕ = λ n c. ((n.0, c.0), c.1) in
    let a = bind_ok (section_number_at last bytes) (λ n. sized_at n.1 >>= λ c. Ok (made n c)) ((number, contents), rest) e in
    let b = bind_ok (sized_at a.0.1) (λ c. Ok (made a.0 c)) ((number, contents), rest) a.2 in
    let n = number-sound last bytes a.0.0 a.0.1 a.1 in
    subst (λ (p : (ℕ × List ℕ) × List ℕ). Takes (IsFramed p.0.0 p.0.1) bytes p.1 × MayStand last p.0.0) (ok_is (made a.0 b.0) ((number, contents), rest) b.2)
    (takes-before (byte a.0.0) (IsSized b.0.0) bytes a.0.1 b.0.1 n.0 (sized-exact.sound a.0.1 b.0.0 b.0.1 b.1), n.1)

frame-again : (last number : ℕ) (contents front rest : List ℕ) → MayStand last number → IsFramed number contents front → frame_at last (front ++ rest) ≡ Ok ((number, contents), rest)
unfolding frame_at
frame-again last number contents front rest stands h =
    let made : ℕ × List ℕ → List ℕ × List ℕ → (ℕ × List ℕ) × List ℕ = λ n c. ((n.0, c.0), c.1) in
    let regrouped : front ++ rest ≡ h.0 ++ (h.1 ++ rest) = ap (λ (t : List ℕ). t ++ rest) h.2 ∙ append_assoc h.0 h.1 rest in
    let first : section_number_at last (front ++ rest) ≡ Ok (number, h.1 ++ rest) = ap (section_number_at last) regrouped ∙ number-again last number h.0 (h.1 ++ rest) stands h.3 in
    ap (λ (r : Reading ℕ). r >>= λ n. sized_at n.1 >>= λ c. Ok (made n c)) first
    ∙ ap (λ (r : Reading (List ℕ)). r >>= λ c. Ok (made (number, h.1 ++ rest) c)) (sized-exact.again contents h.1 rest h.4)

-- ---- sections

abbrev pub number_of : Section → ℕ
number_of (custom name) = 0
number_of (typing types) = 1
number_of (importing imports) = 2
number_of (other number) = number

-- what is known behind a section
abbrev pub after : Progress → Section → Progress
after known (custom name) = known
after known (typing types) = with_types known types
after known (importing imports) = with_imports known imports
after known (other number) = with_other known number

-- the form of a section's contents, in a module of so many types
abbrev FormIn : ℕ → Section → List ℕ → Type 0
FormIn count (custom name) = IsName name before anything
FormIn count (typing types) = IsVector IsFunctionType types
FormIn count (importing imports) = IsVector (IsKnownImport count) imports
FormIn count (other number) = anything

abbrev IsLarge : Section → Type 0
IsLarge (custom name) = Unit {0}
IsLarge (typing types) = Unit {0}
IsLarge (importing imports) = Unit {0}
IsLarge (other number) = 2 < number

-- the section stands behind one with the place `last`
abbrev Follows : ℕ → Section → Type 0
Follows last (custom name) = Unit {0}
Follows last (typing types) = last < 1
Follows last (importing imports) = last < 2
Follows last (other number) = last < section_place number

record Contains (known : Progress) (number : ℕ) (contents : List ℕ) (next : Progress) : Type 0 where
  section : Section
  is_number : number ≡ number_of section
  form : FormIn (length known.types) section contents
  is_next : next ≡ after known section
  large : IsLarge section

above-two : (n : ℕ) → eqb n 0 ≡ false → eqb n 1 ≡ false → eqb n 2 ≡ false → 2 < n
above-two n a b c = let x = eqb-false n 0 a in let y = eqb-false n 1 b in let z = eqb-false n 2 c in omega (arith, x, y, z)

abbrev going : Progress → Result Progress Stop
going known = Ok known

progress-is : (a b : Progress) → going a ≡ going b → b ≡ a
progress-is a b e = cc

contents-sound : (known : Progress) (number : ℕ) (contents : List ℕ) (next : Progress) → contents_at known number contents ≡ Ok next → Contains known number contents next
unfolding contents_at
contents-sound known number contents next e =
    let imports = import_at (length known.types) in
    let rest = going (with_other known number) in
    let importing-at = all_of (vector_at imports contents) >>= λ is. Ok (with_imports known is) in
    let typing-at = all_of (vector_at function_type_at contents) >>= λ ts. Ok (with_types known ts) in
    let custom-at = name_at contents >>= λ name. Ok known in
    elim (picked (eqb number 0) custom-at (cond (eqb number 1) typing-at (cond (eqb number 2) importing-at rest)) next e) [
      | inl h ↦
          let a = bind_ok (name_at contents) (λ name. Ok known) next h.1 in
          let t = name-exact.sound contents a.0.0 a.0.1 a.1 in
          record { section = custom a.0.0; is_number = eqb-true number 0 h.0; form = (t.0, a.0.1, t.1, t.2, tt); is_next = progress-is known next a.2; large = tt }
      | inr h ↦ elim (picked (eqb number 1) typing-at (cond (eqb number 2) importing-at rest) next h.1) [
        | inl k ↦
            let a = bind_ok (all_of (vector_at function_type_at contents)) (λ ts. Ok (with_types known ts)) next k.1 in
            let form = all-sound (vector_at function_type_at) (IsVector IsFunctionType) (vector-exact function_type_at IsFunctionType function-exact) contents a.0 a.1 in
            record { section = typing a.0; is_number = eqb-true number 1 k.0; form = form; is_next = progress-is (with_types known a.0) next a.2; large = tt }
        | inr k ↦ elim (picked (eqb number 2) importing-at rest next k.1) [
          | inl l ↦
              let a = bind_ok (all_of (vector_at imports contents)) (λ is. Ok (with_imports known is)) next l.1 in
              let form = all-sound (vector_at imports) (IsVector (IsKnownImport (length known.types))) (vector-exact imports (IsKnownImport (length known.types)) (import-exact (length known.types))) contents a.0 a.1 in
              record { section = importing a.0; is_number = eqb-true number 2 l.0; form = form; is_next = progress-is (with_imports known a.0) next a.2; large = tt }
          | inr l ↦ record { section = other number; is_number = refl; form = tt; is_next = progress-is (with_other known number) next l.1; large = above-two number h.0 k.0 l.0 }
        ]
      ]
    ]

contents-again : (known : Progress) (s : Section) (contents : List ℕ) → IsLarge s → FormIn (length known.types) s contents → contents_at known (number_of s) contents ≡ Ok (after known s)
unfolding contents_at
contents-again known (custom name) contents large h =
    let whole : name_at contents ≡ Ok (name, h.1) = ap name_at h.2 ∙ name-exact.again name h.0 h.1 h.3 in
    ap (λ (r : Reading (List ℕ)). r >>= λ name. going known) whole
contents-again known (typing types) contents large h =
    ap (λ r. r >>= λ ts. going (with_types known ts)) (all-again (vector_at function_type_at) (IsVector IsFunctionType) (vector-exact function_type_at IsFunctionType function-exact) contents types h)
contents-again known (importing imports) contents large h =
    let count = length known.types in
    ap (λ r. r >>= λ is. going (with_imports known is)) (all-again (vector_at (import_at count)) (IsVector (IsKnownImport count)) (vector-exact (import_at count) (IsKnownImport count) (import-exact count)) contents imports h)
contents-again known (other number) contents large h =
    let a : eqb number 0 ≡ false = ne_eqb number 0 (λ is. omega (arith, is, large)) in
    let b : eqb number 1 ≡ false = ne_eqb number 1 (λ is. omega (arith, is, large)) in
    let c : eqb number 2 ≡ false = ne_eqb number 2 (λ is. omega (arith, is, large)) in
    rw (a, b, c) refl

not-large : (n : ℕ) → n ≡ 0 → 2 < n → ⊥
not-large n is large = omega (arith, is, large)

follows-of : (last number : ℕ) (s : Section) → number ≡ number_of s → IsLarge s → MayStand last number → Follows last s
follows-of last number (custom name) is large h = tt
follows-of last number (typing types) is large h = elim h [ inl z ↦ omega (arith, is, z) | inr k ↦ subst (λ (n : ℕ). last < section_place n) is k.2 ]
follows-of last number (importing imports) is large h = elim h [ inl z ↦ omega (arith, is, z) | inr k ↦ subst (λ (n : ℕ). last < section_place n) is k.2 ]
follows-of last number (other n) is large h = elim h [ inl z ↦ absurd (not-large n (omega (arith, is, z)) large) | inr k ↦ subst (λ (n : ℕ). last < section_place n) is k.2 ]

-- a section's number is none that isn't read
small-of : (last number : ℕ) (s : Section) → number ≡ number_of s → IsLarge s → MayStand last number → number_of s < 13
small-of last number (custom name) is large h = omega arith
small-of last number (typing types) is large h = omega arith
small-of last number (importing imports) is large h = omega arith
small-of last number (other n) is large h = elim h [ inl z ↦ absurd (not-large n (omega (arith, is, z)) large) | inr k ↦ omega (arith, is, k.1) ]

-- ---- one section

-- what a section imports is known in a module of so many types
abbrev pub KnownAt : ℕ → Section → Type 0
KnownAt count s = KnownIn count (imports_in s)

section-form : (count : ℕ) (s : Section) (contents bytes : List ℕ) → FormIn count s contents → IsLarge s → number_of s < 13 → IsFramed (number_of s) contents bytes
    → IsSection s bytes × KnownAt count s
section-form count (custom name) contents bytes form large small h = ((contents, form, h), tt)
section-form count (typing types) contents bytes form large small h = ((contents, form, h), tt)
section-form count (importing imports) contents bytes form large small h = let v = known-vector count imports contents form in ((contents, v.0, h), v.1)
section-form count (other number) contents bytes form large small h = ((large, small, (contents, tt, h)), tt)

-- a section as what is known in front of it has it
abbrev Framed : ℕ → Section → List ℕ → Type 0
Framed count s bytes = (contents : List ℕ) × FormIn count s contents × IsLarge s × IsFramed (number_of s) contents bytes

form-section : (count : ℕ) (s : Section) (bytes : List ℕ) → IsSection s bytes → KnownAt count s → Framed count s bytes
form-section count (custom name) bytes h k = (h.0, h.1, tt, h.2)
form-section count (typing types) bytes h k = (h.0, h.1, tt, h.2)
form-section count (importing imports) bytes h k = (h.0, vector-known count imports h.0 h.1 k, tt, h.2)
form-section count (other number) bytes h k = (h.2.0, tt, h.0, h.2.2)

may-stand : (last count : ℕ) (s : Section) (bytes : List ℕ) → IsSection s bytes → Follows last s → MayStand last (number_of s)
may-stand last count (custom name) bytes h f = inl refl
may-stand last count (typing types) bytes h f = inr (omega arith, omega arith, f)
may-stand last count (importing imports) bytes h f = inr (omega arith, omega arith, f)
may-stand last count (other number) bytes h f = inr (omega (arith, h.0), h.1, f)

pub record Next (known : Progress) (bytes : List ℕ) (next : Progress) (rest : List ℕ) : Type 0 where
  pub section : Section
  pub taken : Takes (IsSection section) bytes rest
  pub known_at : KnownAt (length known.types) section
  pub follows : Follows known.last section
  pub is_next : next ≡ after known section

abbrev well : {A : Type 0} → A → Result A Fault
well x = Ok x

fault-ok-is : {A : Type 0} (x y : A) → well x ≡ well y → x ≡ y
fault-ok-is x y e = cc

placed_ok : {A : Type 0} (end : ℕ) (r : Result A Stop) (x : A) → placed end r ≡ Ok x → r ≡ Ok x
placed_ok end (Ok y) x e = ap (λ (z : _). Ok z) (fault-ok-is y x e)
placed_ok end (Err s) x e = absurd cc

pub section-sound : (total : ℕ) (known : Progress) (bytes : List ℕ) (next : Progress) (rest : List ℕ) → section_at total known bytes ≡ Ok (next, rest) → Next known bytes next rest
unfolding section_at
section-sound total known bytes next rest e =
    let made : Progress → List ℕ → Progress × List ℕ = λ n r. (n, r) in
    let frame = placed total (frame_at known.last bytes) in
    let a = bind_ok frame (λ f. placed (total - length f.1) (contents_at known f.0.0 f.0.1) >>= λ n. Ok (made n f.1)) (next, rest) e in
    let b = bind_ok (placed (total - length a.0.1) (contents_at known a.0.0.0 a.0.0.1)) (λ n. Ok (made n a.0.1)) (next, rest) a.2 in
    let f = frame-sound known.last bytes a.0.0.0 a.0.0.1 a.0.1 (placed_ok total (frame_at known.last bytes) a.0 a.1) in
    let c = contents-sound known a.0.0.0 a.0.0.1 b.0 (placed_ok (total - length a.0.1) (contents_at known a.0.0.0 a.0.0.1) b.0 b.1) in
    let framed = subst (λ (n : ℕ). IsFramed n a.0.0.1 f.0.0) c.is_number f.0.2 in
    let form = section-form (length known.types) c.section a.0.0.1 f.0.0 c.form c.large (small-of known.last a.0.0.0 c.section c.is_number c.large f.1) framed in
    let same = fault-ok-is (made b.0 a.0.1) (next, rest) b.2 in
    subst (λ (p : Progress × List ℕ). Next known bytes p.0 p.1) same
    (record { section = c.section; taken = (f.0.0, f.0.1, form.0); known_at = form.1; follows = follows-of known.last a.0.0.0 c.section c.is_number c.large f.1; is_next = c.is_next })

pub section-again : (total : ℕ) (known : Progress) (s : Section) (front rest : List ℕ) → IsSection s front → KnownAt (length known.types) s → Follows known.last s
    → section_at total known (front ++ rest) ≡ Ok (after known s, rest)
unfolding section_at
section-again total known s front rest h k f =
    let framed = form-section (length known.types) s front h k in
    let frame = frame-again known.last (number_of s) framed.0 front rest (may-stand known.last 0 s front h f) framed.3 in
    let contents = contents-again known s framed.0 framed.2 framed.1 in
    rw (frame, contents) refl

-- ---- all sections

-- the first byte of a section is its number
framed-any : (s : Section) (bytes : List ℕ) → IsSection s bytes → (contents : List ℕ) × IsFramed (number_of s) contents bytes
framed-any (custom name) bytes h = (h.0, h.2)
framed-any (typing types) bytes h = (h.0, h.2)
framed-any (importing imports) bytes h = (h.0, h.2)
framed-any (other number) bytes h = (h.2.0, h.2.2)

pub section-begins : (s : Section) (bytes : List ℕ) → IsSection s bytes → (b : ℕ) × (bs : List ℕ) × (bytes ≡ b ∷ bs)
section-begins s bytes h =
    let f = (framed-any s bytes h).1 in
    (number_of s, f.1, f.2 ∙ ap (λ (t : List ℕ). t ++ f.1) f.3)

-- a section takes at least a byte
pub section-shorter : (total : ℕ) (known : Progress) (bytes : List ℕ) (next : Progress) (rest : List ℕ) → section_at total known bytes ≡ Ok (next, rest) → length rest < length bytes
section-shorter total known bytes next rest e =
    let s = section-sound total known bytes next rest e in
    let b = section-begins s.section s.taken.0 s.taken.2 in
    let sum : length bytes ≡ length s.taken.0 + length rest = ap length s.taken.1 ∙ length-append s.taken.0 rest in
    let some : length s.taken.0 ≡ suc (length b.1) = ap length b.2 in
    omega (arith, sum, some)

-- what is known behind sections
abbrev behind : Progress → List Section → Progress
behind known [] = known
behind known (s ∷ ss) = behind (after known s) ss

-- nothing of what may still come is known
record IsFresh (known : Progress) : Type 0 where
  types : known.last < 1 → known.types ≡ []
  imports : known.last < 2 → known.imports ≡ []

decide : (t : Bool) → (t ≡ true) ⊎ (t ≡ false)
decide true = inl refl
decide false = inr refl

place-late : (n : ℕ) → 2 < n → 2 < section_place n
place-late n h = elim (decide (eqb n 10)) [
  | inl a ↦ rw a (omega arith)
  | inr a ↦ elim (decide (eqb n 11)) [
    | inl b ↦ rw (a, b) (omega arith)
    | inr b ↦ elim (decide (eqb n 12)) [
      | inl c ↦ rw (a, b, c) (omega arith)
      | inr c ↦ rw (a, b, c) h
    ]
  ]
]

after-fresh : (known : Progress) (s : Section) → IsLarge s → Follows known.last s → IsFresh known → IsFresh (after known s)
after-fresh known (custom name) large f fresh = fresh
after-fresh known (typing types) large f fresh = record { types = λ (h : 1 < 1). absurd (omega (arith, h)); imports = λ _. fresh.imports (omega (arith, f)) }
after-fresh known (importing imports) large f fresh = record { types = λ (h : 2 < 1). absurd (omega (arith, h)); imports = λ (h : 2 < 2). absurd (omega (arith, h)) }
after-fresh known (other number) large f fresh =
    let late = place-late number large in
    record { types = λ (h : section_place number < 1). absurd (omega (arith, h, late)); imports = λ (h : section_place number < 2). absurd (omega (arith, h, late)) }

types-after : (known : Progress) (s : Section) → Follows known.last s → IsFresh known → (after known s).types ≡ known.types ++ types_in s
types-after known (custom name) f fresh = sym (append-nil known.types)
types-after known (typing types) f fresh = ap (λ (ts : List FunctionType). ts ++ types) (sym (fresh.types f))
types-after known (importing imports) f fresh = sym (append-nil known.types)
types-after known (other number) f fresh = sym (append-nil known.types)

imports-after : (known : Progress) (s : Section) → Follows known.last s → IsFresh known → (after known s).imports ≡ known.imports ++ imports_in s
imports-after known (custom name) f fresh = sym (append-nil known.imports)
imports-after known (typing types) f fresh = sym (append-nil known.imports)
imports-after known (importing imports) f fresh = ap (λ (is : List Import). is ++ imports) (sym (fresh.imports f))
imports-after known (other number) f fresh = sym (append-nil known.imports)

in-order : (known : Progress) (s : Section) (ss : List Section) → Follows known.last s → AreInOrder (after known s).last ss → AreInOrder known.last (s ∷ ss)
in-order known (custom name) ss f h = h
in-order known (typing types) ss f h = (f, h)
in-order known (importing imports) ss f h = (f, h)
in-order known (other number) ss f h = (f, h)

order-in : (known : Progress) (s : Section) (ss : List Section) → AreInOrder known.last (s ∷ ss) → Follows known.last s × AreInOrder (after known s).last ss
order-in known (custom name) ss h = (tt, h)
order-in known (typing types) ss h = h
order-in known (importing imports) ss h = h
order-in known (other number) ss h = h

large-in : (s : Section) (bytes : List ℕ) → IsSection s bytes → IsLarge s
large-in (custom name) bytes h = tt
large-in (typing types) bytes h = tt
large-in (importing imports) bytes h = tt
large-in (other number) bytes h = h.0

-- the sections behind what is known, and what all of them say
pub record Rest (known : Progress) (bytes : List ℕ) (end : Progress) : Type 0 where
  pub sections : List Section
  pub many : AreMany IsSection sections bytes
  pub order : AreInOrder known.last sections
  pub types : end.types ≡ known.types ++ flat_map types_in sections
  pub imports : end.imports ≡ known.imports ++ flat_map imports_in sections
  pub known_imports : KnownIn (length end.types) (flat_map imports_in sections)

sections-sound : (total : ℕ) (known : Progress) (bytes : List ℕ) (r : Result Progress Fault) → Sections total known bytes r → (end : Progress) → r ≡ Ok end → IsFresh known → Rest known bytes end
sections-sound total known bytes r (no_more k) end is fresh =
    let same = fault-ok-is known end is in
    record {
      sections = [];
      many = refl;
      order = tt;
      types = ap (λ (p : Progress). p.types) (sym same) ∙ sym (append-nil known.types);
      imports = ap (λ (p : Progress). p.imports) (sym same) ∙ sym (append-nil known.imports);
      known_imports = tt;
    }
sections-sound total known bytes r (faulty k b bs fault e) end is fresh = absurd cc
sections-sound total known bytes r (more k b bs next rest end' e d) end is fresh =
    let s = section-sound total known bytes next rest e in
    let large = large-in s.section s.taken.0 s.taken.2 in
    let next-fresh = subst IsFresh (sym s.is_next) (after-fresh known s.section large s.follows fresh) in
    let t = sections-sound total next rest r d end is next-fresh in
    let types-are : end.types ≡ known.types ++ (types_in s.section ++ flat_map types_in t.sections) =
    t.types ∙ ap (λ (ts : List FunctionType). ts ++ flat_map types_in t.sections) (ap (λ (p : Progress). p.types) s.is_next ∙ types-after known s.section s.follows fresh)
    ∙ append_assoc known.types (types_in s.section) (flat_map types_in t.sections) in
    let imports-are : end.imports ≡ known.imports ++ (imports_in s.section ++ flat_map imports_in t.sections) =
    t.imports ∙ ap (λ (is : List Import). is ++ flat_map imports_in t.sections) (ap (λ (p : Progress). p.imports) s.is_next ∙ imports-after known s.section s.follows fresh)
    ∙ append_assoc known.imports (imports_in s.section) (flat_map imports_in t.sections) in
    let long : length known.types ≤ length end.types = let sum = ap length types-are ∙ length-append known.types (types_in s.section ++ flat_map types_in t.sections) in omega (arith, sum) in
    record {
      sections = s.section ∷ t.sections;
      many = (s.taken.0, rest, s.taken.1, s.taken.2, t.many);
      order = in-order known s.section t.sections s.follows (subst (λ (p : Progress). AreInOrder p.last t.sections) s.is_next t.order);
      types = types-are;
      imports = imports-are;
      known_imports = both-known (length end.types) (imports_in s.section) (flat_map imports_in t.sections) (all-larger (length known.types) (length end.types) long (imports_in s.section) s.known_at) t.known_imports;
    }

-- no types come behind a section that isn't custom
no-more-types : (ss : List Section) (bytes : List ℕ) (known : Progress) → AreMany IsSection ss bytes → AreInOrder known.last ss → 0 < known.last → (behind known ss).types ≡ known.types
no-more-types [] bytes known many order late = refl
no-more-types (custom name ∷ ss) bytes known many order late = no-more-types ss many.1 known many.4 order late
no-more-types (typing types ∷ ss) bytes known many order late = absurd (omega (arith, late, order.0))
no-more-types (importing imports ∷ ss) bytes known many order late = no-more-types ss many.1 (with_imports known imports) many.4 order.1 (omega arith)
no-more-types (other number ∷ ss) bytes known many order late = no-more-types ss many.1 (with_other known number) many.4 order.1 (omega (arith, place-late number many.3.0))

-- the types that are known in front of a section's imports are all types
known-at : (s : Section) (ss : List Section) (bytes : List ℕ) (known : Progress) → AreMany IsSection ss bytes → AreInOrder (after known s).last ss
    → KnownAt (length (behind (after known s) ss).types) s → KnownAt (length known.types) s
known-at (custom name) ss bytes known many order h = tt
known-at (typing types) ss bytes known many order h = tt
known-at (importing imports) ss bytes known many order h = subst (λ (ts : List FunctionType). KnownIn (length ts) imports) (no-more-types ss bytes (with_imports known imports) many order (omega arith)) h
known-at (other number) ss bytes known many order h = tt

pub sections-more : (total : ℕ) (known : Progress) (bytes rest : List ℕ) (next : Progress) (r : Result Progress Fault) → (b : ℕ) (bs : List ℕ) → bytes ≡ b ∷ bs → section_at total known bytes ≡ Ok (next, rest)
    → Sections total next rest r → Sections total known bytes r
sections-more total known bytes rest next r b bs is e d =
    subst (λ (t : List ℕ). Sections total known t r) (sym is) (more known b bs next rest r (ap (section_at total known) (sym is) ∙ e) d)

pub sections-again : (ss : List Section) (total : ℕ) (known : Progress) (bytes : List ℕ) → AreMany IsSection ss bytes → AreInOrder known.last ss
    → KnownIn (length (behind known ss).types) (flat_map imports_in ss) → Sections total known bytes (Ok (behind known ss))
sections-again [] total known bytes many order k = subst (λ (t : List ℕ). Sections total known t (Ok known)) (sym many) (no_more known)
sections-again (s ∷ ss) total known bytes many order k =
    let o = order-in known s ss order in
    let split = split-known (length (behind (after known s) ss).types) (imports_in s) (flat_map imports_in ss) k in
    let here = known-at s ss many.1 known many.4 o.1 split.0 in
    let e : section_at total known bytes ≡ Ok (after known s, many.1) = ap (section_at total known) many.2 ∙ section-again total known s many.0 many.1 many.3 here o.0 in
    let begins = section-begins s many.0 many.3 in
    sections-more total known bytes many.1 (after known s) (Ok (behind (after known s) ss)) begins.0 (begins.1 ++ many.1)
    (many.2 ∙ ap (λ (t : List ℕ). t ++ many.1) begins.2) e (sections-again ss total (after known s) many.1 many.4 o.1 split.1)

-- what is known behind the sections is what they say
behind-types : (ss : List Section) (bytes : List ℕ) (known : Progress) → AreMany IsSection ss bytes → AreInOrder known.last ss → IsFresh known
    → ((behind known ss).types ≡ known.types ++ flat_map types_in ss) × ((behind known ss).imports ≡ known.imports ++ flat_map imports_in ss)
behind-types [] bytes known many order fresh = (sym (append-nil known.types), sym (append-nil known.imports))
behind-types (s ∷ ss) bytes known many order fresh =
    let o = order-in known s ss order in
    let t = behind-types ss many.1 (after known s) many.4 o.1 (after-fresh known s (large-in s many.0 many.3) o.0 fresh) in (
      t.0 ∙ ap (λ (ts : List FunctionType). ts ++ flat_map types_in ss) (types-after known s o.0 fresh) ∙ append_assoc known.types (types_in s) (flat_map types_in ss),
      t.1 ∙ ap (λ (is : List Import). is ++ flat_map imports_in ss) (imports-after known s o.0 fresh) ∙ append_assoc known.imports (imports_in s) (flat_map imports_in ss),
    )

-- ---- one end

abbrev Inverted : (total : ℕ) → Progress → List ℕ → Result Progress Fault → Type 0
Inverted total known [] r = r ≡ Ok known
Inverted total known (b ∷ bs) r =
    ((fault : Fault) × (section_at total known (b ∷ bs) ≡ Err fault) × (r ≡ Err fault))
    ⊎ ((next : Progress) × (rest : List ℕ) × (section_at total known (b ∷ bs) ≡ Ok (next, rest)) × Sections total next rest r)

invert : (total : ℕ) (known : Progress) (bytes : List ℕ) (r : Result Progress Fault) → Sections total known bytes r → Inverted total known bytes r
invert total known bytes r (no_more k) = refl
invert total known bytes r (faulty k b bs fault e) = inl (fault, e, refl)
invert total known bytes r (more k b bs next rest end e d) = inr (next, rest, e, d)

abbrev read-section : Type 0
read-section = Result (Progress × List ℕ) Fault

same-fault : (s : read-section) (f g : Fault) → s ≡ Err f → s ≡ Err g → f ≡ g
same-fault s f g a b = cc

same-next : (s : read-section) (p q : Progress × List ℕ) → s ≡ Ok p → s ≡ Ok q → p ≡ q
same-next s p q a b = cc

not-both : (s : read-section) (f : Fault) (p : Progress × List ℕ) → s ≡ Err f → s ≡ Ok p → ⊥
not-both s f p a b = cc

pub sections-one : (total : ℕ) (known : Progress) (bytes : List ℕ) (r : Result Progress Fault) → Sections total known bytes r → (q : Result Progress Fault) → Sections total known bytes q → r ≡ q
sections-one total known bytes r (no_more k) q d = sym (invert total known [] q d)
sections-one total known bytes r (faulty k b bs fault e) q d =
    elim (invert total known (b ∷ bs) q d) [
      | inl h ↦ ap (λ (f : Fault). Err f) (same-fault (section_at total known (b ∷ bs)) fault h.0 e h.1) ∙ sym h.2
      | inr h ↦ absurd (not-both (section_at total known (b ∷ bs)) fault (h.0, h.1) e h.2)
    ]
sections-one total known bytes r (more k b bs next rest end e d) q d' =
    elim (invert total known (b ∷ bs) q d') [
      | inl h ↦ absurd (not-both (section_at total known (b ∷ bs)) h.0 (next, rest) h.1 e)
      | inr h ↦
          let same = same-next (section_at total known (b ∷ bs)) (h.0, h.1) (next, rest) h.2 e in
          sections-one total next rest r d q (subst (λ (p : Progress × List ℕ). Sections total p.0 p.1 q) same h.3)
    ]

-- ---- some end

sections-behind : (total : ℕ) (known : Progress) (b : ℕ) (bs : List ℕ) (s : read-section) → section_at total known (b ∷ bs) ≡ s
    → ((next : Progress) (rest : List ℕ) → length rest < length (b ∷ bs) → (r : Result Progress Fault) × Sections total next rest r)
    → (r : Result Progress Fault) × Sections total known (b ∷ bs) r
sections-behind total known b bs (Err fault) e go = (Err fault, faulty known b bs fault e)
sections-behind total known b bs (Ok p) e go =
    let t = go p.0 p.1 (section-shorter total known (b ∷ bs) p.0 p.1 e) in
    (t.0, more known b bs p.0 p.1 t.0 e t.1)

sections-end : (fuel total : ℕ) (known : Progress) (bytes : List ℕ) → length bytes ≤ fuel → (r : Result Progress Fault) × Sections total known bytes r
sections-end zero total known [] le = (Ok known, no_more known)
sections-end zero total known (b ∷ bs) le = absurd (omega (arith, le))
sections-end (suc fuel) total known [] le = (Ok known, no_more known)
sections-end (suc fuel) total known (b ∷ bs) le =
    sections-behind total known b bs (section_at total known (b ∷ bs)) refl (λ next rest lt. sections-end fuel total next rest (omega (arith, le, lt)))

-- ---- modules

fresh-start : IsFresh nothing_known
fresh-start = record { types = λ _. refl; imports = λ _. refl }

preamble-sound : (bytes rest : List ℕ) → preamble_at bytes ≡ Ok rest → bytes ≡ magic ++ (version ++ rest)
preamble-sound bytes rest e =
    let a = bind_ok (literal_at kinds.Magic magic bytes) (literal_at kinds.Version version) rest e in
    literal-sound kinds.Magic magic bytes a.0 a.1 ∙ ap (λ (t : List ℕ). magic ++ t) (literal-sound kinds.Version version a.0 rest a.2)

preamble-again : (rest : List ℕ) → preamble_at (magic ++ (version ++ rest)) ≡ Ok rest
preamble-again rest =
    ap (λ (r : Result (List ℕ) Stop). r >>= literal_at kinds.Version version) (literal-again kinds.Magic magic (version ++ rest)) ∙ literal-again kinds.Version version rest

abbrev pub said : Progress → WasmModule
said end = record { types = end.types; imports = end.imports }

pub module-sound : (total : ℕ) (bytes rest : List ℕ) (end : Progress) → placed total (preamble_at bytes) ≡ Ok rest → Sections total nothing_known rest (Ok end) → IsModule (said end) bytes
module-sound total bytes rest end e d =
    let parts = preamble-sound bytes rest (placed_ok total (preamble_at bytes) rest e) in
    let t = sections-sound total nothing_known rest (Ok end) d end refl fresh-start in (
      t.sections,
      record { order = t.order; types = t.types; imports = t.imports; known = subst (λ (is : List Import). KnownIn (length end.types) is) (sym t.imports) t.known_imports },
      (magic, version ++ rest, parts, refl, (version, rest, refl, refl, t.many)),
    )

both-said : {a b : WasmModule} → a.types ≡ b.types → a.imports ≡ b.imports → a ≡ b
both-said {a} {b} t i = ap (λ (ts : List FunctionType). record { types = ts; imports = a.imports }) t ∙ ap (λ (is : List Import). record { types = b.types; imports = is }) i

pub record IsRead (m : WasmModule) (bytes : List ℕ) : Type 0 where
  pub rest : List ℕ
  pub end : Progress
  pub preamble : preamble_at bytes ≡ Ok rest
  pub sections : Sections (length bytes) nothing_known rest (Ok end)
  pub says : said end ≡ m

pub module-again : (m : WasmModule) (bytes : List ℕ) → IsModule m bytes → IsRead m bytes
module-again m bytes h =
    let many = h.2.4.4 in
    let rest = h.2.4.1 in
    let whole : bytes ≡ magic ++ (version ++ rest) = h.2.2 ∙ ap (λ (t : List ℕ). t ++ h.2.1) h.2.3 ∙ ap (λ (t : List ℕ). magic ++ t) (h.2.4.2 ∙ ap (λ (t : List ℕ). t ++ rest) h.2.4.3) in
    let all = behind-types h.0 rest nothing_known many h.1.order fresh-start in
    let types : (behind nothing_known h.0).types ≡ m.types = all.0 ∙ sym h.1.types in
    let imports : (behind nothing_known h.0).imports ≡ m.imports = all.1 ∙ sym h.1.imports in
    let known : KnownIn (length (behind nothing_known h.0).types) (flat_map imports_in h.0) =
    subst (λ (ts : List FunctionType). KnownIn (length ts) (flat_map imports_in h.0)) (sym types) (subst (λ (is : List Import). KnownIn (length m.types) is) h.1.imports h.1.known) in
    record {
      rest = rest;
      end = behind nothing_known h.0;
      preamble = ap preamble_at whole ∙ preamble-again rest;
      sections = sections-again h.0 (length bytes) nothing_known rest many h.1.order known;
      says = both-said types imports;
    }

-- ---- the laws

end-is : (a b : Progress) → well a ≡ well b → a ≡ b
end-is a b e = cc

same-rest : (p : Result (List ℕ) Stop) (a b : List ℕ) → p ≡ Ok a → p ≡ Ok b → a ≡ b
same-rest p a b x y = cc

pub at-most-one-module : (bytes : List ℕ) (m n : WasmModule) → IsModule m bytes → IsModule n bytes → m ≡ n
at-most-one-module bytes m n h k =
    let a = module-again m bytes h in
    let b = module-again n bytes k in
    let same = same-rest (preamble_at bytes) a.rest b.rest a.preamble b.preamble in
    let d = subst (λ (t : List ℕ). Sections (length bytes) nothing_known t (Ok a.end)) same a.sections in
    sym a.says ∙ ap said (end-is a.end b.end (sections-one (length bytes) nothing_known b.rest (Ok a.end) d (Ok b.end) b.sections)) ∙ b.says

ok-no-fault : (end : Progress) (f : Fault) → well end ≡ Err f → ⊥
ok-no-fault end f e = cc

pub no-fault : (bytes : List ℕ) (m : WasmModule) (f : Fault) → IsModule m bytes → HasByteFault f bytes → ⊥
no-fault bytes m f h k =
    let a = module-again m bytes h in
    let placed-ok : placed (length bytes) (preamble_at bytes) ≡ Ok a.rest = ap (placed (length bytes)) a.preamble in
    let d = subst (HasFaultBehind (length bytes) f) placed-ok k in
    ok-no-fault a.end f (sections-one (length bytes) nothing_known a.rest (Ok a.end) a.sections (Err f) d)

abbrev Either : List ℕ → Type 0
Either bytes = ((m : WasmModule) × IsModule m bytes) ⊎ ((f : Fault) × HasByteFault f bytes)

ended : (bytes rest : List ℕ) → placed (length bytes) (preamble_at bytes) ≡ Ok rest → (r : Result Progress Fault) → Sections (length bytes) nothing_known rest r → Either bytes
ended bytes rest e (Ok end) d = inl (said end, module-sound (length bytes) bytes rest end e d)
ended bytes rest e (Err f) d = inr (f, subst (HasFaultBehind (length bytes) f) (sym e) d)

begun : (bytes : List ℕ) (p : Result (List ℕ) Fault) → placed (length bytes) (preamble_at bytes) ≡ p → Either bytes
begun bytes (Err f) e = inr (f, subst (HasFaultBehind (length bytes) f) (sym e) refl)
begun bytes (Ok rest) e = let t = sections-end (length rest) (length bytes) nothing_known rest (omega arith) in ended bytes rest e t.0 t.1

pub module-or-fault : (bytes : List ℕ) → Either bytes
module-or-fault bytes = begun bytes (placed (length bytes) (preamble_at bytes)) refl

abbrev ill : Fault → Result Progress Fault
ill f = Err f

fault-is : (f g : Fault) → ill f ≡ ill g → f ≡ g
fault-is f g e = cc

faults-behind : (total : ℕ) (p : Result (List ℕ) Fault) (f g : Fault) → HasFaultBehind total f p → HasFaultBehind total g p → f ≡ g
faults-behind total (Err e) f g h k = h ∙ sym k
faults-behind total (Ok rest) f g h k = fault-is f g (sections-one total nothing_known rest (Err f) h (Err g) k)

pub at-most-one-fault : (bytes : List ℕ) (f g : Fault) → HasByteFault f bytes → HasByteFault g bytes → f ≡ g
at-most-one-fault bytes f g h k = faults-behind (length bytes) (placed (length bytes) (preamble_at bytes)) f g h k
