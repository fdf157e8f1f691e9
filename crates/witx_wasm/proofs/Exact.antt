-- Readings that are exact for a form: what is read has the form, and what has the form is read, whatever follows.
use Rattle.std.proofs.Common.{◌≡◌, ℕ, zero, suc, ◌+◌, ◌-◌, ◌*◌, ◌^◌, ◌<◌, ◌≤◌, Bool, true, false, cond, ltb, eqb, List, [], ◌∷◌, ◌++◌, length, take, drop, Result, Ok, Err, refl, sym, ap, subst, ◌∙◌, append_assoc, arith}
use Rattle.std.proofs.lemmas.Bool.{eqb-true, eq-eqb, ltb-true, ltb-false, lt-ltb, le-ltb}
use Rattle.std.proofs.lemmas.List.{take_at, drop_at, take-append-drop, length-append, length-take, append-nil, nil_from_length}
use Rattle.std.proofs.lemmas.Str.{IsUtf8-from_is_utf8, is_utf8-from_IsUtf8}
use Rattle.std.specs.Str.{is_utf8}
use Rattle.std.specs.Str.Lossy.{utf8_valid_len}
use Rattle.witx_wasm.specs.Forms.{just, byte, ◌before◌, IsUnsigned, IsU32, AreMany, IsVector, IsSized, IsName}
use Rattle.witx_wasm.specs.Readers.{Reading, ◌>>=◌, stop, byte_at, expected_at, literal_at, unsigned_at, u32_at, many_at, vector_at, sized_at, name_at, all_of}
use Rattle.witx_wasm.specs.declared.fault.FaultKind.{FaultKind}
use Rattle.witx_wasm.specs.declared.fault.FaultKind.TheVariants as kinds
use Rattle.witx_wasm.specs.declared.fault.Stop.{Stop}

-- bytes of the form stand in front of the rest
abbrev pub Takes : (List ℕ → Type 0) → List ℕ → List ℕ → Type 0
Takes P bytes rest = (front : List ℕ) × (bytes ≡ front ++ rest) × P front

pub record IsExact {A : Type 0} (read : List ℕ → Reading A) (R : A → List ℕ → Type 0) : Type 0 where
  pub sound : (bytes : List ℕ) (x : A) (rest : List ℕ) → read bytes ≡ Ok (x, rest) → Takes (R x) bytes rest
  pub again : (x : A) (front rest : List ℕ) → R x front → read (front ++ rest) ≡ Ok (x, rest)

pub takes-before : (P Q : List ℕ → Type 0) (a b c : List ℕ) → Takes P a b → Takes Q b c → Takes (P before Q) a c
takes-before P Q a b c p q = (p.0 ++ q.0, p.1 ∙ ap (λ (t : List ℕ). p.0 ++ t) q.1 ∙ sym (append_assoc p.0 q.0 c), (p.0, q.0, refl, p.2, q.2))

-- the value of a step that did not stop
pub bind_ok : {A B E : Type 0} (r : Result A E) (f : A → Result B E) (y : B) → (r >>= f) ≡ Ok y → (x : A) × (r ≡ Ok x) × (f x ≡ Ok y)
bind_ok (Ok x) f y e = (x, refl, e)
bind_ok (Err d) f y e = absurd cc

-- a test that did not stop the reading, and one that had to hold
pub guard_ok : {A E : Type 0} (b : Bool) (d : E) (r : Result A E) (y : A) → cond b (Err d) r ≡ Ok y → (b ≡ false) × (r ≡ Ok y)
guard_ok true d r y e = absurd cc
guard_ok false d r y e = (refl, e)

pub hold_ok : {A E : Type 0} (b : Bool) (d : E) (r : Result A E) (y : A) → cond b r (Err d) ≡ Ok y → (b ≡ true) × (r ≡ Ok y)
hold_ok true d r y e = (refl, e)
hold_ok false d r y e = absurd cc

abbrev done : {A : Type 0} → A → Result A Stop
done x = Ok x

pub ok_is : {A : Type 0} (x y : A) → done x ≡ done y → x ≡ y
ok_is x y e = cc

-- what stands in front of a form is read, and then the rest of it
pub again-before : {A B : Type 0} (read : List ℕ → Reading A) (R : A → List ℕ → Type 0) → IsExact read R → (next : A × List ℕ → Result B Stop)
    (x : A) (Q : List ℕ → Type 0) (front rest : List ℕ) (z : B) → (R x before Q) front
    → ((back : List ℕ) → Q back → next (x, back ++ rest) ≡ Ok z) → (read (front ++ rest) >>= next) ≡ Ok z
again-before read R exact next x Q front rest z h k =
    let regrouped : front ++ rest ≡ h.0 ++ (h.1 ++ rest) = ap (λ (t : List ℕ). t ++ rest) h.2 ∙ append_assoc h.0 h.1 rest in
    let first : read (front ++ rest) ≡ Ok (x, h.1 ++ rest) = ap read regrouped ∙ exact.again x h.0 (h.1 ++ rest) h.3 in
    ap (λ (r : Reading _). r >>= next) first ∙ k h.1 h.4

-- two readings, one behind the other, whose values make up one
module _ {A B C : Type 0} (read : List ℕ → Reading A) (R : A → List ℕ → Type 0) (second : List ℕ → Reading B) (S : B → List ℕ → Type 0) (read-exact : IsExact read R) (second-exact : IsExact second S)
    (make : A → B → C) (head : C → A) (last : C → B) (whole : (c : C) → make (head c) (last c) ≡ c) (parts : (a : A) (b : B) → (head (make a b) ≡ a) × (last (make a b) ≡ b)) where
  abbrev pair_at : List ℕ → Reading C
  pair_at bytes = read bytes >>= λ a. second a.1 >>= λ b. Ok (make a.0 b.0, b.1)

  abbrev pair_done : C → List ℕ → Reading C
  pair_done c rest = Ok (c, rest)

  abbrev IsPair : C → List ℕ → Type 0
  IsPair c = R (head c) before S (last c)

  pair-made : (bytes mid rest : List ℕ) (x : A) (y : B) (c : C) → pair_done (make x y) mid ≡ pair_done c rest → Takes (R x before S y) bytes mid → Takes (IsPair c) bytes rest
  pair-made bytes mid rest x y c same t =
      subst (λ (q : C × List ℕ). Takes (IsPair q.0) bytes q.1) (ok_is (make x y, mid) (c, rest) same)
      (subst (λ (u : A). Takes (R u before S (last (make x y))) bytes mid) (sym (parts x y).0) (subst (λ (v : B). Takes (R x before S v) bytes mid) (sym (parts x y).1) t))

  pair-sound : (bytes : List ℕ) (c : C) (rest : List ℕ) → pair_at bytes ≡ Ok (c, rest) → Takes (IsPair c) bytes rest
  pair-sound bytes c rest e =
      let a = bind_ok (read bytes) (λ a. second a.1 >>= λ b. Ok (make a.0 b.0, b.1)) (c, rest) e in
      let b = bind_ok (second a.0.1) (λ b. Ok (make a.0.0 b.0, b.1)) (c, rest) a.2 in
      pair-made bytes b.0.1 rest a.0.0 b.0.0 c b.2
      (takes-before (R a.0.0) (S b.0.0) bytes a.0.1 b.0.1 (read-exact.sound bytes a.0.0 a.0.1 a.1) (second-exact.sound a.0.1 b.0.0 b.0.1 b.1))

  pair-again : (c : C) (front rest : List ℕ) → IsPair c front → pair_at (front ++ rest) ≡ Ok (c, rest)
  pair-again c front rest h =
      again-before read R read-exact _ (head c) (S (last c)) front rest (c, rest) h (λ b p. rw (second-exact.again (last c) b rest p) (ap (λ (x : C). done (x, rest)) (whole c)))

  pub pair-exact : IsExact pair_at IsPair
  pair-exact = record { sound = pair-sound; again = pair-again }

-- ---- bytes

byte-sound : (bytes : List ℕ) (x : ℕ) (rest : List ℕ) → byte_at bytes ≡ Ok (x, rest) → Takes (byte x) bytes rest
unfolding byte_at
byte-sound [] x rest e = absurd cc
byte-sound (b ∷ bs) x rest e = subst (λ (p : ℕ × List ℕ). Takes (byte p.0) (b ∷ bs) p.1) (ok_is (b, bs) (x, rest) e) (b ∷ [], refl, refl)

byte-again : (x : ℕ) (front rest : List ℕ) → byte x front → byte_at (front ++ rest) ≡ Ok (x, rest)
unfolding byte_at
byte-again x front rest h = ap (λ (t : List ℕ). byte_at (t ++ rest)) h

pub byte-exact : IsExact byte_at byte
byte-exact = record { sound = byte-sound; again = byte-again }

-- ---- literal bytes

expected-sound : (kind : FaultKind) (w : ℕ) (bytes rest : List ℕ) → expected_at kind w bytes ≡ Ok rest → bytes ≡ w ∷ rest
unfolding expected_at
expected-sound kind w [] rest e = absurd cc
expected-sound kind w (b ∷ bs) rest e =
    let h = hold_ok (eqb b w) (stop kind (b ∷ bs)) (done bs) rest e in
    rw (eqb-true b w h.0) (ap (λ (t : List ℕ). w ∷ t) (ok_is bs rest h.1))

expected-again : (kind : FaultKind) (w : ℕ) (rest : List ℕ) → expected_at kind w (w ∷ rest) ≡ Ok rest
unfolding expected_at
expected-again kind w rest = rw (eq-eqb w w refl) refl

pub literal-sound : (kind : FaultKind) (ws bytes rest : List ℕ) → literal_at kind ws bytes ≡ Ok rest → bytes ≡ ws ++ rest
literal-sound kind [] bytes rest e = ok_is bytes rest e
literal-sound kind (w ∷ ws) bytes rest e =
    let a = bind_ok (expected_at kind w bytes) (literal_at kind ws) rest e in
    expected-sound kind w bytes a.0 a.1 ∙ ap (λ (t : List ℕ). w ∷ t) (literal-sound kind ws a.0 rest a.2)

pub literal-again : (kind : FaultKind) (ws rest : List ℕ) → literal_at kind ws (ws ++ rest) ≡ Ok rest
literal-again kind [] rest = refl
literal-again kind (w ∷ ws) rest = ap (λ (r : Result (List ℕ) Stop). r >>= literal_at kind ws) (expected-again kind w (ws ++ rest)) ∙ literal-again kind ws rest

-- ---- numbers

group : (bits b high : ℕ) (bs rest front : List ℕ) → 128 ≤ b → 7 < bits → bs ≡ front ++ rest → IsUnsigned (bits - 7) high front
    → Takes (IsUnsigned bits (128 * high + (b - 128))) (b ∷ bs) rest
group bits b high bs rest [] large more parts h = absurd h
group bits b high bs rest (c ∷ cs) large more parts h = (b ∷ c ∷ cs, ap (λ (t : List ℕ). b ∷ t) parts, (large, more, high, h, refl))

-- what unsigned_at is behind its tests
abbrev higher : ℕ → ℕ × List ℕ → Reading ℕ
higher b high = Ok (128 * high.0 + (b - 128), high.1)

abbrev if_last : ℕ → ℕ → List ℕ → Reading ℕ
if_last bits b bs = cond (ltb b (2 ^ bits)) (Ok (b, bs)) (Err (stop kinds.Number (b ∷ bs)))

abbrev if_more : ℕ → ℕ → List ℕ → Reading ℕ
if_more bits b bs = cond (ltb 7 bits) (unsigned_at (bits - 7) bs >>= higher b) (Err (stop kinds.Number (b ∷ bs)))

last-one : (b : ℕ) (bs : List ℕ) (bits n : ℕ) (rest : List ℕ) → b < 128 → if_last bits b bs ≡ Ok (n, rest) → Takes (IsUnsigned bits n) (b ∷ bs) rest
last-one b bs bits n rest small e =
    let found : Reading ℕ = Ok (b, bs) in
    let h = hold_ok (ltb b (2 ^ bits)) (stop kinds.Number (b ∷ bs)) found (n, rest) e in
    subst (λ (p : ℕ × List ℕ). Takes (IsUnsigned bits p.0) (b ∷ bs) p.1) (ok_is (b, bs) (n, rest) h.1)
    (b ∷ [], refl, (small, ltb-true _ _ h.0, refl))

-- what holds of the numbers behind
abbrev SoundBehind : ℕ → List ℕ → Type 0
SoundBehind bits bs = (high : ℕ) (behind : List ℕ) → unsigned_at (bits - 7) bs ≡ Ok (high, behind) → Takes (IsUnsigned (bits - 7) high) bs behind

one-of-more : (b : ℕ) (bs : List ℕ) (bits n : ℕ) (rest : List ℕ) → 128 ≤ b → SoundBehind bits bs → if_more bits b bs ≡ Ok (n, rest)
    → Takes (IsUnsigned bits n) (b ∷ bs) rest
one-of-more b bs bits n rest large below e =
    let h = hold_ok (ltb 7 bits) (stop kinds.Number (b ∷ bs)) (unsigned_at (bits - 7) bs >>= higher b) (n, rest) e in
    let a = bind_ok (unsigned_at (bits - 7) bs) (higher b) (n, rest) h.1 in
    let t = below a.0.0 a.0.1 a.1 in
    subst (λ (p : ℕ × List ℕ). Takes (IsUnsigned bits p.0) (b ∷ bs) p.1) (ok_is (128 * a.0.0 + (b - 128), a.0.1) (n, rest) a.2)
    (group bits b a.0.0 bs a.0.1 t.0 large (ltb-true _ _ h.0) t.1 t.2)

either-number : (b : ℕ) (bs : List ℕ) (bits n : ℕ) (rest : List ℕ) (t : Bool) → ltb b 128 ≡ t → SoundBehind bits bs
    → cond t (if_last bits b bs) (if_more bits b bs) ≡ Ok (n, rest) → Takes (IsUnsigned bits n) (b ∷ bs) rest
either-number b bs bits n rest true is below e = last-one b bs bits n rest (ltb-true _ _ is) e
either-number b bs bits n rest false is below e = one-of-more b bs bits n rest (ltb-false _ _ is) below e

unsigned-sound : (bytes : List ℕ) (bits n : ℕ) (rest : List ℕ) → unsigned_at bits bytes ≡ Ok (n, rest) → Takes (IsUnsigned bits n) bytes rest
unfolding unsigned_at
unsigned-sound [] bits n rest e = absurd cc
unsigned-sound (b ∷ bs) bits n rest e = either-number b bs bits n rest (ltb b 128) refl (λ high behind. unsigned-sound bs (bits - 7) high behind) e

unsigned-again : (front : List ℕ) (bits n : ℕ) (rest : List ℕ) → IsUnsigned bits n front → unsigned_at bits (front ++ rest) ≡ Ok (n, rest)
unfolding unsigned_at
unsigned-again [] bits n rest h = absurd h
unsigned-again (b ∷ []) bits n rest h = rw (lt-ltb _ _ h.0, lt-ltb _ _ h.1, h.2) refl
unsigned-again (b ∷ c ∷ bs) bits n rest h =
    let high = unsigned-again (c ∷ bs) (bits - 7) h.2 rest h.3 in
    rw (le-ltb _ _ h.0, lt-ltb _ _ h.1, high, h.4) refl

pub unsigned-exact : (bits : ℕ) → IsExact (unsigned_at bits) (IsUnsigned bits)
unsigned-exact bits = record { sound = λ bytes n rest. unsigned-sound bytes bits n rest; again = λ n front rest. unsigned-again front bits n rest }

pub u32-exact : IsExact u32_at IsU32
u32-exact = unsigned-exact 32

-- ---- vectors

module _ {A : Type 0} (read : List ℕ → Reading A) (R : A → List ℕ → Type 0) (exact : IsExact read R) where
  many-sound : (n : ℕ) (bytes : List ℕ) (xs : List A) (rest : List ℕ) → many_at read n bytes ≡ Ok (xs, rest) → Takes (AreMany R xs) bytes rest × (length xs ≡ n)
  unfolding many_at
  many-sound zero bytes xs rest e =
      subst (λ (p : List A × List ℕ). Takes (AreMany R p.0) bytes p.1 × (length p.0 ≡ 0)) (ok_is ([], bytes) (xs, rest) e) (([], refl, refl), refl)
  many-sound (suc n) bytes xs rest e =
      let a = bind_ok (read bytes) (λ first. many_at read n first.1 >>= λ others. Ok (first.0 ∷ others.0, others.1)) (xs, rest) e in
      let b = bind_ok (many_at read n a.0.1) (λ others. Ok (a.0.0 ∷ others.0, others.1)) (xs, rest) a.2 in
      let first = exact.sound bytes a.0.0 a.0.1 a.1 in
      let others = many-sound n a.0.1 b.0.0 b.0.1 b.1 in
      subst (λ (p : List A × List ℕ). Takes (AreMany R p.0) bytes p.1 × (length p.0 ≡ suc n)) (ok_is (a.0.0 ∷ b.0.0, b.0.1) (xs, rest) b.2)
      (takes-before (R a.0.0) (AreMany R b.0.0) bytes a.0.1 b.0.1 first others.0, ap suc others.1)

  many-again : (xs : List A) (front rest : List ℕ) → AreMany R xs front → many_at read (length xs) (front ++ rest) ≡ Ok (xs, rest)
  unfolding many_at
  many-again [] front rest h = ap (λ (t : List ℕ). Ok ([], t ++ rest)) h
  many-again (x ∷ xs) front rest h =
      again-before read R exact (λ first. many_at read (length xs) first.1 >>= λ others. Ok (first.0 ∷ others.0, others.1)) x (AreMany R xs) front rest (x ∷ xs, rest) h
      (λ back others. ap (λ (r : Reading (List A)). r >>= λ others. Ok (x ∷ others.0, others.1)) (many-again xs back rest others))

  vector-sound : (bytes : List ℕ) (xs : List A) (rest : List ℕ) → vector_at read bytes ≡ Ok (xs, rest) → Takes (IsVector R xs) bytes rest
  unfolding vector_at
  vector-sound bytes xs rest e =
      let a = bind_ok (u32_at bytes) (λ count. many_at read count.0 count.1) (xs, rest) e in
      let m = many-sound a.0.0 a.0.1 xs rest a.2 in
      let count = u32-exact.sound bytes a.0.0 a.0.1 a.1 in
      takes-before (IsU32 (length xs)) (AreMany R xs) bytes a.0.1 rest (subst (λ (n : ℕ). Takes (IsU32 n) bytes a.0.1) (sym m.1) count) m.0

  vector-again : (xs : List A) (front rest : List ℕ) → IsVector R xs front → vector_at read (front ++ rest) ≡ Ok (xs, rest)
  unfolding vector_at
  vector-again xs front rest h =
      again-before u32_at IsU32 u32-exact (λ count. many_at read count.0 count.1) (length xs) (AreMany R xs) front rest (xs, rest) h (λ back. many-again xs back rest)

  pub vector-exact : IsExact (vector_at read) (IsVector R)
  vector-exact = record { sound = vector-sound; again = vector-again }

-- ---- bytes behind their number, and names

sized-sound : (bytes text rest : List ℕ) → sized_at bytes ≡ Ok (text, rest) → Takes (IsSized text) bytes rest
unfolding sized_at
sized-sound bytes text rest e =
    let a = bind_ok (u32_at bytes) (λ size. cond (ltb (length size.1) size.0) (Err (stop kinds.End [])) (Ok (take size.0 size.1, drop size.0 size.1))) (text, rest) e in
    let n = a.0.0 in
    let behind = a.0.1 in
    let g = guard_ok (ltb (length behind) n) (stop kinds.End []) (done (take n behind, drop n behind)) (text, rest) a.2 in
    let long : n ≤ length behind = ltb-false _ _ g.0 in
    let count = u32-exact.sound bytes n behind a.1 in
    let long_enough : n ≡ length (take n behind) = omega (arith, length-take n behind) in
    let second : Takes (just (take n behind)) behind (drop n behind) = (take n behind, sym (take-append-drop n behind), refl) in
    let both = takes-before (IsU32 (length (take n behind))) (just (take n behind)) bytes behind (drop n behind) (subst (λ (k : ℕ). Takes (IsU32 k) bytes behind) long_enough count) second in
    subst (λ (p : List ℕ × List ℕ). Takes (IsSized p.0) bytes p.1) (ok_is (take n behind, drop n behind) (text, rest) g.1) both

sized-again : (text front rest : List ℕ) → IsSized text front → sized_at (front ++ rest) ≡ Ok (text, rest)
unfolding sized_at
sized-again text front rest h =
    again-before u32_at IsU32 u32-exact (λ size. cond (ltb (length size.1) size.0) (Err (stop kinds.End [])) (Ok (take size.0 size.1, drop size.0 size.1)))
    (length text) (just text) front rest (text, rest) h
    (λ back is.
    let long : ltb (length (text ++ rest)) (length text) ≡ false = le-ltb _ _ (omega (arith, length-append text rest)) in
    ap (λ (t : List ℕ). cond (ltb (length (t ++ rest)) (length text)) (Err (stop kinds.End [])) (Ok (take (length text) (t ++ rest), drop (length text) (t ++ rest)))) is
    ∙ rw (long, take_at text rest (length text) refl, drop_at text rest (length text) refl) refl)

pub sized-exact : IsExact sized_at IsSized
sized-exact = record { sound = sized-sound; again = sized-again }

name-sound : (bytes text rest : List ℕ) → name_at bytes ≡ Ok (text, rest) → Takes (IsName text) bytes rest
unfolding name_at
name-sound bytes text rest e =
    let a = bind_ok (sized_at bytes) (λ t. cond (is_utf8 t.0) (Ok t) (Err (stop kinds.NotUtf8 (drop (utf8_valid_len t.0) t.0 ++ t.1)))) (text, rest) e in
    let h = hold_ok (is_utf8 a.0.0) (stop kinds.NotUtf8 (drop (utf8_valid_len a.0.0) a.0.0 ++ a.0.1)) (done a.0) (text, rest) a.2 in
    let s = sized-exact.sound bytes a.0.0 a.0.1 a.1 in
    subst (λ (p : List ℕ × List ℕ). Takes (IsName p.0) bytes p.1) (ok_is a.0 (text, rest) h.1) (s.0, s.1, (s.2, IsUtf8-from_is_utf8 a.0.0 h.0))

name-again : (text front rest : List ℕ) → IsName text front → name_at (front ++ rest) ≡ Ok (text, rest)
unfolding name_at
name-again text front rest h =
    ap (λ (r : Reading (List ℕ)). r >>= λ t. cond (is_utf8 t.0) (Ok t) (Err (stop kinds.NotUtf8 (drop (utf8_valid_len t.0) t.0 ++ t.1)))) (sized-exact.again text front rest h.0)
    ∙ rw (is_utf8-from_IsUtf8 text h.1) refl

pub name-exact : IsExact name_at IsName
name-exact = record { sound = name-sound; again = name-again }

-- ---- all of the bytes

pub all-sound : {A : Type 0} (read : List ℕ → Reading A) (R : A → List ℕ → Type 0) → IsExact read R → (bytes : List ℕ) (x : A) → all_of (read bytes) ≡ Ok x → R x bytes
unfolding all_of
all-sound read R exact bytes x e =
    let a = bind_ok (read bytes) (λ y. cond (eqb (length y.1) 0) (Ok y.0) (Err (stop kinds.Excess y.1))) x e in
    let h = hold_ok (eqb (length a.0.1) 0) (stop kinds.Excess a.0.1) (done a.0.0) x a.2 in
    let none : a.0.1 ≡ [] = nil_from_length a.0.1 (eqb-true _ _ h.0) in
    let t = exact.sound bytes a.0.0 a.0.1 a.1 in
    let whole : bytes ≡ t.0 = t.1 ∙ ap (λ (r : List ℕ). t.0 ++ r) none ∙ append-nil t.0 in
    subst (λ y. R y bytes) (ok_is a.0.0 x h.1) (subst (λ (b : List ℕ). R a.0.0 b) (sym whole) t.2)

pub all-again : {A : Type 0} (read : List ℕ → Reading A) (R : A → List ℕ → Type 0) → IsExact read R → (bytes : List ℕ) (x : A) → R x bytes → all_of (read bytes) ≡ Ok x
unfolding all_of
all-again read R exact bytes x h =
    let whole : read bytes ≡ Ok (x, []) = ap read (sym (append-nil bytes)) ∙ exact.again x bytes [] h in
    ap (λ (r : Reading _). r >>= λ y. cond (eqb (length y.1) 0) (Ok y.0) (Err (stop kinds.Excess y.1))) whole
