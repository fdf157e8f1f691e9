-- Numbers, flags and builtins in bytes, and back.
use Rattle.std.proofs.Common.{◌≡◌, ◌≢◌, ℕ, zero, suc, ◌+◌, ◌-◌, ◌*◌, ◌/◌, ◌%◌, ◌^◌, ◌<◌, ◌≤◌, Bool, true, false, cond, refl, sym, ap, ◌∙◌, subst, arith, ℤ, pos, negsuc, Option, Some, None, option_map, option_and_then, List, [], ◌∷◌, length, nat_eq, ltb→lt, lt→ltb, lit<, pow-suc, pow_mono, mod-eq_of_lt, T, inl, inr, ltb}
use Rattle.std.proofs.Math.Nat.{mod-lt}
use Rattle.witx_ast.specs.declared.types.BuiltinType.{BuiltinType}
use Rattle.witx_ast.specs.declared.types.IntRepr.{IntRepr}
use Rattle.witx_ast.specs.Tags.{repr_bits}
use Rattle.witx_ast.specs.Values.{InRange}
use Rattle.witx_layout.specs.Numbers.{builtin_size, repr_size}
use Rattle.witx_machine.specs.Words.{wrapped, with_sign, cut, bits_of_flags, flags_from, when}
use Rattle.witx_bytes.specs.Bytes.{Bytes, Agrees, AreBytes}
use Rattle.witx_bytes.specs.Images.{little}
use Rattle.witx_bytes.specs.Reading.{number_at}

-- what comes of two steps
pub then_some : {A B : Type 0} (f : A → Option B) (o : Option A) (y : B) → option_and_then f o ≡ Some y → (x : A) × (o ≡ Some x) × (f x ≡ Some y)
then_some f None y h = absurd (clash h)
  where
    clash : None ≡ Some y → ⊥
    clash h = cc
then_some f (Some x) y h = (x, refl, h)

pub map_some : {A B : Type 0} (f : A → B) (o : Option A) (y : B) → option_map f o ≡ Some y → (x : A) × (o ≡ Some x) × (f x ≡ y)
map_some f None y h = absurd (clash h)
  where
    clash : None ≡ Some y → ⊥
    clash h = cc
map_some f (Some x) y h = (x, refl, cc)

pub when_some : {A : Type 0} (b : Bool) (o : Option A) (y : A) → when b o ≡ Some y → (b ≡ true) × (o ≡ Some y)
when_some true o y h = (refl, h)
when_some false o y h = absurd (clash h)
  where
    clash : None ≡ Some y → ⊥
    clash h = cc

-- what comes of a test
pub when_is : {A : Type 0} (b : Bool) (x y : A) → when b (Some x) ≡ Some y → (b ≡ true) × (x ≡ y)
when_is true x y h = (refl, cc)
when_is false x y h = absurd (clash h)
  where
    clash : None ≡ Some y → ⊥
    clash h = cc

pub number-back : (width n : ℕ) (m : Bytes) (at : ℕ) → n < 256 ^ width → Agrees m at (little width n) → number_at width m at ≡ Some n
number-back zero n m at lt h = let e : 0 ≡ n = omega (arith, lt) in ap Some e
number-back (suc width) n m at lt h =
    let rest : n / 256 < 256 ^ width = omega (arith, lt, pow-suc 256 width) in
    let whole : n % 256 + 256 * (n / 256) ≡ n = omega arith in
    ap (option_and_then (λ low. option_map (λ high. low + 256 * high) (number_at width m (suc at)))) h.0 ∙ ap (option_map (λ high. n % 256 + 256 * high)) (number-back width (n / 256) m (suc at) rest h.1) ∙ ap Some whole

pub number-stands : (width n : ℕ) (m : Bytes) (at : ℕ) → AreBytes m → number_at width m at ≡ Some n → (n < 256 ^ width) × Agrees m at (little width n)
number-stands zero n m at bytes h = let e : 0 ≡ n = cc in (omega (arith, e), tt)
number-stands (suc width) n m at bytes h =
    let a = then_some _ (m at) n h in
    let b = map_some _ (number_at width m (suc at)) n a.2 in
    let low : a.0 < 256 = bytes at a.0 a.1 in
    let same : a.0 + 256 * b.0 ≡ n = b.2 in
    let rest = number-stands width b.0 m (suc at) bytes b.1 in
    let digit : a.0 ≡ n % 256 = omega (arith, low, same) in
    let more : b.0 ≡ n / 256 = omega (arith, low, same) in
    (omega (arith, low, same, rest.0, pow-suc 256 width), (a.1 ∙ ap Some digit, subst (λ k. Agrees m (suc at) (little width k)) more rest.1))

pub repr-modulus : (r : IntRepr) → 2 ^ repr_bits r ≡ 256 ^ repr_size r
repr-modulus IntRepr.U8 = refl
repr-modulus IntRepr.U16 = refl
repr-modulus IntRepr.U32 = refl
repr-modulus IntRepr.U64 = refl

-- flags
bit-low : (b : Bool) (x : ℕ) → nat_eq ((cond b 1 0 + 2 * x) % 2) 1 ≡ b
bit-low true x = let e : (1 + 2 * x) % 2 ≡ 1 = omega arith in ap (λ n. nat_eq n 1) e
bit-low false x = let e : (0 + 2 * x) % 2 ≡ 0 = omega arith in ap (λ n. nat_eq n 1) e

bit-rest : (b : Bool) (x : ℕ) → (cond b 1 0 + 2 * x) / 2 ≡ x
bit-rest true x = omega arith
bit-rest false x = omega arith

cons-both : {A : Type 0} {x y : A} {xs ys : List A} → x ≡ y → xs ≡ ys → x ∷ xs ≡ y ∷ ys
cons-both p q i = p i ∷ q i

pub flags-back : (bs : List Bool) (n : ℕ) → n ≡ length bs → flags_from n (bits_of_flags bs) ≡ bs
flags-back [] zero e = refl
flags-back [] (suc n) e = absurd (omega arith)
flags-back (b ∷ bs) zero e = absurd (omega arith)
flags-back (b ∷ bs) (suc n) e = cons-both (bit-low b (bits_of_flags bs)) (ap (flags_from n) (bit-rest b (bits_of_flags bs)) ∙ flags-back bs n (omega arith))

pub flags-below : (bs : List Bool) → bits_of_flags bs < 2 ^ length bs
flags-below [] = lit< tt
flags-below (true ∷ bs) = omega (arith, pow-suc 2 (length bs), flags-below bs)
flags-below (false ∷ bs) = omega (arith, pow-suc 2 (length bs), flags-below bs)

pub flags-fit : (r : IntRepr) (bs : List Bool) → length bs ≤ repr_bits r → bits_of_flags bs < 256 ^ repr_size r
flags-fit r bs h = let more : 2 ^ length bs ≤ 256 ^ repr_size r = subst (λ n. 2 ^ length bs ≤ n) (repr-modulus r) (pow_mono h) in omega (arith, flags-below bs, more)

pub flags-long : (n x : ℕ) → length (flags_from n x) ≡ n
flags-long zero x = refl
flags-long (suc n) x = ap suc (flags-long n (x / 2))

pub flags-bits : (n x : ℕ) → x < 2 ^ n → bits_of_flags (flags_from n x) ≡ x
flags-bits zero x h = omega (arith, h)
flags-bits (suc n) x h =
    let rest = flags-bits n (x / 2) (omega (arith, h, pow-suc 2 n)) in
    go (nat_eq (x % 2) 1) refl rest
  where
    go : (b : Bool) → nat_eq (x % 2) 1 ≡ b → bits_of_flags (flags_from n (x / 2)) ≡ x / 2 → cond b 1 0 + 2 * bits_of_flags (flags_from n (x / 2)) ≡ x
    go true e k = let low : x % 2 ≡ 1 = (Rattle.witx_ast.proofs.Decided.decides-eq (x % 2) 1).0 e in omega (arith, low, k)
    go false e k = let low : x % 2 ≢ 1 = λ s. Rattle.witx_base.specs.SameBytes.false-true (sym e ∙ (Rattle.witx_ast.proofs.Decided.decides-eq (x % 2) 1).1 s) in omega (arith, low, k)

-- builtins
size-some : (b : BuiltinType) → 0 < 256 ^ builtin_size b
size-some BuiltinType.Char = lit< tt
size-some (BuiltinType.U8 c) = lit< tt
size-some BuiltinType.U16 = lit< tt
size-some (BuiltinType.U32 p) = lit< tt
size-some BuiltinType.U64 = lit< tt
size-some BuiltinType.S8 = lit< tt
size-some BuiltinType.S16 = lit< tt
size-some BuiltinType.S32 = lit< tt
size-some BuiltinType.S64 = lit< tt
size-some BuiltinType.F32 = lit< tt
size-some BuiltinType.F64 = lit< tt

wrapped-small : (m : ℕ) (z : ℤ) → 0 < m → wrapped m z < m
wrapped-small m (pos x) h = mod-lt x h
wrapped-small m (negsuc x) h = omega (arith, h)

pub wrapped-below : (b : BuiltinType) (z : ℤ) → wrapped (256 ^ builtin_size b) z < 256 ^ builtin_size b
wrapped-below b z = wrapped-small _ z (size-some b)

below : {A : Type 0} (b : Bool) (x y : A) → T b → cond b x y ≡ x
below true x y h = refl
below false x y h = absurd h

past : (x n : ℕ) {A : Type 0} (y z : A) → n ≤ x → cond (ltb x n) y z ≡ z
past x n y z h = go (ltb x n) (λ t. ltb→lt x n t)
  where
    go : (b : Bool) → (T b → x < n) → cond b y z ≡ z
    go true k = absurd (omega (arith, k tt))
    go false k = refl

positive : (half x y : ℕ) → x < half → y ≡ x → with_sign half y ≡ pos x
positive half x y h e = ap (with_sign half) e ∙ below (ltb x half) _ _ (lt→ltb x half h)

negative : (half x y : ℕ) → x < half → y ≡ half + half - 1 - x → with_sign half y ≡ negsuc x
negative half x y h e =
    let le : half ≤ half + half - 1 - x = omega arith in
    let back : half + half - 1 - (half + half - 1 - x) ≡ x = omega arith in
    ap (with_sign half) e ∙ past (half + half - 1 - x) half _ _ le ∙ ap negsuc back

scalar-small : (x : ℕ) → InRange BuiltinType.Char (pos x) → x < 2 ^ 32
scalar-small x (inl h) = omega (arith, h)
scalar-small x (inr h) = omega (arith, h.1)

pub cut-back : (b : BuiltinType) (z : ℤ) → InRange b z → cut b (wrapped (256 ^ builtin_size b) z) ≡ z
cut-back BuiltinType.Char (pos x) h = ap pos (omega (arith, scalar-small x h))
cut-back BuiltinType.Char (negsuc x) h = absurd h
cut-back (BuiltinType.U8 c) (pos x) h = ap pos (omega (arith, h))
cut-back (BuiltinType.U8 c) (negsuc x) h = absurd h
cut-back BuiltinType.U16 (pos x) h = ap pos (omega (arith, h))
cut-back BuiltinType.U16 (negsuc x) h = absurd h
cut-back (BuiltinType.U32 p) (pos x) h = ap pos (omega (arith, h))
cut-back (BuiltinType.U32 p) (negsuc x) h = absurd h
cut-back BuiltinType.U64 (pos x) h = ap pos (omega (arith, h))
cut-back BuiltinType.U64 (negsuc x) h = absurd h
cut-back BuiltinType.S8 (pos x) h = positive (2 ^ 7) x _ h (omega (arith, h))
cut-back BuiltinType.S8 (negsuc x) h = negative (2 ^ 7) x _ h (omega (arith, h))
cut-back BuiltinType.S16 (pos x) h = positive (2 ^ 15) x _ h (omega (arith, h))
cut-back BuiltinType.S16 (negsuc x) h = negative (2 ^ 15) x _ h (omega (arith, h))
cut-back BuiltinType.S32 (pos x) h = positive (2 ^ 31) x _ h (omega (arith, h))
cut-back BuiltinType.S32 (negsuc x) h = negative (2 ^ 31) x _ h (omega (arith, h))
cut-back BuiltinType.S64 (pos x) h = positive (2 ^ 63) x _ h (omega (arith, h))
cut-back BuiltinType.S64 (negsuc x) h = negative (2 ^ 63) x _ h (omega (arith, h))
cut-back BuiltinType.F32 (pos x) h = ap pos (omega (arith, h))
cut-back BuiltinType.F32 (negsuc x) h = absurd h
cut-back BuiltinType.F64 (pos x) h = ap pos (omega (arith, h))
cut-back BuiltinType.F64 (negsuc x) h = absurd h

-- a number below 2 * half, read with a sign, in two's complement
signed-back : (half x : ℕ) → x < half + half → wrapped (half + half) (with_sign half x) ≡ x
signed-back half x h = go (ltb x half) refl
  where
    go : (b : Bool) → ltb x half ≡ b → wrapped (half + half) (cond b (pos x) (negsuc (half + half - 1 - x))) ≡ x
    go true e = mod-eq_of_lt h
    go false e = let small : half + half - 1 - x < half + half = omega (arith, h) in ap (λ k. half + half - 1 - k) (mod-eq_of_lt small) ∙ omega (arith, h)

signed-cut : (half x y : ℕ) → x < half + half → y ≡ x → wrapped (half + half) (with_sign half y) ≡ x
signed-cut half x y h e = ap (λ y. wrapped (half + half) (with_sign half y)) e ∙ signed-back half x h

pub cut-bytes : (b : BuiltinType) (x : ℕ) → x < 256 ^ builtin_size b → wrapped (256 ^ builtin_size b) (cut b x) ≡ x
cut-bytes BuiltinType.Char x h = omega (arith, h)
cut-bytes (BuiltinType.U8 c) x h = omega (arith, h)
cut-bytes BuiltinType.U16 x h = omega (arith, h)
cut-bytes (BuiltinType.U32 p) x h = omega (arith, h)
cut-bytes BuiltinType.U64 x h = omega (arith, h)
cut-bytes BuiltinType.S8 x h = signed-cut (2 ^ 7) x _ h (omega (arith, h))
cut-bytes BuiltinType.S16 x h = signed-cut (2 ^ 15) x _ h (omega (arith, h))
cut-bytes BuiltinType.S32 x h = signed-cut (2 ^ 31) x _ h (omega (arith, h))
cut-bytes BuiltinType.S64 x h = signed-cut (2 ^ 63) x _ h (omega (arith, h))
cut-bytes BuiltinType.F32 x h = omega (arith, h)
cut-bytes BuiltinType.F64 x h = omega (arith, h)
