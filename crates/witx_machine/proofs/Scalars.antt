-- A number that is lowered to its word and lifted again is itself.
use Rattle.std.proofs.Common.{◌≡◌, ℕ, ◌+◌, ◌-◌, ◌^◌, ◌<◌, ◌≤◌, Bool, true, false, cond, ◌&&◌, ◌||◌, T, ltb, refl, sym, ap, ◌∙◌, subst, arith, ltb→lt, ℤ, pos, negsuc, Option, List, [], ◌∷◌, nat_le}
use Rattle.witx_ast.specs.declared.types.BuiltinType.{BuiltinType}
use Rattle.witx_ast.specs.ValueTests.{in_range, is_scalar}
use Rattle.witx_machine.specs.declared.surface.WasmType.{WasmType}
use Rattle.witx_machine.specs.Words.{cut, with_sign, wrapped, modulus, builtin_word_type, when, same_type, same_types}

pub truth : {b : Bool} → b ≡ true → T b
truth h = subst T (sym h) tt

pub true_of : (b : Bool) → T b → b ≡ true
true_of true h = refl
true_of false h = absurd h

pub same_type_self : (t : WasmType) → T (same_type t t)
same_type_self WasmType.I32 = tt
same_type_self WasmType.I64 = tt
same_type_self WasmType.F32 = tt
same_type_self WasmType.F64 = tt

pub same_type_is : (t u : WasmType) → T (same_type t u) → t ≡ u
same_type_is WasmType.I32 WasmType.I32 h = refl
same_type_is WasmType.I64 WasmType.I64 h = refl
same_type_is WasmType.F32 WasmType.F32 h = refl
same_type_is WasmType.F64 WasmType.F64 h = refl
same_type_is _ _ h = absurd h

pub when_true : {A : Type 0} (b : Bool) (o : Option A) → T b → when b o ≡ o
when_true true o h = refl
when_true false o h = absurd h

pub both_true : (a b : Bool) → T a → T b → T (a && b)
both_true true b h k = k
both_true false b h k = absurd h

pub left_true : (a b : Bool) → T (a && b) → T a
left_true true b h = tt
left_true false b h = absurd h

pub right_true : (a b : Bool) → T (a && b) → T b
right_true true b h = h
right_true false b h = absurd h

pub below : {A : Type 0} (b : Bool) (x y : A) → T b → cond b x y ≡ x
below true x y h = refl
below false x y h = absurd h

pub past : (x n : ℕ) {A : Type 0} (y z : A) → n ≤ x → cond (ltb x n) y z ≡ z
past x n y z h = go (ltb x n) (λ t. ltb→lt x n t)
  where
    go : (b : Bool) → (T b → x < n) → cond b y z ≡ z
    go true k = absurd (omega (arith, k tt))
    go false k = refl

pub positive : (half x y : ℕ) → T (ltb x half) → y ≡ x → with_sign half y ≡ pos x
positive half x y h e = ap (with_sign half) e ∙ below (ltb x half) _ _ h

pub negative : (half x y : ℕ) → x < half → y ≡ half + half - 1 - x → with_sign half y ≡ negsuc x
negative half x y h e =
    let le : half ≤ half + half - 1 - x = omega arith in
    let back : half + half - 1 - (half + half - 1 - x) ≡ x = omega arith in
    ap (with_sign half) e ∙ past (half + half - 1 - x) half _ _ le ∙ ap negsuc back

scalar_small : (x : ℕ) → T (is_scalar (pos x)) → x < 2 ^ 32
scalar_small x h = go (ltb x 0xD800) refl h
  where
    go : (b : Bool) → ltb x 0xD800 ≡ b → T (b || (nat_le 0xE000 x && ltb x 0x110000)) → x < 2 ^ 32
    go true e k = omega (arith, ltb→lt x 0xD800 (subst T (sym e) tt))
    go false e k = omega (arith, ltb→lt x 0x110000 (right_true _ _ k))

pub cut_back : (k : BuiltinType) (z : ℤ) → T (in_range k z) → cut k (wrapped (modulus (builtin_word_type k)) z) ≡ z
cut_back BuiltinType.Char (pos x) h = ap pos (omega (arith, scalar_small x h))
cut_back BuiltinType.Char (negsuc x) h = absurd h
cut_back (BuiltinType.U8 c) (pos x) h = ap pos (omega (arith, ltb→lt x (2 ^ 8) h))
cut_back (BuiltinType.U8 c) (negsuc x) h = absurd h
cut_back BuiltinType.U16 (pos x) h = ap pos (omega (arith, ltb→lt x (2 ^ 16) h))
cut_back BuiltinType.U16 (negsuc x) h = absurd h
cut_back (BuiltinType.U32 p) (pos x) h = ap pos (omega (arith, ltb→lt x (2 ^ 32) h))
cut_back (BuiltinType.U32 p) (negsuc x) h = absurd h
cut_back BuiltinType.U64 (pos x) h = ap pos (omega (arith, ltb→lt x (2 ^ 64) h))
cut_back BuiltinType.U64 (negsuc x) h = absurd h
cut_back BuiltinType.S8 (pos x) h = positive (2 ^ 7) x _ h (omega (arith, ltb→lt x (2 ^ 7) h))
cut_back BuiltinType.S8 (negsuc x) h = negative (2 ^ 7) x _ (ltb→lt x (2 ^ 7) h) (omega (arith, ltb→lt x (2 ^ 7) h))
cut_back BuiltinType.S16 (pos x) h = positive (2 ^ 15) x _ h (omega (arith, ltb→lt x (2 ^ 15) h))
cut_back BuiltinType.S16 (negsuc x) h = negative (2 ^ 15) x _ (ltb→lt x (2 ^ 15) h) (omega (arith, ltb→lt x (2 ^ 15) h))
cut_back BuiltinType.S32 (pos x) h = positive (2 ^ 31) x _ h (omega (arith, ltb→lt x (2 ^ 31) h))
cut_back BuiltinType.S32 (negsuc x) h = negative (2 ^ 31) x _ (ltb→lt x (2 ^ 31) h) (omega (arith, ltb→lt x (2 ^ 31) h))
cut_back BuiltinType.S64 (pos x) h = positive (2 ^ 63) x _ h (omega (arith, ltb→lt x (2 ^ 63) h))
cut_back BuiltinType.S64 (negsuc x) h = negative (2 ^ 63) x _ (ltb→lt x (2 ^ 63) h) (omega (arith, ltb→lt x (2 ^ 63) h))
cut_back BuiltinType.F32 (pos x) h = ap pos (omega (arith, ltb→lt x (2 ^ 32) h))
cut_back BuiltinType.F32 (negsuc x) h = absurd h
cut_back BuiltinType.F64 (pos x) h = ap pos (omega (arith, ltb→lt x (2 ^ 64) h))
cut_back BuiltinType.F64 (negsuc x) h = absurd h

pub same_types_self : (ts : List WasmType) → T (same_types ts ts)
same_types_self [] = tt
same_types_self (t ∷ ts) = both_true _ _ (same_type_self t) (same_types_self ts)

pub same_types_is : (ts us : List WasmType) → T (same_types ts us) → ts ≡ us
same_types_is [] [] h = refl
same_types_is [] (u ∷ us) h = absurd h
same_types_is (t ∷ ts) [] h = absurd h
same_types_is (t ∷ ts) (u ∷ us) h =
    let e = same_type_is t u (left_true (same_type t u) _ h) in
    let es = same_types_is ts us (right_true (same_type t u) _ h) in
    λ i. e i ∷ es i
