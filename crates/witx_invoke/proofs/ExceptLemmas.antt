-- Of a reply of its type, the excepted ones are told by the value alone.
use Rattle.std.proofs.Common.{◌≡◌, ℕ, zero, suc, ◌+◌, ◌-◌, ◌*◌, ◌%◌, ◌^◌, ◌<◌, ◌≤◌, ℤ, pos, negsuc, Bool, true, false, ◌&&◌, ◌||◌, refl, sym, ap, ◌∙◌, arith, List, [], ◌∷◌, length, drop, get_or, cond, Option, Some, None, option_map, nat_eq, nat_lt, nat_le, IsTrue}
use Rattle.std.proofs.Math.Nat.{mod-eq_of_lt}
use Rattle.std.proofs.lemmas.List.{drop_more, drop_all}
use Rattle.witx_ast.specs.declared.function.Abi.{Abi}
use Rattle.witx_ast.specs.declared.types.BuiltinType.{BuiltinType}
use Rattle.witx_ast.specs.declared.types.RecordKind.{RecordKind}
use Rattle.witx_ast.specs.Tree.{Tree, Arms}
use Rattle.witx_ast.specs.Plain.{Plain, plain}
use Rattle.witx_ast.specs.Alike.{same_builtin}
use Rattle.witx_ast.specs.Values.{Value}
use Rattle.witx_ast.specs.ValueTests.{in_range, is_below, is_within, is_scalar, is_value}
use Rattle.witx_ast.proofs.Decided.{decides-eq, decides-lt}
use Rattle.witx_machine.specs.Words.{bits_of_flags, builtin_word_type, modulus, wrapped}
use Rattle.witx_machine.specs.Functions.{Function, result_cases}
use Rattle.witx_machine.specs.Faithful as faithful
use Rattle.witx_machine.specs.Faithful.{direct_words, is_reply, zero_by, zero_in, zero_under, zero_error}
use Rattle.std.specs.declared.alloc.Global.{Global}
use Rattle.std.specs.declared.boxed.Box.{Box}
use Rattle.witx_bytes.specs.Seen.{seen, seen_in}
use Rattle.witx_bytes.specs.declared.value.Value as program
use Rattle.witx_bytes.specs.declared.value.Value.TheVariants as value
use Rattle.witx_bytes.proofs.Seen.{seen_rules, seen-Bare, seen-With}
use Rattle.witx_invoke.specs.Excepting.{is_zero_number, has_zero_word, is_zero_case, is_zero_error, is_excepted}

clash : {A : Type 0} → false ≡ true → A
clash e = absurd (no e)
  where
    no : false ≡ true → ⊥
    no e = cc

lt-of : (n m : ℕ) → nat_lt n m ≡ true → n < m
lt-of n m e = (decides-lt n m).0 e

both-right : (a b : Bool) → a && b ≡ true → b ≡ true
both-right true b e = e
both-right false b e = clash e

not-zero : (n : ℕ) → 0 < n → nat_eq n 0 ≡ false
not-zero n l = by (nat_eq n 0) refl
  where
    by : (b : Bool) → nat_eq n 0 ≡ b → nat_eq n 0 ≡ false
    by false h = h
    by true h = let same = (decides-eq n 0).0 h in absurd (omega (arith, same, l))

-- a number below the modulus is its own remainder
unsigned : (m k n : ℕ) → k ≤ m → nat_lt n k ≡ true → nat_eq n 0 ≡ nat_eq (n % m) 0
unsigned m k n l e = sym (ap (λ x. nat_eq x 0) (mod-eq_of_lt (small (lt-of n k e))))
  where
    small : n < k → n < m
    small h = omega (arith, h, l)

negative : (m k n : ℕ) → k < m → nat_lt n k ≡ true → false ≡ nat_eq (m - 1 - n % m) 0
negative m k n l e = sym (not-zero (m - 1 - n % m) (above (lt-of n k e)))
  where
    above : n < k → 0 < m - 1 - n % m
    above h =
        let small : n < m = omega (arith, h, l) in
        let same : n % m ≡ n = mod-eq_of_lt small in
        omega (arith, h, l, same)

below : (m k : ℕ) → k ≤ m → (n : ℤ) → is_below k n ≡ true → is_zero_number n ≡ nat_eq (wrapped m n) 0
below m k l (pos n) e = unsigned m k n l e
below m k l (negsuc n) e = clash e

within : (m k : ℕ) → k < m → (n : ℤ) → is_within k n ≡ true → is_zero_number n ≡ nat_eq (wrapped m n) 0
within m k l (pos n) e = unsigned m k n (omega (arith, l)) e
within m k l (negsuc n) e = negative m k n l e

scalar : (n : ℤ) → is_scalar n ≡ true → is_zero_number n ≡ nat_eq (wrapped (2 ^ 32) n) 0
scalar (negsuc n) e = clash e
scalar (pos n) e = by (nat_lt n 0xD800) refl
  where
    high : nat_lt n 0x110000 ≡ true → nat_eq n 0 ≡ nat_eq (n % 2 ^ 32) 0
    high h = unsigned (2 ^ 32) 0x110000 n (omega arith) h

    by : (b : Bool) → nat_lt n 0xD800 ≡ b → nat_eq n 0 ≡ nat_eq (n % 2 ^ 32) 0
    by true h = unsigned (2 ^ 32) 0xD800 n (omega arith) h
    by false h = high (both-right (nat_le 0xE000 n) (nat_lt n 0x110000) (sym (ap (λ b. b || (nat_le 0xE000 n && nat_lt n 0x110000)) h) ∙ e))

-- a number is 0 exactly if the bits of its word are
number-zero : (b : BuiltinType) (n : ℤ) → in_range b n ≡ true → is_zero_number n ≡ nat_eq (wrapped (modulus (builtin_word_type b)) n) 0
number-zero BuiltinType.Char n e = scalar n e
number-zero (BuiltinType.U8 c) n e = below (2 ^ 32) (2 ^ 8) (omega arith) n e
number-zero BuiltinType.U16 n e = below (2 ^ 32) (2 ^ 16) (omega arith) n e
number-zero (BuiltinType.U32 p) n e = below (2 ^ 32) (2 ^ 32) (omega arith) n e
number-zero BuiltinType.U64 n e = below (2 ^ 64) (2 ^ 64) (omega arith) n e
number-zero BuiltinType.S8 n e = within (2 ^ 32) (2 ^ 7) (omega arith) n e
number-zero BuiltinType.S16 n e = within (2 ^ 32) (2 ^ 15) (omega arith) n e
number-zero BuiltinType.S32 n e = within (2 ^ 32) (2 ^ 31) (omega arith) n e
number-zero BuiltinType.S64 n e = within (2 ^ 64) (2 ^ 63) (omega arith) n e
number-zero BuiltinType.F32 n e = below (2 ^ 32) (2 ^ 32) (omega arith) n e
number-zero BuiltinType.F64 n e = below (2 ^ 64) (2 ^ 64) (omega arith) n e

-- of a value of the type, the one word is 0 exactly if the value says so
pub zero-word : (t : Plain) (v : Value) → is_value t v ≡ true → has_zero_word v ≡ faithful.is_zero (direct_words t v)
zero-word Plain.handle (Value.handle_number n) e = refl
zero-word (Plain.builtin b) (Value.number k n) e = number-zero b n (both-right (same_builtin k b) (in_range b n) e)
zero-word (Plain.list_of t) (Value.list_at a l) e = refl
zero-word (Plain.pointer_to t) (Value.address n) e = refl
zero-word (Plain.const_pointer_to t) (Value.const_address n) e = refl
zero-word (Plain.record_of (RecordKind.Bitflags r) ms) (Value.flag_bits bits) e = refl
zero-word (Plain.record_of RecordKind.Tuple ms) (Value.tuple_values vs) e = refl
zero-word (Plain.record_of RecordKind.Other ms) (Value.record_values vs) e = refl
zero-word (Plain.variant_of r cs) (Value.enum_index i) e = refl
zero-word (Plain.variant_of r cs) (Value.bare_case i) e = refl
zero-word (Plain.variant_of r cs) (Value.case_with i p) e = refl
zero-word t v e = clash e

module _ (p : Value) where
  -- of a value that is the second case with a payload
  error-of : (t : Tree) → is_value (plain t) (Value.case_with 1 p) ≡ true → has_zero_word p ≡ zero_by (result_cases t) p
  error-of (Tree.named n t d) e = error-of t e
  error-of (Tree.variant_of r (Arms.bare n d (Arms.carries k t c cs))) e = zero-word (plain t) p e
  error-of (Tree.variant_of r (Arms.carries n u d (Arms.carries k t c cs))) e = zero-word (plain t) p e
  error-of (Tree.record_of (RecordKind.Bitflags r) ms) e = clash e
  error-of t e = clash e

excepted-value : (t : Tree) (v : Value) → is_value (plain t) v ≡ true → is_zero_error v ≡ zero_in (t ∷ []) (Some v)
excepted-value t (Value.case_with (suc zero) p) e = error-of p t e
excepted-value t v e = refl

excepted-under : (abi : Abi) (results : List Tree) (reply : Option Value) → IsTrue (is_reply results reply) → is_excepted abi reply ≡ zero_under abi results reply
excepted-under Abi.Stored results reply e = refl
excepted-under Abi.Preview1 [] None e = refl
excepted-under Abi.Preview1 [] (Some v) e = clash e
excepted-under Abi.Preview1 (t ∷ []) None e = clash e
excepted-under Abi.Preview1 (t ∷ []) (Some v) e = excepted-value t v e
excepted-under Abi.Preview1 (t ∷ u ∷ ts) reply e = clash e

pub excepted-reply : (f : Function) (reply : Option Value) → IsTrue (is_reply f.results reply) → is_excepted f.abi reply ≡ zero_error f reply
excepted-reply f reply e = excepted-under f.abi f.results reply e

-- flags, one after the other: whether none of them is set
abbrev pub NoneFrom : List Bool → ℕ → Type 0
NoneFrom bs i = nat_eq (bits_of_flags (drop i bs)) 0 ≡ nat_eq (bits_of_flags bs) 0

flag-step : (bs : List Bool) (i : ℕ) (b : Bool) → i < length bs → b ≡ get_or bs i b → bits_of_flags (drop i bs) ≡ cond b 1 0 + 2 * bits_of_flags (drop (i + 1) bs)
flag-step bs i b l e = ap bits_of_flags (drop_more bs i b l ∙ ap (λ c. c ∷ drop (i + 1) bs) (sym e))

pub flag-set : (bs : List Bool) (i : ℕ) (b : Bool) → i < length bs → b ≡ get_or bs i b → NoneFrom bs i → b ≡ true → false ≡ nat_eq (bits_of_flags bs) 0
flag-set bs i b l e h k = sym (not-zero (bits_of_flags (drop i bs)) positive) ∙ h
  where
    first : ◌≡◌ {A = ℕ} (cond b 1 0) 1
    first = ap (λ (b : Bool). cond {A = ℕ} b 1 0) k

    step : bits_of_flags (drop i bs) ≡ cond b 1 0 + 2 * bits_of_flags (drop (i + 1) bs)
    step = flag-step bs i b l e

    positive : 0 < bits_of_flags (drop i bs)
    positive = omega (arith, step, first)

doubled : (n : ℕ) → nat_eq (2 * n) 0 ≡ nat_eq n 0
doubled zero = refl
doubled (suc n) = not-zero (2 * suc n) (omega arith) ∙ sym (not-zero (suc n) (omega arith))

pub flag-clear : (bs : List Bool) (i : ℕ) (b : Bool) → i < length bs → b ≡ get_or bs i b → NoneFrom bs i → b ≡ false → NoneFrom bs (i + 1)
flag-clear bs i b l e h k = sym (doubled (bits_of_flags (drop (i + 1) bs))) ∙ sym (ap (λ n. nat_eq n 0) step) ∙ h
  where
    step : bits_of_flags (drop i bs) ≡ 2 * bits_of_flags (drop (i + 1) bs)
    step =
        let first : ◌≡◌ {A = ℕ} (cond b 1 0) 0 = ap (λ (b : Bool). cond {A = ℕ} b 1 0) k in
        let more : bits_of_flags (drop i bs) ≡ cond b 1 0 + 2 * bits_of_flags (drop (i + 1) bs) = flag-step bs i b l e in
        omega (arith, more, first)

pub flags-done : (bs : List Bool) (i : ℕ) → length bs ≤ i → NoneFrom bs i → true ≡ nat_eq (bits_of_flags bs) 0
flags-done bs i l h = sym (ap (λ bs. nat_eq (bits_of_flags bs) 0) (drop_all i bs l)) ∙ h

pub ruleset flag_rules = (flag-set, flag-clear, flags-done)

-- a case with a payload or without
pub zero-case : (i : ℕ) (p : Option (Box program.Value Global)) → is_zero_error (seen (value.Case i p)) ≡ is_zero_case (option_map seen_in p) i
zero-case i None = ap is_zero_error (seen-Bare i)
zero-case i (Some p) = ap is_zero_error (seen-With i p)

pub ruleset excepting_rules = (seen_rules, zero-case)
