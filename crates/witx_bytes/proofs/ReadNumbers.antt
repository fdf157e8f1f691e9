-- Numbers and scalars that are read.
use Rattle.std.proofs.Common.{◌≡◌, ℕ, zero, suc, ◌+◌, ◌*◌, ◌-◌, ◌^◌, ◌<◌, ◌≤◌, refl, sym, ap, ◌∙◌, arith, ℤ, true, Option, Some, None, option_map, option_and_then, Result, Err, pow-suc, List, [], ◌∷◌, length}
use Rattle.witx_ast.specs.declared.types.BuiltinType.{BuiltinType}
use Rattle.witx_ast.specs.Plain.{Plain}
use Rattle.witx_ast.specs.Values as plain
use Rattle.witx_ast.specs.ValueTests.{in_range}
use Rattle.witx_ast.proofs.Decided.{both-then}
use Rattle.witx_ast.proofs.AlikeLaws.{builtins-decide}
use Rattle.witx_layout.specs.Numbers.{builtin_size}
use Rattle.witx_machine.specs.Words.{cut, checked_value}
use Rattle.witx_bytes.specs.Bytes.{Bytes, IsByteMemory, HoldsAt, RunAt}
use Rattle.witx_bytes.specs.Reading.{number_at, value_at, list_read_at}
use Rattle.witx_bytes.specs.Readings.{ReadAs}
use Rattle.witx_bytes.specs.Seen.{seen}
use Rattle.witx_bytes.specs.declared.read_error.ReadError.{ReadError}
use Rattle.witx_bytes.specs.declared.value.Value.TheVariants as value
use Rattle.witx_bytes.proofs.Seen.{seen-Num, seen-Handle, seen-Pointer, seen-ConstPointer, seen-List}
use Rattle.witx_bytes.proofs.ReadBack.{when-true}

pub beyond : (m : Bytes) (at : ℕ) → IsByteMemory m → 2 ^ 32 ≤ at → m at ≡ None
beyond m at h l = go (m at) refl
  where
    go : (o : Option ℕ) → m at ≡ o → m at ≡ None
    go None e = e
    go (Some b) e = absurd (omega (arith, l, (h at b e).0))

-- a run, and where it is empty none at the address
pub no_run : (at : ℕ) (m : Bytes) → HoldsAt [] at m
no_run at m i l = absurd (omega (arith, l))

pub run_stands : (at : ℕ) (run : List (Option ℕ)) (m : Bytes) → RunAt at run m → HoldsAt run at m
run_stands at run m h = h.stands

pub run_none_at : (at : ℕ) (run : List (Option ℕ)) (m : Bytes) → RunAt at run m → length run ≡ 0 → m at ≡ None
run_none_at at run m h e = ap m (omega arith) ∙ h.free e 0 (omega arith)

pub ruleset byte_rules = (beyond, no_run, run_stands, run_none_at)

-- the first byte of a run, and the rest
pub run_first : (at : ℕ) (b : Option ℕ) (rest : List (Option ℕ)) (m : Bytes) → HoldsAt (b ∷ rest) at m → m at ≡ b
run_first at b rest m h = ap m (omega arith) ∙ h 0 (omega arith)

pub run_rest : (at next : ℕ) (b : Option ℕ) (rest : List (Option ℕ)) (m : Bytes) → HoldsAt (b ∷ rest) at m → next ≡ at + 1 → HoldsAt rest next m
run_rest at next b rest m h e i l = ap m (omega (arith, e)) ∙ h (suc i) (omega (arith, l))

-- one byte and the rest
pub number_step : (width rest : ℕ) (m : Bytes) (at next low high : ℕ) → width ≡ rest + 1 → next ≡ at + 1 → m at ≡ Some low → number_at rest m next ≡ Some high → number_at width m at ≡ Some (low + 256 * high)
number_step width rest m at next low high w n h k =
    let e : width ≡ suc rest = omega (arith, w) in
    let f : next ≡ suc at = omega (arith, n) in
    ap (λ width. number_at width m at) e ∙ ap (option_and_then (λ low. option_map (λ high. low + 256 * high) (number_at rest m (suc at)))) h ∙ ap (option_map (λ high. low + 256 * high)) (ap (number_at rest m) (sym f) ∙ k)

pub number_low : (width : ℕ) (m : Bytes) (at : ℕ) → 0 < width → m at ≡ None → number_at width m at ≡ None
number_low width m at l h =
    let e : width ≡ suc (width - 1) = omega (arith, l) in
    ap (λ width. number_at width m at) e ∙ ap (option_and_then (λ low. option_map (λ high. low + 256 * high) (number_at (width - 1) m (suc at)))) h

pub number_high : (width rest : ℕ) (m : Bytes) (at next low : ℕ) → width ≡ rest + 1 → next ≡ at + 1 → m at ≡ Some low → number_at rest m next ≡ None → number_at width m at ≡ None
number_high width rest m at next low w n h k =
    let e : width ≡ suc rest = omega (arith, w) in
    let f : next ≡ suc at = omega (arith, n) in
    ap (λ width. number_at width m at) e ∙ ap (option_and_then (λ low. option_map (λ high. low + 256 * high) (number_at rest m (suc at)))) h ∙ ap (option_map (λ high. low + 256 * high)) (ap (number_at rest m) (sym f) ∙ k)

pub number_bound : (width rest low high : ℕ) → width ≡ rest + 1 → low < 256 → high < 256 ^ rest → low + 256 * high < 256 ^ width
number_bound width rest low high w l h =
    let e : width ≡ suc rest = omega (arith, w) in
    let p : 256 ^ width ≡ 256 ^ rest * 256 = ap (λ w. 256 ^ w) e ∙ pow-suc 256 rest in
    omega (arith, p, l, h)

more_power : (w k : ℕ) → 256 ^ w ≤ 256 ^ (w + k)
more_power w zero = let none : w + 0 ≡ w = omega arith in let e : 256 ^ (w + 0) ≡ 256 ^ w = ap (λ n. 256 ^ n) none in omega (arith, e)
more_power w (suc k) =
    let more : w + suc k ≡ suc (w + k) = omega arith in
    let e : 256 ^ (w + suc k) ≡ 256 ^ (w + k) * 256 = ap (λ n. 256 ^ n) more ∙ pow-suc 256 (w + k) in
    omega (arith, e, more_power w k)

pub number_fits : (width n : ℕ) → width ≤ 8 → n < 256 ^ width → n < 2 ^ 64
number_fits width n l h =
    let eight : width + (8 - width) ≡ 8 = omega (arith, l) in
    let e : 256 ^ (width + (8 - width)) ≡ 256 ^ 8 = ap (λ n. 256 ^ n) eight in
    omega (arith, h, e, more_power width (8 - width))

pub ruleset number_rules = (number_step, number_low, number_high, number_bound, number_fits, run_first, run_rest)

-- a part that isn't read makes a whole that isn't
pub goes_on : {A B C D : Type 0} (f : A → B) (g : C → D) (o : Option B) (p : Option D) (e : ReadError) → (o ≡ None → p ≡ None) → ReadAs f o (Err e) → ReadAs g p (Err e)
goes_on f g o p ReadError.NoValue h k = h k
goes_on f g o p ReadError.OutOfMemory h k = tt

pub handle_refused : (m : Bytes) (at : ℕ) (e : ReadError) → ReadAs (λ n. n) (number_at 4 m at) (Err e) → ReadAs seen (value_at Plain.handle m at) (Err e)
handle_refused m at e h = goes_on (λ n. n) seen (number_at 4 m at) (value_at Plain.handle m at) e (λ n. ap (option_map plain.handle_number) n) h

pub handle_read : (m : Bytes) (at n : ℕ) → number_at 4 m at ≡ Some n → value_at Plain.handle m at ≡ Some (seen (value.Handle n))
handle_read m at n h = ap (option_map plain.handle_number) h ∙ ap Some (sym (seen-Handle n))

pub builtin_read : (b : BuiltinType) (m : Bytes) (at width bits : ℕ) (n : ℤ) → width ≡ builtin_size b → number_at width m at ≡ Some bits → n ≡ cut b bits → in_range b n ≡ true → value_at (Plain.builtin b) m at ≡ Some (seen (value.Num b n))
builtin_read b m at width bits n w h c r =
    ap (option_and_then (λ x. checked_value (Plain.builtin b) (plain.number b (cut b x)))) (ap (λ width. number_at width m at) (sym w) ∙ h)
    ∙ ap (λ n. checked_value (Plain.builtin b) (plain.number b n)) (sym c)
    ∙ when-true _ _ (both-then _ _ ((builtins-decide b b).1 refl) r) ∙ ap Some (sym (seen-Num b n))

pub pointer_read : (t : Plain) (m : Bytes) (at n : ℕ) → number_at 4 m at ≡ Some n → value_at (Plain.pointer_to t) m at ≡ Some (seen (value.Pointer n))
pointer_read t m at n h = ap (option_map plain.address) h ∙ ap Some (sym (seen-Pointer n))

pub pointer_refused : (t : Plain) (m : Bytes) (at : ℕ) (e : ReadError) → ReadAs (λ n. n) (number_at 4 m at) (Err e) → ReadAs seen (value_at (Plain.pointer_to t) m at) (Err e)
pointer_refused t m at e h = goes_on (λ n. n) seen (number_at 4 m at) (value_at (Plain.pointer_to t) m at) e (λ n. ap (option_map plain.address) n) h

pub const_read : (t : Plain) (m : Bytes) (at n : ℕ) → number_at 4 m at ≡ Some n → value_at (Plain.const_pointer_to t) m at ≡ Some (seen (value.ConstPointer n))
const_read t m at n h = ap (option_map plain.const_address) h ∙ ap Some (sym (seen-ConstPointer n))

pub const_refused : (t : Plain) (m : Bytes) (at : ℕ) (e : ReadError) → ReadAs (λ n. n) (number_at 4 m at) (Err e) → ReadAs seen (value_at (Plain.const_pointer_to t) m at) (Err e)
const_refused t m at e h = goes_on (λ n. n) seen (number_at 4 m at) (value_at (Plain.const_pointer_to t) m at) e (λ n. ap (option_map plain.const_address) n) h

pub list_read : (t : Plain) (m : Bytes) (at a l : ℕ) → number_at 4 m at ≡ Some a → number_at 4 m (at + 4) ≡ Some l → value_at (Plain.list_of t) m at ≡ Some (seen (value.List a l))
list_read t m at a l h k = ap (λ x. list_read_at x (number_at 4 m (at + 4))) h ∙ ap (λ y. list_read_at (Some a) y) k ∙ ap Some (sym (seen-List a l))

pub address_refused : (t : Plain) (m : Bytes) (at : ℕ) (e : ReadError) → ReadAs (λ n. n) (number_at 4 m at) (Err e) → ReadAs seen (value_at (Plain.list_of t) m at) (Err e)
address_refused t m at e h = goes_on (λ n. n) seen (number_at 4 m at) (value_at (Plain.list_of t) m at) e (λ n. ap (λ x. list_read_at x (number_at 4 m (at + 4))) n) h

pub length_refused : (t : Plain) (m : Bytes) (at a : ℕ) (e : ReadError) → number_at 4 m at ≡ Some a → ReadAs (λ n. n) (number_at 4 m (at + 4)) (Err e) → ReadAs seen (value_at (Plain.list_of t) m at) (Err e)
length_refused t m at a e k h =
    goes_on (λ n. n) seen (number_at 4 m (at + 4)) (value_at (Plain.list_of t) m at) e (λ n. ap (λ x. list_read_at x (number_at 4 m (at + 4))) k ∙ ap (λ y. list_read_at (Some a) y) n) h

pub ruleset scalar_rules = (handle_refused, pointer_refused, const_refused, address_refused, length_refused)
