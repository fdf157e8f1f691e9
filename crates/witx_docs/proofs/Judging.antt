-- Whether some number is too large, of numbers that are looked at one after the other.
use Rattle.std.specs.Prelude.{◌≡◌, ◌⊎◌, ℕ, ◌^◌, ◌<◌, ◌≤◌, List, [], ◌∷◌, ◌++◌, zero, suc, Bool, true, false, ◌||◌, nat_le, All, Any, OnOk, Result, Ok, Err}
use Rattle.std.proofs.Common.{arith, refl, sym, ap, ◌∙◌, inl, inr}
use Rattle.witx_layout.specs.declared.members.LayoutError.{LayoutError}
use Rattle.witx_layout.specs.declared.members.LayoutError.TheVariants as layout_error
use Rattle.witx_ast.specs.declared.types.RecordKind.{RecordKind}
use Rattle.witx_ast.specs.declared.types.IntRepr.{IntRepr}
use Rattle.witx_ast.specs.Tree.{Fields}
use Rattle.witx_ast.specs.Plain.{plain_fields}
use Rattle.witx_layout.specs.Numbers.{align_to, members_end, members_align, offsets}
use Rattle.witx_docs.specs.LaidOut.{too_large, refusal_fits, Judged, record_numbers}

or-assoc : (a b c : Bool) → (a || b) || c ≡ a || (b || c)
or-assoc true b c = refl
or-assoc false b c = refl

pub large-append : (xs ys : List ℕ) → too_large (xs ++ ys) ≡ too_large xs || too_large ys
unfolding too_large
large-append [] ys = refl
large-append (x ∷ xs) ys = ap (λ b. nat_le (2 ^ 64) x || b) (large-append xs ys) ∙ sym (or-assoc (nat_le (2 ^ 64) x) (too_large xs) (too_large ys))

pub large-none : too_large [] ≡ false
unfolding too_large
large-none = refl

-- what is told of the first numbers is told of all
pub judged-first : (xs ys : List ℕ) (e : LayoutError) → refusal_fits (too_large xs) e → refusal_fits (too_large (xs ++ ys)) e
judged-first xs ys layout_error.TooLarge h = rw (large-append xs ys, h) refl
judged-first xs ys layout_error.OutOfMemory h = tt

-- what is told of the others, once the first fit
pub judged-then : {A : Type 0} (xs ys : List ℕ) (r : Result A LayoutError) → too_large xs ≡ false → Judged (too_large ys) r → Judged (too_large (xs ++ ys)) r
judged-then xs ys r k h = rw (large-append xs ys, k) h

pub or-true : (b : Bool) → b || true ≡ true
or-true true = refl
or-true false = refl

small : (n : ℕ) → n < 2 ^ 64 → nat_le (2 ^ 64) n ≡ false
small n l = grind arith

big : (n : ℕ) → 2 ^ 64 ≤ n → nat_le (2 ^ 64) n ≡ true
big n l = grind arith

pub large-all : (ns : List ℕ) → All (λ n. n < 2 ^ 64) ns → too_large ns ≡ false
unfolding too_large
large-all [] h = refl
large-all (n ∷ ns) h = rw (small n (h 0 n (omega arith))) (large-all ns (λ k d l. h (suc k) d (omega arith)))

pub large-any : (ns : List ℕ) → Any (λ n. 2 ^ 64 ≤ n) ns → too_large ns ≡ true
unfolding too_large
large-any [] (k, x, l, e, h) = absurd (omega arith)
large-any (n ∷ ns) (zero, x, l, e, h) = rw (big n (omega (arith, e, h))) refl
large-any (n ∷ ns) (suc k, x, l, e, h) = rw (large-any ns (k, x, omega arith, e, h)) (or-true (nat_le (2 ^ 64) n))

pub large-one : (n : ℕ) → 2 ^ 64 ≤ n → too_large (n ∷ []) ≡ true
unfolding too_large
large-one n l = rw (big n l) refl

pub large-head : (n : ℕ) (ns : List ℕ) → 2 ^ 64 ≤ n → too_large (n ∷ ns) ≡ true
unfolding too_large
large-head n ns l = rw (big n l) refl

pub small-one : (n : ℕ) → n < 2 ^ 64 → too_large (n ∷ []) ≡ false
unfolding too_large
small-one n l = rw (small n l) refl

-- the numbers of flags, which are the offsets of their members
pub flags-judged : {A : Type 0} (kind : RecordKind) (repr : IntRepr) (ms : Fields) (r : Result A LayoutError) → kind ≡ RecordKind.Bitflags repr
    → OnOk r (All (λ o. o < 2 ^ 64) (offsets 0 (plain_fields ms))) → (r ≡ Err layout_error.TooLarge → Any (λ o. 2 ^ 64 ≤ o) (offsets 0 (plain_fields ms)))
    → Judged (too_large (record_numbers kind ms)) r
flags-judged kind repr ms (Ok x) e h k = rw e (large-all (offsets 0 (plain_fields ms)) h)
flags-judged kind repr ms (Err layout_error.TooLarge) e h k = rw e (large-any (offsets 0 (plain_fields ms)) (k refl))
flags-judged kind repr ms (Err layout_error.OutOfMemory) e h k = tt

-- the number of any other record, which is its size
abbrev pub whole_of : Fields → ℕ
whole_of ms = align_to (members_end 0 (plain_fields ms)) (members_align (plain_fields ms))

whole-number : (kind : RecordKind) (ms : Fields) → (kind ≡ RecordKind.Tuple) ⊎ (kind ≡ RecordKind.Other) → record_numbers kind ms ≡ whole_of ms ∷ []
whole-number kind ms (inl e) = rw e refl
whole-number kind ms (inr e) = rw e refl

pub whole-judged : {A : Type 0} (kind : RecordKind) (ms : Fields) (r : Result A LayoutError) → (kind ≡ RecordKind.Tuple) ⊎ (kind ≡ RecordKind.Other)
    → OnOk r (whole_of ms < 2 ^ 64) → (r ≡ Err layout_error.TooLarge → 2 ^ 64 ≤ whole_of ms) → Judged (too_large (record_numbers kind ms)) r
whole-judged kind ms (Ok x) e h k = rw (whole-number kind ms e) (small-one (whole_of ms) h)
whole-judged kind ms (Err layout_error.TooLarge) e h k = rw (whole-number kind ms e) (large-one (whole_of ms) (k refl))
whole-judged kind ms (Err layout_error.OutOfMemory) e h k = tt

-- one more of many: what is told of the one, and of those left
pub next-fits : (xs ys : List ℕ) (all : Bool) → too_large (xs ++ ys) ≡ all → too_large xs ≡ false → too_large ys ≡ all
next-fits xs ys all e h = rw (large-append xs ys, h) at e

pub next-large : (xs ys : List ℕ) (all : Bool) → too_large (xs ++ ys) ≡ all → too_large xs ≡ true → all ≡ true
next-large xs ys all e h = sym (rw (large-append xs ys, h) at e)

pub ruleset judging_rules = (judged-first, judged-then, large-none)
