-- A memory and the blocks that it is in.
use Rattle.std.proofs.Common.{◌≡◌, ◌≢◌, ℕ, zero, suc, ◌+◌, ◌-◌, ◌*◌, ◌/◌, ◌%◌, ◌^◌, ◌<◌, ◌≤◌, Bool, true, false, cond, ◌&&◌, refl, sym, ap, ◌∙◌, subst, arith, Option, Some, None, is_some, is_none, List, [], ◌∷◌, length, take, drop, not, nat_eq, nat_lt, ◌⊎◌, inl, inr}
use Rattle.std.specs.Ordering.{nat_cmp, is_eq}
use Rattle.std.specs.declared.cmp.Ordering.TheVariants.{Less, Equal, Greater}
use Rattle.std.specs.BTreeMap.{is_at}
use Rattle.std.proofs.lemmas.List.{get_or-drop, get_or-take, length-take-le}
use Rattle.witx_ast.proofs.Decided.{decides-eq, decides-lt}
use Rattle.witx_base.specs.SameBytes.{false-true}
use Rattle.witx_bytes.specs.Bytes.{Bytes, Image, Blocks, block_of, HasBlock, HasBlocks, in_block, block_bytes, held, image_written, all_held, none_held, all_stand, RunAt, Filled, IsByteMemory}
use Rattle.witx_bytes.specs.Images.{little}
use Rattle.witx_bytes.specs.Writes.{HasRange, Writes}
use Rattle.witx_bytes.proofs.Agreement.{written-outside}
use Rattle.witx_bytes.proofs.Lengths.{little-length}
use Rattle.witx_bytes.proofs.Writing.{written-at}

-- behind an address, up to the end of its block
abbrev Near : ℕ → ℕ → Type 0
Near at x = ((x / 256) ≡ (at / 256)) × (x ≡ 256 * (at / 256) + x % 256)

near : (at i : ℕ) → at % 256 + i < 256 → ((at + i) / 256 ≡ at / 256) × ((at + i) % 256 ≡ at % 256 + i)
near at i l = (omega (arith, l), omega (arith, l))

held-near : (m : Blocks) (at i : ℕ) → at % 256 + i < 256 → held m (at + i) ≡ in_block (at % 256 + i) (block_of (at / 256) m)
held-near m at i l =
    let s = near at i l in
    ap (λ r. in_block r (block_of ((at + i) / 256) m)) s.1 ∙ ap (λ q. in_block (at % 256 + i) (block_of q m)) s.0

-- the run from an address on
pub run_some : (m : Blocks) (at : ℕ) (bytes run : List (Option ℕ)) → block_of (at / 256) m ≡ Some bytes → run ≡ drop (at % 256) bytes → length run ≡ 256 - at % 256 → RunAt at run (held m)
run_some m at bytes run e d n = record {
  stands = λ i l.
      held-near m at i (omega (arith, l, n))
      ∙ ap (in_block (at % 256 + i)) e
      ∙ sym (get_or-drop (at % 256) bytes i None)
      ∙ ap (λ xs. block_bytes xs i) (sym d);
  free = λ z i l. absurd (omega (arith, z, n, l));
  long = λ l. omega (arith, n);
}

pub run_none : (m : Blocks) (at : ℕ) → block_of (at / 256) m ≡ None → RunAt at [] (held m)
run_none m at e = record {
  stands = λ i l. absurd (omega (arith, l));
  free = λ z i l. held-near m at i l ∙ ap (in_block (at % 256 + i)) e;
  long = λ l. absurd (omega (arith, l));
}

pub run_byte : (at : ℕ) (b : Option ℕ) (run : List (Option ℕ)) (m : Bytes) → RunAt at (b ∷ run) m → b ≡ m at
run_byte at b run m h = let e : at + 0 ≡ at = omega arith in sym (h.stands 0 (omega arith)) ∙ ap m e

pub run_empty : (at : ℕ) (m : Bytes) → RunAt at [] m → None ≡ m at
run_empty at m h = let e : at + 0 ≡ at = omega arith in sym (h.free refl 0 (omega arith)) ∙ ap m e

pub ruleset run_rules = (run_some, run_none, run_byte, run_empty)

-- ranges of two memories that stand alike
all-same : (a b n : ℕ) (m k : Bytes) → ((i : ℕ) → i < n → m (a + i) ≡ k (b + i)) → all_held a n m ≡ all_held b n k
all-same a b zero m k h = refl
all-same a b (suc n) m k h =
    let first : m a ≡ k b = ap m (omega arith) ∙ h 0 (omega arith) ∙ ap k (omega arith) in
    let more = all-same (suc a) (suc b) n m k (λ i l. ap m (omega arith) ∙ h (suc i) (omega (arith, l)) ∙ ap k (omega arith)) in
    ap (λ o. is_some o && all_held (suc a) n m) first ∙ ap (λ r. is_some (k b) && r) more

none-same : (a b n : ℕ) (m k : Bytes) → ((i : ℕ) → i < n → m (a + i) ≡ k (b + i)) → none_held a n m ≡ none_held b n k
none-same a b zero m k h = refl
none-same a b (suc n) m k h =
    let first : m a ≡ k b = ap m (omega arith) ∙ h 0 (omega arith) ∙ ap k (omega arith) in
    let more = none-same (suc a) (suc b) n m k (λ i l. ap m (omega arith) ∙ h (suc i) (omega (arith, l)) ∙ ap k (omega arith)) in
    ap (λ o. is_none o && none_held (suc a) n m) first ∙ ap (λ r. is_none (k b) && r) more

alike : (w : Bool) (a b n : ℕ) (m k : Bytes) → ((i : ℕ) → i < n → m (a + i) ≡ k (b + i)) → all_stand w a n m ≡ all_stand w b n k
alike true = all-same
alike false = none-same

front : (at n : ℕ) (run : List (Option ℕ)) (m : Bytes) → RunAt at run m → n ≤ length run → (i : ℕ) → i < n → block_bytes (take n run) (0 + i) ≡ m (at + i)
front at n run m h long i l = let e : 0 + i ≡ i = omega arith in ap (block_bytes (take n run)) e ∙ get_or-take n run i None l ∙ sym (h.stands i (omega (arith, l, long)))

pub part_stands : (w : Bool) (at n : ℕ) (run : List (Option ℕ)) (m : Bytes) → RunAt at run m → 0 < length run → at % 256 + n ≤ 256 → all_stand w 0 (length (take n run)) (block_bytes (take n run)) ≡ all_stand w at n m
part_stands w at n run m h some inside =
    let long : n ≤ length run = omega (arith, h.long some, inside) in
    ap (λ k. all_stand w 0 k (block_bytes (take n run))) (length-take-le n run long) ∙ alike w 0 at n (block_bytes (take n run)) m (front at n run m h long)

pub part_long : (at n : ℕ) (run : List (Option ℕ)) (m : Bytes) → RunAt at run m → 0 < length run → at % 256 + n ≤ 256 → n ≤ length run
part_long at n run m h some inside = omega (arith, h.long some, inside)

-- where there is no block nothing is held
no-part-held : (at n : ℕ) (m : Bytes) (run : List (Option ℕ)) → RunAt at run m → length run ≡ 0 → 0 < n → at % 256 + n ≤ 256 → false ≡ all_held at n m
no-part-held at zero m run h e some inside = absurd (omega (arith, some))
no-part-held at (suc n) m run h e some inside =
    let none : m at ≡ None = ap m (omega arith) ∙ h.free e 0 (omega arith) in sym (ap (λ o. is_some o && all_held (suc at) n m) none)

no-part-free : (at n : ℕ) (m : Bytes) (run : List (Option ℕ)) → RunAt at run m → length run ≡ 0 → at % 256 + n ≤ 256 → true ≡ none_held at n m
no-part-free at n m run h e inside = sym (go at n (λ i l. h.free e i (omega (arith, l, inside))))
  where
    go : (at n : ℕ) → ((i : ℕ) → i < n → m (at + i) ≡ None) → none_held at n m ≡ true
    go at zero h = refl
    go at (suc n) h =
        ap (λ o. is_none o && none_held (suc at) n m) (ap m (omega arith) ∙ h 0 (omega arith))
        ∙ go (suc at) n (λ i l. ap m (omega arith) ∙ h (suc i) (omega (arith, l)))

pub no_part : (w : Bool) (at n : ℕ) (m : Bytes) (run : List (Option ℕ)) → RunAt at run m → length run ≡ 0 → 0 < n → at % 256 + n ≤ 256 → not w ≡ all_stand w at n m
no_part true at n m run h e some inside = no-part-held at n m run h e some inside
no_part false at n m run h e some inside = no-part-free at n m run h e inside

pub ruleset part_rules = (part_stands, part_long, no_part)

-- exactly one block differs
pub record OneBlock (q : ℕ) (old new : List (Option ℕ)) (m n : Blocks) : Type 0 where
  pub was : block_of q m ≡ Some old
  pub is : block_of q n ≡ Some new
  pub others : (p : ℕ) → p ≢ q → block_of p n ≡ block_of p m

not-at : (q p : ℕ) → p ≢ q → is_at (nat_cmp q) p ≡ false
not-at q p differ = go (nat_lt q p) refl (nat_eq q p) refl
  where
    go : (b : Bool) → nat_lt q p ≡ b → (c : Bool) → nat_eq q p ≡ c → is_eq (cond (nat_lt q p) Less (cond (nat_eq q p) Equal Greater)) ≡ false
    go true e c k = ap (λ b. is_eq (cond b Less (cond (nat_eq q p) Equal Greater))) e
    go false e true k = absurd (differ (sym ((decides-eq q p).0 k)))
    go false e false k = ap (λ b. is_eq (cond b Less (cond (nat_eq q p) Equal Greater))) e ∙ ap (λ c. is_eq (cond c Equal Greater)) k

pub one_block : (q : ℕ) (old new : List (Option ℕ)) (m n : Blocks) → block_of q m ≡ Some old → block_of q n ≡ Some new → ((p : ℕ) → is_at (nat_cmp q) p ≡ false → block_of p n ≡ block_of p m) → OneBlock q old new m n
one_block q old new m n was is same = record { was = was; is = is; others = λ p differ. same p (not-at q p differ) }

-- an address in the block, and one outside
by_block : (q x : ℕ) (P : Type 0) → (x / 256 ≡ q → P) → (x / 256 ≢ q → P) → P
by_block q x P yes' no' = go (nat_eq (x / 256) q) refl
  where
    go : (b : Bool) → nat_eq (x / 256) q ≡ b → P
    go true e = yes' ((decides-eq (x / 256) q).0 e)
    go false e = no' (λ s. false-true (sym e ∙ (decides-eq (x / 256) q).1 s))

now-in : (q x : ℕ) (old new : List (Option ℕ)) (m n : Blocks) → OneBlock q old new m n → x / 256 ≡ q → held n x ≡ block_bytes new (x % 256)
now-in q x old new m n h e = ap (λ q. in_block (x % 256) (block_of q n)) e ∙ ap (in_block (x % 256)) h.is

was-in : (q x : ℕ) (old new : List (Option ℕ)) (m n : Blocks) → OneBlock q old new m n → x / 256 ≡ q → held m x ≡ block_bytes old (x % 256)
was-in q x old new m n h e = ap (λ q. in_block (x % 256) (block_of q m)) e ∙ ap (in_block (x % 256)) h.was

now-out : (q x : ℕ) (old new : List (Option ℕ)) (m n : Blocks) → OneBlock q old new m n → x / 256 ≢ q → held n x ≡ held m x
now-out q x old new m n h d = ap (in_block (x % 256)) (h.others (x / 256) d)

pub has_kept : (q : ℕ) (old new : List (Option ℕ)) (m n : Blocks) → OneBlock q old new m n → (p : ℕ) → HasBlock p m → HasBlock p n
has_kept q old new m n h p had = go (nat_eq p q) refl
  where
    go : (b : Bool) → nat_eq p q ≡ b → is_some (block_of p n) ≡ true
    go true e = ap (λ q. is_some (block_of q n)) ((decides-eq p q).0 e) ∙ ap is_some h.is
    go false e = ap is_some (h.others p (λ s. false-true (sym e ∙ (decides-eq p q).1 s))) ∙ had

-- what is filled in a block is filled in the memory
pub fill_changed : (at len : ℕ) (o : Option ℕ) (old new : List (Option ℕ)) (m n : Blocks) → OneBlock (at / 256) old new m n → at % 256 + len ≤ 256 → Filled (at % 256) (at % 256 + len) o (block_bytes old) (block_bytes new) → Filled at (at + len) o (held m) (held n)
fill_changed at len o old new m n h inside f = record {
  inside = λ y l u. now-in (at / 256) y old new m n h (omega (arith, l, u, inside)) ∙ f.inside (y % 256) (omega (arith, l, u, inside)) (omega (arith, l, u, inside));
  outside = λ y out. by_block (at / 256) y (held n y ≡ held m y)
      (λ e. now-in (at / 256) y old new m n h e ∙ f.outside (y % 256) (beside y e out) ∙ sym (was-in (at / 256) y old new m n h e))
      (λ d. now-out (at / 256) y old new m n h d);
}
  where
    beside : (y : ℕ) → y / 256 ≡ at / 256 → (y < at) ⊎ (at + len ≤ y) → (y % 256 < at % 256) ⊎ (at % 256 + len ≤ y % 256)
    beside y e (inl l) = inl (omega (arith, e, l))
    beside y e (inr l) = inr (omega (arith, e, l))

pub bytes_filled : (at end b : ℕ) (m k : Bytes) → IsByteMemory m → end ≤ 2 ^ 32 → b < 256 → Filled at end (Some b) m k → IsByteMemory k
bytes_filled at end b m k bytes within small f x c e = go (nat_lt x at) refl (nat_lt x end) refl
  where
    not-lt : (y z : ℕ) → nat_lt y z ≡ false → z ≤ y
    not-lt y z h = let differs : ¬ (y < z) = λ l. false-true (sym h ∙ (decides-lt y z).1 l) in omega (arith, differs)

    same : Some b ≡ Some c → b ≡ c
    same h = cc

    go : (s : Bool) → nat_lt x at ≡ s → (t : Bool) → nat_lt x end ≡ t → (x < 2 ^ 32) × (c < 2 ^ 8)
    go true h t j = bytes x c (sym (f.outside x (inl ((decides-lt x at).0 h))) ∙ e)
    go false h true j =
        let u = (decides-lt x end).0 j in
        let is = same (sym (f.inside x (not-lt x at h) u) ∙ e) in (omega (arith, u, within), omega (arith, is, small))
    go false h false j = bytes x c (sym (f.outside x (inr (not-lt x end j))) ∙ e)

-- what is written in a block is written in the memory
eq-behind : (k i j : ℕ) → nat_eq (k + j) (k + i) ≡ nat_eq j i
eq-behind k i j = go (nat_eq j i) refl
  where
    go : (b : Bool) → nat_eq j i ≡ b → nat_eq (k + j) (k + i) ≡ nat_eq j i
    go true e = let is = (decides-eq j i).0 e in let far : k + j ≡ k + i = ap (λ j. k + j) is in (decides-eq (k + j) (k + i)).1 far ∙ sym e
    go false e = other (nat_eq (k + j) (k + i)) refl ∙ sym e
      where
        other : (c : Bool) → nat_eq (k + j) (k + i) ≡ c → nat_eq (k + j) (k + i) ≡ false
        other false h = h
        other true h = let far = (decides-eq (k + j) (k + i)).0 h in let is : j ≡ i = omega (arith, far) in absurd (false-true (sym e ∙ (decides-eq j i).1 is))

written-behind : (k i j : ℕ) (xs : Image) (m n : Bytes) → m (k + j) ≡ n j → image_written (k + i) xs m (k + j) ≡ image_written i xs n j
written-behind k i j [] m n e = e
written-behind k i j (None ∷ xs) m n e = written-at (suc (k + i)) (k + suc i) xs m (k + j) (omega arith) ∙ written-behind k (suc i) j xs m n e
written-behind k i j (Some b ∷ xs) m n e =
    ap (λ c. cond c (Some b) (image_written (suc (k + i)) xs m (k + j))) (eq-behind k i j)
    ∙ ap (cond (nat_eq j i) (Some b)) (written-at (suc (k + i)) (k + suc i) xs m (k + j) (omega arith) ∙ written-behind k (suc i) j xs m n e)

pub write_changed : (at : ℕ) (xs : Image) (old new : List (Option ℕ)) (m n : Blocks) → OneBlock (at / 256) old new m n → at % 256 + length xs ≤ 256 → Writes (at % 256) xs (block_bytes old) (block_bytes new) → Writes at xs (held m) (held n)
write_changed at xs old new m n h inside f x = by_block (at / 256) x (held n x ≡ image_written at xs (held m) x)
    (λ e.
    let k = 256 * (at / 256) in
    let here : k + x % 256 ≡ x = omega (arith, e) in
    let there : k + at % 256 ≡ at = omega arith in
    now-in (at / 256) x old new m n h e
    ∙ f (x % 256)
    ∙ sym (written-behind k (at % 256) (x % 256) xs (held m) (block_bytes old) (ap (held m) here ∙ was-in (at / 256) x old new m n h e))
    ∙ ap (λ y. image_written (k + at % 256) xs (held m) y) here
    ∙ written-at (k + at % 256) at xs (held m) x there)
    (λ d. now-out (at / 256) x old new m n h d ∙ sym (written-outside at xs (held m) x (beside d (nat_lt x at) refl)))
  where
    beside : x / 256 ≢ at / 256 → (b : Bool) → nat_lt x at ≡ b → (x < at) ⊎ (at + length xs ≤ x)
    beside d true e = inl ((decides-lt x at).0 e)
    beside d false e = let over : ¬ (x < at) = λ l. false-true (sym e ∙ (decides-lt x at).1 l) in inr (omega (arith, d, over, inside))

pub number_changed : (at w n : ℕ) (old new : List (Option ℕ)) (m k : Blocks) → OneBlock (at / 256) old new m k → at % 256 + w ≤ 256 → Writes (at % 256) (little w n) (block_bytes old) (block_bytes new) → Writes at (little w n) (held m) (held k)
number_changed at w n old new m k h inside f =
    let long : at % 256 + length (little w n) ≤ 256 = omega (arith, little-length w n, inside) in write_changed at (little w n) old new m k h long f

-- a part of a block ends within 2^32
pub part_within : (at w : ℕ) → at < 2 ^ 32 → at % 256 + w ≤ 256 → at + w ≤ 2 ^ 32
part_within at w l inside = omega (arith, l, inside)

written-bytes : (at w n : ℕ) (m : Bytes) → IsByteMemory m → at + w ≤ 2 ^ 32 → IsByteMemory (image_written at (little w n) m)
written-bytes at zero n m bytes within x c e = bytes x c e
written-bytes at (suc w) n m bytes within x c e = go (nat_eq x at) refl (written-bytes (suc at) w (n / 256) m bytes (omega (arith, within)) x c) e
  where
    same : Some (n % 256) ≡ Some c → n % 256 ≡ c
    same h = cc

    go : (b : Bool) → nat_eq x at ≡ b → (image_written (suc at) (little w (n / 256)) m x ≡ Some c → (x < 2 ^ 32) × (c < 2 ^ 8)) → cond b (Some (n % 256)) (image_written (suc at) (little w (n / 256)) m x) ≡ Some c → (x < 2 ^ 32) × (c < 2 ^ 8)
    go true k more e = let is = (decides-eq x at).0 k in let s = same e in (omega (arith, is, within), omega (arith, s))
    go false k more e = more e

pub bytes_written : (at w n : ℕ) (m k : Bytes) → IsByteMemory m → at + w ≤ 2 ^ 32 → Writes at (little w n) m k → IsByteMemory k
bytes_written at w n m k bytes within f x c e = written-bytes at w n m bytes within x c (sym (f x) ∙ e)

-- where a byte is held there is its block
pub has_block : (m : Blocks) (at : ℕ) → is_some (held m at) ≡ true → HasBlock (at / 256) m
has_block m at h = go (block_of (at / 256) m) refl h
  where
    go : (o : Option (List (Option ℕ))) → block_of (at / 256) m ≡ o → is_some (in_block (at % 256) o) ≡ true → is_some (block_of (at / 256) m) ≡ true
    go None e h = absurd (false-true h)
    go (Some bytes) e h = ap is_some e

pub range_block : (m : Blocks) (at width : ℕ) → HasRange at width (held m) → 0 < width → HasBlock (at / 256) m
range_block m at width h some = has_block m at (h.held at (omega arith) (omega (arith, some)))

pub ruleset range_block_rules = range_block

-- blocks made one after the other
pub record MadeTo (first n : ℕ) (m k : Blocks) : Type 0 where
  pub made : HasBlocks first n k
  pub same : (x : ℕ) → held k x ≡ held m x

pub made_first : (first n : ℕ) (m : Blocks) → n ≡ first → MadeTo first n m m
made_first first n m e = record { made = λ p l u. absurd (omega (arith, l, u, e)); same = λ x. refl }

pub made_more : (first n z : ℕ) (m k l : Blocks) → MadeTo first n m k → HasBlock n l → ((p : ℕ) → HasBlock p k → HasBlock p l) → ((x : ℕ) → held l x ≡ held k x) → z ≡ n + 1 → MadeTo first z m l
made_more first n z m k l h here kept same e = record {
  made = λ p lo hi. go p lo hi (nat_eq p n) refl;
  same = λ x. same x ∙ h.same x;
}
  where
    go : (p : ℕ) → first ≤ p → p < z → (b : Bool) → nat_eq p n ≡ b → HasBlock p l
    go p lo hi true q = subst (λ p. HasBlock p l) (sym ((decides-eq p n).0 q)) here
    go p lo hi false q = let differs : p ≢ n = λ s. false-true (sym q ∙ (decides-eq p n).1 s) in kept p (h.made p lo (omega (arith, hi, e, differs)))

pub made_all : (first n end : ℕ) (m k : Blocks) → MadeTo first n m k → end ≤ n → HasBlocks first end k
made_all first n end m k h e p lo hi = h.made p lo (omega (arith, hi, e))

pub made_same : (first n : ℕ) (m k : Blocks) → MadeTo first n m k → (x : ℕ) → held k x ≡ held m x
made_same first n m k h x = h.same x

pub made_same_still : (first n : ℕ) (m k l : Blocks) → MadeTo first n m k → ((x : ℕ) → held l x ≡ held k x) → (x : ℕ) → held l x ≡ held m x
made_same_still first n m k l h f x = f x ∙ h.same x

pub ruleset made_rules = (made_first, made_more, made_all, made_same, made_same_still)

pub ruleset change_rules = (fill_changed, number_changed, has_kept, one_block)
