-- The scan of a block comment finds exactly the ends that there are: `text_scanned`, `scanned`, `no_end`.
use Rattle.std.proofs.Common.{◌≡◌, ℕ, zero, suc, ◌+◌, ◌-◌, ◌<◌, ◌≤◌, Bool, true, false, not, ◌&&◌, ◌||◌, ◌==◌, List, [], ◌∷◌, ◌++◌, length, get_or, take, drop, Option, Some, None, refl, sym, ap, ◌∙◌, arith, append_assoc, eqb-true, take_at}
use Rattle.std.proofs.lemmas.Bool.{and_parts}
use Rattle.std.proofs.lemmas.Bool.Decides.{nat_tests}
use Rattle.std.proofs.lemmas.List.{append_cancel_left, drop_more, drop-drop, length-append, length-drop, take-append-drop}
use Rattle.std.specs.Option.{option_map}
use Rattle.witx_lex.specs.BlockScan.{block_len}
use Rattle.witx_lex.specs.Blocks.{InsideComment, empty, byte, nested, inside_spelling, begins_mark, is_inside, IsBlockText, HasNoEnd}

-- ---- steps of the scan

pub two_at : (bytes : List ℕ) (at b c : ℕ) → at + 1 < length bytes → get_or bytes at 0 ≡ b → get_or bytes (at + 1) 0 ≡ c → drop at bytes ≡ b ∷ c ∷ drop (at + 2) bytes
two_at bytes at b c lt first second =
    let one : at < length bytes = omega arith in
    let two : (at + 1) + 1 ≡ at + 2 = omega arith in
    drop_more bytes at 0 one ∙ rw (drop_more bytes (at + 1) 0 lt, two, first, second) refl

added : (o : Option ℕ) (at j : ℕ) → option_map (λ k. k + at) (option_map (λ k. k + j) o) ≡ option_map (λ k. k + (at + j)) o
added None at j = refl
added (Some k) at j = ap (λ (x : ℕ). Some x) (omega arith)

pub block_in : (n at : ℕ) (bytes : List ℕ) (total : Option ℕ) → at + 1 < length bytes → get_or bytes at 0 ≡ 40 → get_or bytes (at + 1) 0 ≡ 59
    → option_map (λ k. k + at) (block_len n (drop at bytes)) ≡ total → option_map (λ k. k + (at + 2)) (block_len (n + 1) (drop (at + 2) bytes)) ≡ total
block_in n at bytes total lt first second h =
    let step = two_at bytes at 40 59 lt first second in
    sym (added (block_len (n + 1) (drop (at + 2) bytes)) at 2) ∙ ap (λ (t : List ℕ). option_map (λ k. k + at) (block_len n t)) (sym step) ∙ h

out_step : (n : ℕ) (r : List ℕ) → 0 < n → block_len n (59 ∷ 41 ∷ r) ≡ option_map (λ k. k + 2) (block_len (n - 1) r)
out_step n r lt = let e : (n == 0) ≡ false = grind (arith, nat_tests) in rw e refl

pub block_out : (n at : ℕ) (bytes : List ℕ) (total : Option ℕ) → at + 1 < length bytes → get_or bytes at 0 ≡ 59 → get_or bytes (at + 1) 0 ≡ 41 → 0 < n
    → option_map (λ k. k + at) (block_len n (drop at bytes)) ≡ total → option_map (λ k. k + (at + 2)) (block_len (n - 1) (drop (at + 2) bytes)) ≡ total
block_out n at bytes total lt first second some h =
    let step = two_at bytes at 59 41 lt first second in
    sym (added (block_len (n - 1) (drop (at + 2) bytes)) at 2) ∙ ap (option_map (λ k. k + at)) (sym (out_step n (drop (at + 2) bytes) some) ∙ ap (block_len n) (sym step)) ∙ h

plain_step : (n b c : ℕ) (r : List ℕ) → (b == 40 && c == 59) ≡ false → (b == 59 && c == 41) ≡ false → block_len n (b ∷ c ∷ r) ≡ option_map (λ k. k + 1) (block_len n (c ∷ r))
plain_step n b c r e f = rw (e, f) refl

pub block_plain : (n at : ℕ) (bytes : List ℕ) (total : Option ℕ) → at + 1 < length bytes
    → (get_or bytes at 0 == 40 && get_or bytes (at + 1) 0 == 59) ≡ false → (get_or bytes at 0 == 59 && get_or bytes (at + 1) 0 == 41) ≡ false
    → option_map (λ k. k + at) (block_len n (drop at bytes)) ≡ total → option_map (λ k. k + (at + 1)) (block_len n (drop (at + 1) bytes)) ≡ total
block_plain n at bytes total lt e f h =
    let b = get_or bytes at 0 in
    let c = get_or bytes (at + 1) 0 in
    let step = two_at bytes at b c lt refl refl in
    let two : (at + 1) + 1 ≡ at + 2 = omega arith in
    let next : drop (at + 1) bytes ≡ c ∷ drop (at + 2) bytes = drop_more bytes (at + 1) 0 lt ∙ ap (λ (j : ℕ). c ∷ drop j bytes) two in
    sym (added (block_len n (drop (at + 1) bytes)) at 1)
    ∙ ap (option_map (λ k. k + at)) (ap (λ (t : List ℕ). option_map (λ k. k + 1) (block_len n t)) next ∙ sym (plain_step n b c (drop (at + 2) bytes) e f) ∙ ap (block_len n) (sym step))
    ∙ h

short : (n : ℕ) (t : List ℕ) → length t ≤ 1 → block_len n t ≡ None
short n [] le = refl
short n (b ∷ []) le = refl
short n (b ∷ c ∷ t) le = absurd (omega arith)

pub block_none : (n at : ℕ) (bytes : List ℕ) (total : Option ℕ) → length bytes ≤ at + 1
    → option_map (λ k. k + at) (block_len n (drop at bytes)) ≡ total → total ≡ None
block_none n at bytes total le h = sym h ∙ ap (option_map (λ k. k + at)) (short n (drop at bytes) (omega (arith, length-drop at bytes)))

some_is : {A : Type 0} (x y : A) → Some x ≡ Some y → x ≡ y
some_is x y e = cc

none_not_some : {A B : Type 0} (f : A → B) (o : Option A) (y : B) → option_map f o ≡ Some y → (x : A) × (o ≡ Some x) × (f x ≡ y)
none_not_some f None y e = absurd cc
none_not_some f (Some x) y e = (x, refl, some_is (f x) y e)

two_bytes : (b c x y : ℕ) (r : List ℕ) → (b == x && c == y) ≡ true → b ∷ c ∷ r ≡ x ∷ y ∷ r
two_bytes b c x y r h =
    let p = and_parts (b == x) (c == y) h in
    ap (λ (z : ℕ). z ∷ c ∷ r) (eqb-true b x p.0) ∙ ap (λ (z : ℕ). x ∷ z ∷ r) (eqb-true c y p.1)

-- ---- a text inside a comment is scanned up to its end

or_false : (x y : Bool) → (x || y) ≡ false → (x ≡ false) × (y ≡ false)
or_false true y e = absurd cc
or_false false y e = (refl, e)

not_true : (x : Bool) → not x ≡ true → x ≡ false
not_true true e = absurd cc
not_true false e = refl

plain_here : (n b : ℕ) (u : List ℕ) → begins_mark (b ∷ u) ≡ false → block_len n (b ∷ u) ≡ option_map (λ k. k + 1) (block_len n u)
plain_here n b [] h = refl
plain_here n b (c ∷ u) h = let p = or_false (b == 40 && c == 59) (b == 59 && c == 41) h in plain_step n b c u p.0 p.1

-- whether a mark begins there, whatever stands behind the ;)
same_front : (i : InsideComment) (b : ℕ) (rest : List ℕ) → begins_mark (b ∷ (inside_spelling i ++ 59 ∷ 41 ∷ rest)) ≡ begins_mark (b ∷ (inside_spelling i ++ 59 ∷ 41 ∷ []))
same_front empty b rest = refl
same_front (byte c more) b rest = refl
same_front (nested inner more) b rest = refl

none_added : (o : Option ℕ) → o ≡ option_map (λ k. k + 0) o
none_added None = refl
none_added (Some k) = ap (λ (x : ℕ). Some x) (omega arith)

four_added : (o : Option ℕ) (a b : ℕ) → option_map (λ k. k + 2) (option_map (λ k. k + a) (option_map (λ k. k + 2) (option_map (λ k. k + b) o))) ≡ option_map (λ k. k + (2 + (a + (2 + b)))) o
four_added None a b = refl
four_added (Some k) a b = ap (λ (x : ℕ). Some x) (omega arith)

through : (i : InsideComment) (n : ℕ) (rest : List ℕ) → is_inside i ≡ true
    → block_len n (inside_spelling i ++ 59 ∷ 41 ∷ rest) ≡ option_map (λ k. k + length (inside_spelling i)) (block_len n (59 ∷ 41 ∷ rest))
through empty n rest h = none_added (block_len n (59 ∷ 41 ∷ rest))
through (byte b more) n rest h =
    let p = and_parts (not (begins_mark (b ∷ (inside_spelling more ++ 59 ∷ 41 ∷ [])))) (is_inside more) h in
    let free : begins_mark (b ∷ (inside_spelling more ++ 59 ∷ 41 ∷ rest)) ≡ false = same_front more b rest ∙ not_true (begins_mark (b ∷ (inside_spelling more ++ 59 ∷ 41 ∷ []))) p.0 in
    let end = block_len n (59 ∷ 41 ∷ rest) in
    plain_here n b (inside_spelling more ++ 59 ∷ 41 ∷ rest) free
    ∙ ap (option_map (λ k. k + 1)) (through more n rest p.1)
    ∙ added end 1 (length (inside_spelling more))
    ∙ ap (λ (j : ℕ). option_map (λ k. k + j) end) (omega arith)
through (nested inner more) n rest h =
    let p = and_parts (is_inside inner) (is_inside more) h in
    let a = inside_spelling inner in
    let b = inside_spelling more in
    let end = block_len n (59 ∷ 41 ∷ rest) in
    let split : (a ++ 59 ∷ 41 ∷ b) ++ 59 ∷ 41 ∷ rest ≡ a ++ 59 ∷ 41 ∷ (b ++ 59 ∷ 41 ∷ rest) = append_assoc a (59 ∷ 41 ∷ b) (59 ∷ 41 ∷ rest) in
    let less : (n + 1) - 1 ≡ n = omega arith in
    let out : block_len (n + 1) (59 ∷ 41 ∷ (b ++ 59 ∷ 41 ∷ rest)) ≡ option_map (λ k. k + 2) (block_len n (b ++ 59 ∷ 41 ∷ rest)) =
    out_step (n + 1) (b ++ 59 ∷ 41 ∷ rest) (omega arith) ∙ ap (λ (m : ℕ). option_map (λ k. k + 2) (block_len m (b ++ 59 ∷ 41 ∷ rest))) less in
    let long : 2 + (length a + (2 + length b)) ≡ length (inside_spelling (nested inner more)) = omega (arith, length-append a (59 ∷ 41 ∷ b)) in
    ap (λ (u : List ℕ). option_map (λ k. k + 2) (block_len (n + 1) u)) split
    ∙ ap (option_map (λ k. k + 2)) (through inner (n + 1) (b ++ 59 ∷ 41 ∷ rest) p.0
    ∙ ap (option_map (λ k. k + length a)) (out ∙ ap (option_map (λ k. k + 2)) (through more n rest p.1)))
    ∙ four_added end (length a) (length b)
    ∙ ap (λ (j : ℕ). option_map (λ k. k + j) end) long

pub text_scanned : (t rest : List ℕ) → IsBlockText t → block_len 0 (t ++ 59 ∷ 41 ∷ rest) ≡ Some (length t)
text_scanned t rest h =
    ap (λ (u : List ℕ). block_len 0 (u ++ 59 ∷ 41 ∷ rest)) h.2 ∙ through h.0 0 rest h.1
    ∙ ap (λ (k : ℕ). Some k) (omega arith) ∙ ap (λ (u : List ℕ). Some (length u)) (sym h.2)

pub no_end : (u : List ℕ) → block_len 0 u ≡ None → HasNoEnd u
no_end u e t rest h shape = let f : None ≡ Some (length t) = sym e ∙ ap (block_len 0) shape ∙ text_scanned t rest h in cc

-- ---- what is scanned up to an end is a text inside a comment

-- the inside that ends first, and what stands behind its ;)
record Peeled (u : List ℕ) : Type 0 where
  inside : InsideComment
  is : is_inside inside ≡ true
  rest : List ℕ
  spelled : u ≡ inside_spelling inside ++ 59 ∷ 41 ∷ rest

both : (x y : Bool) → x ≡ true → y ≡ true → (x && y) ≡ true
both x y e f = rw (e, f) refl

shorter : (i : InsideComment) (u rest : List ℕ) (fuel : ℕ) → u ≡ inside_spelling i ++ 59 ∷ 41 ∷ rest → length u ≤ fuel → length rest ≤ fuel
shorter i u rest fuel e le = let long : length u ≡ length (inside_spelling i) + (2 + length rest) = ap (λ (t : List ℕ). length t) e ∙ length-append (inside_spelling i) (59 ∷ 41 ∷ rest) ∙ omega arith in omega arith

peel_nested : (b c : ℕ) (r : List ℕ) → (b == 40 && c == 59) ≡ true → (one : Peeled r) → Peeled one.rest → Peeled (b ∷ c ∷ r)
peel_nested b c r p-is one two = record {
  inside = nested one.inside two.inside;
  is = both (is_inside one.inside) (is_inside two.inside) one.is two.is;
  rest = two.rest;
  spelled = two_bytes b c 40 59 r p-is ∙ ap (λ (u : List ℕ). 40 ∷ 59 ∷ u) (one.spelled ∙ ap (λ (u : List ℕ). inside_spelling one.inside ++ 59 ∷ 41 ∷ u) two.spelled
      ∙ sym (append_assoc (inside_spelling one.inside) (59 ∷ 41 ∷ inside_spelling two.inside) (59 ∷ 41 ∷ two.rest)));
}

peel_byte : (b c : ℕ) (r : List ℕ) → (b == 40 && c == 59) ≡ false → (b == 59 && c == 41) ≡ false → Peeled (c ∷ r) → Peeled (b ∷ c ∷ r)
peel_byte b c r p-is q-is one =
    let free : begins_mark (b ∷ c ∷ r) ≡ false = rw (p-is, q-is) refl in
    let here : begins_mark (b ∷ (inside_spelling one.inside ++ 59 ∷ 41 ∷ [])) ≡ false = sym (same_front one.inside b one.rest) ∙ ap (λ (u : List ℕ). begins_mark (b ∷ u)) (sym one.spelled) ∙ free in
    record {
      inside = byte b one.inside;
      is = both (not (begins_mark (b ∷ (inside_spelling one.inside ++ 59 ∷ 41 ∷ [])))) (is_inside one.inside) (rw here refl) one.is;
      rest = one.rest;
      spelled = ap (λ (u : List ℕ). b ∷ u) one.spelled;
    }

-- where the inner comment has ended, its outer one goes on
behind_inner : (n k : ℕ) (r : List ℕ) (one : Peeled r) → block_len (n + 1) r ≡ Some k → (j : ℕ) × (block_len ((n + 1) - 1) one.rest ≡ Some j)
behind_inner n k r one e =
    let a = length (inside_spelling one.inside) in
    let f : option_map (λ j. j + a) (option_map (λ j. j + 2) (block_len ((n + 1) - 1) one.rest)) ≡ Some k =
    ap (option_map (λ j. j + a)) (sym (out_step (n + 1) one.rest (omega arith))) ∙ sym (through one.inside (n + 1) one.rest one.is) ∙ ap (block_len (n + 1)) (sym one.spelled) ∙ e in
    let g = none_not_some (λ (j : ℕ). j + a) (option_map (λ j. j + 2) (block_len ((n + 1) - 1) one.rest)) k f in
    let h = none_not_some (λ (j : ℕ). j + 2) (block_len ((n + 1) - 1) one.rest) g.0 g.1 in
    (h.0, h.1)

peel_case : (fuel n b c k : ℕ) (r : List ℕ) (p q : Bool) → (b == 40 && c == 59) ≡ p → (b == 59 && c == 41) ≡ q → length (c ∷ r) ≤ fuel
    → ((m j : ℕ) (u : List ℕ) → length u ≤ fuel → block_len m u ≡ Some j → Peeled u)
    → block_len n (b ∷ c ∷ r) ≡ Some k → Peeled (b ∷ c ∷ r)
peel_case fuel n b c k r true q p-is q-is le peel e =
    let f = none_not_some (λ (j : ℕ). j + 2) (block_len (n + 1) r) k (ap (block_len n) (sym (two_bytes b c 40 59 r p-is)) ∙ e) in
    let one : Peeled r = peel (n + 1) f.0 r (omega arith) f.1 in
    let g = behind_inner n f.0 r one f.1 in
    peel_nested b c r p-is one (peel ((n + 1) - 1) g.0 one.rest (shorter one.inside r one.rest fuel one.spelled (omega arith)) g.1)
peel_case fuel n b c k r false true p-is q-is le peel e = record { inside = empty; is = refl; rest = r; spelled = two_bytes b c 59 41 r q-is }
peel_case fuel n b c k r false false p-is q-is le peel e =
    let f = none_not_some (λ (j : ℕ). j + 1) (block_len n (c ∷ r)) k (sym (plain_step n b c r p-is q-is) ∙ e) in
    peel_byte b c r p-is q-is (peel n f.0 (c ∷ r) le f.1)

peeled : (fuel n k : ℕ) (u : List ℕ) → length u ≤ fuel → block_len n u ≡ Some k → Peeled u
peeled fuel n k [] le e = absurd cc
peeled fuel n k (b ∷ []) le e = absurd cc
peeled zero n k (b ∷ c ∷ r) le e = absurd (omega arith)
peeled (suc fuel) n k (b ∷ c ∷ r) le e = peel_case fuel n b c k r _ _ refl refl (omega arith) (λ m j u short f. peeled fuel m j u short f) e

pub record Scanned (k : ℕ) (u : List ℕ) : Type 0 where
  pub text : IsBlockText (take k u)
  pub split : u ≡ take k u ++ 59 ∷ 41 ∷ drop (k + 2) u
  pub within : k + 2 ≤ length u

scanned_at : (i : InsideComment) (u rest : List ℕ) (k : ℕ) → is_inside i ≡ true → u ≡ inside_spelling i ++ 59 ∷ 41 ∷ rest → k ≡ length (inside_spelling i) → Scanned k u
scanned_at i u rest k is e k-is =
    let t = inside_spelling i in
    let front : take k u ≡ t = ap (take k) e ∙ take_at t (59 ∷ 41 ∷ rest) k (sym k-is) in
    let tail : drop k u ≡ 59 ∷ 41 ∷ rest = append_cancel_left t (drop k u) (59 ∷ 41 ∷ rest) (ap (λ (x : List ℕ). x ++ drop k u) (sym front) ∙ take-append-drop k u ∙ e) in
    let past : drop (k + 2) u ≡ rest = ap (λ (j : ℕ). drop j u) (omega arith) ∙ sym (drop-drop 2 k u) ∙ ap (drop 2) tail in
    record {
      text = (i, is, front);
      split = e ∙ ap (λ (x : List ℕ). x ++ 59 ∷ 41 ∷ rest) (sym front) ∙ ap (λ (x : List ℕ). take k u ++ 59 ∷ 41 ∷ x) (sym past);
      within = (let long : length u ≡ length t + (2 + length rest) = ap (λ (x : List ℕ). length x) e ∙ length-append t (59 ∷ 41 ∷ rest) ∙ omega arith in omega arith);
    }

pub scanned : (u : List ℕ) (k : ℕ) → block_len 0 u ≡ Some k → Scanned k u
scanned u k e =
    let p = peeled (length u) 0 k u (omega arith) e in
    let t = inside_spelling p.inside in
    let same : Some k ≡ Some (0 + length t) = sym e ∙ ap (block_len 0) p.spelled ∙ through p.inside 0 p.rest p.is in
    scanned_at p.inside u p.rest k p.is p.spelled (some_is k (0 + length t) same ∙ omega arith)
