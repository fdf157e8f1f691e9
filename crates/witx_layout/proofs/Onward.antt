-- One more member, or one more case: what a loop has reached and what is left give the whole.
use Rattle.std.specs.Prelude.{◌≡◌, ℕ, ◌+◌, ◌≤◌, ◌<◌, max, List, length, drop, Some, None}
use Rattle.std.proofs.Common.{arith, get_or}
use Rattle.witx_ast.specs.Plain.{plain, Fields}
use Rattle.witx_ast.specs.Views.{tree_of}
use Rattle.witx_ast.specs.Views.{members_plain, cases_plain}
use Rattle.witx_ast.proofs.Trees.{tree_rules}
use Rattle.witx_ast.proofs.Parts.{members-drop, members-end, cases-bare, cases-carries, cases-end, record-plain, variant-plain}
use Rattle.witx_ast.specs.declared.types.RecordMember.{RecordMember}
use Rattle.witx_ast.specs.declared.types.Case.{Case}
use Rattle.witx_ast.specs.declared.types.TypeRef.{TypeRef}
use Rattle.witx_ast.specs.declared.types.Variant.{Variant, out-Variant}
use Rattle.witx_layout.specs.Numbers.{payload_offset, align_to, align_of, size_of, members_align, members_end, payloads_align, payloads_size}
use Rattle.witx_layout.proofs.Alignments.{type-some, members-some, payloads-some, repr-some, rounded-bound, repr-alignment, payloads-alignment}

pub above : (o a : ℕ) → o ≤ align_to o a
above o a = omega arith

-- members only add
pub end-above : (o : ℕ) (ms : Fields) → o ≤ members_end o ms
end-above o Fields.no_fields = omega arith
end-above o (Fields.field name t ms) = omega (arith, end-above (align_to o (align_of t) + size_of t) ms, above o (align_of t))

-- the whole ends where the rest ends
pub next-end : (xs : List RecordMember) (i : ℕ) (m : RecordMember) (o n : ℕ) → i < length xs → m ≡ get_or xs i m
    → members_end o (members_plain (drop i xs)) ≡ n
    → members_end (align_to o (align_of (plain (tree_of m.tref))) + size_of (plain (tree_of m.tref))) (members_plain (drop (i + 1) xs)) ≡ n
next-end xs i m o n l p e = rw (members-drop xs i m l p) at e

pub next-align : (xs : List RecordMember) (i : ℕ) (m : RecordMember) (g n : ℕ) → i < length xs → m ≡ get_or xs i m
    → max g (members_align (members_plain (drop i xs))) ≡ n
    → max (max g (align_of (plain (tree_of m.tref)))) (members_align (members_plain (drop (i + 1) xs))) ≡ n
next-align xs i m g n l p e = let h = rw (members-drop xs i m l p) at e in omega (arith, h)

-- what is too large for a part is too large for the whole
pub part-within : (xs : List RecordMember) (i : ℕ) (m : RecordMember) (o n : ℕ) → i < length xs → m ≡ get_or xs i m
    → members_end o (members_plain (drop i xs)) ≡ n
    → align_to o (align_of (plain (tree_of m.tref))) + size_of (plain (tree_of m.tref)) ≤ n
part-within xs i m o n l p e =
    let h = next-end xs i m o n l p e in
    omega (arith, h, end-above (align_to o (align_of (plain (tree_of m.tref))) + size_of (plain (tree_of m.tref))) (members_plain (drop (i + 1) xs)))

pub part-large : (xs : List RecordMember) (i : ℕ) (m : RecordMember) (o n k : ℕ) → i < length xs → m ≡ get_or xs i m
    → members_end o (members_plain (drop i xs)) ≡ n → k ≤ size_of (plain (tree_of m.tref)) → k ≤ n
part-large xs i m o n k l p e h = omega (arith, h, part-within xs i m o n l p e)

pub all-ended : (xs : List RecordMember) (i o n : ℕ) → length xs ≤ i → members_end o (members_plain (drop i xs)) ≡ n → o ≡ n
all-ended xs i o n l e = rw (members-end xs i l) at e

pub all-aligned : (xs : List RecordMember) (i g n : ℕ) → length xs ≤ i → 0 < g → max g (members_align (members_plain (drop i xs))) ≡ n → g ≡ n
all-aligned xs i g n l s e = let h = rw (members-end xs i l) at e in omega (arith, h)

pub bare-size : (xs : List Case) (i : ℕ) (c : Case) (g n : ℕ) → i < length xs → c ≡ get_or xs i c → c.tref ≡ None
    → max g (payloads_size (cases_plain (drop i xs))) ≡ n
    → max g (payloads_size (cases_plain (drop (i + 1) xs))) ≡ n
bare-size xs i c g n l p h e = rw (cases-bare xs i c l p h) at e

pub bare-align : (xs : List Case) (i : ℕ) (c : Case) (g n : ℕ) → i < length xs → c ≡ get_or xs i c → c.tref ≡ None
    → max g (payloads_align (cases_plain (drop i xs))) ≡ n
    → max g (payloads_align (cases_plain (drop (i + 1) xs))) ≡ n
bare-align xs i c g n l p h e = rw (cases-bare xs i c l p h) at e

pub carries-size : (xs : List Case) (i : ℕ) (c : Case) (t : TypeRef) (g n : ℕ) → i < length xs → c ≡ get_or xs i c → c.tref ≡ Some t
    → max g (payloads_size (cases_plain (drop i xs))) ≡ n
    → max (max g (size_of (plain (tree_of t)))) (payloads_size (cases_plain (drop (i + 1) xs))) ≡ n
carries-size xs i c t g n l p h e = let k = rw (cases-carries xs i c t l p h) at e in omega (arith, k)

pub carries-align : (xs : List Case) (i : ℕ) (c : Case) (t : TypeRef) (g n : ℕ) → i < length xs → c ≡ get_or xs i c → c.tref ≡ Some t
    → max g (payloads_align (cases_plain (drop i xs))) ≡ n
    → max (max g (align_of (plain (tree_of t)))) (payloads_align (cases_plain (drop (i + 1) xs))) ≡ n
carries-align xs i c t g n l p h e = let k = rw (cases-carries xs i c t l p h) at e in omega (arith, k)

pub payload-within : (xs : List Case) (i : ℕ) (c : Case) (t : TypeRef) (g n : ℕ) → i < length xs → c ≡ get_or xs i c → c.tref ≡ Some t
    → max g (payloads_size (cases_plain (drop i xs))) ≡ n
    → size_of (plain (tree_of t)) ≤ n
payload-within xs i c t g n l p h e = let k = rw (cases-carries xs i c t l p h) at e in omega (arith, k)

pub all-sized : (xs : List Case) (i g n : ℕ) → length xs ≤ i → max g (payloads_size (cases_plain (drop i xs))) ≡ n → g ≡ n
all-sized xs i g n l e = let h = rw (cases-end xs i l) at e in omega (arith, h)

pub all-payloads-aligned : (xs : List Case) (i g n : ℕ) → length xs ≤ i → 0 < g → max g (payloads_align (cases_plain (drop i xs))) ≡ n → g ≡ n
all-payloads-aligned xs i g n l s e = let h = rw (cases-end xs i l) at e in omega (arith, h)

pub ruleset layout_rules = (tree_rules, record-plain, variant-plain, next-end, next-align, part-within, part-large, all-ended, all-aligned, bare-size, bare-align, carries-size, carries-align, payload-within, all-sized, all-payloads-aligned, type-some, members-some, payloads-some, repr-some)

pub offset-bound : (v : Variant) → payload_offset (out-Variant v).tag_repr (cases_plain (out-Variant v).cases) ≤ 8
offset-bound v = rounded-bound _ _ (repr-alignment (out-Variant v).tag_repr) (payloads-alignment (cases_plain (out-Variant v).cases))

pub ruleset offset_rules = (offset-bound, payloads-some, repr-some)
