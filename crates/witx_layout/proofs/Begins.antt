-- One more member that begins: the offsets so far and those of the members left are all offsets.
use Rattle.std.specs.Prelude.{◌≡◌, ℕ, ◌+◌, ◌≤◌, ◌<◌, ◌^◌, List, [], ◌∷◌, ◌++◌, length, take, drop, All, Any}
use Rattle.std.proofs.Common.{arith, get_or, refl, append_assoc, append-nil, ◌∙◌, sym, ap}
use Rattle.std.proofs.lemmas.List.{take_more, length-append}
use Rattle.std.proofs.lemmas.List.Elements.{All-append, All-cons}
use Rattle.std.proofs.Math.Seq.{get_or-append_seam}
use Rattle.witx_ast.specs.Plain.{plain}
use Rattle.witx_ast.specs.Views.{tree_of, member_field, members_plain}
use Rattle.witx_ast.proofs.Trees.{tree-RecordMember}
use Rattle.witx_ast.proofs.Parts.{members-drop, members-end}
use Rattle.witx_ast.specs.declared.types.RecordMember.{RecordMember}
use Rattle.witx_layout.specs.Numbers.{align_to, align_of, size_of, offsets, members_end}
use Rattle.witx_layout.proofs.Onward.{layout_rules}

-- where the first members end
abbrev pub reached : List RecordMember → ℕ → ℕ
reached xs i = members_end 0 (members_plain (take i xs))

end-snoc : (o : ℕ) (xs : List RecordMember) (m : RecordMember)
    → members_end o (members_plain (xs ++ m ∷ [])) ≡ align_to (members_end o (members_plain xs)) (align_of (plain (tree_of m.tref))) + size_of (plain (tree_of m.tref))
end-snoc o [] m = rw (tree-RecordMember m) refl
end-snoc o (x ∷ xs) m = end-snoc (align_to o (align_of (plain (member_field x).tree)) + size_of (plain (member_field x).tree)) xs m

pub reached-more : (xs : List RecordMember) (i : ℕ) (m : RecordMember) → i < length xs → m ≡ get_or xs i m
    → reached xs (i + 1) ≡ align_to (reached xs i) (align_of (plain (tree_of m.tref))) + size_of (plain (tree_of m.tref))
reached-more xs i m l p =
    ap (λ ys. members_end 0 (members_plain ys)) (take_more xs i m l ∙ ap (λ y. take i xs ++ y ∷ []) (sym p)) ∙ end-snoc 0 (take i xs) m

pub next-begin : (xs : List RecordMember) (i : ℕ) (m : RecordMember) (before all : List ℕ) → i < length xs → m ≡ get_or xs i m
    → before ++ offsets (reached xs i) (members_plain (drop i xs)) ≡ all
    → (before ++ align_to (reached xs i) (align_of (plain (tree_of m.tref))) ∷ []) ++ offsets (reached xs (i + 1)) (members_plain (drop (i + 1) xs)) ≡ all
next-begin xs i m before all l p e =
    let h = rw (members-drop xs i m l p) at e in rw (reached-more xs i m l p, append_assoc) h

pub all-begun : (xs : List RecordMember) (i : ℕ) (before all : List ℕ) → length xs ≤ i
    → before ++ offsets (reached xs i) (members_plain (drop i xs)) ≡ all → before ≡ all
all-begun xs i before all l e = sym (append-nil before) ∙ rw (members-end xs i l) at e

any-here : (before rest : List ℕ) (n : ℕ) → 2 ^ 64 ≤ n → Any (λ o. 2 ^ 64 ≤ o) (before ++ n ∷ rest)
any-here before rest n h = (length before, n, omega (arith, length-append before (n ∷ rest)), get_or-append_seam before n rest n, h)

-- an offset that is too large is one of all
pub begin-large : (xs : List RecordMember) (i : ℕ) (m : RecordMember) (before all : List ℕ) → i < length xs → m ≡ get_or xs i m
    → before ++ offsets (reached xs i) (members_plain (drop i xs)) ≡ all
    → 2 ^ 64 ≤ align_to (reached xs i) (align_of (plain (tree_of m.tref)))
    → Any (λ o. 2 ^ 64 ≤ o) all
begin-large xs i m before all l p e h =
    let d = rw (members-drop xs i m l p) at e in
    rw (← d) (any-here before (offsets (align_to (reached xs i) (align_of (plain (tree_of m.tref))) + size_of (plain (tree_of m.tref))) (members_plain (drop (i + 1) xs))) (align_to (reached xs i) (align_of (plain (tree_of m.tref)))) h)

none-large : All (λ o. o < 2 ^ 64) []
none-large k d l = absurd (omega arith)

pub all-small : (before : List ℕ) (n : ℕ) → All (λ o. o < 2 ^ 64) before → n < 2 ^ 64 → All (λ o. o < 2 ^ 64) (before ++ n ∷ [])
all-small before n h s = All-append (λ o. o < 2 ^ 64) before (n ∷ []) h (All-cons (λ o. o < 2 ^ 64) n [] s none-large)

pub ruleset begin_rules = (layout_rules, reached-more, all-begun, begin-large)
