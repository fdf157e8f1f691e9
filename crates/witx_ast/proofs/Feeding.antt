-- A hasher that is fed what stands in front of a loop, and what is left of it, was fed the whole.
use Rattle.std.specs.Prelude.{◌≡◌, ℕ, ◌+◌, ◌≤◌, ◌<◌, List, length, drop, map, ◌++◌, Option, Some, None, option_map}
use Rattle.std.specs.List.{fold}
use Rattle.std.specs.Hash as fed
use Rattle.std.specs.Hash.{HashWrites, fed_then}
use Rattle.std.proofs.Common.{refl, sym, ◌∙◌, ap, get_or}
use Rattle.std.proofs.lemmas.List.{drop_more, drop_all}
use Rattle.std.proofs.lemmas.Grind.{fold-append}
use Rattle.witx_ast.specs.Tree.{Arms, arm, fields_of, arms_of}
use Rattle.witx_ast.specs.Views.{tree_of, member_field, case_arm}
use Rattle.witx_ast.proofs.Trees.{tree_rules, tree-RecordMember, tree-Case}
use Rattle.witx_ast.specs.declared.types.RecordMember.{RecordMember}
use Rattle.witx_ast.specs.declared.types.Case.{Case}
use Rattle.witx_ast.specs.declared.types.TypeRef.{TypeRef}
use Rattle.witx_ast.specs.Written.{type_writes, member_writes, members_writes, case_writes, cases_writes}

more : {S : Type 0} (write : S → List ℕ → S) (s t whole : S) (us vs ws : HashWrites) → ws ≡ us ++ vs → t ≡ fold write s us → fold write s ws ≡ whole → fold write t vs ≡ whole
more write s t whole us vs ws e f h = ap (λ z. fold write z vs) f ∙ sym (fold-append write s us vs) ∙ ap (fold write s) (sym e) ∙ h

pub next-member : {S : Type 0} (write : S → List ℕ → S) (s t whole : S) (xs : List RecordMember) (i : ℕ) (m : RecordMember) → i < length xs → m ≡ get_or xs i m
    → t ≡ fold write s (member_writes m.name (type_writes (tree_of m.tref)) m.docs)
    → fold write s (members_writes (fields_of (map member_field (drop i xs)))) ≡ whole
    → fold write t (members_writes (fields_of (map member_field (drop (i + 1) xs)))) ≡ whole
next-member write s t whole xs i m l p f h =
    let one = member_writes m.name (type_writes (tree_of m.tref)) m.docs in
    let rest = members_writes (fields_of (map member_field (drop (i + 1) xs))) in
    let split : members_writes (fields_of (map member_field (drop i xs))) ≡ one ++ rest = rw (drop_more xs i m l, ← p, tree-RecordMember m) refl in
    more write s t whole one rest (members_writes (fields_of (map member_field (drop i xs)))) split f h

pub last-member : {S : Type 0} (write : S → List ℕ → S) (s t whole : S) (xs : List RecordMember) (i : ℕ) → length xs ≤ i → t ≡ fold write s (fed.u8 0)
    → fold write s (members_writes (fields_of (map member_field (drop i xs)))) ≡ whole → t ≡ whole
last-member write s t whole xs i l f h = f ∙ (rw (drop_all i xs l) at h)

arm-writes : (name docs : List ℕ) (o : Option TypeRef) (cs : Arms)
    → cases_writes (arm name (option_map tree_of o) docs cs) ≡ case_writes name (option_map (λ t. type_writes (tree_of t)) o) docs ++ cases_writes cs
arm-writes name docs None cs = refl
arm-writes name docs (Some t) cs = refl

pub next-case : {S : Type 0} (write : S → List ℕ → S) (s t whole : S) (xs : List Case) (i : ℕ) (c : Case) → i < length xs → c ≡ get_or xs i c
    → t ≡ fold write s (case_writes c.name (option_map (λ t. type_writes (tree_of t)) c.tref) c.docs)
    → fold write s (cases_writes (arms_of (map case_arm (drop i xs)))) ≡ whole
    → fold write t (cases_writes (arms_of (map case_arm (drop (i + 1) xs)))) ≡ whole
next-case write s t whole xs i c l p f h =
    let one = case_writes c.name (option_map (λ t. type_writes (tree_of t)) c.tref) c.docs in
    let left = arms_of (map case_arm (drop (i + 1) xs)) in
    let split : cases_writes (arms_of (map case_arm (drop i xs))) ≡ one ++ cases_writes left = rw (drop_more xs i c l, ← p, tree-Case c) (arm-writes c.name c.docs c.tref left) in
    more write s t whole one (cases_writes left) (cases_writes (arms_of (map case_arm (drop i xs)))) split f h

pub last-case : {S : Type 0} (write : S → List ℕ → S) (s t whole : S) (xs : List Case) (i : ℕ) → length xs ≤ i → t ≡ fold write s (fed.u8 0)
    → fold write s (cases_writes (arms_of (map case_arm (drop i xs)))) ≡ whole → t ≡ whole
last-case write s t whole xs i l f h = f ∙ (rw (drop_all i xs l) at h)

pub ruleset feed_rules = (tree_rules, next-member, last-member, next-case, last-case, fed_then)
