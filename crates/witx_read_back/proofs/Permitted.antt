-- Documentation doesn't change which results are permitted.
use Rattle.std.proofs.Common.{◌≡◌, ℕ, Bool, true, false, ◌&&◌, List, [], ◌∷◌, map, Option, Some, None, refl, sym, ap, ◌∙◌, subst}
use Rattle.std.specs.Prelude.{if◌then◌else◌, option_map, codes}
use Rattle.witx_base.specs.Texts.{same_text}
use Rattle.witx_ast.specs.declared.function.Abi.{Abi}
use Rattle.witx_ast.specs.declared.types.RecordKind.{RecordKind}
use Rattle.witx_ast.specs.Tree as ast
use Rattle.witx_ast.specs.Tree.{Tree, Arm, Field, behind, arm_list}
use Rattle.witx_ast.specs.Words.{is_named, expected_payloads}
use Rattle.witx_ast.specs.Results.{results_reason, result_reason, type_reason, payloads_reason, if_there, ok_named, members_named, all_named, invalid_return, only_named}
use Rattle.witx_read_back.specs.Emptied.{emptied, emptied_fields, emptied_arms, emptied_param}

abbrev emptied_arm : Arm → Arm
emptied_arm a = record { called = a.called; payload = option_map emptied a.payload; comment = [] }

arms_emptied : (cs : ast.Arms) → arm_list (emptied_arms cs) ≡ map emptied_arm (arm_list cs)
arms_emptied ast.no_arms = refl
arms_emptied (ast.bare n d cs) = ap (λ (l : List Arm). record { called = n; payload = None; comment = [] } ∷ l) (arms_emptied cs)
arms_emptied (ast.carries n t d cs) = ap (λ (l : List Arm). record { called = n; payload = Some (emptied t); comment = [] } ∷ l) (arms_emptied cs)

named_emptied : (t : Tree) → is_named (emptied t) ≡ is_named t
named_emptied (Tree.named n t d) = refl
named_emptied (Tree.builtin b) = refl
named_emptied Tree.handle = refl
named_emptied (Tree.list_of t) = refl
named_emptied (Tree.pointer_to t) = refl
named_emptied (Tree.const_pointer_to t) = refl
named_emptied (Tree.record_of kind ms) = refl
named_emptied (Tree.variant_of r cs) = refl

behind_emptied : (t : Tree) → behind (emptied t) ≡ emptied (behind t)
behind_emptied (Tree.named n t d) = behind_emptied t
behind_emptied (Tree.builtin b) = refl
behind_emptied Tree.handle = refl
behind_emptied (Tree.list_of t) = refl
behind_emptied (Tree.pointer_to t) = refl
behind_emptied (Tree.const_pointer_to t) = refl
behind_emptied (Tree.record_of kind ms) = refl
behind_emptied (Tree.variant_of r cs) = refl

all_named_emptied : (ms : ast.Fields) → all_named (emptied_fields ms) ≡ all_named ms
all_named_emptied ast.no_fields = refl
all_named_emptied (ast.field n t d ms) = ap (λ (b : Bool). b && all_named (emptied_fields ms)) (named_emptied t) ∙ ap (λ (b : Bool). is_named t && b) (all_named_emptied ms)

members_emptied : (t : Tree) (itself : Bool) → members_named (emptied t) itself ≡ members_named t itself
members_emptied (Tree.named n t d) itself = refl
members_emptied (Tree.builtin b) itself = refl
members_emptied Tree.handle itself = refl
members_emptied (Tree.list_of t) itself = refl
members_emptied (Tree.pointer_to t) itself = refl
members_emptied (Tree.const_pointer_to t) itself = refl
members_emptied (Tree.record_of RecordKind.Tuple ms) itself = all_named_emptied ms
members_emptied (Tree.record_of (RecordKind.Bitflags r) ms) itself = refl
members_emptied (Tree.record_of RecordKind.Other ms) itself = refl
members_emptied (Tree.variant_of r cs) itself = refl

ok_emptied : (t : Tree) → ok_named (emptied t) ≡ ok_named t
ok_emptied t = ap (λ (u : Tree). members_named u (is_named (emptied t))) (behind_emptied t) ∙ members_emptied (behind t) (is_named (emptied t)) ∙ ap (λ (b : Bool). members_named (behind t) b) (named_emptied t)

ok_there : (p : Option Tree) → if_there ok_named (option_map emptied p) ≡ if_there ok_named p
ok_there None = refl
ok_there (Some t) = ok_emptied t

err_there : (p : Option Tree) → if_there is_named (option_map emptied p) ≡ if_there is_named p
err_there None = refl
err_there (Some t) = named_emptied t

payloads_emptied : (is : Bool) (p q : Option Tree)
    → payloads_reason (if is then Some (option_map emptied p, option_map emptied q) else None) ≡ payloads_reason (if is then Some (p, q) else None)
payloads_emptied true p q =
    ap (λ (b : Bool). if b && if_there is_named (option_map emptied q) then None else Some only_named) (ok_there p)
    ∙ ap (λ (b : Bool). if if_there ok_named p && b then None else Some only_named) (err_there q)
payloads_emptied false p q = refl

list_emptied : (l : List Arm) → payloads_reason (expected_payloads (map emptied_arm l)) ≡ payloads_reason (expected_payloads l)
list_emptied [] = refl
list_emptied (a ∷ []) = refl
list_emptied (a ∷ b ∷ []) = payloads_emptied (same_text a.called (codes "ok") && same_text b.called (codes "err")) a.payload b.payload
list_emptied (a ∷ b ∷ c ∷ l) = refl

reason_emptied : (t : Tree) → type_reason (emptied t) ≡ type_reason t
reason_emptied (Tree.named n t d) = reason_emptied t
reason_emptied (Tree.builtin b) = refl
reason_emptied Tree.handle = refl
reason_emptied (Tree.list_of t) = refl
reason_emptied (Tree.pointer_to t) = refl
reason_emptied (Tree.const_pointer_to t) = refl
reason_emptied (Tree.record_of (RecordKind.Bitflags r) ms) = refl
reason_emptied (Tree.record_of RecordKind.Tuple ms) = refl
reason_emptied (Tree.record_of RecordKind.Other ms) = refl
reason_emptied (Tree.variant_of r cs) = ap (λ (l : List Arm). payloads_reason (expected_payloads l)) (arms_emptied cs) ∙ list_emptied (arm_list cs)

result_emptied : (a : Abi) (t : Tree) → result_reason a (emptied t) ≡ result_reason a t
result_emptied Abi.Preview1 t = ap (λ (u : Tree). type_reason u) (behind_emptied t) ∙ reason_emptied (behind t)
result_emptied Abi.Stored t = ap (λ (b : Bool). if b then None else Some only_named) (named_emptied t)

results_emptied : (a : Abi) (rs : List Field) → results_reason a (map emptied_param rs) ≡ results_reason a rs
results_emptied a [] = refl
results_emptied a (r ∷ []) = result_emptied a r.tree
results_emptied a (r ∷ s ∷ rs) = refl

-- results that differ in documentation alone have the same reason
pub same_reason : (a : Abi) (rs ks : List Field) → map emptied_param rs ≡ map emptied_param ks → results_reason a rs ≡ results_reason a ks
same_reason a rs ks e = sym (results_emptied a rs) ∙ ap (λ (l : List Field). results_reason a l) e ∙ results_emptied a ks
