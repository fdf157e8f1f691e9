-- How many nodes a type has, names looked through: each part has fewer than the whole, by which a descent ends.
use Rattle.std.proofs.Common.{◌≡◌, ℕ, zero, suc, ◌+◌, ◌<◌, ◌≤◌, refl, sym, ap, ◌∙◌, subst, arith, Option, Some, None, List, [], ◌∷◌, length, get_or}
use Rattle.witx_ast.specs.Plain.{Plain, plain, Fields, Arms}
use Rattle.witx_ast.specs.Tree.{Tree, behind}
use Rattle.witx_ast.specs.Views.{tree_of, members_plain, cases_plain}
use Rattle.witx_ast.specs.declared.types.Case.{Case}
use Rattle.witx_ast.specs.declared.types.RecordMember.{RecordMember}
use Rattle.witx_ast.specs.declared.types.TypeRef.{TypeRef}
use Rattle.witx_ast.proofs.Parts.{members-drop, cases-bare, cases-carries}
use Rattle.witx_ast.proofs.TreeKinds.{plain-behind}

abbrev mutual
  pub nodes : Plain → ℕ
  nodes (Plain.builtin b) = 1
  nodes Plain.handle = 1
  nodes (Plain.list_of t) = 1
  nodes (Plain.pointer_to t) = 1
  nodes (Plain.const_pointer_to t) = 1
  nodes (Plain.record_of k ms) = field_nodes ms + 1
  nodes (Plain.variant_of r cs) = arm_nodes cs + 1

  pub field_nodes : Fields → ℕ
  field_nodes Fields.no_fields = 0
  field_nodes (Fields.field name t ms) = nodes t + field_nodes ms

  pub arm_nodes : Arms → ℕ
  arm_nodes Arms.no_arms = 0
  arm_nodes (Arms.bare name cs) = arm_nodes cs
  arm_nodes (Arms.carries name t cs) = nodes t + arm_nodes cs

abbrev pub payload_nodes : Option TypeRef → ℕ
payload_nodes None = 0
payload_nodes (Some t) = nodes (plain (tree_of t))

-- what a name stands for has as many
pub behind_plain : (x t : Tree) → x ≡ behind t → plain t ≡ plain x
behind_plain x t e = sym (ap plain e ∙ plain-behind t)

pub member_fewer : (ms : List RecordMember) (i : ℕ) (d : RecordMember) → i < length ms → d ≡ get_or ms i d → nodes (plain (tree_of d.tref)) ≤ field_nodes (members_plain ms)
member_fewer [] i d l q = absurd (omega (arith, l))
member_fewer (m ∷ ms) zero d l q =
    let head = ap field_nodes (members-drop (m ∷ ms) 0 m (omega arith) refl) in
    subst (λ k. nodes (plain (tree_of k.tref)) ≤ field_nodes (members_plain (m ∷ ms))) (sym q) (omega (arith, head))
member_fewer (m ∷ ms) (suc i) d l q =
    let head = ap field_nodes (members-drop (m ∷ ms) 0 m (omega arith) refl) in
    omega (arith, head, member_fewer ms i d (omega (arith, l)) q)

case-first : (c : Case) (cs : List Case) (o : Option TypeRef) → c.tref ≡ o → arm_nodes (cases_plain (c ∷ cs)) ≡ payload_nodes o + arm_nodes (cases_plain cs)
case-first c cs None e =
    let h : arm_nodes (cases_plain (c ∷ cs)) ≡ arm_nodes (cases_plain cs) = ap arm_nodes (cases-bare (c ∷ cs) 0 c (omega arith) refl e) in
    omega (arith, h)
case-first c cs (Some t) e = ap arm_nodes (cases-carries (c ∷ cs) 0 c t (omega arith) refl e)

pub payload_fewer : (cs : List Case) (i : ℕ) (c : Case) → i < length cs → c ≡ get_or cs i c → payload_nodes c.tref ≤ arm_nodes (cases_plain cs)
payload_fewer [] i c l q = absurd (omega (arith, l))
payload_fewer (k ∷ cs) zero c l q = subst (λ k'. payload_nodes k'.tref ≤ arm_nodes (cases_plain (k ∷ cs))) (sym q) (omega (arith, case-first k cs k.tref refl))
payload_fewer (k ∷ cs) (suc i) c l q = omega (arith, case-first k cs k.tref refl, payload_fewer cs i c (omega (arith, l)) q)
