-- What is known of a type gives what is known of its parts.
use Rattle.std.proofs.Common.{◌≡◌, ℕ, zero, suc, ◌<◌, refl, sym, ap, ◌∙◌, subst, arith, max, Option, Some, None, List, [], ◌∷◌, length, get_or, slice_get}
use Rattle.witx_ast.specs.Plain.{Plain, plain, Fields, Arms}
use Rattle.witx_ast.specs.Views.{tree_of, variant_tree, members_plain, cases_plain}
use Rattle.witx_ast.specs.declared.types.Case.{Case}
use Rattle.witx_ast.specs.declared.types.IntRepr.{IntRepr}
use Rattle.witx_ast.specs.declared.types.RecordKind.{RecordKind}
use Rattle.witx_ast.specs.declared.types.RecordMember.{RecordMember}
use Rattle.witx_ast.specs.declared.types.TypeRef.{TypeRef}
use Rattle.witx_ast.specs.declared.types.Variant.{Variant, out-Variant}
use Rattle.witx_ast.proofs.Parts.{members-drop, cases-bare, cases-carries, variant-plain}
use Rattle.witx_layout.specs.Numbers.{align_to, align_of, payload_offset, payloads_align, repr_size}
use Rattle.witx_layout.proofs.Alignments.{IsAlignment, repr-alignment, payloads-alignment}
use Rattle.witx_bytes.specs.Laids.{MembersLaid, CasesLaid, IsLaid, KnownOf, KnownFields, KnownArms, KnownPayload, KnownType, KnownMembers, KnownCases, part_known}
use Rattle.witx_bytes.specs.declared.laid.Laid.{Laid, out-Laid}

of-member : (ms : List RecordMember) (ls : List Laid) (i : ℕ) (o : Option Laid) → MembersLaid (members_plain ms) ls → i < length ms → slice_get ls i ≡ o
    → (d : RecordMember) → d ≡ get_or ms i d → KnownOf (plain (tree_of d.tref)) o
of-member [] ls i o h b e d q = absurd (omega (arith, b))
of-member (m ∷ ms) [] i o h b e d q = absurd (subst (λ ms. MembersLaid ms []) (members-drop (m ∷ ms) 0 m (omega arith) refl) h)
of-member (m ∷ ms) (l ∷ ls) zero o h b e d q =
    let both = subst (λ ms. MembersLaid ms (l ∷ ls)) (members-drop (m ∷ ms) 0 m (omega arith) refl) h in
    subst (KnownOf (plain (tree_of d.tref))) e (subst (λ m. IsLaid (plain (tree_of m.tref)) l) (sym q) both.0)
of-member (m ∷ ms) (l ∷ ls) (suc i) o h b e d q =
    let both = subst (λ ms. MembersLaid ms (l ∷ ls)) (members-drop (m ∷ ms) 0 m (omega arith) refl) h in
    of-member ms ls i o both.1 (omega (arith, b)) e d q

payload-first : (c : Case) (cs : List Case) (l : Laid) (ls : List Laid) (o : Option TypeRef) → c.tref ≡ o → CasesLaid (cases_plain (c ∷ cs)) (l ∷ ls)
    → KnownPayload o (Some l) × CasesLaid (cases_plain cs) ls
payload-first c cs l ls None e h = (tt, subst (λ cs. CasesLaid cs (l ∷ ls)) (cases-bare (c ∷ cs) 0 c (omega arith) refl e) h)
payload-first c cs l ls (Some t) e h = subst (λ cs. CasesLaid cs (l ∷ ls)) (cases-carries (c ∷ cs) 0 c t (omega arith) refl e) h

nothing-known : (o : Option TypeRef) → KnownPayload o None
nothing-known None = tt
nothing-known (Some t) = tt

of-payload : (cs : List Case) (ls : List Laid) (i : ℕ) (o : Option Laid) → CasesLaid (cases_plain cs) ls → i < length cs → slice_get ls i ≡ o
    → (c : Case) → c ≡ get_or cs i c → KnownPayload c.tref o
of-payload [] ls i o h b e c q = absurd (omega (arith, b))
of-payload (k ∷ cs) [] i o h b e c q = subst (KnownPayload c.tref) e (nothing-known c.tref)
of-payload (k ∷ cs) (l ∷ ls) zero o h b e c q =
    subst (KnownPayload c.tref) e (subst (λ k. KnownPayload k.tref (Some l)) (sym q) (payload-first k cs l ls k.tref refl h).0)
of-payload (k ∷ cs) (l ∷ ls) (suc i) o h b e c q = of-payload cs ls i o (payload-first k cs l ls k.tref refl h).1 (omega (arith, b)) e c q

-- the part that the program has found
pub member_known : (ms : List RecordMember) (whole : Option Laid) (i : ℕ) (o : Option Laid) → KnownMembers ms whole → i < length ms → o ≡ part_known whole i
    → (d : RecordMember) → d ≡ get_or ms i d → KnownType d.tref o
member_known ms None i o h b e d q = subst (KnownType d.tref) (sym e) tt
member_known ms (Some l) i o h b e d q = of-member ms (out-Laid l).parts i o h b (sym e) d q

pub payload_known : (cs : List Case) (whole : Option Laid) (i : ℕ) (o : Option Laid) → KnownCases cs whole → i < length cs → o ≡ part_known whole i
    → (c : Case) → c ≡ get_or cs i c → KnownPayload c.tref o
payload_known cs None i o h b e c q = subst (KnownPayload c.tref) (sym e) (nothing-known c.tref)
payload_known cs (Some l) i o h b e c q = of-payload cs (out-Laid l).parts i o h b (sym e) c q

-- one alignment, rounded up to another, is the greater
rounded-greater : (o a : ℕ) → IsAlignment o → IsAlignment a → align_to o a ≡ max o a
rounded-greater o a p q = grind (arith, p, q)

pub payload_begins : (v : Variant) (l : Laid) → IsLaid (plain (variant_tree v)) l
    → (out-Laid l).layout.align ≡ payload_offset (out-Variant v).tag_repr (cases_plain (out-Variant v).cases)
payload_begins v l h =
    h.0.1 ∙ ap align_of (variant-plain v)
    ∙ sym (rounded-greater (repr_size (out-Variant v).tag_repr) (payloads_align (cases_plain (out-Variant v).cases)) (repr-alignment (out-Variant v).tag_repr) (payloads-alignment (cases_plain (out-Variant v).cases)))

-- what is known, along an equation, and of the parts of a record or a variant
pub known_by : (t u : Plain) (o : Option Laid) → t ≡ u → KnownOf t o → KnownOf u o
known_by t u o e h = subst (λ t. KnownOf t o) e h

pub payload_known_by : (o p : Option TypeRef) (l : Option Laid) → o ≡ p → KnownPayload o l → KnownPayload p l
payload_known_by o p l e h = subst (λ o. KnownPayload o l) e h

pub known_members : (k : RecordKind) (ms : Fields) (o : Option Laid) → ((r : IntRepr) → k ≡ RecordKind.Bitflags r → ⊥) → KnownOf (Plain.record_of k ms) o → KnownFields ms o
known_members (RecordKind.Bitflags r) ms o n h = absurd (n r refl)
known_members k ms None n h = tt
known_members RecordKind.Tuple ms (Some l) n h = h.1
known_members RecordKind.Other ms (Some l) n h = h.1

pub known_cases : (r : IntRepr) (cs : Arms) (o : Option Laid) → KnownOf (Plain.variant_of r cs) o → KnownArms cs o
known_cases r cs None h = tt
known_cases r cs (Some l) h = h.1

pub ruleset known_rules = (payload_begins)
