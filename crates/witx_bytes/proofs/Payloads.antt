-- Case i of a variant, by the case that the program has there.
use Rattle.std.proofs.Common.{◌≡◌, ℕ, zero, suc, ◌<◌, ◌≤◌, Bool, true, false, refl, sym, ◌∙◌, subst, arith, Option, Some, None, is_none, List, [], ◌∷◌, length, get_or}
use Rattle.witx_ast.specs.Plain.{plain, Arms, arm_count}
use Rattle.witx_ast.specs.Views.{tree_of, cases_plain}
use Rattle.witx_base.specs.SameBytes.{both}
use Rattle.witx_ast.specs.Tags.{fits, arms_fit}
use Rattle.witx_ast.specs.Values.{Value}
use Rattle.witx_ast.specs.ValueTests.{is_bare_case, is_case_with}
use Rattle.witx_ast.specs.declared.types.Case.{Case}
use Rattle.witx_ast.specs.declared.types.TypeRef.{TypeRef}
use Rattle.witx_ast.proofs.Parts.{cases-bare, cases-carries}
use Rattle.witx_ast.proofs.ValueLaws.{bare-case-decides, case-with-decides}
use Rattle.witx_layout.specs.Numbers.{payloads_size}
use Rattle.witx_bytes.specs.Bytes.{Bytes}
use Rattle.witx_bytes.specs.Images.{payload_image}
use Rattle.witx_bytes.specs.Reading.{arm_at}
use Rattle.witx_bytes.specs.Payloads.{payload_type_fits, is_payload_of, is_case, case_size, type_image, payload_at}
use Rattle.witx_bytes.proofs.ReadBack.{bare-below, with-below}

pub record CaseIs (cs : Arms) (i : ℕ) (o : Option TypeRef) : Type 0 where
  pub bare : is_bare_case cs i ≡ is_none o
  pub carried : (u : Value) → is_case_with cs i u ≡ is_payload_of o (Some u)
  pub pictured : (u : Value) → payload_image cs i u ≡ type_image o u
  pub stands : (m : Bytes) (at : ℕ) → arm_at cs i m at ≡ payload_at o m at
  pub within : case_size o ≤ payloads_size cs
  pub fit : arms_fit cs ≡ true → payload_type_fits o ≡ true

abbrev headed : Option TypeRef → List ℕ → Arms → Arms
headed None n cs = Arms.bare n cs
headed (Some t) n cs = Arms.carries n (plain (tree_of t)) cs

head_is : (c : Case) (cs : List Case) (o : Option TypeRef) → c.tref ≡ o → cases_plain (c ∷ cs) ≡ headed o c.name (cases_plain cs)
head_is c cs None e = cases-bare (c ∷ cs) 0 c (omega arith) refl e
head_is c cs (Some t) e = cases-carries (c ∷ cs) 0 c t (omega arith) refl e

first_case : (o : Option TypeRef) (n : List ℕ) (cs : Arms) → CaseIs (headed o n cs) zero o
first_case None n cs = record { bare = refl; carried = λ u. refl; pictured = λ u. refl; stands = λ m at. refl; within = omega arith; fit = λ f. refl }
first_case (Some t) n cs = record { bare = refl; carried = λ u. refl; pictured = λ u. refl; stands = λ m at. refl; within = omega arith; fit = λ f. (both (fits (plain (tree_of t))) _ f).0 }

later_case : (o : Option TypeRef) (n : List ℕ) (cs : Arms) (i : ℕ) (p : Option TypeRef) → CaseIs cs i p → CaseIs (headed o n cs) (suc i) p
later_case None n cs i p h = record { bare = h.bare; carried = h.carried; pictured = h.pictured; stands = h.stands; within = h.within; fit = h.fit }
later_case (Some q) n cs i p h = record { bare = h.bare; carried = h.carried; pictured = h.pictured; stands = h.stands; within = omega (arith, h.within); fit = λ f. h.fit (both (fits (plain (tree_of q))) _ f).1 }

pub case_found : (cs : List Case) (i : ℕ) (c d : Case) → c ≡ get_or cs i d → i < length cs → CaseIs (cases_plain cs) i c.tref
case_found [] i c d p l = absurd (omega (arith, l))
case_found (x ∷ cs) zero c d p l =
    let e = head_is x cs x.tref refl in
    subst (λ c. CaseIs (cases_plain (x ∷ cs)) zero c.tref) (sym p) (subst (λ cs. CaseIs cs zero x.tref) (sym e) (first_case x.tref x.name (cases_plain cs)))
case_found (x ∷ cs) (suc i) c d p l =
    let e = head_is x cs x.tref refl in
    subst (λ cs. CaseIs cs (suc i) c.tref) (sym e) (later_case x.tref x.name (cases_plain cs) i c.tref (case_found cs i c d p (omega (arith, l))))

-- the payload of a case that the program has
pub case_payload : (cs : List Case) (i : ℕ) (c : Case) (o : Option Value) → c ≡ get_or cs i c → i < length cs → is_case (cases_plain cs) i o ≡ is_payload_of c.tref o
case_payload cs i c None p l = (case_found cs i c c p l).bare ∙ sym (absent c.tref)
  where
    absent : (o : Option TypeRef) → is_payload_of o None ≡ is_none o
    absent None = refl
    absent (Some t) = refl
case_payload cs i c (Some v) p l = (case_found cs i c c p l).carried v

-- there is no case beyond them
pub no_case : (cs : Arms) (i : ℕ) (o : Option Value) → arm_count cs ≤ i → is_case cs i o ≡ false
no_case cs i None l = go (is_bare_case cs i) refl
  where
    go : (b : Bool) → is_bare_case cs i ≡ b → is_bare_case cs i ≡ false
    go true e = absurd (omega (arith, l, bare-below cs i ((bare-case-decides cs i).0 e)))
    go false e = e
no_case cs i (Some v) l = go (is_case_with cs i v) refl
  where
    go : (b : Bool) → is_case_with cs i v ≡ b → is_case_with cs i v ≡ false
    go true e = absurd (omega (arith, l, with-below cs i v ((case-with-decides cs i v).0 e)))
    go false e = e
