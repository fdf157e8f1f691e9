-- The layout of a type, from those of its parts.
use Rattle.std.proofs.Common.{◌≡◌, ℕ, ◌+◌, ◌^◌, ◌<◌, ◌≤◌, Bool, true, false, ◌&&◌, refl, sym, ap, ◌∙◌, subst, arith, Option, Some, None, Result, Ok, Err, List, [], ◌∷◌, ◌++◌, length, drop, get_or, max}
use Rattle.witx_ast.specs.Plain.{Plain, plain, Fields, Arms}
use Rattle.witx_ast.specs.Tags.{fits, fields_fit, arms_fit}
use Rattle.witx_ast.specs.Tree.{Tree, behind}
use Rattle.witx_ast.specs.Views.{tree_of, members_plain, cases_plain}
use Rattle.witx_ast.specs.declared.types.Case.{Case}
use Rattle.witx_ast.specs.declared.types.RecordMember.{RecordMember}
use Rattle.witx_ast.specs.declared.types.TypeRef.{TypeRef}
use Rattle.witx_ast.proofs.Parts.{members-drop, members-end, cases-bare, cases-carries, cases-end, record-plain, variant-plain, count-members, count-cases}
use Rattle.witx_ast.proofs.TreeKinds.{plain-behind}
use Rattle.witx_ast.proofs.Trees.{tree_rules}
use Rattle.witx_layout.specs.Numbers.{align_to, align_of, size_of, members_end, members_align, payloads_size, payloads_align}
use Rattle.witx_layout.specs.declared.members.LayoutError.{LayoutError}
use Rattle.witx_layout.proofs.Alignments.{members-some, payloads-some}
use Rattle.witx_layout.proofs.Onward.{next-end, next-align, part-within, part-large, all-ended, all-aligned, bare-size, bare-align, carries-size, carries-align, payload-within, all-sized, all-payloads-aligned}
use Rattle.witx_bytes.specs.Laids.{Numbers, MembersLaid, CasesLaid, IsLaid, IsCaseLaid, Lays, LaysMembers, LaysCase, LaysCases, MemberAdded, CaseAdded}
use Rattle.witx_bytes.specs.Payloads.{case_size}
use Rattle.witx_bytes.specs.declared.laid.Laid.{Laid, out-Laid, out-roll-Laid}

pub lays_behind : (x t : Tree) (r : Result Laid LayoutError) → x ≡ behind t → Lays (plain x) r → Lays (plain t) r
lays_behind x t r e h = subst (λ p. Lays p r) (ap plain e ∙ plain-behind t) h

and-then : (a b c : Bool) → (a && b) && c ≡ a && (b && c)
and-then true b c = refl
and-then false b c = refl

and-true : (b : Bool) → b && true ≡ b
and-true true = refl
and-true false = refl

one-then : (ls : List Laid) (l : Laid) (more : List Laid) → (ls ++ l ∷ []) ++ more ≡ ls ++ l ∷ more
one-then [] l more = refl
one-then (k ∷ ls) l more = ap (λ ls. k ∷ ls) (one-then ls l more)

none-then : (ls : List Laid) → ls ++ [] ≡ ls
none-then [] = refl
none-then (l ∷ ls) = ap (λ ls. l ∷ ls) (none-then ls)

-- those from an index on are left
pub record LaidTo (ms : List RecordMember) (whole : Laid) (i : ℕ) : Type 0 where
  pub some : 0 < (out-Laid whole).layout.align
  pub ends : members_end (out-Laid whole).layout.size (members_plain (drop i ms)) ≡ members_end 0 (members_plain ms)
  pub aligned : max (out-Laid whole).layout.align (members_align (members_plain (drop i ms))) ≡ members_align (members_plain ms)
  pub fit : (out-Laid whole).fits && fields_fit (members_plain (drop i ms)) ≡ fields_fit (members_plain ms)
  pub parts : (more : List Laid) → MembersLaid (members_plain (drop i ms)) more → MembersLaid (members_plain ms) ((out-Laid whole).parts ++ more)

pub laid_first : (ms : List RecordMember) (whole : Laid) → Numbers whole 0 1 true → (out-Laid whole).parts ≡ [] → LaidTo ms whole 0
laid_first ms whole n e = record {
  some = omega (arith, n.1);
  ends = ap (λ s. members_end s (members_plain ms)) n.0;
  aligned = omega (arith, n.1, members-some (members_plain ms));
  fit = ap (λ b. b && fields_fit (members_plain ms)) n.2;
  parts = λ more h. subst (λ ps. MembersLaid (members_plain ms) (ps ++ more)) (sym e) h;
}

module _ (ms : List RecordMember) (whole : Laid) (i : ℕ) (d : RecordMember) (f : LaidTo ms whole i) (l : i < length ms) (q : d ≡ get_or ms i d) where
  abbrev t : Plain
  t = plain (tree_of d.tref)

  abbrev rest : Fields
  rest = members_plain (drop (i + 1) ms)

  pub laid_next : (part next : Laid) → IsLaid (plain (tree_of d.tref)) part → MemberAdded whole part (Ok next) → LaidTo ms next (i + 1)
  laid_next part next p a = record {
    some = omega (arith, a.0.1, f.some);
    ends = ap (λ s. members_end s rest) size-is ∙ next-end ms i d (out-Laid whole).layout.size (members_end 0 (members_plain ms)) l q f.ends;
    aligned = ap (λ g. max g (members_align rest)) align-is ∙ next-align ms i d (out-Laid whole).layout.align (members_align (members_plain ms)) l q f.aligned;
    fit =
        ap (λ b. b && fields_fit rest) (a.0.2 ∙ ap (λ b. (out-Laid whole).fits && b) p.0.2)
        ∙ and-then (out-Laid whole).fits (fits t) (fields_fit rest) ∙ ap (λ ms. (out-Laid whole).fits && fields_fit ms) (sym (members-drop ms i d l q)) ∙ f.fit;
    parts = λ more h. subst (λ ps. MembersLaid (members_plain ms) ps) (sym (ap (λ ps. ps ++ more) a.1 ∙ one-then (out-Laid whole).parts part more))
        (f.parts (part ∷ more) (subst (λ ms. MembersLaid ms (part ∷ more)) (sym (members-drop ms i d l q)) (p, h)));
  }
    where
      size-is : (out-Laid next).layout.size ≡ align_to (out-Laid whole).layout.size (align_of t) + size_of t
      size-is = a.0.0 ∙ ap (λ x. align_to (out-Laid whole).layout.size x + (out-Laid part).layout.size) p.0.1 ∙ ap (λ x. align_to (out-Laid whole).layout.size (align_of t) + x) p.0.0

      align-is : (out-Laid next).layout.align ≡ max (out-Laid whole).layout.align (align_of t)
      align-is = a.0.1 ∙ ap (max (out-Laid whole).layout.align) p.0.1

  pub part_refused : (e : LayoutError) → Lays (plain (tree_of d.tref)) (Err e) → LaysMembers (members_plain ms) (Err e)
  part_refused LayoutError.TooLarge h = part-large ms i d (out-Laid whole).layout.size (members_end 0 (members_plain ms)) (2 ^ 64) l q f.ends h
  part_refused LayoutError.OutOfMemory h = tt

  pub member_refused : (part : Laid) (e : LayoutError) → IsLaid (plain (tree_of d.tref)) part → MemberAdded whole part (Err e) → LaysMembers (members_plain ms) (Err e)
  member_refused part LayoutError.TooLarge p h =
      let large : 2 ^ 64 ≤ align_to (out-Laid whole).layout.size (align_of t) + size_of t =
      subst (λ s. 2 ^ 64 ≤ align_to (out-Laid whole).layout.size (align_of t) + s) p.0.0
      (subst (λ a. 2 ^ 64 ≤ align_to (out-Laid whole).layout.size a + (out-Laid part).layout.size) p.0.1 h)
      in
      omega (arith, large, part-within ms i d (out-Laid whole).layout.size (members_end 0 (members_plain ms)) l q f.ends)
  member_refused part LayoutError.OutOfMemory p h = tt

pub laid_done : (ms : List RecordMember) (whole : Laid) (i : ℕ) → LaidTo ms whole i → length ms ≤ i → LaysMembers (members_plain ms) (Ok whole)
laid_done ms whole i f l =
    let ended = all-ended ms i (out-Laid whole).layout.size (members_end 0 (members_plain ms)) l f.ends in
    let aligned = all-aligned ms i (out-Laid whole).layout.align (members_align (members_plain ms)) l f.some f.aligned in
    let fit = sym (and-true (out-Laid whole).fits) ∙ ap (λ ms. (out-Laid whole).fits && fields_fit ms) (sym (members-end ms i l)) ∙ f.fit in
    let parts = f.parts [] (subst (λ ms. MembersLaid ms []) (sym (members-end ms i l)) tt) in
    ((ended, aligned, fit), subst (MembersLaid (members_plain ms)) (none-then (out-Laid whole).parts) parts)

-- the same of cases
pub record CasesLaidTo (cs : List Case) (whole : Laid) (i : ℕ) : Type 0 where
  pub some : 0 < (out-Laid whole).layout.align
  pub greatest : max (out-Laid whole).layout.size (payloads_size (cases_plain (drop i cs))) ≡ payloads_size (cases_plain cs)
  pub aligned : max (out-Laid whole).layout.align (payloads_align (cases_plain (drop i cs))) ≡ payloads_align (cases_plain cs)
  pub fit : (out-Laid whole).fits && arms_fit (cases_plain (drop i cs)) ≡ arms_fit (cases_plain cs)
  pub parts : (more : List Laid) → CasesLaid (cases_plain (drop i cs)) more → CasesLaid (cases_plain cs) ((out-Laid whole).parts ++ more)

pub cases_laid_first : (cs : List Case) (whole : Laid) → Numbers whole 0 1 true → (out-Laid whole).parts ≡ [] → CasesLaidTo cs whole 0
cases_laid_first cs whole n e = record {
  some = omega (arith, n.1);
  greatest = omega (arith, n.0);
  aligned = omega (arith, n.1, payloads-some (cases_plain cs));
  fit = ap (λ b. b && arms_fit (cases_plain cs)) n.2;
  parts = λ more h. subst (λ ps. CasesLaid (cases_plain cs) (ps ++ more)) (sym e) h;
}

module _ (cs : List Case) (whole part next : Laid) (i : ℕ) (c : Case) (f : CasesLaidTo cs whole i) (l : i < length cs) (q : c ≡ get_or cs i c) (a : CaseAdded whole part next) where
  abbrev left : Arms
  left = cases_plain (drop (i + 1) cs)

  next-case : (o : Option TypeRef) → c.tref ≡ o → IsCaseLaid o part → CasesLaidTo cs next (i + 1)
  next-case None e p = record {
    some = omega (arith, a.0.1, f.some);
    greatest = omega (arith, a.0.0, p.0, bare-size cs i c (out-Laid whole).layout.size (payloads_size (cases_plain cs)) l q e f.greatest);
    aligned = omega (arith, a.0.1, p.1, f.some, bare-align cs i c (out-Laid whole).layout.align (payloads_align (cases_plain cs)) l q e f.aligned);
    fit =
        ap (λ b. b && arms_fit left) (a.0.2 ∙ ap (λ b. (out-Laid whole).fits && b) p.2 ∙ and-true (out-Laid whole).fits)
        ∙ ap (λ cs. (out-Laid whole).fits && arms_fit cs) (sym (cases-bare cs i c l q e)) ∙ f.fit;
    parts = λ more h. subst (λ ps. CasesLaid (cases_plain cs) ps) (sym (ap (λ ps. ps ++ more) a.1 ∙ one-then (out-Laid whole).parts part more))
        (f.parts (part ∷ more) (subst (λ cs. CasesLaid cs (part ∷ more)) (sym (cases-bare cs i c l q e)) h));
  }
  next-case (Some t) e p = record {
    some = omega (arith, a.0.1, f.some);
    greatest = omega (arith, a.0.0, p.0.0, carries-size cs i c t (out-Laid whole).layout.size (payloads_size (cases_plain cs)) l q e f.greatest);
    aligned = omega (arith, a.0.1, p.0.1, carries-align cs i c t (out-Laid whole).layout.align (payloads_align (cases_plain cs)) l q e f.aligned);
    fit =
        ap (λ b. b && arms_fit left) (a.0.2 ∙ ap (λ b. (out-Laid whole).fits && b) p.0.2)
        ∙ and-then (out-Laid whole).fits (fits (plain (tree_of t))) (arms_fit left)
        ∙ ap (λ cs. (out-Laid whole).fits && arms_fit cs) (sym (cases-carries cs i c t l q e)) ∙ f.fit;
    parts = λ more h. subst (λ ps. CasesLaid (cases_plain cs) ps) (sym (ap (λ ps. ps ++ more) a.1 ∙ one-then (out-Laid whole).parts part more))
        (f.parts (part ∷ more) (subst (λ cs. CasesLaid cs (part ∷ more)) (sym (cases-carries cs i c t l q e)) (p, h)));
  }

  pub cases_laid_next : IsCaseLaid c.tref part → CasesLaidTo cs next (i + 1)
  cases_laid_next p = next-case c.tref refl p

large-case : (cs : List Case) (whole : Laid) (i : ℕ) (c : Case) → CasesLaidTo cs whole i → i < length cs → c ≡ get_or cs i c
    → (o : Option TypeRef) → c.tref ≡ o → 2 ^ 64 ≤ case_size o → 2 ^ 64 ≤ payloads_size (cases_plain cs)
large-case cs whole i c f l q None e h = absurd (omega (arith, h))
large-case cs whole i c f l q (Some t) e h =
    omega (arith, h, payload-within cs i c t (out-Laid whole).layout.size (payloads_size (cases_plain cs)) l q e f.greatest)

pub case_refused : (cs : List Case) (whole : Laid) (i : ℕ) (c : Case) → CasesLaidTo cs whole i → i < length cs → c ≡ get_or cs i c
    → (e : LayoutError) → LaysCase c.tref (Err e) → LaysCases (cases_plain cs) (Err e)
case_refused cs whole i c f l q LayoutError.TooLarge h = large-case cs whole i c f l q c.tref refl h
case_refused cs whole i c f l q LayoutError.OutOfMemory h = tt

pub cases_laid_done : (cs : List Case) (whole : Laid) (i : ℕ) → CasesLaidTo cs whole i → length cs ≤ i → LaysCases (cases_plain cs) (Ok whole)
cases_laid_done cs whole i f l =
    let greatest = all-sized cs i (out-Laid whole).layout.size (payloads_size (cases_plain cs)) l f.greatest in
    let aligned = all-payloads-aligned cs i (out-Laid whole).layout.align (payloads_align (cases_plain cs)) l f.some f.aligned in
    let fit = sym (and-true (out-Laid whole).fits) ∙ ap (λ cs. (out-Laid whole).fits && arms_fit cs) (sym (cases-end cs i l)) ∙ f.fit in
    let parts = f.parts [] (subst (λ cs. CasesLaid cs []) (sym (cases-end cs i l)) tt) in
    ((greatest, aligned, fit), subst (CasesLaid (cases_plain cs)) (none-then (out-Laid whole).parts) parts)

pub ruleset lay_rules = (
  tree_rules,
  record-plain,
  variant-plain,
  count-members,
  count-cases,
  out-roll-Laid,
  lays_behind,
  laid_first,
  laid_next,
  part_refused,
  member_refused,
  laid_done,
  cases_laid_first,
  cases_laid_next,
  case_refused,
  cases_laid_done,
)
