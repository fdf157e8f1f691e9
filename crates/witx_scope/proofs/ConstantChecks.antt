-- The checks of a constant, from those of its type's name, of its own name, and of its value.
use Rattle.std.specs.Prelude.{◌≡◌, ℕ, [], ◌∷◌, Option, Some, None}
use Rattle.std.proofs.Common.{sym, ap, subst, ◌∙◌}
use Rattle.witx_syntax_tree.specs.declared.tree.ConstSyntax.{ConstSyntax}
use Rattle.witx_ast.specs.Tree.{behind}
use Rattle.witx_files.specs.declared.location.Location.{Location}
use Rattle.witx_scope.specs.declared.error.CheckError.{CheckError}
use Rattle.witx_scope.specs.declared.scope.Scope.{Scope}
use Rattle.witx_scope.specs.declared.site.Site as code
use Rattle.witx_scope.specs.Blame.{Blames}
use Rattle.witx_scope.specs.Constants.{repeated_constant}
use Rattle.witx_scope.specs.Faults.{first_fault}
use Rattle.witx_scope.specs.Integers.{greatest_in, value_check}
use Rattle.witx_scope.specs.Kept.{Kept}
use Rattle.witx_scope.specs.Names.{Here}
use Rattle.witx_scope.specs.Places.{location_in}
use Rattle.witx_scope.specs.Senses.{here_of, kept_sense}
use Rattle.witx_scope.specs.Sites.{place_at, checks_constant}
use Rattle.witx_scope.specs.SyntaxChecks.{denoted_tree, integer_name_checks}
use Rattle.witx_scope.proofs.FirstFaults.{fault-past, fault-append, blames-head, blames-append, blames-to}

abbrev inside : Kept → code.Site → Here
inside kept at = record { sense = kept_sense kept.names kept.entries; place = location_in at.text.now at.path.now }

-- the scope of a constant's checks is made of the tables and the site
pub record IsScope (s : Scope) (kept : Kept) (at : code.Site) : Type 0 where
  pub names : s.names.now ≡ kept.names
  pub entries : s.entries.now ≡ kept.entries
  pub text : s.text.now ≡ at.text.now
  pub path : s.path.now ≡ at.path.now

here-inside : (s : Scope) (kept : Kept) (at : code.Site) → IsScope s kept at → here_of s ≡ inside kept at
unfolding here_of
here-inside s kept at is =
    ap (λ x. record { sense = kept_sense x s.entries.now; place = location_in s.text.now s.path.now }) is.names
    ∙ (ap (λ x. record { sense = kept_sense kept.names x; place = location_in s.text.now s.path.now }) is.entries
    ∙ (ap (λ x. record { sense = kept_sense kept.names kept.entries; place = location_in x s.path.now }) is.text
    ∙ ap (λ x. record { sense = kept_sense kept.names kept.entries; place = location_in at.text.now x }) is.path))

module _ (s : Scope) (kept : Kept) (at : code.Site) (c : ConstSyntax) (is : IsScope s kept at) where
  pub type-wrong : (x : CheckError) → Blames x (first_fault (integer_name_checks (here_of s) c.ty)) → Blames x (first_fault (checks_constant kept at c))
  type-wrong x b = blames-append x (integer_name_checks (inside kept at) c.ty) _ (subst (λ (h : Here). Blames x (first_fault (integer_name_checks h c.ty))) (here-inside s kept at is) b)

  past-type : first_fault (integer_name_checks (here_of s) c.ty) ≡ None
      → first_fault (checks_constant kept at c) ≡ first_fault (repeated_constant kept.constants c (place_at at c.name)
      ∷ value_check c.name.name.now c.value (place_at at c.name) (greatest_in (behind (denoted_tree (inside kept at) c.ty))) ∷ [])
  past-type e = fault-append (integer_name_checks (inside kept at) c.ty) _ (subst (λ (h : Here). first_fault (integer_name_checks h c.ty) ≡ None) (here-inside s kept at is) e)

  pub name-wrong : (x : CheckError) (p : Location) → first_fault (integer_name_checks (here_of s) c.ty) ≡ None → p ≡ place_at at c.name
      → Blames x (repeated_constant kept.constants c p) → Blames x (first_fault (checks_constant kept at c))
  name-wrong x p e q b = blames-to x _ _ (sym (past-type e)) (blames-head x _ _ (subst (λ (l : Location). Blames x (repeated_constant kept.constants c l)) q b))

  past-name : (p : Location) (largest : ℕ) → first_fault (integer_name_checks (here_of s) c.ty) ≡ None → p ≡ place_at at c.name
      → repeated_constant kept.constants c p ≡ None → greatest_in (behind (denoted_tree (here_of s) c.ty)) ≡ Some largest
      → first_fault (checks_constant kept at c) ≡ first_fault (value_check c.name.name.now c.value (place_at at c.name) (Some largest) ∷ [])
  past-name p largest e q new greatest =
      past-type e
      ∙ (fault-past _ _ (subst (λ (l : Location). repeated_constant kept.constants c l ≡ None) q new)
      ∙ ap (λ (o : Option ℕ). first_fault (value_check c.name.name.now c.value (place_at at c.name) o ∷ []))
      (subst (λ (h : Here). greatest_in (behind (denoted_tree h c.ty)) ≡ Some largest) (here-inside s kept at is) greatest))

  place-is : (here_of s).place c.name.span.start ≡ place_at at c.name
  place-is = ap (λ (h : Here). h.place c.name.span.start) (here-inside s kept at is)

  pub value-wrong : (x : CheckError) (p : Location) (largest : ℕ) → first_fault (integer_name_checks (here_of s) c.ty) ≡ None → p ≡ place_at at c.name
      → repeated_constant kept.constants c p ≡ None → greatest_in (behind (denoted_tree (here_of s) c.ty)) ≡ Some largest
      → Blames x (value_check c.name.name.now c.value ((here_of s).place c.name.span.start) (Some largest)) → Blames x (first_fault (checks_constant kept at c))
  value-wrong x p largest e q new greatest b =
      blames-to x _ _ (sym (past-name p largest e q new greatest))
      (blames-head x _ _ (subst (λ (l : Location). Blames x (value_check c.name.name.now c.value l (Some largest))) place-is b))

  pub all-pass : (p : Location) (largest : ℕ) → first_fault (integer_name_checks (here_of s) c.ty) ≡ None → p ≡ place_at at c.name
      → repeated_constant kept.constants c p ≡ None → greatest_in (behind (denoted_tree (here_of s) c.ty)) ≡ Some largest
      → value_check c.name.name.now c.value ((here_of s).place c.name.span.start) (Some largest) ≡ None → first_fault (checks_constant kept at c) ≡ None
  all-pass p largest e q new greatest fits =
      past-name p largest e q new greatest
      ∙ fault-past _ [] (subst (λ (l : Location). value_check c.name.name.now c.value l (Some largest) ≡ None) place-is fits)
