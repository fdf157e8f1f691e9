use Rattle.std.proofs.Common.{◌∙◌, sym, refl, List, ℕ}
use Rattle.std.specs.Cmp.{unsigned_Decides}
use Rattle.std.proofs.lemmas.Slice.Eq.{slice_eq-Decides}
use Rattle.witx_scope.proofs.place.shared_path.Goals as goal

-- the two paths are equal, since `==` on lists of texts decides it
pub returns-then-eq : goal.returns-then-eq
returns-then-eq c =
    let texts = λ (a b : List ℕ). slice_eq-Decides unsigned_Decides a b _ refl in
    c.in_ok-clone.ensures.cases ∙ (sym c.deref.ensures ∙ (slice_eq-Decides texts _ _ _ c.eq.ensures).0 c.if-eq.true)
