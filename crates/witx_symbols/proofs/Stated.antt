-- The laws, as they are stated.
use Rattle.std.proofs.Common.{◌≡◌, T, refl, ap, Option, Some, None, List, [], ◌∷◌, map}
use Rattle.witx_ast.specs.Tree.{Field}
use Rattle.witx_ast.specs.Plain.{plain}
use Rattle.witx_ast.specs.Tags.{fits, types_fit}
use Rattle.witx_machine.specs.Functions.{function_of}
use Rattle.witx_symbols.specs.declared.surface.Doubt.{Doubt}
use Rattle.witx_symbols.specs.declared.surface.Verdict.{Verdict}
use Rattle.witx_symbols.specs.Adapted.{OwnGetYes, YesIsFaithful}
use Rattle.witx_symbols.specs.Verdicts.{doubt, verdict_of}
use Rattle.witx_machine.proofs.Scalars.{truth, both_true, left_true, right_true}
use Rattle.witx_machine.proofs.All.{all_fit}
use Rattle.witx_symbols.proofs.Sound.{yes_is_faithful}
use Rattle.witx_symbols.proofs.Own.{own_raise_no_doubt}

pub no_doubt_of : (o : Option Doubt) → verdict_of o ≡ Verdict.Yes → o ≡ None
no_doubt_of None e = refl
no_doubt_of (Some d) e = absurd (clash e)
  where
    clash : Verdict.No d ≡ Verdict.Yes → ⊥
    clash e = cc

pub yes_means_faithful : YesIsFaithful
yes_means_faithful m f caller callee e = yes_is_faithful m (function_of f) caller callee (no_doubt_of (doubt m (function_of f) caller callee) e)

types_all_fit : (ps : List Field) → T (types_fit ps) → T (all_fit (map (λ p. p.tree) ps))
types_all_fit [] h = tt
types_all_fit (p ∷ ps) h = both_true _ _ (left_true (fits (plain p.tree)) _ h) (types_all_fit ps (right_true (fits (plain p.tree)) _ h))

pub own_get_yes : OwnGetYes
own_get_yes m f low fit =
    let fits_both = truth fit in
    ap verdict_of (own_raise_no_doubt m (function_of f) (truth low) (types_all_fit f.params (left_true (types_fit f.params) _ fits_both)) (types_all_fit f.results (right_true (types_fit f.params) _ fits_both)))
