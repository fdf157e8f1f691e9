-- The first type that doesn't fit its tag, among parameters and among their trees.
use Rattle.std.proofs.Common.{◌≡◌, ℕ, not, refl, List, Option, Some, None, option_map}
use Rattle.std.specs.List.{position}
use Rattle.witx_ast.specs.declared.function.InterfaceFuncParam.{InterfaceFuncParam}
use Rattle.witx_ast.specs.Plain.{plain}
use Rattle.witx_ast.specs.Tags.{fits}
use Rattle.witx_ast.specs.Views.{tree_of}
use Rattle.witx_machine.specs.declared.surface.Place.{Place}
use Rattle.witx_instructions.specs.Views.{param_types}
use Rattle.witx_instructions.proofs.Results.{prefix-map, length-map}
use Rattle.witx_symbols.specs.Verdicts.{misfit_place}

misfit-types : (ps : List InterfaceFuncParam) → position (λ t. not (fits (plain t))) (param_types ps) ≡ position (λ p. not (fits (plain (tree_of p.tref)))) ps
misfit-types ps = rw (prefix-map (λ t. not (not (fits (plain t)))) (λ p. tree_of p.tref) ps, length-map (λ p. tree_of p.tref) ps) refl

pub misfit-param : (ps rs : List InterfaceFuncParam) (i : ℕ) → Some i ≡ position (λ p. not (fits (plain (tree_of p.tref)))) ps →
    misfit_place (position (λ t. not (fits (plain t))) (param_types ps)) (position (λ t. not (fits (plain t))) (param_types rs)) ≡ Some (Place.Param i)
misfit-param ps rs i e = rw (misfit-types ps, ← e) refl

pub misfit-result : (ps rs : List InterfaceFuncParam) (o : Option ℕ) → None ≡ position (λ p. not (fits (plain (tree_of p.tref)))) ps → o ≡ position (λ p. not (fits (plain (tree_of p.tref)))) rs →
    misfit_place (position (λ t. not (fits (plain t))) (param_types ps)) (position (λ t. not (fits (plain t))) (param_types rs)) ≡ option_map Place.Result o
misfit-result ps rs o e f = rw (misfit-types ps, ← e, misfit-types rs, ← f) refl

pub ruleset misfit_rules = (misfit-param, misfit-result)
