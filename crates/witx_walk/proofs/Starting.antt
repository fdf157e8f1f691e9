-- Before the first file nothing is kept.
use Rattle.std.proofs.Common.{◌≡◌, List, [], refl, sym, ap, subst, map}
use Rattle.witx_ast.proofs.EntryLaws.{fits-empty}
use Rattle.witx_ast.specs.Definitions.{definition_tree, introduced, entry_tree, DefinitionsFit}
use Rattle.witx_ast.specs.Ordered.{IsOrdered}
use Rattle.witx_ast.specs.Closed.{IsClosed}
use Rattle.witx_ast.specs.declared.definition.Definition.{Definition}
use Rattle.witx_scope.specs.Declarations.{nothing_before}
use Rattle.witx_scope.specs.Kept.{Kept, Keeps}
use Rattle.witx_check.specs.Validators.{kept_by, nothing_kept}
use Rattle.witx_walk.specs.Steps.{HasPaths, Tracks}
use Rattle.witx_walk.specs.declared.walking.Walking.{Walking}

nothing-keeps : Keeps nothing_kept nothing_before
nothing-keeps = record { introduced = record { places = λ n. refl; senses = λ n. refl }; constants = λ type_name n. refl }

pub starts-so : (walk : Walking) → kept_by walk.validation ≡ nothing_kept → walk.definitions ≡ [] → HasPaths walk.taken.paths [] → Tracks walk [] []
starts-so walk k d h =
    let K : Kept → Type 0 = λ x. Keeps x nothing_before in
    let F : Kept → Type 0 = λ x. DefinitionsFit [] x.entries in
    let D : List Definition → Type 0 = λ x. DefinitionsFit x (kept_by walk.validation).entries in
    let O : List Definition → Type 0 = λ x. IsOrdered (map definition_tree x) in
    let C : List Definition → Type 0 = λ x. IsClosed (map definition_tree x) in
    record {
      paths = h;
      holding = record {
        keeps = subst K (sym k) nothing-keeps;
        definitions = ap (map definition_tree) d;
        fits = subst D (sym d) (subst F (sym k) (fits-empty introduced entry_tree));
        ordered = subst O (sym d) tt;
        closed = subst C (sym d) tt;
      };
    }
