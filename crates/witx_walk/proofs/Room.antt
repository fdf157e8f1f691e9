-- What has been read stays where memory is taken for more.
use Rattle.std.proofs.Common.{◌≡◌, ◌∙◌, List, map, sym, ap, subst}
use Rattle.witx_base.specs.Paths.{Path}
use Rattle.witx_ast.specs.Closed.{IsClosed}
use Rattle.witx_ast.specs.Definitions.{definition_tree, DefinitionsFit}
use Rattle.witx_ast.specs.Ordered.{IsOrdered}
use Rattle.witx_ast.specs.declared.definition.Definition.{Definition}
use Rattle.witx_check.specs.Validators.{kept_by}
use Rattle.witx_check.specs.declared.validator.DocValidation.{DocValidation}
use Rattle.witx_order.specs.Items.{Declared}
use Rattle.witx_scope.specs.Kept.{Kept, Keeps}
use Rattle.witx_walk.specs.Meaning.{past_of}
use Rattle.witx_walk.specs.Steps.{Holding, Tracks, IsWell}
use Rattle.witx_walk.specs.declared.walking.Walking.{Walking}

module _ (walk : Walking) (validation : DocValidation) (definitions : List Definition) (e : kept_by validation ≡ kept_by walk.validation) (d : definitions ≡ walk.definitions) where
  room-held : (declared : List Declared) → Holding walk declared → Holding (record walk { validation = validation; definitions = definitions }) declared
  room-held declared h = record {
    keeps = subst (λ (k : Kept). Keeps k (past_of declared)) (sym e) h.keeps;
    definitions = ap (map definition_tree) d ∙ h.definitions;
    fits = subst (λ (ds : List Definition). DefinitionsFit ds (kept_by validation).entries) (sym d) (subst (λ (k : Kept). DefinitionsFit walk.definitions k.entries) (sym e) h.fits);
    ordered = subst (λ (ds : List Definition). IsOrdered (map definition_tree ds)) (sym d) h.ordered;
    closed = subst (λ (ds : List Definition). IsClosed (map definition_tree ds)) (sym d) h.closed;
  }

  pub room-tracks : (taken : List Path) (declared : List Declared) → Tracks walk taken declared → Tracks (record walk { validation = validation; definitions = definitions }) taken declared
  room-tracks taken declared t = record { paths = t.paths; holding = room-held declared t.holding }

  pub room-well : IsWell walk → IsWell (record walk { validation = validation; definitions = definitions })
  room-well w = (w.0, room-held w.0 w.1)

pub ruleset room_rules = (room-tracks, room-well)
