-- A name that is taken in by one search, and a name that is used.
use Rattle.std.specs.Prelude.{◌≡◌, ◌||◌, ℕ, List, Option, Some, None, true, false}
use Rattle.std.specs.Option.{is_some}
use Rattle.std.proofs.Common.{refl, ap, ◌∙◌}
use Rattle.witx_base.specs.Found.{found}
use Rattle.witx_files.specs.declared.location.Location.{Location}
use Rattle.witx_ast.specs.declared.definition.Entry.{Entry}
use Rattle.witx_scope.specs.declared.unfinished.Unfinished.{Unfinished}
use Rattle.witx_scope.specs.Introduced.{is_unfinished, AreIntroduced}
use Rattle.witx_scope.specs.Names.{Names, unknown, unfinished}
use Rattle.witx_scope.specs.Senses.{entry_sense, kept_sense, sense_at}
use Rattle.witx_scope.proofs.Earlier.{no-name-left}
use Rattle.witx_scope.proofs.Steps.{found-more, step_rules}

pub ruleset introduce_rules = (step_rules, no-name-left)

-- ---- a name that is used

sense-introduced : (l : Option Location) (o : Option Entry) → is_some l ≡ true → sense_at l o ≡ entry_sense o
sense-introduced (Some l) o h = refl
sense-introduced None o h = absurd (cc)

sense-absent : (l : Option Location) (o : Option Entry) → is_some l ≡ false → sense_at l o ≡ unknown
sense-absent None o h = refl
sense-absent (Some l) o h = absurd (cc)

module _ (names : Names) (u : Unfinished) (es : List (List ℕ × Entry)) (n : List ℕ) (h : AreIntroduced names u es) where
  -- what a name denotes is told by its entry alone,
  pub sense-finished : (e : Entry) → found es n ≡ Some e → kept_sense names es n ≡ entry_sense (Some e)
  sense-finished e f = sense-introduced (found names n) (found es n) (h n ∙ ap (λ o. is_some o || is_unfinished u n) f) ∙ ap entry_sense f

  -- and where it has none, by the names that are not finished
  pub sense-unfinished : found es n ≡ None → is_unfinished u n ≡ true → kept_sense names es n ≡ unfinished
  sense-unfinished f t = sense-introduced (found names n) (found es n) (h n ∙ (ap (λ o. is_some o || is_unfinished u n) f ∙ t)) ∙ ap entry_sense f

  pub sense-unknown : found es n ≡ None → is_unfinished u n ≡ false → kept_sense names es n ≡ unknown
  sense-unknown f t = sense-absent (found names n) (found es n) (h n ∙ (ap (λ o. is_some o || is_unfinished u n) f ∙ t))

pub ruleset used_rules = (step_rules, sense-finished, sense-unfinished, sense-unknown)
