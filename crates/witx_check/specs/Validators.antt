-- A validator, as what it keeps.
use Rattle.std.specs.Prelude.{[]}
use Rattle.witx_check.specs.declared.validator.DocValidation.{DocValidation}
use Rattle.witx_scope.specs.Kept.{Kept}
use Rattle.witx_scope.specs.Sites.{kept_in}

abbrev pub kept_by : DocValidation → Kept
kept_by v = kept_in v.tables

abbrev pub nothing_kept : Kept
nothing_kept = record { names = []; entries = []; constants = [] }
