use Rattle.std.proofs.Common.{◌≡◌, ℕ, List, drop}
use Rattle.std.specs.Option.{option_or}
use Rattle.std.specs.List.{position_from}
use Rattle.witx_base.specs.Found.{found}
use Rattle.witx_base.specs.Texts.{same_text}
use Rattle.witx_scope.specs.NamePlaces.{place_in}
use Rattle.witx_scope.proofs.cases.places_of.Given as goal

-- the places so far, and behind them those of the names that are left
abbrev pub invariant-loop-i : goal.invariant-loop-i
invariant-loop-i l = (n : List ℕ) → option_or (found l.places n) (position_from (same_text n) l.i (drop l.i l.names)) ≡ place_in l.names n
