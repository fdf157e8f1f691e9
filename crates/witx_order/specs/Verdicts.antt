-- The verdict: what comes first along the reading order, a declaration that has a fault, a place without a next mark, or
-- the end.
use Rattle.std.specs.Prelude.{◌≡◌, List, Option, None, Some}
use Rattle.witx_base.specs.Paths.{Path}
use Rattle.witx_order.specs.Items.{Declared}
use Rattle.witx_order.specs.Walks.{World, Mark, start, decl, skip, end, Place, Next, go, stuck, over, WalkRefusal, faulty, next, beginning}

-- the declarations in reading order, none of which has a fault; or the refusal with its place
pub data Verdict (F : Type 0) : Type 0 where
  fine : List Declared → Verdict F
  refused : WalkRefusal F → Verdict F

pub data Turn (F : Type 0) : Type 0 where
  on : Mark → Place → Turn F
  ends : Verdict F → Turn F

abbrev pub checked : {F : Type 0} → Option F → Mark → Place → Turn F
checked None mark behind = on mark behind
checked (Some fault) mark behind = ends (refused (faulty fault))

abbrev pub passed : {F : Type 0} → World F → List Declared → Mark → Place → Turn F
passed w declared (decl δ) behind = checked (w.fault_of declared δ) (decl δ) behind
passed w declared (start path directory) behind = on (start path directory) behind
passed w declared (skip path) behind = on (skip path) behind
passed w declared (end path) behind = on (end path) behind

abbrev pub turned : {F : Type 0} → World F → List Declared → Next F → Turn F
turned w declared (go mark behind) = passed w declared mark behind
turned w declared (stuck refusal) = ends (refused refusal)
turned w declared over = ends (fine declared)

-- the next mark, unless it is a declaration that has a fault, or there is none
abbrev pub turn : {F : Type 0} → World F → Place → Turn F
turn w at = turned w at.declared (next w at)

-- from one place to another by marks without a fault
pub data Leads {F : Type 0} (w : World F) : Place → Place → Type 0 where
  here : (at : Place) → Leads w at at
  along : (at : Place) (mark : Mark) (between last : Place) → turn w at ≡ on mark between → Leads w between last → Leads w at last

-- what comes first from a place on
pub record Ends {F : Type 0} (w : World F) (at : Place) (v : Verdict F) : Type 0 where
  pub last : Place
  pub way : Leads w at last
  pub end_is : turn w last ≡ ends v

abbrev pub IsVerdict : {F : Type 0} → World F → List Path → Verdict F → Type 0
IsVerdict w handed v = Ends w (beginning handed) v
