-- How much of a run is left to do: events of the innermost block, of those in which it stands, and of blocks that
-- are set aside, each with its finish. Each turn leaves less.
use Rattle.std.specs.Prelude.{ℕ, suc, ◌+◌, ◌-◌, ◌<◌, List, [], ◌∷◌}
use Rattle.witx_run.specs.declared.machine.Block as declared_block
use Rattle.witx_run.specs.declared.frame.Frame as declared_frame
use Rattle.witx_run.specs.declared.progress.Progress as declared_progress
use Rattle.witx_run.specs.declared.progress.Turn as declared_turn
use Rattle.witx_run.specs.declared.progress.Turn.TheVariants as turn

abbrev pub left_in_blocks : List declared_block.Block → ℕ
left_in_blocks [] = 0
left_in_blocks (b ∷ bs) = suc (b.end - b.first) + left_in_blocks bs

abbrev pub left_in_frames : {v w : Type 0} → List (declared_frame.Frame v w) → ℕ
left_in_frames [] = 0
left_in_frames (f ∷ fs) = f.end - f.at + left_in_frames fs

abbrev pub left_to_run : {v w m : Type 0} → declared_progress.Progress v w m → ℕ
left_to_run p = p.end - p.at + (left_in_frames p.frames.items + left_in_blocks p.machine.blocks.items)

-- a turn that advances leaves less to do than there was, with so much more that was taken off before
abbrev pub Falls : {v w m : Type 0} → ℕ → declared_progress.Progress v w m → declared_progress.Progress v w m → declared_turn.Turn → Type 0
Falls more old new turn.Advances = left_to_run new < more + left_to_run old
Falls more old new (turn.Stops s) = Unit {0}
