-- What is left to do after a turn.
use Rattle.std.proofs.Common.{◌≡◌, ℕ, suc, ◌+◌, ◌-◌, ◌<◌, ◌≤◌, Bool, true, false, cond, List, [], ◌∷◌, ◌++◌, ap, ◌∙◌, arith}
use Rattle.std.specs.Global.{Vec}
use Rattle.witx_run.specs.Nearing.{Falls, left_in_blocks, left_in_frames, left_to_run}
use Rattle.witx_run.specs.declared.machine.Block as declared_block
use Rattle.witx_run.specs.declared.frame.Frame as declared_frame
use Rattle.witx_run.specs.declared.progress.Progress as declared_progress
use Rattle.witx_run.specs.declared.progress.Turn as declared_turn
use Rattle.witx_run.specs.declared.progress.Turn.TheVariants as turn

blocks-more : (bs : List declared_block.Block) (b : declared_block.Block) → left_in_blocks (bs ++ b ∷ []) ≡ left_in_blocks bs + suc (b.end - b.first)
blocks-more [] b = let zero : suc (b.end - b.first) + 0 ≡ 0 + suc (b.end - b.first) = omega arith in zero
blocks-more (c ∷ bs) b = let more = blocks-more bs b in
    let sum : suc (c.end - c.first) + (left_in_blocks bs + suc (b.end - b.first)) ≡ suc (c.end - c.first) + left_in_blocks bs + suc (b.end - b.first) = omega arith in
    ap (λ n. suc (c.end - c.first) + n) more ∙ sum

frames-more : {v w : Type 0} (fs : List (declared_frame.Frame v w)) (f : declared_frame.Frame v w) → left_in_frames (fs ++ f ∷ []) ≡ left_in_frames fs + (f.end - f.at)
frames-more [] f = let zero : f.end - f.at + 0 ≡ 0 + (f.end - f.at) = omega arith in zero
frames-more (g ∷ fs) f = let more = frames-more fs f in
    let sum : g.end - g.at + (left_in_frames fs + (f.end - f.at)) ≡ g.end - g.at + left_in_frames fs + (f.end - f.at) = omega arith in
    ap (λ n. g.end - g.at + n) more ∙ sum

-- what was taken off before counts
pub falls-by : {v w m : Type 0} (more : ℕ) (old mid new : declared_progress.Progress v w m) (t : declared_turn.Turn) → more + left_to_run mid ≤ left_to_run old → Falls more mid new t → Falls 0 old new t
falls-by more old mid new turn.Advances le f = let less : left_to_run new < more + left_to_run mid = f in omega arith
falls-by more old mid new (turn.Stops s) le f = tt

pub two-taken : {v w m : Type 0} (p : declared_progress.Progress v w m) (bs : Vec declared_block.Block) (a b chosen : declared_block.Block) (e : Bool) → p.machine.blocks.items ≡ (bs.items ++ a ∷ []) ++ b ∷ [] → chosen ≡ cond e b a →
    suc (chosen.end - chosen.first) + left_to_run (record p { machine = record p.machine { blocks = bs } }) ≤ left_to_run p
two-taken p bs a b chosen e all is = by e (ap (λ c. suc (c.end - c.first)) is)
  where
    sum : left_in_blocks p.machine.blocks.items ≡ left_in_blocks bs.items + suc (a.end - a.first) + suc (b.end - b.first)
    sum = ap left_in_blocks all ∙ blocks-more (bs.items ++ a ∷ []) b ∙ ap (λ n. n + suc (b.end - b.first)) (blocks-more bs.items a)

    by : (e : Bool) → suc (chosen.end - chosen.first) ≡ suc ((cond e b a).end - (cond e b a).first) → suc (chosen.end - chosen.first) + left_to_run (record p { machine = record p.machine { blocks = bs } }) ≤ left_to_run p
    by true h = omega (arith, sum, h)
    by false h = omega (arith, sum, h)

pub frame-taken : {v w m : Type 0} (p : declared_progress.Progress v w m) (fs : Vec (declared_frame.Frame v w)) (f : declared_frame.Frame v w) → p.frames.items ≡ fs.items ++ f ∷ [] → f.end - f.at + left_to_run (record p { frames = fs }) ≤ left_to_run p
frame-taken p fs f all = omega (arith, ap left_in_frames all ∙ frames-more fs.items f)

pub block-entered : {v w m : Type 0} (p : declared_progress.Progress v w m) (b : declared_block.Block) (fs : List (declared_frame.Frame v w)) (f : declared_frame.Frame v w) → fs ≡ p.frames.items ++ f ∷ [] → f.end ≡ p.end → f.at ≡ p.at →
    b.end - b.first + (left_in_frames fs + left_in_blocks p.machine.blocks.items) < suc (b.end - b.first) + left_to_run p
block-entered p b fs f all end at = omega (arith, ap left_in_frames all ∙ frames-more p.frames.items f, ap (λ e. e - f.at) end ∙ ap (λ a. p.end - a) at)

pub block-aside : {v w m : Type 0} (p : declared_progress.Progress v w m) (b : declared_block.Block) (bs : Vec declared_block.Block) → bs.items ≡ p.machine.blocks.items ++ b ∷ [] → b.first ≡ suc p.at → p.at < b.end → b.end < p.end →
    p.end - (b.end + 1) + (left_in_frames p.frames.items + left_in_blocks bs.items) < 0 + left_to_run p
block-aside p b bs all from later less =
    let size : suc (b.end - b.first) ≡ suc (b.end - suc p.at) = ap (λ i. suc (b.end - i)) from in
    omega (arith, ap left_in_blocks all ∙ blocks-more p.machine.blocks.items b ∙ ap (λ n. left_in_blocks p.machine.blocks.items + n) size, later, less)
