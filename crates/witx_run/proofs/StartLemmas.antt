-- How a run begins.
use Rattle.std.proofs.Common.{◌≡◌, ℕ, zero, suc, ◌-◌, List, [], ◌∷◌, length, take, drop, refl, ap, ◌∙◌, arith, None}
use Rattle.std.specs.Prelude.{reverse, map, option_map}
use Rattle.std.specs.Global.{Vec}
use Rattle.witx_machine.specs.Events.{Event}
use Rattle.witx_machine.specs.Machine.{Domain, flowing, play}
use Rattle.witx_machine.specs.Positions.{Spot, numbered}
use Rattle.witx_machine.specs.Run.{start}
use Rattle.witx_run.specs.Frames.{resume}
use Rattle.witx_run.specs.MachineViews.{IsNew, Setting, spot_in, inside_of, block_view, state_in}
use Rattle.witx_run.specs.SlotViews.{given_slots}
use Rattle.witx_run.specs.Views.{items_of, stack_of}
use Rattle.witx_run.specs.Turns.{StateIn, whole, run_start, runs_in, deeper, frames_of}
use Rattle.witx_run.specs.declared.frame.Frame as declared_frame
use Rattle.witx_run.specs.declared.machine.Machine as declared_machine
use Rattle.witx_run.specs.declared.machine.Inside.TheVariants.{Outside}

module _ {pv pw pm V W M : Type 0} (value : pv → V) (word : pw → W) (memory : pm → M) where
  pub started : (x : Setting V W M) (es : List Event) (s : declared_machine.Machine pv pw pm) (old : pm) → IsNew s old → x.called ≡ None → state_in value word memory x es s ≡ start (memory old)
  started x es s old new called =
      ap (λ xs. record (state_in value word memory x es s) { stack = stack_of value word xs }) new.stack
      ∙ ap (λ xs. record (state_in value word memory x es s) { stack = []; slots = given_slots word xs }) new.slots
      ∙ ap (λ m. record (state_in value word memory x es s) { stack = []; slots = []; memory = memory m }) new.memory_is
      ∙ ap (λ xs. record (state_in value word memory x es s) { stack = []; slots = []; memory = memory old; blocks = map (block_view (spot_in x.trace) es) (reverse xs) }) new.blocks
      ∙ ap (λ o. record (state_in value word memory x es s) { stack = []; slots = []; memory = memory old; blocks = []; returned = option_map word o }) new.returned
      ∙ ap (λ o. record (state_in value word memory x es s) { stack = []; slots = []; memory = memory old; blocks = []; returned = None; answer = option_map (λ xs. items_of value word xs.items) o }) new.answer
      ∙ ap (λ o. record (state_in value word memory x es s) { stack = []; slots = []; memory = memory old; blocks = []; returned = None; answer = None; called = o }) called

all-of : {A : Type 0} (n : ℕ) (xs : List A) → n ≡ length xs → take n xs ≡ xs
all-of zero [] e = refl
all-of (suc n) [] e = refl
all-of zero (x ∷ xs) e = absurd (omega (arith, e))
all-of (suc n) (x ∷ xs) e = let less : n ≡ length xs = omega (arith, e) in ap (λ l. x ∷ l) (all-of n xs less)

from_first : {A : Type 0} (xs : List A) → drop 0 xs ≡ xs
from_first [] = refl
from_first (x ∷ xs) = refl

pub starts : {pv pw pm V W M : Type 0} (D : Domain V W M) (value : pv → V) (word : pw → W) (memory : pm → M) (x : Setting V W M) (es : List Event) (m : declared_machine.Machine pv pw pm) (frames : Vec (declared_frame.Frame pv pw)) (end : ℕ) (old : M) → state_in value word memory x es m ≡ start old → frames.items ≡ [] → end ≡ length es →
    whole D value word memory x es (record { machine = m; frames = frames; inside = Outside; at = 0; end = end }) ≡ run_start D value word memory x es old
starts {pv} {pw} {pm} {V} {W} {M} D value word memory x es m frames end old state none e =
    let n : length es - 0 ≡ length es = omega arith in
    let k : end - 0 ≡ length es = omega (arith, e) in
    ap (λ fs. resume (λ e. e.1) (λ e. e.0) D x.side (deeper es fs) (frames_of value word (spot_in x.trace) es fs) (playing (deeper es fs) (take (end - 0) (drop 0 es)) (state_in value word memory x es m))) none
    ∙ ap (λ n. playing n (take (end - 0) (drop 0 es)) (state_in value word memory x es m)) n
    ∙ ap (λ xs. playing (length es) xs (state_in value word memory x es m)) (ap (take (end - 0)) (from_first es) ∙ all-of (end - 0) es k)
    ∙ ap (playing (length es) es) state
  where
    playing : ℕ → List Event → StateIn x → Rattle.witx_machine.specs.Machine.Tried Spot (StateIn x)
    playing n xs s = play (λ e. e.1) (λ e. e.0) D x.side (runs_in D value word memory x es n) (inside_of value word Outside) (numbered (spot_in x.trace) 0 xs) flowing s
