-- A run without recursion: blocks that are being run stand on a list of frames, each with what follows it.
-- What stands here says what such frames are worth: the machine's own run, of which a block is a part.
use Rattle.std.specs.Prelude.{ℕ, suc, List, [], ◌∷◌, Bool, true, false, Option}
use Rattle.witx_machine.specs.Events.{Event}
use Rattle.witx_machine.specs.Machine.{Domain, Tried, went, if_found, goes_on, Item, word_item, plain_item, State, Inside, Side, is_nil, with_stack, left_over, block_word, lifted_payload, after, flowing, play, runs_within}

-- a result step whose block is being run: where it stands, its place and what follows it, what was below on its
-- stack, which step and case it is, and the block's finish
pub record Frame (P E V W : Type 0) : Type 0 where
  pub inside : Inside V W
  pub at : P
  pub more : List E
  pub below : List (Item V W)
  pub lowers : Bool
  pub error : Bool
  pub has_value : Bool
  pub end : P

-- what the step makes of what its block left
abbrev pub leaves : {P E V W M C : Type 0} → Domain V W M → Bool → Bool → List (Item V W) → Option (Item V W) × State E V W M C → Tried P (State E V W M C)
leaves D true e below r = if_found (block_word D e r.0) (λ w. went (with_stack (word_item w ∷ below) r.1))
leaves D false e below r = if_found (lifted_payload r.0) (λ p. went (with_stack (plain_item (D.result e p) ∷ below) r.1))

module _ {P E V W M C : Type 0} (event : E → Event) (place : E → P) (D : Domain V W M) (side : Side P E V W M C) where
  -- the rest of a trace, behind an event at this place that came to t
  abbrev pub behind : ℕ → Inside V W → P → List E → Tried P (State E V W M C) → Tried P (State E V W M C)
  behind n inside p more t = after p (is_nil more) t (play event place D side (runs_within event place D side n) inside more flowing)

  -- the rest of the trace that the frame's step stands in, whose block has come to t
  abbrev pub frame_done : ℕ → Frame P E V W → Tried P (State E V W M C) → Tried P (State E V W M C)
  frame_done n f t = behind n f.inside f.at f.more (goes_on (goes_on t (λ s. left_over f.end f.has_value s.stack s)) (leaves D f.lowers f.error f.below))

  -- the run of a whole trace, of which the innermost block that is being run has come to t
  abbrev pub resume : ℕ → List (Frame P E V W) → Tried P (State E V W M C) → Tried P (State E V W M C)
  resume n [] t = t
  resume n (f ∷ fs) t = resume (suc n) fs (frame_done (suc n) f t)
