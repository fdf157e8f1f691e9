-- A run without recursion: blocks that are being run stand on a list of frames, and a block that is set aside
-- is cut out of the events at once, where its end is known.
use Rattle.std.proofs.Common.{◌||◌, is_none, ◌≡◌, ℕ, zero, suc, Bool, true, false, cond, refl, sym, ap, ◌∙◌, append_assoc, Option, Some, None, List, [], ◌∷◌, ◌++◌}
use Rattle.witx_ast.specs.Tree.{Tree}
use Rattle.witx_run.specs.Cuts.{Cut, cut_deeper, cut, cut_by}
use Rattle.witx_run.specs.Frames.{Frame, behind, resume}
use Rattle.witx_machine.specs.Events.{Event, emit, space, push, finish, Step}
use Rattle.witx_machine.specs.Rows.{row}
use Rattle.witx_machine.specs.Machine.{Domain, Tried, went, no_rule, stuck_at, if_found, State, Inside, Side, is_nil, act, flowing, gathering, set_aside, flows, gathers, play, runs_within, give_slot, slot_word}

module _ {P E V W M C : Type 0} (event : E → Event) (place : E → P) (D : Domain V W M) (side : Side P E V W M C) where
  abbrev go_on : (runs : Inside V W → List E → State E V W M C → Tried P (State E V W M C)) → Inside V W → E → List E → Option (Cut E) → State E V W M C → Tried P (State E V W M C)
  go_on runs inside b es None s = stuck_at (place b)
  go_on runs inside b es (Some c) s = play event place D side runs inside c.rest flowing (set_aside (es ++ c.inner) c.has_value c.end s)

  -- a push goes on behind its block
  pub gathers_cut : (runs : Inside V W → List E → State E V W M C → Tried P (State E V W M C)) (inside : Inside V W) (b : E) (more : List E) (d : ℕ) (es : List E) (s : State E V W M C) →
      play event place D side runs inside more (gathering b d es) s ≡ go_on runs inside b es (cut event more d) s
  gathers_cut runs inside b [] d es s = refl
  gathers_cut runs inside b (e ∷ more) d es s = by (event e) d (λ d' gs. gathers_cut runs inside b more d' gs s)
    where
      deep : (o : Option (Cut E)) → go_on runs inside b (es ++ e ∷ []) o s ≡ go_on runs inside b es (cut_deeper e o) s
      deep None = refl
      deep (Some c) = ap (λ gs. play event place D side runs inside c.rest flowing (set_aside gs c.has_value c.end s)) (append_assoc es (e ∷ []) c.inner)

      by : (x : Event) (d : ℕ) → ((d' : ℕ) (gs : List E) → play event place D side runs inside more (gathering b d' gs) s ≡ go_on runs inside b gs (cut event more d') s) →
          gathers event place D side x e b d es (play event place D side runs inside more) s ≡ go_on runs inside b es (cut_by event x e d more (cut event more)) s
      by (emit x) d h = h d (es ++ e ∷ []) ∙ deep (cut event more d)
      by (space k t) d h = h d (es ++ e ∷ []) ∙ deep (cut event more d)
      by push d h = h (suc d) (es ++ e ∷ []) ∙ deep (cut event more (suc d))
      by (finish v) zero h = ap (λ gs. play event place D side runs inside more flowing (set_aside gs v e s)) (sym (append_nil es))
        where
          append_nil : {A : Type 0} (xs : List A) → xs ++ [] ≡ xs
          append_nil [] = refl
          append_nil (x ∷ xs) = ap (λ l. x ∷ l) (append_nil xs)
      by (finish v) (suc d) h = h d (es ++ e ∷ []) ∙ deep (cut event more d)

  -- a place without a rule ends all frames
  pub resume_stuck : (n : ℕ) (fs : List (Frame P E V W)) (p : P) → resume event place D side n fs (stuck_at p) ≡ stuck_at p
  resume_stuck n [] p = refl
  resume_stuck n (f ∷ fs) p = resume_stuck (suc n) fs p

  -- the event has made a state: it goes on behind it, or is a return that isn't the last
  pub goes_on : (n : ℕ) (fs : List (Frame P E V W)) (inside : Inside V W) (p : P) (more : List E) (s : State E V W M C) → (is_none s.answer || is_nil more) ≡ true →
      resume event place D side n fs (behind event place D side n inside p more (went s)) ≡ resume event place D side n fs (play event place D side (runs_within event place D side n) inside more flowing s)
  goes_on n fs inside p more s h = ap (λ b. resume event place D side n fs (cond b (play event place D side (runs_within event place D side n) inside more flowing s) (stuck_at p))) h

  pub too_early : (n : ℕ) (fs : List (Frame P E V W)) (inside : Inside V W) (p : P) (more : List E) (s : State E V W M C) → (is_none s.answer || is_nil more) ≡ false →
      resume event place D side n fs (behind event place D side n inside p more (went s)) ≡ stuck_at p
  too_early n fs inside p more s h = ap (λ b. resume event place D side n fs (cond b (play event place D side (runs_within event place D side n) inside more flowing s) (stuck_at p))) h ∙ resume_stuck n fs p

  pub no_way : (n : ℕ) (fs : List (Frame P E V W)) (inside : Inside V W) (p : P) (more : List E) → resume event place D side n fs (behind event place D side n inside p more no_rule) ≡ stuck_at p
  no_way n fs inside p more = resume_stuck n fs p

  -- a step of a trace that runs
  module _ (n : ℕ) (fs : List (Frame P E V W)) (inside : Inside V W) (e : E) (more : List E) (s : State E V W M C) where
    abbrev runs_n : Inside V W → List E → State E V W M C → Tried P (State E V W M C)
    runs_n = runs_within event place D side n

    abbrev pub here : Tried P (State E V W M C)
    here = resume event place D side n fs (play event place D side runs_n inside (e ∷ more) flowing s)

    pub at_step : (x : Step) → event e ≡ emit x → here ≡ resume event place D side n fs (behind event place D side n inside (place e) more (act event place D side runs_n inside (row x) s))
    at_step x is = ap (λ y. resume event place D side n fs (flows event place D side runs_n inside y e (is_nil more) (play event place D side runs_n inside more) s)) is

    pub at_space : (k : ℕ) (t : Tree) → event e ≡ space k t → here ≡ resume event place D side n fs (behind event place D side n inside (place e) more (give_slot event place D side runs_n inside k t (slot_word k s.slots) s))
    at_space k t is = ap (λ y. resume event place D side n fs (flows event place D side runs_n inside y e (is_nil more) (play event place D side runs_n inside more) s)) is

    pub lone_finish : (v : Bool) → event e ≡ finish v → here ≡ stuck_at (place e)
    lone_finish v is = ap (λ y. resume event place D side n fs (flows event place D side runs_n inside y e (is_nil more) (play event place D side runs_n inside more) s)) is ∙ resume_stuck n fs (place e)

    -- a push goes on behind its block, or has no end
    at_push : event e ≡ push → here ≡ resume event place D side n fs (go_on runs_n inside e [] (cut event more 0) s)
    at_push is = ap (λ y. resume event place D side n fs (flows event place D side runs_n inside y e (is_nil more) (play event place D side runs_n inside more) s)) is ∙ ap (resume event place D side n fs) (gathers_cut runs_n inside e more 0 [] s)

    pub push_block : (c : Cut E) → event e ≡ push → cut event more 0 ≡ Some c → here ≡ resume event place D side n fs (play event place D side runs_n inside c.rest flowing (set_aside c.inner c.has_value c.end s))
    push_block c is if_found = at_push is ∙ ap (λ o. resume event place D side n fs (go_on runs_n inside e [] o s)) if_found

    pub push_open : event e ≡ push → cut event more 0 ≡ None → here ≡ stuck_at (place e)
    push_open is none = at_push is ∙ ap (λ o. resume event place D side n fs (go_on runs_n inside e [] o s)) none ∙ resume_stuck n fs (place e)
