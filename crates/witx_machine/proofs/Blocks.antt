-- Blocks: how they are set aside, and how they are run.
use Rattle.std.proofs.Common.{◌≡◌, ℕ, suc, Bool, cond, T, sym, ap, ◌∙◌, Option, Some, None, List, [], ◌∷◌, ◌++◌, append_assoc, append-nil}
use Rattle.witx_ast.specs.Tree.{Tree}
use Rattle.witx_machine.specs.Events.{Event, emit, space, push, finish}
use Rattle.witx_machine.specs.Rows.{result_lower, result_lift}
use Rattle.witx_machine.specs.Traces.{block_events}
use Rattle.witx_machine.specs.Machine.{Domain, went, State, Side, Inside, in_lower, in_lift, Item, word_item, value_item, plain_item, Block, if_found, goes_on, flowing, gathering, runs_within, run_block, payload_item, block_word, lifted_payload, left_over, with_stack}
use Rattle.witx_machine.proofs.Runs.{Try, Runs, only_true, plays, acts}

-- steps alone
abbrev pub AllSteps : List Event → Type 0
AllSteps [] = Unit {0}
AllSteps (emit x ∷ es) = AllSteps es
AllSteps (space k t ∷ es) = ⊥
AllSteps (push ∷ es) = ⊥
AllSteps (finish v ∷ es) = ⊥

pub steps_append : (a b : List Event) → AllSteps a → AllSteps b → AllSteps (a ++ b)
steps_append [] b h k = k
steps_append (emit x ∷ a) b h k = steps_append a b h k
steps_append (space n t ∷ a) b h k = absurd h
steps_append (push ∷ a) b h k = absurd h
steps_append (finish v ∷ a) b h k = absurd h

-- the block that a straight piece of a trace becomes
abbrev pub block : List Event → Bool → Block Event
block es v = record { events = es; has_value = v; end = finish v }

module _ {V W M C : Type 0} (D : Domain V W M) (side : Side (Unit {0}) Event V W M C) where
  module _ (runs : Inside V W → List Event → State Event V W M C → Try (State Event V W M C)) (inside : Inside V W) where
    abbrev pub with_block : List Event → Bool → State Event V W M C → State Event V W M C
    with_block es v s = record s { blocks = block es v ∷ s.blocks }

    gathered : (es acc : List Event) (v : Bool) (rest : List Event) (s : State Event V W M C) → AllSteps es → plays D side runs inside ((es ++ finish v ∷ []) ++ rest) (gathering push 0 acc) s ≡ plays D side runs inside rest flowing (with_block (acc ++ es) v s)
    gathered [] acc v rest s all = ap (λ es. plays D side runs inside rest flowing (with_block es v s)) (sym (append-nil acc))
    gathered (emit x ∷ es) acc v rest s all = gathered es (acc ++ emit x ∷ []) v rest s all ∙ ap (λ es. plays D side runs inside rest flowing (with_block es v s)) (append_assoc acc (emit x ∷ []) es)
    gathered (space k t ∷ es) acc v rest s all = absurd all
    gathered (push ∷ es) acc v rest s all = absurd all
    gathered (finish w ∷ es) acc v rest s all = absurd all

    pub sets_aside : (es : List Event) (v : Bool) (s : State Event V W M C) → AllSteps es → Runs (plays D side runs inside) (block_events es v) s (with_block es v s)
    sets_aside es v s all = record { by = λ rest. gathered es [] v rest s all }

  -- a block that runs as it should, as the machine runs it
  pub block_ran : (k n : ℕ) (inside : Inside V W) (es : List Event) (s s' : State Event V W M C) → k ≡ suc n → Runs (plays D side (runs_within (λ e. e) (λ e. tt) D side n) inside) es s s' → runs_within (λ e. e) (λ e. tt) D side k inside es s ≡ went s'
  block_ran k n inside es s s' e r =
      ap (λ k. runs_within (λ e. e) (λ e. tt) D side k inside es s) e ∙ ap (λ es. plays D side (runs_within (λ e. e) (λ e. tt) D side n) inside es flowing s) (sym (append-nil es)) ∙ r.by []

  module _ (runs : Inside V W → List Event → State Event V W M C → Try (State Event V W M C)) where
    run_goes : {A : Type 0} (inside : Inside V W) (b : Block Event) (s s' : State Event V W M C) (x : Option (Item V W)) (then_do : Option (Item V W) × State Event V W M C → Try A) → runs inside b.events (with_stack [] s) ≡ went s' → left_over {P = Unit {0}} tt b.has_value s'.stack s' ≡ went (x, s') → goes_on (run_block (λ e. e) (λ e. tt) D side runs inside b s) then_do ≡ then_do (x, s')
    run_goes inside b s s' x then_do ran left =
        ap (λ t. goes_on (goes_on t (λ s. left_over {P = Unit {0}} tt b.has_value s.stack s)) then_do) ran ∙ ap (λ t. goes_on t then_do) left

    -- s: the state without the value and the two blocks
    pub lowers_result : (inside : Inside V W) (ok err : Option Tree) (v : V) (c : Option Tree) (e : Bool) (p : Option (V × Option Tree)) (a b : Block Event) (s s' : State Event V W M C) (x : Option (Item V W)) (w : W) → T (side.has_cases ok err) → D.picks ok err v ≡ Some (e, p) → runs (in_lower (payload_item p)) (cond e b a).events (with_stack [] s) ≡ went s' → left_over {P = Unit {0}} tt (cond e b a).has_value s'.stack s' ≡ went (x, s') → block_word D e x ≡ Some w → acts D side runs inside (result_lower ok err) (record s { stack = value_item v c ∷ s.stack; blocks = b ∷ a ∷ s.blocks }) ≡ went (record s' { stack = word_item w ∷ s.stack })
    lowers_result inside ok err v c e p a b s s' x w has is ran left word =
        only_true (side.has_cases ok err) _ has ∙ ap (λ o. if_found o (λ c. goes_on (run_block (λ e. e) (λ e. tt) D side runs (in_lower (payload_item c.1)) (cond c.0 b a) (record s { stack = value_item v None ∷ s.stack })) (λ r. if_found (block_word D c.0 r.0) (λ w. went (with_stack (word_item w ∷ s.stack) r.1))))) is
        ∙ run_goes (in_lower (payload_item p)) (cond e b a) (record s { stack = value_item v None ∷ s.stack }) s' x (λ r. if_found (block_word D e r.0) (λ w. went (with_stack (word_item w ∷ s.stack) r.1))) ran left
        ∙ ap (λ o. if_found o (λ w. went (with_stack (word_item w ∷ s.stack) s'))) word

    pub lifts_result : (inside : Inside V W) (w : W) (e : Bool) (a b : Block Event) (s s' : State Event V W M C) (x : Option (Item V W)) (p : Option V) → D.chooses w ≡ Some e → runs in_lift (cond e b a).events (with_stack [] s) ≡ went s' → left_over {P = Unit {0}} tt (cond e b a).has_value s'.stack s' ≡ went (x, s') → lifted_payload x ≡ Some p → acts D side runs inside result_lift (record s { stack = word_item w ∷ s.stack; blocks = b ∷ a ∷ s.blocks }) ≡ went (record s' { stack = plain_item (D.result e p) ∷ s.stack })
    lifts_result inside w e a b s s' x p is ran left pays =
        ap (λ o. if_found o (λ e. goes_on (run_block (λ e. e) (λ e. tt) D side runs in_lift (cond e b a) s) (λ r. if_found (lifted_payload r.0) (λ p. went (with_stack (plain_item (D.result e p) ∷ s.stack) r.1))))) is
        ∙ run_goes in_lift (cond e b a) s s' x (λ r. if_found (lifted_payload r.0) (λ p. went (with_stack (plain_item (D.result e p) ∷ s.stack) r.1))) ran left
        ∙ ap (λ o. if_found o (λ p. went (with_stack (plain_item (D.result e p) ∷ s.stack) s'))) pays
