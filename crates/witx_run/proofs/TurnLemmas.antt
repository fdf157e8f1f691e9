-- One turn of the loop over a trace: what the trace comes to stays the same, whatever its side is.
use Rattle.std.proofs.Common.{◌||◌, is_none, ◌≡◌, ℕ, suc, ◌+◌, ◌<◌, ◌≤◌, Bool, true, false, cond, T, refl, sym, ap, ◌∙◌, subst, arith, Option, Some, None, option_map, slice_get, List, [], ◌∷◌, ◌++◌, map, nat_lt, lt→ltb, ltb→lt}
use Rattle.std.specs.Prelude.{reverse}
use Rattle.std.specs.Global.{Vec}
use Rattle.std.proofs.lemmas.List.{reverse-append}
use Rattle.witx_ast.specs.Tree.{Tree}
use Rattle.witx_machine.specs.Events.{Event, emit, space, push, finish, Step}
use Rattle.witx_machine.specs.Rows.{row}
use Rattle.witx_machine.specs.Machine.{Domain, Tried, went, no_rule, stuck_at, flowing, play, is_nil}
use Rattle.witx_machine.specs.Positions.{Spot}
use Rattle.witx_run.specs.Frames.{Frame}
use Rattle.witx_run.specs.MachineViews.{Numbered, Setting, part, spot_in, inside_of, state_in, block_view}
use Rattle.witx_run.specs.ScriptParts.{event_below, cut_of, BlockFound}
use Rattle.witx_run.specs.StackRows.{tried_if}
use Rattle.witx_run.specs.Views.{items_of}
use Rattle.witx_run.specs.Turns.{StateIn, whole_with, whole, whole_behind, whole_at, space_at, runs_in, frames_of, deeper}
use Rattle.witx_run.specs.declared.machine.Block as declared_block
use Rattle.witx_run.specs.declared.progress.Progress as declared_progress
use Rattle.witx_run.proofs.PartLemmas.{part-next, part-none, part-past}
use Rattle.witx_run.proofs.Resuming.{goes_on, too_early, no_way, at_step, at_space, lone_finish, push_block, push_open}

-- the event at a number, and the part that begins there
none_some : {A : Type 0} {x : A} → None ≡ Some x → ⊥
none_some e = cc

below-none : (es : List Event) (i end : ℕ) → event_below es i end ≡ None → (spot : ℕ → Spot) → part spot es i end ≡ []
below-none es i end e spot = by (nat_lt i end) refl
  where
    by : (b : Bool) → nat_lt i end ≡ b → part spot es i end ≡ []
    by true t = part-none spot es i end (ap (λ b. cond b (slice_get es i) None) (sym t) ∙ e)
    by false t = part-past spot es i end (at_most (nat_lt i end) t (λ l. lt→ltb i end l))
      where
        refused : (b : Bool) → b ≡ false → (i < end → T b) → i < end → ⊥
        refused b e f lt = subst T e (f lt)

        at_most : (b : Bool) → b ≡ false → (i < end → T b) → end ≤ i
        at_most b e f = grind (arith, refused b e f)

below-some : (es : List Event) (i end : ℕ) (e : Event) → event_below es i end ≡ Some e → (slice_get es i ≡ Some e) × (i < end)
below-some es i end e h = by (nat_lt i end) refl
  where
    by : (b : Bool) → nat_lt i end ≡ b → (slice_get es i ≡ Some e) × (i < end)
    by true t = (ap (λ b. cond b (slice_get es i) None) (sym t) ∙ h, ltb→lt i end (subst T (sym t) tt))
    by false t = absurd (none_some (ap (λ b. cond b (slice_get es i) None) (sym t) ∙ h))

below-part : (es : List Event) (i end : ℕ) (e : Event) → event_below es i end ≡ Some e → (spot : ℕ → Spot) → part spot es i end ≡ (spot i, e) ∷ part spot es (suc i) end
below-part es i end e h spot = let got = below-some es i end e h in part-next spot es i end e got.0 got.1

nil-is : (spot : ℕ → Spot) (es : List Event) (i end : ℕ) → is_nil (part spot es i end) ≡ is_none (event_below es i end)
nil-is spot es i end = by (event_below es i end) refl
  where
    by : (o : Option Event) → event_below es i end ≡ o → is_nil (part spot es i end) ≡ is_none o
    by None e = ap is_nil (below-none es i end e spot)
    by (Some x) e = ap is_nil (below-part es i end x e spot)

mapped : {A B : Type 0} (f : A → B) (o : Option A) → is_none (option_map f o) ≡ is_none o
mapped f None = refl
mapped f (Some a) = refl

pub at-less : (es : List Event) (i end : ℕ) (e : Event) → event_below es i end ≡ Some e → i < end
at-less es i end e h = (below-some es i end e h).1

pub got-at : (es : List Event) (i end : ℕ) (e : Event) → event_below es i end ≡ Some e → slice_get es i ≡ Some e
got-at es i end e h = (below-some es i end e h).0

module _ {pv pw pm V W M : Type 0} (D : Domain V W M) (value : pv → V) (word : pw → W) (memory : pm → M) (x : Setting V W M) (es : List Event) (p : declared_progress.Progress pv pw pm) where
  abbrev n : ℕ
  n = deeper es p.frames.items

  abbrev fs : List (Frame Spot Numbered V W)
  fs = frames_of value word (spot_in x.trace) es p.frames.items

  abbrev now : StateIn x
  now = state_in value word memory x es p.machine

  -- an event without a rule ends it
  pub stuck-behind : (t : Tried Spot (StateIn x)) → t ≡ no_rule → whole_behind D value word memory x es p t ≡ stuck_at (spot_in x.trace p.at)
  stuck-behind t e = ap (whole_behind D value word memory x es p) e ∙ no_way (λ (e : Numbered). e.1) (λ (e : Numbered). e.0) D x.side n fs (inside_of value word p.inside) (spot_in x.trace p.at) (part (spot_in x.trace) es (suc p.at) p.end)

  -- the event at hand has no rule, or has made a state
  pub settled-not : (t : Bool) → t ≡ false → whole_behind D value word memory x es p (tried_if t now) ≡ stuck_at (spot_in x.trace p.at)
  settled-not t h = stuck-behind (tried_if t now) (ap (λ t. tried_if t now) h)

  settled-at : (is_none p.machine.answer || is_none (event_below es (suc p.at) p.end)) ≡ true → whole_behind D value word memory x es p (went now) ≡ whole D value word memory x es (record p { at = suc p.at })
  settled-at h = goes_on (λ (e : Numbered). e.1) (λ (e : Numbered). e.0) D x.side n fs (inside_of value word p.inside) (spot_in x.trace p.at) (part (spot_in x.trace) es (suc p.at) p.end) now
      (ap (λ b. is_none now.answer || b) (nil-is (spot_in x.trace) es (suc p.at) p.end) ∙ ap (λ b. b || is_none (event_below es (suc p.at) p.end)) (mapped (λ xs. items_of value word xs.items) p.machine.answer) ∙ h)

  too-soon : (is_none p.machine.answer || is_none (event_below es (suc p.at) p.end)) ≡ false → whole_behind D value word memory x es p (went now) ≡ stuck_at (spot_in x.trace p.at)
  too-soon h = too_early (λ (e : Numbered). e.1) (λ (e : Numbered). e.0) D x.side n fs (inside_of value word p.inside) (spot_in x.trace p.at) (part (spot_in x.trace) es (suc p.at) p.end) now
      (ap (λ b. is_none now.answer || b) (nil-is (spot_in x.trace) es (suc p.at) p.end) ∙ ap (λ b. b || is_none (event_below es (suc p.at) p.end)) (mapped (λ xs. items_of value word xs.items) p.machine.answer) ∙ h)

  pub settled : (t : Bool) (i : ℕ) (goes : Bool) → t ≡ true → i ≡ p.at + 1 → goes ≡ (is_none p.machine.answer || is_none (event_below es i p.end)) → goes ≡ true → whole_behind D value word memory x es p (tried_if t now) ≡ whole D value word memory x es (record p { at = i })
  settled t i goes h e is g =
      let one : i ≡ suc p.at = omega (arith, e) in
      ap (λ t. whole_behind D value word memory x es p (tried_if t now)) h
      ∙ settled-at (ap (λ i. is_none p.machine.answer || is_none (event_below es i p.end)) (sym one) ∙ sym is ∙ g) ∙ ap (λ i. whole D value word memory x es (record p { at = i })) (sym one)

  pub settled-early : (t : Bool) (i : ℕ) (goes : Bool) → t ≡ true → i ≡ p.at + 1 → goes ≡ (is_none p.machine.answer || is_none (event_below es i p.end)) → goes ≡ false → whole_behind D value word memory x es p (tried_if t now) ≡ stuck_at (spot_in x.trace p.at)
  settled-early t i goes h e is g =
      let one : i ≡ suc p.at = omega (arith, e) in
      ap (λ t. whole_behind D value word memory x es p (tried_if t now)) h ∙ too-soon (ap (λ i. is_none p.machine.answer || is_none (event_below es i p.end)) (sym one) ∙ sym is ∙ g)

  -- which event is at hand
  abbrev playing : List Numbered → Tried Spot (StateIn x)
  playing part = whole_with D value word memory x es p (play (λ e. e.1) (λ e. e.0) D x.side (runs_in D value word memory x es n) (inside_of value word p.inside) part flowing now)

  pub at-end : event_below es p.at p.end ≡ None → whole D value word memory x es p ≡ whole_with D value word memory x es p (went now)
  at-end e = ap playing (below-none es p.at p.end e (spot_in x.trace))

  event-here : (e : Event) → event_below es p.at p.end ≡ Some e → whole D value word memory x es p ≡ playing ((spot_in x.trace p.at, e) ∷ part (spot_in x.trace) es (suc p.at) p.end)
  event-here e h = ap playing (below-part es p.at p.end e h (spot_in x.trace))

  pub at-emit : (s : Step) → event_below es p.at p.end ≡ Some (emit s) → whole D value word memory x es p ≡ whole_at D value word memory x es p (row s)
  at-emit s h = event-here (emit s) h ∙ at_step (λ (e : Numbered). e.1) (λ (e : Numbered). e.0) D x.side n fs (inside_of value word p.inside) (spot_in x.trace p.at, emit s) (part (spot_in x.trace) es (suc p.at) p.end) now s refl

  pub at-space : (k : ℕ) (t : Tree) → event_below es p.at p.end ≡ Some (space k t) → whole D value word memory x es p ≡ space_at D value word memory x es p k t
  at-space k t h = event-here (space k t) h ∙ at_space (λ (e : Numbered). e.1) (λ (e : Numbered). e.0) D x.side n fs (inside_of value word p.inside) (spot_in x.trace p.at, space k t) (part (spot_in x.trace) es (suc p.at) p.end) now k t refl

  pub at-finish : (v : Bool) → event_below es p.at p.end ≡ Some (finish v) → whole D value word memory x es p ≡ stuck_at (spot_in x.trace p.at)
  at-finish v h = event-here (finish v) h ∙ lone_finish (λ (e : Numbered). e.1) (λ (e : Numbered). e.0) D x.side n fs (inside_of value word p.inside) (spot_in x.trace p.at, finish v) (part (spot_in x.trace) es (suc p.at) p.end) now v refl

  pub at-block : (b : declared_block.Block) (blocks : Vec declared_block.Block) (i : ℕ) → event_below es p.at p.end ≡ Some push → BlockFound es p.at p.end (Some b) → blocks.items ≡ p.machine.blocks.items ++ b ∷ [] → i ≡ b.end + 1 →
      whole D value word memory x es p ≡ whole D value word memory x es (record p { at = i; machine = record p.machine { blocks = blocks } })
  at-block b blocks i h f e is =
      let one : i ≡ suc b.end = omega (arith, is) in
      event-here push h
      ∙ push_block (λ (e : Numbered). e.1) (λ (e : Numbered). e.0) D x.side n fs (inside_of value word p.inside) (spot_in x.trace p.at, push) (part (spot_in x.trace) es (suc p.at) p.end) now (cut_of (spot_in x.trace) es p.end b) refl (f.3 (spot_in x.trace))
      ∙ ap (λ bs. whole_with D value word memory x es p (play (λ e. e.1) (λ e. e.0) D x.side (runs_in D value word memory x es n) (inside_of value word p.inside) (part (spot_in x.trace) es (suc b.end) p.end) flowing (record now { blocks = bs })))
      (ap (λ bl. bl ∷ map (block_view (spot_in x.trace) es) (reverse p.machine.blocks.items)) first-is ∙ sym (ap (λ bs. map (block_view (spot_in x.trace) es) (reverse bs)) e ∙ ap (map (block_view (spot_in x.trace) es)) (reverse-append p.machine.blocks.items (b ∷ []))))
      ∙ ap (λ i. whole D value word memory x es (record p { at = i; machine = record p.machine { blocks = blocks } })) (sym one)
    where
      first-is : record { events = part (spot_in x.trace) es b.first b.end; has_value = b.has_value; end = (spot_in x.trace b.end, finish b.has_value) } ≡ block_view (spot_in x.trace) es b
      first-is = refl

  pub at-open : event_below es p.at p.end ≡ Some push → BlockFound es p.at p.end None → whole D value word memory x es p ≡ stuck_at (spot_in x.trace p.at)
  at-open h f = event-here push h ∙ push_open (λ (e : Numbered). e.1) (λ (e : Numbered). e.0) D x.side n fs (inside_of value word p.inside) (spot_in x.trace p.at, push) (part (spot_in x.trace) es (suc p.at) p.end) now refl (f (spot_in x.trace))
