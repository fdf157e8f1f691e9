-- Blocks that are set aside, run and left, in the loop over a trace.
use Rattle.std.proofs.Common.{◌≡◌, ℕ, zero, suc, ◌+◌, ◌-◌, ◌<◌, ◌≤◌, Bool, true, false, cond, T, refl, sym, ap, ◌∙◌, subst, arith, Option, Some, None, slice_get, List, [], ◌∷◌, ◌++◌, length, map, drop, nat_lt, length-append}
use Rattle.std.specs.Prelude.{reverse}
use Rattle.std.specs.Global.{Vec}
use Rattle.std.proofs.lemmas.List.{reverse-append}
use Rattle.witx_ast.specs.Tree.{Tree}
use Rattle.witx_machine.specs.Events.{Event, push, finish}
use Rattle.witx_machine.specs.Rows.{result_lower, result_lift}
use Rattle.witx_machine.specs.Machine as machine
use Rattle.witx_machine.specs.Machine.{Domain, Tried, went, no_rule, stuck_at, goes_on, if_found, only, flowing, play, left_over, with_stack, word_item, value_item, plain_item, payload_item, in_lower, in_lift, two_blocks, top_word, top_value, block_word, lifted_payload}
use Rattle.witx_machine.specs.Positions.{Spot}
use Rattle.witx_machine.specs.Words.{when}
use Rattle.witx_run.specs.BlockEnds.{first, ends_from, block_ends}
use Rattle.witx_run.specs.Frames.{Frame, behind, resume, leaves}
use Rattle.witx_run.specs.LeftOver.{left_item, left_row, result_with}
use Rattle.witx_run.specs.MachineViews.{Numbered, Setting, part, spot_in, inside_of, state_in, block_view}
use Rattle.witx_run.specs.ScriptParts.{BlockFound, finish_value}
use Rattle.witx_run.specs.StackRows.{tried_if, top_value_of, top_word_of, pushed_word, pushed_value}
use Rattle.witx_run.specs.Views.{stack_of}
use Rattle.witx_run.specs.Turns.{StateIn, whole_with, whole, whole_behind, whole_at, runs_in, frames_of, frame_of, deeper, entering, leaving, lowering_by, lifting_by}
use Rattle.witx_run.specs.declared.item.Item as declared_item
use Rattle.witx_run.specs.declared.machine.Block as declared_block
use Rattle.witx_run.specs.declared.machine.Inside as declared_inside
use Rattle.witx_run.specs.declared.frame.Frame as declared_frame
use Rattle.witx_run.specs.declared.progress.Progress as declared_progress
use Rattle.witx_run.proofs.Cutting.{below}
use Rattle.witx_run.proofs.PartLemmas.{end-at, block-at, block-open}
use Rattle.witx_run.proofs.Resuming.{resume_stuck}
use Rattle.witx_run.proofs.RowLemmas.{on_stack, went-stack}
use Rattle.witx_run.proofs.TurnLemmas.{stuck-behind}

some_same : {A : Type 0} {x y : A} → Some x ≡ Some y → x ≡ y
some_same e = cc

none_some : {A : Type 0} {x : A} → None ≡ Some x → ⊥
none_some e = cc

-- the table of ends, by number
pub end-found : (es : List Event) (ends : List (Option ℕ)) (i : ℕ) (o : Option ℕ) → ends ≡ block_ends 0 es → slice_get es i ≡ Some push → Some o ≡ slice_get ends i → o ≡ first (ends_from (suc i) (drop (suc i) es))
end-found es ends i o table got h = let zero : 0 + suc i ≡ suc i = omega arith in
    some_same (h ∙ ap (λ ends. slice_get ends i) table ∙ end-at es i 0 push got) ∙ ap (λ k. first (ends_from k (drop (suc i) es))) zero

pub end-missing : (es : List Event) (ends : List (Option ℕ)) (i : ℕ) → ends ≡ block_ends 0 es → slice_get es i ≡ Some push → None ≡ slice_get ends i → None ≡ first (ends_from (suc i) (drop (suc i) es))
end-missing es ends i table got h = absurd (none_some (h ∙ ap (λ ends. slice_get ends i) table ∙ end-at es i 0 push got))

-- the block of a push, as the program finds it
module _ (es : List Event) (i end : ℕ) (l : i < end) where
  pub no-finish : None ≡ first (ends_from (suc i) (drop (suc i) es)) → BlockFound es i end None
  no-finish e = λ spot. block-open spot es i end l (ap (below end) (sym e))

  pub late-finish : (k : ℕ) → Some k ≡ first (ends_from (suc i) (drop (suc i) es)) → end ≤ k → BlockFound es i end None
  late-finish k e h = λ spot. block-open spot es i end l (ap (below end) (sym e) ∙ by (nat_lt k end) refl)
    where
      by : (b : Bool) → nat_lt k end ≡ b → cond b (Some k) None ≡ None
      by false t = refl
      by true t = absurd (let less : k < end = Rattle.std.proofs.Common.ltb→lt k end (subst T (sym t) tt) in omega arith)

  pub found-finish : (j k : ℕ) (v : Bool) → j ≡ i + 1 → Some k ≡ first (ends_from (suc i) (drop (suc i) es)) → k < end → Some v ≡ finish_value (slice_get es k) → BlockFound es i end (Some (record { first = j; end = k; has_value = v }))
  found-finish j k v plus e less value = (
    first-is,
    (block-at (λ j. Rattle.witx_machine.specs.Positions.in_caller j) es i end k l (sym e) less).later,
    less,
    λ spot.
        let b = block-at spot es i end k l (sym e) less in
        let same : b.has_value ≡ v = sym (some_same (value ∙ ap finish_value b.finishes)) in
        let one : suc i ≡ j = omega (arith, plus) in
        b.cuts ∙ ap (λ v. Some (record { inner = part spot es (suc i) k; has_value = v; end = (spot k, finish v); rest = part spot es (suc k) end })) same
        ∙ ap (λ j. Some (record { inner = part spot es j k; has_value = v; end = (spot k, finish v); rest = part spot es (suc k) end })) one,
  )
    where
      first-is : j ≡ suc i
      first-is = omega (arith, plus)

  pub odd-finish : (k : ℕ) → Some k ≡ first (ends_from (suc i) (drop (suc i) es)) → k < end → None ≡ finish_value (slice_get es k) → BlockFound es i end None
  odd-finish k e less value = absurd (let b = block-at (λ j. Rattle.witx_machine.specs.Positions.in_caller j) es i end k l (sym e) less in none_some (value ∙ ap finish_value b.finishes))

frames-pushed : {pv pw V W : Type 0} (value : pv → V) (word : pw → W) (spot : ℕ → Spot) (es : List Event) (fs : List (declared_frame.Frame pv pw)) (f : declared_frame.Frame pv pw) → frames_of value word spot es (fs ++ f ∷ []) ≡ frame_of value word spot es f ∷ frames_of value word spot es fs
frames-pushed value word spot es fs f = ap (map (frame_of value word spot es)) (reverse-append fs (f ∷ []))

more-deep : {pv pw : Type 0} (es : List Event) (fs : List (declared_frame.Frame pv pw)) (f : declared_frame.Frame pv pw) → length es - length (fs ++ f ∷ []) ≡ length es - suc (length fs)
more-deep es fs f = let e : length (fs ++ f ∷ []) ≡ suc (length fs) = omega (arith, length-append fs (f ∷ [])) in ap (λ k. length es - k) e

either : {A B : Type 0} (f : A → B) (c : Bool) (b a : A) → f (cond c b a) ≡ cond c (f b) (f a)
either f true b a = refl
either f false b a = refl

module _ {pv pw pm V W M : Type 0} (D : Domain V W M) (value : pv → V) (word : pw → W) (memory : pm → M) (x : Setting V W M) (es : List Event) (p : declared_progress.Progress pv pw pm) where
  abbrev now : StateIn x
  now = state_in value word memory x es p.machine

  abbrev spot : ℕ → Spot
  spot = spot_in x.trace

  -- a block that is being run
  abbrev in_block : declared_inside.Inside pv pw → declared_block.Block → ℕ → List (Frame Spot Numbered V W) → StateIn x → Tried Spot (StateIn x)
  in_block inside b n fs s = resume (λ e. e.1) (λ e. e.0) D x.side n fs (play (λ e. e.1) (λ e. e.0) D x.side (runs_in D value word memory x es n) (inside_of value word inside) (part spot es b.first b.end) flowing s)

  -- a step that runs a block goes on in it
  pub enters : (in' inside : declared_inside.Inside pv pw) (lowers error : Bool) (b : declared_block.Block) (f : declared_frame.Frame pv pw) (frames : Vec (declared_frame.Frame pv pw)) (stack : Vec (declared_item.Item pv pw)) → length p.frames.items < length es → in' ≡ inside →
      f.inside ≡ p.inside → f.at ≡ p.at → f.end ≡ p.end → f.below ≡ p.machine.stack → f.lowers ≡ lowers → f.error ≡ error → f.has_value ≡ b.has_value → f.finish ≡ b.end →
      frames.items ≡ p.frames.items ++ f ∷ [] → stack.items ≡ [] →
      whole_behind D value word memory x es p (entering D value word memory x es p (inside_of value word inside) lowers error (block_view spot es b) (stack_of value word p.machine.stack.items) now)
      ≡ whole D value word memory x es (record { machine = record p.machine { stack = stack }; frames = frames; inside = in'; at = b.first; end = b.end })
  enters in' inside lowers error b f frames stack l same f1 f2 f3 f4 f5 f6 f7 f8 pushed empty =
      let one : length es - length p.frames.items ≡ suc (length es - suc (length p.frames.items)) = omega arith in
      ap (λ n. resume (λ e. e.1) (λ e. e.0) D x.side n (frames_of value word spot es p.frames.items)
      (behind (λ e. e.1) (λ e. e.0) D x.side n (inside_of value word p.inside) (spot p.at) (part spot es (suc p.at) p.end)
      (goes_on (machine.run_block (λ e. e.1) (λ e. e.0) D x.side (runs_in D value word memory x es n) (inside_of value word inside) (block_view spot es b) now) (leaves D lowers error (stack_of value word p.machine.stack.items))))) one
      ∙ ap (λ f. in_block inside b (length es - suc (length p.frames.items)) (f ∷ frames_of value word spot es p.frames.items) (with_stack [] now)) (sym frame)
      ∙ ap (λ fs. in_block inside b (length es - suc (length p.frames.items)) fs (with_stack [] now)) (sym (ap (frames_of value word spot es) pushed ∙ frames-pushed value word spot es p.frames.items f))
      ∙ ap (λ n. in_block inside b n (frames_of value word spot es frames.items) (with_stack [] now)) (sym (ap (λ fs. length es - length fs) pushed ∙ more-deep es p.frames.items f))
      ∙ ap (λ xs. in_block inside b (deeper es frames.items) (frames_of value word spot es frames.items) (with_stack xs now)) (sym (ap (stack_of value word) empty))
      ∙ ap (λ i. in_block i b (deeper es frames.items) (frames_of value word spot es frames.items) (with_stack (stack_of value word stack.items) now)) (sym same)
    where
      frame : frame_of value word spot es f ≡ record { inside = inside_of value word p.inside; at = spot p.at; more = part spot es (suc p.at) p.end; below = stack_of value word p.machine.stack.items; lowers = lowers; error = error; has_value = b.has_value; end = spot b.end }
      frame =
          ap (λ i. record { inside = inside_of value word i; at = spot f.at; more = part spot es (suc f.at) f.end; below = stack_of value word f.below.items; lowers = f.lowers; error = f.error; has_value = f.has_value; end = spot f.finish }) f1
          ∙ ap (λ i. record { inside = inside_of value word p.inside; at = spot i; more = part spot es (suc i) f.end; below = stack_of value word f.below.items; lowers = f.lowers; error = f.error; has_value = f.has_value; end = spot f.finish }) f2
          ∙ ap (λ i. record { inside = inside_of value word p.inside; at = spot p.at; more = part spot es (suc p.at) i; below = stack_of value word f.below.items; lowers = f.lowers; error = f.error; has_value = f.has_value; end = spot f.finish }) f3
          ∙ ap (λ i. record { inside = inside_of value word p.inside; at = spot p.at; more = part spot es (suc p.at) p.end; below = stack_of value word i.items; lowers = f.lowers; error = f.error; has_value = f.has_value; end = spot f.finish }) f4
          ∙ ap (λ i. record { inside = inside_of value word p.inside; at = spot p.at; more = part spot es (suc p.at) p.end; below = stack_of value word p.machine.stack.items; lowers = i; error = f.error; has_value = f.has_value; end = spot f.finish }) f5
          ∙ ap (λ i. record { inside = inside_of value word p.inside; at = spot p.at; more = part spot es (suc p.at) p.end; below = stack_of value word p.machine.stack.items; lowers = lowers; error = i; has_value = f.has_value; end = spot f.finish }) f6
          ∙ ap (λ i. record { inside = inside_of value word p.inside; at = spot p.at; more = part spot es (suc p.at) p.end; below = stack_of value word p.machine.stack.items; lowers = lowers; error = error; has_value = i; end = spot f.finish }) f7
          ∙ ap (λ i. record { inside = inside_of value word p.inside; at = spot p.at; more = part spot es (suc p.at) p.end; below = stack_of value word p.machine.stack.items; lowers = lowers; error = error; has_value = b.has_value; end = spot i }) f8

  pub too-deep : (inside : machine.Inside V W) (lowers error : Bool) (b : machine.Block Numbered) (below : List (machine.Item V W)) → length es ≤ length p.frames.items →
      whole_behind D value word memory x es p (entering D value word memory x es p inside lowers error b below now) ≡ stuck_at (spot p.at)
  too-deep inside lowers error b below l =
      let none : length es - length p.frames.items ≡ 0 = omega arith in
      stuck-behind D value word memory x es p (entering D value word memory x es p inside lowers error b below now)
      (ap (λ n. goes_on (machine.run_block (λ e. e.1) (λ e. e.0) D x.side (runs_in D value word memory x es n) inside b now) (leaves D lowers error below)) none)

  -- the innermost block, or the trace, is over
  pub block-over : (f : declared_frame.Frame pv pw) (frames : Vec (declared_frame.Frame pv pw)) → p.frames.items ≡ frames.items ++ f ∷ [] → whole_with D value word memory x es p (went now) ≡ leaving D value word memory x es (record p { frames = frames }) f
  block-over f frames e =
      ap (λ fs. resume (λ e. e.1) (λ e. e.0) D x.side (deeper es fs) (frames_of value word spot es fs) (went now)) e
      ∙ ap (λ n. resume (λ e. e.1) (λ e. e.0) D x.side n (frames_of value word spot es (frames.items ++ f ∷ [])) (went now)) (more-deep es frames.items f)
      ∙ ap (λ fs. resume (λ e. e.1) (λ e. e.0) D x.side (length es - suc (length frames.items)) fs (went now)) (frames-pushed value word spot es frames.items f)

  -- what a block leaves
  abbrev left_tried : Spot → Option (Option (machine.Item V W)) → StateIn x → Tried Spot (Option (machine.Item V W) × StateIn x)
  left_tried q None s = stuck_at q
  left_tried q (Some y) s = went (y, s)

  left-is : (q : Spot) (v : Bool) (xs : List (machine.Item V W)) (s : StateIn x) → left_over q v xs s ≡ left_tried q (left_item v xs) s
  left-is q true [] s = refl
  left-is q true (y ∷ []) s = refl
  left-is q true (y ∷ z ∷ ys) s = refl
  left-is q false [] s = refl
  left-is q false (y ∷ ys) s = refl

  leaves-is : (lowers e : Bool) (y : Option (machine.Item V W)) (below : List (machine.Item V W)) (s : StateIn x) → leaves {P = Spot} D lowers e below (y, s) ≡ on_stack D s (left_row D lowers e y below)
  leaves-is true e y below s = as_word (block_word D e y)
    where
      as_word : (o : Option W) → if_found {P = Spot} o (λ w. went (with_stack (word_item w ∷ below) s)) ≡ on_stack D s (pushed_word o below)
      as_word None = refl
      as_word (Some w) = refl
  leaves-is false e y below s = result (lifted_payload y)
    where
      result : (o : Option (Option V)) → if_found {P = Spot} o (λ p. went (with_stack (plain_item (D.result e p) ∷ below) s)) ≡ on_stack D s (pushed_value (result_with D e o) below)
      result None = refl
      result (Some p) = refl

  pub leaves-wrong : (f : declared_frame.Frame pv pw) → left_item f.has_value (stack_of value word p.machine.stack.items) ≡ None → leaving D value word memory x es p f ≡ stuck_at (spot f.finish)
  leaves-wrong f e =
      ap (λ t. resume (λ e. e.1) (λ e. e.0) D x.side (suc (length es - suc (length p.frames.items))) (frames_of value word spot es p.frames.items)
      (behind (λ e. e.1) (λ e. e.0) D x.side (suc (length es - suc (length p.frames.items))) (inside_of value word f.inside) (spot f.at) (part spot es (suc f.at) f.end) (goes_on t (leaves D f.lowers f.error (stack_of value word f.below.items)))))
      (left-is (spot f.finish) f.has_value (stack_of value word p.machine.stack.items) now ∙ ap (λ o. left_tried (spot f.finish) o now) e)
      ∙ resume_stuck (λ (e : Numbered). e.1) (λ (e : Numbered). e.0) D x.side (suc (length es - suc (length p.frames.items))) (frames_of value word spot es p.frames.items) (spot f.finish)

  pub leaves-block : (f : declared_frame.Frame pv pw) (in' : declared_inside.Inside pv pw) (y : Option (machine.Item V W)) (below stack : Vec (declared_item.Item pv pw)) (t : Bool) → in' ≡ f.inside → below ≡ f.below → suc (length p.frames.items) ≤ length es → left_item f.has_value (stack_of value word p.machine.stack.items) ≡ Some y →
      when t (Some (stack_of value word stack.items)) ≡ left_row D f.lowers f.error y (stack_of value word below.items) →
      leaving D value word memory x es p f ≡ whole_behind D value word memory x es (record p { machine = record p.machine { stack = stack }; inside = in'; at = f.at; end = f.end }) (tried_if t (with_stack (stack_of value word stack.items) now))
  leaves-block f in' y below stack t same under l e row =
      let one : suc (length es - suc (length p.frames.items)) ≡ length es - length p.frames.items = omega arith in
      ap (λ t. resume (λ e. e.1) (λ e. e.0) D x.side (suc (length es - suc (length p.frames.items))) (frames_of value word spot es p.frames.items)
      (behind (λ e. e.1) (λ e. e.0) D x.side (suc (length es - suc (length p.frames.items))) (inside_of value word f.inside) (spot f.at) (part spot es (suc f.at) f.end) t))
      (ap (λ t. goes_on t (leaves D f.lowers f.error (stack_of value word f.below.items))) (left-is (spot f.finish) f.has_value (stack_of value word p.machine.stack.items) now ∙ ap (λ o. left_tried (spot f.finish) o now) e)
      ∙ leaves-is f.lowers f.error y (stack_of value word f.below.items) now ∙ went-stack D now t (stack_of value word stack.items) (left_row D f.lowers f.error y (stack_of value word f.below.items)) (row ∙ ap (λ b. left_row D f.lowers f.error y (stack_of value word b.items)) under))
      ∙ ap (λ n. resume (λ e. e.1) (λ e. e.0) D x.side n (frames_of value word spot es p.frames.items)
      (behind (λ e. e.1) (λ e. e.0) D x.side n (inside_of value word f.inside) (spot f.at) (part spot es (suc f.at) f.end) (tried_if t (with_stack (stack_of value word stack.items) now)))) one
      ∙ ap (λ i. whole_behind D value word memory x es (record p { machine = record p.machine { stack = stack }; inside = i; at = f.at; end = f.end }) (tried_if t (with_stack (stack_of value word stack.items) now))) (sym same)

  -- what a step that runs a block takes off before
  pub no-cases : (ok err : Option Tree) → x.side.has_cases ok err ≡ false → whole_at D value word memory x es p (result_lower ok err) ≡ stuck_at (spot p.at)
  no-cases ok err h = stuck-behind D value word memory x es p _ (ap (λ b. only b (top_value now.stack (λ v t rest. lowering_by D value word memory x es p ok err v rest now))) h)

  no-symbol-on : (k : V → List (machine.Item V W) → Tried Spot (StateIn x)) (xs : List (machine.Item V W)) → top_value_of xs ≡ None → top_value {P = Spot} xs (λ v t rest. k v rest) ≡ no_rule
  no-symbol-on k [] e = refl
  no-symbol-on k (word_item a ∷ xs) e = refl
  no-symbol-on k (value_item v t ∷ xs) e = absurd (none_some (sym e))

  symbol-on : (k : V → List (machine.Item V W) → Tried Spot (StateIn x)) (xs : List (machine.Item V W)) (v : V) (rest : List (machine.Item V W)) → top_value_of xs ≡ Some (v, rest) → top_value {P = Spot} xs (λ v t rest. k v rest) ≡ k v rest
  symbol-on k [] v rest e = absurd (none_some e)
  symbol-on k (word_item a ∷ xs) v rest e = absurd (none_some e)
  symbol-on k (value_item u t ∷ xs) v rest e = ap (λ q. k q.0 q.1) (some_same e)

  no-word-on : (k : W → List (machine.Item V W) → Tried Spot (StateIn x)) (xs : List (machine.Item V W)) → top_word_of xs ≡ None → top_word {P = Spot} xs k ≡ no_rule
  no-word-on k [] e = refl
  no-word-on k (word_item a ∷ xs) e = absurd (none_some (sym e))
  no-word-on k (value_item v t ∷ xs) e = refl

  word-on : (k : W → List (machine.Item V W) → Tried Spot (StateIn x)) (xs : List (machine.Item V W)) (a : W) (rest : List (machine.Item V W)) → top_word_of xs ≡ Some (a, rest) → top_word {P = Spot} xs k ≡ k a rest
  word-on k [] a rest e = absurd (none_some e)
  word-on k (word_item b ∷ xs) a rest e = ap (λ q. k q.0 q.1) (some_same e)
  word-on k (value_item v t ∷ xs) a rest e = absurd (none_some e)

  pub no-symbol : (ok err : Option Tree) → x.side.has_cases ok err ≡ true → top_value_of now.stack ≡ None → whole_at D value word memory x es p (result_lower ok err) ≡ stuck_at (spot p.at)
  no-symbol ok err h e = stuck-behind D value word memory x es p _ (ap (λ b. only b (top_value now.stack (λ v t rest. lowering_by D value word memory x es p ok err v rest now))) h ∙ no-symbol-on (λ v rest. lowering_by D value word memory x es p ok err v rest now) now.stack e)

  pub lowers-symbol : (ok err : Option Tree) (v : V) (stack : Vec (declared_item.Item pv pw)) → x.side.has_cases ok err ≡ true → top_value_of now.stack ≡ Some (v, stack_of value word stack.items) →
      whole_at D value word memory x es p (result_lower ok err) ≡ whole_behind D value word memory x es p (lowering_by D value word memory x es p ok err v (stack_of value word stack.items) now)
  lowers-symbol ok err v stack h e = ap (whole_behind D value word memory x es p)
      (ap (λ b. only b (top_value now.stack (λ v t rest. lowering_by D value word memory x es p ok err v rest now))) h ∙ symbol-on (λ v rest. lowering_by D value word memory x es p ok err v rest now) now.stack v (stack_of value word stack.items) e)

  pub no-word : top_word_of now.stack ≡ None → whole_at D value word memory x es p result_lift ≡ stuck_at (spot p.at)
  no-word e = stuck-behind D value word memory x es p _ (no-word-on (λ a rest. lifting_by D value word memory x es p a rest now) now.stack e)

  pub lifts-word : (a : W) (stack : Vec (declared_item.Item pv pw)) → top_word_of now.stack ≡ Some (a, stack_of value word stack.items) → whole_at D value word memory x es p result_lift ≡ whole_behind D value word memory x es p (lifting_by D value word memory x es p a (stack_of value word stack.items) now)
  lifts-word a stack e = ap (whole_behind D value word memory x es p) (word-on (λ a rest. lifting_by D value word memory x es p a rest now) now.stack a (stack_of value word stack.items) e)

  -- the two blocks set aside last
  two-of : (bs : List declared_block.Block) (a b : declared_block.Block) (all : List declared_block.Block) → all ≡ (bs ++ a ∷ []) ++ b ∷ [] →
      (f : machine.Block Numbered → machine.Block Numbered → List (machine.Block Numbered) → Tried Spot (StateIn x)) →
      two_blocks (map (block_view spot es) (reverse all)) f ≡ f (block_view spot es a) (block_view spot es b) (map (block_view spot es) (reverse bs))
  two-of bs a b all e f =
      ap (λ all. two_blocks (map (block_view spot es) (reverse all)) f) e
      ∙ ap (λ all. two_blocks (map (block_view spot es) all) f) (reverse-append (bs ++ a ∷ []) (b ∷ []) ∙ ap (λ l. b ∷ l) (reverse-append bs (a ∷ [])))

  two-none : (all : List declared_block.Block) → length all < 2 → (f : machine.Block Numbered → machine.Block Numbered → List (machine.Block Numbered) → Tried Spot (StateIn x)) → two_blocks (map (block_view spot es) (reverse all)) f ≡ no_rule
  two-none [] l f = refl
  two-none (b ∷ []) l f = refl
  two-none (b ∷ a ∷ all) l f = absurd (omega arith)

  -- a step that takes the blocks, and has no rule where there aren't two
  pub no-two : (k : machine.Block Numbered → machine.Block Numbered → List (machine.Block Numbered) → Tried Spot (StateIn x)) → length p.machine.blocks.items < 2 →
      whole_behind D value word memory x es p (two_blocks now.blocks k) ≡ stuck_at (spot p.at)
  no-two k l = stuck-behind D value word memory x es p (two_blocks now.blocks k) (two-none p.machine.blocks.items l k)

  -- which case the value has, and which the word stands for
  module _ (bs : Vec declared_block.Block) (a b : declared_block.Block) (taken : p.machine.blocks.items ≡ (bs.items ++ a ∷ []) ++ b ∷ []) where
    abbrev q : declared_progress.Progress pv pw pm
    q = record p { machine = record p.machine { blocks = bs } }

    pub no-case : (ok err : Option Tree) (v : V) → D.picks ok err v ≡ None → whole_behind D value word memory x es p (lowering_by D value word memory x es p ok err v (stack_of value word p.machine.stack.items) now) ≡ stuck_at (spot p.at)
    no-case ok err v e = stuck-behind D value word memory x es p _ (two-of bs.items a b p.machine.blocks.items taken _
        ∙ ap (λ o. if_found o (λ c. entering D value word memory x es p (in_lower (payload_item c.1)) true c.0 (cond c.0 (block_view spot es b) (block_view spot es a)) (stack_of value word p.machine.stack.items) (state_in value word memory x es q.machine))) e)

    pub lowers-case : (ok err : Option Tree) (v : V) (c : Bool × Option (V × Option Tree)) (chosen : declared_block.Block) (inside : machine.Inside V W) → D.picks ok err v ≡ Some c → chosen ≡ cond c.0 b a → inside ≡ in_lower (payload_item c.1) →
        whole_behind D value word memory x es p (lowering_by D value word memory x es p ok err v (stack_of value word p.machine.stack.items) now) ≡ whole_behind D value word memory x es q (entering D value word memory x es q inside true c.0 (block_view spot es chosen) (stack_of value word p.machine.stack.items) (state_in value word memory x es q.machine))
    lowers-case ok err v c chosen inside e is within = ap (whole_behind D value word memory x es p) (two-of bs.items a b p.machine.blocks.items taken _
        ∙ ap (λ o. if_found o (λ c. entering D value word memory x es p (in_lower (payload_item c.1)) true c.0 (cond c.0 (block_view spot es b) (block_view spot es a)) (stack_of value word p.machine.stack.items) (state_in value word memory x es q.machine))) e
        ∙ ap (λ i. entering D value word memory x es p i true c.0 (cond c.0 (block_view spot es b) (block_view spot es a)) (stack_of value word p.machine.stack.items) (state_in value word memory x es q.machine)) (sym within)
        ∙ ap (λ bl. entering D value word memory x es p inside true c.0 bl (stack_of value word p.machine.stack.items) (state_in value word memory x es q.machine)) (sym (ap (block_view spot es) is ∙ either (block_view spot es) c.0 b a)))

    pub no-choice : (y : W) → D.chooses y ≡ None → whole_behind D value word memory x es p (lifting_by D value word memory x es p y (stack_of value word p.machine.stack.items) now) ≡ stuck_at (spot p.at)
    no-choice y e = stuck-behind D value word memory x es p _ (two-of bs.items a b p.machine.blocks.items taken _
        ∙ ap (λ o. if_found o (λ e. entering D value word memory x es p in_lift false e (cond e (block_view spot es b) (block_view spot es a)) (stack_of value word p.machine.stack.items) (state_in value word memory x es q.machine))) e)

    pub lifts-case : (y : W) (c : Bool) (chosen : declared_block.Block) → D.chooses y ≡ Some c → chosen ≡ cond c b a →
        whole_behind D value word memory x es p (lifting_by D value word memory x es p y (stack_of value word p.machine.stack.items) now) ≡ whole_behind D value word memory x es q (entering D value word memory x es q in_lift false c (block_view spot es chosen) (stack_of value word p.machine.stack.items) (state_in value word memory x es q.machine))
    lifts-case y c chosen e is = ap (whole_behind D value word memory x es p) (two-of bs.items a b p.machine.blocks.items taken _
        ∙ ap (λ o. if_found o (λ e. entering D value word memory x es p in_lift false e (cond e (block_view spot es b) (block_view spot es a)) (stack_of value word p.machine.stack.items) (state_in value word memory x es q.machine))) e
        ∙ ap (λ bl. entering D value word memory x es p in_lift false c bl (stack_of value word p.machine.stack.items) (state_in value word memory x es q.machine)) (sym (ap (block_view spot es) is ∙ either (block_view spot es) c b a)))
