-- The first doubt, found world by world, and what is said of the verdict.
use Rattle.std.proofs.Common.{◌≡◌, ℕ, zero, suc, ◌+◌, ◌<◌, ◌≤◌, refl, sym, ap, ◌∙◌, subst, List, [], ◌∷◌, ◌++◌, drop, map, length, get_or, Bool, true, false, Option, Some, None}
use Rattle.std.specs.Prelude.{IfOk, Result, Ok, Err, nat_le}
use Rattle.std.proofs.lemmas.List.{drop_more, drop_all, length-map}
use Rattle.witx_ast.specs.declared.function.Abi.{Abi}
use Rattle.witx_ast.specs.Tree.{Tree, Arms, arm_list}
use Rattle.witx_machine.specs.declared.surface.Place.{Place}
use Rattle.witx_machine.specs.Events.{Event}
use Rattle.witx_machine.specs.Faithful.{Faithful}
use Rattle.witx_machine.specs.Functions.{Function, result_cases}
use Rattle.witx_machine.specs.Lowerable.{unlowerable}
use Rattle.witx_machine.specs.Machine.{Tried}
use Rattle.witx_machine.specs.Positions.{Spot, spotted_run}
use Rattle.witx_machine.specs.Run.{Outcome}
use Rattle.witx_instructions.specs.Views.{event_of}
use Rattle.witx_instructions.specs.declared.event.Event as declared_event
use Rattle.witx_instructions.proofs.Sides.{results-can}
use Rattle.witx_symbols.specs.declared.surface.Doubt.{Doubt}
use Rattle.witx_symbols.specs.declared.surface.Verdict.{Verdict}
use Rattle.witx_symbols.specs.declared.world.World as declared_world
use Rattle.witx_symbols.specs.Adapted.{AdaptedGetsYes}
use Rattle.witx_symbols.specs.Symbols.{Symbol, SymbolWord}
use Rattle.witx_symbols.specs.Symbolic.{SymbolWorld, known_world, unknown_world, world_if, worlds_by, worlds_of, worlds, reply_from, SymbolMemory, symbols}
use Rattle.witx_symbols.specs.Verdicts.{arguments_from, judged, doubt_in, first_doubt, misfit, doubt, verdict_of, verdict}
use Rattle.witx_symbols.specs.WordViews.{option_of, world_of}
use Rattle.witx_symbols.specs.WorldViews.{AreOf, worlds_read}
use Rattle.witx_symbols.proofs.Sound.{yes_is_faithful}
use Rattle.witx_symbols.proofs.AdaptedLemmas.{adapted_get_yes}

-- each world of a function has the function's reply
are-if : (r : Option Symbol) (b : Bool) (w : SymbolWorld) → w.whole ≡ r → AreOf r (world_if b w)
are-if r true w e = (e, tt)
are-if r false w e = tt

are-both : (r : Option Symbol) (vs ws : List SymbolWorld) → AreOf r vs → AreOf r ws → AreOf r (vs ++ ws)
are-both r [] ws a b = b
are-both r (v ∷ vs) ws a b = (a.0, are-both r vs ws a.1 b)

worlds-by-are : (abi : Abi) (r : Option Symbol) (cs : Option Arms) → AreOf r (worlds_by abi r cs)
worlds-by-are abi r None = (refl, tt)
worlds-by-are abi r (Some cs) =
    let second = known_world abi r cs true in
    let later = unknown_world abi r in
    let two = nat_le 2 (length (arm_list cs)) in
    let three = nat_le 3 (length (arm_list cs)) in
    (refl, are-both r (world_if two second) (world_if three later) (are-if r two second refl) (are-if r three later refl))

worlds-are : (abi : Abi) (ts : List Tree) → AreOf (reply_from ts) (worlds_of abi ts)
worlds-are abi [] = worlds-by-are abi None None
worlds-are abi (t ∷ ts) = worlds-by-are abi (reply_from (t ∷ ts)) (result_cases t)

pub read-are : (f : Function) (ws : List declared_world.World) → worlds_read ws ≡ worlds f → AreOf (reply_from f.results) (worlds_read ws)
read-are f ws e = subst (AreOf (reply_from f.results)) (sym e) (worlds-are f.abi f.results)

worlds-drop : (ws : List declared_world.World) (i : ℕ) (w : declared_world.World) → i < length ws → w ≡ get_or ws i w → worlds_read (drop i ws) ≡ world_of w ∷ worlds_read (drop (i + 1) ws)
worlds-drop ws i w l e = rw (drop_more ws i w l, ← e) refl

pub one-is-of : (r : Option Symbol) (ws : List declared_world.World) (i : ℕ) (w : declared_world.World) → i < length ws → w ≡ get_or ws i w → AreOf r (worlds_read ws) → option_of w.whole ≡ r
one-is-of r ws i w l e a = (subst (AreOf r) (worlds-drop ws i w l e) (later ws i a)).0
  where
    later : (ws : List declared_world.World) (i : ℕ) → AreOf r (worlds_read ws) → AreOf r (worlds_read (drop i ws))
    later ws zero a = a
    later [] (suc i) a = tt
    later (w ∷ ws) (suc i) a = later ws i a.1

-- what is judged of the run is the doubt in the world
pub doubt-judged : {Error : Type 0} (w : SymbolWorld) (m : List ℕ) (f : Function) (cs es : List declared_event.Event) (arguments : List Symbol) (o : Result (Option Doubt) Error) (run : Tried Spot (Outcome Symbol SymbolWord SymbolMemory)) →
    arguments ≡ arguments_from 0 f.params → w.whole ≡ reply_from f.results →
    run ≡ spotted_run (symbols w) m f (map event_of cs) (map event_of es) arguments w.whole (record { made = []; left = length cs + length es }) →
    IfOk o (λ d. d ≡ judged w f arguments w.whole run) → IfOk o (λ d. d ≡ doubt_in w m f (map event_of cs) (map event_of es))
doubt-judged {Error = Error} w m f cs es arguments o run a r h j = go o j
  where
    given : List Symbol → Option Symbol → ℕ → Option Doubt
    given arguments whole left = judged w f arguments whole (spotted_run (symbols w) m f (map event_of cs) (map event_of es) arguments whole (record { made = []; left = left }))

    same : judged w f arguments w.whole run ≡ doubt_in w m f (map event_of cs) (map event_of es)
    same =
        ap (judged w f arguments w.whole) h
        ∙ ap (λ a. given a w.whole (length cs + length es)) a
        ∙ ap (λ r. given (arguments_from 0 f.params) r (length cs + length es)) r
        ∙ ap (λ n. given (arguments_from 0 f.params) (reply_from f.results) (n + length es)) (sym (length-map cs event_of))
        ∙ ap (λ n. given (arguments_from 0 f.params) (reply_from f.results) (length (map event_of cs) + n)) (sym (length-map es event_of))

    go : (o : Result (Option Doubt) Error) → IfOk o (λ d. d ≡ judged w f arguments w.whole run) → IfOk o (λ d. d ≡ doubt_in w m f (map event_of cs) (map event_of es))
    go (Ok d) j = j ∙ same
    go (Err x) j = j

-- the doubt in this world, in a later one, in none
module _ (m : List ℕ) (f : Function) (caller callee : List Event) where
  pub doubt-here : (ws : List declared_world.World) (i : ℕ) (w : declared_world.World) (d : Doubt) → i < length ws → w ≡ get_or ws i w → Some d ≡ doubt_in (world_of w) m f caller callee → first_doubt (worlds_read (drop i ws)) m f caller callee ≡ Some d
  doubt-here ws i w d l e h = rw (worlds-drop ws i w l e, ← h) refl

  pub doubt-later : (ws : List declared_world.World) (i : ℕ) (w : declared_world.World) → i < length ws → w ≡ get_or ws i w → None ≡ doubt_in (world_of w) m f caller callee → first_doubt (worlds_read (drop i ws)) m f caller callee ≡ first_doubt (worlds_read (drop (i + 1) ws)) m f caller callee
  doubt-later ws i w l e h = rw (worlds-drop ws i w l e, ← h) refl

  pub doubt-end : (ws : List declared_world.World) (i : ℕ) → length ws ≤ i → first_doubt (worlds_read (drop i ws)) m f caller callee ≡ None
  doubt-end ws i l = rw (drop_all i ws l) refl

  -- the function's own doubt comes first
  pub doubt-unlowerable : (p : Place) → Some p ≡ unlowerable f → Some (Doubt.Function p) ≡ doubt m f caller callee
  doubt-unlowerable p h = rw (← h) refl

  pub doubt-misfit : (p : Place) → None ≡ unlowerable f → Some p ≡ misfit f → Some (Doubt.Function p) ≡ doubt m f caller callee
  doubt-misfit p n h = rw (← n, ← h) refl

  pub doubt-run : (ws : List declared_world.World) (d : Option Doubt) → None ≡ unlowerable f → None ≡ misfit f → worlds_read ws ≡ worlds f → d ≡ first_doubt (worlds_read ws) m f caller callee → d ≡ doubt m f caller callee
  doubt-run ws d n h e g = g ∙ ap (λ ws. first_doubt ws m f caller callee) e ∙ rw (← n, ← h) refl

  -- no doubt is a yes
  pub verdict-no : (d : Doubt) → Some d ≡ doubt m f caller callee → Verdict.No d ≡ verdict m f caller callee
  verdict-no d h = ap verdict_of h

  pub verdict-yes : None ≡ doubt m f caller callee → Verdict.Yes ≡ verdict m f caller callee
  verdict-yes h = ap verdict_of h

  pub yes-faithful : None ≡ doubt m f caller callee → Verdict.Yes ≡ Verdict.Yes → Faithful m f caller callee
  yes-faithful h e = yes_is_faithful m f caller callee (sym h)

  pub adapted-yes : (v : Verdict) → v ≡ verdict m f caller callee → AdaptedGetsYes v m f caller callee
  adapted-yes v h ds fs c a e k d l hm hf hc he = h ∙ rw (← hm, ← hf, ← hc, ← he) (adapted_get_yes ds fs c a e k d l)

pub ruleset verify_rules = (results-can, read-are, one-is-of, doubt-here, doubt-later, doubt-end, doubt-unlowerable, doubt-misfit, doubt-run, verdict-no, verdict-yes, yes-faithful, adapted-yes)
