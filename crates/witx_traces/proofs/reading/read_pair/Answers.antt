use Rattle.std.proofs.Common.{◌≡◌, ◌∷◌, ℕ, List, map, subst, rules}
use Rattle.witx_ast.specs.Definitions.{definition_tree}
use Rattle.witx_instructions.specs.Views.{called, event_of}
use Rattle.witx_traces.specs.declared.reading.Stopped.{Stopped}
use Rattle.witx_traces.specs.Refusals.{TellsOfStop}
use Rattle.witx_traces.specs.Passages.{BeginPlainly, Stretch, StopsAt, passage_of, side_of, stretches}
use Rattle.witx_traces.specs.ReadTypes.{known_in}
use Rattle.witx_traces.specs.Traces.{IsSayable, known_of}
use Rattle.std.specs.List.{AllByRecursion}
use Rattle.witx_traces.proofs.ReadSteps.{handed-on, pair-behind, pair-callee, pair-caller}
use Rattle.witx_traces.proofs.reading.read_pair.Goals as goal

pub returns-in_err-caller-clause-stopped : goal.returns-in_err-caller-clause-stopped
returns-in_err-caller-clause-stopped c = λ ps last plain.
    let types : known_in c.in_ok-types.types ≡ known_of (map definition_tree c.args.document.now.definitions) (called c.args.passage.now.entry.now.func.value) = rw c.deref.ensures at c.in_ok-types.ensures in
    let told : (e : Stopped) → ((ss : List Stretch) (last : List ℕ) → BeginPlainly ss last → TellsOfStop (StopsAt (side_of c.as_str.result.now (known_in c.in_ok-types.types) ∷ ss) last c.args.text.now) e)
    → TellsOfStop (StopsAt (stretches (map definition_tree c.args.document.now.definitions) (passage_of c.args.passage.now ∷ ps)) last c.args.text.now) e =
    λ e h. pair-caller (map definition_tree c.args.document.now.definitions) (passage_of c.args.passage.now) (known_in c.in_ok-types.types) c.args.text.now e types (rw c.as_str.ensures at h) ps last plain in
    search (rules, told)

pub returns-in_err-callee-clause-stopped : goal.returns-in_err-callee-clause-stopped
returns-in_err-callee-clause-stopped c = λ ps last plain.
    let types : known_in c.in_ok-types.types ≡ known_of (map definition_tree c.args.document.now.definitions) (called c.args.passage.now.entry.now.func.value) = rw c.deref.ensures at c.in_ok-types.ensures in
    handed-on (StopsAt (stretches (map definition_tree c.args.document.now.definitions) (passage_of c.args.passage.now ∷ ps)) last c.args.text.now) c.from_residual-in_err-callee.result c.in_err-callee.field-0.0 c.from_residual-in_err-callee.ensures.1
    (pair-callee (map definition_tree c.args.document.now.definitions) (passage_of c.args.passage.now) (known_in c.in_ok-types.types) c.args.text.now c.in_ok-caller.rest.now c.in_err-callee.field-0.0 types
    (rw c.as_str.ensures at c.in_ok-caller.ensures.behind) c.in_err-callee.ensures.stopped ps last plain)

pub returns-clause-lines : goal.returns-clause-lines
returns-clause-lines c =
    let types : known_in c.in_ok-types.types ≡ known_of (map definition_tree c.args.document.now.definitions) (called c.args.passage.now.entry.now.func.value) = rw c.deref.ensures at c.in_ok-types.ensures in (
      subst (λ z. AllByRecursion (IsSayable z) (map event_of c.in_ok-caller.caller)) types c.in_ok-caller.ensures.lines,
      subst (λ z. AllByRecursion (IsSayable z) (map event_of c.in_ok-callee.callee)) types c.in_ok-callee.ensures.lines,
    )

pub returns-clause-behind : goal.returns-clause-behind
returns-clause-behind c =
    let types : known_in c.in_ok-types.types ≡ known_of (map definition_tree c.args.document.now.definitions) (called c.args.passage.now.entry.now.func.value) = rw c.deref.ensures at c.in_ok-types.ensures in
    pair-behind (map definition_tree c.args.document.now.definitions) (passage_of c.args.passage.now) (known_in c.in_ok-types.types) c.args.text.now c.in_ok-caller.rest.now c.in_ok-callee.rest.now types
    (rw c.as_str.ensures at c.in_ok-caller.ensures.behind) c.in_ok-callee.ensures.behind
