-- What `invoke` answers, from what the run with the stated addresses comes to.
use Rattle.std.proofs.Common.{◌≡◌, ℕ, ◌+◌, ◌^◌, ◌<◌, ◌≤◌, Bool, true, false, refl, sym, ap, ◌∙◌, arith, List, [], length, Option, Some, option_to_list, Result, Ok, Err, nat_lt, inl, inr}
use Rattle.std.proofs.lemmas.List.{length-map}
use Rattle.std.specs.Prelude.{IfErr, IfOk, IsFalse, map}
use Rattle.witx_ast.proofs.Decided.{decides-lt}
use Rattle.witx_ast.specs.Values.{Value}
use Rattle.witx_machine.specs.Words.{Word}
use Rattle.witx_machine.specs.Events.{Event}
use Rattle.witx_machine.specs.Faithful.{zero_error}
use Rattle.witx_machine.specs.Functions.{Function}
use Rattle.witx_machine.specs.Machine.{Tried, went, no_rule, stuck_at}
use Rattle.witx_machine.specs.Positions.{Spot, spotted_run}
use Rattle.witx_machine.specs.Run.{Outcome}
use Rattle.witx_instructions.specs.Views.{event_of}
use Rattle.witx_instructions.specs.declared.event.Event as declared_event
use Rattle.witx_call.specs.CallSeen.{IsSeen, seen_of}
use Rattle.witx_invoke.specs.Answering.{EndsSeen, HasNotEnded, HasNoRoom, stated_run}
use Rattle.witx_invoke.specs.Excepting.{is_excepted}
use Rattle.witx_invoke.specs.Invoking.{CanRun, IsAnswer, Refuses}
use Rattle.witx_call.specs.Room.{Room, no_bytes}
use Rattle.witx_invoke.specs.Placing.{placing}
use Rattle.witx_invoke.specs.declared.error.InvokeError.{InvokeError}
use Rattle.witx_call.specs.declared.call_seen.Invoked.{Invoked}
use Rattle.witx_invoke.proofs.ExceptLemmas.{excepted-reply}
use Rattle.witx_invoke.proofs.PlacedRuns.{ends-in, no-run, has-room}

-- at most 2^30 events
few : (n : ℕ) → nat_lt (2 ^ 30) n ≡ false → n ≤ 2 ^ 30
few n e = by (nat_lt (2 ^ 30) n) refl
  where
    clash : true ≡ false → ⊥
    clash e = cc

    by : (b : Bool) → nat_lt (2 ^ 30) n ≡ b → n ≤ 2 ^ 30
    by true h = absurd (clash (sym h ∙ e))
    by false h = not_above (λ (l : 2 ^ 30 < n). clash (sym ((decides-lt (2 ^ 30) n).1 l) ∙ e))
      where
        not_above : (2 ^ 30 < n → ⊥) → n ≤ 2 ^ 30
        not_above f = omega (arith, f)

module _ (m : List ℕ) (f : Function) (caller callee : List Event) (arguments : List Value) (reply : Option Value) (can : CanRun m f caller callee arguments reply) where
  pub zero-refused : (b : Bool) → b ≡ is_excepted f.abi reply → b ≡ true → Refuses m f caller callee arguments reply InvokeError.ZeroError
  zero-refused b e h = sym (excepted-reply f reply can.reply_fits) ∙ sym e ∙ h

  accepted : (b : Bool) → b ≡ is_excepted f.abi reply → b ≡ false → IsFalse (zero_error f reply)
  accepted b e h = sym (excepted-reply f reply can.reply_fits) ∙ sym e ∙ h

  pub many-refused : (b : Bool) → b ≡ is_excepted f.abi reply → b ≡ false → nat_lt (2 ^ 30) (length caller + length callee) ≡ true → Refuses m f caller callee arguments reply InvokeError.NoRoom
  many-refused b e h l = (accepted b e h, inl ((decides-lt (2 ^ 30) (length caller + length callee)).0 l))

  module _ (b : Bool) (e : b ≡ is_excepted f.abi reply) (h : b ≡ false) (l : nat_lt (2 ^ 30) (length caller + length callee) ≡ false)
      (t : Tried Spot (Outcome Value Word Room)) (first : Room) (begun : t ≡ spotted_run placing m f caller callee arguments reply first) (new : first ≡ record { bytes = no_bytes; taken = [] }) where
    run : t ≡ stated_run m f caller callee arguments reply
    run = begun ∙ ap (spotted_run placing m f caller callee arguments reply) new

    ended : (q : Outcome Value Word Room) (i : Invoked) → t ≡ went q → IsSeen q (seen_of i) → IsAnswer m f caller callee arguments reply i
    ended q i g s =
        let ends = ends-in m f caller callee arguments reply can.faithful can.arguments_fit can.reply_fits (accepted b e h) (few (length caller + length callee) l) q (sym run ∙ g) in
        let returned = s.returned reply ends.back in
        let comes = ends.comes_to (seen_of i) s.pass s.notes s.back (ap (λ v. Some (option_to_list v)) returned ∙ sym ends.back) s.taken (λ at. ap (λ bytes. bytes at) s.bytes) in
        record {
          comes_to = comes;
          notes = s.notes ∙ ends.noted;
          returned = returned;
          accepted = accepted b e h;
          room = has-room m f caller callee arguments reply (few (length caller + length callee) l) (seen_of i) comes;
        }

    answered : (i : Invoked) → EndsSeen t i → IsAnswer m f caller callee arguments reply i
    answered i s = by t refl s
      where
        by : (u : Tried Spot (Outcome Value Word Room)) → t ≡ u → EndsSeen u i → IsAnswer m f caller callee arguments reply i
        by (went q) g s = ended q i g s
        by no_rule g s = absurd s
        by (stuck_at p) g s = absurd s

    not-ended : (q : Outcome Value Word Room) → HasNotEnded t → stated_run m f caller callee arguments reply ≡ went q → ⊥
    not-ended q s g = by t (run ∙ g) s
      where
        by : (u : Tried Spot (Outcome Value Word Room)) → u ≡ went q → HasNotEnded u → ⊥
        by (went p) g s = s
        by no_rule g s = cc
        by (stuck_at p) g s = cc

    stuck-refused : (x : InvokeError) → HasNoRoom t x → Refuses m f caller callee arguments reply x
    stuck-refused InvokeError.ZeroError s = absurd s
    stuck-refused InvokeError.NoRoom s =
        (accepted b e h, inr (λ more o runs. no-run m f caller callee arguments reply can.writable can.arguments_fit can.reply_fits (λ q g. not-ended q s g) more o runs))
    stuck-refused InvokeError.OutOfMemory s = tt

    pub answers : (r : Result Invoked InvokeError) → IfOk r (EndsSeen t) → IfOk r (IsAnswer m f caller callee arguments reply)
    answers (Ok i) s = answered i s
    answers (Err x) s = s

    pub refusals : (r : Result Invoked InvokeError) → IfErr r (HasNoRoom t) → IfErr r (Refuses m f caller callee arguments reply)
    refusals (Ok i) s = s
    refusals (Err x) s = stuck-refused x s

-- the events are counted in both traces together
pub counted : (caller callee : List declared_event.Event) (b : Bool) (n k : ℕ) → b ≡ nat_lt (2 ^ 30) (n + k) → n ≡ length caller → k ≡ length callee
    → nat_lt (2 ^ 30) (length (map event_of caller) + length (map event_of callee)) ≡ b
counted caller callee b n k e p q =
    ap (λ x. nat_lt (2 ^ 30) (x + length (map event_of callee))) (length-map caller event_of ∙ sym p)
    ∙ ap (λ x. nat_lt (2 ^ 30) (n + x)) (length-map callee event_of ∙ sym q) ∙ sym e
