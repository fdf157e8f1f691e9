-- What is written of an answer, by how it was written: an output, what is told of a refusal, or nothing.
use Rattle.std.specs.Prelude.{◌≡◌, ◌==◌, ◌<◌, ◌≤◌, ◌⊎◌, ℕ, [], Option, None, Result, Ok, Err, if◌then◌else◌}
use Rattle.std.proofs.Common.{sym, subst, inl, inr, arith}
use Rattle.witx_adapt.specs.declared.adapted.Adapted.{Adapted}
use Rattle.witx_commands.specs.Runs.{Failed, IsUsage, IsWritten, SinkSeen, Took, TookFront}
use Rattle.witx_commands.specs.Texts.{IsRefused, status_of, text_of}
use Rattle.witx_commands.specs.declared.output.Output.{Output}
use Rattle.witx_commands.specs.declared.refusal.Refusal.{Refusal}
use Rattle.witx_commands.specs.declared.refusal.Stop.{Stop}
use Rattle.witx_commands.specs.declared.refusal.Stop.TheVariants as stop

0-or-4 : {Q : Type 0} (status : ℕ) → (status ≡ 0) ⊎ (status ≡ 4) → status ≡ 5 → Q
0-or-4 status (inl z) f = absurd (cc)
0-or-4 status (inr z) f = absurd (cc)

module _ (answer : Result Output Stop) (status : ℕ) (adapted : Option Adapted) (out err : SinkSeen) (out_kept err_kept : Type 0) where
  pub output-written : (o : Output) → answer ≡ Ok o → (status ≡ 0) ⊎ (status ≡ 4) → (status ≡ 0 → Took out o.text × Took err o.notes)
      → adapted ≡ (if status == 0 then o.adapted else None)
      → (status ≡ 4 → (Failed out × (TookFront out o.text × (o.text ≡ [] → ⊥)) × err_kept) ⊎ (Failed err × TookFront err o.notes × (o.notes ≡ [] → ⊥) × Took out o.text))
      → (o.notes ≡ [] → err_kept) → (out.before < out.now → status ≡ 4) → (err.before < err.now → status ≡ 4) → out.before ≤ out.now → err.before ≤ err.now
      → IsWritten answer status adapted out err out_kept err_kept
  output-written o is ended done kept unwritten untouched out_failed err_failed out_later err_later =
      subst (λ a. IsWritten a status adapted out err out_kept err_kept) (sym is) (record {
        wrote = record { ended = ended; done = done; kept = kept; unwritten = unwritten; untouched = untouched };
        out_failed = out_failed;
        err_failed = err_failed;
        no_memory = λ f. 0-or-4 status ended f;
        out_later = out_later;
        err_later = err_later;
      })

  pub refusal-written : (r : Refusal) → answer ≡ Err (stop.Refused r) → IsRefused (status_of r) status → (IsUsage r → (status ≡ 2) ⊎ (status ≡ 4))
      → (status ≡ status_of r → Took err (text_of r)) → (status ≡ 4 → Failed err × TookFront err (text_of r)) → adapted ≡ None → out_kept → out.now ≡ out.before
      → (status ≡ 5 → err_kept) → (err.before < err.now → status ≡ 4) → err.before ≤ err.now
      → IsWritten answer status adapted out err out_kept err_kept
  refusal-written r is ended usage told unwritten none untouched no_fault no_memory failed later =
      subst (λ a. IsWritten a status adapted out err out_kept err_kept) (sym is) (record {
        wrote = record { ended = ended; usage = usage; told = told; unwritten = unwritten; none = none; untouched = untouched };
        out_failed = λ l. absurd (omega (arith, no_fault, l));
        err_failed = failed;
        no_memory = λ f. (untouched, no_memory f);
        out_later = omega (arith, no_fault);
        err_later = later;
      })

  pub nothing-written : answer ≡ Err stop.OutOfMemory → status ≡ 5 → adapted ≡ None → out_kept → err_kept → out.now ≡ out.before → err.now ≡ err.before
      → IsWritten answer status adapted out err out_kept err_kept
  nothing-written is five none out_untouched err_untouched out_same err_same =
      subst (λ a. IsWritten a status adapted out err out_kept err_kept) (sym is) (record {
        wrote = record { ended = five; none = none; out_untouched = out_untouched; err_untouched = err_untouched };
        out_failed = λ l. absurd (omega (arith, out_same, l));
        err_failed = λ l. absurd (omega (arith, err_same, l));
        no_memory = λ f. (out_untouched, err_untouched);
        out_later = omega (arith, out_same);
        err_later = omega (arith, err_same);
      })
