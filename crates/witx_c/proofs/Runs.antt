-- A run over sinks that fail only for want of memory, by what the program's top call says of it.
use Rattle.std.specs.Prelude.{◌≡◌, ℕ, List, [], Option, Some}
use Rattle.std.proofs.Common.{sym, ◌∙◌, subst, inr}
use Rattle.witx_bundle.specs.declared.error.BundleError.{BundleError}
use Rattle.witx_bundle.specs.declared.error.BundleError.TheVariants as bundle
use Rattle.witx_adapt.specs.declared.adapted.Adapted.{Adapted}
use Rattle.witx_commands.specs.Runs.{Cause, IsRun, IsTold, SinkSeen}
use Rattle.witx_commands.specs.Streams.{BrokeOff, SourceSeen}
use Rattle.witx_commands.specs.Texts.{status_of}
use Rattle.witx_commands.specs.declared.refusal.Refusal.{Refusal}
use Rattle.witx_commands.specs.declared.refusal.Refusal.TheVariants as refusal
use Rattle.witx_commands.proofs.Ending.{untouched-as}
use Rattle.witx_c.specs.Runs.{IsRunInMemory, run_over, source_over, wrote}
use Rattle.witx_c.proofs.Counts.{no-rise, none-rose}

-- a status 3 is told
told-three : (status : ℕ) → status ≡ 3 → IsTold status
told-three status e = (λ z. cc, λ f. cc, λ f. cc)

bundle-three : (b : BundleError) → status_of (refusal.Bundle b) ≡ 3 → ⊥
bundle-three bundle.TooLong e = cc
bundle-three (bundle.NotUtf8 at) e = cc
bundle-three (bundle.BeforeFirst at) e = cc
bundle-three bundle.OutOfMemory e = cc

-- and only where the reading broke off
cause-three : (words : List (List ℕ)) (source : SourceSeen) (r : Refusal) → (BrokeOff source → ⊥) → status_of r ≡ 3 → Cause (run_over words source) r → ⊥
cause-three words source (refusal.Usage known) none e c = cc
cause-three words source refusal.Source none e c = none c.1
cause-three words source (refusal.Bundle b) none e c = bundle-three b e
cause-three words source (refusal.Command report) none e c = cc

-- a sink, by what it had taken and how often it had failed before and after
abbrev pub sink : (before after : List ℕ) → (faults now : ℕ) → SinkSeen
sink before after faults now = record { taken = Some before; taken_after = Some after; before = faults; now = now }

-- a source, by what of its bytes was left and how often it had been asked, before and after
abbrev pub source_kept : (rest : List ℕ) (after : Option (List ℕ)) (asked asked_after : ℕ) → SourceSeen
source_kept rest after asked asked_after = record { left = Some rest; left_after = after; before = 0; now = 0; asked = asked; asked_after = asked_after }

module _ (words : List (List ℕ)) (input : List ℕ) (status : ℕ) (adapted : Option Adapted) (after : Option (List ℕ)) (asked : ℕ) (out err : List ℕ)
    (h : IsRun (run_over words (source_over input after asked)) status adapted (wrote out) (wrote err) (asked ≡ 0) (out ≡ []) (err ≡ []))
    (not4 : status ≡ 4 → ⊥) where
  -- the source never failed
  no-three : status ≡ 3 → ⊥
  no-three e =
      let d = h.told (told-three status e) in
      cause-three words (source_over input after asked) d.0 (λ b. no-rise b.0) (d.1 ∙ e) d.2

  in-memory : IsRunInMemory words input status out err
  in-memory = inr (record { after = after; asked = asked; adapted = adapted; run = h; no_other = (no-three, not4) })

-- with what the devices were when they were made, and what was made of the sinks
pub run-kept : (words : List (List ℕ)) (input : List ℕ) (status : ℕ) (adapted : Option Adapted) (rest : List ℕ) (after : Option (List ℕ)) (asked asked_after : ℕ)
    (out_before out err_before err : List ℕ) (out_faults out_now err_faults err_now : ℕ) (source_untouched out_kept err_kept : Type 0) (made_out made_err : List ℕ)
    → rest ≡ input → asked ≡ 0 → out_before ≡ [] → err_before ≡ [] → out_faults ≡ 0 → err_faults ≡ 0
    → IsRun (run_over words (source_kept rest after asked asked_after)) status adapted (sink out_before out out_faults out_now) (sink err_before err err_faults err_now)
    source_untouched out_kept err_kept
    → (source_untouched → asked_after ≡ asked) → (out_kept → out ≡ out_before) → (err_kept → err ≡ err_before) → (status ≡ 4 → ⊥) → made_out ≡ out → made_err ≡ err
    → IsRunInMemory words input status made_out made_err
run-kept words input status adapted rest after asked asked_after out_before out err_before err out_faults out_now err_faults err_now source_untouched out_kept err_kept made_out made_err r a o e fo fe h sk ok ek t mo me =
    let h0 = subst (λ l. IsRun (run_over words (source_kept l after asked asked_after)) status adapted (sink out_before out out_faults out_now) (sink err_before err err_faults err_now) source_untouched out_kept err_kept) r h in
    let h1 = subst (λ n. IsRun (run_over words (source_kept input after n asked_after)) status adapted (sink out_before out out_faults out_now) (sink err_before err err_faults err_now) source_untouched out_kept err_kept) a h0 in
    let h2 = subst (λ l. IsRun (run_over words (source_over input after asked_after)) status adapted (sink l out out_faults out_now) (sink err_before err err_faults err_now) source_untouched out_kept err_kept) o h1 in
    let h3 = subst (λ l. IsRun (run_over words (source_over input after asked_after)) status adapted (sink [] out out_faults out_now) (sink l err err_faults err_now) source_untouched out_kept err_kept) e h2 in
    let h4 = subst (λ n. IsRun (run_over words (source_over input after asked_after)) status adapted (sink [] out n out_now) (sink [] err err_faults err_now) source_untouched out_kept err_kept) fo h3 in
    let h5 = subst (λ n. IsRun (run_over words (source_over input after asked_after)) status adapted (sink [] out 0 out_now) (sink [] err n err_now) source_untouched out_kept err_kept) fe h4 in
    let h6 = subst (λ n. IsRun (run_over words (source_over input after asked_after)) status adapted (sink [] out 0 n) (sink [] err 0 err_now) source_untouched out_kept err_kept) (none-rose out_now (λ l. t (h5.out_failed l))) h5 in
    let h7 = subst (λ n. IsRun (run_over words (source_over input after asked_after)) status adapted (sink [] out 0 0) (sink [] err 0 n) source_untouched out_kept err_kept) (none-rose err_now (λ l. t (h6.err_failed l))) h6 in
    let whole = untouched-as (run_over words (source_over input after asked_after)) status adapted (wrote out) (wrote err) source_untouched out_kept err_kept
    (asked_after ≡ 0) (out ≡ []) (err ≡ []) (λ k. sk k ∙ a) (λ k. ok k ∙ o) (λ k. ek k ∙ e) h7 in
    subst (λ m. IsRunInMemory words input status m made_err) (sym mo)
    (subst (λ m. IsRunInMemory words input status out m) (sym me) (in-memory words input status adapted after asked_after out err whole t))
