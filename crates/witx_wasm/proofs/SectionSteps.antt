-- How the loop over sections, and what reads a module by it, meet the definitions.
use Rattle.std.proofs.Common.{◌≡◌, ◌==◌, ℕ, true, false, List, [], ◌∷◌, ◌++◌, length, Result, Ok, Err, refl, sym, ap, subst, ◌∙◌, eqb-true}
use Rattle.std.specs.Prelude.{IfOk, IfErr}
use Rattle.std.proofs.lemmas.List.{nil_from_length}
use Rattle.witx_wasm.proofs.ExactModules.{section-sound, section-begins, sections-more, at-most-one-module, no-fault}
use Rattle.witx_wasm.specs.Modules.{IsModule}
use Rattle.witx_wasm.specs.Reading.{placed, section_at, Sections, no_more, faulty, preamble_at, nothing_known, Denies, ComesAsErr, HasByteFault, HasFaultBehind, OfFault, IsAnswerFor}
use Rattle.witx_wasm.specs.declared.fault.Fault.{Fault}
use Rattle.witx_wasm.specs.declared.fault.ModuleError.{ModuleError}
use Rattle.witx_wasm.specs.declared.fault.ModuleError.TheVariants as errors
use Rattle.witx_wasm.specs.declared.module.WasmModule.{WasmModule}
use Rattle.witx_wasm.specs.declared.sections.Progress.{Progress}

-- whatever these sections come to, all sections come to
abbrev pub Leads : ℕ → Progress → List ℕ → List ℕ → Type 0
Leads total known rest bytes = (end : Result Progress Fault) → Sections total known rest end → Sections total nothing_known bytes end

pub goes_on : (total : ℕ) (known : Progress) (rest : List ℕ) (next : Progress) (behind bytes : List ℕ) → section_at total known rest ≡ Ok (next, behind)
    → Leads total known rest bytes → Leads total next behind bytes
goes_on total known rest next behind bytes e leads end d =
    let s = section-sound total known rest next behind e in
    let b = section-begins s.section s.taken.0 s.taken.2 in
    leads end (sections-more total known rest behind next end b.0 (b.1 ++ behind) (s.taken.1 ∙ ap (λ (t : List ℕ). t ++ behind) b.2) e d)

pub breaks : (total : ℕ) (known : Progress) (rest bytes : List ℕ) (e : ModuleError) → false ≡ (length rest == 0) → Denies e (section_at total known rest) → Leads total known rest bytes
    → ComesAsErr e (λ end. Sections total nothing_known bytes end)
breaks total known rest bytes errors.OutOfMemory some h leads = tt
breaks total known [] bytes (errors.Fault f) some h leads = absurd cc
breaks total known (b ∷ bs) bytes (errors.Fault f) some h leads = leads (Err f) (faulty known b bs f h)

pub is_done : (total : ℕ) (known : Progress) (rest bytes : List ℕ) → true ≡ (length rest == 0) → Leads total known rest bytes → Sections total nothing_known bytes (Ok known)
is_done total known rest bytes none leads =
    leads (Ok known) (subst (λ (t : List ℕ). Sections total known t (Ok known)) (sym (nil_from_length rest (eqb-true (length rest) 0 (sym none)))) (no_more known))

-- ---- a module

pub preamble-fault : (bytes : List ℕ) (e : ModuleError) → Denies e (placed (length bytes) (preamble_at bytes)) → OfFault e (λ f. HasByteFault f bytes)
preamble-fault bytes errors.OutOfMemory h = tt
preamble-fault bytes (errors.Fault f) h = subst (HasFaultBehind (length bytes) f) (sym h) refl

pub sections-fault : (bytes rest : List ℕ) (e : ModuleError) → placed (length bytes) (preamble_at bytes) ≡ Ok rest
    → ComesAsErr e (λ end. Sections (length bytes) nothing_known rest end) → OfFault e (λ f. HasByteFault f bytes)
sections-fault bytes rest errors.OutOfMemory p h = tt
sections-fault bytes rest (errors.Fault f) p h = subst (HasFaultBehind (length bytes) f) (sym p) h

faultless : (bytes : List ℕ) (m : WasmModule) (e : ModuleError) → IsModule m bytes → OfFault e (λ f. HasByteFault f bytes) → OfFault e (λ f. ⊥)
faultless bytes m errors.OutOfMemory is h = tt
faultless bytes m (errors.Fault f) is h = no-fault bytes m f is h

pub is_answer : (bytes : List ℕ) (r : Result WasmModule ModuleError) → IfOk r (λ m. IsModule m bytes) → IfErr r (λ e. OfFault e (λ f. HasByteFault f bytes))
    → (m : WasmModule) → IsModule m bytes → IsAnswerFor m r
is_answer bytes (Ok n) found fault m is = at-most-one-module bytes n m found is
is_answer bytes (Err e) found fault m is = faultless bytes m e is fault
