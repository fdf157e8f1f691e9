-- A read answers with the value that the bytes spell, or that they spell none.
use Rattle.std.proofs.Common.{◌≡◌, ℕ, true, sym, ◌∙◌, subst, Some, None, Result, Ok, Err, IfOk}
use Rattle.witx_ast.specs.Plain.{Plain}
use Rattle.witx_ast.specs.Tags.{fits}
use Rattle.witx_ast.specs.Values as plain
use Rattle.witx_ast.proofs.TagLaws.{fits-decides}
use Rattle.witx_bytes.specs.Bytes.{Bytes, AreBytes, IsByteMemory}
use Rattle.witx_bytes.specs.Images.{Spells}
use Rattle.witx_bytes.specs.Reading.{value_at}
use Rattle.witx_bytes.specs.Readings.{ReadAs}
use Rattle.witx_bytes.specs.Seen.{seen}
use Rattle.witx_bytes.specs.declared.read_error.ReadError.{ReadError}
use Rattle.witx_bytes.specs.declared.value.Value.{Value}
use Rattle.witx_bytes.proofs.ReadBack.{read-back}
use Rattle.witx_bytes.proofs.Spelled.{read-spells}

are-bytes : (m : Bytes) → IsByteMemory m → AreBytes m
are-bytes m h at b e = (h at b e).1

pub answer_spells : (t : Plain) (m : Bytes) (at : ℕ) (r : Result Value ReadError) → IsByteMemory m → ReadAs seen (value_at t m at) r → IfOk r (λ v. Spells m at t (seen v))
answer_spells t m at (Ok v) b h = read-spells t (seen v) m at (are-bytes m b) h
answer_spells t m at (Err e) b h = tt

pub answer_none : (t : Plain) (m : Bytes) (at : ℕ) (r : Result Value ReadError) → fits t ≡ true → ReadAs seen (value_at t m at) r → r ≡ Err ReadError.NoValue → (v : plain.Value) → ¬ (Spells m at t v)
answer_none t m at r f h e v s = clash (sym (subst (ReadAs seen (value_at t m at)) e h) ∙ read-back t v m at s.0 ((fits-decides t).0 f) s.1)
  where
    clash : None ≡ Some v → ⊥
    clash h = cc
