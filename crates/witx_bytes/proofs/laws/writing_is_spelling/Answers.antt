use Rattle.std.proofs.Common.{sym, ◌∙◌, arith, inl, inr}
use Rattle.witx_bytes.specs.Bytes.{image_written}
use Rattle.witx_bytes.specs.Images.{image}
use Rattle.witx_bytes.proofs.laws.writing_is_spelling.Goals as goal
use Rattle.witx_bytes.proofs.Agreement.{agrees-same, written-own, written-outside}
use Rattle.witx_bytes.proofs.Lengths.{image-length}

pub returns-clause-spelled : goal.returns-clause-spelled
returns-clause-spelled c = λ t v m k at h w. (h, agrees-same (image_written at (image t v) m) k at (image t v) (λ x l u. sym (w x)) (written-own at (image t v) m))

pub returns-clause-outside : goal.returns-clause-outside
returns-clause-outside c = λ t v m k at x h w out. w x ∙ written-outside at (image t v) m x (elim out [ inl a ↦ inl a | inr a ↦ inr (omega (arith, a, image-length t v h)) ])
