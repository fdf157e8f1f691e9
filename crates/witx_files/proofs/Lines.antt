-- Line n, counted from 1, is the one that stands behind n - 1 lines.
use Rattle.std.proofs.Common.{◌≡◌, ℕ, ◌-◌, List, false, ◌==◌, None, ap, if◌then◌else◌, arith}
use Rattle.std.proofs.lemmas.Bool.Decides.{nat_tests}
use Rattle.std.specs.Prelude.{slice_get}
use Rattle.std.specs.Str.Lines.{lines}
use Rattle.witx_files.specs.Files.{line_at}

nonzero : (n : ℕ) → (n ≡ 0 → ⊥) → (n == 0) ≡ false
nonzero n q = grind (arith, nat_tests, q)

pub line-numbered : (text : List ℕ) (n : ℕ) → (n ≡ 0 → ⊥) → line_at text n ≡ slice_get (lines text) (n - 1)
line-numbered text n q = ap (λ b. if b then None else slice_get (lines text) (n - 1)) (nonzero n q)
