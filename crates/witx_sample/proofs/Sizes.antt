-- The test of sizes holds exactly from 1 to 4,096.
use Rattle.std.proofs.Common.{◌≡◌, ℕ, ◌≤◌, true}
use Rattle.std.specs.Prelude.{◌↔◌}
use Rattle.std.proofs.lemmas.Bool.{and_from, and_parts, le-leb, leb-true}
use Rattle.witx_sample.specs.Samples.{is_size}

pub exact-sizes : (n : ℕ) → is_size n ≡ true ↔ ((1 ≤ n) × (n ≤ 4096))
exact-sizes n = (λ h. let p = and_parts _ _ h in (leb-true _ _ p.0, leb-true _ _ p.1), λ p. and_from _ _ (le-leb _ _ p.0) (le-leb _ _ p.1))

pub ruleset size_rules = (exact-sizes)
