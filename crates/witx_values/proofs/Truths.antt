-- True isn't false.
use Rattle.std.proofs.Common.{◌≡◌, true, false}

pub not_both : true ≡ false → ⊥
not_both e = cc
