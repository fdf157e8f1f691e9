use Rattle.std.proofs.Common.{refl}
use Rattle.witx_language.specs.TokenKinds.{all_kinds}
use Rattle.witx_language.proofs.Apart.{all_apart}
use Rattle.witx_language.proofs.laws.token_kinds_are_distinct.Goals as goal

pub returns : goal.returns
returns c = all_apart all_kinds refl
