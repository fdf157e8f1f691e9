use Rattle.std.proofs.Common.{◌≡◌, false, drop}
use Rattle.witx_lex.proofs.Digits.{digits_follow}
use Rattle.witx_lex.proofs.characters.are_digits.Given as goal

abbrev pub invariant-digits : goal.invariant-digits
invariant-digits l = digits_follow l.base l.behind_digit (drop l.byte-index l.digits) ≡ digits_follow l.base false l.digits
