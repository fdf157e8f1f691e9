use Rattle.std.proofs.Common.{◌≡◌, ◌∙◌, false, arith, sym}
use Rattle.std.proofs.lemmas.Grind.{common_steps}
use Rattle.witx_lex.proofs.Digits.{digits_follow, digits_same}
use Rattle.witx_lex.proofs.characters.are_digits.Goals as goal

pub returns-else-byte-eq95 : goal.returns-else-byte-eq95
returns-else-byte-eq95 c =
    let follow : false ≡ digits_follow c.args.base false c.args.digits.now = grind (arith, common_steps) in
    follow ∙ sym (digits_same c.args.base c.args.digits.now)

pub digits-preserved : goal.digits-preserved
digits-preserved c = grind (arith, common_steps)

pub returns : goal.returns
returns c =
    let follow : c.digits.behind_digit ≡ digits_follow c.args.base false c.args.digits.now = grind (arith, common_steps) in
    follow ∙ sym (digits_same c.args.base c.args.digits.now)
