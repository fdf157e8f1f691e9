use Rattle.std.proofs.Common.{not, nat_eq, get_or, refl, arith}
use Rattle.witx_lex.specs.declared.characters.TheConstants.{NAME_CHARACTERS}
use Rattle.witx_lex.specs.Characters.{is_name_character}
use Rattle.witx_lex.proofs.Tables.{alike_below}
use Rattle.witx_lex.proofs.characters.is_name.Goals as goal

pub returns : goal.returns
returns c = alike_below (λ b. not (nat_eq (get_or NAME_CHARACTERS b 0) 44)) is_name_character 256 c.args.byte refl (omega arith)
