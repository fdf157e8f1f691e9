use Rattle.std.proofs.Common.{◌∙◌, ap}
use Rattle.witx_lex.specs.Characters.{letter_value}
use Rattle.witx_lex.proofs.Parts.{escape_letter, escape_digits}
use Rattle.witx_lex.proofs.escape.read_escape.Goals as goal

pub returns-in-Some : goal.returns-in-Some
returns-in-Some c = escape_letter c.args.bytes.now c.in-Some.byte (c.in-Some.ensures ∙ ap letter_value c.byte_of-first.ensures)

pub returns-in-Some-two_digits : goal.returns-in-Some-two_digits
returns-in-Some-two_digits c = escape_digits c.args.bytes.now c.in-Some-two_digits.byte (rw (← c.byte_of-first.ensures, ← c.byte_of-second.ensures) c.in-Some-two_digits.ensures)
