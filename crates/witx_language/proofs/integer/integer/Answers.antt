use Rattle.std.proofs.Common.{List, ℕ, drop, ap, ◌∙◌}
use Rattle.witx_lex.specs.Meaning.{unsigned}
use Rattle.witx_language.specs.Integers.{int_value, is_small, is_hexadecimal, number, small, unsigned_value}
use Rattle.witx_language.proofs.Digits.{small_either}
use Rattle.witx_language.proofs.integer.integer.Goals as goal

pub returns : goal.returns
unfolding int_value is_small
returns c =
    let ds = c.unsigned.result.now in
    c.unsigned_value.ensures ∙ small_either (is_hexadecimal ds) (number 16 (drop 2 ds)) (number 10 ds)
    ∙ ap (λ (r : List ℕ). small (unsigned_value r)) (c.unsigned.ensures ∙ ap unsigned c.as_bytes.ensures.value)
