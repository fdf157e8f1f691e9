use Rattle.std.proofs.Common.{◌≡◌, ◌-◌, ◌∙◌, true, false, sym, refl, take, drop, length}
use Rattle.std.proofs.lemmas.List.{take_rest}
use Rattle.witx_lex.proofs.Parts.{escape_scalar, no_scalar}
use Rattle.witx_lex.proofs.escape.read_scalar.Goals as goal
use Rattle.witx_lex.proofs.escape.read_scalar.Goals.{then-byte_of-ne125-via-then-byte_of-ne125, then-byte_of-ne125-via-else-byte_of-ne125+then-not-are_digits}

pub returns-then-byte_of-ne125 : goal.returns-then-byte_of-ne125
returns-then-byte_of-ne125 c =
    let bytes = c.args.bytes.now in
    let len = c.digits_len-len.result in
    let inside = take (length bytes - 2) (drop 2 bytes) in
    no_scalar bytes inside (take len inside) len c.requires.u (take_rest bytes 2) c.digits_len-len.ensures.len refl
    (elim c.then-byte_of-ne125.branch [
      | then-byte_of-ne125-via-then-byte_of-ne125 w ↦ λ last all valid. w.if-byte_of-ne125.true (c.byte_of.ensures ∙ last)
      | then-byte_of-ne125-via-else-byte_of-ne125+then-not-are_digits w ↦ λ last all valid. (let q : true ≡ false = sym all ∙ sym w.if-not-are_digits.ensures in cc)
    ])

pub returns-in-Some : goal.returns-in-Some
returns-in-Some c =
    let bytes = c.args.bytes.now in
    let len = c.digits_len-len.result in
    let inside = take (length bytes - 2) (drop 2 bytes) in
    escape_scalar bytes inside (take len inside) len c.in-Some.c c.requires.u c.requires.brace (take_rest bytes 2) c.digits_len-len.ensures.len refl
    (sym c.byte_of.ensures ∙ c.if-byte_of-ne125.false) (sym c.if-not-are_digits.ensures) c.in-Some.ensures.0 c.in-Some.ensures.1

pub returns-in-None : goal.returns-in-None
returns-in-None c =
    let bytes = c.args.bytes.now in
    let len = c.digits_len-len.result in
    let inside = take (length bytes - 2) (drop 2 bytes) in
    no_scalar bytes inside (take len inside) len c.requires.u (take_rest bytes 2) c.digits_len-len.ensures.len refl (λ last all valid. c.in-None.ensures valid)
