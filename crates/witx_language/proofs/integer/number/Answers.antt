use Rattle.std.proofs.Common.{◌≡◌, ℕ, ◌+◌, ◌*◌, ◌<◌, ◌^◌, [], get_or, drop, None, sym, ap, ◌∙◌, subst, arith}
use Rattle.std.proofs.lemmas.List.{drop_all}
use Rattle.std.specs.Char.{digit_value}
use Rattle.witx_language.specs.Integers.{number, small}
use Rattle.witx_lex.proofs.Scalars.{past_digit, past_other, value_from}
use Rattle.witx_language.proofs.Digits.{too_large, small_some, small_low, small_is}
use Rattle.witx_language.proofs.integer.number.Goals as goal
use Rattle.witx_language.proofs.integer.number.Goals.{in-Some+in-Some-behind, in_default}

pub returns-in-None : goal.returns-in-None
returns-in-None c =
    let ds = c.args.bytes.now in
    let l = c.digits in
    let h = c.in-Some.ensures.value in
    let same : digit_value (get_or ds l.byte-index 0) ≡ c.in-Some.digit = ap digit_value (sym c.from.ensures) ∙ sym h.1 in
    let large : None ≡ small (l.value * c.args.base + digit_value (get_or ds l.byte-index 0))
    = subst (λ (d : ℕ). None ≡ small (l.value * c.args.base + d)) (sym same) c.in-None.ensures in
    too_large c.args.base ds l.byte-index l.value (number c.args.base ds) (omega (arith, c.requires.low)) c.digits-test.true
    (omega (arith, same, ap digit_value c.from.ensures, h.0)) l.invariant.1 large

pub digits-preserved : goal.digits-preserved
digits-preserved c =
    let ds = c.args.bytes.now in
    let l = c.digits in
    elim c.match-to_digit.branch [
      | in-Some+in-Some-behind w ↦
          let h = w.in-Some.ensures.value in
          let same : digit_value (get_or ds l.byte-index 0) ≡ w.in-Some.digit = ap digit_value (sym c.from.ensures) ∙ sym h.1 in
          let low : w.in-Some-behind.more < 2 ^ 64 = small_low (l.value * c.args.base + w.in-Some.digit) w.in-Some-behind.more w.in-Some-behind.ensures in
          let sum : w.in-Some-behind.more ≡ l.value * c.args.base + w.in-Some.digit = small_some (l.value * c.args.base + w.in-Some.digit) w.in-Some-behind.more w.in-Some-behind.ensures in
          let value-is : c.match-to_digit.value ≡ l.value * c.args.base + digit_value (get_or ds l.byte-index 0)
          = w.value-is ∙ sum ∙ ap (λ (d : ℕ). l.value * c.args.base + d) (sym same) in (
            omega (arith, w.value-is, low),
            past_digit c.args.base ds l.byte-index l.value c.match-to_digit.value (number c.args.base ds) c.digits-test.true (omega (arith, same, ap digit_value c.from.ensures, h.0)) value-is l.invariant.1,
          )
      | in_default w ↦ (
        omega (arith, w.value-is, l.invariant.0),
        past_other c.args.base ds l.byte-index l.value c.match-to_digit.value (number c.args.base ds) _ c.from.ensures c.digits-test.true w.in_default.ensures.value w.value-is l.invariant.1,
      )
    ]

pub returns : goal.returns
returns c =
    let ds = c.args.bytes.now in
    let l = c.digits in
    let none : drop l.byte-index ds ≡ [] = drop_all l.byte-index ds (omega (arith, c.digits-test.false)) in
    small_is l.value (number c.args.base ds) (sym (ap (value_from c.args.base l.value) none) ∙ l.invariant.1) l.invariant.0
