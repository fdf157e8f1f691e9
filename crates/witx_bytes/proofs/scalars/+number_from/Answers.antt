use Rattle.std.proofs.Common.{◌+◌, ◌*◌, ◌-◌, arith}
use Rattle.witx_bytes.proofs.ReadNumbers.{number_bound, number_fits}
use Rattle.witx_bytes.proofs.scalars.+number_from.Goals as goal

pub overflow_add-result : goal.overflow_add-result
overflow_add-result t c = let fits = number_fits c.args.width (c.in_ok-low.low + 256 * c.in_ok-high.high) c.requires.few (number_bound c.args.width (c.args.width - 1) c.in_ok-low.low c.in_ok-high.high (omega arith) (omega arith) c.in_ok-high.ensures.bound) in omega (arith, fits)

pub overflow_mul-result : goal.overflow_mul-result
overflow_mul-result t c =
    let zero_fits = number_bound c.args.width (c.args.width - 1) 0 c.in_ok-high.high (omega arith) (omega arith) c.in_ok-high.ensures.bound in
    let fits = number_fits c.args.width (0 + 256 * c.in_ok-high.high) c.requires.few zero_fits in
    omega (arith, fits)
