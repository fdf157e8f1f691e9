use Rattle.std.proofs.Common.{◌≡◌, sym, subst, rules, true, Some, to_z, of_z}
use Rattle.std.specs.Int.{w128}
use Rattle.witx_ast.specs.Plain.{Plain}
use Rattle.witx_ast.specs.ValueTests.{in_range}
use Rattle.witx_bytes.specs.Bytes.{held}
use Rattle.witx_bytes.specs.Reading.{value_at}
use Rattle.witx_bytes.specs.Seen.{seen}
use Rattle.witx_bytes.specs.declared.value.Value.TheVariants as value
use Rattle.witx_bytes.proofs.ReadNumbers.{builtin_read}
use Rattle.witx_bytes.proofs.scalars.read_builtin.Goals as goal

pub returns-then-in_range : goal.returns-then-in_range
returns-then-in_range c =
    let ranged : in_range c.args.ty c.number_of-number.result ≡ true = search rules in
    let back : to_z w128 (of_z w128 c.number_of-number.result) ≡ c.number_of-number.result = search rules in
    subst (λ n. value_at (Plain.builtin c.args.ty) (held c.args.memory.now) c.args.at ≡ Some (seen (value.Num c.args.ty n))) (sym back)
    (builtin_read c.args.ty (held c.args.memory.now) c.args.at c.mem_align.result c.in-Some.bits c.number_of-number.result c.mem_align.ensures (sym c.in-Some.ensures.number) c.number_of-number.ensures ranged)
