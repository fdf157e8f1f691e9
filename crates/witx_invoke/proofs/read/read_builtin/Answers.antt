use Rattle.std.proofs.Common.{◌≡◌, sym, subst, rules, Some, to_z, of_z}
use Rattle.std.specs.Int.{w128}
use Rattle.witx_ast.specs.Plain.{Plain}
use Rattle.witx_bytes.specs.Seen.{seen}
use Rattle.witx_bytes.specs.declared.value.Value.TheVariants as value
use Rattle.witx_invoke.specs.Reading.{type_at}
use Rattle.witx_invoke.proofs.ReadParts.{builtin_taken}
use Rattle.witx_invoke.proofs.read.read_builtin.Goals as goal

pub returns : goal.returns
returns c =
    let back : to_z w128 (of_z w128 c.read_signed-number.result.0) ≡ c.read_signed-number.result.0 = search rules in
    subst (λ n. type_at (Plain.builtin c.args.ty) c.args.text.now ≡ Some (seen (value.Num c.args.ty n), c.read_signed-number.result.1.now)) (sym back)
    (builtin_taken c.args.ty c.args.text.now c.read_signed-number.result c.read_signed-number.ensures)
