use Rattle.std.proofs.Common.{◌≡◌, ◌^◌, rules}
use Rattle.witx_ast.specs.Plain.{plain}
use Rattle.witx_ast.specs.Views.{datatype_tree}
use Rattle.witx_layout.specs.Numbers.{builtin_size}
use Rattle.witx_machine.specs.Words.{wrapped}
use Rattle.witx_bytes.specs.Bytes.{held}
use Rattle.witx_bytes.proofs.Parts.{other_scalar}
use Rattle.witx_bytes.proofs.ScalarParts.{number_in_range, number_room, number_written, list_written}
use Rattle.witx_bytes.proofs.write.write_scalar.Goals as goal

pub number_bits-requires : goal.number_bits-requires
number_bits-requires c =
    let ranged = number_in_range (plain (datatype_tree c.args.datatype.now)) c.args.value.now c.requires.scalar c.requires.value c.in-Num.ty c.in-Num.number c.in-Num.is in
    search (rules, ranged)

pub write_number-requires : goal.write_number-requires
write_number-requires c =
    number_room (plain (datatype_tree c.args.datatype.now)) c.args.value.now c.requires.scalar c.requires.value c.in-Num.ty c.in-Num.number c.in-Num.is
    c.args.at c.mem_align.result (held c.args.memory.now) c.mem_align.ensures c.requires.room

pub unreachable-requires : goal.unreachable-requires
unreachable-requires c =
    other_scalar (plain (datatype_tree c.args.datatype.now)) c.args.value.now c.requires.scalar c.requires.value
    c.in_default.not-Num c.in_default.not-Handle c.in_default.not-Pointer c.in_default.not-ConstPointer c.in_default.not-List

pub returns-in-Num : goal.returns-in-Num
returns-in-Num c =
    let bits : c.number_bits.result ≡ wrapped (256 ^ builtin_size c.in-Num.ty) c.in-Num.number = search rules in
    number_written (plain (datatype_tree c.args.datatype.now)) c.args.value.now c.requires.scalar c.requires.value c.in-Num.ty c.in-Num.number c.in-Num.is
    c.args.at c.mem_align.result c.number_bits.result (held c.args.memory.now) (held c.write_number.new.memory) c.mem_align.ensures bits c.write_number.ensures

pub returns-in-List : goal.returns-in-List
returns-in-List c =
    list_written (plain (datatype_tree c.args.datatype.now)) c.args.value.now c.requires.scalar c.requires.value c.in-List.address c.in-List.length c.in-List.is
    c.args.at (held c.args.memory.now) (held c.write_number-in-List.new.memory) (held c.write_number-in-List-2.new.memory) c.write_number-in-List.ensures c.write_number-in-List-2.ensures
