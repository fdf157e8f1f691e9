use Rattle.std.proofs.Common.{map}
use Rattle.witx_ast.specs.Tree.{fields_of}
use Rattle.witx_ast.specs.Views.{member_field}
use Rattle.witx_ast.specs.declared.types.RecordDatatype.{out-RecordDatatype}
use Rattle.witx_docs.proofs.Judging.{flags-judged, whole-judged}
use Rattle.witx_markdown.proofs.NameSteps.{members-in}
use Rattle.witx_docs.proofs.parts.begins.Goals as goal

pub placed-requires : goal.placed-requires
placed-requires c = rw c.as_slice.ensures (members-in c.args.names c.args.record_type.now c.requires)

pub returns-in-Bitflags-clause-refusal : goal.returns-in-Bitflags-clause-refusal
returns-in-Bitflags-clause-refusal c =
    flags-judged (out-RecordDatatype c.args.record_type.now).kind _ (fields_of (map member_field (out-RecordDatatype c.args.record_type.now).members)) c.member_layout.result
    c.in-Bitflags.is c.member_layout.ensures.fits c.member_layout.ensures.too_large

pub returns-in-Tuple : goal.returns-in-Tuple
returns-in-Tuple c = record {
  members = rw c.as_slice.ensures at c.placed.ensures.members;
  begins = rw c.as_slice.ensures at c.placed.ensures.begins;
  refusal = whole-judged (out-RecordDatatype c.args.record_type.now).kind (fields_of (map member_field (out-RecordDatatype c.args.record_type.now).members)) c.placed.result
      c.in-Tuple.is (rw c.as_slice.ensures at c.placed.ensures.fits) (rw c.as_slice.ensures at c.placed.ensures.too_large);
}
