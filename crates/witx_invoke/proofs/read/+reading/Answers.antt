use Rattle.std.proofs.Common.{sym, ap, ◌∙◌, subst, rules, Err}
use Rattle.witx_ast.specs.Plain.{Plain, plain}
use Rattle.witx_ast.specs.Views.{tree_of, datatype_tree, record_tree, cases_plain, members_plain}
use Rattle.witx_ast.specs.declared.types.RecordDatatype.{out-RecordDatatype}
use Rattle.witx_ast.specs.declared.types.RecordKind.{RecordKind}
use Rattle.witx_ast.proofs.Parts.{record-plain}
use Rattle.witx_bytes.proofs.Nodes.{behind_plain}
use Rattle.witx_bytes.specs.Readings.{ReadAs}
use Rattle.witx_bytes.specs.declared.read_error.ReadError.{ReadError}
use Rattle.witx_bytes.specs.Seen.{seen, values_seen}
use Rattle.witx_invoke.specs.Reading.{taken, type_at}
use Rattle.witx_invoke.proofs.ReadParts.{carried_taken, enclosed_at, members_refused, other_taken, tuple_taken}
use Rattle.witx_invoke.proofs.read.+reading.Goals as goal

pub read_carrying-returns : goal.read_carrying-returns
read_carrying-returns t c = λ s.
    carried_taken (cases_plain c.args.cases.now) c.args.text.now c.in-Some.case c.in-Some.behind.now c.in-Some.ensures c.in-Some-after.start.now c.in-Some-after.ensures
    c.in_ok-payload.payload c.in_ok-payload.rest.now c.in_ok-payload.ensures c.in_ok-boxed.boxed c.in-Some-after-2.rest.now c.in_ok-boxed.ensures c.in-Some-after-2.ensures

pub read_record-returns-in-Bitflags : goal.read_record-returns-in-Bitflags
read_record-returns-in-Bitflags t c =
    let kind = RecordKind.Bitflags c.in-Bitflags.field-0 in
    let e = record-plain c.args.record_type.now ∙ ap (λ k. Plain.record_of k (members_plain (out-RecordDatatype c.args.record_type.now).members)) c.in-Bitflags.is ∙ ap (λ ms. Plain.record_of kind (members_plain ms)) (sym c.as_slice-members.ensures) in
    subst (λ t. ReadAs (taken seen) (type_at t c.args.text.now) c.read_bits.result) (sym e) (c.read_bits.ensures c.in-Bitflags.field-0)

pub read_record-returns-in_err-values : goal.read_record-returns-in_err-values
read_record-returns-in_err-values t c =
    let k = (out-RecordDatatype c.args.record_type.now).kind in
    let ms = members_plain c.as_slice-members.result.now in
    let e = record-plain c.args.record_type.now ∙ ap (λ ms. Plain.record_of k (members_plain ms)) (sym c.as_slice-members.ensures) in
    let refused : (error : ReadError) → ReadAs (taken values_seen) (enclosed_at (members_plain c.as_slice-members.result.now) c.args.text.now) (Err error) → ReadAs (taken seen) (type_at (plain (record_tree c.args.record_type.now)) c.args.text.now) (Err error) =
    λ error h. subst (λ t. ReadAs (taken seen) (type_at t c.args.text.now) (Err error)) (sym e) (members_refused k ms c.args.text.now error c.in_default.not-Bitflags h)
    in
    search (rules, refused)

pub read_record-returns-in-Tuple : goal.read_record-returns-in-Tuple
read_record-returns-in-Tuple t c =
    let e = record-plain c.args.record_type.now ∙ ap (λ k. Plain.record_of k (members_plain (out-RecordDatatype c.args.record_type.now).members)) c.in-Tuple.is ∙ ap (λ ms. Plain.record_of RecordKind.Tuple (members_plain ms)) (sym c.as_slice-members.ensures) in
    ap (λ t. type_at t c.args.text.now) e ∙ tuple_taken (members_plain c.as_slice-members.result.now) c.args.text.now c.in_ok-values.rest.now c.in_ok-values.values c.in_ok-values.ensures

pub read_record-returns-in_default-kind : goal.read_record-returns-in_default-kind
read_record-returns-in_default-kind t c =
    let k = (out-RecordDatatype c.args.record_type.now).kind in
    let e = record-plain c.args.record_type.now ∙ ap (λ ms. Plain.record_of k (members_plain ms)) (sym c.as_slice-members.ensures) in
    ap (λ t. type_at t c.args.text.now) e
    ∙ other_taken k (members_plain c.as_slice-members.result.now) c.args.text.now c.in_ok-values.rest.now c.in_ok-values.values c.in_default.not-Bitflags c.in_default-kind.not-Tuple c.in_ok-values.ensures

pub read_type-returns : goal.read_type-returns
read_type-returns t c =
    let e = behind_plain (datatype_tree c.deref.result.now) (tree_of c.args.ty.now) (ap datatype_tree c.deref.ensures ∙ c.type_.ensures) in
    subst (λ t. ReadAs (taken seen) (type_at t c.args.text.now) c.read_datatype.result) (sym e) c.read_datatype.ensures
