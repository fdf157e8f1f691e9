use Rattle.std.proofs.Common.{◌∙◌, sym, ap, not, ◌&&◌, option_map}
use Rattle.witx_ast.specs.Plain.{Plain}
use Rattle.witx_ast.specs.Views.{cases_plain, members_plain}
use Rattle.witx_ast.specs.ValueTests.{is_value}
use Rattle.witx_ast.specs.declared.types.RecordDatatype.{out-RecordDatatype}
use Rattle.witx_ast.specs.declared.types.RecordKind.{RecordKind}
use Rattle.witx_ast.specs.declared.types.Variant.{out-Variant}
use Rattle.witx_ast.proofs.Parts.{record-plain, variant-plain}
use Rattle.witx_bytes.specs.Payloads.{is_case}
use Rattle.witx_bytes.specs.Seen.{seen, seen_in}
use Rattle.witx_bytes.proofs.Belonging.{case_value}
use Rattle.witx_bytes.proofs.Parts.{not_variant}
use Rattle.witx_bytes.proofs.membership.+membership.Goals as goal

pub is_case_value-returns-else-not-are_bare : goal.is_case_value-returns-else-not-are_bare
is_case_value-returns-else-not-are_bare t c =
    let cs = cases_plain c.args.cases.now in
    let carries = ap not c.if-not-are_bare.false in
    let bare = sym (ap not c.are_bare-in-Case.ensures) ∙ carries in
    λ r. carries ∙ sym (case_value r cs c.args.value.now c.in-Case.i c.in-Case.payload c.in-Case.is ∙ ap (λ b. b && is_case cs c.in-Case.i (option_map seen_in c.in-Case.payload)) bare)

pub is_case_value-returns-in_default : goal.is_case_value-returns-in_default
is_case_value-returns-in_default t c = λ r. sym (not_variant r (cases_plain c.args.cases.now) c.args.value.now c.in_default.not-Enum c.in_default.not-Case)

pub is_record_value-returns-in-Bitflags : goal.is_record_value-returns-in-Bitflags
is_record_value-returns-in-Bitflags t c =
    let kind = RecordKind.Bitflags c.in-Bitflags.field-0 in
    let v = seen c.args.value.now in
    let e = record-plain c.args.record_type.now ∙ ap (λ k. Plain.record_of k (members_plain (out-RecordDatatype c.args.record_type.now).members)) c.in-Bitflags.is in
    c.are_flags.ensures c.in-Bitflags.field-0 ∙ ap (λ ms. is_value (Plain.record_of kind (members_plain ms)) v) c.as_slice.ensures ∙ sym (ap (λ t. is_value t v) e)

pub is_variant_value-returns : goal.is_variant_value-returns
is_variant_value-returns t c =
    let r = (out-Variant c.args.variant.now).tag_repr in
    let v = seen c.args.value.now in
    c.is_case_value.ensures r ∙ ap (λ cs. is_value (Plain.variant_of r (cases_plain cs)) v) c.as_slice.ensures ∙ sym (ap (λ t. is_value t v) (variant-plain c.args.variant.now))
