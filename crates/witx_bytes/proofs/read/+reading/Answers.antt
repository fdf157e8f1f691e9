use Rattle.std.proofs.Common.{◌≡◌, ◌<◌, ◌+◌, ◌^◌, rules, arith, sym, ap, ◌∙◌, subst, true, false, Some, None, Err, length}
use Rattle.std.proofs.Common.{option_map}
use Rattle.std.specs.Prelude.{option_copied}
use Rattle.witx_ast.specs.Plain.{plain, Plain, all_bare}
use Rattle.witx_ast.specs.Views.{tree_of, datatype_tree, record_tree, variant_tree, members_plain, cases_plain}
use Rattle.witx_ast.specs.declared.types.RecordKind.{RecordKind}
use Rattle.witx_ast.specs.declared.types.RecordDatatype.{out-RecordDatatype}
use Rattle.witx_ast.specs.declared.types.Variant.{out-Variant}
use Rattle.witx_ast.proofs.Trees.{tree-Record, tree-Variant}
use Rattle.witx_ast.proofs.Parts.{record-plain, variant-plain}
use Rattle.witx_layout.specs.Numbers.{align_of, size_of, align_to, payload_offset, repr_size}
use Rattle.witx_layout.proofs.LawProofs.{align-low, align-high}
use Rattle.witx_bytes.specs.Bytes.{held}
use Rattle.witx_bytes.specs.Payloads.{payload_at}
use Rattle.witx_bytes.specs.Reading.{number_at, value_at, members_at}
use Rattle.witx_bytes.specs.Readings.{CanRead, CanReadCase, ReadAs, case_number}
use Rattle.witx_bytes.specs.Seen.{seen, seen_in, values_seen}
use Rattle.witx_bytes.specs.declared.read_error.ReadError.{ReadError}
use Rattle.witx_bytes.proofs.ReadParts.{ReadTo, read_first, read_within, read_can, read_next, read_stops, can_read_by, case_can_read_by, members_can_read, members_refused, tuple_read, other_read, bare_read, case_below, case_read, case_refused, case_can_read, cases_few, no_case_read}
use Rattle.witx_bytes.proofs.KnownParts.{known_by, member_known, payload_known, payload_known_by, known_members, known_cases}
use Rattle.witx_bytes.proofs.Nodes.{nodes, payload_nodes, behind_plain, member_fewer, payload_fewer}
use Rattle.witx_bytes.proofs.read.+reading.Goals as goal

pub read_type-read_datatype-requires : goal.read_type-read_datatype-requires
read_type-read_datatype-requires t c =
    let e = behind_plain (datatype_tree c.deref.result.now) (tree_of c.args.ty.now) (ap datatype_tree c.deref.ensures ∙ c.type_.ensures) in
    (omega (arith, ap nodes e), (can_read_by c.args.at _ _ e c.requires.can, known_by _ _ _ e c.requires.known))

pub read_datatype-read_record-requires : goal.read_datatype-read_record-requires
read_datatype-read_record-requires t c =
    let e = ap (λ d. plain (datatype_tree d)) c.in-Record.is ∙ ap plain (tree-Record c.in-Record.record) in
    (omega (arith, ap nodes e), (can_read_by c.args.at _ _ e c.requires.can, known_by _ _ _ e c.requires.known))

pub read_datatype-read_variant-requires : goal.read_datatype-read_variant-requires
read_datatype-read_variant-requires t c =
    let e = ap (λ d. plain (datatype_tree d)) c.in-Variant.is ∙ ap plain (tree-Variant c.in-Variant.variant) in
    (omega (arith, ap nodes e), (can_read_by c.args.at _ _ e c.requires.can, known_by _ _ _ e c.requires.known))

pub read_datatype-read_handle-requires : goal.read_datatype-read_handle-requires
read_datatype-read_handle-requires t c = omega (arith, c.requires.can.end)

pub read_datatype-read_list-requires : goal.read_datatype-read_list-requires
read_datatype-read_list-requires t c = omega (arith, c.requires.can.end)

pub read_datatype-read_pointer-requires : goal.read_datatype-read_pointer-requires
read_datatype-read_pointer-requires t c = omega (arith, c.requires.can.end)

pub read_datatype-read_const_pointer-requires : goal.read_datatype-read_const_pointer-requires
read_datatype-read_const_pointer-requires t c = omega (arith, c.requires.can.end)

pub read_datatype-read_builtin-requires : goal.read_datatype-read_builtin-requires
read_datatype-read_builtin-requires t c = omega (arith, c.requires.can.end)

pub read_record-read_flags-requires : goal.read_record-read_flags-requires
read_record-read_flags-requires t c = omega (arith, c.requires.can.end)

pub read_record-read_members-requires : goal.read_record-read_members-requires
read_record-read_members-requires t c =
    let k = (out-RecordDatatype c.args.record_type.now).kind in
    let e = record-plain c.args.record_type.now ∙ ap (λ ms. Plain.record_of k (members_plain ms)) (sym c.as_slice-members.ensures) in (
      omega (arith, ap nodes e),
      (
        members_can_read k _ c.args.at c.in_default.not-Bitflags (can_read_by c.args.at _ _ e c.requires.can),
        known_members k _ _ c.in_default.not-Bitflags (known_by _ _ _ e c.requires.known),
      ),
    )

pub read_record-returns-in_err-values : goal.read_record-returns-in_err-values
read_record-returns-in_err-values t c =
    let k = (out-RecordDatatype c.args.record_type.now).kind in
    let m = held c.args.memory.now in
    let e = record-plain c.args.record_type.now ∙ ap (λ ms. Plain.record_of k (members_plain ms)) (sym c.as_slice-members.ensures) in
    let refused : (error : ReadError) → ReadAs values_seen (members_at 0 (members_plain c.as_slice-members.result.now) m c.args.at) (Err error) → ReadAs seen (value_at (plain (record_tree c.args.record_type.now)) m c.args.at) (Err error) =
    λ error h. subst (λ t. ReadAs seen (value_at t m c.args.at) (Err error)) (sym e) (members_refused k _ m c.args.at error c.in_default.not-Bitflags h)
    in
    search (rules, refused)

pub read_record-returns-in-Tuple : goal.read_record-returns-in-Tuple
read_record-returns-in-Tuple t c =
    let m = held c.args.memory.now in
    let e = record-plain c.args.record_type.now ∙ ap (λ k. Plain.record_of k (members_plain (out-RecordDatatype c.args.record_type.now).members)) c.in-Tuple.is ∙ ap (λ ms. Plain.record_of RecordKind.Tuple (members_plain ms)) (sym c.as_slice-members.ensures) in
    ap (λ t. value_at t m c.args.at) e ∙ tuple_read (members_plain c.as_slice-members.result.now) m c.args.at c.in_ok-values.values c.in_ok-values.ensures

pub read_record-returns-in_default-kind : goal.read_record-returns-in_default-kind
read_record-returns-in_default-kind t c =
    let k = (out-RecordDatatype c.args.record_type.now).kind in
    let m = held c.args.memory.now in
    let e = record-plain c.args.record_type.now ∙ ap (λ ms. Plain.record_of k (members_plain ms)) (sym c.as_slice-members.ensures) in
    ap (λ t. value_at t m c.args.at) e ∙ other_read k (members_plain c.as_slice-members.result.now) m c.args.at c.in_ok-values.values c.in_default.not-Bitflags c.in_default-kind.not-Tuple c.in_ok-values.ensures

pub read_members-rounded_up-start-requires-clause-some : goal.read_members-rounded_up-start-requires-clause-some
read_members-rounded_up-start-requires-clause-some t c = omega (arith, c.layout_of-layout.ensures.align, align-low (plain (tree_of c.index-members-i.result.tref)))

pub read_members-rounded_up-start-requires-clause-few : goal.read_members-rounded_up-start-requires-clause-few
read_members-rounded_up-start-requires-clause-few t c = omega (arith, c.layout_of-layout.ensures.align, align-high (plain (tree_of c.index-members-i.result.tref)))

pub read_members-rounded_up-start-requires-clause-small : goal.read_members-rounded_up-start-requires-clause-small
read_members-rounded_up-start-requires-clause-small t c =
    let ms = c.args.members.now in
    let d = c.index-members-i.result in
    let w = read_within ms c.loop-i.values c.args.at c.loop-i.end c.loop-i.i (held c.args.memory.now) d c.loop-i.invariant c.loop-i-test.true c.index-members-i.is in
    let small : align_to c.loop-i.end (align_of (plain (tree_of d.tref))) < 2 ^ 64 = omega (arith, w, c.requires.can.size) in
    subst (λ a. align_to c.loop-i.end a < 2 ^ 64) (sym c.layout_of-layout.ensures.align) small

pub read_members-layout_of-layout-requires-clause-size : goal.read_members-layout_of-layout-requires-clause-size
read_members-layout_of-layout-requires-clause-size t c =
    let w = read_within c.args.members.now c.loop-i.values c.args.at c.loop-i.end c.loop-i.i (held c.args.memory.now) c.index-members-i.result c.loop-i.invariant c.loop-i-test.true c.index-members-i.is in
    omega (arith, w, c.requires.can.size)

pub read_members-layout_of-layout-requires-clause-known : goal.read_members-layout_of-layout-requires-clause-known
read_members-layout_of-layout-requires-clause-known t c = member_known c.args.members.now (option_copied c.args.known) c.loop-i.i (option_copied c.known_part-part.result) c.requires.known c.loop-i-test.true c.known_part-part.ensures c.index-members-i.result c.index-members-i.is

pub read_members-loop-i-init : goal.read_members-loop-i-init
read_members-loop-i-init t c = subst (λ vs. ReadTo c.args.members.now vs c.args.at 0 0 (held c.args.memory.now)) (sym c.new-values.ensures) (read_first c.args.members.now c.args.at (held c.args.memory.now) c.requires.can)

pub read_members-overflow_add-at : goal.read_members-overflow_add-at
read_members-overflow_add-at t c =
    let d = c.index-members-i.result in
    let w = read_within c.args.members.now c.loop-i.values c.args.at c.loop-i.end c.loop-i.i (held c.args.memory.now) d c.loop-i.invariant c.loop-i-test.true c.index-members-i.is in
    let start : c.rounded_up-start.result ≡ align_to c.loop-i.end (align_of (plain (tree_of d.tref))) = c.rounded_up-start.ensures ∙ ap (align_to c.loop-i.end) c.layout_of-layout.ensures.align in
    let small : c.args.at + c.rounded_up-start.result < 2 ^ 65 = omega (arith, start, w, c.requires.can.end) in
    omega (arith, small)

pub read_members-read_type-requires : goal.read_members-read_type-requires
read_members-read_type-requires t c =
    let d = c.index-members-i.result in
    let start : c.rounded_up-start.result ≡ align_to c.loop-i.end (align_of (plain (tree_of d.tref))) = c.rounded_up-start.ensures ∙ ap (align_to c.loop-i.end) c.layout_of-layout.ensures.align in
    let can = read_can c.args.members.now c.loop-i.values c.args.at c.loop-i.end c.loop-i.i (held c.args.memory.now) d c.loop-i.invariant c.loop-i-test.true c.index-members-i.is c.requires.can in (
      omega (arith, member_fewer c.args.members.now c.loop-i.i d c.loop-i-test.true c.index-members-i.is),
      (subst (λ s. CanRead (c.args.at + s) (plain (tree_of d.tref))) (sym start) can, member_known c.args.members.now (option_copied c.args.known) c.loop-i.i (option_copied c.known_part-part.result) c.requires.known c.loop-i-test.true c.known_part-part.ensures d c.index-members-i.is),
    )

pub read_members-overflow_add-end : goal.read_members-overflow_add-end
read_members-overflow_add-end t c =
    let d = c.index-members-i.result in
    let w = read_within c.args.members.now c.loop-i.values c.args.at c.loop-i.end c.loop-i.i (held c.args.memory.now) d c.loop-i.invariant c.loop-i-test.true c.index-members-i.is in
    let start : c.rounded_up-start.result ≡ align_to c.loop-i.end (align_of (plain (tree_of d.tref))) = c.rounded_up-start.ensures ∙ ap (align_to c.loop-i.end) c.layout_of-layout.ensures.align in
    let small : c.rounded_up-start.result + c.layout_of-layout.result.size < 2 ^ 64 = omega (arith, start, w, c.requires.can.size, c.layout_of-layout.ensures.size) in
    omega (arith, small)

pub read_members-loop-i-preserved : goal.read_members-loop-i-preserved
read_members-loop-i-preserved t c =
    let ms = c.args.members.now in
    let m = held c.args.memory.now in
    let d = c.index-members-i.result in
    let v = c.in_ok-value.value in
    let start : c.rounded_up-start.result ≡ align_to c.loop-i.end (align_of (plain (tree_of d.tref))) = c.rounded_up-start.ensures ∙ ap (align_to c.loop-i.end) c.layout_of-layout.ensures.align in
    let read : value_at (plain (tree_of d.tref)) (held c.args.memory.now) (c.args.at + align_to c.loop-i.end (align_of (plain (tree_of d.tref)))) ≡ Some (seen c.in_ok-value.value) =
    subst (λ s. value_at (plain (tree_of d.tref)) (held c.args.memory.now) (c.args.at + s) ≡ Some (seen c.in_ok-value.value)) start c.in_ok-value.ensures
    in
    let next = read_next ms c.loop-i.values c.args.at c.loop-i.end c.loop-i.i m d c.loop-i.invariant c.loop-i-test.true c.index-members-i.is v read in
    let end : align_to c.loop-i.end (align_of (plain (tree_of d.tref))) + size_of (plain (tree_of d.tref)) ≡ c.rounded_up-start.result + c.layout_of-layout.result.size = omega (arith, start, c.layout_of-layout.ensures.size) in
    subst (λ e. ReadTo ms c.push.new.self c.args.at e (c.loop-i.i + 1) m) end
    (subst (λ vs. ReadTo ms vs c.args.at (align_to c.loop-i.end (align_of (plain (tree_of d.tref))) + size_of (plain (tree_of d.tref))) (c.loop-i.i + 1) m) (sym c.in_ok-push.ensures) next)

pub read_members-returns-in_err-value : goal.read_members-returns-in_err-value
read_members-returns-in_err-value t c =
    let ms = c.args.members.now in
    let d = c.index-members-i.result in
    let start : c.rounded_up-start.result ≡ align_to c.loop-i.end (align_of (plain (tree_of d.tref))) = c.rounded_up-start.ensures ∙ ap (align_to c.loop-i.end) c.layout_of-layout.ensures.align in
    let stops : (e : ReadError) → ReadAs seen (value_at (plain (tree_of d.tref)) (held c.args.memory.now) (c.args.at + c.rounded_up-start.result)) (Err e) → ReadAs values_seen (members_at 0 (members_plain c.args.members.now) (held c.args.memory.now) c.args.at) (Err e) =
    λ e h. read_stops ms c.loop-i.values c.args.at c.loop-i.end c.loop-i.i (held c.args.memory.now) d c.loop-i.invariant c.loop-i-test.true c.index-members-i.is e (subst (λ s. ReadAs seen (value_at (plain (tree_of d.tref)) (held c.args.memory.now) (c.args.at + s)) (Err e)) start h)
    in
    search (rules, stops)

pub read_payload-read_boxed-requires : goal.read_payload-read_boxed-requires
read_payload-read_boxed-requires t c =
    (omega (arith, ap payload_nodes c.in-Some.is), (case_can_read_by c.args.at _ _ c.in-Some.is c.requires.can, payload_known_by _ _ _ c.in-Some.is c.requires.known))

pub read_boxed-read_type-requires : goal.read_boxed-read_type-requires
read_boxed-read_type-requires t c = (omega arith, (c.requires.can, c.requires.known))

pub read_type-returns : goal.read_type-returns
read_type-returns t c =
    let e = behind_plain (datatype_tree c.deref.result.now) (tree_of c.args.ty.now) (ap datatype_tree c.deref.ensures ∙ c.type_.ensures) in
    subst (λ t. ReadAs seen (value_at t (held c.args.memory.now) c.args.at) c.read_datatype.result) (sym e) c.read_datatype.ensures

pub read_variant-case_at-requires-clause-few : goal.read_variant-case_at-requires-clause-few
read_variant-case_at-requires-clause-few t c =
    let v = c.args.variant.now in
    let r = (out-Variant v).tag_repr in
    let cs = c.as_slice-cases.result.now in
    let e = variant-plain v ∙ ap (λ cs. Plain.variant_of r (cases_plain cs)) (sym c.as_slice-cases.ensures) in
    omega (arith, cases_few r cs c.args.at (can_read_by c.args.at _ (Plain.variant_of r (cases_plain cs)) e c.requires.can))

pub read_variant-returns-in_default : goal.read_variant-returns-in_default
read_variant-returns-in_default t c =
    let v = c.args.variant.now in
    let r = (out-Variant v).tag_repr in
    let cs = c.as_slice-cases.result.now in
    let e = variant-plain v ∙ ap (λ cs. Plain.variant_of r (cases_plain cs)) (sym c.as_slice-cases.ensures) in
    let m = held c.args.memory.now in
    let none : case_number (length c.as_slice-cases.result.now) (number_at (repr_size (out-Variant c.args.variant.now).tag_repr) (held c.args.memory.now) c.args.at) ≡ None = search rules in
    ap (λ t. value_at t m c.args.at) e ∙ no_case_read r cs m c.args.at none

pub read_variant-returns-then-are_bare : goal.read_variant-returns-then-are_bare
read_variant-returns-then-are_bare t c =
    let v = c.args.variant.now in
    let r = (out-Variant v).tag_repr in
    let cs = c.as_slice-cases.result.now in
    let e = variant-plain v ∙ ap (λ cs. Plain.variant_of r (cases_plain cs)) (sym c.as_slice-cases.ensures) in
    let m = held c.args.memory.now in
    let number : case_number (length c.as_slice-cases.result.now) (number_at (repr_size (out-Variant c.args.variant.now).tag_repr) (held c.args.memory.now) c.args.at) ≡ Some c.in-Some.i = search rules in
    let bare : all_bare (cases_plain c.as_slice-cases.result.now) ≡ true = search rules in
    ap (λ t. value_at t m c.args.at) e ∙ bare_read r cs m c.args.at c.in-Some.i number bare

pub read_variant-read_payload-requires : goal.read_variant-read_payload-requires
read_variant-read_payload-requires t c =
    let v = c.args.variant.now in
    let r = (out-Variant v).tag_repr in
    let cs = c.as_slice-cases.result.now in
    let e = variant-plain v ∙ ap (λ cs. Plain.variant_of r (cases_plain cs)) (sym c.as_slice-cases.ensures) in
    let m = held c.args.memory.now in
    let number : case_number (length c.as_slice-cases.result.now) (number_at (repr_size (out-Variant c.args.variant.now).tag_repr) (held c.args.memory.now) c.args.at) ≡ Some c.in-Some.i = search rules in
    let offset = c.payload_begin.ensures ∙ ap (λ cs. payload_offset r (cases_plain cs)) (sym c.as_slice-cases.ensures) in
    let d = c.index-cases-i.result in
    let can = can_read_by c.args.at _ (Plain.variant_of r (cases_plain cs)) e c.requires.can in
    let l : c.in-Some.i < length c.as_slice-cases.result.now = case_below r cs m c.args.at c.in-Some.i number in (
      omega (arith, ap nodes e, payload_fewer cs c.in-Some.i d l c.index-cases-i.is),
      (
        subst (λ o. CanReadCase (c.args.at + o) d.tref) (sym offset) (case_can_read r cs m c.args.at c.in-Some.i number d c.index-cases-i.is can),
        payload_known cs (option_copied c.args.known) c.in-Some.i (option_copied c.known_part-part.result) (known_cases r (cases_plain cs) _ (known_by _ _ _ e c.requires.known)) l c.known_part-part.ensures d c.index-cases-i.is,
      ),
    )

pub read_variant-returns-in_err-payload : goal.read_variant-returns-in_err-payload
read_variant-returns-in_err-payload t c =
    let v = c.args.variant.now in
    let r = (out-Variant v).tag_repr in
    let cs = c.as_slice-cases.result.now in
    let e = variant-plain v ∙ ap (λ cs. Plain.variant_of r (cases_plain cs)) (sym c.as_slice-cases.ensures) in
    let m = held c.args.memory.now in
    let number : case_number (length c.as_slice-cases.result.now) (number_at (repr_size (out-Variant c.args.variant.now).tag_repr) (held c.args.memory.now) c.args.at) ≡ Some c.in-Some.i = search rules in
    let carries : all_bare (cases_plain c.as_slice-cases.result.now) ≡ false = search rules in
    let offset = c.payload_begin.ensures ∙ ap (λ cs. payload_offset r (cases_plain cs)) (sym c.as_slice-cases.ensures) in
    let d = c.index-cases-i.result in
    let refused : (e : ReadError) → ReadAs (option_map seen_in) (payload_at c.index-cases-i.result.tref (held c.args.memory.now) (c.args.at + c.payload_begin.result)) (Err e)
    → ReadAs seen (value_at (plain (variant_tree c.args.variant.now)) (held c.args.memory.now) c.args.at) (Err e) =
    λ error h. subst (λ t. ReadAs seen (value_at t m c.args.at) (Err error)) (sym e) (case_refused r cs m c.args.at c.in-Some.i number d c.index-cases-i.is carries error
    (subst (λ o. ReadAs (option_map seen_in) (payload_at d.tref m (c.args.at + o)) (Err error)) offset h))
    in
    search (rules, refused)

pub read_variant-returns : goal.read_variant-returns
read_variant-returns t c =
    let v = c.args.variant.now in
    let r = (out-Variant v).tag_repr in
    let cs = c.as_slice-cases.result.now in
    let e = variant-plain v ∙ ap (λ cs. Plain.variant_of r (cases_plain cs)) (sym c.as_slice-cases.ensures) in
    let m = held c.args.memory.now in
    let number : case_number (length c.as_slice-cases.result.now) (number_at (repr_size (out-Variant c.args.variant.now).tag_repr) (held c.args.memory.now) c.args.at) ≡ Some c.in-Some.i = search rules in
    let carries : all_bare (cases_plain c.as_slice-cases.result.now) ≡ false = search rules in
    let offset = c.payload_begin.ensures ∙ ap (λ cs. payload_offset r (cases_plain cs)) (sym c.as_slice-cases.ensures) in
    let d = c.index-cases-i.result in
    ap (λ t. value_at t m c.args.at) e
    ∙ case_read r cs m c.args.at c.in-Some.i number d c.index-cases-i.is carries c.in_ok-payload.payload
    (subst (λ o. payload_at d.tref m (c.args.at + o) ≡ Some (option_map seen_in c.in_ok-payload.payload)) offset c.in_ok-payload.ensures)
