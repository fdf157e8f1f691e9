use Rattle.std.proofs.Common.{◌≡◌, ◌≤◌, ◌<◌, ◌+◌, ◌^◌, arith, sym, ap, ◌∙◌, subst, length, Some, None}
use Rattle.witx_ast.specs.Plain.{plain, Plain}
use Rattle.witx_ast.specs.Views.{tree_of, datatype_tree, members_plain, cases_plain}
use Rattle.witx_ast.specs.declared.types.Case.{Case}
use Rattle.witx_ast.specs.declared.types.RecordDatatype.{out-RecordDatatype}
use Rattle.witx_ast.specs.declared.types.Variant.{out-Variant}
use Rattle.witx_ast.proofs.Trees.{tree-Record, tree-Variant}
use Rattle.witx_ast.proofs.Parts.{record-plain, variant-plain}
use Rattle.witx_layout.specs.Numbers.{align_of, size_of, align_to, payload_offset, payloads_size}
use Rattle.witx_layout.proofs.LawProofs.{align-low, align-high}
use Rattle.witx_bytes.specs.Bytes.{held}
use Rattle.witx_bytes.specs.Images.{image, little}
use Rattle.witx_bytes.specs.Seen.{seen}
use Rattle.witx_bytes.specs.Payloads.{type_image}
use Rattle.witx_bytes.specs.Writes.{CanWrite, HasRange, Writes}
use Rattle.witx_bytes.proofs.Writing.{range_kept}
use Rattle.witx_bytes.proofs.Members.{MembersLeft, members_first, members_bound, members_can, members_room, members_within, members_next, HasMembers, record_can, record_room, record_written, enum_written, case_written, case_can, payload_room, can_by, room_by, payload_bound, case_can_by, case_room_by, case_can_be, case_has_room, case_is_written}
use Rattle.witx_bytes.proofs.KnownParts.{known_by, known_cases, known_members, member_known, payload_known, payload_known_by}
use Rattle.std.specs.Prelude.{option_copied}
use Rattle.witx_bytes.proofs.Parts.{other_members, other_variant}
use Rattle.witx_bytes.proofs.Nodes.{nodes, payload_nodes, behind_plain, member_fewer, payload_fewer}
use Rattle.witx_bytes.proofs.write.+writing.Goals as goal

pub write_datatype-write_record-requires : goal.write_datatype-write_record-requires
write_datatype-write_record-requires t c =
    let e = ap (λ d. plain (datatype_tree d)) c.in-Record.is ∙ ap plain (tree-Record c.in-Record.record) in
    (omega (arith, ap nodes e), (can_by _ _ (seen c.args.value.now) e c.requires.value, (room_by c.args.at _ _ (held c.args.memory.now) e c.requires.room, known_by _ _ _ e c.requires.known)))

pub write_datatype-write_variant-requires : goal.write_datatype-write_variant-requires
write_datatype-write_variant-requires t c =
    let e = ap (λ d. plain (datatype_tree d)) c.in-Variant.is ∙ ap plain (tree-Variant c.in-Variant.variant) in
    (omega (arith, ap nodes e), (can_by _ _ (seen c.args.value.now) e c.requires.value, (room_by c.args.at _ _ (held c.args.memory.now) e c.requires.room, known_by _ _ _ e c.requires.known)))

pub write_members-rounded_up-start-requires-clause-some : goal.write_members-rounded_up-start-requires-clause-some
write_members-rounded_up-start-requires-clause-some t c = omega (arith, c.layout_of-layout.ensures.align, align-low (plain (tree_of c.index-members-i.result.tref)))

pub write_members-rounded_up-start-requires-clause-few : goal.write_members-rounded_up-start-requires-clause-few
write_members-rounded_up-start-requires-clause-few t c = omega (arith, c.layout_of-layout.ensures.align, align-high (plain (tree_of c.index-members-i.result.tref)))

pub write_members-rounded_up-start-requires-clause-small : goal.write_members-rounded_up-start-requires-clause-small
write_members-rounded_up-start-requires-clause-small t c =
    let ms = c.args.members.now in
    let d = c.index-members-i.result in
    let f = c.loop-i.invariant in
    let u = members_bound ms c.args.values.now c.args.at c.loop-i.end c.loop-i.i (held c.args.memory.now) (held c.loop-i.memory) d f c.loop-i-test.true c.index-members-i.is in
    let w = members_within ms c.args.values.now c.args.at c.loop-i.end c.loop-i.i (held c.args.memory.now) (held c.loop-i.memory) d c.index-values-i.result f c.loop-i-test.true c.index-members-i.is u c.index-values-i.is in
    let small : align_to c.loop-i.end (align_of (plain (tree_of d.tref))) < 2 ^ 64 = omega (arith, w, f.room.within) in
    subst (λ a. align_to c.loop-i.end a < 2 ^ 64) (sym c.layout_of-layout.ensures.align) small

pub write_members-loop-i-init : goal.write_members-loop-i-init
write_members-loop-i-init t c = members_first c.args.members.now c.args.values.now c.args.at (held c.args.memory.now) c.requires.values c.requires.room

pub write_members-write_type-requires : goal.write_members-write_type-requires
write_members-write_type-requires t c =
    let ms = c.args.members.now in
    let vs = c.args.values.now in
    let d = c.index-members-i.result in
    let v = c.index-values-i.result in
    let f = c.loop-i.invariant in
    let u = members_bound ms vs c.args.at c.loop-i.end c.loop-i.i (held c.args.memory.now) (held c.loop-i.memory) d f c.loop-i-test.true c.index-members-i.is in
    let start : c.rounded_up-start.result ≡ align_to c.loop-i.end (align_of (plain (tree_of d.tref))) = c.rounded_up-start.ensures ∙ ap (align_to c.loop-i.end) c.layout_of-layout.ensures.align in
    let room = members_room ms vs c.args.at c.loop-i.end c.loop-i.i (held c.args.memory.now) (held c.loop-i.memory) d v f c.loop-i-test.true c.index-members-i.is u c.index-values-i.is in
    (omega (arith, member_fewer ms c.loop-i.i d c.loop-i-test.true c.index-members-i.is), (members_can ms vs c.args.at c.loop-i.end c.loop-i.i (held c.args.memory.now) (held c.loop-i.memory) d v f c.loop-i-test.true c.index-members-i.is u c.index-values-i.is, (subst (λ s. HasRange (c.args.at + s) (size_of (plain (tree_of d.tref))) (held c.loop-i.memory)) (sym start) room, member_known c.args.members.now (option_copied c.args.known) c.loop-i.i (option_copied c.known_part-part.result) c.requires.known c.loop-i-test.true c.known_part-part.ensures d c.index-members-i.is)))

pub write_members-overflow_add-at : goal.write_members-overflow_add-at
write_members-overflow_add-at t c =
    let ms = c.args.members.now in
    let d = c.index-members-i.result in
    let f = c.loop-i.invariant in
    let u = members_bound ms c.args.values.now c.args.at c.loop-i.end c.loop-i.i (held c.args.memory.now) (held c.loop-i.memory) d f c.loop-i-test.true c.index-members-i.is in
    let start : c.rounded_up-start.result ≡ align_to c.loop-i.end (align_of (plain (tree_of d.tref))) = c.rounded_up-start.ensures ∙ ap (align_to c.loop-i.end) c.layout_of-layout.ensures.align in
    let w = members_within ms c.args.values.now c.args.at c.loop-i.end c.loop-i.i (held c.args.memory.now) (held c.loop-i.memory) d c.index-values-i.result f c.loop-i-test.true c.index-members-i.is u c.index-values-i.is in
    let small : c.args.at + c.rounded_up-start.result ≤ 2 ^ 32 = omega (arith, start, w, f.room.within) in
    omega (arith, small)

pub write_members-layout_of-layout-requires-clause-known : goal.write_members-layout_of-layout-requires-clause-known
write_members-layout_of-layout-requires-clause-known t c = member_known c.args.members.now (option_copied c.args.known) c.loop-i.i (option_copied c.known_part-part.result) c.requires.known c.loop-i-test.true c.known_part-part.ensures c.index-members-i.result c.index-members-i.is

pub write_members-layout_of-layout-requires-clause-size : goal.write_members-layout_of-layout-requires-clause-size
write_members-layout_of-layout-requires-clause-size t c =
    let ms = c.args.members.now in
    let d = c.index-members-i.result in
    let f = c.loop-i.invariant in
    let u = members_bound ms c.args.values.now c.args.at c.loop-i.end c.loop-i.i (held c.args.memory.now) (held c.loop-i.memory) d f c.loop-i-test.true c.index-members-i.is in
    let w = members_within ms c.args.values.now c.args.at c.loop-i.end c.loop-i.i (held c.args.memory.now) (held c.loop-i.memory) d c.index-values-i.result f c.loop-i-test.true c.index-members-i.is u c.index-values-i.is in
    omega (arith, w, f.room.within)

pub write_members-overflow_add-end : goal.write_members-overflow_add-end
write_members-overflow_add-end t c =
    let ms = c.args.members.now in
    let d = c.index-members-i.result in
    let f = c.loop-i.invariant in
    let u = members_bound ms c.args.values.now c.args.at c.loop-i.end c.loop-i.i (held c.args.memory.now) (held c.loop-i.memory) d f c.loop-i-test.true c.index-members-i.is in
    let start : c.rounded_up-start.result ≡ align_to c.loop-i.end (align_of (plain (tree_of d.tref))) = c.rounded_up-start.ensures ∙ ap (align_to c.loop-i.end) c.layout_of-layout.ensures.align in
    let w = members_within ms c.args.values.now c.args.at c.loop-i.end c.loop-i.i (held c.args.memory.now) (held c.loop-i.memory) d c.index-values-i.result f c.loop-i-test.true c.index-members-i.is u c.index-values-i.is in
    let small : c.rounded_up-start.result + c.layout_of-layout.result.size ≤ 2 ^ 32 = omega (arith, start, w, f.room.within, c.layout_of-layout.ensures.size) in
    omega (arith, small)

pub write_members-loop-i-preserved : goal.write_members-loop-i-preserved
write_members-loop-i-preserved t c =
    let ms = c.args.members.now in
    let vs = c.args.values.now in
    let d = c.index-members-i.result in
    let v = c.index-values-i.result in
    let f = c.loop-i.invariant in
    let u = members_bound ms vs c.args.at c.loop-i.end c.loop-i.i (held c.args.memory.now) (held c.loop-i.memory) d f c.loop-i-test.true c.index-members-i.is in
    let start : c.rounded_up-start.result ≡ align_to c.loop-i.end (align_of (plain (tree_of d.tref))) = c.rounded_up-start.ensures ∙ ap (align_to c.loop-i.end) c.layout_of-layout.ensures.align in
    let w : Writes (c.args.at + align_to c.loop-i.end (align_of (plain (tree_of d.tref)))) (image (plain (tree_of d.tref)) (seen v)) (held c.loop-i.memory) (held c.write_type.new.memory) = subst (λ s. Writes (c.args.at + s) (image (plain (tree_of d.tref)) (seen v)) (held c.loop-i.memory) (held c.write_type.new.memory)) start c.write_type.ensures in
    let next = members_next ms vs c.args.at c.loop-i.end c.loop-i.i (held c.args.memory.now) (held c.loop-i.memory) d v f c.loop-i-test.true c.index-members-i.is u c.index-values-i.is (held c.write_type.new.memory) w in
    let end : align_to c.loop-i.end (align_of (plain (tree_of d.tref))) + size_of (plain (tree_of d.tref)) ≡ c.rounded_up-start.result + c.layout_of-layout.result.size = omega (arith, start, c.layout_of-layout.ensures.size) in
    subst (λ e. MembersLeft ms vs c.args.at e (c.loop-i.i + 1) (held c.args.memory.now) (held c.write_type.new.memory)) end next

pub write_type-write_datatype-requires : goal.write_type-write_datatype-requires
write_type-write_datatype-requires t c =
    let e = behind_plain (datatype_tree c.deref.result.now) (tree_of c.args.ty.now) (ap datatype_tree c.deref.ensures ∙ c.type_.ensures) in
    (omega (arith, ap nodes e), (can_by _ _ (seen c.args.value.now) e c.requires.value, (room_by c.args.at _ _ (held c.args.memory.now) e c.requires.room, known_by _ _ _ e c.requires.known)))

pub write_type-returns : goal.write_type-returns
write_type-returns t c =
    let e = behind_plain (datatype_tree c.deref.result.now) (tree_of c.args.ty.now) (ap datatype_tree c.deref.ensures ∙ c.type_.ensures) in
    subst (λ t. Writes c.args.at (image t (seen c.args.value.now)) (held c.args.memory.now) (held c.write_datatype.new.memory)) (sym e) c.write_datatype.ensures

pub write_record-write_members-requires : goal.write_record-write_members-requires
write_record-write_members-requires t c =
    let k = (out-RecordDatatype c.args.record_type.now).kind in
    let v = c.args.value.now in
    let e = record-plain c.args.record_type.now ∙ ap (λ ms. Plain.record_of k (members_plain ms)) (sym c.as_slice-members.ensures) in
    let ms = members_plain c.as_slice-members.result.now in
    let members = subst (HasMembers v) (sym c.as_slice.ensures) c.in-Tuple.is in (
      omega (arith, ap nodes e),
      (
        record_can k ms v c.as_slice.result.now (can_by _ _ (seen v) e c.requires.value) members,
        (
          record_room k ms c.args.at (held c.args.memory.now) c.in_default.not-Bitflags (room_by c.args.at _ (Plain.record_of k ms) (held c.args.memory.now) e c.requires.room),
          known_members k ms _ c.in_default.not-Bitflags (known_by _ _ _ e c.requires.known),
        ),
      ),
    )

pub write_record-returns : goal.write_record-returns
write_record-returns t c =
    let k = (out-RecordDatatype c.args.record_type.now).kind in
    let v = c.args.value.now in
    let e = record-plain c.args.record_type.now ∙ ap (λ ms. Plain.record_of k (members_plain ms)) (sym c.as_slice-members.ensures) in
    let members = subst (HasMembers v) (sym c.as_slice.ensures) c.in-Tuple.is in
    subst (λ t. Writes c.args.at (image t (seen c.args.value.now)) (held c.args.memory.now) (held c.write_members.new.memory)) (sym e)
    (record_written k (members_plain c.as_slice-members.result.now) v c.as_slice.result.now c.args.at (held c.args.memory.now) (held c.write_members.new.memory) (can_by _ _ (seen v) e c.requires.value) members c.write_members.ensures)

pub write_record-unreachable-requires : goal.write_record-unreachable-requires
write_record-unreachable-requires t c =
    let v = c.args.value.now in
    other_members (out-RecordDatatype c.args.record_type.now).kind _ v (can_by _ _ (seen v) (record-plain c.args.record_type.now) c.requires.value) c.in_default.not-Bitflags c.in_default-value.not-Tuple c.in_default-value.not-Rec

pub write_payload-bounds-cases-i : goal.write_payload-bounds-cases-i
write_payload-bounds-cases-i t c = payload_bound c.args.cases.now c.args.i c.args.payload.now c.in-Some.value c.requires.value c.in-Some.is

pub write_payload-write_type-requires : goal.write_payload-write_type-requires
write_payload-write_type-requires t c =
    let d = c.index-cases-i.result in
    let told : d.tref ≡ Some c.in-Some-tref.tref = ap (λ (d : Case). d.tref) c.index-cases-i.is ∙ c.in-Some-tref.is in
    let l : c.args.i < length c.args.cases.now = payload_bound c.args.cases.now c.args.i c.args.payload.now c.in-Some.value c.requires.value c.in-Some.is in
    let can = case_can_be c.args.cases.now c.args.i c.args.payload.now c.in-Some.value d c.requires.value c.in-Some.is c.index-cases-i.is in
    let room = case_has_room c.args.cases.now c.args.i c.args.payload.now c.in-Some.value d c.requires.value c.in-Some.is c.index-cases-i.is c.args.at (held c.args.memory.now) c.requires.room in (
      omega (arith, payload_fewer c.args.cases.now c.args.i d l c.index-cases-i.is, ap payload_nodes told),
      (
        subst (λ u. CanWrite (plain (tree_of c.in-Some-tref.tref)) (seen u)) (sym c.deref.ensures) (case_can_by _ _ (seen c.in-Some.value.value) told can),
        (
          case_room_by c.args.at _ _ (held c.args.memory.now) told room,
          payload_known_by _ _ _ told (payload_known c.args.cases.now (option_copied c.args.known) c.args.i (option_copied c.known_part-part.result) c.requires.known l c.known_part-part.ensures d c.index-cases-i.is),
        ),
      ),
    )

pub write_payload-returns-in-Some-tref : goal.write_payload-returns-in-Some-tref
write_payload-returns-in-Some-tref t c =
    let told : c.index-cases-i.result.tref ≡ Some c.in-Some-tref.tref = ap (λ (d : Case). d.tref) c.index-cases-i.is ∙ c.in-Some-tref.is in
    case_is_written c.args.cases.now c.args.i c.args.payload.now c.in-Some.value c.index-cases-i.result c.requires.value c.in-Some.is c.index-cases-i.is c.args.at (held c.args.memory.now) (held c.write_type.new.memory)
    (subst (λ o. Writes c.args.at (type_image o (seen c.in-Some.value.value)) (held c.args.memory.now) (held c.write_type.new.memory)) (sym told)
    (subst (λ u. Writes c.args.at (image (plain (tree_of c.in-Some-tref.tref)) (seen u)) (held c.args.memory.now) (held c.write_type.new.memory)) c.deref.ensures c.write_type.ensures))

pub write_payload-returns-in_default-tref : goal.write_payload-returns-in_default-tref
write_payload-returns-in_default-tref t c =
    let told : c.index-cases-i.result.tref ≡ None = ap (λ (d : Case). d.tref) c.index-cases-i.is ∙ c.in_default-tref.is in
    absurd (case_can_by _ _ (seen c.in-Some.value.value) told
    (case_can_be c.args.cases.now c.args.i c.args.payload.now c.in-Some.value c.index-cases-i.result c.requires.value c.in-Some.is c.index-cases-i.is))

pub write_variant-write_payload-requires : goal.write_variant-write_payload-requires
write_variant-write_payload-requires t c =
    let r = (out-Variant c.args.variant.now).tag_repr in
    let cs = cases_plain c.as_slice.result.now in
    let v = c.args.value.now in
    let e = variant-plain c.args.variant.now ∙ ap (λ cs. Plain.variant_of r (cases_plain cs)) (sym c.as_slice.ensures) in
    let offset = c.payload_begin.ensures ∙ ap (λ cs. payload_offset r (cases_plain cs)) (sym c.as_slice.ensures) in
    let whole = payload_room r cs c.args.at (held c.args.memory.now) (room_by c.args.at _ (Plain.variant_of r cs) (held c.args.memory.now) e c.requires.room) in
    let room = range_kept (c.args.at + payload_offset r cs) (payloads_size cs) c.args.at (little c.mem_align-width.result c.in-Case.i) (held c.args.memory.now) (held c.write_number-in-Case.new.memory) whole c.write_number-in-Case.ensures in (
      omega (arith, ap nodes e),
      (
        case_can r cs v c.in-Case.i c.in-Case.payload (can_by _ _ (seen v) e c.requires.value) c.in-Case.is,
        (subst (λ o. HasRange (c.args.at + o) (payloads_size cs) (held c.write_number-in-Case.new.memory)) (sym offset) room, known_cases r cs _ (known_by _ _ _ e c.requires.known)),
      ),
    )

pub write_variant-unreachable-requires : goal.write_variant-unreachable-requires
write_variant-unreachable-requires t c =
    let v = c.args.value.now in
    other_variant (out-Variant c.args.variant.now).tag_repr _ v (can_by _ _ (seen v) (variant-plain c.args.variant.now) c.requires.value) c.in_default.not-Enum c.in_default.not-Case

pub write_variant-returns-in-Enum : goal.write_variant-returns-in-Enum
write_variant-returns-in-Enum t c =
    let r = (out-Variant c.args.variant.now).tag_repr in
    let cs = cases_plain (out-Variant c.args.variant.now).cases in
    subst (λ t. Writes c.args.at (image t (seen c.args.value.now)) (held c.args.memory.now) (held c.write_number.new.memory)) (sym (variant-plain c.args.variant.now))
    (enum_written r cs c.args.value.now c.in-Enum.i c.args.at c.mem_align-width.result (held c.args.memory.now) (held c.write_number.new.memory) c.in-Enum.is c.mem_align-width.ensures c.write_number.ensures)

pub write_variant-returns-in-Case : goal.write_variant-returns-in-Case
write_variant-returns-in-Case t c =
    let r = (out-Variant c.args.variant.now).tag_repr in
    let cs = cases_plain c.as_slice.result.now in
    let e = variant-plain c.args.variant.now ∙ ap (λ cs. Plain.variant_of r (cases_plain cs)) (sym c.as_slice.ensures) in
    let offset = c.payload_begin.ensures ∙ ap (λ cs. payload_offset r (cases_plain cs)) (sym c.as_slice.ensures) in
    subst (λ t. Writes c.args.at (image t (seen c.args.value.now)) (held c.args.memory.now) (held c.write_payload.new.memory)) (sym e)
    (case_written r cs c.args.value.now c.in-Case.i c.in-Case.payload c.args.at c.mem_align-width.result (c.args.at + c.payload_begin.result) (held c.args.memory.now) (held c.write_number-in-Case.new.memory) (held c.write_payload.new.memory)
    c.in-Case.is c.mem_align-width.ensures c.write_number-in-Case.ensures (ap (λ o. c.args.at + o) offset) c.write_payload.ensures)
