-- The tree of a type of the program: each level read once, names and documentation kept.
use Rattle.std.specs.Prelude.{List, map}
use Rattle.witx_ast.specs.Tree.{Tree, named, builtin, handle, list_of, pointer_to, const_pointer_to, record_of, variant_of, Field, Arm, fields_of, arms_of}
use Rattle.witx_ast.specs.Plain as plain
use Rattle.witx_ast.specs.Plain.{plain_fields, plain_arms}
use Rattle.witx_ast.specs.declared.types.Datatype.{Datatype, fold-Datatype}
use Rattle.witx_ast.specs.declared.types.Datatype.TheOpen.{Datatype-F, TypeRef-F, Case-F, NamedType-F, RecordDatatype-F, RecordMember-F, Variant-F}
use Rattle.witx_ast.specs.declared.types.TypeRef.{TypeRef, fold-TypeRef}
use Rattle.witx_ast.specs.declared.types.Case.{Case, fold-Case}
use Rattle.witx_ast.specs.declared.types.NamedType.{NamedType, fold-NamedType}
use Rattle.witx_ast.specs.declared.types.RecordDatatype.{RecordDatatype, fold-RecordDatatype}
use Rattle.witx_ast.specs.declared.types.RecordMember.{RecordMember, fold-RecordMember}
use Rattle.witx_ast.specs.declared.types.Variant.{Variant, fold-Variant}

-- one level, with each part already seen as its tree
abbrev pub datatype_step : Datatype-F Tree Tree Arm Tree Tree Field Tree → Tree
datatype_step (Datatype-F.Record t) = t
datatype_step (Datatype-F.Variant t) = t
datatype_step (Datatype-F.Handle h) = handle
datatype_step (Datatype-F.List t) = list_of t
datatype_step (Datatype-F.Pointer t) = pointer_to t
datatype_step (Datatype-F.ConstPointer t) = const_pointer_to t
datatype_step (Datatype-F.Builtin b) = builtin b

abbrev pub tref_step : TypeRef-F Tree Tree Arm Tree Tree Field Tree → Tree
tref_step (TypeRef-F.Name n) = n.value
tref_step (TypeRef-F.Value d) = d.value

abbrev pub case_step : Case-F Tree Tree Arm Tree Tree Field Tree → Arm
case_step c = record { called = c.name; payload = c.tref; comment = c.docs }

abbrev pub named_step : NamedType-F Tree Tree Arm Tree Tree Field Tree → Tree
named_step n = named n.name n.tref n.docs

abbrev pub record_step : RecordDatatype-F Tree Tree Arm Tree Tree Field Tree → Tree
record_step r = record_of r.kind (fields_of r.members)

abbrev pub member_step : RecordMember-F Tree Tree Arm Tree Tree Field Tree → Field
member_step m = record { called = m.name; tree = m.tref; comment = m.docs }

abbrev pub variant_step : Variant-F Tree Tree Arm Tree Tree Field Tree → Tree
variant_step v = variant_of v.tag_repr (arms_of v.cases)

unfoldable pub tree_of : TypeRef → Tree
tree_of = fold-TypeRef Tree Tree Arm Tree Tree Field Tree datatype_step tref_step case_step named_step record_step member_step variant_step

unfoldable pub datatype_tree : Datatype → Tree
datatype_tree = fold-Datatype Tree Tree Arm Tree Tree Field Tree datatype_step tref_step case_step named_step record_step member_step variant_step

unfoldable pub named_tree : NamedType → Tree
named_tree = fold-NamedType Tree Tree Arm Tree Tree Field Tree datatype_step tref_step case_step named_step record_step member_step variant_step

unfoldable pub record_tree : RecordDatatype → Tree
record_tree = fold-RecordDatatype Tree Tree Arm Tree Tree Field Tree datatype_step tref_step case_step named_step record_step member_step variant_step

unfoldable pub variant_tree : Variant → Tree
variant_tree = fold-Variant Tree Tree Arm Tree Tree Field Tree datatype_step tref_step case_step named_step record_step member_step variant_step

unfoldable pub member_field : RecordMember → Field
member_field = fold-RecordMember Tree Tree Arm Tree Tree Field Tree datatype_step tref_step case_step named_step record_step member_step variant_step

unfoldable pub case_arm : Case → Arm
case_arm = fold-Case Tree Tree Arm Tree Tree Field Tree datatype_step tref_step case_step named_step record_step member_step variant_step

-- the plain members, and the plain cases
abbrev pub members_plain : List RecordMember → plain.Fields
members_plain ms = plain_fields (fields_of (map member_field ms))

abbrev pub cases_plain : List Case → plain.Arms
cases_plain cs = plain_arms (arms_of (map case_arm cs))
