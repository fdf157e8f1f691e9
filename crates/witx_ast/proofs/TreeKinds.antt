-- The tree of a datatype is no name, and a plain tree sees through names.
use Rattle.std.specs.Prelude.{◌≡◌, false, map}
use Rattle.std.proofs.Common.{refl, ◌∙◌}
use Rattle.witx_ast.specs.Tree.{Tree, behind, builtin, handle, list_of, pointer_to, const_pointer_to, record_of, variant_of, fields_of, arms_of}
use Rattle.witx_ast.specs.Plain.{plain}
use Rattle.witx_ast.specs.Views.{tree_of, datatype_tree, member_field, case_arm}
use Rattle.witx_ast.specs.Words.{is_named}
use Rattle.witx_ast.proofs.Trees.{tree-Record, tree-Variant, tree-Handle, tree-List, tree-Pointer, tree-ConstPointer, tree-Builtin, tree-RecordDatatype, tree-VariantDatatype, tree_rules}
use Rattle.witx_ast.specs.declared.types.Datatype.{Datatype, Record, Variant, Handle, List, Pointer, ConstPointer, Builtin}
use Rattle.witx_ast.specs.declared.types.RecordDatatype.{out-RecordDatatype}
use Rattle.witx_ast.specs.declared.types.Variant.{out-Variant}

-- the tree of a datatype, by its form
abbrev pub form_tree : Datatype → Tree
form_tree (Record r) = record_of (out-RecordDatatype r).kind (fields_of (map member_field (out-RecordDatatype r).members))
form_tree (Variant v) = variant_of (out-Variant v).tag_repr (arms_of (map case_arm (out-Variant v).cases))
form_tree (Handle h) = handle
form_tree (List t) = list_of (tree_of t)
form_tree (Pointer t) = pointer_to (tree_of t)
form_tree (ConstPointer t) = const_pointer_to (tree_of t)
form_tree (Builtin b) = builtin b

pub form-is : (d : Datatype) → datatype_tree d ≡ form_tree d
form-is (Record r) = tree-Record r ∙ tree-RecordDatatype r
form-is (Variant v) = tree-Variant v ∙ tree-VariantDatatype v
form-is (Handle h) = tree-Handle h
form-is (List t) = tree-List t
form-is (Pointer t) = tree-Pointer t
form-is (ConstPointer t) = tree-ConstPointer t
form-is (Builtin b) = tree-Builtin b

behind-form : (d : Datatype) → behind (form_tree d) ≡ form_tree d
behind-form (Record r) = refl
behind-form _ = refl

pub behind-datatype : (d : Datatype) → behind (datatype_tree d) ≡ datatype_tree d
behind-datatype d = rw (form-is d) (behind-form d)

named-form : (d : Datatype) → is_named (form_tree d) ≡ false
named-form (Record r) = refl
named-form _ = refl

pub named-datatype : (d : Datatype) → is_named (datatype_tree d) ≡ false
named-datatype d = rw (form-is d) (named-form d)

-- what stands behind the names has the same plain tree
pub plain-behind : (t : Tree) → plain (behind t) ≡ plain t
plain-behind (Tree.named name t docs) = plain-behind t
plain-behind _ = refl

pub ruleset kind_rules = (tree_rules, behind-datatype, named-datatype)
