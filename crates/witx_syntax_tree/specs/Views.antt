-- The trees that the trees of the code are.
use Rattle.std.specs.Prelude.{List, [], ◌∷◌, map, Option, Some, None}
use Rattle.std.specs.Global.{Box}
use Rattle.witx_comments.specs.declared.comment.Documented.{Documented}
use Rattle.witx_syntax_tree.specs.declared.tree.IdSyntax.{IdSyntax}
use Rattle.witx_syntax_tree.specs.declared.tree.TypedefSyntax.{TypedefSyntax, fold-TypedefSyntax}
use Rattle.witx_syntax_tree.specs.declared.tree.TypedefSyntax.TheOpen.{TypedefSyntax-F, TupleSyntax-F, ExpectedSyntax-F, RecordSyntax-F, FieldSyntax-F, UnionSyntax-F, VariantSyntax-F, CaseSyntax-F}
use Rattle.witx_syntax_tree.specs.declared.tree.FieldSyntax.{FieldSyntax, fold-FieldSyntax}
use Rattle.witx_syntax_tree.specs.declared.tree.CaseSyntax.{CaseSyntax, fold-CaseSyntax}
use Rattle.witx_syntax_tree.specs.declared.tree.ModuleDeclSyntax.{ModuleDeclSyntax}
use Rattle.witx_syntax_tree.specs.declared.tree.ModuleDeclSyntax.TheVariants as module_decl
use Rattle.witx_syntax_tree.specs.declared.tree.DeclSyntax.{DeclSyntax}
use Rattle.witx_syntax_tree.specs.declared.tree.DeclSyntax.TheVariants as decl
use Rattle.witx_syntax_tree.specs.declared.tree.TopLevelSyntax.{TopLevelSyntax}
use Rattle.witx_syntax_tree.specs.declared.tree.TopLevelSyntax.TheVariants as top
use Rattle.witx_syntax_tree.specs.declared.tree.TopLevelDocument.{TopLevelDocument}
use Rattle.witx_comments.specs.Comments.{comments_view}
use Rattle.witx_syntax_tree.specs.Trees.{Name, Member, TypeTree, ident, builtin, string, boolean, handle, list_of, pointer_to, const_pointer_to, tuple_of, enum_of, flags_of, record_of, union_of, variant_of, expected, Maybe, absent, present, Types, no_types, one_type, Fields, no_fields, one_field, UnionFields, no_union_fields, one_union_field, Cases, no_cases, one_case, DeclTree, memory, function, NotedDecl, FormTree, uses, typename, module_of, constant, NotedItem, Document}

abbrev pub name_view : IdSyntax → Name
name_view i = record { name = i.name.now; start = i.span.start; end = i.span.end }

abbrev pub member_view : Documented IdSyntax → Member
member_view d = record { comments = comments_view d.comments; name = name_view d.item }

-- a field and a case whose types are already seen
pub record FieldView : Type 0 where
  pub name : Name
  pub type_ : TypeTree

pub record CaseView : Type 0 where
  pub name : Name
  pub ty : Maybe

abbrev pub types_of : List TypeTree → Types
types_of [] = no_types
types_of (t ∷ ts) = one_type t (types_of ts)

abbrev pub syntax_fields_of : List (Documented FieldView) → Fields
syntax_fields_of [] = no_fields
syntax_fields_of (d ∷ ds) = one_field (comments_view d.comments) d.item.name d.item.type_ (syntax_fields_of ds)

abbrev pub union_fields_of : List (Documented TypeTree) → UnionFields
union_fields_of [] = no_union_fields
union_fields_of (d ∷ ds) = one_union_field (comments_view d.comments) d.item (union_fields_of ds)

abbrev pub cases_of : List (Documented CaseView) → Cases
cases_of [] = no_cases
cases_of (d ∷ ds) = one_case (comments_view d.comments) d.item.name d.item.ty (cases_of ds)

abbrev pub maybe_of : Option TypeTree → Maybe
maybe_of None = absent
maybe_of (Some t) = present t

abbrev pub maybe_boxed : Option (Box TypeTree) → Maybe
maybe_boxed None = absent
maybe_boxed (Some b) = present b.value

-- one level, with each part already seen
abbrev pub type_step : TypedefSyntax-F TypeTree CaseView TypeTree FieldView TypeTree TypeTree TypeTree TypeTree → TypeTree
type_step (TypedefSyntax-F.Enum e) = enum_of e.repr (map member_view e.members)
type_step (TypedefSyntax-F.Tuple t) = t
type_step (TypedefSyntax-F.Expected t) = t
type_step (TypedefSyntax-F.Flags f) = flags_of f.repr (map member_view f.flags)
type_step (TypedefSyntax-F.Record t) = t
type_step (TypedefSyntax-F.Union t) = t
type_step (TypedefSyntax-F.Variant t) = t
type_step (TypedefSyntax-F.Handle h) = handle
type_step (TypedefSyntax-F.List b) = list_of b.value
type_step (TypedefSyntax-F.Pointer b) = pointer_to b.value
type_step (TypedefSyntax-F.ConstPointer b) = const_pointer_to b.value
type_step (TypedefSyntax-F.Builtin b) = builtin b
type_step (TypedefSyntax-F.Ident i) = ident (name_view i)
type_step TypedefSyntax-F.String = string
type_step TypedefSyntax-F.Bool = boolean

abbrev pub syntax_case_step : CaseSyntax-F TypeTree CaseView TypeTree FieldView TypeTree TypeTree TypeTree TypeTree → CaseView
syntax_case_step c = record { name = name_view c.name; ty = maybe_of c.ty }

abbrev pub expected_step : ExpectedSyntax-F TypeTree CaseView TypeTree FieldView TypeTree TypeTree TypeTree TypeTree → TypeTree
expected_step e = expected (maybe_boxed e.ok) (maybe_boxed e.err)

abbrev pub field_step : FieldSyntax-F TypeTree CaseView TypeTree FieldView TypeTree TypeTree TypeTree TypeTree → FieldView
field_step f = record { name = name_view f.name; type_ = f.type_ }

abbrev pub syntax_record_step : RecordSyntax-F TypeTree CaseView TypeTree FieldView TypeTree TypeTree TypeTree TypeTree → TypeTree
syntax_record_step r = record_of (syntax_fields_of r.fields)

abbrev pub tuple_step : TupleSyntax-F TypeTree CaseView TypeTree FieldView TypeTree TypeTree TypeTree TypeTree → TypeTree
tuple_step t = tuple_of (types_of t.types)

abbrev pub union_step : UnionSyntax-F TypeTree CaseView TypeTree FieldView TypeTree TypeTree TypeTree TypeTree → TypeTree
union_step u = union_of (maybe_boxed u.tag) (union_fields_of u.fields)

abbrev pub syntax_variant_step : VariantSyntax-F TypeTree CaseView TypeTree FieldView TypeTree TypeTree TypeTree TypeTree → TypeTree
syntax_variant_step v = variant_of (maybe_boxed v.tag) (cases_of v.cases)

unfoldable pub type_view : TypedefSyntax → TypeTree
type_view = fold-TypedefSyntax TypeTree CaseView TypeTree FieldView TypeTree TypeTree TypeTree TypeTree type_step syntax_case_step expected_step field_step syntax_record_step tuple_step union_step syntax_variant_step

unfoldable pub case_view : CaseSyntax → CaseView
case_view = fold-CaseSyntax TypeTree CaseView TypeTree FieldView TypeTree TypeTree TypeTree TypeTree type_step syntax_case_step expected_step field_step syntax_record_step tuple_step union_step syntax_variant_step

unfoldable pub field_view : FieldSyntax → FieldView
field_view = fold-FieldSyntax TypeTree CaseView TypeTree FieldView TypeTree TypeTree TypeTree TypeTree type_step syntax_case_step expected_step field_step syntax_record_step tuple_step union_step syntax_variant_step

abbrev pub boxed_view : Option (Box TypedefSyntax) → Maybe
boxed_view None = absent
boxed_view (Some b) = present (type_view b.value)

abbrev pub optional_view : Option TypedefSyntax → Maybe
optional_view None = absent
optional_view (Some t) = present (type_view t)

abbrev pub noted_field : Documented FieldSyntax → Documented FieldView
noted_field d = record { comments = d.comments; item = field_view d.item }

abbrev pub noted_type : Documented TypedefSyntax → Documented TypeTree
noted_type d = record { comments = d.comments; item = type_view d.item }

abbrev pub noted_case : Documented CaseSyntax → Documented CaseView
noted_case d = record { comments = d.comments; item = case_view d.item }

abbrev pub types_view : List TypedefSyntax → Types
types_view ts = types_of (map type_view ts)

abbrev pub fields_view : List (Documented FieldSyntax) → Fields
fields_view fs = syntax_fields_of (map noted_field fs)

abbrev pub union_fields_view : List (Documented TypedefSyntax) → UnionFields
union_fields_view fs = union_fields_of (map noted_type fs)

abbrev pub cases_view : List (Documented CaseSyntax) → Cases
cases_view cs = cases_of (map noted_case cs)

abbrev pub decl_view : ModuleDeclSyntax → DeclTree
decl_view (module_decl.Import i) = memory (record { text = i.name; start = i.name_loc.start; end = i.name_loc.end })
decl_view (module_decl.Func f) = function (record { text = f.export; start = f.export_loc.start; end = f.export_loc.end }) (fields_view f.params) (fields_view f.results) f.noreturn f.stored

abbrev pub noted_decl : Documented ModuleDeclSyntax → NotedDecl
noted_decl d = record { comments = comments_view d.comments; decl = decl_view d.item }

abbrev pub declaration_view : DeclSyntax → FormTree
declaration_view (decl.Typename t) = typename (name_view t.ident) (type_view t.def)
declaration_view (decl.Module m) = module_of (name_view m.name) (map noted_decl m.decls)
declaration_view (decl.Const d) = constant (comments_view d.comments) (name_view d.item.ty) (name_view d.item.name) d.item.value

abbrev pub item_view : TopLevelSyntax → FormTree
item_view (top.Decl d) = declaration_view d
item_view (top.Use t) = uses t

abbrev pub noted_item : Documented TopLevelSyntax → NotedItem
noted_item d = record { comments = comments_view d.comments; item = item_view d.item }

abbrev pub document_view : TopLevelDocument → Document
document_view d = map noted_item d.items
