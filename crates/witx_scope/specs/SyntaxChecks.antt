-- The checks of a type, and what it means, by the parts of its syntax tree.
use Rattle.std.specs.Prelude.{◌≡◌, ℕ, Bool, false, not, List, ◌∷◌, [], ◌++◌, Option, Some, None, option_map, length, map}
use Rattle.witx_base.specs.Found.{found}
use Rattle.witx_syntax_tree.specs.Trees.{Maybe, Member, TypeTree, handle, enum_of, flags_of, record_of, union_of, variant_of, tuple_of, expected}
use Rattle.witx_comments.specs.Comments.{comments_view}
use Rattle.witx_syntax_tree.specs.Views.{boxed_view, maybe_of, type_view, fields_view, types_view, union_fields_view, cases_view, member_view}
use Rattle.witx_comments.specs.declared.comment.Documented.{Documented}
use Rattle.witx_syntax_tree.specs.declared.tree.IdSyntax.{IdSyntax}
use Rattle.witx_comments.specs.Documentation.{documentation_of}
use Rattle.witx_comments.specs.declared.comment.CommentSyntax.{CommentSyntax}
use Rattle.witx_syntax_tree.specs.declared.tree.EnumSyntax.{EnumSyntax}
use Rattle.witx_syntax_tree.specs.declared.tree.FlagsSyntax.{FlagsSyntax}
use Rattle.witx_syntax_tree.specs.declared.tree.RecordSyntax.{RecordSyntax, out-RecordSyntax}
use Rattle.witx_syntax_tree.specs.declared.tree.TypedefSyntax.{TypedefSyntax}
use Rattle.witx_syntax_tree.specs.declared.tree.TupleSyntax.{TupleSyntax, out-TupleSyntax}
use Rattle.witx_syntax_tree.specs.declared.tree.ExpectedSyntax.{ExpectedSyntax, out-ExpectedSyntax}
use Rattle.witx_syntax_tree.specs.declared.tree.UnionSyntax.{UnionSyntax, out-UnionSyntax}
use Rattle.witx_syntax_tree.specs.declared.tree.VariantSyntax.{VariantSyntax, out-VariantSyntax}
use Rattle.witx_files.specs.declared.location.Location.{Location}
use Rattle.witx_ast.specs.Tree.{Tree, Field, Arm}
use Rattle.witx_scope.specs.Faults.{Check}
use Rattle.witx_scope.specs.Integers.{constant_type_checks}
use Rattle.witx_scope.specs.Names.{Here, NameMarks, use_check, sense_tree}
use Rattle.witx_scope.specs.Tags.{repr_check, tag_checks, size_check, case_check, tag_names}
use Rattle.witx_scope.specs.Trees.{maybe_tree, tree_meant}
use Rattle.witx_scope.specs.Checks.{type_checks, member_checks, field_checks, each_type_checks, maybe_checks, union_field_checks, case_checks}
use Rattle.std.specs.Map.{keys_of}

-- a name that is used, and what it stands for
abbrev pub used_check : Here → IdSyntax → Check
used_check h n = use_check n.name.now (h.place n.span.start) (h.sense n.name.now)

abbrev pub denoted_tree : Here → IdSyntax → Tree
denoted_tree h n = sense_tree (h.sense n.name.now)

-- the name of a constant's type
abbrev pub integer_name_checks : Here → IdSyntax → List Check
integer_name_checks h n = constant_type_checks n.name.now (h.place n.span.start) (h.sense n.name.now)

-- a member, and a case, of these parts
abbrev pub made_field : List ℕ → Tree → CommentSyntax → Field
made_field name t comments = record { called = name; tree = t; comment = documentation_of (comments_view comments) }

abbrev pub made_arm : List ℕ → Option Tree → CommentSyntax → Arm
made_arm name t comments = record { called = name; payload = t; comment = documentation_of (comments_view comments) }

-- the checks of a type, whose nearest identifier stands at an offset
abbrev pub checks_of : Here → Bool → ℕ → TypedefSyntax → List Check
checks_of h named near t = type_checks h named (h.place near) (type_view t)

-- the type of a case, if it has one
abbrev pub payload_view : Option TypedefSyntax → Maybe
payload_view t = maybe_of (option_map type_view t)

abbrev pub part_checks : Here → ℕ → List (Documented TypedefSyntax) → List Check
part_checks h near ts = union_field_checks h (h.place near) (union_fields_view ts)

abbrev pub member_views : List (Documented IdSyntax) → List Member
member_views ns = map member_view ns

abbrev pub enum_checks : Here → Location → EnumSyntax → List Check
enum_checks h near e = repr_check e.repr near ∷ member_checks h [] (member_views e.members)

abbrev pub flags_checks : Here → Location → FlagsSyntax → List Check
flags_checks h near f = repr_check f.repr near ∷ member_checks h [] (member_views f.flags)

abbrev pub record_checks : Here → RecordSyntax → List Check
record_checks h r = field_checks h [] (fields_view (out-RecordSyntax r).fields)

abbrev pub record_meant : Here → RecordSyntax → Tree
record_meant h r = tree_meant h (record_of (fields_view (out-RecordSyntax r).fields))

abbrev pub tuple_checks : Here → Location → TupleSyntax → List Check
tuple_checks h near t = each_type_checks h near (types_view (out-TupleSyntax t).types)

abbrev pub tuple_meant : Here → TupleSyntax → Tree
tuple_meant h t = tree_meant h (tuple_of (types_view (out-TupleSyntax t).types))

abbrev pub expected_checks : Here → Location → ExpectedSyntax → List Check
expected_checks h near e =
    maybe_checks h near (boxed_view (out-ExpectedSyntax e).ok) ++ maybe_checks h near (boxed_view (out-ExpectedSyntax e).err)

abbrev pub expected_meant : Here → ExpectedSyntax → Tree
expected_meant h e = tree_meant h (expected (boxed_view (out-ExpectedSyntax e).ok) (boxed_view (out-ExpectedSyntax e).err))

-- what a tag fails, with its own type's checks
abbrev pub all_tag_checks : Here → Location → Maybe → List Check
all_tag_checks h near tag = maybe_checks h near tag ++ tag_checks (maybe_tree h tag) near

abbrev pub union_tag : UnionSyntax → Maybe
union_tag u = boxed_view (out-UnionSyntax u).tag

abbrev pub union_checks : Here → Location → UnionSyntax → List Check
union_checks h near u =
    all_tag_checks h near (union_tag u)
    ++ (size_check (tag_names (maybe_tree h (union_tag u))) (length (out-UnionSyntax u).fields) near
    ∷ union_field_checks h near (union_fields_view (out-UnionSyntax u).fields))

abbrev pub union_meant : Here → UnionSyntax → Tree
union_meant h u = tree_meant h (union_of (union_tag u) (union_fields_view (out-UnionSyntax u).fields))

abbrev pub variant_tag : VariantSyntax → Maybe
variant_tag v = boxed_view (out-VariantSyntax v).tag

abbrev pub variant_checks : Here → Location → VariantSyntax → List Check
variant_checks h near v =
    all_tag_checks h near (variant_tag v)
    ++ (size_check (tag_names (maybe_tree h (variant_tag v))) (length (out-VariantSyntax v).cases) near
    ∷ case_checks h (tag_names (maybe_tree h (variant_tag v))) [] (cases_view (out-VariantSyntax v).cases))

abbrev pub variant_meant : Here → VariantSyntax → Tree
variant_meant h v = tree_meant h (variant_of (variant_tag v) (cases_view (out-VariantSyntax v).cases))

-- the check of a case's name, where these cases stand before it
abbrev pub name_check : Here → Option (List (List ℕ)) → NameMarks → IdSyntax → Check
name_check h names seen n = case_check names (keys_of seen) n.name.now (h.place n.span.start)

-- the names of cases, with one more: only a tag with names asks for them
abbrev pub Sees : Option (List (List ℕ)) → NameMarks → NameMarks → IdSyntax → Type 0
Sees None old new n = new ≡ old
Sees (Some names) old new n = (q : List ℕ) → found new q ≡ found ((n.name.now, n.span.start) ∷ old) q

-- a type that stands for itself only under a name has none
abbrev pub lacks_name : Bool → TypeTree → Bool
lacks_name named handle = not named
lacks_name named (enum_of repr ns) = not named
lacks_name named (flags_of repr ns) = not named
lacks_name named (record_of rs) = not named
lacks_name named (union_of tag ps) = not named
lacks_name named t = false
