-- The equations of the trees of types.
use Rattle.std.specs.Prelude.{◌≡◌, map}
use Rattle.std.proofs.Common.{rules}
use Rattle.std.specs.declared.boxed.Box.{Box}
use Rattle.std.specs.declared.alloc.Global.{Global}
use Rattle.witx_syntax_tree.specs.Trees.{TypeTree}
use Rattle.witx_syntax_tree.specs.Views.{type_view, case_view, field_view, boxed_view, optional_view, name_view, member_view, types_view, fields_view, union_fields_view, cases_view}
use Rattle.witx_syntax_tree.specs.declared.tree.TypedefSyntax.{TypedefSyntax, the_lemmas}
use Rattle.witx_syntax_tree.specs.declared.tree.TypedefSyntax.TheVariants as typedef
use Rattle.witx_syntax_tree.specs.declared.tree.BuiltinSyntax.{BuiltinSyntax}
use Rattle.witx_syntax_tree.specs.declared.tree.HandleSyntax.{HandleSyntax}
use Rattle.witx_syntax_tree.specs.declared.tree.IdSyntax.{IdSyntax}
use Rattle.witx_syntax_tree.specs.declared.tree.EnumSyntax.{EnumSyntax}
use Rattle.witx_syntax_tree.specs.declared.tree.FlagsSyntax.{FlagsSyntax}
use Rattle.witx_syntax_tree.specs.declared.tree.TupleSyntax.{TupleSyntax, out-TupleSyntax, out-roll-TupleSyntax}
use Rattle.witx_syntax_tree.specs.declared.tree.ExpectedSyntax.{ExpectedSyntax, out-ExpectedSyntax, out-roll-ExpectedSyntax}
use Rattle.witx_syntax_tree.specs.declared.tree.RecordSyntax.{RecordSyntax, out-RecordSyntax, out-roll-RecordSyntax}
use Rattle.witx_syntax_tree.specs.declared.tree.UnionSyntax.{UnionSyntax, out-UnionSyntax, out-roll-UnionSyntax}
use Rattle.witx_syntax_tree.specs.declared.tree.VariantSyntax.{VariantSyntax, out-VariantSyntax, out-roll-VariantSyntax}
use Rattle.witx_syntax_tree.specs.declared.tree.FieldSyntax.{FieldSyntax}
use Rattle.witx_syntax_tree.specs.declared.tree.CaseSyntax.{CaseSyntax}

pub view-Enum : (e : EnumSyntax) → type_view (typedef.Enum e) ≡ TypeTree.enum_of e.repr (map member_view e.members)
unfolding type_view case_view field_view
view-Enum e = search (rules, the_lemmas)

pub view-Tuple : (t : TupleSyntax) → type_view (typedef.Tuple t) ≡ TypeTree.tuple_of (types_view (out-TupleSyntax t).types)
unfolding type_view case_view field_view
view-Tuple t = search (rules, the_lemmas)

pub view-Expected : (e : ExpectedSyntax) → type_view (typedef.Expected e) ≡ TypeTree.expected (boxed_view (out-ExpectedSyntax e).ok) (boxed_view (out-ExpectedSyntax e).err)
unfolding type_view case_view field_view
view-Expected e = search (rules, the_lemmas)

pub view-Flags : (f : FlagsSyntax) → type_view (typedef.Flags f) ≡ TypeTree.flags_of f.repr (map member_view f.flags)
unfolding type_view case_view field_view
view-Flags f = search (rules, the_lemmas)

pub view-Record : (r : RecordSyntax) → type_view (typedef.Record r) ≡ TypeTree.record_of (fields_view (out-RecordSyntax r).fields)
unfolding type_view case_view field_view
view-Record r = search (rules, the_lemmas)

pub view-Union : (u : UnionSyntax) → type_view (typedef.Union u) ≡ TypeTree.union_of (boxed_view (out-UnionSyntax u).tag) (union_fields_view (out-UnionSyntax u).fields)
unfolding type_view case_view field_view
view-Union u = search (rules, the_lemmas)

pub view-Variant : (v : VariantSyntax) → type_view (typedef.Variant v) ≡ TypeTree.variant_of (boxed_view (out-VariantSyntax v).tag) (cases_view (out-VariantSyntax v).cases)
unfolding type_view case_view field_view
view-Variant v = search (rules, the_lemmas)

pub view-Handle : (h : HandleSyntax) → type_view (typedef.Handle h) ≡ TypeTree.handle
unfolding type_view case_view field_view
view-Handle h = search (rules, the_lemmas)

pub view-List : (b : Box TypedefSyntax Global) → type_view (typedef.List b) ≡ TypeTree.list_of (type_view b.value)
unfolding type_view case_view field_view
view-List b = search (rules, the_lemmas)

pub view-Pointer : (b : Box TypedefSyntax Global) → type_view (typedef.Pointer b) ≡ TypeTree.pointer_to (type_view b.value)
unfolding type_view case_view field_view
view-Pointer b = search (rules, the_lemmas)

pub view-ConstPointer : (b : Box TypedefSyntax Global) → type_view (typedef.ConstPointer b) ≡ TypeTree.const_pointer_to (type_view b.value)
unfolding type_view case_view field_view
view-ConstPointer b = search (rules, the_lemmas)

pub view-Builtin : (b : BuiltinSyntax) → type_view (typedef.Builtin b) ≡ TypeTree.builtin b
unfolding type_view case_view field_view
view-Builtin b = search (rules, the_lemmas)

pub view-Ident : (i : IdSyntax) → type_view (typedef.Ident i) ≡ TypeTree.ident (name_view i)
unfolding type_view case_view field_view
view-Ident i = search (rules, the_lemmas)

pub view-String : type_view typedef.String ≡ TypeTree.string
unfolding type_view case_view field_view
view-String = search (rules, the_lemmas)

pub view-Bool : type_view typedef.Bool ≡ TypeTree.boolean
unfolding type_view case_view field_view
view-Bool = search (rules, the_lemmas)

pub view-Field : (f : FieldSyntax) → field_view f ≡ record { name = name_view f.name; type_ = type_view f.type_ }
unfolding type_view case_view field_view
view-Field f = search (rules, the_lemmas)

pub view-Case : (c : CaseSyntax) → case_view c ≡ record { name = name_view c.name; ty = optional_view c.ty }
unfolding type_view case_view field_view
view-Case c = search (rules, the_lemmas)

pub ruleset view_rules = (view-Enum, view-Tuple, view-Expected, view-Flags, view-Record, view-Union, view-Variant, view-Handle, view-List, view-Pointer, view-ConstPointer, view-Builtin, view-Ident, view-String, view-Bool, view-Field, view-Case, out-roll-TupleSyntax, out-roll-ExpectedSyntax, out-roll-RecordSyntax, out-roll-UnionSyntax, out-roll-VariantSyntax)
