-- The equations of the trees of types. A case may have a type, which is told here by the type itself.
use Rattle.std.specs.Prelude.{◌≡◌, option_map}
use Rattle.std.proofs.Common.{rules}
use Rattle.witx_syntax_tree.specs.Views.{type_view, case_view, field_view, name_view, maybe_of}
use Rattle.witx_syntax_tree.specs.declared.tree.TypedefSyntax.{the_lemmas}
use Rattle.witx_syntax_tree.specs.declared.tree.CaseSyntax.{CaseSyntax}
use Rattle.witx_syntax_tree.proofs.TypeViews.{view-Enum, view-Tuple, view-Expected, view-Flags, view-Record, view-Union, view-Variant, view-Handle, view-List, view-Pointer, view-ConstPointer, view-Builtin, view-Ident, view-String, view-Bool, view-Field}

pub case-CaseSyntax : (c : CaseSyntax) → case_view c ≡ record { name = name_view c.name; ty = maybe_of (option_map type_view c.ty) }
unfolding type_view case_view field_view
case-CaseSyntax c = search (rules, the_lemmas)

pub ruleset form_rules = (view-Enum, view-Tuple, view-Expected, view-Flags, view-Record, view-Union, view-Variant, view-Handle, view-List, view-Pointer, view-ConstPointer, view-Builtin, view-Ident, view-String, view-Bool, view-Field, case-CaseSyntax)
