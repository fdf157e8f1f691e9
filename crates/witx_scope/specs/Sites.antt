-- A declaration where it stands, as the tables of a validator tell its inside.
use Rattle.std.specs.Prelude.{List, ℕ}
use Rattle.witx_comments.specs.Documentation.{documentation_of}
use Rattle.witx_files.specs.declared.location.Location.{Location}
use Rattle.witx_comments.specs.Comments.{comments_view}
use Rattle.witx_syntax_tree.specs.Views.{name_view, type_view}
use Rattle.witx_comments.specs.declared.comment.Documented.{Documented}
use Rattle.witx_syntax_tree.specs.declared.tree.ConstSyntax.{ConstSyntax}
use Rattle.witx_syntax_tree.specs.declared.tree.IdSyntax.{IdSyntax}
use Rattle.witx_syntax_tree.specs.declared.tree.TypenameSyntax.{TypenameSyntax}
use Rattle.witx_syntax_tree.specs.declared.tree.ModuleSyntax.{ModuleSyntax}
use Rattle.witx_ast.specs.Tree.{Tree, named}
use Rattle.witx_ast.specs.Definitions.{ModuleTree}
use Rattle.witx_ast.specs.declared.definition.Entry.{Entry}
use Rattle.witx_scope.specs.declared.site.Site as code
use Rattle.witx_scope.specs.declared.tables.Tables.{Tables}
use Rattle.witx_scope.specs.DeclarationForms.{items_in, typename_form, module_form, constant_form}
use Rattle.witx_scope.specs.Constants.{constant_place}
use Rattle.witx_scope.specs.Faults.{Check}
use Rattle.witx_scope.specs.Inside.{within, typename_checks, module_checks, module_meant}
use Rattle.witx_scope.specs.Integers.{constant_checks}
use Rattle.witx_scope.specs.Kept.{Kept}
use Rattle.witx_scope.specs.Names.{Names, Here}
use Rattle.witx_scope.specs.Places.{location_in}
use Rattle.witx_scope.specs.Senses.{kept_sense}
use Rattle.witx_scope.specs.Trees.{tree_meant}
use Rattle.witx_scope.specs.Validates.{Site}

abbrev pub kept_in : Tables → Kept
kept_in t = record { names = t.names; entries = t.entries; constants = t.constants.entries }

-- where a name stands that is written there
abbrev pub place_at : code.Site → IdSyntax → Location
place_at s n = location_in s.text.now s.path.now n.span.start

abbrev pub typename_at : code.Site → TypenameSyntax → Site
typename_at s d = record {
  place = location_in s.text.now s.path.now;
  comments = comments_view s.comments.now;
  form = typename_form (name_view d.ident) (type_view d.def);
}

abbrev pub module_at : code.Site → ModuleSyntax → Site
module_at s d = record {
  place = location_in s.text.now s.path.now;
  comments = comments_view s.comments.now;
  form = module_form (name_view d.name) (items_in d.decls);
}

-- the inside of a declaration of this name, after these names and entries
abbrev pub inside_at : Names → List (List ℕ × Entry) → code.Site → IdSyntax → Here
inside_at names entries s n = within names entries (location_in s.text.now s.path.now) (name_view n)

-- the checks of a declaration, and what it makes, after these names and entries
abbrev pub checks_typename : Names → List (List ℕ × Entry) → code.Site → TypenameSyntax → List Check
checks_typename names entries s d = typename_checks names (inside_at names entries s d.ident) (name_view d.ident) (type_view d.def)

abbrev pub makes_typename : Names → List (List ℕ × Entry) → code.Site → TypenameSyntax → Tree
makes_typename names entries s d =
    named d.ident.name.now (tree_meant (inside_at names entries s d.ident) (type_view d.def)) (documentation_of (comments_view s.comments.now))

abbrev pub checks_module : Names → List (List ℕ × Entry) → code.Site → ModuleSyntax → List Check
checks_module names entries s d = module_checks names (inside_at names entries s d.name) (name_view d.name) (items_in d.decls)

abbrev pub makes_module : Names → List (List ℕ × Entry) → code.Site → ModuleSyntax → ModuleTree
makes_module names entries s d = module_meant (inside_at names entries s d.name) d.name.name.now (items_in d.decls) (comments_view s.comments.now)

abbrev pub constant_at : code.Site → Documented ConstSyntax → Site
constant_at s d = record {
  place = location_in s.text.now s.path.now;
  comments = comments_view s.comments.now;
  form = constant_form (name_view d.item.ty) (name_view d.item.name) d.item.value (comments_view d.comments);
}

abbrev pub checks_constant : Kept → code.Site → ConstSyntax → List Check
checks_constant kept s c =
    constant_checks (kept_sense kept.names kept.entries c.ty.name.now) (constant_place kept.constants c.ty.name.now c.name.name.now)
    (location_in s.text.now s.path.now) (name_view c.ty) (name_view c.name) c.value
