-- A declaration, as its syntax tree says it: a typename, a module, or a constant with its type's name, its own name, its
-- value and its comments.
use Rattle.std.specs.Prelude.{ℕ, List, map}
use Rattle.witx_syntax_tree.specs.Trees.{TypeTree, Name, NotedDecl}
use Rattle.witx_comments.specs.Comments.{comments_view}
use Rattle.witx_syntax_tree.specs.Views.{type_view, name_view, noted_decl}
use Rattle.witx_comments.specs.declared.comment.Documented.{Documented}
use Rattle.witx_syntax_tree.specs.declared.tree.ModuleDeclSyntax.{ModuleDeclSyntax}
use Rattle.witx_syntax_tree.specs.declared.tree.DeclSyntax.{DeclSyntax}
use Rattle.witx_syntax_tree.specs.declared.tree.DeclSyntax.TheVariants as decl

pub data DeclForm : Type 0 where
  typename_form : Name → TypeTree → DeclForm
  module_form : Name → List NotedDecl → DeclForm
  constant_form : Name → Name → ℕ → List (List ℕ) → DeclForm

abbrev pub items_in : List (Documented ModuleDeclSyntax) → List NotedDecl
items_in ds = map noted_decl ds

abbrev pub decl_form_of : DeclSyntax → DeclForm
decl_form_of (decl.Typename t) = typename_form (name_view t.ident) (type_view t.def)
decl_form_of (decl.Module m) = module_form (name_view m.name) (items_in m.decls)
decl_form_of (decl.Const c) = constant_form (name_view c.item.ty) (name_view c.item.name) c.item.value (comments_view c.comments)
