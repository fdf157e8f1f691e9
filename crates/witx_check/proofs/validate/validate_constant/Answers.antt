use Rattle.witx_comments.specs.Comments.{comments_view}
use Rattle.witx_syntax_tree.specs.Views.{name_view}
use Rattle.witx_scope.specs.Places.{location_in}
use Rattle.witx_check.proofs.Validating.{constant-validates}
use Rattle.witx_check.proofs.validate.validate_constant.Goals as goal

pub returns : goal.returns
returns c =
    let k = c.take_constant.ensures in
    rw (k.names, k.entries) (constant-validates _ c.args.tables.now.names c.args.tables.now.names c.args.tables.now.entries c.args.tables.now.entries _ (location_in c.args.site.text.now c.args.site.path.now) _ _ _ (name_view c.args.decl.now.item.ty) (name_view c.args.decl.now.item.name) c.args.decl.now.item.value (comments_view c.args.decl.now.comments) (comments_view c.args.site.comments.now) k.ok k.appended k.places k.fault k.unchanged k.places_unchanged)
