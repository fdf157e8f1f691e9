use Rattle.std.proofs.Common.{◌≡◌, map, drop, ◌++◌}
use Rattle.witx_ast.specs.Views.{member_field, case_arm}
use Rattle.witx_render.specs.ExpressionViews.{expr_view}
use Rattle.witx_render.specs.Lists.{record_words, member_item, variant_words, case_item}
use Rattle.witx_render.proofs.types.+types.Given as goal

-- what is built, and what is left to build, is the whole
abbrev pub invariant-members_sexpr-loop-member : goal.invariant-members_sexpr-loop-member
invariant-members_sexpr-loop-member l =
    map expr_view l.items ++ map (member_item l.kind) (map member_field (drop l.member-index l.members))
    ≡ record_words l.kind ++ map (member_item l.kind) (map member_field l.members)

abbrev pub invariant-cases_sexpr-loop-case : goal.invariant-cases_sexpr-loop-case
invariant-cases_sexpr-loop-case l =
    map expr_view l.items ++ map (case_item l.is_enum) (map case_arm (drop l.case-index l.cases))
    ≡ variant_words l.is_enum l.fn.tag ++ map (case_item l.is_enum) (map case_arm l.cases)
