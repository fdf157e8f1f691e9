use Rattle.std.proofs.Common.{◌≡◌, List, Option, Some, None, map, reverse, sym, ap, ◌∙◌, subst}
use Rattle.std.specs.Global.{Box}
use Rattle.witx_comments.specs.declared.comment.Documented.{Documented}
use Rattle.witx_syntax_tree.specs.declared.tree.TypedefSyntax.{TypedefSyntax}
use Rattle.witx_syntax_tree.specs.declared.tree.TypedefSyntax.TheOpen.{TypedefSyntax-F}
use Rattle.witx_syntax_tree.specs.declared.tree.TypedefSyntax.TheFolds.{fold-roll-TypedefSyntax, fold-roll-UnionSyntax}
use Rattle.witx_syntax_tree.specs.declared.tree.TypedefSyntax.TheVariants.{Union, rolls-Union}
use Rattle.witx_syntax_tree.specs.declared.tree.UnionSyntax.{roll-UnionSyntax}
use Rattle.witx_syntax_tree.specs.Trees.{TypeTree, union_of}
use Rattle.witx_syntax_tree.specs.Views.{CaseView, FieldView, type_view, case_view, field_view, type_step, syntax_case_step, expected_step, field_step, syntax_record_step, tuple_step, union_step, syntax_variant_step, union_fields_of, union_fields_view, noted_type, boxed_view}
use Rattle.witx_language.proofs.constructors.union_of.Goals as goal

seen : (tag : Option (Box TypedefSyntax)) (xs : List (Documented TypedefSyntax)) → type_view (Union (roll-UnionSyntax (record { tag = tag; fields = xs }))) ≡ union_of (boxed_view tag) (union_fields_of (map noted_type xs))
unfolding type_view case_view field_view
seen None xs =
    ap type_view (sym (rolls-Union (roll-UnionSyntax (record { tag = None; fields = xs }))))
    ∙ fold-roll-TypedefSyntax TypeTree CaseView TypeTree FieldView TypeTree TypeTree TypeTree TypeTree type_step syntax_case_step expected_step field_step syntax_record_step tuple_step union_step syntax_variant_step (TypedefSyntax-F.Union (roll-UnionSyntax (record { tag = None; fields = xs })))
    ∙ fold-roll-UnionSyntax TypeTree CaseView TypeTree FieldView TypeTree TypeTree TypeTree TypeTree type_step syntax_case_step expected_step field_step syntax_record_step tuple_step union_step syntax_variant_step (record { tag = None; fields = xs })
seen (Some b) xs =
    ap type_view (sym (rolls-Union (roll-UnionSyntax (record { tag = Some b; fields = xs }))))
    ∙ fold-roll-TypedefSyntax TypeTree CaseView TypeTree FieldView TypeTree TypeTree TypeTree TypeTree type_step syntax_case_step expected_step field_step syntax_record_step tuple_step union_step syntax_variant_step (TypedefSyntax-F.Union (roll-UnionSyntax (record { tag = Some b; fields = xs })))
    ∙ fold-roll-UnionSyntax TypeTree CaseView TypeTree FieldView TypeTree TypeTree TypeTree TypeTree type_step syntax_case_step expected_step field_step syntax_record_step tuple_step union_step syntax_variant_step (record { tag = Some b; fields = xs })

pub returns : goal.returns
returns c =
    subst (λ (xs : List (Documented TypedefSyntax)). type_view (Union (roll-UnionSyntax (record { tag = c.args.tag; fields = xs }))) ≡ union_of (boxed_view c.args.tag) (union_fields_view (reverse c.args.fields.items)))
    (sym (c.from_vec.ensures ∙ c.reversed.ensures)) (seen c.args.tag (reverse c.args.fields.items))
