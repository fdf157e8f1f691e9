use Rattle.std.proofs.Common.{◌≡◌, List, map, reverse, sym, ap, ◌∙◌, subst}
use Rattle.witx_syntax_tree.specs.declared.tree.TypedefSyntax.{TypedefSyntax}
use Rattle.witx_syntax_tree.specs.declared.tree.TypedefSyntax.TheOpen.{TypedefSyntax-F}
use Rattle.witx_syntax_tree.specs.declared.tree.TypedefSyntax.TheFolds.{fold-roll-TypedefSyntax, fold-roll-TupleSyntax}
use Rattle.witx_syntax_tree.specs.declared.tree.TypedefSyntax.TheVariants.{Tuple, rolls-Tuple}
use Rattle.witx_syntax_tree.specs.declared.tree.TupleSyntax.{roll-TupleSyntax}
use Rattle.witx_syntax_tree.specs.Trees.{TypeTree, tuple_of}
use Rattle.witx_syntax_tree.specs.Views.{CaseView, FieldView, type_view, case_view, field_view, type_step, syntax_case_step, expected_step, field_step, syntax_record_step, tuple_step, union_step, syntax_variant_step, types_of, types_view}
use Rattle.witx_language.proofs.constructors.tuple.Goals as goal

seen : (xs : List TypedefSyntax) → type_view (Tuple (roll-TupleSyntax (record { types = xs }))) ≡ tuple_of (types_of (map type_view xs))
unfolding type_view case_view field_view
seen xs =
    ap type_view (sym (rolls-Tuple (roll-TupleSyntax (record { types = xs }))))
    ∙ fold-roll-TypedefSyntax TypeTree CaseView TypeTree FieldView TypeTree TypeTree TypeTree TypeTree type_step syntax_case_step expected_step field_step syntax_record_step tuple_step union_step syntax_variant_step (TypedefSyntax-F.Tuple (roll-TupleSyntax (record { types = xs })))
    ∙ fold-roll-TupleSyntax TypeTree CaseView TypeTree FieldView TypeTree TypeTree TypeTree TypeTree type_step syntax_case_step expected_step field_step syntax_record_step tuple_step union_step syntax_variant_step (record { types = xs })

pub returns : goal.returns
returns c =
    subst (λ (xs : List TypedefSyntax). type_view (Tuple (roll-TupleSyntax (record { types = xs }))) ≡ tuple_of (types_view (reverse c.args.types.items))) (sym (c.from_vec.ensures ∙ c.reversed.ensures)) (seen (reverse c.args.types.items))
