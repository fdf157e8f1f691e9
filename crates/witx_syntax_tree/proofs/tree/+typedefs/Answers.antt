-- Records, unions and variants: what `search` reaches too late.
use Rattle.witx_syntax_tree.proofs.Unlike.{other-Record, other-Variant}
use Rattle.witx_syntax_tree.proofs.Equal.{same-Record, same-Union, same-Variant}
use Rattle.witx_syntax_tree.proofs.tree.+typedefs.Goals as goal

pub TypedefSyntaxPartialEq::eq-returns-in-Record-Record : goal.TypedefSyntaxPartialEq::eq-returns-in-Record-Record
TypedefSyntaxPartialEq::eq-returns-in-Record-Record t c = same-Record _ _ _ c.in-Record-Record.a c.in-Record-Record.b c.in-Record-Record.is-0 c.in-Record-Record.is-1 c.eq-in-Record-Record.ensures

pub TypedefSyntaxPartialEq::eq-returns-in-Union-Union : goal.TypedefSyntaxPartialEq::eq-returns-in-Union-Union
TypedefSyntaxPartialEq::eq-returns-in-Union-Union t c = same-Union _ _ _ c.in-Union-Union.a c.in-Union-Union.b c.in-Union-Union.is-0 c.in-Union-Union.is-1 c.eq-in-Union-Union.ensures

pub TypedefSyntaxPartialEq::eq-returns-in-Variant-Variant : goal.TypedefSyntaxPartialEq::eq-returns-in-Variant-Variant
TypedefSyntaxPartialEq::eq-returns-in-Variant-Variant t c = same-Variant _ _ _ c.in-Variant-Variant.a c.in-Variant-Variant.b c.in-Variant-Variant.is-0 c.in-Variant-Variant.is-1 c.eq-in-Variant-Variant.ensures

pub TypedefSyntaxPartialEq::eq-returns-in_default-5 : goal.TypedefSyntaxPartialEq::eq-returns-in_default-5
TypedefSyntaxPartialEq::eq-returns-in_default-5 t c = other-Record _ _ _ c.in_default.is-0 c.in_default.not-Record-1

pub TypedefSyntaxPartialEq::eq-returns-in_default-7 : goal.TypedefSyntaxPartialEq::eq-returns-in_default-7
TypedefSyntaxPartialEq::eq-returns-in_default-7 t c = other-Variant _ _ _ c.in_default.is-0 c.in_default.not-Variant-1
