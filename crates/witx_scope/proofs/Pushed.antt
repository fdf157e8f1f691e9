-- A definition behind the others: it is there, and can be cut off again.
use Rattle.std.specs.Prelude.{◌≡◌, ℕ, List, [], ◌∷◌, ◌++◌, map, length, take}
use Rattle.std.proofs.Common.{ap, ◌∙◌}
use Rattle.std.proofs.lemmas.List.{map-append}
use Rattle.std.proofs.Math.Seq.{take-append_seam}
use Rattle.witx_ast.specs.Definitions.{DefinitionTree, definition_tree}
use Rattle.witx_ast.specs.declared.definition.Definition.{Definition}

-- what was pushed is cut off again
pub cut-back : (ds : List Definition) (d : Definition) (now : List Definition) (n : ℕ) → n ≡ length ds → now ≡ ds ++ d ∷ [] → take n now ≡ ds
cut-back ds d now n e a = rw (e, a) (take-append_seam ds (d ∷ []))

pub definitions-last : (ds new : List Definition) (d : Definition) → new ≡ ds ++ d ∷ [] → map definition_tree new ≡ map definition_tree ds ++ definition_tree d ∷ []
definitions-last ds new d e = ap (map definition_tree) e ∙ map-append definition_tree ds (d ∷ [])

pub definitions-more : (ds new : List Definition) (d : Definition) (t : DefinitionTree) → new ≡ ds ++ d ∷ [] → definition_tree d ≡ t
    → map definition_tree new ≡ map definition_tree ds ++ t ∷ []
definitions-more ds new d t e same = definitions-last ds new d e ∙ ap (λ (x : DefinitionTree). map definition_tree ds ++ x ∷ []) same
