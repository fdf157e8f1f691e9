-- A copied list has the same trees.
use Rattle.std.specs.Prelude.{◌≡◌, List, [], ◌∷◌, map}
use Rattle.std.proofs.Common.{refl}
use Rattle.std.specs.List.{AllZip}
use Rattle.witx_ast.specs.Views.{member_field, case_arm}
use Rattle.witx_ast.specs.Functions.{param_field}
use Rattle.witx_ast.specs.declared.function.InterfaceFuncParam.{InterfaceFuncParam}
use Rattle.witx_ast.specs.declared.types.RecordMember.{RecordMember}
use Rattle.witx_ast.specs.declared.types.Case.{Case}

-- copies item by item read the same
pub copied : {A T : Type 0} (tree : A → T) (xs ys : List A) → AllZip (λ a c. tree c ≡ tree a) xs ys → map tree ys ≡ map tree xs
copied tree [] [] h = refl
copied tree [] (y ∷ ys) h = absurd h
copied tree (x ∷ xs) [] h = absurd h
copied tree (x ∷ xs) (y ∷ ys) h = rw (h.0, copied tree xs ys h.1) refl

pub copied-members : (xs ys : List RecordMember) → AllZip (λ a c. member_field c ≡ member_field a) xs ys → map member_field ys ≡ map member_field xs
copied-members xs ys h = copied member_field xs ys h

pub copied-cases : (xs ys : List Case) → AllZip (λ a c. case_arm c ≡ case_arm a) xs ys → map case_arm ys ≡ map case_arm xs
copied-cases xs ys h = copied case_arm xs ys h

pub copied-params : (xs ys : List InterfaceFuncParam) → AllZip (λ a c. param_field c ≡ param_field a) xs ys → map param_field ys ≡ map param_field xs
copied-params xs ys h = copied param_field xs ys h

pub ruleset copy_rules = (copied-members, copied-cases, copied-params)
