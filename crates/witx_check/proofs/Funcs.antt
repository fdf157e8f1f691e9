-- A function's checks in turn.
use Rattle.std.specs.Prelude.{◌≡◌, ℕ, List, [], ◌∷◌, ◌++◌, Some, None, option_map}
use Rattle.std.proofs.Common.{sym, ap, ◌∙◌}
use Rattle.witx_base.specs.Found.{found}
use Rattle.witx_syntax_tree.specs.Trees.{Fields}
use Rattle.witx_files.specs.declared.location.Location.{Location}
use Rattle.witx_ast.specs.declared.function.Abi.{Abi}
use Rattle.witx_ast.specs.Results.{results_reason}
use Rattle.witx_scope.specs.declared.error.CheckError.{CheckError}
use Rattle.witx_scope.specs.Blame.{Blames}
use Rattle.witx_scope.specs.Faults.{Check, first_fault, abi}
use Rattle.witx_scope.specs.Names.{Here, NameMarks}
use Rattle.witx_scope.specs.Checks.{field_checks}
use Rattle.witx_scope.specs.Trees.{fields_meant}
use Rattle.witx_scope.specs.Functions.{fields_scope, result_checks, inner_checks, abi_check}
use Rattle.witx_scope.proofs.FirstFaults.{fault-past, fault-append, blames-to, blames-append, blames-head, blames-past}
use Rattle.witx_check.proofs.Params.{results-alike}

-- what is left of the list behind the parameters
abbrev rest_of : Here → Abi → Fields → Fields → Location → List Check
rest_of h a ps rs at = result_checks h (fields_scope [] ps) rs ++ (abi_check a (fields_meant h rs) at ∷ [])

to-results : (h : Here) (a : Abi) (ps rs : Fields) (at : Location) → first_fault (field_checks h [] ps) ≡ None → first_fault (inner_checks h a ps rs at) ≡ first_fault (rest_of h a ps rs at)
to-results h a ps rs at p = fault-append (field_checks h [] ps) (rest_of h a ps rs at) p

pub inside-params : (e : CheckError) (h : Here) (a : Abi) (ps rs : Fields) (at : Location) → Blames e (first_fault (field_checks h [] ps)) → Blames e (first_fault (inner_checks h a ps rs at))
inside-params e h a ps rs at p = blames-append e (field_checks h [] ps) (rest_of h a ps rs at) p

pub inside-results : (e : CheckError) (h : Here) (a : Abi) (own : NameMarks) (ps rs : Fields) (at : Location) → first_fault (field_checks h [] ps) ≡ None
    → ((q : List ℕ) → found own q ≡ found (fields_scope [] ps) q)
    → Blames e (first_fault (result_checks h own rs)) → Blames e (first_fault (inner_checks h a ps rs at))
inside-results e h a own ps rs at p k r =
    let r1 = blames-to e (first_fault (result_checks h own rs)) (first_fault (result_checks h (fields_scope [] ps) rs)) (ap first_fault (results-alike h own (fields_scope [] ps) rs k)) r in
    blames-to e (first_fault (rest_of h a ps rs at)) (first_fault (inner_checks h a ps rs at)) (sym (to-results h a ps rs at p)) (blames-append e (result_checks h (fields_scope [] ps) rs) (abi_check a (fields_meant h rs) at ∷ []) r1)

inside-end : (h : Here) (a : Abi) (own : NameMarks) (ps rs : Fields) (at : Location) → first_fault (field_checks h [] ps) ≡ None
    → ((q : List ℕ) → found own q ≡ found (fields_scope [] ps) q)
    → first_fault (result_checks h own rs) ≡ None → first_fault (inner_checks h a ps rs at) ≡ first_fault (abi_check a (fields_meant h rs) at ∷ [])
inside-end h a own ps rs at p k r =
    let r1 = sym (ap first_fault (results-alike h own (fields_scope [] ps) rs k)) ∙ r in
    to-results h a ps rs at p ∙ fault-append (result_checks h (fields_scope [] ps) rs) (abi_check a (fields_meant h rs) at ∷ []) r1

pub inside-abi : (e : CheckError) (h : Here) (a : Abi) (own : NameMarks) (ps rs : Fields) (at : Location) (reason : List ℕ) → first_fault (field_checks h [] ps) ≡ None
    → ((q : List ℕ) → found own q ≡ found (fields_scope [] ps) q)
    → first_fault (result_checks h own rs) ≡ None → results_reason a (fields_meant h rs) ≡ Some reason → Blames e (Some (abi reason at)) → Blames e (first_fault (inner_checks h a ps rs at))
inside-abi e h a own ps rs at reason p k r refused w =
    let c : abi_check a (fields_meant h rs) at ≡ Some (abi reason at) = ap (option_map (λ (y : List ℕ). abi y at)) refused in
    blames-to e (first_fault (abi_check a (fields_meant h rs) at ∷ [])) (first_fault (inner_checks h a ps rs at)) (sym (inside-end h a own ps rs at p k r))
    (blames-head e (abi_check a (fields_meant h rs) at) [] (blames-to e (Some (abi reason at)) (abi_check a (fields_meant h rs) at) (sym c) w))

pub inside-ok : (h : Here) (a : Abi) (own : NameMarks) (ps rs : Fields) (at : Location) → first_fault (field_checks h [] ps) ≡ None
    → ((q : List ℕ) → found own q ≡ found (fields_scope [] ps) q)
    → first_fault (result_checks h own rs) ≡ None → results_reason a (fields_meant h rs) ≡ None → first_fault (inner_checks h a ps rs at) ≡ None
inside-ok h a own ps rs at p k r permitted =
    inside-end h a own ps rs at p k r ∙ fault-past (abi_check a (fields_meant h rs) at) [] (ap (option_map (λ (y : List ℕ). abi y at)) permitted)

pub ruleset inner_rules = (inside-params, inside-results, inside-abi, inside-ok)

pub ruleset func_rules = (fault-past, blames-head, blames-past)
