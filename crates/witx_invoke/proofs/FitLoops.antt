-- Parameters, one after the other: whether their types fit their tags.
use Rattle.std.proofs.Common.{◌≡◌, ℕ, ◌+◌, ◌<◌, ◌≤◌, List, ◌∷◌, true, false, ◌&&◌, sym, ap, ◌∙◌, length, map, drop, get_or}
use Rattle.std.proofs.lemmas.List.{drop_more, drop_all}
use Rattle.witx_ast.specs.Functions.{param_field}
use Rattle.witx_ast.specs.Plain.{plain}
use Rattle.witx_ast.specs.Tags.{fits, types_fit}
use Rattle.witx_ast.specs.Views.{tree_of}
use Rattle.witx_ast.specs.declared.function.InterfaceFuncParam.{InterfaceFuncParam}

-- those from an index on decide
abbrev pub FitFrom : List InterfaceFuncParam → ℕ → Type 0
FitFrom ps i = types_fit (map param_field (drop i ps)) ≡ types_fit (map param_field ps)

fit-step : (ps : List InterfaceFuncParam) (i : ℕ) (p : InterfaceFuncParam) → i < length ps → p ≡ get_or ps i p → types_fit (map param_field (drop i ps)) ≡ fits (plain (tree_of p.tref)) && types_fit (map param_field (drop (i + 1) ps))
fit-step ps i p l e = ap (λ ps. types_fit (map param_field ps)) (drop_more ps i p l ∙ ap (λ q. q ∷ drop (i + 1) ps) (sym e))

pub fit_refused : (ps : List InterfaceFuncParam) (i : ℕ) (p : InterfaceFuncParam) → i < length ps → p ≡ get_or ps i p → FitFrom ps i → fits (plain (tree_of p.tref)) ≡ false → types_fit (map param_field ps) ≡ false
fit_refused ps i p l e h k = sym h ∙ fit-step ps i p l e ∙ ap (λ b. b && types_fit (map param_field (drop (i + 1) ps))) k

pub fit_passed : (ps : List InterfaceFuncParam) (i : ℕ) (p : InterfaceFuncParam) → i < length ps → p ≡ get_or ps i p → FitFrom ps i → fits (plain (tree_of p.tref)) ≡ true → FitFrom ps (i + 1)
fit_passed ps i p l e h k = ap (λ b. b && types_fit (map param_field (drop (i + 1) ps))) (sym k) ∙ sym (fit-step ps i p l e) ∙ h

pub fit_done : (ps : List InterfaceFuncParam) (i : ℕ) → length ps ≤ i → FitFrom ps i → types_fit (map param_field ps) ≡ true
fit_done ps i l h = sym h ∙ ap (λ ps. types_fit (map param_field ps)) (drop_all i ps l)

pub ruleset fitting_rules = (fit_refused, fit_passed, fit_done)
