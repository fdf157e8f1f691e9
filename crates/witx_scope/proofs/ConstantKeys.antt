-- `key-found`: the map of constants, as its contract tells it, looks a constant up by its two names.
use Rattle.std.specs.Prelude.{◌≡◌, ℕ, List, ◌&&◌, Some, option_map}
use Rattle.std.proofs.Common.{refl, ap, subst, ◌∙◌}
use Rattle.std.specs.Map.{lookup}
use Rattle.std.specs.declared.cmp.Ordering.{Ordering}
use Rattle.std.specs.declared.cmp.Ordering.TheVariants.{Less, Equal, Greater}
use Rattle.std.specs.Ordering.{is_eq, nat_cmp, ordering_then}
use Rattle.std.specs.Cmp.Lexicographic.{slice_cmp}
use Rattle.witx_files.specs.declared.location.Location.{Location}
use Rattle.witx_scope.specs.declared.constants.ConstantName.{ConstantName}
use Rattle.witx_scope.specs.declared.error.CheckError.{CheckError}
use Rattle.witx_scope.specs.Blame.{Blames}
use Rattle.witx_scope.specs.Constants.{constant_place}
use Rattle.witx_scope.specs.Faults.{name_already_exists}
use Rattle.witx_scope.proofs.Steps.{funext}

abbrev pub constant_cmp : ConstantName → ConstantName → Ordering
constant_cmp a b = ordering_then (slice_cmp nat_cmp a.ty b.ty) (slice_cmp nat_cmp a.name b.name)

pub both-equal : (a b : Ordering) → is_eq (ordering_then a b) ≡ (is_eq a && is_eq b)
both-equal Less b = refl
both-equal Equal b = refl
both-equal Greater b = refl

pub key-found : (entries : List (ConstantName × Location)) (key : ConstantName) → lookup (λ other. is_eq (constant_cmp key other)) entries ≡ constant_place entries key.ty key.name
key-found entries key = ap (λ test. lookup test entries) (funext (λ other. both-equal (slice_cmp nat_cmp key.ty other.ty) (slice_cmp nat_cmp key.name other.name)))

-- a constant that the map has is blamed by the names of its declaration
pub key-repeated : (e : CheckError) (entries : List (ConstantName × Location)) (key : ConstantName) (ty name : List ℕ) (at before : Location)
    → key.ty ≡ ty → key.name ≡ name → Some before ≡ lookup (λ other. is_eq (constant_cmp key other)) entries
    → Blames e (Some (name_already_exists key.name at before))
    → Blames e (option_map (λ earlier. name_already_exists name at earlier) (constant_place entries ty name))
key-repeated e entries key ty name at before t n found b =
    subst (λ x. Blames e (option_map (λ earlier. name_already_exists name at earlier) (constant_place entries x name))) t
    (subst (λ x. Blames e (option_map (λ earlier. name_already_exists x at earlier) (constant_place entries key.ty x))) n
    (subst (Blames e) (ap (option_map (λ earlier. name_already_exists key.name at earlier)) (found ∙ key-found entries key)) b))

pub ruleset key_rules = (key-found)
