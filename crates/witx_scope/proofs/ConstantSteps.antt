-- `places-more`: an accepted constant is kept under its two names.
use Rattle.std.specs.Prelude.{◌≡◌, ℕ, List, Some, cond, ◌&&◌}
use Rattle.std.proofs.Common.{sym, ap, ◌∙◌}
use Rattle.std.specs.Map.{lookup}
use Rattle.std.specs.Ordering.{is_eq, nat_cmp}
use Rattle.std.specs.Cmp.Lexicographic.{slice_cmp}
use Rattle.witx_files.specs.declared.location.Location.{Location}
use Rattle.witx_ast.specs.declared.definition.Constant.{Constant}
use Rattle.witx_scope.specs.declared.constants.ConstantName.{ConstantName}
use Rattle.witx_scope.specs.Constants.{constant_place, place_under}
use Rattle.witx_scope.specs.Positions.{is_same_name}
use Rattle.witx_scope.proofs.ConstantKeys.{constant_cmp, key-found, both-equal}
use Rattle.witx_scope.proofs.Steps.{is_eq-swap}
use Rattle.witx_scope.proofs.Pushed.{cut-back, definitions-more}

swap-key : (a b : ConstantName) → is_eq (constant_cmp a b) ≡ (is_same_name b.ty a.ty && is_same_name b.name a.name)
swap-key a b = both-equal (slice_cmp nat_cmp a.ty b.ty) (slice_cmp nat_cmp a.name b.name)
    ∙ (ap (λ c. c && is_eq (slice_cmp nat_cmp a.name b.name)) (is_eq-swap a.ty b.ty)
    ∙ ap (λ c. is_same_name b.ty a.ty && c) (is_eq-swap a.name b.name))

pub places-more : (old new : List (ConstantName × Location)) (key : ConstantName) (p : Location)
    → ((q : ConstantName) → lookup (λ other. is_eq (constant_cmp q other)) new ≡ cond (is_eq (constant_cmp key q)) (Some p) (lookup (λ other. is_eq (constant_cmp q other)) old))
    → (ty n : List ℕ) → constant_place new ty n ≡ place_under old key.ty key.name p ty n
places-more old new key p more ty n =
    let q : ConstantName = record { ty = ty; name = n } in
    sym (key-found new q)
    ∙ (more q
    ∙ (ap (λ c. cond c (Some p) (lookup (λ other. is_eq (constant_cmp q other)) old)) (swap-key key q)
    ∙ ap (cond (is_same_name ty key.ty && is_same_name n key.name) (Some p)) (key-found old q)))

-- the same for a constant whose two names the key has
pub places-of : (old new : List (ConstantName × Location)) (key : ConstantName) (p : Location) (c : Constant)
    → (key.ty ≡ c.ty) × (key.name ≡ c.name)
    → ((ty n : List ℕ) → constant_place new ty n ≡ place_under old key.ty key.name p ty n)
    → (ty n : List ℕ) → constant_place new ty n ≡ place_under old c.ty c.name p ty n
places-of old new key p c same more ty n =
    more ty n
    ∙ (ap (λ x. cond (is_same_name ty x && is_same_name n key.name) (Some p) (constant_place old ty n)) same.0
    ∙ ap (λ x. cond (is_same_name ty c.ty && is_same_name n x) (Some p) (constant_place old ty n)) same.1)

pub ruleset constant_rules = (places-more, cut-back, definitions-more)
