-- A name behind all names of a list of entries isn't among them.
use Rattle.std.specs.Prelude.{◌≡◌, Bool, ℕ, List, [], ◌∷◌, Option, None, Some, cond, true, false}
use Rattle.std.proofs.Common.{refl, sym, ap, ◌∙◌, true≢false}
use Rattle.std.specs.Cmp.Lexicographic.{slice_cmp}
use Rattle.std.specs.List.{All}
use Rattle.std.specs.Map.{keys_of}
use Rattle.std.proofs.lemmas.List.Elements.{All-head, All-tail}
use Rattle.std.specs.Ordering.{is_eq, is_lt, nat_cmp}
use Rattle.witx_base.specs.Found.{found}
use Rattle.witx_base.proofs.Names.{same-is}

before-one : {V : Type 0} (key last name : List ℕ) (v : V) (more : Option V) (is_it : Bool)
    → is_eq (slice_cmp nat_cmp name key) ≡ is_it → is_lt (slice_cmp nat_cmp last key) ≡ false → is_lt (slice_cmp nat_cmp last name) ≡ true
    → more ≡ None → cond is_it (Some v) more ≡ None
before-one key last name v more true e h b n =
    absurd (true≢false (sym b ∙ (ap (λ k. is_lt (slice_cmp nat_cmp last k)) (same-is name key e) ∙ h)))
before-one key last name v more false e h b n = n

-- last is below no name of the entries, and below the name
pub behind-all : {V : Type 0} (entries : List (List ℕ × V)) (last name : List ℕ)
    → All (λ q. is_lt (slice_cmp nat_cmp last q) ≡ false) (keys_of entries) → is_lt (slice_cmp nat_cmp last name) ≡ true → found entries name ≡ None
behind-all [] last name h b = refl
behind-all (e ∷ es) last name h b =
    before-one e.0 last name e.1 (found es name) (is_eq (slice_cmp nat_cmp name e.0)) refl
    (All-head (λ q. is_lt (slice_cmp nat_cmp last q) ≡ false) e.0 (keys_of es) h) b
    (behind-all es last name (All-tail (λ q. is_lt (slice_cmp nat_cmp last q) ≡ false) e.0 (keys_of es) h) b)
