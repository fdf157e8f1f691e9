-- As what a name was introduced by the declarations before is what the definition of that name is: a type, and which, or
-- something else.
use Rattle.std.specs.Prelude.{◌≡◌, ℕ, List, [], ◌∷◌, ◌++◌, Bool, true, false, cond, Option, None, Some, option_map}
use Rattle.std.specs.Option.{option_or}
use Rattle.std.proofs.Common.{refl, sym, ap, ◌∙◌}
use Rattle.witx_base.proofs.Names.{found-append}
use Rattle.witx_base.specs.Found.{found}
use Rattle.witx_ast.proofs.EntryLaws.{names-more, names-same}
use Rattle.witx_ast.specs.Definitions.{DefinitionTree, as_typename, introduced}
use Rattle.witx_ast.specs.Entries.{by_name}
use Rattle.witx_ast.specs.Tree.{Tree}
use Rattle.witx_scope.specs.Positions.{DeclarationOutcome, TakenName, introducer, is_same_name, made_module, made_type, refused}

abbrev pub type_made : DeclarationOutcome → Option Tree
type_made refused = None
type_made (made_type t) = Some t
type_made made_module = None

abbrev pub taken_as : Option TakenName → Option (Option Tree)
taken_as o = option_map (λ t. type_made t.outcome) o

abbrev pub defined_as : Option DefinitionTree → Option (Option Tree)
defined_as o = option_map as_typename o

abbrev pub Alike : List TakenName → List DefinitionTree → Type 0
Alike ts ds = (n : List ℕ) → taken_as (introducer ts n) ≡ defined_as (found (by_name introduced ds) n)

introducer-or : (b : Bool) (t : TakenName) (o p q : Option TakenName) → o ≡ option_or p q → cond b (Some t) o ≡ option_or (cond b (Some t) p) q
introducer-or true t o p q e = refl
introducer-or false t o p q e = e

introducer-append : (ts us : List TakenName) (n : List ℕ) → introducer (ts ++ us) n ≡ option_or (introducer ts n) (introducer us n)
introducer-append [] us n = refl
introducer-append (t ∷ ts) us n =
    introducer-or (is_same_name n t.name) t (introducer (ts ++ us) n) (introducer ts n) (introducer us n) (introducer-append ts us n)

map-or : {A B : Type 0} (f : A → B) (o p : Option A) → option_map f (option_or o p) ≡ option_or (option_map f o) (option_map f p)
map-or f None p = refl
map-or f (Some x) p = refl

one-alike : (b : Bool) (t : TakenName) (d : DefinitionTree) → type_made t.outcome ≡ as_typename d
    → taken_as (cond b (Some t) None) ≡ defined_as (cond b (Some d) None)
one-alike true t d e = ap Some e
one-alike false t d e = refl

-- one more name, at the end of both
pub alike-more : (ts : List TakenName) (ds : List DefinitionTree) (t : TakenName) (d : DefinitionTree) → Alike ts ds
    → introduced d ≡ Some t.name → type_made t.outcome ≡ as_typename d → Alike (ts ++ t ∷ []) (ds ++ d ∷ [])
alike-more ts ds t d h named same n =
    let last : List (List ℕ × DefinitionTree) = (t.name, d) ∷ [] in
    ap taken_as (introducer-append ts (t ∷ []) n)
    ∙ map-or (λ (t : TakenName). type_made t.outcome) (introducer ts n) (introducer (t ∷ []) n)
    ∙ ap (λ o. option_or o (taken_as (introducer (t ∷ []) n))) (h n)
    ∙ ap (λ o. option_or (defined_as (found (by_name introduced ds) n)) o) (one-alike (is_same_name n t.name) t d same)
    ∙ sym (map-or as_typename (found (by_name introduced ds) n) (found last n))
    ∙ ap defined_as (sym (found-append (by_name introduced ds) last n))
    ∙ ap (λ es. defined_as (found es n)) (sym (names-more introduced ds d t.name named))

-- a definition that introduces no name
pub alike-same : (ts : List TakenName) (ds : List DefinitionTree) (d : DefinitionTree) → Alike ts ds → introduced d ≡ None
    → Alike ts (ds ++ d ∷ [])
alike-same ts ds d h none n = h n ∙ ap (λ es. defined_as (found es n)) (sym (names-same introduced ds d none))
