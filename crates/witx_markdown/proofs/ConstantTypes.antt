-- One definition after the other: is it a constant whose type is no typename?
use Rattle.std.specs.Prelude.{◌≡◌, ℕ, ◌+◌, ◌≤◌, ◌<◌, List, true, false, not, length, drop, map, find, Option, Some, None}
use Rattle.std.proofs.Common.{get_or, refl}
use Rattle.std.proofs.lemmas.List.{drop_more, drop_all}
use Rattle.witx_ast.specs.declared.definition.Constant.{Constant}
use Rattle.witx_ast.specs.declared.definition.Definition.{Definition}
use Rattle.witx_ast.specs.declared.definition.Definition.TheVariants as definition
use Rattle.witx_ast.specs.Definitions.{DefinitionTree, definition_tree}
use Rattle.witx_markdown.specs.Constants.{as_constant, constants_in, names_typename}

-- no constant
pub no-constant : (d : Definition) → ((c : Constant) → d ≡ definition.Constant c → ⊥) → as_constant (definition_tree d) ≡ None
no-constant (definition.Typename n) h = refl
no-constant (definition.Module m) h = refl
no-constant (definition.Constant c) h = absurd (h c refl)

-- a constant's type that is no typename
abbrev pub unknown_in : List DefinitionTree → List DefinitionTree → Option (List ℕ)
unknown_in all ds = find (λ name. not (names_typename all name)) (map (λ c. c.ty) (constants_in ds))

pub known-type : (all : List DefinitionTree) (ds : List Definition) (i : ℕ) (d : Definition) (c : Constant) (found : Option (List ℕ)) → i < length ds → d ≡ get_or ds i d
    → d ≡ definition.Constant c → names_typename all c.ty ≡ true → unknown_in all (map definition_tree (drop i ds)) ≡ found
    → unknown_in all (map definition_tree (drop (i + 1) ds)) ≡ found
known-type all ds i d c found l p e k h = rw (drop_more ds i d l, ← p, e, k) at h

pub unknown-here : (all : List DefinitionTree) (ds : List Definition) (i : ℕ) (d : Definition) (c : Constant) (found : Option (List ℕ)) → i < length ds → d ≡ get_or ds i d
    → d ≡ definition.Constant c → names_typename all c.ty ≡ false → unknown_in all (map definition_tree (drop i ds)) ≡ found → Some c.ty ≡ found
unknown-here all ds i d c found l p e k h = rw (drop_more ds i d l, ← p, e, k) at h

pub other-type : (all : List DefinitionTree) (ds : List Definition) (i : ℕ) (d : Definition) (found : Option (List ℕ)) → i < length ds → d ≡ get_or ds i d
    → ((c : Constant) → d ≡ definition.Constant c → ⊥) → unknown_in all (map definition_tree (drop i ds)) ≡ found → unknown_in all (map definition_tree (drop (i + 1) ds)) ≡ found
other-type all ds i d found l p k h = rw (drop_more ds i d l, ← p, no-constant d k) at h

pub all-known : (all : List DefinitionTree) (ds : List Definition) (i : ℕ) (found : Option (List ℕ)) → length ds ≤ i
    → unknown_in all (map definition_tree (drop i ds)) ≡ found → None ≡ found
all-known all ds i found l h = rw (drop_all i ds l) at h

pub ruleset unknown_rules = (known-type, unknown-here, other-type, all-known)
