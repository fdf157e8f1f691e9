-- Representations and tags: which builtins are unsigned, what a tag may be, and what a union or a variant takes from it.
-- The names of a tag are those of its cases, in their order.
use Rattle.std.specs.Prelude.{ℕ, List, [], ◌∷◌, ◌==◌, Option, Some, None, Bool, true, false, cond, codes, length, map, not, ◌&&◌, ◌||◌}
use Rattle.std.specs.Option.{is_some}
use Rattle.witx_base.specs.Found.{found}
use Rattle.witx_base.specs.Texts.{same_text}
use Rattle.witx_files.specs.declared.location.Location.{Location}
use Rattle.witx_syntax_tree.specs.declared.tree.BuiltinSyntax.{BuiltinSyntax}
use Rattle.witx_ast.specs.declared.types.BuiltinType.{BuiltinType}
use Rattle.witx_ast.specs.declared.types.Case.{Case}
use Rattle.witx_ast.specs.declared.types.IntRepr.{IntRepr}
use Rattle.witx_ast.specs.Tree.{Tree, behind, Arms, no_arms, bare, carries, arms_of}
use Rattle.witx_ast.specs.Views.{case_arm}
use Rattle.witx_ast.specs.Words.{kind_word}
use Rattle.witx_scope.specs.Faults.{wrong_kind_name, invalid_repr, invalid_union_tag, union_size_mismatch, invalid_union_field, Check}
use Rattle.witx_syntax_tree.specs.declared.tree.BuiltinSyntax.TheVariants as word
use Rattle.witx_ast.specs.declared.types.BuiltinType.TheVariants as kind

abbrev pub builtin_type : BuiltinSyntax → BuiltinType
builtin_type word.Char = kind.Char
builtin_type (word.U8 c) = kind.U8 c
builtin_type word.U16 = kind.U16
builtin_type (word.U32 p) = kind.U32 p
builtin_type word.U64 = kind.U64
builtin_type word.S8 = kind.S8
builtin_type word.S16 = kind.S16
builtin_type word.S32 = kind.S32
builtin_type word.S64 = kind.S64
builtin_type word.F32 = kind.F32
builtin_type word.F64 = kind.F64

-- the representation of an unsigned builtin
abbrev pub repr_of : BuiltinType → Option IntRepr
repr_of (kind.U8 c) = Some IntRepr.U8
repr_of kind.U16 = Some IntRepr.U16
repr_of (kind.U32 p) = Some IntRepr.U32
repr_of kind.U64 = Some IntRepr.U64
repr_of _ = None

abbrev pub or_u32 : Option IntRepr → IntRepr
or_u32 None = IntRepr.U32
or_u32 (Some r) = r

abbrev pub repr_check : Option BuiltinSyntax → Location → Check
repr_check None at = None
repr_check (Some b) at = cond (is_some (repr_of (builtin_type b))) None (Some (invalid_repr (builtin_type b) at))

abbrev pub repr_meant : Option BuiltinSyntax → IntRepr
repr_meant None = IntRepr.U32
repr_meant (Some b) = or_u32 (repr_of (builtin_type b))

-- no case has a payload
abbrev pub are_bare : Arms → Bool
are_bare no_arms = true
are_bare (bare n docs cs) = are_bare cs
are_bare (carries n t docs cs) = false

abbrev pub arm_names : Arms → List (List ℕ)
arm_names no_arms = []
arm_names (bare n docs cs) = n ∷ arm_names cs
arm_names (carries n t docs cs) = n ∷ arm_names cs

abbrev pub names_of_cases : List Case → List (List ℕ)
names_of_cases cases = arm_names (arms_of (map case_arm cases))

-- what a tag of this type, names looked through, fails
abbrev pub tag_check : Tree → Location → Check
tag_check (Tree.variant_of r cs) near = cond (are_bare cs) None (Some (invalid_union_tag (codes "all variant cases should have empty payloads") near))
tag_check (Tree.builtin b) near = cond (is_some (repr_of b)) None (Some (wrong_kind_name (codes "tag") (codes "enum or builtin") (codes "builtin") near))
tag_check t near = Some (wrong_kind_name (codes "tag") (codes "enum or builtin") (kind_word t) near)

abbrev pub tag_checks : Option Tree → Location → List Check
tag_checks None near = []
tag_checks (Some t) near = tag_check (behind t) near ∷ []

abbrev pub repr_in : Tree → IntRepr
repr_in (Tree.variant_of r cs) = r
repr_in (Tree.builtin b) = or_u32 (repr_of b)
repr_in _ = IntRepr.U32

abbrev pub names_in : Tree → Option (List (List ℕ))
names_in (Tree.variant_of r cs) = Some (arm_names cs)
names_in _ = None

abbrev pub tag_repr : Option Tree → IntRepr
tag_repr None = IntRepr.U32
tag_repr (Some t) = repr_in (behind t)

abbrev pub tag_names : Option Tree → Option (List (List ℕ))
tag_names None = None
tag_names (Some t) = names_in (behind t)

abbrev pub size_check : Option (List (List ℕ)) → ℕ → Location → Check
size_check None found near = None
size_check (Some names) found near = cond (length names == found) None (Some (union_size_mismatch (length names) found near))

abbrev pub has_name : List (List ℕ) → List ℕ → Bool
has_name [] n = false
has_name (m ∷ ms) n = same_text n m || has_name ms n

-- a case under a tag with names: one of them, and new
abbrev pub case_check : Option (List (List ℕ)) → List (List ℕ) → List ℕ → Location → Check
case_check None before n at = None
case_check (Some names) before n at =
    cond (has_name names n && not (has_name before n)) None
    (Some (invalid_union_field n (codes "does not correspond to variant in tag `tag`") at))
