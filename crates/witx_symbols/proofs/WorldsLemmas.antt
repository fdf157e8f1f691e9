-- The worlds of a function, made one after the other.
use Rattle.std.proofs.Common.{◌≡◌, ℕ, ◌<◌, ◌≤◌, suc, refl, ap, ◌∙◌, List, [], ◌∷◌, ◌++◌, append-nil, map, length, slice_get, Option, Some, None}
use Rattle.std.specs.Prelude.{nat_le}
use Rattle.std.proofs.lemmas.Bool.{le-leb, lt-leb}
use Rattle.std.proofs.lemmas.List.{length-map}
use Rattle.witx_ast.specs.declared.function.Abi.{Abi}
use Rattle.witx_ast.specs.declared.function.InterfaceFuncParam.{InterfaceFuncParam}
use Rattle.witx_ast.specs.declared.types.Variant.{Variant, out-Variant}
use Rattle.witx_ast.specs.Tree.{Tree, Arm, arm, arms_of, arm_list}
use Rattle.witx_ast.specs.Views.{tree_of, case_arm}
use Rattle.witx_instructions.specs.Views.{variant_arms}
use Rattle.witx_symbols.specs.Symbolic.{SymbolWorld, unknown_world, world_if, worlds_of}
use Rattle.witx_symbols.specs.WordViews.{world_of}
use Rattle.witx_symbols.specs.WorldViews.{worlds_read}
use Rattle.witx_symbols.specs.declared.world.World as declared_world
use Rattle.witx_symbols.proofs.FromLemmas.{from_rules, types_of}
use Rattle.witx_symbols.proofs.WordLemmas.{word_rules}

pub worlds-append : (ws : List declared_world.World) (w : declared_world.World) → worlds_read (ws ++ w ∷ []) ≡ worlds_read ws ++ world_of w ∷ []
worlds-append [] w = refl
worlds-append (x ∷ ws) w = ap (λ l. world_of x ∷ l) (worlds-append ws w)

pub no-world : (ws : List declared_world.World) → worlds_read ws ++ [] ≡ worlds_read ws
no-world ws = append-nil (worlds_read ws)

-- how many cases there are
arms-long : (cs : List Arm) → length (arm_list (arms_of cs)) ≡ length cs
arms-long [] = refl
arms-long (c ∷ cs) = one c.payload ∙ ap suc (arms-long cs)
  where
    one : (o : Option Tree) → length (arm_list (arm c.called o c.comment (arms_of cs))) ≡ suc (length (arm_list (arms_of cs)))
    one None = refl
    one (Some t) = refl

pub cases-long : (v : Variant) → length (arm_list (variant_arms v)) ≡ length (out-Variant v).cases
cases-long v = arms-long (map case_arm (out-Variant v).cases) ∙ length-map (out-Variant v).cases case_arm

-- one world more, where there are so many cases
pub world-more : (n k : ℕ) (w : SymbolWorld) → n ≤ k → world_if (nat_le n k) w ≡ w ∷ []
world-more n k w l = ap (λ b. world_if b w) (le-leb n k l)

pub world-none : (n k : ℕ) (w : SymbolWorld) → k < n → world_if (nat_le n k) w ≡ []
world-none n k w l = ap (λ b. world_if b w) (lt-leb n k l)

-- the first result
pub worlds-first : (abi : Abi) (ps : List InterfaceFuncParam) (p : InterfaceFuncParam) → slice_get ps 0 ≡ Some p → worlds_of abi (types_of ps) ≡ worlds_of abi (tree_of p.tref ∷ [])
worlds-first abi [] p e = absurd (clash e)
  where
    clash : None ≡ Some p → ⊥
    clash e = cc
worlds-first abi (q ∷ ps) p e = ap (λ q. worlds_of abi (tree_of q.tref ∷ [])) (same e)
  where
    same : Some q ≡ Some p → q ≡ p
    same e = cc

pub worlds-none : (abi : Abi) (ps : List InterfaceFuncParam) → slice_get ps 0 ≡ None → worlds_of abi (types_of ps) ≡ unknown_world abi None ∷ []
worlds-none abi [] e = refl
worlds-none abi (q ∷ ps) e = absurd (clash e)
  where
    clash : Some q ≡ None → ⊥
    clash e = cc

pub ruleset worlds_rules = (word_rules, from_rules, worlds-append, no-world, cases-long, world-more, world-none, worlds-first, worlds-none)
