-- Which case a result has, and the name of what it carries.
use Rattle.std.proofs.Common.{◌≡◌, ℕ, zero, suc, Bool, true, false, refl, ap, ◌∙◌, Option, Some, None, option_map}
use Rattle.std.specs.declared.alloc.Global.{Global}
use Rattle.std.specs.declared.boxed.Box.{Box}
use Rattle.witx_ast.specs.Tree.{Tree}
use Rattle.witx_ast.specs.Plain.{plain}
use Rattle.witx_ast.specs.Values as plain_value
use Rattle.witx_ast.specs.ValueTests.{is_value}
use Rattle.witx_ast.proofs.Trees.{tree_rules}
use Rattle.witx_machine.specs.Functions.{name_of}
use Rattle.witx_machine.specs.Words.{when}
use Rattle.witx_machine.specs.Cells as cells
use Rattle.witx_bytes.specs.Seen.{seen, seen_in}
use Rattle.witx_bytes.specs.declared.value.Value.{Value}
use Rattle.witx_bytes.specs.declared.value.Value.TheVariants as value
use Rattle.witx_bytes.proofs.Seen.{seen_rules, seen-Bare, seen-With}
use Rattle.witx_run.proofs.SideLemmas.{name-value}
use Rattle.witx_invoke.specs.Picking.{value_case_picked}

-- a case of a result, with its payload or without
pub case-picked : (ok err : Option Tree) (i : ℕ) (p : Option (Box Value Global)) → cells.case_picked ok err (seen (value.Case i p)) ≡ value_case_picked ok err i (option_map seen_in p)
case-picked ok err i None = ap (cells.case_picked ok err) (seen-Bare i) ∙ bare i
  where
    bare : (i : ℕ) → cells.case_picked ok err (plain_value.bare_case i) ≡ value_case_picked ok err i None
    bare zero = refl
    bare (suc zero) = refl
    bare (suc (suc i)) = refl
case-picked ok err i (Some v) = ap (cells.case_picked ok err) (seen-With i v) ∙ with i (seen v.value)
  where
    with : (i : ℕ) (p : plain_value.Value) → cells.case_picked ok err (plain_value.case_with i p) ≡ value_case_picked ok err i (Some p)
    with zero p = refl
    with (suc zero) p = refl
    with (suc (suc i)) p = refl

-- the payload is one of the type, or none
pub picked-value : (e : Bool) (t : Tree) (p : plain_value.Value) (b : Bool) → is_value (plain t) p ≡ b → cells.picked e (Some t) (Some p) ≡ when b (Some (e, Some (p, name_of t)))
picked-value e t p true h = ap (λ b. option_map (λ x. (e, x)) (when b (Some (Some (p, name_of t))))) h
picked-value e t p false h = ap (λ b. option_map (λ x. (e, x)) (when b (Some (Some (p, name_of t))))) h

pub ruleset pick_rules = (seen_rules, tree_rules, name-value, case-picked)
