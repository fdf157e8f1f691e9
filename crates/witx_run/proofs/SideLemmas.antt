-- The arguments as the caller has them.
use Rattle.std.proofs.Common.{◌≡◌, true, false, refl, sym, ap, ◌∙◌, ◌⊎◌, inl, inr, List, [], ◌∷◌, ◌++◌, append-nil, map, Some, None}
use Rattle.std.specs.declared.alloc.Global.{Global}
use Rattle.std.specs.declared.rc.Rc.{Rc}
use Rattle.witx_ast.specs.declared.function.InterfaceFuncParam.{InterfaceFuncParam}
use Rattle.witx_ast.specs.declared.types.Datatype.{Datatype}
use Rattle.witx_ast.specs.declared.types.NamedType.{NamedType}
use Rattle.witx_ast.specs.declared.types.TypeRef.TheVariants as tref
use Rattle.witx_ast.specs.Tree.{Tree}
use Rattle.witx_ast.specs.Words.{is_named}
use Rattle.witx_ast.specs.Views.{tree_of, datatype_tree, named_tree}
use Rattle.witx_ast.proofs.Trees.{tree-Name, tree-NamedType, tree-Value}
use Rattle.witx_ast.proofs.TreeKinds.{named-datatype}
use Rattle.witx_machine.specs.Functions.{name_of}
use Rattle.witx_machine.specs.Machine.{Item}
use Rattle.witx_machine.specs.Run.{argument_items}
use Rattle.witx_instructions.specs.Views.{param_types}
use Rattle.witx_run.proofs.StackLemmas.{stack_rules}

no-name : (t : Tree) → is_named t ≡ false → name_of t ≡ None
no-name (Tree.named n t d) e = absurd (clash e)
  where
    clash : true ≡ false → ⊥
    clash e = cc
no-name t e = refl

pub name-value : (d : Rc Datatype Global) → name_of (tree_of (tref.Value d)) ≡ None
name-value d = ap name_of (tree-Value d) ∙ no-name (datatype_tree d.value) (named-datatype d.value)

pub name-named : (n : Rc NamedType Global) → name_of (tree_of (tref.Name n)) ≡ Some (named_tree n.value)
name-named n = ap name_of (tree-Name n ∙ tree-NamedType n.value) ∙ sym (ap Some (tree-NamedType n.value))

-- no parameter or no argument is left
module _ {v V W : Type 0} (value : v → V) where
  pub arguments-end : (xs whole : List (Item V W)) (ps : List InterfaceFuncParam) (vs : List v) → (ps ≡ []) ⊎ (vs ≡ []) → xs ++ argument_items (param_types ps) (map value vs) ≡ whole → xs ≡ whole
  arguments-end xs whole ps vs (inl e) h = sym (append-nil xs) ∙ sym (ap (λ ps. xs ++ argument_items (param_types ps) (map value vs)) e) ∙ h
  arguments-end xs whole [] vs (inr e) h = sym (append-nil xs) ∙ h
  arguments-end xs whole (p ∷ ps) vs (inr e) h = sym (append-nil xs) ∙ sym (ap (λ vs. xs ++ argument_items (param_types (p ∷ ps)) (map value vs)) e) ∙ h

pub ruleset side_rules = (stack_rules, name-value, name-named)
