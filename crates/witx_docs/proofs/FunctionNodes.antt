-- One more parameter, and one more import or function of a module.
use Rattle.std.specs.Prelude.{◌≡◌, ℕ, ◌+◌, ◌≤◌, ◌<◌, List, [], ◌∷◌, ◌++◌, Bool, true, false, length, drop, map}
use Rattle.std.proofs.Common.{get_or, sym, ◌∙◌, append_assoc, append-nil}
use Rattle.std.proofs.lemmas.List.{drop_more, drop_all}
use Rattle.witx_ast.specs.declared.function.InterfaceFuncParam.{InterfaceFuncParam}
use Rattle.witx_ast.specs.declared.module.ModuleDefinition.{ModuleDefinition}
use Rattle.witx_ast.specs.TypeNames.{type_text}
use Rattle.witx_ast.specs.Views.{tree_of}
use Rattle.witx_ast.specs.Functions.{param_field}
use Rattle.witx_ast.specs.Items.{item_tree}
use Rattle.witx_docs.specs.Parts.{inputs_of, outputs_of}
use Rattle.witx_markdown.specs.declared.named_layouts.NamedLayouts.{NamedLayouts}
use Rattle.witx_markdown.specs.NamesKnown.{NamesKnown, InParams, InItem, InItems}
use Rattle.witx_docs.specs.LaidOut.{too_large, laid_out, params_laid_out, items_laid_out, item_laid_out}
use Rattle.witx_docs.proofs.EachSteps.{one-large, all-fit, this-holds}
use Rattle.witx_docs.proofs.Grown.{grown_rules}
use Rattle.witx_docs.proofs.Judging.{judging_rules}

pub param-large : (all : Bool) (ps : List InterfaceFuncParam) (i : ℕ) (x : InterfaceFuncParam) → i < length ps → x ≡ get_or ps i x
    → too_large (params_laid_out (map param_field (drop i ps))) ≡ all → too_large (laid_out (tree_of x.tref)) ≡ true → all ≡ true
param-large all ps i x l q e h = one-large (λ p. laid_out p.tree) param_field all ps i x l q e h

pub params-fit : (all : Bool) (ps : List InterfaceFuncParam) (i : ℕ) → length ps ≤ i → too_large (params_laid_out (map param_field (drop i ps))) ≡ all → all ≡ false
params-fit all ps i l e = all-fit (λ p. laid_out p.tree) param_field all ps i l e

pub param-in : (names : NamedLayouts) (ps : List InterfaceFuncParam) (i : ℕ) (x : InterfaceFuncParam) → i < length ps → x ≡ get_or ps i x
    → InParams (NamesKnown names) (map param_field (drop i ps)) → NamesKnown names (tree_of x.tref)
param-in names ps i x l q h = this-holds (λ p. NamesKnown names p.tree) param_field ps i x l q h

pub ruleset param_rules = (param-in, param-large, params-fit)

-- a function's own line
pub next-in : (ps : List InterfaceFuncParam) (i : ℕ) (x : InterfaceFuncParam) (before all : List (List ℕ × List ℕ)) → i < length ps → x ≡ get_or ps i x
    → before ++ inputs_of (map param_field (drop i ps)) ≡ all → (before ++ (x.name, type_text (tree_of x.tref)) ∷ []) ++ inputs_of (map param_field (drop (i + 1) ps)) ≡ all
next-in ps i x before all l q e =
    append_assoc before ((x.name, type_text (tree_of x.tref)) ∷ []) (inputs_of (map param_field (drop (i + 1) ps))) ∙ (rw (drop_more ps i x l, ← q) at e)

pub all-in : (ps : List InterfaceFuncParam) (i : ℕ) (before all : List (List ℕ × List ℕ)) → length ps ≤ i → before ++ inputs_of (map param_field (drop i ps)) ≡ all → before ≡ all
all-in ps i before all l e = sym (append-nil before) ∙ (rw (drop_all i ps l) at e)

pub next-out : (ps : List InterfaceFuncParam) (i : ℕ) (x : InterfaceFuncParam) (before all : List (List ℕ)) → i < length ps → x ≡ get_or ps i x
    → before ++ outputs_of (map param_field (drop i ps)) ≡ all → (before ++ type_text (tree_of x.tref) ∷ []) ++ outputs_of (map param_field (drop (i + 1) ps)) ≡ all
next-out ps i x before all l q e =
    append_assoc before (type_text (tree_of x.tref) ∷ []) (outputs_of (map param_field (drop (i + 1) ps))) ∙ (rw (drop_more ps i x l, ← q) at e)

pub all-out : (ps : List InterfaceFuncParam) (i : ℕ) (before all : List (List ℕ)) → length ps ≤ i → before ++ outputs_of (map param_field (drop i ps)) ≡ all → before ≡ all
all-out ps i before all l e = sym (append-nil before) ∙ (rw (drop_all i ps l) at e)

pub ruleset signature_rules = (next-in, all-in, next-out, all-out)

-- imports and functions
pub item-large : (all : Bool) (ds : List ModuleDefinition) (i : ℕ) (d : ModuleDefinition) → i < length ds → d ≡ get_or ds i d
    → too_large (items_laid_out (map item_tree (drop i ds))) ≡ all → too_large (item_laid_out (item_tree d)) ≡ true → all ≡ true
item-large all ds i d l q e h = one-large item_laid_out item_tree all ds i d l q e h

pub items-fit : (all : Bool) (ds : List ModuleDefinition) (i : ℕ) → length ds ≤ i → too_large (items_laid_out (map item_tree (drop i ds))) ≡ all → all ≡ false
items-fit all ds i l e = all-fit item_laid_out item_tree all ds i l e

pub item-in : (names : NamedLayouts) (ds : List ModuleDefinition) (i : ℕ) (d : ModuleDefinition) → i < length ds → d ≡ get_or ds i d
    → InItems (NamesKnown names) (map item_tree (drop i ds)) → InItem (NamesKnown names) (item_tree d)
item-in names ds i d l q h = this-holds (InItem (NamesKnown names)) item_tree ds i d l q h

pub ruleset item_rules = (item-in, grown_rules, judging_rules, item-large, items-fit)
