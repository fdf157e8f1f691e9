-- One more definition of a document: a typename, a module, a constant.
use Rattle.std.specs.Prelude.{◌≡◌, ℕ, ◌+◌, ◌≤◌, ◌<◌, List, [], ◌∷◌, Bool, true, false, length, drop, map}
use Rattle.std.proofs.Common.{arith, get_or, refl, sym, subst, Bor}
use Rattle.std.proofs.lemmas.List.{drop_more}
use Rattle.witx_ast.specs.declared.definition.Constant.{Constant}
use Rattle.witx_ast.specs.declared.definition.Definition.{Definition}
use Rattle.witx_ast.specs.declared.definition.Definition.TheVariants as definition
use Rattle.std.specs.declared.alloc.Global.{Global}
use Rattle.std.specs.declared.rc.Rc.{Rc}
use Rattle.witx_ast.specs.declared.types.NamedType.{NamedType}
use Rattle.witx_ast.specs.Views.{tree_of}
use Rattle.witx_ast.specs.Tree.{Field}
use Rattle.witx_ast.specs.Functions.{FunctionTree}
use Rattle.witx_ast.specs.Items.{ItemTree, import_of, func_of}
use Rattle.witx_ast.specs.Definitions.{DefinitionTree, typename_of, module_of, constant_of, definition_tree}
use Rattle.witx_markdown.specs.declared.named_layouts.NamedLayouts.{NamedLayouts}
use Rattle.witx_markdown.specs.declared.named_layouts.NamedLayouts.TheVariants as layouts
use Rattle.witx_markdown.specs.NamesKnown.{NamesKnown, InParams, InFunction, InItem, InItems, InDefinition, InDefinitions}
use Rattle.witx_ast.specs.Plain.{plain}
use Rattle.witx_layout.specs.Numbers.{size_of}
use Rattle.witx_markdown.specs.declared.heading.MdHeading.{MdHeading}
use Rattle.witx_markdown.specs.declared.branch.Branch.{Branch}
use Rattle.witx_markdown.specs.Forests.{no_nodes, sprouted}
use Rattle.witx_markdown.specs.Constants.{constants_in}
use Rattle.witx_markdown.proofs.ConstantTypes.{no-constant}
use Rattle.witx_docs.specs.Parts.{constants_of, constants_part, typename_node, typename_nodes, typename_with}
use Rattle.witx_docs.specs.LaidOut.{too_large, typenames_laid_out, typename_laid_out, modules_laid_out, module_laid_out, laid_out}
use Rattle.witx_docs.proofs.EachSteps.{next-each, next-fit, one-large, all-fit, this-holds, left-hold}
use Rattle.witx_docs.proofs.Grown.{grown_rules, sprouted-none}
use Rattle.witx_docs.proofs.Judging.{judging_rules}

pub next-typename : (h : MdHeading) (cs : List Constant) (b : Branch) (p : ℕ) (all : Branch) (ds : List Definition) (i : ℕ) (d : Definition) → i < length ds → d ≡ get_or ds i d
    → sprouted b p (typename_nodes h cs (map definition_tree (drop i ds))) ≡ all
    → sprouted (sprouted b p (typename_node h cs (definition_tree d))) p (typename_nodes h cs (map definition_tree (drop (i + 1) ds))) ≡ all
next-typename h cs b p all ds i d l q e = next-each (typename_node h cs) definition_tree b p all ds i d l q e

pub typename-fits : (all : Bool) (ds : List Definition) (i : ℕ) (d : Definition) → i < length ds → d ≡ get_or ds i d
    → too_large (typenames_laid_out (map definition_tree (drop i ds))) ≡ all → too_large (typename_laid_out (definition_tree d)) ≡ false
    → too_large (typenames_laid_out (map definition_tree (drop (i + 1) ds))) ≡ all
typename-fits all ds i d l q e h = next-fit typename_laid_out definition_tree all ds i d l q e h

pub typename-large : (all : Bool) (ds : List Definition) (i : ℕ) (d : Definition) → i < length ds → d ≡ get_or ds i d
    → too_large (typenames_laid_out (map definition_tree (drop i ds))) ≡ all → too_large (typename_laid_out (definition_tree d)) ≡ true → all ≡ true
typename-large all ds i d l q e h = one-large typename_laid_out definition_tree all ds i d l q e h

-- a typename, with its own constants
pub this-typename : (h : MdHeading) (cs own : List Constant) (b : Branch) (p : ℕ) (all : Branch) (ds : List Definition) (i : ℕ) (d : Definition) (n : Rc NamedType Global)
    → i < length ds → d ≡ get_or ds i d → d ≡ definition.Typename n → own ≡ constants_of n.value.name cs
    → sprouted b p (typename_nodes h cs (map definition_tree (drop i ds))) ≡ all
    → sprouted (sprouted b p (typename_with h own n.value.name (tree_of n.value.tref) n.value.docs)) p (typename_nodes h cs (map definition_tree (drop (i + 1) ds))) ≡ all
this-typename h cs own b p all ds i d n l q k o e =
    rw o (subst (λ x. sprouted (sprouted b p (typename_node h cs (definition_tree x))) p (typename_nodes h cs (map definition_tree (drop (i + 1) ds))) ≡ all) k (next-typename h cs b p all ds i d l q e))

pub this-fits : (all : Bool) (ds : List Definition) (i : ℕ) (d : Definition) (n : Rc NamedType Global) → i < length ds → d ≡ get_or ds i d → d ≡ definition.Typename n
    → too_large (typenames_laid_out (map definition_tree (drop i ds))) ≡ all → too_large (size_of (plain (tree_of n.value.tref)) ∷ laid_out (tree_of n.value.tref)) ≡ false
    → too_large (typenames_laid_out (map definition_tree (drop (i + 1) ds))) ≡ all
this-fits all ds i d n l q k e h = typename-fits all ds i d l q e (rw k h)

pub typenames-fit : (all : Bool) (ds : List Definition) (i : ℕ) → length ds ≤ i → too_large (typenames_laid_out (map definition_tree (drop i ds))) ≡ all → all ≡ false
typenames-fit all ds i l e = all-fit typename_laid_out definition_tree all ds i l e

pub module-large : (all : Bool) (ds : List Definition) (i : ℕ) (d : Definition) → i < length ds → d ≡ get_or ds i d
    → too_large (modules_laid_out (map definition_tree (drop i ds))) ≡ all → too_large (module_laid_out (definition_tree d)) ≡ true → all ≡ true
module-large all ds i d l q e h = one-large module_laid_out definition_tree all ds i d l q e h

pub modules-fit : (all : Bool) (ds : List Definition) (i : ℕ) → length ds ≤ i → too_large (modules_laid_out (map definition_tree (drop i ds))) ≡ all → all ≡ false
modules-fit all ds i l e = all-fit module_laid_out definition_tree all ds i l e

-- definitions that are no typenames add nothing
no-typename : (h : MdHeading) (cs : List Constant) (d : Definition) → ((n : Rc NamedType Global) → d ≡ definition.Typename n → ⊥) → typename_node h cs (definition_tree d) ≡ no_nodes
no-typename h cs (definition.Typename n) k = absurd (k n refl)
no-typename h cs (definition.Module m) k = refl
no-typename h cs (definition.Constant c) k = refl

no-numbers : (d : Definition) → ((n : Rc NamedType Global) → d ≡ definition.Typename n → ⊥) → typename_laid_out (definition_tree d) ≡ []
no-numbers (definition.Typename n) k = absurd (k n refl)
no-numbers (definition.Module m) k = refl
no-numbers (definition.Constant c) k = refl

pub other-nodes : (h : MdHeading) (cs : List Constant) (b : Branch) (p : ℕ) (all : Branch) (ds : List Definition) (i : ℕ) (d : Definition) → i < length ds → d ≡ get_or ds i d
    → ((n : Rc NamedType Global) → d ≡ definition.Typename n → ⊥) → sprouted b p (typename_nodes h cs (map definition_tree (drop i ds))) ≡ all
    → sprouted b p (typename_nodes h cs (map definition_tree (drop (i + 1) ds))) ≡ all
other-nodes h cs b p all ds i d l q k e = rw (drop_more ds i d l, ← q, no-typename h cs d k) at e

pub other-numbers : (all : Bool) (ds : List Definition) (i : ℕ) (d : Definition) → i < length ds → d ≡ get_or ds i d → ((n : Rc NamedType Global) → d ≡ definition.Typename n → ⊥)
    → too_large (typenames_laid_out (map definition_tree (drop i ds))) ≡ all → too_large (typenames_laid_out (map definition_tree (drop (i + 1) ds))) ≡ all
other-numbers all ds i d l q k e = rw (drop_more ds i d l, ← q, no-numbers d k) at e

-- what is known of the definitions from one on
abbrev pub LeftKnown : NamedLayouts → List Definition → ℕ → Type 0
LeftKnown names ds i = InDefinitions (NamesKnown names) (map definition_tree (drop i ds))

pub definition-in : (names : NamedLayouts) (ds : List Definition) (i : ℕ) (d : Definition) → i < length ds → d ≡ get_or ds i d
    → LeftKnown names ds i → InDefinition (NamesKnown names) (definition_tree d)
definition-in names ds i d l p h = this-holds (InDefinition (NamesKnown names)) definition_tree ds i d l p h

pub typename-in : (names : NamedLayouts) (ds : List Definition) (i : ℕ) (d : Definition) (n : Rc NamedType Global) → i < length ds → d ≡ get_or ds i d → d ≡ definition.Typename n
    → LeftKnown names ds i → NamesKnown names (tree_of n.value.tref)
typename-in names ds i d n l p e h = subst (λ x. InDefinition (NamesKnown names) (definition_tree x)) e (definition-in names ds i d l p h)

pub definitions-left : (names : NamedLayouts) (ds : List Definition) (i : ℕ) (d : Definition) → i < length ds → d ≡ get_or ds i d → LeftKnown names ds i → LeftKnown names ds (i + 1)
definitions-left names ds i d l p h = left-hold (InDefinition (NamesKnown names)) definition_tree ds i d l p h

-- where names are looked through nothing has to be known
params-through : (ps : List Field) → InParams (NamesKnown layouts.LookedThrough) ps
params-through [] = tt
params-through (p ∷ ps) = (tt, params-through ps)

item-through : (i : ItemTree) → InItem (NamesKnown layouts.LookedThrough) i
item-through (import_of i) = tt
item-through (func_of f) = (params-through f.params, params-through f.results)

pub function-through : (f : FunctionTree) → InFunction (NamesKnown layouts.LookedThrough) f
function-through f = (params-through f.params, params-through f.results)

pub items-through : (items : List ItemTree) → InItems (NamesKnown layouts.LookedThrough) items
items-through [] = tt
items-through (i ∷ items) = (item-through i, items-through items)

definition-through : (d : DefinitionTree) → InDefinition (NamesKnown layouts.LookedThrough) d
definition-through (typename_of n t docs) = tt
definition-through (module_of m) = items-through m.items
definition-through (constant_of c) = tt

pub looked-through : (ds : List DefinitionTree) → InDefinitions (NamesKnown layouts.LookedThrough) ds
looked-through [] = tt
looked-through (d ∷ ds) = (definition-through d, looked-through ds)

pub ruleset through_rules = (function-through, items-through, looked-through)

-- no constants have no section
pub empty-part : (b : Branch) (p : ℕ) (h : MdHeading) (cs : List (Bor Constant)) → cs ≡ [] → b ≡ sprouted b p (constants_part h (map (λ c. c.now) cs))
empty-part b p h cs e = rw e (sym (sprouted-none b p))

pub nothing-part : (b : Branch) (p : ℕ) (h : MdHeading) (cs : List (Bor Constant)) → length cs ≡ 0 → b ≡ sprouted b p (constants_part h (map (λ c. c.now) cs))
nothing-part b p h [] e = sym (sprouted-none b p)
nothing-part b p h (c ∷ cs) e = absurd (omega (arith, e))

pub ruleset definition_rules = (typename-in, definition-in, definitions-left, empty-part, nothing-part, grown_rules, judging_rules, next-typename, typename-fits, typename-large, typenames-fit, module-large, modules-fit)

-- constants
pub other-definition : (ds : List Definition) (i : ℕ) (d : Definition) → i < length ds → d ≡ get_or ds i d → ((c : Constant) → d ≡ definition.Constant c → ⊥)
    → constants_in (map definition_tree (drop i ds)) ≡ constants_in (map definition_tree (drop (i + 1) ds))
other-definition ds i d l p h = rw (drop_more ds i d l, ← p, no-constant d h) refl
